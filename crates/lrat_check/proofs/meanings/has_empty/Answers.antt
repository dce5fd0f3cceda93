use Rattle.std.proofs.Common.{◌≡◌, ℕ, ◌<◌, [], length, get_or, refl, sym, ◌∙◌, ap, inl, inr, arith, Vec, true≢false}
use Rattle.std.specs.Global.{Global}
use Rattle.std.proofs.lemmas.Bool.{cases_eq}
use Rattle.std.proofs.lemmas.List.{get_or-map, length-map}
use Rattle.lrat_check.specs.Ending.{literals_in}
use Rattle.lrat_check.proofs.Meant.{vec_empty, vec_some}
use Rattle.lrat_check.proofs.meanings.has_empty.Goals as goal

pub returns-then-is_empty : goal.returns-then-is_empty
returns-then-is_empty c =
    let at : get_or (literals_in c.args.given.now) c.loop-clause.clause-index [] ≡ [] =
    get_or-map (λ (v : Vec ℕ Global). v.items) c.args.given.now c.loop-clause.clause-index c.clause-item.result [] c.loop-clause-test.true
    ∙ ap (λ (v : Vec ℕ Global). v.items) (sym c.clause-item.is)
    ∙ vec_empty c.is_empty.result c.clause-item.result c.is_empty.ensures c.if-is_empty.true in
    (λ t. (c.loop-clause.clause-index, [], rw length-map c.loop-clause-test.true, at, refl), λ h. refl)

pub loop-clause-preserved : goal.loop-clause-preserved
loop-clause-preserved c = λ k d b z. elim (cases_eq k c.loop-clause.clause-index) [
  | inl e ↦
      let at : get_or (literals_in c.args.given.now) c.loop-clause.clause-index d ≡ c.clause-item.result.items =
      get_or-map (λ (v : Vec ℕ Global). v.items) c.args.given.now c.loop-clause.clause-index c.clause-item.result d c.loop-clause-test.true
      ∙ ap (λ (v : Vec ℕ Global). v.items) (sym c.clause-item.is) in
      vec_some c.is_empty.result c.clause-item.result c.is_empty.ensures c.if-is_empty.false (sym at ∙ sym (ap (λ (k : ℕ). get_or (literals_in c.args.given.now) k d) e) ∙ z)
  | inr n ↦ c.loop-clause.invariant k d (omega arith) z
]

pub returns : goal.returns
returns c = (
  λ t. absurd (true≢false (sym t)),
  λ h. absurd (c.loop-clause.invariant h.0 h.1 (let b : h.0 < length c.args.given.now = omega (arith, h.2, length-map c.args.given.now (λ (v : Vec ℕ Global). v.items)) in omega arith) (h.3 ∙ h.4)),
)
