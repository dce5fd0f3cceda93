use Rattle.std.proofs.Common.{◌≡◌, ◌∙◌, ◌/◌, inl, inr, List, length, Some, arith, ap, sym, subst}
use Rattle.std.specs.Prelude.{slice_get}
use Rattle.std.proofs.lemmas.Option.{slice_get_within, get_or_from_slice_get}
use Rattle.std.proofs.lemmas.Bool.{cases_lt}
use Rattle.thumb_instr.specs.declared.kind.Kind.{Kind}
use Rattle.thumb_instr.specs.declared.kind.Kind.TheVariants as kind
use Rattle.thumb_table.specs.Kinds.{kinds_at}
use Rattle.thumb_table.specs.Decoding.{IsNotOf}
use Rattle.thumb_table.proofs.Codes.{none_encodes, one_instr}
use Rattle.thumb_table.proofs.code.decode.Goals as goal

pub returns-clause-none : goal.returns-clause-none
returns-clause-none c =
    none_encodes _ _ (omega arith) (omega arith)
    (λ j k e. c.loop-kind.invariant j k (let within = slice_get_within (kinds_at (c.args.first / 4096)) j k e in let whole = ap length c.kinds_at-kind-items.ensures in omega arith) e)

pub returns-clause-exact : goal.returns-clause-exact
returns-clause-exact c = λ i e. absurd (none_encodes _ _ (omega arith) (omega arith) (λ j k e. c.loop-kind.invariant j k (let within = slice_get_within (kinds_at (c.args.first / 4096)) j k e in let whole = ap length c.kinds_at-kind-items.ensures in omega arith) e) i e)

pub returns-in-Some-clause-exact : goal.returns-in-Some-clause-exact
returns-in-Some-clause-exact c = λ i e. ap Some (one_instr _ i c.args.first c.args.second (omega arith) (omega arith) c.in-Some.ensures.some e)

pub loop-kind-preserved : goal.loop-kind-preserved
loop-kind-preserved c = λ j k h e. elim (cases_lt j c.loop-kind.kind-index) [
  | inl l ↦ c.loop-kind.invariant j k l e
  | inr l ↦ (let at : j ≡ c.loop-kind.kind-index = omega arith in let read : slice_get c.kinds_at-kind-items.result.now c.loop-kind.kind-index ≡ Some k = ap (λ (xs : List Kind). slice_get xs c.loop-kind.kind-index) c.kinds_at-kind-items.ensures ∙ (ap (slice_get (kinds_at (c.args.first / 4096))) (sym at) ∙ e) in
      subst (λ (x : Kind). IsNotOf x c.args.first c.args.second) (get_or_from_slice_get c.kinds_at-kind-items.result.now c.loop-kind.kind-index k kind.Mov read) c.in_default.ensures.none)
]
