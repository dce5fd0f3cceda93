use Rattle.std.proofs.Common.{◌≡◌, ℕ, ℤ, ◌+◌, ◌<◌, List, [], ◌∷◌, ◌++◌, length, get_or, map, take, sym, ◌∙◌, ap, arith, subst, Option}
use Rattle.std.specs.Prelude.{MatchOption, unsigned_abs}
use Rattle.std.proofs.lemmas.List.{map_more}
use Rattle.lrat_check.specs.Shown.{MarksNamed}
use Rattle.lrat_check.proofs.Marking.{MarksNamed-found, MarksNamed-missed}
use Rattle.lrat_check.proofs.trimming.mark_named.Goals as goal
use Rattle.lrat_check.proofs.trimming.mark_named.Goals.{in-Some, in_default}

pub loop-hint-preserved : goal.loop-hint-preserved
loop-hint-preserved c = λ p.
    let hints : List ℤ = take c.args.shown.now.hints c.deref.result.now in
    let i : ℕ = c.loop-hint.hint-index in
    let names : List ℕ = map unsigned_abs (take i hints) in
    let e : map unsigned_abs (take (i + 1) hints) ≡ names ++ c.id.result ∷ [] =
    map_more unsigned_abs hints i c.hint-item.result c.loop-hint-test.true
    ∙ ap (λ (z : ℤ). names ++ unsigned_abs z ∷ []) (sym c.hint-item.is)
    ∙ ap (λ (q : ℕ). names ++ q ∷ []) (sym c.id.ensures) in
    subst (λ (names : List ℕ). MarksNamed c.args.ids.now names c.args.marks.now c.match-place_of.marks) (sym e) (elim c.match-place_of.branch [
      | in-Some w ↦
          let at = subst (λ (r : Option ℕ). MatchOption r ((k : ℕ) → k < length c.args.ids.now → get_or c.args.ids.now k 0 ≡ c.id.result → ⊥) (λ place. (place < length c.args.ids.now) × (get_or c.args.ids.now place 0 ≡ c.id.result))) w.in-Some.is (c.place_of.ensures.place p) in
          rw w.marks-is (MarksNamed-found c.args.ids.now names c.id.result c.args.marks.now c.loop-hint.marks (c.loop-hint.invariant p) w.in-Some.place p at.0 (let same = c.loop-hint.auto.marks ∙ c.requires in let b = at.0 in omega arith) at.1)
      | in_default w ↦
          let none = subst (λ (r : Option ℕ). MatchOption r ((k : ℕ) → k < length c.args.ids.now → get_or c.args.ids.now k 0 ≡ c.id.result → ⊥) (λ place. (place < length c.args.ids.now) × (get_or c.args.ids.now place 0 ≡ c.id.result))) w.in_default.is (c.place_of.ensures.place p) in
          rw w.marks-is (MarksNamed-missed c.args.ids.now names c.id.result c.args.marks.now c.loop-hint.marks (c.loop-hint.invariant p) none)
    ])
