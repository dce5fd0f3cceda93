use Rattle.std.proofs.Common.{◌≡◌, ◌∙◌, ℕ, List, Option, false, subst, sym, ap, inl, inr}
use Rattle.std.specs.Prelude.{slice_get}
use Rattle.std.proofs.lemmas.Bool.{cases_Bool}
use Rattle.thumb_instr.specs.Items.{one_of}
use Rattle.kept_places.specs.Marks.{marked}
use Rattle.code_flow.specs.declared.way.Ways.{Ways}
use Rattle.liveness.specs.Ahead.{IsAhead}
use Rattle.liveness.specs.Within.{IsWired}
use Rattle.liveness.proofs.Shrinkings.{all_between, ahead_but}
use Rattle.liveness.proofs.kept_live.exchange.Goals as goal

pub returns-clause-ahead : goal.returns-clause-ahead
returns-clause-ahead c = λ wired ahead.
    let k = c.args.kept.now in
    let at : (q : ℕ) → marked c.add_places.new.due q ≡ false → slice_get c.put_in.new.ways.items q ≡ slice_get k.ways.items q = λ q off. elim (cases_Bool (one_of q c.args.places.now)) [
      | inr n ↦ c.put_in.ensures.others q n
      | inl h ↦ absurd (let b = all_between c.args.first c.args.end q c.args.places.now c.requires.ascending c.requires.within h in let m = c.add_places.ensures.these q b.0 b.1 in cc)
    ] in
    let is = c.as_slice-4.ensures.value in
    subst (λ (ws : List (Option Ways)). IsAhead ws c.renew.new.forward.sets.items) is
    (c.renew.ensures.ahead (subst (λ (ws : List (Option Ways)). IsWired ws k.graph.callers) (sym is) wired) (ahead_but k.ways.items c.as_slice-4.result.now k.forward.sets.items c.add_places.new.due (λ q off. ap (λ (ws : List (Option Ways)). slice_get ws q) is ∙ at q off) ahead))
