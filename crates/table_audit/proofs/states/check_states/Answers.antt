use Rattle.std.proofs.Common.{inr, refl, sym, ◌∙◌, rules, ◌<◌, length}
use Rattle.std.proofs.lemmas.Bool.{false≢true}
use Rattle.rule_table.specs.Views.{table_of}
use Rattle.table_audit.specs.Acceptance.{StateTest}
use Rattle.lrat_check.proofs.Turns.{turn_step, turn_fault}
use Rattle.table_audit.proofs.Seeds.{seen_at}
use Rattle.table_audit.proofs.states.check_states.Goals as goal

pub loop-place-preserved : goal.loop-place-preserved
loop-place-preserved c =
    let low : c.loop-place.place < length c.as_slice-state-items.result.now = search rules in
    let told = c.is_there.ensures.0 c.if-not-is_there.false in
    let test = rw c.as_slice.ensures at told in
    turn_step (StateTest (table_of c.args.table.now)) _ _ c.loop-place.place _ _ (seen_at _ _ _ low) c.loop-place.invariant test

pub returns-then-not-is_there : goal.returns-then-not-is_there
returns-then-not-is_there c =
    let low : c.loop-place.place < length c.as_slice-state-items.result.now = search rules in
    let told = c.is_there.ensures.1 in
    let test = rw c.as_slice.ensures at told in
    inr (turn_fault (StateTest (table_of c.args.table.now)) _ _ c.loop-place.place _ _ _ (seen_at _ _ _ low) c.loop-place.invariant (refl, λ h. false≢true (sym c.if-not-is_there.true ∙ test h)))
