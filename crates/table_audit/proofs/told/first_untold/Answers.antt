use Rattle.std.proofs.Common.{◌≡◌, ◌+◌, ◌*◌, ◌<◌, ◌≤◌, ◌∙◌, Some, get_or, length, sum_by, map, sym, ap, subst, arith}
use Rattle.std.proofs.lemmas.Bool.{false≢true}
use Rattle.std.proofs.lemmas.List.{length-map}
use Rattle.std.proofs.lemmas.Option.{slice_get-get_or}
use Rattle.window_exec.specs.State.{seen}
use Rattle.rule_table.specs.Views.{header_in, rule_of, table_of}
use Rattle.table_audit.specs.Shorter.{alphabet_registers, weight_in, IsBelow, below}
use Rattle.table_audit.specs.Acceptance.{IsUntold}
use Rattle.table_audit.specs.Naming.{told_cost}
use Rattle.table_audit.proofs.Below.{below_is, run_within, told_most}
use Rattle.table_audit.proofs.Counting.{entries_next, entries_end}
use Rattle.table_audit.proofs.Openings.{as_many}
use Rattle.table_audit.proofs.Settling.{SettledBefore, cover_there, cover_at, settled_heavy, settled_told, settled_first, settled_verdict}
use Rattle.table_audit.proofs.Walking.{numbered_over}
use Rattle.table_audit.proofs.told.first_untold.Goals as goal
use Rattle.table_audit.proofs.told.first_untold.Goals.{then-weight-limit+then-is_untold, else-weight-limit, else-weight-limit-via-then-weight-limit+else-is_untold, else-weight-limit-via-else-weight-limit}
use Rattle.rule_model.proofs.Table.{over_wider}

pub unreachable-requires : goal.unreachable-requires
unreachable-requires g c =
    cover_there (table_of c.args.table.now) (rule_of c.args.entry.now) c.args.numbers.now c.loop-number.number-index c.loop-number-test.true c.requires.numbers c.args.outcomes.now.alphabet c.requires.alphabet c.sequence_at.result c.sequence_at.ensures c.in_default.is

pub is_untold-requires-clause-over : goal.is_untold-requires-clause-over
is_untold-requires-clause-over g c =
    let k = alphabet_registers (header_in c.args.table.now) c.args.entry.now.left in
    let at = cover_at (table_of c.args.table.now) (rule_of c.args.entry.now) c.args.numbers.now c.loop-number.number-index c.loop-number-test.true c.requires.numbers c.args.outcomes.now.alphabet c.requires.alphabet c.sequence_at.result c.sequence_at.ensures c.in-Some.seq c.in-Some.is in
    over_wider k 4 c.in-Some.seq (omega arith) (numbered_over k c.args.table.now.pool _ c.in-Some.seq (omega arith) at.0)

pub loop-number-preserved : goal.loop-number-preserved
loop-number-preserved g c =
    let t = table_of c.args.table.now in
    let e = rule_of c.args.entry.now in
    let i = c.loop-number.number-index in
    let numbers = c.args.numbers.now in
    let low : i < length numbers = c.loop-number-test.true in
    let seq = c.in-Some.seq in
    let at = cover_at t e numbers i low c.requires.numbers c.args.outcomes.now.alphabet c.requires.alphabet c.sequence_at.result c.sequence_at.ensures seq c.in-Some.is in
    let weight : c.weight-weight.result ≡ weight_in t.header seq = c.weight-weight.ensures.value in
    let before = c.loop-number.invariant.settled in
    let stands = slice_get-get_or numbers i 0 low in
    elim c.if-weight-limit.branch [
      | then-weight-limit+then-is_untold w ↦ (
          let tests = (w.is_untold.ensures.untold (map seen c.args.table.now.states) c.requires.trials).0 w.if-is_untold.true in
          let light : weight_in t.header seq < c.loop-number.limit = omega (arith, weight, w.if-weight-limit.true) in
          let below : IsBelow t.header e.left e.right (get_or numbers i 0) seq = record { at = at.0; no_longer = at.1; lighter = omega (arith, light, before.most) } in
          let untold : IsUntold t e (get_or numbers i 0) seq = record { below = below; unnamed = tests.0; untold = tests.1 } in
          record {
            settled = rw (w.first-is, w.limit-is) (subst (SettledBefore t e numbers (i + 1) (Some (get_or numbers i 0))) (sym weight)
                (settled_first t e numbers i low c.requires.numbers.ascending seq at.0 c.loop-number.first c.loop-number.limit before light untold));
            cost = rw w.steps-is (entries_next (told_cost t e) numbers i _ _ _ (get_or numbers i 0) stands c.loop-number.invariant.cost
                (run_within t e (get_or numbers i 0) seq _ _ _ _ (below_is t.header e.left e.right (get_or numbers i 0) seq below) (as_many e.left t.states c.args.trials.now c.requires.trials) at.1 w.is_untold.ensures.cost));
          }
          )
      | else-weight-limit w ↦ elim w.else-weight-limit.branch [
        | else-weight-limit-via-then-weight-limit+else-is_untold v ↦ (
            let light : weight_in t.header seq < c.loop-number.limit = omega (arith, weight, v.if-weight-limit.true) in
            let below : IsBelow t.header e.left e.right (get_or numbers i 0) seq = record { at = at.0; no_longer = at.1; lighter = omega (arith, light, before.most) } in
            let tests = (v.is_untold.ensures.untold (map seen c.args.table.now.states) c.requires.trials).1 in
            record {
              settled = rw (w.first-is, w.limit-is) (settled_told t e numbers i low c.requires.numbers.ascending seq at.0 c.loop-number.first c.loop-number.limit before
                  (λ u. false≢true (sym v.if-is_untold.false ∙ tests (u.unnamed, u.untold))));
              cost = rw (w.steps-is, v.steps-is) (entries_next (told_cost t e) numbers i _ _ _ (get_or numbers i 0) stands c.loop-number.invariant.cost
                  (run_within t e (get_or numbers i 0) seq _ _ _ _ (below_is t.header e.left e.right (get_or numbers i 0) seq below) (as_many e.left t.states c.args.trials.now c.requires.trials) at.1 v.is_untold.ensures.cost));
            }
            )
        | else-weight-limit-via-else-weight-limit v ↦ record {
          settled = rw (w.first-is, w.limit-is) (settled_heavy t e numbers i low c.requires.numbers.ascending seq at.0 c.loop-number.first c.loop-number.limit before (omega (arith, weight, v.if-weight-limit.false)));
          cost = rw (w.steps-is, v.steps-is) (entries_next (told_cost t e) numbers i _ _ c.loop-number.steps (get_or numbers i 0) stands c.loop-number.invariant.cost (omega arith));
        }
      ]
    ]

pub returns-clause-verdict : goal.returns-clause-verdict
returns-clause-verdict g c = λ number. settled_verdict (table_of c.args.table.now) (rule_of c.args.entry.now) number c.args.numbers.now c.loop-number.number-index c.loop-number.first c.loop-number.limit c.loop-number-test.false c.loop-number.invariant.settled

pub returns-clause-cost : goal.returns-clause-cost
returns-clause-cost g c =
    let all = entries_end (told_cost (table_of c.args.table.now) (rule_of c.args.entry.now)) c.args.numbers.now c.loop-number.number-index c.args.steps.now c.loop-number.steps c.loop-number.invariant.cost in
    let states = length-map c.args.table.now.states seen in
    let share = length (below (header_in c.args.table.now) c.args.entry.now.left c.args.entry.now.right) in
    let most : sum_by (told_cost (table_of c.args.table.now) (rule_of c.args.entry.now)) c.args.numbers.now ≤ share * (length (map seen c.args.table.now.states) * length c.args.entry.now.left) =
    told_most (table_of c.args.table.now) (rule_of c.args.entry.now) c.args.numbers.now c.requires.few c.requires.numbers.ascending in
    let same = ap (λ n. share * (n * length c.args.entry.now.left)) states in
    omega (arith, all, most, same)
