use Rattle.std.proofs.Common.{◌≡◌, ◌∙◌, ◌<◌, false, length, ap, arith, sym, subst}
use Rattle.window_runs.specs.Rows.{rows_from}
use Rattle.call_tests.proofs.GaveWay.{run_of_two, window_ops, window_unlabelled, window_joined}
use Rattle.call_tests.proofs.windows.with_one.Goals as goal

pub replaced-requires-clause-window : goal.replaced-requires-clause-window
replaced-requires-clause-window c =
    let two : length c.run-run.result ≡ 2 = omega arith in
    let w = run_of_two c.args.listing.now c.in_ok-rows.rows.items c.deref.result.now c.args.place c.run-run.result (c.in_ok-rows.ensures ∙ ap (rows_from false) c.lines.ensures) c.deref.ensures.value c.run-run.ensures two in
    λ k h. window_ops c.args.listing.now c.args.place c.run-run.result w k (subst (λ n. k < n) (sym two) h)

pub replaced-requires-clause-unlabelled : goal.replaced-requires-clause-unlabelled
replaced-requires-clause-unlabelled c =
    let two : length c.run-run.result ≡ 2 = omega arith in
    let w = run_of_two c.args.listing.now c.in_ok-rows.rows.items c.deref.result.now c.args.place c.run-run.result (c.in_ok-rows.ensures ∙ ap (rows_from false) c.lines.ensures) c.deref.ensures.value c.run-run.ensures two in
    window_unlabelled c.args.listing.now c.args.place c.run-run.result 2 two w

pub replaced-requires-clause-joined : goal.replaced-requires-clause-joined
replaced-requires-clause-joined c =
    let two : length c.run-run.result ≡ 2 = omega arith in
    let w = run_of_two c.args.listing.now c.in_ok-rows.rows.items c.deref.result.now c.args.place c.run-run.result (c.in_ok-rows.ensures ∙ ap (rows_from false) c.lines.ensures) c.deref.ensures.value c.run-run.ensures two in
    window_joined c.args.listing.now c.args.place c.run-run.result 2 two w

pub returns-then-len-eq2 : goal.returns-then-len-eq2
returns-then-len-eq2 c =
    let two : length c.run-run.result ≡ 2 = omega arith in
    let w = run_of_two c.args.listing.now c.in_ok-rows.rows.items c.deref.result.now c.args.place c.run-run.result (c.in_ok-rows.ensures ∙ ap (rows_from false) c.lines.ensures) c.deref.ensures.value c.run-run.ensures two in
    record { window = c.run-run.result; two = two; stood = w; is = c.in_ok-changed.ensures }
