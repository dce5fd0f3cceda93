use Rattle.std.proofs.Common.{◌≡◌, ◌∙◌, ◌<◌, ◌+◌, ◌-◌, ◌++◌, [], ◌∷◌, List, Some, None, length, drop, true, sym, ap, arith, length-append}
use Rattle.std.specs.Prelude.{nat_eq}
use Rattle.thumb_instr.specs.declared.instr.Instr.{Instr}
use Rattle.window_runs.specs.Runs.{instr_at, run}
use Rattle.window_runs.proofs.Joined.{run_ends, run_more}
use Rattle.window_runs.proofs.runs.run.Goals as goal

pub returns-in-None : goal.returns-in-None
returns-in-None c =
    let at : instr_at (nat_eq (length c.loop-seq.seq) 0) (drop (c.args.place + length c.loop-seq.seq) c.args.rows.now) ≡ None =
    ap (λ n. instr_at (nat_eq n 0) (drop (c.args.place + n) c.args.rows.now)) (sym c.len-count.ensures.value) ∙ sym c.instr_at.ensures ∙ c.in-None.is in
    run_ends c.loop-seq.seq (nat_eq (length c.loop-seq.seq) 0) (c.args.most - length c.loop-seq.seq) (drop (c.args.place + length c.loop-seq.seq) c.args.rows.now) (run true c.args.most (drop c.args.place c.args.rows.now)) at c.loop-seq.invariant.run

pub loop-seq-preserved : goal.loop-seq-preserved
loop-seq-preserved c =
    let at : instr_at (nat_eq (length c.loop-seq.seq) 0) (drop (c.args.place + length c.loop-seq.seq) c.args.rows.now) ≡ Some c.in-Some.instr =
    ap (λ n. instr_at (nat_eq n 0) (drop (c.args.place + n) c.args.rows.now)) (sym c.len-count.ensures.value) ∙ sym c.instr_at.ensures ∙ c.in-Some.is in
    let few : length c.loop-seq.seq < c.args.most = omega (arith, c.len.ensures.value, c.loop-seq-test.true) in
    record {
      few = omega (arith, ap (λ (is : List Instr). length is) c.push.ensures, length-append c.loop-seq.seq (c.in-Some.instr ∷ []));
      run =
          ap (λ (is : List Instr). is ++ run (nat_eq (length is) 0) (c.args.most - length is) (drop (c.args.place + length is) c.args.rows.now)) c.push.ensures
          ∙ run_more c.loop-seq.seq c.args.most c.args.place c.args.rows.now c.in-Some.instr few at
          ∙ c.loop-seq.invariant.run;
    }
