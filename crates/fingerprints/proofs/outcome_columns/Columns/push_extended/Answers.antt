use Rattle.std.proofs.Common.{◌≡◌, ◌≤◌, ◌+◌, ◌-◌, ◌∷◌, [], ap, subst, length, length-append, arith}
use Rattle.window_exec.proofs.WindowForms.{window_computes}
use Rattle.thumb_model.proofs.Small.{below_more}
use Rattle.step_ledger.proofs.Rises.{goes_on, ticks}
use Rattle.fingerprints.specs.OutcomeColumns.{HaveRoom}
use Rattle.fingerprints.proofs.KeptRegisters.{over_at}
use Rattle.fingerprints.proofs.Holding.{instr_next, instrs_done, less_room}
use Rattle.fingerprints.proofs.outcome_columns.Columns.push_extended.Goals as goal

pub compute-requires : goal.compute-requires
compute-requires g c =
    let x = over_at c.args.k c.args.alphabet.now c.loop-instr.instr-index c.instr-item.result c.loop-instr-test.true c.instr-item.is c.loop-instr.invariant.over in
    record { computes = window_computes _ x.0; registers = below_more c.args.k 4 _ c.requires.few x.1 }

pub push-requires : goal.push-requires
push-requires g c =
    let more : 1 ≤ 0 + (length c.args.alphabet.now - c.loop-instr.instr-index) = omega (arith, c.loop-instr-test.true) in
    less_room c.args.k 1 _ c.loop-instr.self more (c.loop-instr.invariant.room 0 (less_room c.args.k _ _ c.args.self.now (omega arith) c.requires.room))

pub loop-instr-preserved : goal.loop-instr-preserved
loop-instr-preserved g c =
    let i = c.loop-instr.instr-index in
    let n = length c.args.alphabet.now in
    let x = over_at c.args.k c.args.alphabet.now i c.instr-item.result c.loop-instr-test.true c.instr-item.is c.loop-instr.invariant.over in
    record {
      over = x.2;
      holds = λ start seqs seq h keeps end.
          instr_next c.args.k start seqs seq c.args.alphabet.now i c.instr-item.result c.loop-instr.self c.push.new.self c.args.from.now c.compute.new.file c.loop-instr-test.true c.instr-item.is x.0 x.1
          (c.loop-instr.invariant.holds start seqs seq h keeps end) c.push.ensures.after keeps c.push.ensures.words (c.compute.ensures 0) end;
      more = (
          let more = ap length c.push.ensures.after.flags in
          let size = length-append c.loop-instr.self.flags.items (c.compute.new.file.nzcv ∷ []) in
          omega (arith, more, size, c.loop-instr.invariant.more)
          );
      room = λ more room.
          let one : more + (n - i) ≡ more + (n - (i + 1)) + 1 = omega (arith, c.loop-instr-test.true) in
          c.push.ensures.room (more + (n - (i + 1))) (subst (λ m. HaveRoom c.args.k m c.loop-instr.self) one (c.loop-instr.invariant.room more room));
      count = goes_on c.args.steps.now c.loop-instr.steps c.tick.new.self i 1 c.loop-instr.invariant.count (ticks c.loop-instr.steps c.tick.new.self c.tick.ensures);
    }

pub returns-clause-holds : goal.returns-clause-holds
returns-clause-holds g c =
    λ start seqs seq h keeps end. instrs_done c.args.k start seqs seq c.args.alphabet.now c.loop-instr.instr-index c.loop-instr.self c.loop-instr-test.false (c.loop-instr.invariant.holds start seqs seq h keeps end)

pub returns-clause-room : goal.returns-clause-room
returns-clause-room g c = λ more room. less_room c.args.k more _ c.loop-instr.self (omega arith) (c.loop-instr.invariant.room more room)
