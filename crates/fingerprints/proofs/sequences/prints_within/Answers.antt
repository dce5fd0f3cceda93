use Rattle.std.proofs.Common.{◌≡◌, ◌+◌, ◌∙◌, sym, arith}
use Rattle.fingerprints.specs.Columns.{states_in}
use Rattle.fingerprints.proofs.SequenceLemmas.{first_length, length_done, lengths_done}
use Rattle.fingerprints.proofs.sequences.prints_within.Goals as goal

pub loop-length-init : goal.loop-length-init
loop-length-init c = first_length c.args.mask.items.bits (states_in c.args.columns.now) c.args.alphabet.now c.args.longest c.new-prints.result.items c.new-prints.ensures.items

pub loop-length-preserved : goal.loop-length-preserved
loop-length-preserved c =
    length_done c.args.mask.items.bits (states_in c.args.columns.now) c.args.alphabet.now c.loop-length.length (c.args.longest + 1) c.loop-length.prints.items c.print_length.new.prints.items c.loop-length-test.true c.in_ok-print_length.ensures
    ∙ c.loop-length.invariant

pub returns : goal.returns
returns c =
    let e : c.loop-length.length ≡ c.args.longest + 1 = omega arith in
    sym (lengths_done c.args.mask.items.bits (states_in c.args.columns.now) c.args.alphabet.now c.loop-length.length (c.args.longest + 1) c.loop-length.prints.items e) ∙ c.loop-length.invariant
