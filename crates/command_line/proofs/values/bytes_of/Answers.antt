use Rattle.std.proofs.Common.{map}
use Rattle.std.proofs.lemmas.List.{get_or-map, length-map}
use Rattle.ascii_scan.specs.Numeral.{decimal}
use Rattle.command_line.proofs.Pools.{no_byte}
use Rattle.command_line.proofs.values.bytes_of.Goals as goal

pub returns-in-None : goal.returns-in-None
returns-in-None c = λ ns few small e.
    no_byte ns (map (λ w. decimal w.now) c.args.words.now) c.loop-word.word-index _ (rw length-map c.loop-word-test.true)
    (get_or-map (λ w. decimal w.now) c.args.words.now c.loop-word.word-index _ _ c.loop-word-test.true) (λ n h k. c.in-None.ensures n h k) small e
