use Rattle.std.proofs.Common.{◌≡◌, ◌++◌, map, drop}
use Rattle.thumb_model.specs.Replaced.{new_line}
use Rattle.listing_parser.specs.Views.{line_view}
use Rattle.listing_parser.specs.Parsing.{own_line}
use Rattle.listing_parser.proofs.replacing.add_new.Given as goal

abbrev pub invariant-loop-instr : goal.invariant-loop-instr
invariant-loop-instr l = map line_view l.out.items ++ map (new_line own_line) (drop l.instr-index l.instrs) ≡ map line_view l.initial.out.items ++ map (new_line own_line) l.instrs
