use Rattle.std.proofs.Common.{◌∙◌, ap, sym}
use Rattle.window_rewrite.specs.Rules.{is_marked}
use Rattle.window_rewrite.proofs.left_side_hashes.LeftSideHashes.add_side.Goals as goal

pub returns-clause-many : goal.returns-clause-many
returns-clause-many c = record { wholes = c.mark.ensures.many; fronts = c.mark_fronts-hash.ensures.many }

pub returns-clause-stay : goal.returns-clause-stay
returns-clause-stay c = record { wholes = c.mark.ensures.kept; fronts = c.mark_fronts-hash.ensures.kept }

pub returns-clause-noted : goal.returns-clause-noted
returns-clause-noted c = record {
  whole = ap (is_marked c.mark.new.marks.items) (sym c.mark_fronts-hash.ensures.hash) ∙ c.mark.ensures.here;
  fronts = c.mark_fronts-hash.ensures.fronts;
}
