use Rattle.std.proofs.Common.{subst}
use Rattle.listing_parser.specs.Targets.{DefineOnce}
use Rattle.listing_draft.specs.Invariant.{names_of}
use Rattle.listing_draft.proofs.Drafts.{new_draft, new_lines}
use Rattle.listing_draft.proofs.draft.Draft.new.Goals as goal

pub invariant_of-result : goal.invariant_of-result
invariant_of-result c = record {
  draft = new_draft c.args.listing c.place_count-count.result c.in_ok-kept.kept (names_of c.in_ok-aims.aims.items) c.place_count-count.ensures c.place_count-count.type_inv c.in_ok-kept.ensures c.in_ok-aims.ensures (subst DefineOnce c.listing.view_is c.listing.invariant.once);
  same = λ e. new_lines c.args.listing c.place_count-count.result c.in_ok-kept.kept (names_of c.in_ok-aims.aims.items) c.in_ok-kept.ensures c.in_ok-aims.ensures;
}

pub returns-clause-lines : goal.returns-clause-lines
returns-clause-lines c = new_lines c.args.listing c.place_count-count.result c.in_ok-kept.kept (names_of c.in_ok-aims.aims.items) c.in_ok-kept.ensures c.in_ok-aims.ensures
