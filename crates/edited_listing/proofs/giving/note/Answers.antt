use Rattle.std.proofs.Common.{◌∙◌, ap, set, sym}
use Rattle.edited_listing.specs.Changes.{is_none}
use Rattle.edited_listing.proofs.Steps.{set_false}
use Rattle.edited_listing.proofs.giving.note.Goals as goal

pub returns-in-Given : goal.returns-in-Given
returns-in-Given c = set_false c.args.kept.now c.args.place c.requires.kept ∙ ap (λ s. set c.args.kept.now c.args.place (is_none s)) (sym c.in-Given.is)

pub returns-in-New : goal.returns-in-New
returns-in-New c = set_false c.args.kept.now c.args.place c.requires.kept ∙ ap (λ s. set c.args.kept.now c.args.place (is_none s)) (sym c.in-New.is)

pub returns-in-Gone : goal.returns-in-Gone
returns-in-Gone c = c.remove.ensures ∙ ap (λ s. set c.args.kept.now c.args.place (is_none s)) (sym c.in-Gone.is)
