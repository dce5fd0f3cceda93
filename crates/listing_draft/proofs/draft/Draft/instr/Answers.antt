use Rattle.std.proofs.Common.{◌∙◌, ap}
use Rattle.listing_draft.specs.Drafted.{instr_in}
use Rattle.listing_draft.specs.Invariant.{names_of}
use Rattle.listing_draft.proofs.Drafts.{instr_as_given}
use Rattle.listing_draft.proofs.draft.Draft.instr.Goals as goal

pub returns : goal.returns
returns c =
    c.instr_of.ensures ∙ ap instr_in c.place.ensures
    ∙ instr_as_given c.self.inside.listing c.self.inside.kept (names_of c.self.inside.aims.items) c.args.self.now c.args.place c.self.view_is c.self.invariant.draft c.requires.kept
