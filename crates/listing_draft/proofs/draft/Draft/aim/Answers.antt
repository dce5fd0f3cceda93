use Rattle.std.proofs.Common.{◌∙◌, Some, ap}
use Rattle.std.specs.Prelude.{slice_set}
use Rattle.listing_draft.specs.Drafted.{Drafted}
use Rattle.listing_draft.specs.Invariant.{names_of}
use Rattle.listing_draft.proofs.Drafts.{draft_after_aim, lines_after_aim, names_set}
use Rattle.listing_draft.proofs.draft.Draft.aim.Goals as goal

pub invariant_of-self : goal.invariant_of-self
invariant_of-self c = record {
  draft = draft_after_aim c.self.inside.listing c.self.inside.kept (names_of c.self.inside.aims.items) _ c.args.self.now c.args.place c.args.name.items c.self.view_is c.self.invariant.draft c.requires.within c.requires.kept c.requires.op
      (names_set c.self.inside.aims.items c.args.place c.args.name);
  same = λ e. absurd (cc);
}

pub returns-clause-aims : goal.returns-clause-aims
returns-clause-aims c = names_set c.self.inside.aims.items c.args.place c.args.name ∙ ap (λ (d : Drafted). slice_set d.aims c.args.place (Some c.args.name.items)) c.self.view_is

pub returns-clause-lines : goal.returns-clause-lines
returns-clause-lines c =
    lines_after_aim c.self.inside.listing c.self.inside.kept (names_of c.self.inside.aims.items) _ c.args.self.now c.args.place c.args.name.items c.self.view_is c.self.invariant.draft c.requires.within c.requires.kept c.requires.op
    (names_set c.self.inside.aims.items c.args.place c.args.name)
