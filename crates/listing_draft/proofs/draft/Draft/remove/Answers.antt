use Rattle.listing_draft.specs.Invariant.{names_of}
use Rattle.listing_draft.proofs.Drafts.{draft_after_removal, lines_after_removal}
use Rattle.listing_draft.proofs.draft.Draft.remove.Goals as goal

pub invariant_of-self : goal.invariant_of-self
invariant_of-self c = record {
  draft = draft_after_removal c.self.inside.listing c.self.inside.kept c.remove.new.self (names_of c.self.inside.aims.items) c.args.self.now c.args.place c.self.view_is c.self.invariant.draft c.requires.within c.requires.kept c.requires.op c.remove.ensures;
  same = λ e. absurd (cc);
}

pub returns-clause-lines : goal.returns-clause-lines
returns-clause-lines c =
    lines_after_removal c.self.inside.listing c.self.inside.kept c.remove.new.self (names_of c.self.inside.aims.items) c.args.self.now c.args.place c.self.view_is c.self.invariant.draft c.requires.within c.requires.kept c.requires.op c.remove.ensures
