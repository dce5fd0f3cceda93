use Rattle.std.proofs.Common.{◌∙◌}
use Rattle.thumb_model.specs.Listing.{places_of}
use Rattle.edited_listing.proofs.Instrs.{instr_given, instr_gone, instr_new, read_get}
use Rattle.edited_listing.proofs.looks.standing_instr.Goals as goal

pub returns-in-Given : goal.returns-in-Given
returns-in-Given c =
    c.instr.ensures ∙ instr_given c.args.stands.now (places_of c.args.given.now) c.args.place c.requires.places (read_get c.args.stands.now c.args.place _ _ c.requires.within c.in-Given.is)

pub returns-in-Gone : goal.returns-in-Gone
returns-in-Gone c = instr_gone c.args.stands.now (places_of c.args.given.now) c.args.place c.requires.places (read_get c.args.stands.now c.args.place _ _ c.requires.within c.in-Gone.is)

pub returns-in-New : goal.returns-in-New
returns-in-New c =
    c.new_instr.ensures ∙ instr_new c.args.stands.now (places_of c.args.given.now) c.args.place c.in-New.instr c.in-New.home c.requires.places (read_get c.args.stands.now c.args.place _ _ c.requires.within c.in-New.is)
