use Rattle.std.proofs.Common.{◌∙◌, sym, subst, refl}
use Rattle.kept_layout.specs.declared.alignments.Loose.TheVariants as sort
use Rattle.kept_layout.specs.declared.kept.KeptLayout.{KeptLayout}
use Rattle.kept_layout.specs.Cutting.{AreMet}
use Rattle.kept_layout.proofs.BuildingCallers.{are_met}
use Rattle.kept_layout.proofs.BuildingAlignments.{found_all}
use Rattle.kept_layout.proofs.BuildingLaid.{lays_built, unmoved}
use Rattle.kept_layout.proofs.BuildingWalls.{callers_read, known_read, walls_of}
use Rattle.kept_layout.proofs.Rooms.{rooms_of}
use Rattle.kept_layout.proofs.kept.KeptLayout.of.Goals as goal

pub note_callers-requires-clause-met : goal.note_callers-requires-clause-met
note_callers-requires-clause-met c = subst AreMet (sym c.in_ok-blocks.ensures.footprints) (are_met c.args.listing.now)

pub find_walls-requires-clause-known : goal.find_walls-requires-clause-known
find_walls-requires-clause-known c = known_read c.note_callers.new.blocks.items c.deref.result.now c.deref.ensures.value c.in_ok-note_callers.ensures.known

pub find_walls-requires-clause-callers : goal.find_walls-requires-clause-callers
find_walls-requires-clause-callers c = callers_read c.note_callers.new.blocks.items c.deref.result.now c.deref.ensures.value c.in_ok-note_callers.ensures.callers

pub go_to-requires : goal.go_to-requires
go_to-requires c =
    let k : KeptLayout = record { base = c.args.base; blocks = c.note_alignments.new.blocks; here = 0; first = 0; rooms = c.in_ok-rooms.rooms; walls = c.in_ok-walls.walls; lag = record { border = 0; shift = 0; from = 0; until = 0; gap = 0 }; loose = c.in_ok-loose.loose; absolute = c.in_ok-absolute.absolute; slack = 0; slack_from = 0 } in
    (lays_built k c.note_callers.new.blocks.items c.args.listing.now c.note_alignments.ensures.same
    (c.in_ok-note_callers.ensures.footprints ∙ c.in_ok-blocks.ensures.footprints) c.in_ok-blocks.ensures.in_code
    (c.in_ok-note_callers.ensures.starts ∙ c.in_ok-blocks.ensures.starts) c.in_ok-note_callers.ensures.known c.in_ok-note_callers.ensures.callers refl refl
    (unmoved k c.note_callers.new.blocks.items c.deref-2.result.now c.deref-3.result.now refl refl c.note_alignments.ensures.same c.note_alignments.ensures.alignments c.note_alignments.ensures.literals c.deref-2.ensures.value c.deref-3.ensures.value (found_all sort.Label c.deref-2.result.now c.in_ok-loose.loose.items c.in_ok-loose.ensures.all c.in_ok-loose.ensures.within) (found_all sort.Address c.deref-3.result.now c.in_ok-absolute.absolute.items c.in_ok-absolute.ensures.all c.in_ok-absolute.ensures.within) refl (rooms_of k c.deref-4.result.now c.deref-4.ensures.value c.in_ok-rooms.ensures) (walls_of k c.note_callers.new.blocks.items c.deref.result.now c.deref.ensures.value c.in_ok-walls.ensures))
    c.requires).laid

pub returns-clause-lays : goal.returns-clause-lays
returns-clause-lays c =
    let k : KeptLayout = record { base = c.args.base; blocks = c.note_alignments.new.blocks; here = 0; first = 0; rooms = c.in_ok-rooms.rooms; walls = c.in_ok-walls.walls; lag = record { border = 0; shift = 0; from = 0; until = 0; gap = 0 }; loose = c.in_ok-loose.loose; absolute = c.in_ok-absolute.absolute; slack = 0; slack_from = 0 } in
    c.go_to.ensures.lays c.args.listing.now
    (lays_built k c.note_callers.new.blocks.items c.args.listing.now c.note_alignments.ensures.same
    (c.in_ok-note_callers.ensures.footprints ∙ c.in_ok-blocks.ensures.footprints) c.in_ok-blocks.ensures.in_code
    (c.in_ok-note_callers.ensures.starts ∙ c.in_ok-blocks.ensures.starts) c.in_ok-note_callers.ensures.known c.in_ok-note_callers.ensures.callers refl refl
    (unmoved k c.note_callers.new.blocks.items c.deref-2.result.now c.deref-3.result.now refl refl c.note_alignments.ensures.same c.note_alignments.ensures.alignments c.note_alignments.ensures.literals c.deref-2.ensures.value c.deref-3.ensures.value (found_all sort.Label c.deref-2.result.now c.in_ok-loose.loose.items c.in_ok-loose.ensures.all c.in_ok-loose.ensures.within) (found_all sort.Address c.deref-3.result.now c.in_ok-absolute.absolute.items c.in_ok-absolute.ensures.all c.in_ok-absolute.ensures.within) refl (rooms_of k c.deref-4.result.now c.deref-4.ensures.value c.in_ok-rooms.ensures) (walls_of k c.note_callers.new.blocks.items c.deref.result.now c.deref.ensures.value c.in_ok-walls.ensures))
    c.requires)
