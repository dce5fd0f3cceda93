use Rattle.std.proofs.Common.{◌≡◌, ◌<◌, length, map, slice_index_or, Some, refl, ap, sym, ◌∙◌, arith}
use Rattle.std.specs.Prelude.{slice_get}
use Rattle.std.proofs.lemmas.Option.{slice_get_read}
use Rattle.kept_layout.specs.declared.kept.KeptLayout.{KeptLayout}
use Rattle.kept_layout.specs.declared.block.Block.{Block}
use Rattle.kept_layout.specs.Blocks.{footprint_of, footprints_of}
use Rattle.kept_layout.specs.Moves.{news, unplaced}
use Rattle.kept_layout.proofs.Rooms.{rooms_after, rooms_within}
use Rattle.kept_layout.proofs.ShrinkingNotes.{after_shrinking, laid_after, map_length, noted_footprint, footprints_after, HasShrunk}
use Rattle.kept_layout.proofs.ShrinkingReach.{right_from}
use Rattle.kept_layout.proofs.kept.KeptLayout.shrink.Goals as goal

-- the current block, once all are noted
here_read : (k l : KeptLayout) (s : Block) → l ≡ record k { blocks = l.blocks } → map unplaced l.blocks.items ≡ map unplaced k.blocks.items → k.here < length k.blocks.items → s ≡ slice_index_or l.blocks.items l.here s
    → slice_get l.blocks.items l.here ≡ Some s
here_read k l s fields same within is =
    let here : l.here ≡ k.here = ap (λ (x : KeptLayout). x.here) fields in
    let len = map_length unplaced l.blocks.items k.blocks.items same in
    slice_get_read l.blocks.items (length l.blocks.items) l.here s refl (omega arith) is

-- it has the footprint that it had
here_footprint : (k l : KeptLayout) (s : Block) → l ≡ record k { blocks = l.blocks } → map unplaced l.blocks.items ≡ map unplaced k.blocks.items → k.here < length k.blocks.items → s ≡ slice_index_or l.blocks.items l.here s
    → slice_get (footprints_of k.blocks.items) k.here ≡ Some (footprint_of s)
here_footprint k l s fields same within is = noted_footprint k l.blocks.items k.here s same (ap (slice_get l.blocks.items) (sym (ap (λ (x : KeptLayout). x.here) fields)) ∙ here_read k l s fields same within is)

pub new_slack-slack-requires-clause-right : goal.new_slack-slack-requires-clause-right
new_slack-slack-requires-clause-right c = right_from c.args.self.now (news c.args.self.now c.args.bytes c.args.moved.now.at.items) c.args.moved.now.by c.args.bytes c.args.gone c.requires.moved c.requires.reach

pub take_places-requires : goal.take_places-requires
take_places-requires c = rooms_within c.args.self.now c.note_all.new.self c.args.gone c.requires.laid c.in_ok-note_all.ensures.fields c.requires.some

pub take_from-requires-clause-bytes : goal.take_from-requires-clause-bytes
take_from-requires-clause-bytes c =
    let s = c.index_mut.result.now in
    c.requires.few (footprint_of s) (here_footprint c.args.self.now c.note_all.new.self s c.in_ok-note_all.ensures.fields c.in_ok-note_all.ensures.noted.same c.requires.laid.here c.index_mut.ensures.value)

pub take_from-requires-clause-places : goal.take_from-requires-clause-places
take_from-requires-clause-places c =
    let s = c.index_mut.result.now in
    c.requires.some (footprint_of s) (here_footprint c.args.self.now c.note_all.new.self s c.in_ok-note_all.ensures.fields c.in_ok-note_all.ensures.noted.same c.requires.laid.here c.index_mut.ensures.value)

pub returns-clause-laid : goal.returns-clause-laid
returns-clause-laid c =
    let k = c.args.self.now in
    let l = c.note_all.new.self in
    let s = c.index_mut.result.now in
    let m = c.args.moved.now in
    let is = here_read k l s c.in_ok-note_all.ensures.fields c.in_ok-note_all.ensures.noted.same c.requires.laid.here c.index_mut.ensures.value in
    let shrunk : HasShrunk k l m.at.items m.by c.args.bytes c.args.gone c.in_ok-lag.lag s c.take_from.new.block = record { fields = c.in_ok-note_all.ensures.fields; noted = c.in_ok-note_all.ensures.noted; is = is; less = c.take_from.ensures } in
    laid_after k m.at.items m.by c.args.bytes c.args.gone l.blocks.items _ c.requires.laid c.requires.moved c.requires.reach (after_shrinking k l m.at.items m.by c.args.bytes c.args.gone c.in_ok-lag.lag s c.take_from.new.block _ shrunk refl refl refl refl refl c.new_slack-slack.ensures refl c.in_ok-lag.ensures refl
    (rooms_after k l c.take_places.new.rooms.items c.args.bytes c.args.gone c.requires.laid c.in_ok-note_all.ensures.fields c.requires.some c.take_places.ensures.own c.take_places.ensures.others) refl)

pub returns-clause-footprints : goal.returns-clause-footprints
returns-clause-footprints c =
    let k = c.args.self.now in
    let l = c.note_all.new.self in
    let s = c.index_mut.result.now in
    let is = here_read k l s c.in_ok-note_all.ensures.fields c.in_ok-note_all.ensures.noted.same c.requires.laid.here c.index_mut.ensures.value in
    let shrunk : HasShrunk k l c.args.moved.now.at.items c.args.moved.now.by c.args.bytes c.args.gone c.in_ok-lag.lag s c.take_from.new.block =
    record { fields = c.in_ok-note_all.ensures.fields; noted = c.in_ok-note_all.ensures.noted; is = is; less = c.take_from.ensures } in
    footprints_after k l c.args.moved.now.at.items c.args.moved.now.by c.args.bytes c.args.gone c.in_ok-lag.lag s c.take_from.new.block shrunk
