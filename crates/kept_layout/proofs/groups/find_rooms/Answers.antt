use Rattle.std.proofs.Common.{◌≡◌, ◌+◌, length, refl, arith}
use Rattle.std.proofs.lemmas.Option.{slice_get_read}
use Rattle.kept_layout.proofs.Rooms.{count_full, count_on, none_counted}
use Rattle.kept_layout.proofs.groups.find_rooms.Goals as goal

pub loop-number-init : goal.loop-number-init
loop-number-init c = none_counted _ _ c.new-rooms.ensures.items

pub loop-number-preserved-then-number-start : goal.loop-number-preserved-then-number-start
loop-number-preserved-then-number-start c =
    let ss = c.args.blocks.now in
    let is = slice_get_read ss (length ss) c.loop-number.number c.index-blocks-number.result refl (omega arith) c.index-blocks-number.is in
    let more : c.in_ok-room.room ≡ c.loop-number.room + c.index-blocks-number.result.places = grind arith in
    count_on ss c.loop-number.rooms.items c.loop-number.start c.loop-number.room c.loop-number.number c.in_ok-room.room (c.loop-number.number + 1) c.index-blocks-number.result c.loop-number.invariant is more (omega arith) c.if-number-start.true

pub loop-number-preserved : goal.loop-number-preserved
loop-number-preserved c =
    let ss = c.args.blocks.now in
    let is = slice_get_read ss (length ss) c.loop-number.number c.index-blocks-number.result refl (omega arith) c.index-blocks-number.is in
    let more : c.in_ok-room.room ≡ c.loop-number.room + c.index-blocks-number.result.places = grind arith in
    count_full ss c.loop-number.rooms.items c.push.new.self.items c.loop-number.start c.loop-number.room c.loop-number.number c.in_ok-room.room (c.loop-number.number + 1) c.index-blocks-number.result c.loop-number.invariant is more (omega arith) c.if-number-start.false c.in_ok-push.ensures.items
