use Rattle.std.proofs.Common.{◌<◌, length, refl, arith}
use Rattle.liveness.proofs.Counts.{set_read}
use Rattle.liveness.proofs.Walks.{cleared_here, cleared_told, cleared_else, cleared_on}
use Rattle.liveness.proofs.walk.clear_at.Goals as goal

pub returns-clause-on : goal.returns-clause-on
returns-clause-on c =
    let k = c.args.walk.now in
    let inside : c.args.place < length k.before.sets.items = omega (arith, c.requires.place, c.requires.fit.before_many) in
    cleared_on k c.touch.new.walk (record { before = c.put.new.all; was = c.touch.new.walk.was; stack = c.push.new.self; touched = c.touch.new.walk.touched }) c.args.place c.index-old.result.now c.minus-new.result c.args.lost inside
    (set_read k.before.sets.items c.args.place c.index-old.result.now inside c.index-old.ensures) c.minus-new.ensures c.if-new-old.false c.touch.ensures.before c.put.ensures.sets c.touch.ensures.many refl refl c.touch.ensures.here c.touch.ensures.kept c.touch.ensures.start c.touch.ensures.stack c.push.ensures.members c.push.ensures.longer

pub returns-clause-told : goal.returns-clause-told
returns-clause-told c =
    let k = c.args.walk.now in
    let inside : c.args.place < length k.before.sets.items = omega (arith, c.requires.place, c.requires.fit.before_many) in
    cleared_told k c.touch.new.walk (record { before = c.put.new.all; was = c.touch.new.walk.was; stack = c.push.new.self; touched = c.touch.new.walk.touched }) c.args.place c.index-old.result.now c.minus-new.result c.args.lost inside
    (set_read k.before.sets.items c.args.place c.index-old.result.now inside c.index-old.ensures) c.minus-new.ensures c.if-new-old.false c.touch.ensures.before c.put.ensures.sets

pub returns-clause-here : goal.returns-clause-here
returns-clause-here c =
    let k = c.args.walk.now in
    let inside : c.args.place < length k.before.sets.items = omega (arith, c.requires.place, c.requires.fit.before_many) in
    cleared_here k c.touch.new.walk (record { before = c.put.new.all; was = c.touch.new.walk.was; stack = c.push.new.self; touched = c.touch.new.walk.touched }) c.args.place c.index-old.result.now c.minus-new.result c.args.lost inside
    (set_read k.before.sets.items c.args.place c.index-old.result.now inside c.index-old.ensures) c.minus-new.ensures c.if-new-old.false c.touch.ensures.before c.put.ensures.sets

pub returns-clause-elsewhere : goal.returns-clause-elsewhere
returns-clause-elsewhere c =
    let k = c.args.walk.now in
    let inside : c.args.place < length k.before.sets.items = omega (arith, c.requires.place, c.requires.fit.before_many) in
    cleared_else k c.touch.new.walk (record { before = c.put.new.all; was = c.touch.new.walk.was; stack = c.push.new.self; touched = c.touch.new.walk.touched }) c.args.place c.index-old.result.now c.minus-new.result c.args.lost inside
    (set_read k.before.sets.items c.args.place c.index-old.result.now inside c.index-old.ensures) c.minus-new.ensures c.if-new-old.false c.touch.ensures.before c.put.ensures.sets
