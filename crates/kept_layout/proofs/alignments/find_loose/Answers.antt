use Rattle.std.proofs.Common.{◌+◌, length, refl, arith}
use Rattle.std.proofs.lemmas.Option.{slice_get_read, slice_get_within}
use Rattle.kept_layout.proofs.BuildingAlignments.{found_one, found_other}
use Rattle.kept_layout.proofs.alignments.find_loose.Goals as goal

pub loop-number-preserved-then-not-is_loose : goal.loop-number-preserved-then-not-is_loose
loop-number-preserved-then-not-is_loose c =
    let ss = c.args.blocks.now in
    let is = slice_get_read ss (length ss) c.loop-number.number c.index-blocks-number.result refl (omega arith) c.index-blocks-number.is in
    found_other c.args.of ss c.loop-number.number (c.loop-number.number + 1) c.loop-number.loose.items c.index-blocks-number.result c.loop-number.invariant is (λ t. let e = c.is_loose.ensures in let f = c.if-not-is_loose.true in grind arith) (omega arith)

pub loop-number-preserved : goal.loop-number-preserved
loop-number-preserved c = found_one c.args.of c.args.blocks.now c.loop-number.number (c.loop-number.number + 1) c.loop-number.loose.items c.push.new.self.items c.loop-number.invariant c.in_ok-push.ensures.items (omega arith) (omega arith)

pub returns-clause-all : goal.returns-clause-all
returns-clause-all c = λ j s e f. let within = slice_get_within c.args.blocks.now j s e in c.loop-number.invariant.all j s (omega arith) e f
