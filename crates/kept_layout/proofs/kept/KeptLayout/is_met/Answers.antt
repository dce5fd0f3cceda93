use Rattle.std.proofs.Common.{length, refl}
use Rattle.std.proofs.lemmas.Option.{slice_get_read}
use Rattle.kept_layout.specs.Moves.{news, IsRightIf}
use Rattle.kept_layout.proofs.ShrinkingReach.{called_within, called_right}
use Rattle.kept_layout.proofs.kept.KeptLayout.is_met.Goals as goal

pub are_right_if-requires-clause-within : goal.are_right_if-requires-clause-within
are_right_if-requires-clause-within c =
    let k = c.args.self.now in
    let is = slice_get_read k.blocks.items (length k.blocks.items) c.args.number c.index.result.now refl c.requires.within c.index.ensures in
    called_within k c.args.number c.index.result.now c.deref.result.now c.requires.laid is c.deref.ensures.value

pub returns-then-is_right_if-clause-callers : goal.returns-then-is_right_if-clause-callers
returns-then-is_right_if-clause-callers c = λ t.
    let k = c.args.self.now in
    let is = slice_get_read k.blocks.items (length k.blocks.items) c.args.number c.index.result.now refl c.requires.within c.index.ensures in
    called_right k (IsRightIf c.args.known k (news c.args.self.now c.args.bytes c.args.moved.now.at.items) c.args.moved.now.by) c.args.number c.index.result.now c.deref.result.now is c.deref.ensures.value (c.are_right_if.ensures.all t)
