use Rattle.std.proofs.Common.{◌∙◌, length, refl, sym, subst}
use Rattle.std.specs.Prelude.{Contains}
use Rattle.std.proofs.lemmas.Option.{slice_get_read}
use Rattle.kept_layout.proofs.BuildingWalls.{is_calm_block}
use Rattle.kept_layout.proofs.calm.is_calm.Goals as goal

pub are_no_literals-requires : goal.are_no_literals-requires
are_no_literals-requires c = λ j h.
    let ss = c.args.blocks.now in
    let is = slice_get_read ss (length ss) c.args.number c.index-blocks-number.result refl c.requires.within c.index-blocks-number.is in
    c.requires.callers c.args.number j c.index-blocks-number.result is (subst (λ xs. Contains xs j) c.deref.ensures.value h)

pub returns-then-is_calm_head : goal.returns-then-is_calm_head
returns-then-is_calm_head c = λ t.
    let ss = c.args.blocks.now in
    let is = slice_get_read ss (length ss) c.args.number c.index-blocks-number.result refl c.requires.within c.index-blocks-number.is in
    is_calm_block ss c.args.number c.index-blocks-number.result c.deref.result.now is c.deref.ensures.value c.requires.known (sym c.is_calm_head.ensures ∙ c.if-is_calm_head.true) (c.are_no_literals.ensures t)
