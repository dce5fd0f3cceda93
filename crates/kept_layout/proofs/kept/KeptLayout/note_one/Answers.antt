use Rattle.std.proofs.Common.{◌≡◌, length, refl, ap, subst}
use Rattle.std.proofs.lemmas.Option.{slice_get_read}
use Rattle.kept_layout.specs.declared.block.Block.{Block}
use Rattle.kept_layout.specs.Moves.{IsNote}
use Rattle.kept_layout.proofs.ShrinkingNotes.{same_set, set_else}
use Rattle.kept_layout.proofs.kept.KeptLayout.note_one.Goals as goal
use Rattle.common_lemmas.proofs.Lists.{get_set}

pub returns-clause-same : goal.returns-clause-same
returns-clause-same c =
    let k = c.args.self.now in
    let is = slice_get_read k.blocks.items (length k.blocks.items) c.args.number c.index_mut.result.now refl c.requires.within c.index_mut.ensures.value in
    same_set k.blocks.items c.args.number c.index_mut.result.now _ is refl

pub returns-clause-others : goal.returns-clause-others
returns-clause-others c = λ j d. set_else c.args.self.now.blocks.items c.args.number j _ d

pub returns-clause-note : goal.returns-clause-note
returns-clause-note c = λ s d e f.
    let k = c.args.self.now in
    let was = c.address-old.ensures s e in
    let here = get_set k.blocks.items c.args.number (record c.index_mut.result.now { at = c.in_ok-at.at }) c.requires.within in
    let one : (record c.index_mut.result.now { at = c.in_ok-at.at }) ≡ d = cc in
    let at : c.in_ok-at.at ≡ d.at = ap (λ (x : Block). x.at) one in
    subst (λ a. IsNote k c.args.bytes c.args.moved.now.at.items c.args.moved.now.by c.args.lag.now c.args.number a d.at) was (subst (λ a. IsNote k c.args.bytes c.args.moved.now.at.items c.args.moved.now.by c.args.lag.now c.args.number c.address-old.result a) at c.in_ok-at.ensures)
