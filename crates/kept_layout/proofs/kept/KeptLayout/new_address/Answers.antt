use Rattle.std.proofs.Common.{◌∙◌, ◌-◌, length, Some, refl, sym, ap, arith}
use Rattle.std.proofs.lemmas.Option.{slice_get_read}
use Rattle.kept_layout.specs.Moves.{news, wall_of}
use Rattle.kept_layout.proofs.ShrinkingPlaces.{address_is, moved_among, moved_before, moved_behind}
use Rattle.kept_layout.proofs.Walls.{end_news, news_behind, news_calm}
use Rattle.kept_layout.proofs.kept.KeptLayout.new_address.Goals as goal

pub returns-then-number-self : goal.returns-then-number-self
returns-then-number-self c =
    let k = c.args.self.now in
    let m = c.args.moved.now in
    moved_before k (news k c.args.bytes m.at.items) m.by c.args.number c.requires.is (omega arith) ∙ address_is k c.args.number c.address-old.result c.requires.laid c.requires.within c.address-old.ensures

pub returns-then-number-wall : goal.returns-then-number-wall
returns-then-number-wall c =
    let k = c.args.self.now in
    let m = c.args.moved.now in
    let end = end_news k c.args.bytes m.at.items c.requires.laid in
    moved_among k (news k c.args.bytes m.at.items) m.by c.args.number c.requires.is (omega arith) (omega arith)
    ∙ news_calm k c.args.bytes m.at.items c.args.number c.address-old.result c.requires.laid (omega arith) (omega arith) (address_is k c.args.number c.address-old.result c.requires.laid c.requires.within c.address-old.ensures)
    ∙ ap (λ n. Some n) (sym c.saturating_sub.ensures)

pub overflow_sub-result : goal.overflow_sub-result
overflow_sub-result c =
    let k = c.args.self.now in
    let end = end_news k c.args.bytes c.args.moved.now.at.items c.requires.laid in
    c.requires.is.low c.args.number c.address-old.result (omega arith) (address_is k c.args.number c.address-old.result c.requires.laid c.requires.within c.address-old.ensures)

pub returns-then-number-wall-2 : goal.returns-then-number-wall-2
returns-then-number-wall-2 c =
    let k = c.args.self.now in
    let m = c.args.moved.now in
    let end = end_news k c.args.bytes m.at.items c.requires.laid in
    moved_among k (news k c.args.bytes m.at.items) m.by c.args.number c.requires.is (omega arith) (omega arith)
    ∙ news_behind k c.args.bytes m.at.items c.args.number c.requires.laid (omega arith)
    ∙ slice_get_read m.at.items (length m.at.items) (c.args.number - wall_of k) c.index.result.now refl (omega arith) (c.index.ensures ∙ ap (λ n. Rattle.std.specs.Prelude.slice_index_or m.at.items n c.index.result.now) (omega arith))

pub returns-else-number-wall-2 : goal.returns-else-number-wall-2
returns-else-number-wall-2 c =
    let k = c.args.self.now in
    let m = c.args.moved.now in
    let end = end_news k c.args.bytes m.at.items c.requires.laid in
    moved_behind k (news k c.args.bytes m.at.items) m.by c.args.number c.address-old.result c.requires.is (omega arith) (address_is k c.args.number c.address-old.result c.requires.laid c.requires.within c.address-old.ensures)
