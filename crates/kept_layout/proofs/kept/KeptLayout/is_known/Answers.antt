use Rattle.std.proofs.Common.{◌≡◌, ◌∙◌, ◌+◌, length, refl, ap, arith}
use Rattle.std.specs.Prelude.{nat_lt}
use Rattle.std.proofs.lemmas.Option.{slice_get_read}
use Rattle.kept_layout.specs.declared.block.Block.{Block}
use Rattle.kept_layout.specs.Blocks.{later_end}
use Rattle.kept_layout.specs.Moves.{end_of, news}
use Rattle.kept_layout.proofs.Walls.{end_news}
use Rattle.kept_layout.proofs.kept.KeptLayout.is_known.Goals as goal

pub returns : goal.returns
returns c = λ bytes s e.
    let k = c.args.self.now in
    let is = slice_get_read k.blocks.items (length k.blocks.items) c.args.number c.index.result.now refl c.requires.within c.index.ensures in
    let one : c.index.result.now ≡ s = cc in
    let later : c.later_end.result ≡ later_end c.args.number s.head = c.later_end.ensures ∙ ap (λ (x : Block). later_end c.args.number x.head) one in
    let end = end_news k bytes c.args.moved.now.at.items c.requires.laid in
    let sum : c.wall.result + c.len.result ≡ end_of k (news k bytes c.args.moved.now.at.items) = omega arith in
    ap (nat_lt c.later_end.result) sum ∙ ap (λ n. nat_lt n (end_of k (news k bytes c.args.moved.now.at.items))) later
