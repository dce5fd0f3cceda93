use Rattle.std.proofs.Common.{◌≡◌, length, refl, subst}
use Rattle.std.proofs.lemmas.Option.{slice_get_read}
use Rattle.kept_layout.specs.declared.block.Block.{Block}
use Rattle.kept_layout.specs.Blocks.{HasSlack}
use Rattle.kept_layout.specs.Moves.{news, moved_starts}
use Rattle.kept_layout.proofs.kept.KeptLayout.own_slack.Goals as goal

pub returns : goal.returns
returns c = λ at s e f.
    let k = c.args.self.now in
    let m = c.args.moved.now in
    let is = slice_get_read k.blocks.items (length k.blocks.items) c.args.number c.index.result.now refl c.requires.within c.index.ensures in
    let one : c.index.result.now ≡ s = cc in
    let there : c.new_address.result ≡ at = let found = c.new_address.ensures in cc in
    let slack = c.slack_of.ensures (moved_starts k (news k c.args.bytes m.at.items) m.by) (c.requires.right c.index.result.now c.new_address.result is c.new_address.ensures) in
    subst (λ n. HasSlack c.slack_of.result n s.head) there (subst (λ (x : Block). HasSlack c.slack_of.result c.new_address.result x.head) one slack)
