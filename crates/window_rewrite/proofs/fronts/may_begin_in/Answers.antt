use Rattle.std.proofs.Common.{◌≡◌, ◌∙◌, false, ap, sym}
use Rattle.window_rewrite.specs.Rules.{is_marked}
use Rattle.window_rewrite.specs.Hashes.{next_hash, seen}
use Rattle.window_rewrite.proofs.Heads.{none_begin}
use Rattle.window_rewrite.proofs.fronts.may_begin_in.Goals as goal

pub returns : goal.returns
returns c = λ f rows e most.
    let missing : is_marked c.args.marks.now.fronts.items (next_hash 0 (seen c.args.hidden c.args.first)) ≡ false =
    sym (ap (is_marked c.args.marks.now.fronts.items) (c.next_hash.ensures.value ∙ ap (next_hash 0) c.seen.ensures)) ∙ sym c.has_front.ensures ∙ f in
    none_begin c.args.marks.now c.args.hidden c.args.first rows missing e most
