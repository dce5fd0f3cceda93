use Rattle.std.proofs.Common.{◌≡◌, ◌∙◌, ◌+◌, ℕ, List, Some, length, get_or, ap, sym, subst, arith}
use Rattle.std.specs.Prelude.{slice_get, Contains}
use Rattle.std.proofs.lemmas.List.Elements.{Contains-get_or}
use Rattle.std.proofs.lemmas.Option.{get_or_from_slice_get}
use Rattle.thumb_model.proofs.Lists.{present_at}
use Rattle.kept_layout.specs.Moves.{news}
use Rattle.kept_layout.proofs.Nearing.{tried_all, tried_more}
use Rattle.kept_layout.proofs.kept.KeptLayout.slack_behind.Goals as goal

pub own_slack-requires-clause-within : goal.own_slack-requires-clause-within
own_slack-requires-clause-within c =
    let items = c.deref-number-items.result.now in
    let number : ℕ = get_or items c.loop-number.number-index 0 in
    c.requires.laid.absolute_within number (subst (λ xs. Contains xs number) c.deref-number-items.ensures.value (Contains-get_or items c.loop-number.number-index 0 c.loop-number-test.true))

pub loop-number-preserved : goal.loop-number-preserved
loop-number-preserved c =
    let k = c.args.self.now in
    let m = c.args.moved.now in
    let items = c.deref-number-items.result.now in
    let i = c.loop-number.number-index in
    let number : ℕ = get_or items i 0 in
    let there = present_at items i c.loop-number-test.true in
    let is : slice_get k.absolute.items i ≡ Some number =
    ap (λ (xs : List ℕ). slice_get xs i) (sym c.deref-number-items.ensures.value) ∙ there.1 ∙ ap (λ n. Some n) (sym (get_or_from_slice_get items i there.0 0 there.1)) in
    tried_more k (news k c.args.bytes m.at.items) m.by i (i + 1) c.loop-number.slack c.own_slack.result c.min-slack.result number c.loop-number.invariant is c.own_slack.ensures c.min-slack.ensures (omega arith)

pub returns : goal.returns
returns c =
    let k = c.args.self.now in
    let many = ap (λ (xs : List ℕ). length xs) c.deref-number-items.ensures.value in
    tried_all k (news c.args.self.now c.args.bytes c.args.moved.now.at.items) c.args.moved.now.by c.loop-number.number-index c.loop-number.slack c.requires.laid (omega arith) c.loop-number.invariant
