use Rattle.std.proofs.Common.{sym, ◌∙◌, arith}
use Rattle.seq_enum.proofs.Mnemonics.{some_members, parts_at, none_made, made_back}
use Rattle.seq_enum.proofs.members.member.Goals as goal

pub parts_at-requires-clause-some : goal.parts_at-requires-clause-some
parts_at-requires-clause-some c =
    some_members c.args.k c.args.pool.now c.args.kind c.args.place (omega (arith, c.requires.few)) c.requires.listed c.requires.within

pub returns-in_err-parts_at : goal.returns-in_err-parts_at
returns-in_err-parts_at c =
    c.from_residual.ensures
    ∙ none_made _ (parts_at c.args.k c.args.pool.now c.args.kind c.args.place (omega (arith, c.requires.few)) c.requires.listed c.requires.within ∙ sym c.parts_at.ensures ∙ c.in_err-parts_at.was)

pub returns : goal.returns
returns c =
    made_back _ _ _
    (parts_at c.args.k c.args.pool.now c.args.kind c.args.place (omega (arith, c.requires.few)) c.requires.listed c.requires.within ∙ sym c.parts_at.ensures ∙ c.in_ok-parts_at.was)
    c.rebuilt.ensures
