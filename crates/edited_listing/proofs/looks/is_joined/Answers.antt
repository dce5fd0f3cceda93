use Rattle.std.proofs.Common.{◌∙◌, ◌-◌, ap, arith, false, suc}
use Rattle.window_runs.specs.Rows.{rows_from}
use Rattle.edited_listing.specs.Edited.{Edited}
use Rattle.edited_listing.specs.Known.{all_from, joined_at}
use Rattle.edited_listing.specs.Looks.{home_of_place}
use Rattle.edited_listing.proofs.Looking.{home_within, homes_follow, joined_follows}
use Rattle.edited_listing.proofs.looks.is_joined.Goals as goal

pub is_joined-requires-clause-order : goal.is_joined-requires-clause-order
is_joined-requires-clause-order c =
    let e : Edited = record { given = c.args.given.now; stands = c.args.stands.now } in
    omega (arith, homes_follow e c.args.before c.args.place c.requires.edited c.requires.follows, c.home-from.ensures, c.home-to.ensures)

pub is_joined-requires-clause-within : goal.is_joined-requires-clause-within
is_joined-requires-clause-within c =
    let e : Edited = record { given = c.args.given.now; stands = c.args.stands.now } in
    omega (arith, home_within e c.args.place c.requires.edited c.requires.follows.q_within c.requires.follows.q_kept, c.home-to.ensures)

pub returns : goal.returns
returns c =
    let e : Edited = record { given = c.args.given.now; stands = c.args.stands.now } in
    c.is_joined.ensures
    ∙ ap (λ n. all_from (joined_at (rows_from false c.args.given.now)) (suc n) (c.home-to.result - n)) c.home-from.ensures
    ∙ ap (λ n. all_from (joined_at (rows_from false c.args.given.now)) (suc (home_of_place c.args.stands.now c.args.before)) (n - home_of_place c.args.stands.now c.args.before)) c.home-to.ensures
    ∙ joined_follows e c.args.before c.args.place c.requires.edited c.requires.follows
