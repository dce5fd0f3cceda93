use Rattle.std.proofs.Common.{◌≡◌, subst, sym}
use Rattle.std.specs.Prelude.{[]}
use Rattle.thumb_model.specs.Replaced.{replaced_lines}
use Rattle.kept_places.specs.Marks.{rank}
use Rattle.listing_parser.specs.Parsing.{own_line}
use Rattle.listing_draft.specs.Drafted.{lines_now, Drafted}
use Rattle.flow_tidy.specs.Quick.{IsQuick, IsWay}
use Rattle.flow_tidy.specs.declared.outcome.Way.{Way}
use Rattle.flow_tidy.proofs.Quickly.{soonest_next}
use Rattle.flow_tidy.proofs.quick.change_at.Goals as goal

pub returns-in-Next-clause-outcome : goal.returns-in-Next-clause-outcome
returns-in-Next-clause-outcome c =
    let d = c.args.draft.now in
    let e = c.leave.new.draft in
    let next = subst (λ (w : Way). IsWay w d c.args.place) c.in-Next.is c.way_of.ensures.way in
    let lines = subst (λ (x : Drafted). lines_now e ≡ replaced_lines own_line (rank x.gone c.args.place) 1 [] (lines_now x)) c.way_of.ensures.same c.leave.ensures.lines in
    soonest_next c.args.widest.now.base (lines_now d) (lines_now e) (rank d.gone c.args.place) next lines

pub returns-in-Next-clause-quick : goal.returns-in-Next-clause-quick
returns-in-Next-clause-quick c =
    c.leave.ensures.quick c.args.reached.now (subst (λ (x : Drafted). IsQuick x c.args.reached.now c.args.due.now) (sym c.way_of.ensures.same) c.requires.quick)

pub change_idle-requires-clause-quick : goal.change_idle-requires-clause-quick
change_idle-requires-clause-quick c = subst (λ (x : Drafted). IsQuick x c.args.reached.now c.args.due.now) (sym c.way_of.ensures.same) c.requires.quick

pub change_idle-requires-in-Refused-clause-quick : goal.change_idle-requires-in-Refused-clause-quick
change_idle-requires-in-Refused-clause-quick c =
    c.in_ok-retarget-in-End.ensures.quick c.args.reached.now c.args.due.now (subst (λ (x : Drafted). IsQuick x c.args.reached.now c.args.due.now) (sym c.way_of.ensures.same) c.requires.quick)

pub returns-in-Made-clause-quick : goal.returns-in-Made-clause-quick
returns-in-Made-clause-quick c =
    c.in_ok-retarget-in-End.ensures.quick c.args.reached.now c.args.due.now (subst (λ (x : Drafted). IsQuick x c.args.reached.now c.args.due.now) (sym c.way_of.ensures.same) c.requires.quick)

pub returns-in-Unsure-clause-quick : goal.returns-in-Unsure-clause-quick
returns-in-Unsure-clause-quick c =
    c.in_ok-retarget-in-End.ensures.quick c.args.reached.now c.args.due.now (subst (λ (x : Drafted). IsQuick x c.args.reached.now c.args.due.now) (sym c.way_of.ensures.same) c.requires.quick)
