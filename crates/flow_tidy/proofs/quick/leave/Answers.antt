use Rattle.std.proofs.Common.{refl}
use Rattle.flow_tidy.proofs.Draftings.{quick_left, IsLeft}
use Rattle.flow_tidy.proofs.Ending.{forgotten}
use Rattle.flow_tidy.proofs.Safes.{safe_left}
use Rattle.flow_tidy.proofs.quick.leave.Goals as goal

pub returns-clause-quick : goal.returns-clause-quick
returns-clause-quick c = λ marks quick.
    let d = c.args.draft.now in
    let e = c.remove.new.draft in
    let r = c.remove.ensures in
    let here : IsLeft d e c.args.place c.remove.new.due = record { given = r.given; aims = r.aims; gone = r.gone; lines = r.lines; many = r.many; due = r.due } in
    quick_left d e c.args.place marks c.args.due.now c.remove.new.due c.requires.within c.requires.kept c.requires.goes quick here

pub returns-clause-safe : goal.returns-clause-safe
returns-clause-safe c = λ widest safe.
    let d = c.args.draft.now in
    let e = c.remove.new.draft in
    let r = c.remove.ensures in
    let here : IsLeft d e c.args.place c.remove.new.due = record { given = r.given; aims = r.aims; gone = r.gone; lines = r.lines; many = r.many; due = r.due } in
    safe_left widest d e c.args.place c.remove.new.due c.requires.within c.requires.kept c.requires.goes safe here

pub returns-clause-ends : goal.returns-clause-ends
returns-clause-ends c = λ ends.
    forgotten c.args.draft.now c.args.draft.now c.remove.new.draft c.args.place c.args.ends.now c.forget.new.self refl c.remove.ensures.gone ends c.forget.ensures
