use Rattle.std.proofs.Common.{◌≡◌, ◌∙◌, ℕ, Option, Some, subst, sym}
use Rattle.std.specs.Prelude.{IfSome}
use Rattle.std.proofs.lemmas.Option.{same_Some}
use Rattle.std.specs.declared.vec.Vec.{Vec}
use Rattle.std.specs.declared.alloc.Global.{Global}
use Rattle.thumb_model.specs.Listing.{code_of, Name}
use Rattle.kept_places.specs.Marks.{rank}
use Rattle.listing_draft.specs.Drafted.{lines_now, name_in, stands, Drafted}
use Rattle.flow_tidy.specs.Tidying.{GoesToEnd}
use Rattle.flow_tidy.specs.Quick.{EndsAt, MayAim}
use Rattle.flow_tidy.proofs.Draftings.{quick_aimed}
use Rattle.flow_tidy.proofs.KnownEnds.{ends_stay}
use Rattle.flow_tidy.proofs.Quickly.{soonest_end}
use Rattle.flow_tidy.proofs.Safes.{safe_aimed}
use Rattle.flow_tidy.proofs.quick.retarget.Goals as goal

-- the label that the branch surely may go to
abbrev IsFound : ℕ → Drafted → ℕ → ℕ → Name → Type 0
IsFound base d p last name = (name_in (stands d last) ≡ Some name) × MayAim base d p name

found : (base : ℕ) (d : Drafted) (p last : ℕ) (o : Option (Vec ℕ Global)) (label : Vec ℕ Global) → o ≡ Some label → IfSome o (λ name. IsFound base d p last name.items) → IsFound base d p last label.items
found base d p last o label e h = subst (λ (x : Option (Vec ℕ Global)). IfSome x (λ name. IsFound base d p last name.items)) e h

-- is the end of its chain
goes_there : (base : ℕ) (d : Drafted) (p last : ℕ) (name : Name) → EndsAt d p last → IsFound base d p last name → GoesToEnd (code_of (lines_now d)) (rank d.gone p) name
goes_there base d p last name h f = subst (GoesToEnd (code_of (lines_now d)) (rank d.gone p)) (same_Some h.label name (sym h.named ∙ f.0)) h.goes

pub returns-in-Some-clause-redirected : goal.returns-in-Some-clause-redirected
returns-in-Some-clause-redirected c =
    let d = c.args.draft.now in
    let is = found c.args.widest.now.base d c.args.place c.args.last c.in_ok-label.field-0 c.in-Some.label c.in-Some.is c.in_ok-label.ensures in
    let there = goes_there c.args.widest.now.base d c.args.place c.args.last c.in-Some.label.items c.requires.end is in
    soonest_end c.args.widest.now.base (lines_now d) (lines_now c.aim.new.self) (rank d.gone c.args.place) c.in-Some.label.items c.requires.later there c.aim.ensures.lines

pub returns-in-Some-clause-quick : goal.returns-in-Some-clause-quick
returns-in-Some-clause-quick c = λ marks dues quick.
    let d = c.args.draft.now in
    let is = found c.args.widest.now.base d c.args.place c.args.last c.in_ok-label.field-0 c.in-Some.label c.in-Some.is c.in_ok-label.ensures in
    let there = goes_there c.args.widest.now.base d c.args.place c.args.last c.in-Some.label.items c.requires.end is in
    quick_aimed d c.aim.new.self c.args.place c.in-Some.label.items marks dues there c.aim.ensures.gone c.aim.ensures.lines quick

pub returns-in-Some-clause-safe : goal.returns-in-Some-clause-safe
returns-in-Some-clause-safe c =
    let d = c.args.draft.now in
    let is = found c.args.widest.now.base d c.args.place c.args.last c.in_ok-label.field-0 c.in-Some.label c.in-Some.is c.in_ok-label.ensures in
    safe_aimed c.args.widest.now d c.aim.new.self c.args.place c.in-Some.label.items c.requires.within c.requires.kept is.1 c.aim.ensures.given c.aim.ensures.gone c.aim.ensures.aims c.aim.ensures.lines c.requires.safe

pub returns-in-Some-clause-ends : goal.returns-in-Some-clause-ends
returns-in-Some-clause-ends c = λ known ends.
    let d = c.args.draft.now in
    let is = found c.args.widest.now.base d c.args.place c.args.last c.in_ok-label.field-0 c.in-Some.label c.in-Some.is c.in_ok-label.ensures in
    let there = goes_there c.args.widest.now.base d c.args.place c.args.last c.in-Some.label.items c.requires.end is in
    ends_stay d c.aim.new.self c.args.place c.in-Some.label.items known there c.aim.ensures.gone c.aim.ensures.lines ends
