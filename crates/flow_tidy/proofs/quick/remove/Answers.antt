use Rattle.std.proofs.Common.{◌≡◌, ◌∙◌, ◌<◌, ℕ, suc, Bool, true, false, List, [], length, replicate, Option, ap, subst, sym}
use Rattle.std.specs.Prelude.{slice_set, IfNone, IfSome}
use Rattle.thumb_model.specs.Listing.{code_of}
use Rattle.thumb_model.specs.Replaced.{replaced, replaced_lines}
use Rattle.kept_places.specs.Marks.{is_gone, rank}
use Rattle.listing_parser.specs.Parsing.{own_line}
use Rattle.listing_draft.specs.Drafted.{lines_now, Drafted}
use Rattle.listing_draft.proofs.Drafts.{set_length}
use Rattle.flow_tidy.specs.DuePlaces.{lets_on, AreDue}
use Rattle.flow_tidy.specs.Quick.{left}
use Rattle.flow_tidy.proofs.Quickly.{code_goes, due_again, due_before, due_first}
use Rattle.flow_tidy.proofs.Settled.{MayVanish}
use Rattle.flow_tidy.proofs.quick.remove.Goals as goal

-- what is due in a draft from which the instruction at a place was removed, by equal marks
left_so : (d e : Drafted) (p : ℕ) (old new : List Bool) → e.gone ≡ slice_set d.gone p true → new ≡ old → AreDue (code_of (lines_now e)) (left (slice_set d.gone p true) old) → AreDue (code_of (lines_now e)) (left e.gone new)
left_so d e p old new f g a = subst (λ (gs : List Bool). AreDue (code_of (lines_now e)) (left gs new)) (sym f) (subst (λ (ms : List Bool). AreDue (code_of (lines_now e)) (left (slice_set d.gone p true) ms)) (sym g) a)

code_left : (d same e : Drafted) (p : ℕ) → same ≡ d → MayVanish (code_of (lines_now d)) (rank d.gone p) → lines_now e ≡ replaced_lines own_line (rank same.gone p) 1 [] (lines_now same) → code_of (lines_now e) ≡ replaced (code_of (lines_now d)) (rank d.gone p) 1 []
code_left d same e p f goes l =
    code_goes (lines_now d) (lines_now e) (rank d.gone p) goes (subst (λ (x : Drafted). lines_now e ≡ replaced_lines own_line (rank x.gone p) 1 [] (lines_now x)) f l)

gone_left : (d same e : Drafted) (p : ℕ) → same ≡ d → e.gone ≡ slice_set same.gone p true → e.gone ≡ slice_set d.gone p true
gone_left d same e p f g = subst (λ (x : Drafted). e.gone ≡ slice_set x.gone p true) f g

abbrev Before : List Bool → ℕ → ℕ → Type 0
Before gone p q = (q < p) × (is_gone gone q ≡ false) × (suc (rank gone q) ≡ rank gone p)

pub returns-then-is_loose-clause-due : goal.returns-then-is_loose-clause-due
returns-then-is_loose-clause-due c =
    let d = c.args.draft.now in
    let same = c.lets_on-is_loose.ensures.same in
    let less = code_left d c.lets_on-is_loose.new.draft c.remove.new.self c.args.place same c.requires.goes c.remove.ensures.lines in
    let gone = gone_left d c.lets_on-is_loose.new.draft c.remove.new.self c.args.place same c.remove.ensures.gone in
    let many : length c.take.new.self ≡ length d.gone = ap length c.take.ensures ∙ set_length c.args.due.now c.args.place false ∙ c.requires.many in
    left_so d c.remove.new.self c.args.place (replicate (length c.take.new.self) true) c.put_all.new.self gone c.put_all.ensures
    (due_again d.gone c.args.place (code_of (lines_now d)) (code_of (lines_now c.remove.new.self)) c.requires.within c.requires.kept c.requires.goes less c.args.due.now (length c.take.new.self) c.requires.many many c.requires.due)

pub returns-in-None-clause-due : goal.returns-in-None-clause-due
returns-in-None-clause-due c =
    let d = c.args.draft.now in
    let same = c.lets_on-is_loose.ensures.same in
    let less = code_left d c.lets_on-is_loose.new.draft c.remove.new.self c.args.place same c.requires.goes c.remove.ensures.lines in
    let gone = gone_left d c.lets_on-is_loose.new.draft c.remove.new.self c.args.place same c.remove.ensures.gone in
    let quiet : lets_on (code_of (lines_now d)) (rank d.gone c.args.place) ≡ false = sym c.lets_on-is_loose.ensures.on ∙ c.if-is_loose.false in
    let none : rank c.lets_on-is_loose.new.draft.gone c.args.place ≡ 0 = subst (λ (o : Option ℕ). IfNone o (rank c.lets_on-is_loose.new.draft.gone c.args.place ≡ 0)) c.in-None.is c.previous-before.ensures.none in
    let first : rank d.gone c.args.place ≡ 0 = subst (λ (x : Drafted). rank x.gone c.args.place ≡ 0) same none in
    left_so d c.remove.new.self c.args.place (slice_set c.args.due.now c.args.place false) c.take.new.self gone c.take.ensures
    (due_first d.gone c.args.place (code_of (lines_now d)) (code_of (lines_now c.remove.new.self)) c.requires.within c.requires.kept c.requires.goes less c.args.due.now c.requires.many c.requires.due quiet first)

pub returns-in-Some-clause-due : goal.returns-in-Some-clause-due
returns-in-Some-clause-due c =
    let d = c.args.draft.now in
    let q : ℕ = c.in-Some.before in
    let same = c.lets_on-is_loose.ensures.same in
    let less = code_left d c.lets_on-is_loose.new.draft c.remove.new.self c.args.place same c.requires.goes c.remove.ensures.lines in
    let gone = gone_left d c.lets_on-is_loose.new.draft c.remove.new.self c.args.place same c.remove.ensures.gone in
    let quiet : lets_on (code_of (lines_now d)) (rank d.gone c.args.place) ≡ false = sym c.lets_on-is_loose.ensures.on ∙ c.if-is_loose.false in
    let some : Before c.lets_on-is_loose.new.draft.gone c.args.place q = subst (λ (o : Option ℕ). IfSome o (Before c.lets_on-is_loose.new.draft.gone c.args.place)) c.in-Some.is c.previous-before.ensures.some in
    let before : Before d.gone c.args.place q = subst (λ (x : Drafted). Before x.gone c.args.place q) same some in
    left_so d c.remove.new.self c.args.place (slice_set (slice_set c.args.due.now c.args.place false) q true) c.put.new.self gone (c.put.ensures ∙ ap (λ (ms : List Bool). slice_set ms q true) c.take.ensures)
    (due_before d.gone c.args.place (code_of (lines_now d)) (code_of (lines_now c.remove.new.self)) c.requires.within c.requires.kept c.requires.goes less c.args.due.now q c.requires.many c.requires.due quiet before.0 before.1 before.2)
