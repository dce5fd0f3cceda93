-- What is known of lines after a change: where they lie, what is reached, and what is due.
use Rattle.std.proofs.Common.{◌≡◌, ◌≢◌, ◌↔◌, ◌∙◌, ◌⊎◌, inl, inr, ℕ, zero, suc, ◌+◌, ◌-◌, ◌<◌, Bool, true, false, List, [], ◌++◌, length, take, drop, replicate, Option, Some, refl, sym, ap, subst, arith}
use Rattle.std.specs.Prelude.{slice_get, slice_set}
use Rattle.std.specs.List.{remove}
use Rattle.std.proofs.lemmas.Bool.{cases_eq, cases_lt}
use Rattle.std.proofs.lemmas.List.Edits.{length-remove}
use Rattle.std.proofs.lemmas.Option.{slice_get_within}
use Rattle.thumb_instr.specs.declared.instr.Instr.{Instr}
use Rattle.thumb_model.specs.Listing.{Name, Mention, Op, ListingLine, Code, code_of, places_of}
use Rattle.thumb_model.specs.Layout.{Layable}
use Rattle.thumb_model.specs.Replaced.{moved, replaced}
use Rattle.thumb_model.proofs.Lists.{get_back, get_drop, get_take, take_all}
use Rattle.code_flow.specs.Marks.{AreMarks}
use Rattle.thumb_model.specs.Flow.{Reached}
use Rattle.label_layout.specs.Addresses.{Addresses, AreAddresses}
use Rattle.flow_tidy.specs.Tidying.{Setting, Cause, ToNext, ToEnd, Idle, GoesToNext, GoesToEnd, IsIdle, HasCause, lines_by}
use Rattle.flow_tidy.specs.DuePlaces.{before_is_due, lets_on, AreDue, IsCaused, IsKnown, IsLeast, IsNextAt}
use Rattle.flow_tidy.proofs.Aimed.{aimed_code, code_aimed}
use Rattle.flow_tidy.proofs.AimedRuns.{reached_same}
use Rattle.flow_tidy.proofs.Aims.{addresses_stay}
use Rattle.flow_tidy.proofs.Causes.{aimed_caused, idle_unlabelled, left_caused, MayLeave}
use Rattle.flow_tidy.proofs.Ends.{one_place_less, same_length}
use Rattle.flow_tidy.proofs.Going.{MayGo, origin, reached_back, reached_forth}
use Rattle.flow_tidy.proofs.Making.{stands_within, NoneBefore}
use Rattle.flow_tidy.proofs.Removed.{code_without, idle_may_go, next_may_go}
use Rattle.listing_draft.proofs.Drafts.{set_length as length_set}
use Rattle.common_lemmas.proofs.Lists.{get_set, get_front, get_unset}

-- ---- lists ----

get_removed : {A : Type 0} (xs : List A) (p q : ℕ) → p < length xs → q ≢ p → slice_get (remove xs p) (moved p 1 q) ≡ slice_get xs q
get_removed xs p q h ne =
    let front : length (take p xs) ≡ p = take_all p xs (omega arith) in
    elim (cases_lt q p) [
      | inl lt ↦ ap (slice_get (remove xs p)) (let e : moved p 1 q ≡ q = omega arith in e) ∙ get_front (take p xs) (drop (suc p) xs) q (omega arith) ∙ get_take p xs q lt
      | inr ge ↦
          ap (slice_get (remove xs p)) (let e : moved p 1 q ≡ q - 1 = omega arith in e)
          ∙ get_back (take p xs) (drop (suc p) xs) (q - 1 - p) (q - 1) (omega arith)
          ∙ get_drop (suc p) xs (q - 1 - p) q (omega arith)
    ]

get_all : (n p : ℕ) → p < n → slice_get (replicate n true) p ≡ Some true
get_all zero p h = absurd (omega arith)
get_all (suc n) zero h = refl
get_all (suc n) (suc p) h = get_all n p (omega arith)

length_all : (n : ℕ) → length (replicate n true) ≡ n
length_all zero = refl
length_all (suc n) = ap suc (length_all n)

-- ---- what is due ----

pub caused_within : (code : Code) (p : ℕ) → IsCaused code p → p < length code.places
caused_within code p c = stands_within code p c.cause c.is

pub all_due : (code : Code) (n : ℕ) → n ≡ length code.places → AreDue code (replicate n true)
all_due code n e = record { len = length_all n ∙ e; each = λ p c. let w = caused_within code p c in get_all n p (omega arith) }

pub still_due : (code : Code) (due : List Bool) (p : ℕ) → AreDue code due → (IsCaused code p → ⊥) → AreDue code (slice_set due p false)
still_due code due p d never = record {
  len = length_set due p false ∙ d.len;
  each = λ q c. get_unset due p q false (λ e. never (subst (IsCaused code) e c)) ∙ d.each q c;
}

put_keeps : (due : List Bool) (p r : ℕ) → slice_get due r ≡ Some true → slice_get (before_is_due p due) r ≡ Some true
put_keeps due zero r e = e
put_keeps due (suc p) r e = elim (cases_eq r p) [
  | inl same ↦ ap (slice_get (slice_set due p true)) same ∙ get_set due p true (let w = slice_get_within due r true e in omega arith)
  | inr ne ↦ get_unset due p r true ne ∙ e
]

put_here : (due : List Bool) (p q : ℕ) → q + 1 ≡ p → q < length due → slice_get (before_is_due p due) q ≡ Some true
put_here due zero q e h = absurd (omega arith)
put_here due (suc p) q e h = let same : q ≡ p = omega arith in ap (slice_get (slice_set due p true)) same ∙ get_set due p true (omega arith)

put_length : (due : List Bool) (p : ℕ) → length (before_is_due p due) ≡ length due
put_length due zero = refl
put_length due (suc p) = length_set due p true

one_less : (code : Code) (p : ℕ) → p < length code.places → length (replaced code p 1 []).places + 1 ≡ length code.places
one_less code p h = ap (λ n. length (take p code.places ++ drop n code.places) + 1) (let e : p + 1 ≡ suc p = omega arith in e) ∙ length-remove code.places p h

pub due_left : (code : Code) (p : ℕ) (due : List Bool) → MayLeave code p → AreDue code due → AreDue (replaced code p 1 []) (before_is_due p (remove due p))
due_left code p due m d =
    let within : p < length code.places = slice_get_within code.places p _ m.may.stands in
    let places = one_less code p within in
    let marks = length-remove due p (let l = d.len in omega arith) in
    record {
      len = let l = d.len in let k = put_length (remove due p) p in omega arith;
      each = λ r c.
          let o = origin code p m.may r in
          let was = left_caused code p m o.0 c.cause o.1 (subst (λ x. HasCause (replaced code p 1 []) x c.cause) (sym o.2) c.is) in
          elim was [
            | inl before ↦ (
                let same : o.0 ≡ r = omega (arith, o.2, before) in
                ap (slice_get (before_is_due p (remove due p))) (sym same) ∙ put_here (remove due p) p o.0 before (let l = d.len in omega arith))
            | inr caused ↦ put_keeps (remove due p) p r (ap (slice_get (remove due p)) (sym o.2) ∙ get_removed due p o.0 (let l = d.len in omega arith) o.1 ∙ d.each o.0 caused)
          ];
    }

pub due_all : (code : Code) (p : ℕ) (due : List Bool) → MayGo code p → AreDue code due → AreDue (replaced code p 1 []) (replicate (length (remove due p)) true)
due_all code p due m d =
    let within : p < length code.places = slice_get_within code.places p _ m.stands in
    let places = one_less code p within in
    let marks = length-remove due p (let l = d.len in omega arith) in
    all_due (replaced code p 1 []) (length (remove due p)) (let l = d.len in omega arith)

-- before the least that is due no change is possible
pub none_before_least : (s : Setting) (p : ℕ) (ls : List ListingLine) (addresses : Addresses) (marks dues : List Bool) → IsKnown ls addresses marks dues → IsLeast dues p → NoneBefore s p ls
none_before_least s p ls addresses marks dues k l = λ o q. elim (cases_lt o.place p) [
  | inl lt ↦ absurd (l.free o.place lt (k.due.each o.place (record { cause = o.cause; is = q.cause })))
  | inr ge ↦ ge
]

-- ---- what is reached ----

pub marks_left : (code : Code) (p : ℕ) (marks : List Bool) → MayGo code p → AreMarks code marks → AreMarks (replaced code p 1 []) (remove marks p)
marks_left code p marks m a =
    let within : p < length code.places = slice_get_within code.places p _ m.stands in
    let places = one_less code p within in
    let less = length-remove marks p (let l = a.len in omega arith) in
    record {
      len = let l = a.len in omega arith;
      says = λ r mark e.
          let o = origin code p m r in
          let was : slice_get marks o.0 ≡ Some mark = sym (get_removed marks p o.0 (let l = a.len in omega arith) o.1) ∙ ap (slice_get (remove marks p)) o.2 ∙ e in
          let says = a.says o.0 mark was in
          subst (λ x. (mark ≡ true) ↔ Reached (replaced code p 1 []) x) o.2
          (λ h. reached_forth code p m o.0 (says.0 h), λ h. says.1 (reached_back code p m (moved p 1 o.0) h o.0 refl o.1));
    }

-- ---- a redirected branch ----

-- what is reached and due stays
pub marks_aimed : (code : Code) (p : ℕ) (label : Name) (marks : List Bool) → GoesToEnd code p label → AreMarks code marks → AreMarks (aimed_code p label code) marks
marks_aimed code p label marks g a = record {
  len = a.len ∙ sym (same_length p label code.places);
  says = λ q mark e. let says = a.says q mark e in let same = reached_same code p label g q in (λ t. same.0 (says.0 t), λ r. says.1 (same.1 r));
}

pub due_aimed : (code : Code) (p : ℕ) (label : Name) (due : List Bool) → GoesToEnd code p label → AreDue code due → AreDue (aimed_code p label code) due
due_aimed code p label due g d = record {
  len = d.len ∙ sym (same_length p label code.places);
  each = λ q c. elim (cases_eq q p) [
    | inl same ↦ d.each q (record { cause = ToEnd label; is = subst (λ x. GoesToEnd code x label) (sym same) g })
    | inr ne ↦ d.each q (aimed_caused code p label g q c.cause ne c.is)
  ];
}

-- ---- changes ----

abbrev pub MayVanish : Code → ℕ → Type 0
MayVanish code p = GoesToNext code p ⊎ IsIdle code p

pub may_go : (code : Code) (p : ℕ) → MayVanish code p → MayGo code p
may_go code p (inl g) = next_may_go code p g
may_go code p (inr h) = idle_may_go code p h

pub may_leave : (code : Code) (p : ℕ) → MayVanish code p → lets_on code p ≡ false → MayLeave code p
may_leave code p (inl g) quiet = record { may = next_may_go code p g; labelled = λ x e. g; quiet = quiet }
may_leave code p (inr h) quiet = record { may = idle_may_go code p h; labelled = λ x e. idle_unlabelled code p h x e; quiet = quiet }

-- a change that leaves fewer places takes one away
pub record Vanishes (ls new : List ListingLine) (p : ℕ) : Type 0 where
  pub vanishes : MayVanish (code_of ls) p
  pub code : code_of new ≡ replaced (code_of ls) p 1 []

pub fewer_places : (s : Setting) (p : ℕ) (ls new : List ListingLine) → IsNextAt s p ls new → length (places_of new) < length (places_of ls) → Vanishes ls new p
fewer_places s p ls new n less = by n.cause n.first.possible.cause n.lines
  where
    by : (cause : Cause) → HasCause (code_of ls) p cause → new ≡ lines_by s p cause ls → Vanishes ls new p
    by ToNext h e = record { vanishes = inl h; code = ap code_of e ∙ code_without s p ls h.i h.mention h.stands }
    by (ToEnd label) h e =
        let same : length (places_of new) ≡ length (places_of ls) =
        ap (λ (l : List ListingLine). length (places_of l)) e ∙ ap (λ (c : Code). length c.places) (code_aimed s.write label p ls h.i (Some h.mention) h.stands) ∙ same_length p label (places_of ls) in
        absurd (omega arith)
    by Idle h e = record { vanishes = inr h; code = ap code_of e ∙ code_without s p ls h.i h.mention h.stands }

-- and one that doesn't lets a branch go elsewhere: all that is known stays
pub known_aimed : (s : Setting) (p : ℕ) (ls new : List ListingLine) (laid : Addresses) (reached due : List Bool) → laid.base ≡ s.base → IsNextAt s p ls new → (length (places_of new) < length (places_of ls) → ⊥) → IsKnown ls laid reached due → IsKnown new laid reached due
known_aimed s p ls new laid reached due base n more k = by n.cause n.first.possible.cause n.lines
  where
    less : (i : Instr) (mention : Option Mention) → slice_get (places_of ls) p ≡ Some (Op i mention) → new ≡ lines_by s p Idle ls → ⊥
    less i mention h e =
        let one = one_place_less s p ls i mention h in
        let same : length (places_of new) ≡ length (places_of (lines_by s p Idle ls)) = ap (λ (l : List ListingLine). length (places_of l)) e in
        more (omega arith)

    by : (cause : Cause) → HasCause (code_of ls) p cause → new ≡ lines_by s p cause ls → IsKnown new laid reached due
    by ToNext h e = absurd (less h.i h.mention h.stands e)
    by Idle h e = absurd (less h.i h.mention h.stands e)
    by (ToEnd label) h e =
        let code : code_of new ≡ aimed_code p label (code_of ls) = ap code_of e ∙ code_aimed s.write label p ls h.i (Some h.mention) h.stands in
        let marks = marks_aimed (code_of ls) p label reached h k.reached in
        let all = due_aimed (code_of ls) p label due h k.due in
        record {
          laid = subst (λ (l : List ListingLine). AreAddresses l laid) (sym e) (addresses_stay s.write label p ls laid k.laid);
          layable = subst (λ b. Layable b new) (sym base) (subst (Layable s.base) (sym n.lines) n.first.possible.layable);
          reached = subst (λ (c : Code). AreMarks c reached) (sym code) marks;
          due = subst (λ (c : Code). AreDue c due) (sym code) all;
        }

-- where lines that lose a place lie is found anew
pub known_left : (s : Setting) (p : ℕ) (ls new : List ListingLine) (laid now : Addresses) (reached due : List Bool) → laid.base ≡ s.base → now.base ≡ laid.base → IsNextAt s p ls new → AreAddresses new now
    → AreMarks (replaced (code_of ls) p 1 []) reached → AreDue (replaced (code_of ls) p 1 []) due → code_of new ≡ replaced (code_of ls) p 1 [] → IsKnown new now reached due
known_left s p ls new laid now reached due base same n a marks all code = record {
  laid = a;
  layable = subst (λ b. Layable b new) (sym (same ∙ base)) (subst (Layable s.base) (sym n.lines) n.first.possible.layable);
  reached = subst (λ (c : Code). AreMarks c reached) (sym code) marks;
  due = subst (λ (c : Code). AreDue c due) (sym code) all;
}
