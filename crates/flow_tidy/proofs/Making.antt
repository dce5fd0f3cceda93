-- What the code finds at a place is what the definitions say of it.
use Rattle.std.proofs.Common.{◌≡◌, ◌↔◌, ℕ, ◌+◌, ◌<◌, ◌≤◌, Bool, true, List, length, Option, Some, None, refl, sym, ap, ◌∙◌, subst, arith, if◌then◌else◌}
use Rattle.std.specs.Prelude.{is_some, option_map, slice_get}
use Rattle.std.proofs.lemmas.Option.{same_Some, slice_get_within}
use Rattle.thumb_instr.specs.declared.instr.Instr.{Instr}
use Rattle.thumb_model.specs.Listing.{Name, Mention, Place, Op, Word, ListingLine, Code, code_of, places_of}
use Rattle.thumb_model.specs.Layout.{Layable}
use Rattle.flow_tidy.specs.declared.found.Changed.{Changed}
use Rattle.flow_tidy.specs.Tidying.{IsEnd, Setting, Cause, ToNext, ToEnd, Idle, Change, is_branch, lines_by, lines_after, rank, GoesToNext, GoesToEnd, IsIdle, HasCause, IsPossible, NonePossible}
use Rattle.flow_tidy.specs.DuePlaces.{HasEnd, IsCaused, IsNextAt}
use Rattle.flow_tidy.specs.Made.{change, label_of_branch, IsAccepted, IsEndOf, IsFit, IsMade, IsMadeAt, IsMovedTo, IsWithin}
use Rattle.flow_tidy.proofs.Unique.{cause_same}
use Rattle.flow_tidy.proofs.Whole.{change_keeps}
use Rattle.flow_tidy.proofs.Hops.{code_only as branch_only}

-- ---- branches ----

-- a branch with a label stands at the place
record Branches (code : Code) (p : ℕ) (label : Name) : Type 0 where
  pub i : Instr
  pub mention : Mention
  pub stands : slice_get code.places p ≡ Some (Op i (Some mention))
  pub branch : is_branch i ≡ true
  pub named : mention.name ≡ label

branches : (code : Code) (p : ℕ) (label : Name) → label_of_branch (slice_get code.places p) ≡ Some label → Branches code p label
branches code p label h = on (slice_get code.places p) refl h
  where
    on : (x : Option Place) → slice_get code.places p ≡ x → label_of_branch x ≡ Some label → Branches code p label
    on None e k = absurd (cc)
    on (Some (Word v)) e k = absurd (cc)
    on (Some (Op i None)) e k = absurd (cc)
    on (Some (Op i (Some m))) e k =
        let a = branch_only (is_branch i) m.name label k in
        record { i = i; mention = m; stands = e; branch = a.0; named = a.1 }

labelled : (code : Code) (p : ℕ) (i : Instr) (m : Mention) → slice_get code.places p ≡ Some (Op i (Some m)) → is_branch i ≡ true → label_of_branch (slice_get code.places p) ≡ Some m.name
labelled code p i m e b = ap label_of_branch e ∙ ap (λ t. if t then Some m.name else None) b

pub end_is_found : (code : Code) (p : ℕ) (label end : Name) → label_of_branch (slice_get code.places p) ≡ Some label → IsEndOf code label (Some end) → GoesToEnd code p end
end_is_found code p label end h k =
    let b = branches code p label h in
    record { i = b.i; mention = b.mention; stands = b.stands; branch = b.branch; end = subst (λ (x : Name). IsEnd code x end) (sym b.named) k }

pub no_end_none : (code : Code) (p : ℕ) (label : Name) → label_of_branch (slice_get code.places p) ≡ Some label → IsEndOf code label None → (end : Name) → GoesToEnd code p end → ⊥
no_end_none code p label h k end g =
    let same : g.mention.name ≡ label = same_Some _ _ (sym (labelled code p g.i g.mention g.stands g.branch) ∙ h) in
    k end (subst (λ (x : Name). IsEnd code x end) same g.end)

-- ---- possible changes ----

possible : (s : Setting) (c : Change) (ls : List ListingLine) → HasCause (code_of ls) c.place c.cause → IsFit s (lines_after s c ls) → IsPossible s c ls
possible s c ls h f = record { cause = h; labels_stay = (change_keeps s c ls h).entry; layable = f.layable; few = f.few; short = f.short }

fit : (s : Setting) (c : Change) (ls : List ListingLine) → IsPossible s c ls → IsFit s (lines_after s c ls)
fit s c ls h = record { layable = h.layable; few = h.few; short = h.short }

-- where the change has its cause, it is made where its lines are fit
pub made : (s : Setting) (p : ℕ) (c : Cause) (ls : List ListingLine) (r : Option Changed) → HasCause (code_of ls) p c → IsAccepted s (lines_by s p c ls) r → IsMade s p (rank c) ls r
made s p c ls None h a = λ o e q. a (subst (λ (x : Cause). IsFit s (lines_by s p x ls)) (cause_same (code_of ls) p o c e q.cause h) (fit s (change p o) ls q))
made s p c ls (Some new) h a = (c, refl, possible s (change p c) ls h a.0, a.1)

pub not_end : (s : Setting) (p : ℕ) (ls : List ListingLine) → ((label : Name) → GoesToEnd (code_of ls) p label → ⊥) → IsMade s p 1 ls None
not_end s p ls h = no
  where
    no : (o : Cause) → rank o ≡ 1 → IsPossible s (change p o) ls → ⊥
    no ToNext e q = absurd (omega arith)
    no (ToEnd label) e q = h label q.cause
    no Idle e q = absurd (omega arith)

-- lines that can be laid out are fit within the limits
accepted_within : (s : Setting) (ls : List ListingLine) (r : Option Changed) → Layable s.base ls → IsWithin s.most_lines s.longest_line ls r → IsAccepted s ls r
accepted_within s ls None l w = λ f. w (f.few, f.short)
accepted_within s ls (Some new) l w = (record { layable = l; few = w.0.0; short = w.0.1 }, (w.1, subst (IsMovedTo s.base ls) (sym w.2) tt))

pub made_within : (s : Setting) (p : ℕ) (c : Cause) (ls : List ListingLine) (r : Option Changed) → HasCause (code_of ls) p c → Layable s.base (lines_by s p c ls) → IsWithin s.most_lines s.longest_line (lines_by s p c ls) r → IsMade s p (rank c) ls r
made_within s p c ls r h l w = made s p c ls r h (accepted_within s (lines_by s p c ls) r l w)

pub not_layable : (s : Setting) (p : ℕ) (c : Cause) (ls : List ListingLine) → HasCause (code_of ls) p c → (Layable s.base (lines_by s p c ls) → ⊥) → IsMade s p (rank c) ls None
not_layable s p c ls h never = made s p c ls None h (λ f. never f.layable)

-- ---- the first change ----

-- none is possible at a lesser place
abbrev pub NoneBefore : Setting → ℕ → List ListingLine → Type 0
NoneBefore s p ls = (o : Change) → IsPossible s o ls → p ≤ o.place

here : (s : Setting) (p : ℕ) (ls : List ListingLine) (o : Change) → o.place ≡ p → IsPossible s o ls → IsPossible s (change p o.cause) ls
here s p ls o e q = subst (λ n. IsPossible s (change n o.cause) ls) e q

pub none_before_more : (s : Setting) (p : ℕ) (ls : List ListingLine) → NoneBefore s p ls → IsMadeAt s p ls None → NoneBefore s (p + 1) ls
none_before_more s p ls h n = λ o q. let le = h o q in let ne : o.place ≡ p → ⊥ = λ e. n o.cause (here s p ls o e q) in omega arith

-- one that is made where none is possible before is the first
pub found_next : (s : Setting) (p : ℕ) (ls : List ListingLine) (new : Changed) → NoneBefore s p ls → IsMadeAt s p ls (Some new) → IsNextAt s p ls new.listing × IsMovedTo s.base new.listing new.moved
found_next s p ls new h m = (
  record {
    cause = m.0;
    first = record { possible = m.1; least_place = λ o q. h o q; soonest = λ o q e. m.2 o.cause (here s p ls o e q) };
    lines = m.3.0;
  },
  subst (λ (l : List ListingLine). IsMovedTo s.base l new.moved) (sym m.3.0) m.3.1,
)

pub stands_within : (code : Code) (p : ℕ) (c : Cause) → HasCause code p c → p < length code.places
stands_within code p ToNext h = slice_get_within code.places p _ h.stands
stands_within code p (ToEnd label) h = slice_get_within code.places p _ h.stands
stands_within code p Idle h = slice_get_within code.places p _ h.stands

pub none_at_all : (s : Setting) (p : ℕ) (ls : List ListingLine) → length (places_of ls) ≤ p → NoneBefore s p ls → NonePossible s ls
none_at_all s p ls e h = λ o q. let le = h o q in let lt = stands_within (code_of ls) o.place o.cause q.cause in absurd (omega arith)

-- ---- what has a cause ----

pub same_some : {A : Type 0} {B : Type 0} (f : A → B) (o : Option A) → is_some (option_map f o) ≡ is_some o
same_some f None = refl
same_some f (Some x) = refl

pub has_end_is : (code : Code) (p : ℕ) (label : Name) (e : Option Name) → label_of_branch (slice_get code.places p) ≡ Some label → IsEndOf code label e → (is_some e ≡ true) ↔ HasEnd code p
has_end_is code p label None k h = (λ e. absurd (cc), λ end. absurd (no_end_none code p label k h end.label end.goes))
has_end_is code p label (Some end) k h = (λ e. record { label = end; goes = end_is_found code p label end k h }, λ e. refl)

pub caused_idle : (code : Code) (p : ℕ) (b : Bool) → (GoesToNext code p → ⊥) → (HasEnd code p → ⊥) → (b ≡ true) ↔ IsIdle code p → (b ≡ true) ↔ IsCaused code p
caused_idle code p b no_next no_end h = (λ e. record { cause = Idle; is = h.0 e }, λ k. back k.cause k.is)
  where
    back : (cause : Cause) → HasCause code p cause → b ≡ true
    back ToNext k = absurd (no_next k)
    back (ToEnd label) k = absurd (no_end (record { label = label; goes = k }))
    back Idle k = h.1 k
