-- Tidying while places keep their numbers: what is known of a draft when an instruction is removed, and that a change that is made is the first.
use Rattle.std.proofs.Common.{◌≡◌, ◌∙◌, inl, inr, ℕ, zero, suc, ◌+◌, ◌-◌, ◌<◌, ◌≤◌, Bool, true, false, List, [], ◌∷◌, length, replicate, Some, refl, sym, ap, subst, arith}
use Rattle.std.specs.Prelude.{slice_get, slice_set}
use Rattle.std.specs.List.{remove}
use Rattle.std.proofs.lemmas.Bool.{cases_Bool, cases_eq, cases_lt}
use Rattle.std.proofs.lemmas.Option.{slice_get_within}
use Rattle.thumb_model.specs.Listing.{Name, ListingLine, Code, code_of, is_op_place, places_of}
use Rattle.thumb_model.specs.Layout.{Layable}
use Rattle.thumb_model.specs.Replaced.{replaced, replaced_lines}
use Rattle.code_flow.specs.Marks.{AreMarks}
use Rattle.kept_places.specs.Marks.{is_gone, rank, IsNode}
use Rattle.kept_places.proofs.Ranks.{marked_other, marked_set, rank_gone, rank_kept, rank_set_before, ranks_grow}
use Rattle.listing_parser.specs.Grammar.{longest_line, most_lines}
use Rattle.listing_parser.specs.Parsing.{line_mentioning, own_line}
use Rattle.listing_parser.specs.Targets.{aimed_lines}
use Rattle.listing_draft.proofs.Drafts.{node_rank, set_length}
use Rattle.steady_layout.specs.Steady.{IsSteady}
use Rattle.steady_layout.proofs.Cuts.{cut_op}
use Rattle.steady_layout.proofs.Laws.{cut_stays, steady_is_layable}
use Rattle.flow_tidy.specs.Tidying.{Cause, ToNext, ToEnd, Idle, GoesToNext, GoesToEnd, IsIdle, HasCause, IsPossible, NonePossible, lines_by, rank as turn, setting}
use Rattle.flow_tidy.specs.DuePlaces.{before_is_due, lets_on, AreDue, HasEnd, IsCaused, IsLeast, IsNextAt}
use Rattle.flow_tidy.specs.Made.{change}
use Rattle.flow_tidy.specs.Quick.{left, ChangesSoonest, HaveRoom, IsSure, NoneAt}
use Rattle.flow_tidy.proofs.Lefts.{left_all, left_as_many, left_at, left_free, left_gone, left_set, left_unset}
use Rattle.flow_tidy.proofs.Lines.{without_one}
use Rattle.flow_tidy.proofs.Removed.{code_without}
use Rattle.flow_tidy.proofs.Rooms.{get_short, have_left, lines_few}
use Rattle.flow_tidy.proofs.Settled.{due_all, due_left, marks_left, may_go, may_leave, still_due, MayVanish}
use Rattle.flow_tidy.proofs.Whole.{change_keeps}

-- ---- a removed instruction ----

pub op_goes : (code : Code) (r : ℕ) → MayVanish code r → is_op_place (slice_get code.places r) ≡ true
op_goes code r (inl g) = ap is_op_place g.stands
op_goes code r (inr h) = ap is_op_place h.stands

pub code_goes : (ls new : List ListingLine) (r : ℕ) → MayVanish (code_of ls) r → new ≡ replaced_lines own_line r 1 [] ls → code_of new ≡ replaced (code_of ls) r 1 []
code_goes ls new r (inl g) e = ap code_of (e ∙ without_one 0 r ls) ∙ code_without (setting 0) r ls g.i g.mention g.stands
code_goes ls new r (inr h) e = ap code_of (e ∙ without_one 0 r ls) ∙ code_without (setting 0) r ls h.i h.mention h.stands

module _ (gone : List Bool) (p : ℕ) (code new : Code) (within : p < length gone) (kept : is_gone gone p ≡ false) (goes : MayVanish code (rank gone p)) (less : new ≡ replaced code (rank gone p) 1 []) where
  abbrev now : List Bool
  now = slice_set gone p true

  pub reached_left : (reached : List Bool) → length reached ≡ length gone → AreMarks code (left gone reached) → AreMarks new (left now reached)
  reached_left reached e a =
      subst (AreMarks new) (sym (left_gone gone reached p kept within (omega arith)))
      (subst (λ (c : Code). AreMarks c (remove (left gone reached) (rank gone p))) (sym less) (marks_left code (rank gone p) (left gone reached) (may_go code (rank gone p) goes) a))

  -- whether the mark of the removed place is cleared makes no difference
  marks_now : (due : List Bool) → length due ≡ length gone → left now (slice_set due p false) ≡ remove (left gone due) (rank gone p)
  marks_now due e = left_unset now due p false (marked_set gone p true within) ∙ left_gone gone due p kept within (omega arith)

  pub due_before : (due : List Bool) (q : ℕ) → length due ≡ length gone → AreDue code (left gone due) → lets_on code (rank gone p) ≡ false → q < p → is_gone gone q ≡ false → suc (rank gone q) ≡ rank gone p
      → AreDue new (left now (slice_set (slice_set due p false) q true))
  due_before due q e a quiet lt kept_q next =
      let there : is_gone now q ≡ false = marked_other gone p q true (λ s. absurd (omega arith)) ∙ kept_q in
      let same : rank now q ≡ rank gone q = rank_set_before gone p q (omega arith) in
      let marks : left now (slice_set (slice_set due p false) q true) ≡ before_is_due (rank gone p) (remove (left gone due) (rank gone p)) =
      left_set now (slice_set due p false) q true there
      ∙ ap (λ (ms : List Bool). slice_set ms (rank now q) true) (marks_now due e)
      ∙ ap (λ k. slice_set (remove (left gone due) (rank gone p)) k true) same
      ∙ ap (λ k. before_is_due k (remove (left gone due) (rank gone p))) next in
      subst (λ (c : Code). AreDue c (left now (slice_set (slice_set due p false) q true))) (sym less)
      (subst (AreDue (replaced code (rank gone p) 1 [])) (sym marks) (due_left code (rank gone p) (left gone due) (may_leave code (rank gone p) goes quiet) a))

  pub due_first : (due : List Bool) → length due ≡ length gone → AreDue code (left gone due) → lets_on code (rank gone p) ≡ false → rank gone p ≡ 0 → AreDue new (left now (slice_set due p false))
  due_first due e a quiet first =
      let marks : left now (slice_set due p false) ≡ before_is_due (rank gone p) (remove (left gone due) (rank gone p)) =
      marks_now due e ∙ ap (λ k. before_is_due k (remove (left gone due) (rank gone p))) (sym first) in
      subst (λ (c : Code). AreDue c (left now (slice_set due p false))) (sym less)
      (subst (AreDue (replaced code (rank gone p) 1 [])) (sym marks) (due_left code (rank gone p) (left gone due) (may_leave code (rank gone p) goes quiet) a))

  pub due_again : (due : List Bool) (n : ℕ) → length due ≡ length gone → n ≡ length gone → AreDue code (left gone due) → AreDue new (left now (replicate n true))
  due_again due n e f a =
      let many : length (replicate n true) ≡ length (slice_set due p false) = (let l = all_length n in let k = set_length due p false in omega arith) in
      let count : length (left now (replicate n true)) ≡ length (remove (left gone due) (rank gone p)) = left_as_many now (replicate n true) (slice_set due p false) many ∙ ap length (marks_now due e) in
      let marks : left now (replicate n true) ≡ replicate (length (remove (left gone due) (rank gone p))) true = left_all now n ∙ ap (λ k. replicate k true) count in
      subst (λ (c : Code). AreDue c (left now (replicate n true))) (sym less)
      (subst (AreDue (replaced code (rank gone p) 1 [])) (sym marks) (due_all code (rank gone p) (left gone due) (may_go code (rank gone p) goes) a))
    where
      all_length : (n : ℕ) → length (replicate n true) ≡ n
      all_length zero = refl
      all_length (suc n) = ap suc (all_length n)

-- ---- a place without a cause ----

pub due_no_more : (gone due : List Bool) (p : ℕ) (code : Code) → is_gone gone p ≡ false → AreDue code (left gone due) → (IsCaused code (rank gone p) → ⊥) → AreDue code (left gone (slice_set due p false))
due_no_more gone due p code kept a never = subst (AreDue code) (sym (left_set gone due p false kept)) (still_due code (left gone due) (rank gone p) a never)

pub not_due : (gone due : List Bool) (p : ℕ) (code : Code) → slice_get due p ≡ Some false → AreDue code (left gone due) → is_gone gone p ≡ false → IsCaused code (rank gone p) → ⊥
not_due gone due p code e a kept c =
    let no : Some false ≡ Some true = sym e ∙ sym (left_at gone due p kept) ∙ a.each (rank gone p) c in
    absurd (cc)

-- ---- the first place at which a change is possible ----

-- none is at a kept place before
abbrev pub NoneSooner : ℕ → List Bool → List ListingLine → ℕ → Type 0
NoneSooner base gone ls p = (k : ℕ) → k < rank gone p → NoneAt base ls k

pub none_least : (base : ℕ) (gone due : List Bool) (ls : List ListingLine) (p : ℕ) → AreDue (code_of ls) (left gone due) → IsLeast due p → NoneSooner base gone ls p
none_least base gone due ls p a l = λ k lt o q. left_free gone due p l.free k lt (a.each k (record { cause = o; is = q.cause }))

pub none_further : (base : ℕ) (gone : List Bool) (ls : List ListingLine) (p : ℕ) → NoneSooner base gone ls p → (is_gone gone p ≡ false → NoneAt base ls (rank gone p)) → NoneSooner base gone ls (p + 1)
none_further base gone ls p h never = λ k lt o q. elim (cases_Bool (is_gone gone p)) [
  | inl g ↦ (
      let r : rank gone (p + 1) ≡ rank gone p = ap (rank gone) (let e : p + 1 ≡ suc p = omega arith in e) ∙ rank_gone gone p g in
      h k (omega arith) o q)
  | inr g ↦ (
      let r : rank gone (p + 1) ≡ suc (rank gone p) = ap (rank gone) (let e : p + 1 ≡ suc p = omega arith in e) ∙ rank_kept gone p g in
      elim (cases_eq k (rank gone p)) [
        | inl same ↦ never g o (subst (λ n. IsPossible (setting base) (change n o) ls) same q)
        | inr ne ↦ h k (omega arith) o q
      ])
]

-- up to the next kept place there is no other
pub none_up_to : (base : ℕ) (gone : List Bool) (ls : List ListingLine) (p q : ℕ) → IsNode gone p q → NoneSooner base gone ls p → NoneSooner base gone ls q
none_up_to base gone ls p q n h = λ k lt. h k (let r = node_rank gone p q n in omega arith)

-- and none is possible at places that aren't due
none_free_by : (n : ℕ) (base : ℕ) (gone due : List Bool) (ls : List ListingLine) (p q : ℕ) → q ≡ n + p → AreDue (code_of ls) (left gone due) → ((k : ℕ) → p ≤ k → k < q → slice_get due k ≡ Some true → ⊥) → NoneSooner base gone ls p → NoneSooner base gone ls q
none_free_by zero base gone due ls p q e a free h = subst (NoneSooner base gone ls) (let z : p ≡ q = omega arith in z) h
none_free_by (suc n) base gone due ls p zero e a free h = absurd (omega arith)
none_free_by (suc n) base gone due ls p (suc q) e a free h =
    let before = none_free_by n base gone due ls p q (omega arith) a (λ k l m. free k l (omega arith)) h in
    subst (NoneSooner base gone ls) (let z : q + 1 ≡ suc q = omega arith in z)
    (none_further base gone ls q before (λ kept o c. free q (omega arith) (omega arith) (sym (left_at gone due q kept) ∙ a.each (rank gone q) (record { cause = o; is = c.cause }))))

pub none_free : (base : ℕ) (gone due : List Bool) (ls : List ListingLine) (p q : ℕ) → p ≤ q → AreDue (code_of ls) (left gone due) → ((k : ℕ) → p ≤ k → k < q → slice_get due k ≡ Some true → ⊥) → NoneSooner base gone ls p → NoneSooner base gone ls q
none_free base gone due ls p q e = none_free_by (q - p) base gone due ls p q (omega arith)

-- as many are left as places
pub none_left : (base : ℕ) (gone due : List Bool) (ls : List ListingLine) (p : ℕ) → length due ≡ length gone → length gone ≤ p → AreDue (code_of ls) (left gone due) → NoneSooner base gone ls p → (r : ℕ) → NoneAt base ls r
none_left base gone due ls p e f a h = λ r o q.
    let w = slice_get_within (left gone due) r true (a.each r (record { cause = o; is = q.cause })) in
    let m = left_few gone due e in
    let g = ranks_grow gone (length gone) p f in
    h r (omega arith) o q
  where
    left_few : (gone due : List Bool) → length due ≡ length gone → length (left gone due) ≤ rank gone (length gone)
    left_few [] [] e = omega arith
    left_few [] (x ∷ xs) e = absurd (omega arith)
    left_few (g ∷ gs) [] e = absurd (omega arith)
    left_few (true ∷ gs) (x ∷ xs) e = left_few gs xs (omega arith)
    left_few (false ∷ gs) (x ∷ xs) e = let r = left_few gs xs (omega arith) in omega arith

-- ---- the first change ----

pub soonest_next : (base : ℕ) (ls new : List ListingLine) (r : ℕ) → GoesToNext (code_of ls) r → new ≡ replaced_lines own_line r 1 [] ls → ChangesSoonest base ls new r
soonest_next base ls new r g e = record { cause = ToNext; has = g; soonest = λ o h. omega arith; lines = e ∙ without_one base r ls }

pub soonest_end : (base : ℕ) (ls new : List ListingLine) (r : ℕ) (label : Name) → (GoesToNext (code_of ls) r → ⊥) → GoesToEnd (code_of ls) r label → new ≡ aimed_lines line_mentioning r label ls → ChangesSoonest base ls new r
soonest_end base ls new r label next g e = record { cause = ToEnd label; has = g; soonest = later; lines = e }
  where
    later : (o : Cause) → IsPossible (setting base) (change r o) ls → turn (ToEnd label) ≤ turn o
    later ToNext h = absurd (next h.cause)
    later (ToEnd other) h = omega arith
    later Idle h = omega arith

pub soonest_idle : (base : ℕ) (ls new : List ListingLine) (r : ℕ) → (GoesToNext (code_of ls) r → ⊥) → ((label : Name) → IsPossible (setting base) (change r (ToEnd label)) ls → ⊥) → IsIdle (code_of ls) r → new ≡ replaced_lines own_line r 1 [] ls → ChangesSoonest base ls new r
soonest_idle base ls new r next end i e = record { cause = Idle; has = i; soonest = later; lines = e ∙ without_one base r ls }
  where
    later : (o : Cause) → IsPossible (setting base) (change r o) ls → turn Idle ≤ turn o
    later ToNext h = absurd (next h.cause)
    later (ToEnd label) h = absurd (end label h)
    later Idle h = omega arith

pub no_cause : (code : Code) (r : ℕ) → (GoesToNext code r → ⊥) → (HasEnd code r → ⊥) → (IsIdle code r → ⊥) → IsCaused code r → ⊥
no_cause code r next end idle c = by c.cause c.is
  where
    by : (o : Cause) → HasCause code r o → ⊥
    by ToNext h = next h
    by (ToEnd label) h = end (record { label = label; goes = h })
    by Idle h = idle h

-- lines that surely can be laid out stay so when an instruction goes
pub still_sure : (base : ℕ) (ls new : List ListingLine) (r : ℕ) → is_op_place (slice_get (places_of ls) r) ≡ true → new ≡ replaced_lines own_line r 1 [] ls → IsSure base ls → IsSure base new
still_sure base ls new r op e s = record {
  whole_words = s.whole_words;
  steady = subst (IsSteady base) (sym e) (cut_stays base ls (replaced_lines own_line r 1 [] ls) (cut_op own_line ls r op) s.steady);
  room = subst (HaveRoom most_lines longest_line) (sym e) (have_left most_lines longest_line own_line r ls s.room);
}

pub sure_layable : (base : ℕ) (ls : List ListingLine) → IsSure base ls → Layable base ls
sure_layable base ls s = steady_is_layable base ls s.whole_words s.steady

-- a change that leaves sure lines is the first one, where none is possible before
pub goes_first : (base : ℕ) (ls new : List ListingLine) (r : ℕ) → ChangesSoonest base ls new r → ((k : ℕ) → k < r → NoneAt base ls k) → IsSure base new → IsNextAt (setting base) r ls new
goes_first base ls new r g none sure =
    let fits : IsSure base (lines_by (setting base) r g.cause ls) = subst (IsSure base) g.lines sure in
    record {
      cause = g.cause;
      first = record {
        possible = record {
          cause = g.has;
          labels_stay = (change_keeps (setting base) (record { place = r; cause = g.cause }) ls g.has).entry;
          layable = sure_layable base (lines_by (setting base) r g.cause ls) fits;
          few = let f = fits.room.few in let l = lines_few (lines_by (setting base) r g.cause ls) in omega arith;
          short = λ k l e. get_short longest_line (lines_by (setting base) r g.cause ls) k l fits.room.short e;
        };
        least_place = λ o q. elim (cases_lt o.place r) [
          | inl lt ↦ absurd (none o.place lt o.cause q)
          | inr ge ↦ ge
        ];
        soonest = λ o q e. g.soonest o.cause (subst (λ n. IsPossible (setting base) (change n o.cause) ls) e q);
      };
      lines = g.lines;
    }

pub none_possible : (base : ℕ) (ls : List ListingLine) → ((r : ℕ) → NoneAt base ls r) → NonePossible (setting base) ls
none_possible base ls h = λ o q. h o.place o.cause q
