-- The loop invariant of the table of return words, and that the table is the layout's.
use Rattle.std.proofs.Common.{◌≡◌, ◌∙◌, inl, inr, ℕ, zero, suc, ◌+◌, ◌-◌, ◌<◌, true, false, List, [], ◌∷◌, ◌++◌, length, take, Option, Some, refl, sym, ap, arith, below_more, length-append, if◌then◌else◌}
use Rattle.std.specs.Prelude.{slice_get, slice_index}
use Rattle.std.proofs.lemmas.Bool.{cases_Bool}
use Rattle.thumb_instr.specs.declared.instr.Instr.{Instr}
use Rattle.thumb_model.specs.Listing.{ListingLine, Mention, Place, Op, call_count, is_call, is_call_instr, places_of}
use Rattle.thumb_model.specs.Layout.{end_of, instr_size}
use Rattle.thumb_model.specs.Naming.{last_is_call, return_address, IsCutAtCall}
use Rattle.thumb_model.proofs.Returns.{call_within, laid_behind}
use Rattle.label_layout.specs.Addresses.{Addresses, AreAddresses}
use Rattle.label_layout.proofs.Calls.{return_point}
use Rattle.label_layout.proofs.Sums.{places_counted}
use Rattle.thumb_machine.specs.Returns.{AreReturns, is_call_place}

-- the layout has an address for each place
pub has_address : (lines : List ListingLine) (a : Addresses) (p : ℕ) → AreAddresses lines a → p < length (places_of lines) → p < length a.places
has_address lines a p laid lt = let e = ap length laid.places in let f = places_counted a.base lines in omega arith

pub call_returns : (lines : List ListingLine) (a : Addresses) (p at size : ℕ) (i : Instr) (m : Option Mention) → AreAddresses lines a → Some (Op i m) ≡ slice_get (places_of lines) p → is_call_instr i ≡ true
    → slice_get a.places p ≡ Some at → size ≡ instr_size i → at + size + 1 ≡ return_address (call_count (take p (places_of lines))) a.base lines + 1
call_returns lines a p at size i m laid here call lies is =
    ap (λ (n : ℕ). n + 1) (ap (λ (s : ℕ). at + s) is ∙ sym (return_point a.base lines p (Op i m) at (sym here) call (ap (λ (l : List ℕ). slice_get l p) (sym laid.places) ∙ lies)))

-- ---- counts ----

count_suc : (xs : List Place) (p : ℕ) → call_count (take (suc p) xs) ≡ (if is_call_place (slice_get xs p) then call_count (take p xs) + 1 else call_count (take p xs))
count_suc [] zero = refl
count_suc [] (suc p) = refl
count_suc (x ∷ xs) zero = refl
count_suc (x ∷ xs) (suc p) = elim (cases_Bool (is_call x)) [
  | inl h ↦ rw h (ap (λ (n : ℕ). n + 1) (count_suc xs p) ∙ elim (cases_Bool (is_call_place (slice_get xs p))) [ inl g ↦ rw g refl | inr g ↦ rw g refl ])
  | inr h ↦ rw h (count_suc xs p)
]

count_more : (xs : List Place) (p : ℕ) → call_count (take (p + 1) xs) ≡ (if is_call_place (slice_get xs p) then call_count (take p xs) + 1 else call_count (take p xs))
count_more xs p = let e : p + 1 ≡ suc p = omega arith in ap (λ (n : ℕ). call_count (take n xs)) e ∙ count_suc xs p

-- a place that is no call
pub returns_same : (base : ℕ) (lines : List ListingLine) (p : ℕ) (list : List ℕ) → is_call_place (slice_get (places_of lines) p) ≡ false → AreReturns base lines (call_count (take p (places_of lines))) list
    → AreReturns base lines (call_count (take (p + 1) (places_of lines))) list
returns_same base lines p list none are = let e : call_count (take (p + 1) (places_of lines)) ≡ call_count (take p (places_of lines)) = count_more (places_of lines) p ∙ rw none refl in rw e are

at_end : (xs : List ℕ) (w : ℕ) → slice_index (xs ++ w ∷ []) (length xs) ≡ w
at_end [] w = refl
at_end (x ∷ xs) w = at_end xs w

at_front : (xs : List ℕ) (w j : ℕ) → j < length xs → slice_index (xs ++ w ∷ []) j ≡ slice_index xs j
at_front [] w j lt = absurd (omega arith)
at_front (x ∷ xs) w zero lt = refl
at_front (x ∷ xs) w (suc j) lt = at_front xs w j (omega arith)

-- a place that is a call
pub returns_more : (base : ℕ) (lines : List ListingLine) (p : ℕ) (list new : List ℕ) (w : ℕ) → is_call_place (slice_get (places_of lines) p) ≡ true → w ≡ return_address (call_count (take p (places_of lines))) base lines + 1
    → new ≡ list ++ w ∷ [] → AreReturns base lines (call_count (take p (places_of lines))) list → AreReturns base lines (call_count (take (p + 1) (places_of lines))) new
returns_more base lines p list new w call is put are =
    let k : ℕ = call_count (take p (places_of lines)) in
    let e : call_count (take (p + 1) (places_of lines)) ≡ k + 1 = count_more (places_of lines) p ∙ rw call refl in
    rw (e, put) (record {
      count = length-append list (w ∷ []) ∙ ap (λ (n : ℕ). n + 1) are.count;
      words = below_more (λ j. slice_index (list ++ w ∷ []) j ≡ return_address j base lines + 1) k
          (λ j lt. at_front list w j (let c = are.count in omega arith) ∙ are.words j lt)
          (ap (slice_index (list ++ w ∷ [])) (sym are.count) ∙ at_end list w ∙ is);
    })

pub last_at : (ps : List Place) → is_call_place (slice_get ps (length ps - 1)) ≡ last_is_call ps
last_at [] = refl
last_at (p ∷ []) = refl
last_at (p ∷ q ∷ ps) = let e : length (p ∷ q ∷ ps) - 1 ≡ suc (length (q ∷ ps) - 1) = omega arith in ap (λ (n : ℕ). is_call_place (slice_get (p ∷ q ∷ ps) n)) e ∙ last_at (q ∷ ps)

-- a naming's words are those of the layout, where its words of calls are
pub laid_returns : (base : ℕ) (lines : List ListingLine) (words : List ℕ) → AreReturns base lines (call_count (places_of lines)) words
    → (k : ℕ) (before : List ListingLine) (call : ListingLine) (after : List ListingLine) → IsCutAtCall lines k before call after → slice_index words k ≡ end_of base (before ++ call ∷ []) + 1
laid_returns base lines words are k before call after is =
    are.words k (call_within lines k before call after is) ∙ laid_behind base (λ name. 0) lines k before call after is
