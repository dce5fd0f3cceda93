-- Sets of places as marks.
use Rattle.std.proofs.Common.{◌≡◌, ◌≢◌, ℕ, ◌+◌, ◌*◌, ◌/◌, ◌<◌, ◌≤◌, Bool, true, false, List, length, replicate, get_or, sym, ap, ◌∙◌, inl, inr, arith}
use Rattle.std.specs.Prelude.{slice_set, slice_index}
use Rattle.std.specs.Int.{bit_at}
use Rattle.std.proofs.lemmas.Bool.{cases_lt, cases_eq}
use Rattle.std.proofs.lemmas.List.{length-set, length-replicate, get_or-set_same, get_or-set_other, get_or-replicate}
use Rattle.std.proofs.lemmas.List.FromFn.{length-map-range_with_len, get_or-map-range_with_len, fill_by_all}
use Rattle.kept_places.specs.Marks.{marked, IsLeast, IsGreatest}
use Rattle.kept_places.specs.Members.{has, marks_of}
use Rattle.kept_places.proofs.Ranks.{marked_at, marked_past}
use Rattle.kept_places.proofs.Bits.{least_in, greatest_in, none_before, none_behind}

pub many_marks : (n : ℕ) (words : List ℕ) → length (marks_of n words) ≡ n
many_marks n words = length-map-range_with_len (has words) 0 n

-- a place is marked where its bit is set
pub marked_has : (n : ℕ) (words : List ℕ) → ((p : ℕ) → n ≤ p → has words p ≡ false) → (p : ℕ) → marked (marks_of n words) p ≡ has words p
marked_has n words c p = elim (cases_lt p n) [
  | inl h ↦ marked_at (marks_of n words) p true (omega (arith, h, many_marks n words)) ∙ get_or-map-range_with_len (has words) 0 n p p true h (omega arith)
  | inr h ↦ marked_past (marks_of n words) p (omega (arith, h, many_marks n words)) ∙ sym (c p h)
]

-- one bit changes, and with it one mark
pub marks_put : (n : ℕ) (old new : List ℕ) (p : ℕ) (b : Bool) → p < n → has new p ≡ b → ((q : ℕ) → q ≢ p → has new q ≡ has old q) → marks_of n new ≡ slice_set (marks_of n old) p b
marks_put n old new p b h e o = sym (fill_by_all (has new) (slice_set (marks_of n old) p b) n true (length-set (marks_of n old) p b ∙ many_marks n old) at)
  where
    at : (k : ℕ) → k < n → get_or (slice_set (marks_of n old) p b) k true ≡ has new k
    at k l = elim (cases_eq k p) [
      | inl s ↦ ap (λ i. get_or (slice_set (marks_of n old) p b) i true) s ∙ get_or-set_same (marks_of n old) p b true (omega (arith, h, many_marks n old)) ∙ sym e ∙ ap (has new) (sym s)
      | inr d ↦ get_or-set_other (marks_of n old) p k b true d ∙ get_or-map-range_with_len (has old) 0 n k k true l (omega arith) ∙ sym (o k d)
    ]

-- all bits are alike
pub marks_alike : (n : ℕ) (words : List ℕ) (b : Bool) → ((p : ℕ) → p < n → has words p ≡ b) → marks_of n words ≡ replicate n b
marks_alike n words b h = sym (fill_by_all (has words) (replicate n b) n true (length-replicate n b) (λ k l. get_or-replicate n k b true l ∙ sym (h k l)))

-- a set bit is that of a place
pub is_place : (n : ℕ) (words : List ℕ) (p : ℕ) → ((q : ℕ) → n ≤ q → has words q ≡ false) → has words p ≡ true → p < n
is_place n words p c h = elim (cases_lt p n) [ inl l ↦ l | inr l ↦ absurd (let z = c p l in cc) ]

pub is_least : (n : ℕ) (words : List ℕ) (p : ℕ) → ((q : ℕ) → n ≤ q → has words q ≡ false) → has words p ≡ true → ((q : ℕ) → q < p → has words q ≡ false) → IsLeast (marks_of n words) p
is_least n words p c h l = record { here = marked_has n words c p ∙ h; least = λ q s. marked_has n words c q ∙ l q s }

pub is_greatest : (n : ℕ) (words : List ℕ) (p : ℕ) → ((q : ℕ) → n ≤ q → has words q ≡ false) → has words p ≡ true → ((q : ℕ) → p < q → has words q ≡ false) → IsGreatest (marks_of n words) p
is_greatest n words p c h g = record { here = marked_has n words c p ∙ h; greatest = λ q s. marked_has n words c q ∙ g q s }

-- a place of a set has a bit
pub place_within : (n : ℕ) (words : List ℕ) (ms : List Bool) (p : ℕ) → marks_of n words ≡ ms → p < length ms → p < n
place_within n words ms p e h = omega (arith, h, ap length e, many_marks n words)

pub bit_within : (n : ℕ) (words : List ℕ) (ms : List Bool) (p : ℕ) → length words ≡ n / 64 + 1 → marks_of n words ≡ ms → p < length ms → p < length words * 64
bit_within n words ms p m e h = let w = place_within n words ms p e h in omega arith

-- ---- the least and the greatest are found ----

pub found_least : (words ws : List ℕ) (least w i word : ℕ) → ws ≡ words → ((p : ℕ) → p < least * 64 → has words p ≡ false) → ((k : ℕ) → least ≤ k → k < w → slice_index ws k ≡ 0) →
    word ≡ slice_index words w → i < 64 → bit_at word i ≡ 1 → ((j : ℕ) → j < i → bit_at word j ≡ 0) → (has words (w * 64 + i) ≡ true) × ((p : ℕ) → p < w * 64 + i → has words p ≡ false)
found_least words ws least w i word s b z e h one none =
    least_in words w i (none_before words least w b (λ k x y. ap (λ (l : List ℕ). slice_index l k) (sym s) ∙ z k x y)) h (ap (λ v. bit_at v i) (sym e) ∙ one) (λ j l. ap (λ v. bit_at v j) (sym e) ∙ none j l)

pub found_greatest : (words ws : List ℕ) (past to w i word : ℕ) → ws ≡ words → ((p : ℕ) → past * 64 ≤ p → has words p ≡ false) → ((k : ℕ) → to ≤ k → k < past → slice_index ws k ≡ 0) → w + 1 ≡ to →
    word ≡ slice_index words w → i < 64 → bit_at word i ≡ 1 → ((j : ℕ) → i < j → bit_at word j ≡ 0) → (has words (w * 64 + i) ≡ true) × ((p : ℕ) → w * 64 + i < p → has words p ≡ false)
found_greatest words ws past to w i word s b z t e h one none =
    greatest_in words w i (λ p l. none_behind words to past b (λ k x y. ap (λ (l : List ℕ). slice_index l k) (sym s) ∙ z k x y) p (omega arith)) h (ap (λ v. bit_at v i) (sym e) ∙ one) (λ j l. ap (λ v. bit_at v j) (sym e) ∙ none j l)

-- no bit is set where all words from `least` up to `past` are 0
pub none_up_to : (words ws : List ℕ) (least past w : ℕ) → ws ≡ words → ((p : ℕ) → p < least * 64 → has words p ≡ false) → ((p : ℕ) → past * 64 ≤ p → has words p ≡ false) → ((k : ℕ) → least ≤ k → k < w → slice_index ws k ≡ 0) → past ≤ w → (p : ℕ) → has words p ≡ false
none_up_to words ws least past w s b f z h p = elim (cases_lt p (past * 64)) [
  | inl l ↦ none_before words least w b (λ k x y. ap (λ (l : List ℕ). slice_index l k) (sym s) ∙ z k x y) p (omega arith)
  | inr l ↦ f p l
]

pub none_down_to : (words ws : List ℕ) (least past to : ℕ) → ws ≡ words → ((p : ℕ) → p < least * 64 → has words p ≡ false) → ((p : ℕ) → past * 64 ≤ p → has words p ≡ false) → ((k : ℕ) → to ≤ k → k < past → slice_index ws k ≡ 0) → to ≤ least → (p : ℕ) → has words p ≡ false
none_down_to words ws least past to s b f z h p = elim (cases_lt p (least * 64)) [
  | inl l ↦ b p l
  | inr l ↦ none_behind words to past f (λ k x y. ap (λ (l : List ℕ). slice_index l k) (sym s) ∙ z k x y) p (omega arith)
]

-- where no bit is set no place is marked
pub none_marked : (n : ℕ) (words : List ℕ) (ms : List Bool) → marks_of n words ≡ ms → ((p : ℕ) → n ≤ p → has words p ≡ false) → ((p : ℕ) → has words p ≡ false) → (p : ℕ) → marked ms p ≡ false
none_marked n words ms v c z p = ap (λ (l : List Bool). marked l p) (sym v) ∙ marked_has n words c p ∙ z p

-- a bit that is cleared leaves what was not set
pub still_unset : (old new : List ℕ) (p q : ℕ) → has new p ≡ false → ((k : ℕ) → k ≢ p → has new k ≡ has old k) → has old q ≡ false → has new q ≡ false
still_unset old new p q h o e = elim (cases_eq q p) [
  | inl s ↦ ap (has new) s ∙ h
  | inr d ↦ o q d ∙ e
]
