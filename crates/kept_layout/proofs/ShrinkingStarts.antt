-- Where blocks begin: in order, each after the bytes of the one before; and where they begin once one takes fewer bytes.
use Rattle.std.proofs.Common.{◌≡◌, ◌∙◌, ℕ, zero, suc, ◌+◌, ◌-◌, ◌<◌, ◌≤◌, List, [], ◌∷◌, ◌++◌, length, take, drop, Some, refl, ap, arith}
use Rattle.std.specs.Prelude.{slice_get}
use Rattle.kept_layout.specs.Blocks.{behind, end_from, lessen, padding_of, starts_from, IsAlignment, Footprint}
use Rattle.kept_layout.proofs.Giving.{end_from_least as end_low}

-- ---- in order ----

pub starts_length : (at : ℕ) (ss : List Footprint) → length (starts_from at ss) ≡ length ss
starts_length at [] = refl
starts_length at (s ∷ ss) = ap suc (starts_length (behind at s) ss)

starts_low : (at : ℕ) (ss : List Footprint) (k a : ℕ) → slice_get (starts_from at ss) k ≡ Some a → at ≤ a
starts_low at [] k a e = absurd (cc)
starts_low at (s ∷ ss) zero a e = let same : at ≡ a = cc in omega arith
starts_low at (s ∷ ss) (suc k) a e = let h = starts_low (behind at s) ss k a e in omega arith

-- a later block lies after the bytes of an earlier one
pub starts_apart : (at : ℕ) (ss : List Footprint) (i k : ℕ) (s : Footprint) (a b : ℕ) → i < k → slice_get ss i ≡ Some s → slice_get (starts_from at ss) i ≡ Some a → slice_get (starts_from at ss) k ≡ Some b → a + s.bytes ≤ b
starts_apart at [] i k s a b l e f g = absurd (cc)
starts_apart at (t ∷ ss) i zero s a b l e f g = absurd (omega arith)
starts_apart at (t ∷ ss) zero (suc k) s a b l e f g =
    let same : t ≡ s = cc in
    let bytes = ap (λ (x : Footprint). x.bytes) same in
    let first : at ≡ a = cc in
    let h = starts_low (behind at t) ss k b g in
    omega arith
starts_apart at (t ∷ ss) (suc i) (suc k) s a b l e f g = starts_apart (behind at t) ss i k s a b (omega arith) e f g

pub starts_order : (at : ℕ) (ss : List Footprint) (i k a b : ℕ) → i ≤ k → slice_get (starts_from at ss) i ≡ Some a → slice_get (starts_from at ss) k ≡ Some b → a ≤ b
starts_order at [] i k a b l f g = absurd (cc)
starts_order at (t ∷ ss) zero k a b l f g = let first : at ≡ a = cc in let h = starts_low at (t ∷ ss) k b g in omega arith
starts_order at (t ∷ ss) (suc i) zero a b l f g = absurd (omega arith)
starts_order at (t ∷ ss) (suc i) (suc k) a b l f g = starts_order (behind at t) ss i k a b (omega arith) f g

-- no block ends after the last one does
pub behind_low : (at : ℕ) (ss : List Footprint) (k : ℕ) (s : Footprint) (a : ℕ) → slice_get ss k ≡ Some s → slice_get (starts_from at ss) k ≡ Some a → behind a s ≤ end_from at ss
behind_low at [] k s a e f = absurd (cc)
behind_low at (t ∷ ss) zero s a e f =
    let same : t ≡ s = cc in
    let first : at ≡ a = cc in
    let h = end_low (behind at t) ss in
    let both : behind at t ≡ behind a s = ap (λ n. behind n t) first ∙ ap (behind a) same in
    omega arith
behind_low at (t ∷ ss) (suc k) s a e f = behind_low (behind at t) ss k s a e f

-- ---- from one of them on ----

pub starts_drop : (at : ℕ) (ss : List Footprint) (k a : ℕ) → slice_get (starts_from at ss) k ≡ Some a → starts_from a (drop k ss) ≡ drop k (starts_from at ss)
starts_drop at [] k a e = absurd (cc)
starts_drop at (s ∷ ss) zero a e = let first : a ≡ at = cc in ap (λ n. starts_from n (s ∷ ss)) first
starts_drop at (s ∷ ss) (suc k) a e = starts_drop (behind at s) ss k a e

pub end_drop : (at : ℕ) (ss : List Footprint) (k a : ℕ) → slice_get (starts_from at ss) k ≡ Some a → end_from a (drop k ss) ≡ end_from at ss
end_drop at [] k a e = absurd (cc)
end_drop at (s ∷ ss) zero a e = let first : a ≡ at = cc in ap (λ n. end_from n (s ∷ ss)) first
end_drop at (s ∷ ss) (suc k) a e = end_drop (behind at s) ss k a e

-- ---- one of them takes fewer bytes ----

pub starts_lessen : (at : ℕ) (ss : List Footprint) (n bytes gone : ℕ) (s : Footprint) (a : ℕ) → slice_get ss n ≡ Some s → slice_get (starts_from at ss) n ≡ Some a
    → starts_from at (lessen n bytes gone ss) ≡ take (suc n) (starts_from at ss) ++ starts_from (a + (padding_of s.head a + (s.bytes - bytes))) (drop (suc n) ss)
starts_lessen at [] n bytes gone s a e f = absurd (cc)
starts_lessen at (t ∷ ss) zero bytes gone s a e f =
    let same : t ≡ s = cc in
    let first : at ≡ a = cc in
    ap (λ (x : List ℕ). at ∷ x) (ap (λ n. starts_from (n + (padding_of t.head n + (t.bytes - bytes))) ss) first ∙ ap (λ (x : Footprint). starts_from (a + (padding_of x.head a + (x.bytes - bytes))) ss) same)
starts_lessen at (t ∷ ss) (suc n) bytes gone s a e f = ap (λ (x : List ℕ). at ∷ x) (starts_lessen (behind at t) ss n bytes gone s a e f)

pub end_lessen : (at : ℕ) (ss : List Footprint) (n bytes gone : ℕ) (s : Footprint) (a : ℕ) → slice_get ss n ≡ Some s → slice_get (starts_from at ss) n ≡ Some a
    → end_from at (lessen n bytes gone ss) ≡ end_from (a + (padding_of s.head a + (s.bytes - bytes))) (drop (suc n) ss)
end_lessen at [] n bytes gone s a e f = absurd (cc)
end_lessen at (t ∷ ss) zero bytes gone s a e f =
    let same : t ≡ s = cc in
    let first : at ≡ a = cc in
    ap (λ n. end_from (n + (padding_of t.head n + (t.bytes - bytes))) ss) first ∙ ap (λ (x : Footprint). end_from (a + (padding_of x.head a + (x.bytes - bytes))) ss) same
end_lessen at (t ∷ ss) (suc n) bytes gone s a e f = end_lessen (behind at t) ss n bytes gone s a e f

pub lessen_length : (n bytes gone : ℕ) (ss : List Footprint) → length (lessen n bytes gone ss) ≡ length ss
lessen_length n bytes gone [] = refl
lessen_length zero bytes gone (s ∷ ss) = refl
lessen_length (suc n) bytes gone (s ∷ ss) = ap suc (lessen_length n bytes gone ss)

-- each is one of them, which begins with the same
pub record IsOfLessen (n : ℕ) (ss : List Footprint) (j : ℕ) (s : Footprint) : Type 0 where
  pub footprint : Footprint
  pub is : slice_get ss j ≡ Some footprint
  pub head : footprint.head ≡ s.head
  pub other : j < n → footprint ≡ s

pub lessen_at : (n bytes gone : ℕ) (ss : List Footprint) (j : ℕ) (s : Footprint) → slice_get (lessen n bytes gone ss) j ≡ Some s → IsOfLessen n ss j s
lessen_at n bytes gone [] j s e = absurd (cc)
lessen_at zero bytes gone (t ∷ ss) zero s e =
    let same : (record { head = t.head; bytes = t.bytes - bytes; places = t.places - gone }) ≡ s = cc in
    record { footprint = t; is = refl; head = ap (λ (x : Footprint). x.head) same; other = λ l. absurd (omega arith) }
lessen_at zero bytes gone (t ∷ ss) (suc j) s e = record { footprint = s; is = e; head = refl; other = λ l. refl }
lessen_at (suc n) bytes gone (t ∷ ss) zero s e = let same : t ≡ s = cc in record { footprint = t; is = refl; head = ap (λ (x : Footprint). x.head) same; other = λ l. same }
lessen_at (suc n) bytes gone (t ∷ ss) (suc j) s e = let r = lessen_at n bytes gone ss j s e in record { footprint = r.footprint; is = r.is; head = r.head; other = λ l. r.other (omega arith) }

-- and each of them is there, with what it begins with
pub lessen_there : (n bytes gone : ℕ) (ss : List Footprint) (j : ℕ) (s : Footprint) → slice_get ss j ≡ Some s → (t : Footprint) × (slice_get (lessen n bytes gone ss) j ≡ Some t) × (t.head ≡ s.head) × (j < n → t ≡ s)
lessen_there n bytes gone [] j s e = absurd (cc)
lessen_there zero bytes gone (t ∷ ss) zero s e =
    let same : t ≡ s = cc in
    (record { head = t.head; bytes = t.bytes - bytes; places = t.places - gone }, refl, ap (λ (x : Footprint). x.head) same, λ l. absurd (omega arith))
lessen_there zero bytes gone (t ∷ ss) (suc j) s e = (s, e, refl, λ l. refl)
lessen_there (suc n) bytes gone (t ∷ ss) zero s e = let same : t ≡ s = cc in (t, refl, ap (λ (x : Footprint). x.head) same, λ l. same)
lessen_there (suc n) bytes gone (t ∷ ss) (suc j) s e = let r = lessen_there n bytes gone ss j s e in (r.0, r.1, r.2, λ l. r.3 (omega arith))

-- the places before stay
pub places_lessen : (n bytes gone : ℕ) (ss : List Footprint) → take n (lessen n bytes gone ss) ≡ take n ss
places_lessen n bytes gone [] = refl
places_lessen zero bytes gone (s ∷ ss) = refl
places_lessen (suc n) bytes gone (s ∷ ss) = ap (λ (x : List Footprint). s ∷ x) (places_lessen n bytes gone ss)

-- what the alignments divide stays
alignment_less : (g n bytes gone : ℕ) (ss : List Footprint) → IsAlignment g ss → IsAlignment g (lessen n bytes gone ss)
alignment_less g n bytes gone [] h = h
alignment_less g zero bytes gone (s ∷ ss) h = h
alignment_less g (suc n) bytes gone (s ∷ ss) h = (h.0, alignment_less g n bytes gone ss h.1)

pub alignment_lessen : (g n bytes gone j : ℕ) (ss : List Footprint) → IsAlignment g (drop j ss) → IsAlignment g (drop j (lessen n bytes gone ss))
alignment_lessen g n bytes gone zero ss h = alignment_less g n bytes gone ss h
alignment_lessen g n bytes gone (suc j) [] h = h
alignment_lessen g zero bytes gone (suc j) (s ∷ ss) h = h
alignment_lessen g (suc n) bytes gone (suc j) (s ∷ ss) h = alignment_lessen g n bytes gone j ss h
