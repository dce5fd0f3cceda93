-- Reading the text of a mask: what is read is what is written, and all that is written is read.
use Rattle.std.proofs.Common.{◌≡◌, ℕ, zero, suc, ◌<◌, ◌≤◌, ◌==◌, ◌&&◌, ◌||◌, Bool, true, false, List, [], ◌∷◌, ◌++◌, map, refl, sym, ◌∙◌, ap, arith, cond, Option, Some, None, inl, inr, eqb-true, eq-eqb, append_assoc, append-nil, leb-true, nat_le}
use Rattle.std.specs.Prelude.{nat_lt}
use Rattle.std.specs.List.{flat_map, list_all}
use Rattle.std.specs.Int.{bit_at}
use Rattle.std.proofs.lemmas.Bool.{cases_Bool, and_parts, ne_eqb}
use Rattle.std.proofs.lemmas.Bool.Decides.{nat_tests}
use Rattle.std.proofs.lemmas.Nat.Bits.{same_from_bits, bit_at-lt}
use Rattle.seq_enum.specs.Alphabet.{ascends_from}
use Rattle.thumb_instr.specs.Items.{has, is_in_masks, one_of}
use Rattle.rule_table.specs.declared.tails.MaskItem.{MaskItem}
use Rattle.rule_table.specs.MaskView.{row_of}
use Rattle.rule_table.specs.Text.{mask_rows, mask_text}
use Rattle.rule_table.specs.Table.{IsMask}
use Rattle.rule_table.specs.Fronts.{strip, left_of, is_taken, and_taken, taken}
use Rattle.rule_table.proofs.FrontLemmas.{strip_front, strip_sound}
use Rattle.common_lemmas.proofs.Booleans.{and_false}
use Rattle.cnf_gates.proofs.Tables.{or_assoc as or_later}

-- the texts of those rows whose items are wanted
abbrev pub row_texts : (ℕ → Bool) → List (ℕ × List ℕ) → List ℕ
row_texts p rows = flat_map (λ (r : ℕ × List ℕ). cond (p r.0) r.1 []) rows

-- ---- texts of which none begins another

-- two texts differ at an index that both have
differ : List ℕ → List ℕ → Bool
differ [] u = false
differ (a ∷ t) [] = false
differ (a ∷ t) (b ∷ u) = cond (a == b) (differ t u) true

differ_strip : (t u xs : List ℕ) → differ t u ≡ true → strip t (u ++ xs) ≡ None
unfolding differ
differ_strip [] u xs e = cc
differ_strip (a ∷ t) [] xs e = cc
differ_strip (a ∷ t) (b ∷ u) xs e = elim (cases_Bool (a == b)) [
  | inl h ↦ rw h (differ_strip t u xs (rw h at e))
  | inr h ↦ rw h refl
]

all_differ : List ℕ → List (ℕ × List ℕ) → Bool
all_differ t [] = true
all_differ t (r ∷ rs) = differ t r.1 && all_differ t rs

is_some_byte : List ℕ → Bool
is_some_byte [] = false
is_some_byte (b ∷ bs) = true

pub are_apart : List (ℕ × List ℕ) → Bool
are_apart [] = true
are_apart (r ∷ rs) = is_some_byte r.1 && (all_differ r.1 rs && are_apart rs)

strip_empty : (t : List ℕ) → is_some_byte t ≡ true → strip t [] ≡ None
unfolding is_some_byte
strip_empty [] e = cc
strip_empty (a ∷ t) e = refl

strip_rows : (t : List ℕ) (p : ℕ → Bool) (rs : List (ℕ × List ℕ)) → is_some_byte t ≡ true → all_differ t rs ≡ true → strip t (row_texts p rs) ≡ None
unfolding all_differ
strip_rows t p [] some e = strip_empty t some
strip_rows t p (r ∷ rs) some e =
    let parts = and_parts (differ t r.1) (all_differ t rs) e in
    elim (cases_Bool (p r.0)) [
      | inl h ↦ rw h (differ_strip t r.1 (row_texts p rs) parts.0)
      | inr h ↦ rw h (strip_rows t p rs some parts.1)
    ]

-- those rows' items
pub picked : (ℕ → Bool) → List (ℕ × List ℕ) → List ℕ
picked p [] = []
picked p (r ∷ rs) = cond (p r.0) (r.0 ∷ picked p rs) (picked p rs)

-- reading the texts of some items takes these items and leaves nothing
pub taken_rows : (p : ℕ → Bool) (rs : List (ℕ × List ℕ)) → are_apart rs ≡ true → taken rs (row_texts p rs) ≡ (picked p rs, [])
unfolding taken are_apart picked
taken_rows p [] e = refl
taken_rows p (r ∷ rs) e =
    let a = and_parts (is_some_byte r.1) (all_differ r.1 rs && are_apart rs) e in
    let b = and_parts (all_differ r.1 rs) (are_apart rs) a.1 in
    let later = taken_rows p rs b.1 in
    elim (cases_Bool (p r.0)) [
      | inl h ↦ rw (h, strip_front r.1 (row_texts p rs), later) refl
      | inr h ↦ rw (h, strip_rows r.1 p rs a.0 b.0) later
    ]

-- ---- what was taken

at_least : ℕ → List ℕ → Type 0
at_least low [] = Unit {0}
at_least low (x ∷ xs) = (low ≤ x) × at_least low xs

lower : (low high : ℕ) (xs : List ℕ) → low ≤ high → at_least high xs → at_least low xs
unfolding at_least
lower low high [] h k = tt
lower low high (x ∷ xs) h k = let first = k.0 in (omega arith, lower low high xs h k.1)

none_below : (x low : ℕ) (xs : List ℕ) → x < low → at_least low xs → one_of x xs ≡ false
unfolding at_least
none_below x low [] h k = refl
none_below x low (y ∷ ys) h k =
    let first = k.0 in
    rw (ne_eqb x y (λ e. absurd (omega arith))) (none_below x low ys h k.1)

abbrev pub items_of_rows : List (ℕ × List ℕ) → List ℕ
items_of_rows rs = map (λ (r : ℕ × List ℕ). r.0) rs

taken_above : (low : ℕ) (rs : List (ℕ × List ℕ)) (bs : List ℕ) → ascends_from low (items_of_rows rs) ≡ true → at_least low (taken rs bs).0
unfolding at_least taken ascends_from
taken_above low [] bs up = tt
taken_above low (r ∷ rs) bs up = by (strip r.1 bs) (λ t. taken_above (suc r.0) rs t parts.1)
  where
    parts : (nat_le low r.0 ≡ true) × (ascends_from (suc r.0) (items_of_rows rs) ≡ true)
    parts = and_parts (nat_le low r.0) (ascends_from (suc r.0) (items_of_rows rs)) up

    first : low ≤ r.0
    first = leb-true low r.0 parts.0

    by : (o : Option (List ℕ)) → ((t : List ℕ) → at_least (suc r.0) (taken rs t).0) → at_least low (and_taken bs r.0 o (taken rs)).0
    by None later = lower low (suc r.0) (taken rs bs).0 (let f = first in omega arith) (later bs)
    by (Some t) later = (first, lower low (suc r.0) (taken rs t).0 (let f = first in omega arith) (later t))

-- an item below all rows changes nothing
same_rows : (x low : ℕ) (xs : List ℕ) (rs : List (ℕ × List ℕ)) → x < low → ascends_from low (items_of_rows rs) ≡ true → row_texts (λ y. one_of y (x ∷ xs)) rs ≡ row_texts (λ y. one_of y xs) rs
unfolding ascends_from
same_rows x low xs [] h up = refl
same_rows x low xs (r ∷ rs) h up =
    let parts = and_parts (nat_le low r.0) (ascends_from (suc r.0) (items_of_rows rs)) up in
    let first = leb-true low r.0 parts.0 in
    rw (ne_eqb r.0 x (λ e. absurd (omega arith)), same_rows x (suc r.0) xs rs (omega arith) parts.1) refl

pub taken_texts : (low : ℕ) (rs : List (ℕ × List ℕ)) (bs : List ℕ) → ascends_from low (items_of_rows rs) ≡ true → row_texts (λ y. one_of y (taken rs bs).0) rs ++ (taken rs bs).1 ≡ bs
unfolding taken ascends_from
taken_texts low [] bs up = refl
taken_texts low (r ∷ rs) bs up = by (strip r.1 bs) refl (λ t. taken_texts (suc r.0) rs t parts.1)
  where
    parts : (nat_le low r.0 ≡ true) × (ascends_from (suc r.0) (items_of_rows rs) ≡ true)
    parts = and_parts (nat_le low r.0) (ascends_from (suc r.0) (items_of_rows rs)) up

    by : (o : Option (List ℕ)) → strip r.1 bs ≡ o → ((t : List ℕ) → row_texts (λ y. one_of y (taken rs t).0) rs ++ (taken rs t).1 ≡ t)
        → row_texts (λ y. one_of y (and_taken bs r.0 o (taken rs)).0) (r ∷ rs) ++ (and_taken bs r.0 o (taken rs)).1 ≡ bs
    by None e later = rw (none_below r.0 (suc r.0) (taken rs bs).0 (omega arith) (taken_above (suc r.0) rs bs parts.1)) (later bs)
    by (Some t) e later =
        rw (eq-eqb r.0 r.0 refl, same_rows r.0 (suc r.0) (taken rs t).0 rs (omega arith) parts.1)
        (append_assoc r.1 (row_texts (λ y. one_of y (taken rs t).0) rs) (taken rs t).1 ∙ ap (λ us. r.1 ++ us) (later t) ∙ sym (strip_sound r.1 bs t e))

-- ---- masks

rows_apart : are_apart mask_rows ≡ true
unfolding are_apart all_differ differ is_some_byte
rows_apart = refl

rows_ascend : ascends_from 0 (items_of_rows mask_rows) ≡ true
unfolding ascends_from
rows_ascend = refl

pub taken_mask : (m : ℕ) → taken mask_rows (mask_text m) ≡ (picked (has m) mask_rows, [])
taken_mask m = taken_rows (has m) mask_rows rows_apart

-- every byte was taken
pub mask_taken : (bs : List ℕ) → (taken mask_rows bs).1 ≡ [] → row_texts (λ y. one_of y (taken mask_rows bs).0) mask_rows ≡ bs
mask_taken bs none = sym (append-nil _) ∙ ap (λ us. row_texts (λ y. one_of y (taken mask_rows bs).0) mask_rows ++ us) (sym none) ∙ taken_texts 0 mask_rows bs rows_ascend

-- ---- masks by their texts

one_of_picked : (p : ℕ → Bool) (x : ℕ) (rs : List (ℕ × List ℕ)) → one_of x (picked p rs) ≡ (p x && one_of x (items_of_rows rs))
unfolding picked
one_of_picked p x [] = sym (and_false (p x))
one_of_picked p x (r ∷ rs) = by (x == r.0) (p r.0) refl refl (one_of_picked p x rs)
  where
    or_with : (a b : Bool) → (a && (true || b)) ≡ a
    or_with true b = refl
    or_with false b = refl

    by : (same wanted : Bool) → (x == r.0) ≡ same → p r.0 ≡ wanted → one_of x (picked p rs) ≡ (p x && one_of x (items_of_rows rs))
        → one_of x (cond wanted (r.0 ∷ picked p rs) (picked p rs)) ≡ (p x && (same || one_of x (items_of_rows rs)))
    by true true e w later = let is : p x ≡ true = ap p (eqb-true x r.0 e) ∙ w in rw (e, is) refl
    by true false e w later = let is : p x ≡ false = ap p (eqb-true x r.0 e) ∙ w in later ∙ rw is refl
    by false true e w later = rw e later
    by false false e w later = later

-- the rows have the items of masks
rows_items : (x : ℕ) → one_of x (items_of_rows mask_rows) ≡ is_in_masks x
rows_items x = grind (arith, nat_tests)

kept : (m x : ℕ) → IsMask m → (has m x && is_in_masks x) ≡ has m x
kept m x is = elim (cases_Bool (has m x)) [
  | inl h ↦ rw (h, is x h) refl
  | inr h ↦ rw h refl
]

bits_of : (m x : ℕ) → IsMask m → has m x ≡ one_of x (picked (has m) mask_rows)
bits_of m x is = sym (one_of_picked (has m) x mask_rows ∙ ap (λ b. has m x && b) (rows_items x) ∙ kept m x is)

same_bit : (a b : ℕ) → a < 2 → b < 2 → (a == 1) ≡ (b == 1) → a ≡ b
same_bit zero zero h k e = refl
same_bit zero (suc zero) h k e = cc
same_bit (suc zero) zero h k e = cc
same_bit (suc zero) (suc zero) h k e = refl
same_bit (suc (suc a)) b h k e = absurd (omega arith)
same_bit a (suc (suc b)) h k e = absurd (omega arith)

pub mask_tells : (a b : ℕ) → IsMask a → IsMask b → mask_text a ≡ mask_text b → a ≡ b
mask_tells a b is are e =
    let taken' : (picked (has a) mask_rows, []) ≡ (picked (has b) mask_rows, []) = sym (taken_mask a) ∙ ap (taken mask_rows) e ∙ taken_mask b in
    let same : picked (has a) mask_rows ≡ picked (has b) mask_rows = ap (λ (p : List ℕ × List ℕ). p.0) taken' in
    same_from_bits a b (λ x. same_bit (bit_at a x) (bit_at b x) (bit_at-lt a x) (bit_at-lt b x) (bits_of a x is ∙ ap (one_of x) same ∙ sym (bits_of b x are)))

-- a mask of what was taken
pub mask_of_taken : (m : ℕ) (bs : List ℕ) → ((x : ℕ) → has m x ≡ (one_of x (taken mask_rows bs).0 && is_in_masks x)) → (taken mask_rows bs).1 ≡ [] → mask_text m ≡ bs
mask_of_taken m bs tells none =
    rw (at 0 refl, at 1 refl, at 2 refl, at 3 refl, at 15 refl, at 16 refl, at 17 refl, at 18 refl) (mask_taken bs none)
  where
    and_so : (a b : Bool) → b ≡ true → (a && b) ≡ a
    and_so true b e = e
    and_so false b e = refl

    at : (x : ℕ) → is_in_masks x ≡ true → has m x ≡ one_of x (taken mask_rows bs).0
    at x e = tells x ∙ and_so (one_of x (taken mask_rows bs).0) (is_in_masks x) e

-- bytes that aren't all taken are no mask's text
pub not_mask : (m : ℕ) (bs : List ℕ) → mask_text m ≡ bs → (taken mask_rows bs).1 ≡ []
not_mask m bs e = ap (λ us. (taken mask_rows us).1) (sym e) ∙ ap (λ (p : List ℕ × List ℕ). p.1) (taken_mask m)

-- ---- one row after the other

taken_more : (r : ℕ × List ℕ) (rs : List (ℕ × List ℕ)) (bs : List ℕ) (x : ℕ)
    → (one_of x (taken (r ∷ rs) bs).0 ≡ (is_taken r.0 (strip r.1 bs) x || one_of x (taken rs (left_of bs (strip r.1 bs))).0)) × ((taken (r ∷ rs) bs).1 ≡ (taken rs (left_of bs (strip r.1 bs))).1)
unfolding taken
taken_more r rs bs x = by (strip r.1 bs)
  where
    by : (o : Option (List ℕ)) → (one_of x (and_taken bs r.0 o (taken rs)).0 ≡ (is_taken r.0 o x || one_of x (taken rs (left_of bs o)).0)) × ((and_taken bs r.0 o (taken rs)).1 ≡ (taken rs (left_of bs o)).1)
    by None = (refl, refl)
    by (Some t) = (refl, refl)

pub items_more : (a : Bool) (r : ℕ × List ℕ) (rs : List (ℕ × List ℕ)) (bs : List ℕ) (x : ℕ)
    → (a || one_of x (taken (r ∷ rs) bs).0) ≡ ((a || is_taken r.0 (strip r.1 bs) x) || one_of x (taken rs (left_of bs (strip r.1 bs))).0)
items_more a r rs bs x = ap (λ b. a || b) (taken_more r rs bs x).0 ∙ or_later a (is_taken r.0 (strip r.1 bs) x) (one_of x (taken rs (left_of bs (strip r.1 bs))).0)

pub rest_more : (r : ℕ × List ℕ) (rs : List (ℕ × List ℕ)) (bs : List ℕ) → (taken (r ∷ rs) bs).1 ≡ (taken rs (left_of bs (strip r.1 bs))).1
rest_more r rs bs = (taken_more r rs bs 0).1

-- the code's list of rows
rows_tests : (xs : List MaskItem) → list_all (λ (r : MaskItem). nat_lt r.item 19) xs ≡ list_all (λ (r : ℕ × List ℕ). nat_lt r.0 19) (map row_of xs)
rows_tests [] = refl
rows_tests (x ∷ xs) = ap (λ b. nat_lt x.item 19 && b) (rows_tests xs)

pub rows_small : (xs : List MaskItem) → map row_of xs ≡ mask_rows → list_all (λ (r : MaskItem). nat_lt r.item 19) xs ≡ true
rows_small xs e = rows_tests xs ∙ ap (list_all (λ (r : ℕ × List ℕ). nat_lt r.0 19)) e
