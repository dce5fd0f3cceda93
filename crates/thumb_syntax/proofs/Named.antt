-- Only rows with a text's mnemonic can read the text, so the reader may try these alone.
use Rattle.std.proofs.Common.{◌≡◌, ◌∙◌, inl, inr, ℕ, zero, suc, ◌-◌, ◌%◌, ◌<◌, ◌≤◌, ◌||◌, ◌==◌, Bool, true, false, not, List, [], ◌∷◌, map, Option, get_or, slice_index_or, refl, sym, ap, subst, true≢false, eqb-true, eq-eqb}
use Rattle.std.specs.Prelude.{nat_lt, nat_le}
use Rattle.std.specs.Borrow.{Bor}
use Rattle.thumb_syntax.specs.declared.form.Mnemonic.{Mnemonic}
use Rattle.std.specs.List.{filter, list_all}
use Rattle.std.specs.Char.{to_ascii_lowercase}
use Rattle.std.proofs.lemmas.Bool.{cases_Bool, lt-ltb, le-leb}
use Rattle.std.proofs.lemmas.List.Elements.{filter_agree}
use Rattle.ascii_scan.specs.Names.{is_spelled}
use Rattle.thumb_syntax.specs.Operands.{first_some, or_else, Operand}
use Rattle.thumb_syntax.specs.Rows.{Row, Shown, read_as, read_all}
use Rattle.thumb_syntax.specs.RowLaws.{rows}
use Rattle.thumb_syntax.specs.Mnemonics.{Group, group_of, groups_at, rows_of, named_forms, forms_of, place_of, is_named, is_between, are_there, are_there_at, rows_in, read_by}
use Rattle.thumb_syntax.proofs.RowRelation.{all_rows}
use Rattle.thumb_syntax.proofs.Spelled.{lowered_alike, spelled_alike, lowered_place}

-- ---- the index of a word

pub same_place : (w n : List ℕ) → map to_ascii_lowercase w ≡ map to_ascii_lowercase n → place_of w ≡ place_of n
same_place [] [] e = refl
same_place [] (c ∷ cs) e = absurd (cc)
same_place (b ∷ bs) [] e = absurd (cc)
same_place (b ∷ bs) (c ∷ cs) e =
    let first : to_ascii_lowercase b ≡ to_ascii_lowercase c = cc in
    sym (lowered_place b) ∙ ap (λ (x : ℕ). x % 32) first ∙ lowered_place c

-- ---- the forms that are found

pub rows_alike : (w n : List ℕ) → is_spelled w n ≡ true → rows_of w ≡ rows_of n
rows_alike w n e = filter_agree (λ r. is_spelled w r.mnemonic) (λ r. is_spelled n r.mnemonic) (λ r. spelled_alike w n r.mnemonic e) rows

rows_found : (w : List ℕ) (gs : List Group) → map forms_of gs ≡ map named_forms gs → is_named w gs ≡ true → rows_in gs w ≡ rows_of w
rows_found w [] same e = absurd (true≢false (sym e))
rows_found w (g ∷ gs) same e = elim (cases_Bool (is_spelled w g.name)) [
  | inl found ↦ (
      let forms : g.forms ≡ rows_of g.name = cc in
      rw found (forms ∙ sym (rows_alike w g.name found)))
  | inr other ↦ (
      let more : map forms_of gs ≡ map named_forms gs = cc in
      rw other (rows_found w gs more (rw other at e)))
]

none_found : (w : List ℕ) (gs : List Group) → is_named w gs ≡ false → rows_in gs w ≡ []
none_found w [] e = refl
none_found w (g ∷ gs) e = elim (cases_Bool (is_spelled w g.name)) [
  | inl found ↦ absurd (true≢false (rw found at e))
  | inr other ↦ rw other (none_found w gs (rw other at e))
]

named_alike : (w n : List ℕ) (gs : List Group) → is_spelled w n ≡ true → is_named w gs ≡ is_named n gs
named_alike w n [] e = refl
named_alike w n (g ∷ gs) e = rw (spelled_alike w n g.name e, named_alike w n gs e) refl

none_named : (w : List ℕ) (gs : List Group) (rs : List Row)
    → list_all (λ r. not (place_of r.mnemonic == place_of w) || is_named r.mnemonic gs) rs ≡ true
    → is_named w gs ≡ false → filter (λ r. is_spelled w r.mnemonic) rs ≡ []
none_named w gs [] all none = refl
none_named w gs (r ∷ rs) all none = elim (cases_Bool (is_spelled w r.mnemonic)) [
  | inl spelled ↦ (
      let place : (place_of r.mnemonic == place_of w) ≡ true = eq-eqb _ _ (sym (same_place w r.mnemonic (lowered_alike w r.mnemonic spelled))) in
      let named : is_named r.mnemonic gs ≡ false = sym (named_alike w r.mnemonic gs spelled) ∙ none in
      absurd (true≢false (sym (rw (place, named) at all))))
  | inr other ↦ elim (cases_Bool (not (place_of r.mnemonic == place_of w) || is_named r.mnemonic gs)) [
    | inl holds ↦ rw other (none_named w gs rs (rw holds at all) none)
    | inr fails ↦ absurd (true≢false (sym (rw fails at all)))
  ]
]

pub rows_at_place : (w : List ℕ) (gs : List Group)
    → map forms_of gs ≡ map named_forms gs → are_there_at (place_of w) gs ≡ true → rows_in gs w ≡ rows_of w
rows_at_place w gs same all = elim (cases_Bool (is_named w gs)) [
  | inl found ↦ rows_found w gs same found
  | inr none ↦ none_found w gs none ∙ sym (none_named w gs rows all none)
]

-- ---- one part of the table

group_at : (ms : List (Bor (List Mnemonic))) (i : ℕ) → get_or (groups_at ms) i [] ≡ map group_of (slice_index_or ms i (record { ref_ptr = (0, 0); now = [] })).now
group_at [] i = refl
group_at (m ∷ ms) zero = refl
group_at (m ∷ ms) (suc i) = group_at ms i

forms_same : (gs : List (List Group)) (i : ℕ) → map (map forms_of) gs ≡ map (map named_forms) gs → map forms_of (get_or gs i []) ≡ map named_forms (get_or gs i [])
forms_same [] i e = refl
forms_same (g ∷ gs) zero e = cc
forms_same (g ∷ gs) (suc i) e = forms_same gs i cc

pub forms_at : (ms : List (Bor (List Mnemonic))) (i : ℕ) → map (map forms_of) (groups_at ms) ≡ map (map named_forms) (groups_at ms)
    → map forms_of (map group_of (slice_index_or ms i (record { ref_ptr = (0, 0); now = [] })).now) ≡ map named_forms (map group_of (slice_index_or ms i (record { ref_ptr = (0, 0); now = [] })).now)
forms_at ms i e = subst (λ (gs : List Group). map forms_of gs ≡ map named_forms gs) (group_at ms i) (forms_same (groups_at ms) i e)

all_so : {A : Type 0} → (p q : A → Bool) → ((x : A) → p x ≡ true → q x ≡ true) → (xs : List A) → list_all p xs ≡ true → list_all q xs ≡ true
all_so p q so [] e = refl
all_so p q so (x ∷ xs) e = elim (cases_Bool (p x)) [
  | inl holds ↦ rw (so x holds) (all_so p q so xs (rw holds at e))
  | inr fails ↦ absurd (true≢false (sym (rw fails at e)))
]

there_then : (least end place : ℕ) (gs : List (List Group)) → nat_le least place ≡ true → nat_lt place end ≡ true → (r : Row)
    → (not (is_between least end (place_of r.mnemonic)) || is_named r.mnemonic (get_or gs (place_of r.mnemonic - least) [])) ≡ true
    → (not (place_of r.mnemonic == place) || is_named r.mnemonic (get_or gs (place - least) [])) ≡ true
there_then least end place gs from to r e = elim (cases_Bool (place_of r.mnemonic == place)) [
  | inl same ↦ (
      let at : place_of r.mnemonic ≡ place = eqb-true _ _ same in
      rw same (rw (at, from, to) at e))
  | inr other ↦ rw other refl
]

pub all_at : (ms : List (Bor (List Mnemonic))) (least end place i : ℕ) → least ≤ place → place < end → place - least ≡ i → are_there least end (groups_at ms) ≡ true
    → are_there_at place (map group_of (slice_index_or ms i (record { ref_ptr = (0, 0); now = [] })).now) ≡ true
all_at ms least end place i from to at e =
    subst (λ (gs : List Group). are_there_at place gs ≡ true) (ap (λ (k : ℕ). get_or (groups_at ms) k []) at ∙ group_at ms i)
    (all_so _ _ (there_then least end place (groups_at ms) (le-leb least place from) (lt-ltb place end to)) rows e)

-- ---- what the rows read

first_named : (w : List ℕ) (os : List Operand) (rs : List Row)
    → first_some (read_as w os) rs ≡ first_some (read_by os) (filter (λ r. is_spelled w r.mnemonic) rs)
first_named w os [] = refl
first_named w os (r ∷ rs) = elim (cases_Bool (is_spelled w r.mnemonic)) [
  | inl spelled ↦ rw spelled (ap (or_else (read_by os r)) (first_named w os rs))
  | inr other ↦ rw other (first_named w os rs)
]

pub read_by_named : (w : List ℕ) (os : List Operand) → read_all w os ≡ first_some (read_by os) (rows_of w)
read_by_named w os = all_rows w os ∙ first_named w os rows

pub read_by_forms : (w : List ℕ) (found : Option Shown) (os left : List Operand) (rs : List Row)
    → found ≡ first_some (read_by left) rs → rs ≡ rows_of w → left ≡ os → found ≡ read_all w os
read_by_forms w found os left rs by named same = by ∙ rw (named, same) (sym (read_by_named w os))
