-- Addresses grow from line to line.
use Rattle.std.proofs.Common.{◌≡◌, ◌∙◌, inl, inr, ℕ, zero, suc, ◌+◌, ◌-◌, ◌*◌, ◌≤◌, ◌^◌, List, [], ◌∷◌, length, map, Option, Some, None, refl, sym, ap, arith, if◌then◌else◌}
use Rattle.std.specs.Prelude.{slice_get, nat_le, IfSome}
use Rattle.std.proofs.lemmas.Bool.{cases_Bool, cases_lt, leb-true, le-leb}
use Rattle.std.proofs.lemmas.List.{length-append}
use Rattle.thumb_model.specs.Listing.{Word, places_in, places_of, Name, Value, Statement, Nothing, Instruction, Words, Aligns, Sets, ListingLine}
use Rattle.thumb_model.specs.Layout.{size_at, end_of, is_among, label_address}
use Rattle.thumb_model.proofs.Lists.{get_back}
use Rattle.label_layout.specs.Addresses.{word_addresses, addresses_in, addresses_from, Addresses, AreAddresses, AreInCode}
use Rattle.common_lemmas.proofs.Lists.{get_front}

pub at_end : (at : ℕ) (ls : List ListingLine) → at ≤ end_of at ls
at_end at [] = omega arith
at_end at (l ∷ ls) = let h = at_end (at + size_at l.statement at) ls in omega arith

-- ---- an address that must lie below a limit ----

pub stepped : (n most m : ℕ) → Some m ≡ (if nat_le n most then Some n else None) → (m ≡ n) × (n ≤ most)
stepped n most m e = elim (cases_Bool (nat_le n most)) [
  | inl h ↦ let same : Some m ≡ Some n = rw h at e in ((cc), leb-true n most h)
  | inr h ↦ absurd (let bad : Some m ≡ None = rw h at e in cc)
]

pub fits : (n most : ℕ) → None ≡ (if nat_le n most then Some n else None) → n ≤ most → ⊥
fits n most e h = let bad : None ≡ Some n = rw (le-leb n most h) at e in cc

pub bounded : (o : Option ℕ) (most : ℕ) → ((a : ℕ) → o ≡ Some a → a ≤ most) → IfSome o (λ a. a ≤ most)
bounded None most h = tt
bounded (Some a) most h = h a refl

-- ---- labels and places lie no later than the end ----

pub label_within : (name : Name) (at : ℕ) (ls : List ListingLine) (a : ℕ) → label_address name at ls ≡ Some a → a ≤ end_of at ls
label_within name at [] a e = absurd (let bad : None ≡ Some a = e in cc)
label_within name at (l ∷ ls) a e = elim (cases_Bool (is_among name l.names)) [
  | inl h ↦ let same : Some at ≡ Some a = rw h at e in let is : at ≡ a = cc in let g = at_end (at + size_at l.statement at) ls in omega arith
  | inr h ↦ label_within name (at + size_at l.statement at) ls a (rw h at e)
]

word_within : (at : ℕ) (vs : List Value) (p a : ℕ) → slice_get (word_addresses at vs) p ≡ Some a → a ≤ at + 4 * length vs
word_within at [] p a e = absurd (let bad : None ≡ Some a = e in cc)
word_within at (v ∷ vs) zero a e = let same : Some at ≡ Some a = e in let is : at ≡ a = cc in omega arith
word_within at (v ∷ vs) (suc p) a e = let h = word_within (at + 4) vs p a e in omega arith

place_within : (at : ℕ) (s : Statement) (p a : ℕ) → slice_get (addresses_in at s) p ≡ Some a → a ≤ at + size_at s at
place_within at Nothing p a e = absurd (let bad : None ≡ Some a = e in cc)
place_within at (Instruction i mention) zero a e = let same : Some at ≡ Some a = e in let is : at ≡ a = cc in omega arith
place_within at (Instruction i mention) (suc p) a e = absurd (let bad : None ≡ Some a = e in cc)
place_within at (Words vs) p a e = word_within at vs p a e
place_within at (Aligns size most) p a e = absurd (let bad : None ≡ Some a = e in cc)
place_within at (Sets name address) p a e = absurd (let bad : None ≡ Some a = e in cc)

pub address_within : (at : ℕ) (ls : List ListingLine) (p a : ℕ) → slice_get (addresses_from at ls) p ≡ Some a → a ≤ end_of at ls
address_within at [] p a e = absurd (let bad : None ≡ Some a = e in cc)
address_within at (l ∷ ls) p a e = elim (cases_lt p (length (addresses_in at l.statement))) [
  | inl h ↦
      let here = place_within at l.statement p a (sym (get_front (addresses_in at l.statement) (addresses_from (at + size_at l.statement at) ls) p h) ∙ e) in
      let g = at_end (at + size_at l.statement at) ls in omega arith
  | inr h ↦
      address_within (at + size_at l.statement at) ls (p - length (addresses_in at l.statement)) a
      (sym (get_back (addresses_in at l.statement) (addresses_from (at + size_at l.statement at) ls) (p - length (addresses_in at l.statement)) p (omega arith)) ∙ e)
]

-- what lies before an end in the Code region lies in it
pub in_code : (a : Addresses) (ls : List ListingLine) → AreAddresses ls a → a.end ≤ 2 ^ 29 → AreInCode a
in_code a ls laid h = record {
  end = h;
  places = λ p address e. let w = address_within a.base ls p address (ap (λ (xs : List ℕ). slice_get xs p) (sym laid.places) ∙ e) in let same = laid.end in omega arith;
  label = λ name address e. let w = label_within name a.base ls address (sym (laid.label name) ∙ e) in let same = laid.end in omega arith;
}

-- ---- each place has an address ----

words_counted : (at : ℕ) (vs : List Value) → length (word_addresses at vs) ≡ length (map Word vs)
words_counted at [] = refl
words_counted at (v ∷ vs) = ap suc (words_counted (at + 4) vs)

pub places_counted_in : (at : ℕ) (s : Statement) → length (addresses_in at s) ≡ length (places_in s)
places_counted_in at Nothing = refl
places_counted_in at (Instruction i mention) = refl
places_counted_in at (Words vs) = words_counted at vs
places_counted_in at (Aligns size most) = refl
places_counted_in at (Sets name address) = refl

pub places_counted : (at : ℕ) (ls : List ListingLine) → length (addresses_from at ls) ≡ length (places_of ls)
places_counted at [] = refl
places_counted at (l ∷ ls) =
    let here = places_counted_in at l.statement in
    let rest = places_counted (at + size_at l.statement at) ls in
    let left = length-append (addresses_in at l.statement) (addresses_from (at + size_at l.statement at) ls) in
    let right = length-append (places_in l.statement) (places_of ls) in
    omega arith
