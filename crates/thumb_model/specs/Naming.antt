-- A naming gives each name and return point a word, as a layout does, and leaves open where anything else lies: so two listings can run under one.
use Rattle.std.specs.Prelude.{◌≡◌, ◌≢◌, ℕ, ◌+◌, ◌%◌, ◌^◌, ◌<◌, ◌==◌, ◌&&◌, Bool, true, false, nat_lt, nat_le, List, [], ◌∷◌, ◌++◌, Some, slice_get, if◌then◌else◌, zero, suc, Option, None}
use Rattle.thumb_model.specs.Listing.{Name, Place, Label, Code, is_code, has_label, is_mentioned, is_call, Statement, Nothing, Instruction, Words, Aligns, Sets, ListingLine, code_of, place_of, is_call_instr, call_count, places_of}
use Rattle.thumb_model.specs.Layout.{size_at, end_of, label_address}

-- Namings: the words of names and return points, and which namings fit a listing.

-- a word for each name and for the return point of each call by its number, and the range of code
pub record Naming : Type 0 where
  pub word_of : Name → ℕ
  pub return_word : ℕ → ℕ
  pub low : ℕ
  pub high : ℕ

abbrev pub is_odd : ℕ → Bool
is_odd n = n % 2 == 1

abbrev pub is_in_range : Naming → ℕ → Bool
is_in_range names word = nat_le names.low word && nat_lt word names.high

-- the code labels' words and places
abbrev pub points_of : Naming → List Place → List Label → List (ℕ × ℕ)
points_of names places [] = []
points_of names places (l ∷ ls) =
    if is_code places l then (names.word_of l.name, l.place) ∷ points_of names places ls else points_of names places ls

-- the return points of the calls among places from p on, of which the first has the number k
abbrev pub returns_from : Naming → ℕ → ℕ → List Place → List (ℕ × ℕ)
returns_from names k p [] = []
returns_from names k p (x ∷ xs) =
    if is_call x then (names.return_word k, p + 1) ∷ returns_from names (k + 1) (p + 1) xs else returns_from names k (p + 1) xs

-- the code points: their words and places
abbrev pub points : Naming → Code → List (ℕ × ℕ)
points names code = points_of names code.places code.labels ++ returns_from names 0 0 code.places

-- the naming fits the listing: a word then identifies at most one place
pub record Fits (names : Naming) (code : Code) : Type 0 where
  pub words : (n : Name) → names.word_of n < 2 ^ 32
  pub return_words : (k : ℕ) → names.return_word k < 2 ^ 32
  pub low_even : names.low % 2 ≡ 0
  pub high_even : names.high % 2 ≡ 0
  -- a code point's word is odd and in the range
  pub are_code : (k : ℕ) (w p : ℕ) → slice_get (points names code) k ≡ Some (w, p) → (is_odd w && is_in_range names w) ≡ true
  -- code points at different places have different words
  pub distinct : (j k : ℕ) (v w p q : ℕ) → slice_get (points names code) j ≡ Some (v, p) → slice_get (points names code) k ≡ Some (w, q) → p ≢ q → v ≢ w
  -- an external name's word is outside the range
  pub outside : (n : Name) → is_mentioned n code.places ≡ true → has_label n code.labels ≡ false → is_in_range names (names.word_of n) ≡ false

-- The naming of a layout.

-- the word of a name: a code label's address with bit 0 set, another label's address, or for an external name the given word
abbrev pub word_by : ℕ → Option ℕ → Option ℕ → ℕ
word_by set None code = set
word_by set (Some a) None = a
word_by set (Some a) (Some p) = a + 1

-- whether a statement is a call, and the address after call number k, counted from 0
abbrev pub ends_in_call : Statement → Bool
ends_in_call Nothing = false
ends_in_call (Instruction i mention) = is_call_instr i
ends_in_call (Words vs) = false
ends_in_call (Aligns size most) = false
ends_in_call (Sets name address) = false

abbrev pub return_address : ℕ → ℕ → List ListingLine → ℕ
return_address k at [] = 0
return_address zero at (l ∷ ls) = if ends_in_call l.statement then at + size_at l.statement at else return_address zero (at + size_at l.statement at) ls
return_address (suc k) at (l ∷ ls) = if ends_in_call l.statement then return_address k (at + size_at l.statement at) ls else return_address (suc k) (at + size_at l.statement at) ls

-- the lines split at call number k, counted from 0: k calls come before it
pub record IsCutAtCall (lines : List ListingLine) (k : ℕ) (before : List ListingLine) (call : ListingLine) (after : List ListingLine) : Type 0 where
  pub cut : lines ≡ before ++ call ∷ after
  pub calls : ends_in_call call.statement ≡ true
  pub number : k ≡ call_count (places_of before)

abbrev pub last_is_call : List Place → Bool
last_is_call [] = false
last_is_call (p ∷ []) = is_call p
last_is_call (p ∷ (q ∷ ps)) = last_is_call (q ∷ ps)

-- the layout's naming; the range goes from the base to the end, and 2 bytes further where a call is last, so that it contains the call's return point
abbrev pub laid : ℕ → (Name → ℕ) → List ListingLine → Naming
laid base set all = record {
  word_of = λ name. word_by (set name) (label_address name base all) (place_of (code_of all) name);
  return_word = λ k. return_address k base all + 1;
  low = base;
  high = if last_is_call (places_of all) then end_of base all + 2 else end_of base all;
}
