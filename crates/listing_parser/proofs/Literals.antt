-- In a listing that was read, words of data stand behind the label that a literal load mentions, up to the one that it loads.
use Rattle.std.proofs.Common.{◌≡◌, ◌∙◌, inl, inr, ℕ, zero, suc, ◌+◌, ◌-◌, ◌/◌, ◌%◌, ◌<◌, ◌≤◌, ◌==◌, Bool, true, false, List, [], ◌∷◌, ◌++◌, length, map, refl, sym, ap, arith, true≢false, Some, None}
use Rattle.std.specs.Prelude.{nat_lt, nat_le, slice_get}
use Rattle.std.proofs.lemmas.Bool.Decides.{nat_tests}
use Rattle.std.proofs.lemmas.Bool.{cases_Bool, cases_lt, and_parts}
use Rattle.thumb_instr.specs.declared.instr.Instr.{Instr}
use Rattle.thumb_instr.specs.declared.instr.Instr.TheVariants as instr
use Rattle.thumb_model.specs.Listing.{Name, Mention, Value, Statement, Nothing, Instruction, Words, Aligns, Sets, ListingLine, Place, Op, Word, places_in, places_of, labels_from, code_of}
use Rattle.thumb_model.specs.Layout.{is_among}
use Rattle.thumb_model.specs.Steps.{label_place, loads_literal}
use Rattle.thumb_model.specs.Literals.{HasLiterals, is_word_place}
use Rattle.thumb_model.proofs.Lists.{length_map, get_back}
use Rattle.listing_parser.specs.Targets.{from_label, functions, onward, reaches, is_aimed, is_aimed_at, is_literal, is_on_target, first_target}
use Rattle.listing_parser.specs.Parsing.{IsListing}
use Rattle.listing_parser.proofs.LabelLemmas.{label_at}

-- ---- words that are reached ----

word_in : (vs : List Value) (rest : List Place) (j : ℕ) → j < length vs → is_word_place (slice_get (map Word vs ++ rest) j) ≡ true
word_in [] rest j h = absurd (omega arith)
word_in (v ∷ vs) rest zero h = refl
word_in (v ∷ vs) rest (suc j) h = word_in vs rest j (omega arith)

behind_words : (vs : List Value) (rest : List Place) (j : ℕ) → length vs ≤ j → slice_get (map Word vs ++ rest) j ≡ slice_get rest (j - length vs)
behind_words vs rest j h = get_back (map Word vs) rest (j - length vs) j (let m = length_map Word vs in omega arith)

-- the first of so many places are words
AreWords : (places : List Place) (next : ℕ → Bool) → Type 0
AreWords places next = (n j : ℕ) → j ≤ n → next n ≡ true → is_word_place (slice_get places j) ≡ true

reached_by : (s : Statement) (places : List Place) (next : ℕ → Bool) → AreWords places next → (n j : ℕ) → j ≤ n → onward n s next ≡ true → is_word_place (slice_get (places_in s ++ places) j) ≡ true
unfolding AreWords
reached_by Nothing places next are n j h e = are n j h e
reached_by (Instruction i mention) places next are n j h e = absurd (true≢false (sym e))
reached_by (Words vs) places next are n j h e = elim (cases_lt j (length vs)) [
  | inl k ↦ word_in vs places j k
  | inr k ↦
      let past : nat_lt n (length vs) ≡ false = grind (arith, nat_tests) in
      ap is_word_place (behind_words vs places j k) ∙ are (n - length vs) (j - length vs) (omega arith) (rw past at e)
]
reached_by (Aligns size most) places next are n j h e = absurd (true≢false (sym e))
reached_by (Sets name address) places next are n j h e = are n j h e

-- where as many words are reached, each of them is one
reached : (ls : List ListingLine) → AreWords (places_of ls) (reaches ls)
unfolding AreWords
reached [] n j h e = absurd (true≢false (sym e))
reached (l ∷ ls) n j h e = reached_by l.statement (places_of ls) (reaches ls) (reached ls) n j h e

-- ---- where a label stands ----

-- the places from a label's own on are those of the lines from there on
pub record IsFrom (name : Name) (p q : ℕ) (ls : List ListingLine) : Type 0 where
  pub index : ℕ
  pub at : q ≡ p + index
  pub places : (j : ℕ) → slice_get (places_of ls) (index + j) ≡ slice_get (places_of (from_label name ls)) j

pub first_label : (name : Name) (p q : ℕ) (l : ListingLine) (ls : List ListingLine) → is_among name l.names ≡ true → label_place name (labels_from p (l ∷ ls)) ≡ Some q → p ≡ q
first_label name p q l ls h e =
    let found : label_place name (labels_from p (l ∷ ls)) ≡ Some p = label_at name p l.names _ ∙ rw h refl in
    let same : Some p ≡ Some q = sym found ∙ e in
    cc

pub later_label : (name : Name) (p q : ℕ) (l : ListingLine) (ls : List ListingLine) → is_among name l.names ≡ false → label_place name (labels_from p (l ∷ ls)) ≡ Some q → label_place name (labels_from (p + length (places_in l.statement)) ls) ≡ Some q
later_label name p q l ls h e =
    let found : label_place name (labels_from p (l ∷ ls)) ≡ label_place name (labels_from (p + length (places_in l.statement)) ls) = label_at name p l.names _ ∙ rw h refl in
    sym found ∙ e

from_first : (name : Name) (l : ListingLine) (ls : List ListingLine) → is_among name l.names ≡ true → from_label name (l ∷ ls) ≡ l ∷ ls
from_first name l ls h = rw h refl

from_later : (name : Name) (l : ListingLine) (ls : List ListingLine) → is_among name l.names ≡ false → from_label name (l ∷ ls) ≡ from_label name ls
from_later name l ls h = rw h refl

pub stands_from : (name : Name) (p q : ℕ) (ls : List ListingLine) → label_place name (labels_from p ls) ≡ Some q → IsFrom name p q ls
stands_from name p q [] e = absurd (let bad : None ≡ Some q = e in cc)
stands_from name p q (l ∷ ls) e = elim (cases_Bool (is_among name l.names)) [
  | inl h ↦ record {
    index = 0;
    at = (let k = first_label name p q l ls h e in omega arith);
    places = λ j.
        let same : 0 + j ≡ j = omega arith in
        ap (λ (k : ℕ). slice_get (places_of (l ∷ ls)) k) same ∙ ap (λ (ms : List ListingLine). slice_get (places_of ms) j) (sym (from_first name l ls h));
  }
  | inr h ↦
      let next = stands_from name (p + length (places_in l.statement)) q ls (later_label name p q l ls h e) in
      record {
        index = length (places_in l.statement) + next.index;
        at = omega (arith, next.at);
        places = λ j.
            get_back (places_in l.statement) (places_of ls) (next.index + j) (length (places_in l.statement) + next.index + j) (omega arith)
            ∙ next.places j
            ∙ ap (λ (ms : List ListingLine). slice_get (places_of ms) j) (sym (from_later name l ls h));
      }
]

-- ---- what is mentioned ----

not_word : (vs : List Value) (rest : List Place) (p : ℕ) (i : Instr) (m : Mention) → p < length vs → slice_get (map Word vs ++ rest) p ≡ Some (Op i (Some m)) → ⊥
not_word vs rest p i m h e = true≢false (sym (word_in vs rest p h) ∙ ap is_word_place e)

-- each instruction among these places that mentions a name has what it needs there
AreAimed : (all : List ListingLine) (places : List Place) → Type 0
AreAimed all places = (p : ℕ) (i : Instr) (m : Mention) → slice_get places p ≡ Some (Op i (Some m)) → is_aimed all i m ≡ true

aimed_by : (all : List ListingLine) (marked : List Name) (s : Statement) (places : List Place) → is_on_target all marked s ≡ true → AreAimed all places → AreAimed all (places_in s ++ places)
unfolding AreAimed
aimed_by all marked Nothing places t are p i m at = are p i m at
aimed_by all marked (Instruction j mention) places t are zero i m at =
    let same : Some (Op j mention) ≡ Some (Op i (Some m)) = at in
    let first : j ≡ i = cc in
    let second : mention ≡ Some m = cc in
    ap (λ (k : Instr). is_aimed all k m) (sym first) ∙ sym (ap (is_aimed_at all j) second) ∙ t
aimed_by all marked (Instruction j mention) places t are (suc p) i m at = are p i m at
aimed_by all marked (Words vs) places t are p i m at = elim (cases_lt p (length vs)) [
  | inl k ↦ absurd (not_word vs places p i m k at)
  | inr k ↦ are (p - length vs) i m (sym (behind_words vs places p k) ∙ at)
]
aimed_by all marked (Aligns size most) places t are p i m at = are p i m at
aimed_by all marked (Sets name address) places t are p i m at = are p i m at

aimed : (all : List ListingLine) (marked : List Name) (n : ℕ) (ls : List ListingLine) → first_target all marked n ls ≡ None → AreAimed all (places_of ls)
unfolding AreAimed
aimed all marked n [] e p i m at = absurd (let bad : None ≡ Some (Op i (Some m)) = at in cc)
aimed all marked n (l ∷ ls) e p i m at = elim (cases_Bool (is_on_target all marked l.statement)) [
  | inl h ↦ aimed_by all marked l.statement (places_of ls) h (aimed all marked (n + 1) ls (rw h at e)) p i m at
  | inr h ↦ absurd (let bad : Some n ≡ None = rw h at e in cc)
]

of_load : (all : List ListingLine) (i : Instr) (m : Mention) → loads_literal i ≡ true → is_aimed all i m ≡ true → is_literal all m ≡ true
of_load all (instr.Literal t d) m h e = e
of_load all i m h e = absurd (true≢false (sym h))

-- ---- all together ----

pub literals_stand : (bytes : List ℕ) (lines : List ListingLine) → IsListing bytes lines → HasLiterals (code_of lines)
unfolding AreWords AreAimed
literals_stand bytes lines is p i m at loads q label j few =
    let literal = of_load lines i m loads (aimed lines (functions false is.reads) 1 lines is.aimed p i m at) in
    let runs = (and_parts (nat_le m.plus 1020) _ (and_parts (m.plus % 4 == 0) _ literal).1).1 in
    let from = stands_from m.name 0 q lines label in
    ap (λ (k : ℕ). is_word_place (slice_get (places_of lines) (k + j))) (let k : q ≡ from.index = omega (arith, from.at) in k)
    ∙ ap is_word_place (from.places j)
    ∙ reached (from_label m.name lines) (m.plus / 4) j few runs
