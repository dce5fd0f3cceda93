-- The reader of a line of costs finds just the content that the line has.
use Rattle.std.proofs.Common.{◌≡◌, ◌∙◌, ℕ, zero, suc, ◌+◌, ◌<◌, ◌≤◌, ◌==◌, ◌&&◌, not, Bool, true, false, List, [], ◌∷◌, ◌++◌, length, get_or, take, drop, map, refl, sym, ap, arith, inl, inr, Option, Some, None, true≢false, ltb-false, eqb-true, subst, length-append, length-drop, drop-cons, add-one, ◌-◌}
use Rattle.std.specs.Prelude.{decimal, nat_lt, MatchOption}
use Rattle.std.specs.List.{list_all, position, position_or_len}
use Rattle.std.specs.Fmt.{digits}
use Rattle.std.specs.Str.{bytes_eq}
use Rattle.std.proofs.lemmas.Bool.{cases_Bool, and_parts, and_from, false≢true}
use Rattle.std.proofs.lemmas.Fmt.{decimal_injective}
use Rattle.std.proofs.lemmas.Slice.Eq.{bytes_eq-Decides}
use Rattle.std.proofs.lemmas.List.{get_or-map, get_or_at, take-append-drop, take_all}
use Rattle.std.proofs.lemmas.List.Quantifiers.{position-Some}
use Rattle.std.proofs.lemmas.List.Folds.{list_all_at, list_all-append}
use Rattle.ascii_scan.specs.FirstLine.{is_inside}
use Rattle.seq_enum.specs.declared.cost_text.Said.{Said}
use Rattle.seq_enum.specs.Alphabet.{numbers_from}
use Rattle.seq_enum.specs.Costs.{mnemonics, line_of, IsSaid}
use Rattle.ascii_scan.proofs.EndedLines.{IsInside}
use Rattle.common_lemmas.proofs.Lists.{same_bytes as bytes_same}

same_bytes : (xs ys : List ℕ) → xs ≡ ys → bytes_eq xs ys ≡ true
same_bytes xs ys e = (bytes_eq-Decides xs ys).1 e

-- no blank stands in it
pub tested : List ℕ → Bool
tested bytes = list_all (λ n. not (n == 32)) bytes

numerals : list_all (λ n. list_all is_inside (decimal n)) (numbers_from 0 65) ≡ true
unfolding numbers_from digits
numerals = refl

names : list_all (λ name. list_all is_inside name && tested name) mnemonics ≡ true
unfolding mnemonics tested
names = refl

places : list_all (λ m. position_or_len (λ name. bytes_eq name (get_or mnemonics m [])) mnemonics == m) (numbers_from 0 28) ≡ true
unfolding mnemonics numbers_from
places = refl

-- ---- first places

first_or_later : {X : Type 0} (P : X → Type 0) (x : X) (xs : List X) (i : ℕ) (d : X) → i < length (x ∷ xs) → P x → ((j : ℕ) → j < length xs → P (get_or xs j d)) → P (get_or (x ∷ xs) i d)
first_or_later P x xs zero d low here there = here
first_or_later P x xs (suc i) d low here there = there i (omega arith)

fails_before : {X : Type 0} (p : X → Bool) (xs : List X) (i : ℕ) (d : X) → length xs ≤ position_or_len p xs → i < length xs → p (get_or xs i d) ≡ false
fails_before p [] i d none low = absurd (omega arith)
fails_before p (x ∷ xs) i d none low = elim (cases_Bool (p x)) [
  | inl e ↦ absurd (let short = rw e at none in omega arith)
  | inr e ↦ (let later : length xs ≤ position_or_len p xs = (let long = rw e at none in omega arith) in first_or_later (λ y. p y ≡ false) x xs i d low e (λ j l. fails_before p xs j d later l))
]

pub position_none : {X : Type 0} (p : X → Bool) (xs : List X) (i : ℕ) (d : X) → position p xs ≡ None → i < length xs → p (get_or xs i d) ≡ false
position_none p xs i d e low = elim (cases_Bool (nat_lt (position_or_len p xs) (length xs))) [
  | inl t ↦ absurd (let bad = rw t at e in cc)
  | inr f ↦ fails_before p xs i d (ltb-false _ _ f) low
]

-- ---- mnemonics

pub mnemonic_found : {X : Type 0} (f : X → List ℕ) (names : List X) (word : List ℕ) (o : Option ℕ) → o ≡ position (λ name. bytes_eq (f name) word) names → map f names ≡ mnemonics → length names ≡ 28
    → MatchOption o ((m : ℕ) → m < 28 → get_or mnemonics m [] ≡ word → ⊥) (λ m. (m < 28) × (get_or mnemonics m [] ≡ word))
mnemonic_found f [] word o e is many = absurd (omega arith)
mnemonic_found f (first ∷ more) word None e is many = λ m low same.
    let names = first ∷ more in
    let other : bytes_eq (f (get_or names m first)) word ≡ false = position_none (λ name. bytes_eq (f name) word) names m first (sym e) (omega arith) in
    let at : get_or mnemonics m [] ≡ f (get_or names m first) = ap (λ ns. get_or ns m []) (sym is) ∙ get_or-map f names m first [] (omega arith) in
    absurd (true≢false (sym (same_bytes _ _ (sym at ∙ same)) ∙ other))
mnemonic_found f (first ∷ more) word (Some m) e is many =
    let names = first ∷ more in
    let found = position-Some (λ name. bytes_eq (f name) word) names m first (sym e) in
    let at : get_or mnemonics m [] ≡ f (get_or names m first) = ap (λ ns. get_or ns m []) (sym is) ∙ get_or-map f names m first [] found.0 in
    (omega (arith, found.0), at ∙ bytes_same _ _ found.1)

at_each : {X : Type 0} (p : X → Bool) (xs : List X) (i : ℕ) (d : X) → list_all p xs ≡ true → i < length xs → p (get_or xs i d) ≡ true
at_each p xs i d all low = elim (cases_Bool (p (get_or xs i d))) [
  | inl e ↦ e
  | inr e ↦ absurd (true≢false (sym all ∙ list_all_at p xs i d low e))
]

pub all_from : (first count i : ℕ) → i < count → get_or (numbers_from first count) i 0 ≡ first + i
unfolding numbers_from
all_from first zero i low = absurd (omega arith)
all_from first (suc count) zero low = omega arith
all_from first (suc count) (suc i) low = all_from (suc first) count i (omega arith) ∙ omega arith

pub length-from : (first count : ℕ) → length (numbers_from first count) ≡ count
unfolding numbers_from
length-from first zero = refl
length-from first (suc count) = ap suc (length-from (suc first) count)

-- a test that each number below a count passes
below_count : (p : ℕ → Bool) (count i : ℕ) → list_all p (numbers_from 0 count) ≡ true → i < count → p i ≡ true
below_count p count i all low =
    let at : get_or (numbers_from 0 count) i 0 ≡ i = all_from 0 count i low ∙ omega arith in
    subst (λ n. p n ≡ true) at (at_each p (numbers_from 0 count) i 0 all (omega (arith, length-from 0 count)))

many : length mnemonics ≡ 28
unfolding mnemonics
many = refl

name_parts : (m : ℕ) → m < 28 → IsInside (get_or mnemonics m []) × (tested (get_or mnemonics m []) ≡ true)
name_parts m low =
    let name = get_or mnemonics m [] in
    and_parts (list_all is_inside name) (tested name) (at_each (λ n. list_all is_inside n && tested n) mnemonics m [] names (omega (arith, many)))

pub mnemonics_tell : (m n : ℕ) → m < 28 → n < 28 → get_or mnemonics m [] ≡ get_or mnemonics n [] → m ≡ n
mnemonics_tell m n low less e =
    let place : List ℕ → ℕ = λ w. position_or_len (λ name. bytes_eq name w) mnemonics in
    let first : (place (get_or mnemonics m []) == m) ≡ true = below_count (λ i. place (get_or mnemonics i []) == i) 28 m places low in
    let second : (place (get_or mnemonics n []) == n) ≡ true = below_count (λ i. place (get_or mnemonics i []) == i) 28 n places less in
    sym (eqb-true _ _ first) ∙ ap place e ∙ eqb-true _ _ second

-- ---- lines

pub line_inside : (s : Said) → IsSaid s → IsInside (line_of s)
line_inside s is =
    let name = get_or mnemonics s.mnemonic [] in
    let numeral : IsInside (decimal s.cost) = below_count (λ n. list_all is_inside (decimal n)) 65 s.cost numerals (omega (arith, is.most)) in
    list_all-append is_inside name (32 ∷ decimal s.cost) ∙ and_from (list_all is_inside name) (list_all is_inside (32 ∷ decimal s.cost)) (name_parts s.mnemonic is.known).0 numeral

-- the first blank parts a line in one way
parts_tell : (xs ys us vs : List ℕ) → tested xs ≡ true → tested ys ≡ true → xs ++ 32 ∷ us ≡ ys ++ 32 ∷ vs → (xs ≡ ys) × (us ≡ vs)
unfolding tested
parts_tell [] [] us vs a b e = (refl, cc)
parts_tell [] (y ∷ ys) us vs a b e = absurd (let same : y ≡ 32 = cc in let bad = rw same at b in false≢true bad)
parts_tell (x ∷ xs) [] us vs a b e = absurd (let same : x ≡ 32 = cc in let bad = rw same at a in false≢true bad)
parts_tell (x ∷ xs) (y ∷ ys) us vs a b e =
    let same : x ≡ y = cc in
    let more : xs ++ 32 ∷ us ≡ ys ++ 32 ∷ vs = cc in
    let later = parts_tell xs ys us vs (and_parts (not (x == 32)) (tested xs) a).1 (and_parts (not (y == 32)) (tested ys) b).1 more in
    (ap (λ b. b ∷ xs) same ∙ ap (λ bs. y ∷ bs) later.0, later.1)

same_said : (s t : Said) → s.mnemonic ≡ t.mnemonic → s.cost ≡ t.cost → s ≡ t
same_said s t e f = λ i. record { mnemonic = e i; cost = f i }

-- the content of a line with a blank
pub parts_say : (s : Said) (name numeral : List ℕ) → IsSaid s → tested name ≡ true → line_of s ≡ name ++ 32 ∷ numeral → (get_or mnemonics s.mnemonic [] ≡ name) × (decimal s.cost ≡ numeral)
parts_say s name numeral is free e = parts_tell (get_or mnemonics s.mnemonic []) name (decimal s.cost) numeral (name_parts s.mnemonic is.known).1 free e

pub lines_tell : (s t : Said) → IsSaid s → IsSaid t → line_of s ≡ line_of t → s ≡ t
lines_tell s t a b e =
    let parts = parts_say s (get_or mnemonics t.mnemonic []) (decimal t.cost) a (name_parts t.mnemonic b.known).1 e in
    same_said s t (mnemonics_tell s.mnemonic t.mnemonic a.known b.known parts.0) (decimal_injective s.cost t.cost (omega (arith, a.most)) (omega (arith, b.most)) parts.1)

-- a line without a blank has no content
pub blankless : (s : Said) (line : List ℕ) → position (λ byte. byte == 32) line ≡ None → line_of s ≡ line → ⊥
blankless s line none e =
    let name = get_or mnemonics s.mnemonic [] in
    let size : length (line_of s) ≡ length name + suc (length (decimal s.cost)) = length-append name (32 ∷ decimal s.cost) in
    let low : length name < length line = omega (arith, ap length e, size) in
    let byte : get_or line (length name) 0 ≡ 32 = ap (λ bs. get_or bs (length name) 0) (sym e) ∙ get_or_at name 32 (decimal s.cost) 0 (length name) refl in
    true≢false (sym (ap (λ b. b == 32) byte) ∙ position_none (λ b. b == 32) line (length name) 0 none low)

-- the part before the first blank has no blank
pub front_tested : (line : List ℕ) (i : ℕ) → ((k : ℕ) → k < i → (get_or line k 0 == 32) ≡ false) → tested (take i line) ≡ true
unfolding tested
front_tested line zero before = refl
front_tested [] (suc i) before = refl
front_tested (b ∷ line) (suc i) before = and_from (not (b == 32)) (tested (take i line)) (ap not (before 0 (omega arith))) (front_tested line i (λ k low. before (suc k) (omega arith)))

-- a line is the part before its first blank, the blank, and the part after it
pub record IsParted (line name numeral : List ℕ) : Type 0 where
  pub free : tested name ≡ true
  pub whole : line ≡ name ++ 32 ∷ numeral

pub parted : (line : List ℕ) (i : ℕ) → position (λ byte. byte == 32) line ≡ Some i → IsParted line (take i line) (take (length line - (i + 1)) (drop (i + 1) line))
parted line i e =
    let found = position-Some (λ byte. byte == 32) line i 0 e in
    let byte : get_or line i 0 ≡ 32 = eqb-true _ _ found.1 in
    let size : length (drop (i + 1) line) ≤ length line - (i + 1) = omega (arith, length-drop (i + 1) line) in
    let more : drop i line ≡ get_or line i 0 ∷ drop (i + 1) line = rw add-one (drop-cons line i 0 found.0) in
    record {
      free = front_tested line i found.2;
      whole = sym (take-append-drop i line) ∙ ap (λ bs. take i line ++ bs) (more ∙ ap (λ b. b ∷ drop (i + 1) line) byte ∙ ap (λ bs. 32 ∷ bs) (sym (take_all (length line - (i + 1)) (drop (i + 1) line) size)));
    }

pub says : (m cost : ℕ) (line name numeral : List ℕ) → IsParted line name numeral → (m < 28) × (get_or mnemonics m [] ≡ name) → (1 ≤ cost) × (cost ≤ 64) × (decimal cost ≡ numeral)
    → IsSaid (record { mnemonic = m; cost = cost }) × (line_of (record { mnemonic = m; cost = cost }) ≡ line)
says m cost line name numeral parts known costs =
    (record { known = known.0; some = costs.0; most = costs.1 }, ap (λ ns. ns ++ 32 ∷ decimal cost) known.1 ∙ ap (λ ns. name ++ 32 ∷ ns) costs.2 ∙ sym parts.whole)
