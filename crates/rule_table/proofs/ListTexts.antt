-- Reading lists of numbers with a blank before each: what is read is what is written, and all that is written is read.
use Rattle.std.proofs.Common.{◌≡◌, ℕ, ◌<◌, ◌≤◌, ◌^◌, ◌&&◌, true, List, [], ◌∷◌, ◌++◌, length, map, refl, sym, ◌∙◌, ap, arith, subst, eqb, append-nil, leb-true, Option, Some, None}
use Rattle.std.specs.Prelude.{decimal, nat_lt, nat_le, MatchOption, IsSome, IfSome, IsTrue, ◌↔◌}
use Rattle.std.specs.List.{All, slice_split, join_with_byte, list_all}
use Rattle.std.proofs.lemmas.Fmt.{decimal_injective}
use Rattle.std.proofs.lemmas.Bool.{and_parts, false≢true}
use Rattle.std.proofs.lemmas.List.Elements.{All-nil, All-cons, All-head, All-tail, All-map, All-weaker}
use Rattle.std.proofs.lemmas.List.Splits.{slice_split_none, slice_split_at, length-slice_split, join_with_byte-slice_split}
use Rattle.seq_enum.specs.Alphabet.{is_pool, inside}
use Rattle.seq_enum.specs.Costs.{AreCosts}
use Rattle.lrat_check.proofs.Texts.{map-injective, HasNoBlank, digits_no_blank}
use Rattle.rule_table.specs.Text.{after_blanks}
use Rattle.rule_table.specs.Words.{AreBytes, AreWords}
use Rattle.rule_table.proofs.InsideLines.{IsInside, blanks_inside, decimal_digits, decimal_inside}

-- numbers of 64 bits
abbrev pub IsShort : ℕ → Type 0
IsShort n = n < 2 ^ 64

abbrev split : List ℕ → List (List ℕ)
split bs = slice_split (λ b. eqb b 32) bs

-- words without blanks, and the text of them
split_words : (w : List ℕ) (ws : List (List ℕ)) → HasNoBlank w → All HasNoBlank ws → split (w ++ after_blanks ws) ≡ w ∷ ws
split_words w [] h all = ap split (append-nil w) ∙ slice_split_none (λ b. eqb b 32) w h
split_words w (v ∷ ws) h all =
    slice_split_at (λ b. eqb b 32) w 32 (v ++ after_blanks ws) h refl
    ∙ ap (λ us. w ∷ us) (split_words v ws (All-head HasNoBlank v ws all) (All-tail HasNoBlank v ws all))

numbers_no_blank : (ns : List ℕ) → All IsShort ns → All HasNoBlank (map decimal ns)
numbers_no_blank ns all = All-map HasNoBlank decimal ns (All-weaker IsShort (λ n. HasNoBlank (decimal n)) (λ n h. digits_no_blank (decimal n) (decimal_digits n h)) ns all)

split_numbers : (n : ℕ) (ns : List ℕ) → All IsShort (n ∷ ns) → split (decimal n ++ after_blanks (map decimal ns)) ≡ map decimal (n ∷ ns)
split_numbers n ns all =
    let words = numbers_no_blank (n ∷ ns) all in
    split_words (decimal n) (map decimal ns) (All-head HasNoBlank (decimal n) (map decimal ns) words) (All-tail HasNoBlank (decimal n) (map decimal ns) words)

pub blanks_tell : (ns ms : List ℕ) → All IsShort ns → All IsShort ms → after_blanks (map decimal ns) ≡ after_blanks (map decimal ms) → ns ≡ ms
blanks_tell [] [] h k e = refl
blanks_tell [] (m ∷ ms) h k e = cc
blanks_tell (n ∷ ns) [] h k e = cc
blanks_tell (n ∷ ns) (m ∷ ms) h k e =
    let tail : decimal n ++ after_blanks (map decimal ns) ≡ decimal m ++ after_blanks (map decimal ms) = cc in
    map-injective IsShort decimal (λ x y h k e. decimal_injective x y h k e) (n ∷ ns) (m ∷ ms) h k (sym (split_numbers n ns h) ∙ ap split tail ∙ split_numbers m ms k)

-- ---- words

joined : (w : List ℕ) (ws : List (List ℕ)) → 32 ∷ join_with_byte 32 (w ∷ ws) ≡ after_blanks (w ∷ ws)
joined w [] = ap (λ us. 32 ∷ us) (sym (append-nil w))
joined w (v ∷ ws) = ap (λ us. 32 ∷ (w ++ us)) (joined v ws)

-- if the bytes are the text of some numbers, their words are the numerals of these
pub number_words : (bs ns : List ℕ) → All IsShort ns → 0 < length ns → after_blanks (map decimal ns) ≡ bs → AreWords bs (map decimal ns)
number_words bs [] all some e = absurd (omega arith)
number_words bs (n ∷ ns) all some e = record { rest = decimal n ++ after_blanks (map decimal ns); is = sym e; parts = sym (split_numbers n ns all) }

pub words_one : (bs : List ℕ) (us vs : List (List ℕ)) → AreWords bs us → AreWords bs vs → us ≡ vs
words_one bs us vs a b =
    let tails : 32 ∷ a.rest ≡ 32 ∷ b.rest = sym a.is ∙ b.is in
    let same : a.rest ≡ b.rest = cc in
    a.parts ∙ ap split same ∙ sym b.parts

-- and the bytes are the text of the words
pub words_blanks : (bs : List ℕ) (ws : List (List ℕ)) → AreWords bs ws → after_blanks ws ≡ bs
words_blanks bs [] a = absurd (omega (arith, ap length a.parts, length-slice_split (λ b. eqb b 32) a.rest))
words_blanks bs (w ∷ ws) a = sym (joined w ws) ∙ ap (λ us. 32 ∷ join_with_byte 32 us) a.parts ∙ ap (λ us. 32 ∷ us) (join_with_byte-slice_split 32 a.rest) ∙ sym a.is

-- ---- bytes

pub bytes_short : (ns : List ℕ) → AreBytes ns → All IsShort ns
bytes_short ns bytes = All-weaker (λ n. n ≤ 255) IsShort (λ n h. omega arith) ns bytes.each

bytes_tell : (ns ms : List ℕ) → AreBytes ns → AreBytes ms → after_blanks (map decimal ns) ≡ after_blanks (map decimal ms) → ns ≡ ms
bytes_tell ns ms a b e = blanks_tell ns ms (bytes_short ns a) (bytes_short ms b) e

bytes_inside : (ns : List ℕ) → AreBytes ns → IsInside (after_blanks (map decimal ns))
bytes_inside ns bytes = blanks_inside decimal IsShort decimal_inside ns (bytes_short ns bytes)

-- the result of reading the words is right
pub made_bytes : {A : Type 0} (items : A → List ℕ) (bs : List ℕ) (words : List (List ℕ)) (o : Option A) → AreWords bs words
    → MatchOption o ((ns : List ℕ) → AreBytes ns → map decimal ns ≡ words → ⊥) (λ v. AreBytes (items v) × (map decimal (items v) ≡ words))
    → MatchOption o ((ns : List ℕ) → AreBytes ns → 0 < length ns → after_blanks (map decimal ns) ≡ bs → ⊥) (λ v. AreBytes (items v) × (after_blanks (map decimal (items v)) ≡ bs))
made_bytes items bs words None a made = λ ns bytes some e. made ns bytes (words_one bs (map decimal ns) words (number_words bs ns (bytes_short ns bytes) some e) a)
made_bytes items bs words (Some v) a made = (made.0, words_blanks bs (map decimal (items v)) (subst (AreWords bs) (sym made.1) a))

-- the result for the numbers, if there is at least one
pub made_list : (P : List ℕ → Type 0) → ((ns : List ℕ) → P ns → AreBytes ns) → (bs numbers : List ℕ) (o : Option (List ℕ)) → AreBytes numbers → after_blanks (map decimal numbers) ≡ bs
    → MatchOption o (P numbers → ⊥) (λ p. (p ≡ numbers) × P numbers)
    → MatchOption o ((ns : List ℕ) → P ns → after_blanks (map decimal ns) ≡ bs → ⊥) (λ p. P p × (after_blanks (map decimal p) ≡ bs))
made_list P each bs numbers None bytes e made = λ ns is text. made (subst P (bytes_tell ns numbers (each ns is) bytes (text ∙ sym e)) is)
made_list P each bs numbers (Some p) bytes e made = (subst P (sym made.0) made.1, ap (λ ns. after_blanks (map decimal ns)) made.0 ∙ e)

-- ---- pools

pub inside_most : (n : ℕ) → inside 0 256 n ≡ true → n ≤ 255
inside_most n e = grind arith

pub pool_bytes : (ns : List ℕ) → is_pool ns ≡ true → AreBytes ns
unfolding is_pool
pool_bytes ns e =
    let a = and_parts (nat_lt 0 (length ns) && nat_le (length ns) 16 && list_all (inside 0 256) ns) _ e in
    let b = and_parts (nat_lt 0 (length ns) && nat_le (length ns) 16) (list_all (inside 0 256) ns) a.0 in
    let most = leb-true (length ns) 16 (and_parts (nat_lt 0 (length ns)) (nat_le (length ns) 16) b.0).1 in
    record { few = omega arith; each = all ns b.1 }
  where
    all : (ms : List ℕ) → list_all (inside 0 256) ms ≡ true → All (λ n. n ≤ 255) ms
    all [] h = All-nil (λ n. n ≤ 255)
    all (m ∷ ms) h =
        let both = and_parts (inside 0 256 m) (list_all (inside 0 256) ms) h in
        All-cons (λ n. n ≤ 255) m ms (inside_most m both.0) (all ms both.1)

pub pool_some : (ns : List ℕ) → is_pool ns ≡ true → 0 < length ns
unfolding is_pool
pool_some [] e = cc
pool_some (n ∷ ns) e = omega arith

pub pools_tell : (ns ms : List ℕ) → is_pool ns ≡ true → is_pool ms ≡ true → after_blanks (map decimal ns) ≡ after_blanks (map decimal ms) → ns ≡ ms
pools_tell ns ms h k e = bytes_tell ns ms (pool_bytes ns h) (pool_bytes ms k) e

pub pool_inside : (ns : List ℕ) → is_pool ns ≡ true → IsInside (after_blanks (map decimal ns))
pool_inside ns e = bytes_inside ns (pool_bytes ns e)

pub pool_found : (numbers : List ℕ) (o : Option (List ℕ)) → IsSome o ↔ IsTrue (is_pool numbers) → IfSome o (λ p. p ≡ numbers)
    → MatchOption o (is_pool numbers ≡ true → ⊥) (λ p. (p ≡ numbers) × (is_pool numbers ≡ true))
pool_found numbers None valid value = λ is. false≢true (valid.1 is)
pool_found numbers (Some p) valid value = (value, valid.0 refl)

-- ---- costs

pub costs_bytes : (ns : List ℕ) → AreCosts ns → AreBytes ns
costs_bytes ns costs = record { few = omega (arith, costs.as_many); each = All-weaker (λ n. (1 ≤ n) × (n ≤ 64)) (λ n. n ≤ 255) (λ n h. omega (arith, h.1)) ns costs.each }

pub costs_some : (ns : List ℕ) → AreCosts ns → 0 < length ns
costs_some ns costs = omega (arith, costs.as_many)

pub costs_tell : (ns ms : List ℕ) → AreCosts ns → AreCosts ms → after_blanks (map decimal ns) ≡ after_blanks (map decimal ms) → ns ≡ ms
costs_tell ns ms h k e = bytes_tell ns ms (costs_bytes ns h) (costs_bytes ms k) e

pub costs_inside : (ns : List ℕ) → AreCosts ns → IsInside (after_blanks (map decimal ns))
costs_inside ns costs = bytes_inside ns (costs_bytes ns costs)
