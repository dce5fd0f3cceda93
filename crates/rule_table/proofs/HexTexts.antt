-- Hexadecimal digits determine their number: what is written of a state is read back as that state.
use Rattle.std.proofs.Common.{◌≡◌, ℕ, zero, suc, ◌+◌, ◌*◌, ◌/◌, ◌%◌, ◌<◌, ◌^◌, Bool, true, false, List, [], ◌∷◌, ◌++◌, length, map, get_or, take, drop, refl, sym, ◌∙◌, ap, arith, add-one, length-append, Some, None, is_some, append_assoc}
use Rattle.std.specs.Prelude.{◌-◌}
use Rattle.std.specs.List.{list_all, All}
use Rattle.std.proofs.Math.Seq.{take-suc, take-append_seam, drop-append_seam}
use Rattle.std.proofs.Math.Nat.{pow-suc, pow-zero}
use Rattle.std.proofs.lemmas.Nat.{div-mul-add, mod-mul-add, mod_below}
use Rattle.std.proofs.lemmas.List.{same_from_push}
use Rattle.std.proofs.lemmas.List.Folds.{list_all-append, list_all_at}
use Rattle.std.proofs.lemmas.List.Elements.{All-head, All-tail}
use Rattle.ascii_scan.specs.Numeral.{hex_digit}
use Rattle.rule_table.specs.Text.{hex_of, after_blanks}
use Rattle.window_exec.specs.State.{Seen}
use Rattle.rule_table.specs.Text.{State}
use Rattle.rule_table.specs.Table.{IsState}
use Rattle.rule_table.specs.Fronts.{tail_of}
use Rattle.rule_table.specs.Digits.{digit_value, pair_text}

pub digit_back : (b d : ℕ) → digit_value b ≡ Some d → (hex_digit d ≡ b) × (d < 16)
digit_back b d e = grind arith

pub length-hex : (n w : ℕ) → length (hex_of n w) ≡ n
unfolding hex_of
length-hex zero w = refl
length-hex (suc n) w = omega (arith, length-append (hex_of n (w / 16)) (hex_digit (w % 16) ∷ []), length-hex n (w / 16))

-- the last digits of a number are those of its sixteenth, and one more
pub hex_suc : (n w : ℕ) → 0 < n → hex_of n w ≡ hex_of (n - 1) (w / 16) ++ hex_digit (w % 16) ∷ []
unfolding hex_of
hex_suc zero w h = absurd (omega arith)
hex_suc (suc n) w h =
    let same : n ≡ suc n - 1 = omega arith in
    ap (λ m. hex_of m (w / 16) ++ hex_digit (w % 16) ∷ []) same

pub hex_more : (n w d : ℕ) → d < 16 → hex_of (suc n) (w * 16 + d) ≡ hex_of n w ++ hex_digit d ∷ []
unfolding hex_of
hex_more n w d h = rw (div-mul-add w 16 d h, mod-mul-add w 16 d h) refl

-- each digit has a value
is_hex : ℕ → Bool
is_hex b = is_some (digit_value b)

digit_is_hex : (d : ℕ) → d < 16 → is_hex (hex_digit d) ≡ true
unfolding is_hex
digit_is_hex d h = grind arith

hex_all : (n w : ℕ) → list_all is_hex (hex_of n w) ≡ true
unfolding hex_of
hex_all zero w = refl
hex_all (suc n) w =
    let last : is_hex (hex_digit (w % 16)) ≡ true = digit_is_hex (w % 16) (mod_below w 16 (omega arith)) in
    simp list_all-append (rw (hex_all n (w / 16), last) refl)

pub hex_none : (bytes : List ℕ) (i n w : ℕ) → i < length bytes → digit_value (get_or bytes i 0) ≡ None → hex_of n w ≡ bytes → false ≡ true
unfolding is_hex
hex_none bytes i n w h none e =
    let bad : is_hex (get_or bytes i 0) ≡ false = ap is_some none in
    sym (list_all_at is_hex bytes i 0 h bad) ∙ (ap (list_all is_hex) (sym e) ∙ hex_all n w)

pub hex_step : (bytes : List ℕ) (i w d : ℕ) → i < length bytes → hex_of i w ≡ take i bytes → digit_value (get_or bytes i 0) ≡ Some d
    → hex_of (i + 1) (w * 16 + d) ≡ take (i + 1) bytes
hex_step bytes i w d h so_far value =
    let back = digit_back (get_or bytes i 0) d value in
    rw (add-one, take-suc bytes i 0 h) (hex_more i w d back.1 ∙ ap (λ us. us ++ hex_digit d ∷ []) so_far ∙ ap (λ b. take i bytes ++ b ∷ []) back.0)

pub hex_start : hex_of 0 0 ≡ []
unfolding hex_of
hex_start = refl

-- ---- digits determine their number

digit_tells : (c d : ℕ) → c < 16 → d < 16 → hex_digit c ≡ hex_digit d → c ≡ d
digit_tells c d h k e = grind arith

-- two equal lists have the same prefix of a given length
pub same_front : (xs ys us vs : List ℕ) → length xs ≡ length ys → xs ++ us ≡ ys ++ vs → (xs ≡ ys) × (us ≡ vs)
same_front xs ys us vs n e = (
  sym (take-append_seam xs us) ∙ ap (take (length xs)) e ∙ ap (λ m. take m (ys ++ vs)) n ∙ take-append_seam ys vs,
  sym (drop-append_seam xs us) ∙ ap (drop (length xs)) e ∙ ap (λ m. drop m (ys ++ vs)) n ∙ drop-append_seam ys vs,
)

pub hex_tells : (n v w : ℕ) → v < 16 ^ n → w < 16 ^ n → hex_of n v ≡ hex_of n w → v ≡ w
unfolding hex_of
hex_tells zero v w h k e = omega (arith, pow-zero 16)
hex_tells (suc n) v w h k e =
    let parts = same_from_push (hex_of n (v / 16)) (hex_of n (w / 16)) (hex_digit (v % 16)) (hex_digit (w % 16)) e in
    let power = pow-suc 16 n in
    let high : v / 16 ≡ w / 16 = hex_tells n (v / 16) (w / 16) (omega (arith, power)) (omega (arith, power)) parts.0 in
    let low : v % 16 ≡ w % 16 = digit_tells (v % 16) (w % 16) (mod_below v 16 (omega arith)) (mod_below w 16 (omega arith)) parts.1 in
    omega arith

-- ---- words in front of more

-- a word after a blank determines its digits and the rest
pub word_tells : (n v w : ℕ) (xs ys : List ℕ) → 32 ∷ (hex_of n v ++ xs) ≡ 32 ∷ (hex_of n w ++ ys) → (hex_of n v ≡ hex_of n w) × (xs ≡ ys)
word_tells n v w xs ys e =
    let tail : hex_of n v ++ xs ≡ hex_of n w ++ ys = cc in
    same_front (hex_of n v) (hex_of n w) xs ys (length-hex n v ∙ sym (length-hex n w)) tail

words_tell : (vs ws xs ys : List ℕ) → length vs ≡ length ws → All (λ w. w < 2 ^ 32) vs → All (λ w. w < 2 ^ 32) ws
    → after_blanks (map (hex_of 8) vs) ++ xs ≡ after_blanks (map (hex_of 8) ws) ++ ys → (vs ≡ ws) × (xs ≡ ys)
words_tell [] [] xs ys n h k e = (refl, e)
words_tell [] (w ∷ ws) xs ys n h k e = absurd (omega arith)
words_tell (v ∷ vs) [] xs ys n h k e = absurd (omega arith)
words_tell (v ∷ vs) (w ∷ ws) xs ys n h k e =
    let word = word_tells 8 v w (after_blanks (map (hex_of 8) vs) ++ xs) (after_blanks (map (hex_of 8) ws) ++ ys)
    (ap (λ us. 32 ∷ us) (sym (append_assoc (hex_of 8 v) (after_blanks (map (hex_of 8) vs)) xs)) ∙ e ∙ ap (λ us. 32 ∷ us) (append_assoc (hex_of 8 w) (after_blanks (map (hex_of 8) ws)) ys)) in
    let rest = words_tell vs ws xs ys (omega arith) (All-tail (λ w. w < 2 ^ 32) v vs h) (All-tail (λ w. w < 2 ^ 32) w ws k) word.1 in
    let first : v ≡ w = hex_tells 8 v w (let b = All-head (λ w. w < 2 ^ 32) v vs h in omega arith) (let b = All-head (λ w. w < 2 ^ 32) w ws k in omega arith) word.0 in
    (rw (first, rest.0) refl, rest.1)

pub state_tells : (vs ws : List ℕ) (f g : ℕ) → length vs ≡ length ws → All (λ w. w < 2 ^ 32) vs → All (λ w. w < 2 ^ 32) ws → f < 16 → g < 16
    → after_blanks (map (hex_of 8) vs) ++ 32 ∷ hex_of 1 f ≡ after_blanks (map (hex_of 8) ws) ++ 32 ∷ hex_of 1 g → (vs ≡ ws) × (f ≡ g)
state_tells vs ws f g n h k a b e =
    let words = words_tell vs ws (32 ∷ hex_of 1 f) (32 ∷ hex_of 1 g) n h k e in
    let flags : hex_of 1 f ≡ hex_of 1 g = (let t = words.1 in cc) in
    (words.0, hex_tells 1 f g (omega arith) (omega arith) flags)

-- ---- reading

digit_of_hex : (d : ℕ) → d < 16 → digit_value (hex_digit d) ≡ None → ⊥
unfolding is_hex
digit_of_hex d h e = let bad : true ≡ false = sym (digit_is_hex d h) ∙ ap is_some e in absurd cc

pub hex_one : (d : ℕ) → d < 16 → hex_of 1 d ≡ hex_digit d ∷ []
unfolding hex_of
hex_one d h = let same : d % 16 ≡ d = omega arith in rw same refl

pub two_bytes : (bs : List ℕ) → length bs ≡ 2 → bs ≡ get_or bs 0 0 ∷ get_or bs 1 0 ∷ []
two_bytes [] h = absurd (omega arith)
two_bytes (a ∷ []) h = absurd (omega arith)
two_bytes (a ∷ b ∷ []) h = refl
two_bytes (a ∷ b ∷ x ∷ xs) h = absurd (omega arith)

pub no_digit : (bs : List ℕ) (d : ℕ) → d < 16 → digit_value (get_or bs 1 0) ≡ None → 32 ∷ hex_of 1 d ≡ bs → ⊥
no_digit bs d h none e =
    let is : hex_digit d ≡ get_or bs 1 0 = ap (λ us. get_or us 1 0) (ap (λ us. 32 ∷ us) (sym (hex_one d h)) ∙ e) in
    digit_of_hex d h (ap digit_value is ∙ none)

pub some_digit : (bs : List ℕ) (d : ℕ) → length bs ≡ 2 → get_or bs 0 0 ≡ 32 → digit_value (get_or bs 1 0) ≡ Some d → (d < 16) × (32 ∷ hex_of 1 d ≡ bs)
some_digit bs d size first is =
    let back = digit_back (get_or bs 1 0) d is in
    let word : 32 ∷ hex_of 1 d ≡ bs =
    ap (λ us. 32 ∷ us) (hex_one d back.1) ∙ ap (λ b. 32 ∷ b ∷ []) back.0 ∙ ap (λ a. a ∷ get_or bs 1 0 ∷ []) (sym first) ∙ sym (two_bytes bs size) in
    (back.1, word)

-- no word stands there
pub no_word : (bs digits : List ℕ) (w : ℕ) (more : List ℕ) → digits ≡ take 8 (drop 1 bs) → 32 ∷ (hex_of 8 w ++ more) ≡ bs → hex_of 8 w ≡ digits
no_word bs digits w more front e =
    let size : 8 ≡ length (hex_of 8 w) = sym (length-hex 8 w) in
    sym (take-append_seam (hex_of 8 w) more) ∙ ap (λ n. take n (hex_of 8 w ++ more)) (sym size) ∙ ap (λ us. take 8 (drop 1 us)) e ∙ sym front

pub short_word : (bs : List ℕ) (w : ℕ) (more : List ℕ) → length bs < 9 → 32 ∷ (hex_of 8 w ++ more) ≡ bs → ⊥
short_word bs w more h e = omega (arith, ap length e, length-append (hex_of 8 w) more, length-hex 8 w)

-- two words in front of more
pub pair_tells : (v w x y : ℕ) (us vs : List ℕ) → pair_text v w us ≡ pair_text x y vs → us ≡ vs
pair_tells v w x y us vs e =
    let first = word_tells 8 v x (32 ∷ (hex_of 8 w ++ us)) (32 ∷ (hex_of 8 y ++ vs)) e in
    (word_tells 8 w y us vs first.1).1

-- a state's text as two pairs of words and the flags
pub record Four (s : Seen) (bs : List ℕ) : Type 0 where
  pub a : ℕ
  pub b : ℕ
  pub c : ℕ
  pub d : ℕ
  pub is : pair_text a b (pair_text c d (32 ∷ hex_of 1 s.nzcv)) ≡ bs

pub four : (s : Seen) (bs : List ℕ) → IsState s → tail_of (State s) ≡ bs → Four s bs
four s bs is e = by s.r refl is.four
  where
    assoc : (w : ℕ) (xs ys : List ℕ) → 32 ∷ ((hex_of 8 w ++ xs) ++ ys) ≡ 32 ∷ (hex_of 8 w ++ (xs ++ ys))
    assoc w xs ys = ap (λ us. 32 ∷ us) (append_assoc (hex_of 8 w) xs ys)

    by : (ws : List ℕ) → s.r ≡ ws → length ws ≡ 4 → Four s bs
    by [] q n = absurd (omega arith)
    by (a ∷ []) q n = absurd (omega arith)
    by (a ∷ b ∷ []) q n = absurd (omega arith)
    by (a ∷ b ∷ c ∷ []) q n = absurd (omega arith)
    by (a ∷ b ∷ c ∷ d ∷ []) q n = record {
      a = a;
      b = b;
      c = c;
      d = d;
      is = sym (simp append_assoc refl) ∙ ap (λ ws. after_blanks (map (hex_of 8) ws) ++ 32 ∷ hex_of 1 s.nzcv) (sym q) ∙ e;
    }
    by (a ∷ b ∷ c ∷ d ∷ x ∷ ws) q n = absurd (omega arith)
