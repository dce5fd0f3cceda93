-- The kind of a word, by the tests that clap makes, for words in UTF-8.
use Rattle.std.proofs.Common.{◌≡◌, ◌∙◌, inl, inr, ◌==◌, ℕ, Bool, true, false, List, [], ◌∷◌, Option, Some, None, refl, sym, ap, eqb-true, subst}
use Rattle.std.specs.Prelude.{slice_get}
use Rattle.std.specs.Char.{encode_utf8}
use Rattle.std.specs.Str.{IsUtf8, bytes_eq, chars, encode_utf8_all}
use Rattle.std.proofs.lemmas.Str.{encodes-chars}
use Rattle.clap.specs.Lexer.{long_of, name_and_value}
use Rattle.command_line.specs.Words.{Text}
use Rattle.command_line.proofs.Law.{Is, is_dashes, is_joined, is_apart, is_unknown, is_short, is_plain, Each}
use Rattle.std.proofs.lemmas.Bool.{cases_Bool}

chars_step : (b : ℕ) (cs : List ℕ) → chars (45 ∷ b ∷ cs) ≡ 45 ∷ chars (b ∷ cs)
unfolding chars
chars_step b cs = refl

one_dash : encode_utf8_all (45 ∷ []) ≡ 45 ∷ []
unfolding encode_utf8
one_dash = refl

first_char : (b : ℕ) (cs : List ℕ) → IsUtf8 (45 ∷ b ∷ cs) → (c : ℕ) × (slice_get (chars (b ∷ cs)) 0 ≡ Some c)
first_char b cs text = go (chars (b ∷ cs)) refl where
  go : (xs : List ℕ) → chars (b ∷ cs) ≡ xs → (c : ℕ) × (slice_get (chars (b ∷ cs)) 0 ≡ Some c)
  go [] e = absurd (let bad : 45 ∷ [] ≡ 45 ∷ b ∷ cs = sym one_dash ∙ ap encode_utf8_all (ap (λ xs. 45 ∷ xs) (sym e) ∙ sym (chars_step b cs)) ∙ encodes-chars (45 ∷ b ∷ cs) text in cc)
  go (c ∷ xs) e = (c, rw e refl)

of_long : (is_option : Text → Bool) (x n : Text) (v : Option Text) → bytes_eq x (45 ∷ 45 ∷ []) ≡ false → long_of x ≡ Some (n, v) → Is is_option x
of_long is_option x n None dd long = elim (cases_Bool (is_option n)) [ inl ours ↦ is_apart n dd long ours | inr other ↦ is_unknown n None dd long other ]
of_long is_option x n (Some v) dd long = elim (cases_Bool (is_option n)) [ inl ours ↦ is_joined n v dd long ours | inr other ↦ is_unknown n (Some v) dd long other ]

two_dashes : (is_option : Text → Bool) (b c : ℕ) (cs : List ℕ) → (b == 45) ≡ true → (c == 45) ≡ true → Is is_option (b ∷ c ∷ cs)
two_dashes is_option b c [] one two = is_dashes (rw (one, two) refl)
two_dashes is_option b c (d ∷ ds) one two =
    of_long is_option (b ∷ c ∷ d ∷ ds) (name_and_value (d ∷ ds)).0 (name_and_value (d ∷ ds)).1 (rw (one, two) refl) (rw (one, two) refl)

pub word_is : (is_option : Text → Bool) (x : Text) → IsUtf8 x → Is is_option x
word_is is_option [] text = is_plain refl refl refl
word_is is_option (b ∷ []) text = elim (cases_Bool (b == 45)) [
  | inl dash ↦ is_plain (rw dash refl) (rw dash refl) (rw dash refl)
  | inr other ↦ is_plain (rw other refl) (rw other refl) (rw other refl)
]
word_is is_option (b ∷ c ∷ cs) text = elim (cases_Bool (b == 45)) [
  | inr other ↦ is_plain (rw other refl) (rw other refl) (rw other refl)
  | inl one ↦ elim (cases_Bool (c == 45)) [
    | inl two ↦ two_dashes is_option b c cs one two
    | inr name ↦ let first = first_char c cs (subst (λ (k : ℕ). IsUtf8 (k ∷ c ∷ cs)) (eqb-true b 45 one) text) in
        is_short c first.0 cs (rw (one, name) refl) (rw (one, name) refl) (rw (one, name) refl) first.1
  ]
]

abbrev pub AreTexts : List Text → Type 0
AreTexts [] = Unit {0}
AreTexts (x ∷ xs) = IsUtf8 x × AreTexts xs

pub each_is : (is_option : Text → Bool) (ws : List Text) → AreTexts ws → Each is_option ws
each_is is_option [] texts = tt
each_is is_option (x ∷ xs) texts = (word_is is_option x texts.0, each_is is_option xs texts.1)
