-- Words as bytes: how an option is spelled, and how clap takes a word apart.
use Rattle.std.proofs.Common.{◌≡◌, ◌∙◌, inl, inr, ◌+◌, ◌++◌, ◌==◌, ℕ, suc, Bool, true, false, [], ◌∷◌, Option, Some, None, refl, sym, ap, ap₂, arith, codes, true≢false, eqb-true, append_assoc}
use Rattle.std.specs.List.{before_first, after_first, position_or_len}
use Rattle.std.specs.Str.{bytes_eq}
use Rattle.std.proofs.lemmas.Slice.Eq.{bytes_eq-Decides}
use Rattle.clap.specs.Lexer.{has_byte, long_of, long_of_rest, name_and_value, short_of}
use Rattle.command_line.specs.Words.{Text, is_dashed}
use Rattle.command_line.proofs.Reading.{joined, apart, plain, word_by, word_of}
use Rattle.std.proofs.lemmas.Bool.{cases_Bool}
use Rattle.ascii_scan.proofs.TokenLemmas.{one_plus}

pub same_text : (a b : Text) → bytes_eq a b ≡ true → a ≡ b
same_text a b e = (bytes_eq-Decides a b).0 e

pub text_self : (a : Text) → bytes_eq a a ≡ true
text_self a = (bytes_eq-Decides a a).1 refl

pub text_sym : (a b : Text) → bytes_eq a b ≡ false → bytes_eq b a ≡ false
text_sym a b e = elim (cases_Bool (bytes_eq b a)) [
  | inl same ↦ absurd (true≢false (sym (text_self a) ∙ ap (λ (t : Text). bytes_eq a t) (sym (same_text b a same)) ∙ e))
  | inr other ↦ other
]

-- ---- a name, `=` (61) and a value

suc_one : (n : ℕ) → suc n + 1 ≡ suc (n + 1)
suc_one n = omega arith

plus_one : (n : ℕ) → (1 + n) + 1 ≡ suc (n + 1)
plus_one n = omega arith

joined_before : (n v : Text) → has_byte 61 n ≡ false → before_first (λ x. x == 61) (n ++ 61 ∷ v) ≡ n
joined_before [] v e = refl
joined_before (b ∷ bs) v e = elim (cases_Bool (b == 61)) [
  | inl same ↦ absurd (true≢false (rw same at e))
  | inr other ↦ rw (other, one_plus (position_or_len (λ x. x == 61) (bs ++ 61 ∷ v))) (ap (λ t. b ∷ t) (joined_before bs v (rw other at e)))
]

joined_after : (n v : Text) → has_byte 61 n ≡ false → after_first (λ x. x == 61) (n ++ 61 ∷ v) ≡ v
joined_after [] v e = refl
joined_after (b ∷ bs) v e = elim (cases_Bool (b == 61)) [
  | inl same ↦ absurd (true≢false (rw same at e))
  | inr other ↦ rw (other, plus_one (position_or_len (λ x. x == 61) (bs ++ 61 ∷ v))) (joined_after bs v (rw other at e))
]

joined_has : (n v : Text) → has_byte 61 (n ++ 61 ∷ v) ≡ true
joined_has [] v = refl
joined_has (b ∷ bs) v = elim (cases_Bool (b == 61)) [ inl same ↦ rw same refl | inr other ↦ rw other (joined_has bs v) ]

alone_before : (n : Text) → has_byte 61 n ≡ false → before_first (λ x. x == 61) n ≡ n
alone_before [] e = refl
alone_before (b ∷ bs) e = elim (cases_Bool (b == 61)) [
  | inl same ↦ absurd (true≢false (rw same at e))
  | inr other ↦ rw (other, one_plus (position_or_len (λ x. x == 61) bs)) (ap (λ t. b ∷ t) (alone_before bs (rw other at e)))
]

parts : (t : Text) → has_byte 61 t ≡ true → t ≡ before_first (λ x. x == 61) t ++ 61 ∷ after_first (λ x. x == 61) t
parts [] e = absurd (true≢false (sym e))
parts (b ∷ bs) e = elim (cases_Bool (b == 61)) [
  | inl same ↦ rw same (ap (λ c. c ∷ bs) (eqb-true b 61 same))
  | inr other ↦ rw (other, one_plus (position_or_len (λ x. x == 61) bs), suc_one (position_or_len (λ x. x == 61) bs)) (ap (λ t. b ∷ t) (parts bs (rw other at e)))
]

pub joined_parts : (n v : Text) → has_byte 61 n ≡ false → name_and_value (n ++ 61 ∷ v) ≡ (n, Some v)
joined_parts n v e = rw (joined_before n v e, joined_has n v, joined_after n v e) refl

pub alone_parts : (n : Text) → has_byte 61 n ≡ false → name_and_value n ≡ (n, None)
alone_parts n e = rw (alone_before n e, e) refl

-- ---- the words of options

-- `--name=value`
abbrev pub joined_text : Text → Text → Text
joined_text n v = codes "--" ++ n ++ codes "=" ++ v

joined_shape : (n v : Text) → joined_text n v ≡ 45 ∷ 45 ∷ (n ++ 61 ∷ v)
joined_shape n v = ap (λ (t : Text). 45 ∷ 45 ∷ t) (append_assoc n (61 ∷ []) v)

not_empty : (n v : Text) → bytes_eq (n ++ 61 ∷ v) [] ≡ false
not_empty [] v = refl
not_empty (b ∷ bs) v = refl

rest_of_word : (is_option : Text → Bool) (n v : Text) → has_byte 61 n ≡ false → is_option n ≡ true → word_of is_option (45 ∷ 45 ∷ (n ++ 61 ∷ v)) ≡ joined n v
rest_of_word is_option [] v e ours = rw ours refl
rest_of_word is_option (b ∷ bs) v e ours = ap (λ (p : Text × Option Text). word_by is_option (Some p) None) (joined_parts (b ∷ bs) v e) ∙ rw ours refl

pub joined_word : (is_option : Text → Bool) (n v : Text) → has_byte 61 n ≡ false → is_option n ≡ true → word_of is_option (joined_text n v) ≡ joined n v
joined_word is_option n v e ours = ap (word_of is_option) (joined_shape n v) ∙ rest_of_word is_option n v e ours

pub apart_word : (is_option : Text → Bool) (n : Text) → has_byte 61 n ≡ false → bytes_eq n [] ≡ false → is_option n ≡ true → word_of is_option (codes "--" ++ n) ≡ apart n
apart_word is_option [] e some ours = absurd (true≢false some)
apart_word is_option (b ∷ bs) e some ours = ap (λ (p : Text × Option Text). word_by is_option (Some p) None) (alone_parts (b ∷ bs) e) ∙ rw ours refl

pub plain_word : (is_option : Text → Bool) (x : Text) → is_dashed x ≡ false → word_of is_option x ≡ plain
plain_word is_option [] e = refl
plain_word is_option (a ∷ []) e = elim (cases_Bool (a == 45)) [ inl dash ↦ rw dash refl | inr other ↦ rw other refl ]
plain_word is_option (a ∷ b ∷ cs) e = rw e refl

-- ---- and back

-- the text is a name, or a name, `=` and a value
abbrev IsOf : Text → Text → Option Text → Type 0
IsOf t n None = t ≡ n
IsOf t n (Some v) = t ≡ n ++ 61 ∷ v

parted : (t n : Text) (v : Option Text) → name_and_value t ≡ (n, v) → IsOf t n v
parted t n None e = elim (cases_Bool (has_byte 61 t)) [
  | inl has ↦ let some : Some (after_first (λ x. x == 61) t) ≡ None = rw has at (ap (λ (p : Text × Option Text). p.1) e) in absurd (cc)
  | inr none ↦ sym (alone_before t none) ∙ ap (λ (p : Text × Option Text). p.0) e
]
parted t n (Some v) e = elim (cases_Bool (has_byte 61 t)) [
  | inl has ↦ let after : Some (after_first (λ x. x == 61) t) ≡ Some v = rw has at (ap (λ (p : Text × Option Text). p.1) e) in
      let is : after_first (λ x. x == 61) t ≡ v = cc in
      parts t has ∙ ap₂ (λ (a b : Text). a ++ 61 ∷ b) (ap (λ (p : Text × Option Text). p.0) e) is
  | inr none ↦ let bad : None ≡ Some v = rw none at (ap (λ (p : Text × Option Text). p.1) e) in absurd (cc)
]

-- clap reads only `--`, a name, and maybe `=` and a value as a long option
pub long_is : (x n : Text) (v : Option Text) → long_of x ≡ Some (n, v) → (t : Text) × (x ≡ 45 ∷ 45 ∷ t) × IsOf t n v
long_is [] n v e = absurd (let bad : None ≡ Some (n, v) = e in cc)
long_is (a ∷ []) n v e = elim (cases_Bool (a == 45)) [
  | inr other ↦ absurd (let bad : None ≡ Some (n, v) = rw other at e in cc)
  | inl one ↦ absurd (let bad : None ≡ Some (n, v) = rw one at e in cc)
]
long_is (a ∷ b ∷ bs) n v e = elim (cases_Bool (a == 45)) [
  | inr other ↦ absurd (let bad : None ≡ Some (n, v) = rw other at e in cc)
  | inl one ↦ elim (cases_Bool (b == 45)) [
    | inr name ↦ absurd (let bad : None ≡ Some (n, v) = rw (one, name) at e in cc)
    | inl two ↦ (bs, ap₂ (λ (c d : ℕ). c ∷ d ∷ bs) (eqb-true a 45 one) (eqb-true b 45 two), last bs (rw (one, two) at e))
  ]
] where
  last : (t : Text) → long_of_rest t ≡ Some (n, v) → IsOf t n v
  last [] e = absurd (let bad : None ≡ Some (n, v) = e in cc)
  last (b ∷ bs) e = parted (b ∷ bs) n v (let is : Some (name_and_value (b ∷ bs)) ≡ Some (n, v) = e in cc)

pub joined_is : (x n v : Text) → long_of x ≡ Some (n, Some v) → x ≡ joined_text n v
joined_is x n v e = let w = long_is x n (Some v) e in w.1 ∙ ap (λ (t : Text). 45 ∷ 45 ∷ t) w.2 ∙ sym (joined_shape n v)

pub apart_is : (x n : Text) → long_of x ≡ Some (n, None) → x ≡ codes "--" ++ n
apart_is x n e = let w = long_is x n None e in w.1 ∙ ap (λ (t : Text). 45 ∷ 45 ∷ t) w.2

pub dashes_is : (x : Text) → bytes_eq x (45 ∷ 45 ∷ []) ≡ true → x ≡ codes "--"
dashes_is x e = same_text x (45 ∷ 45 ∷ []) e

pub plain_is : (x : Text) → bytes_eq x (45 ∷ 45 ∷ []) ≡ false → long_of x ≡ None → short_of x ≡ None → is_dashed x ≡ false
plain_is [] dd long short = refl
plain_is (a ∷ []) dd long short = refl
plain_is (a ∷ b ∷ cs) dd long short = elim (cases_Bool (a == 45)) [
  | inr other ↦ other
  | inl one ↦ elim (cases_Bool (b == 45)) [
    | inr name ↦ absurd (let bad : Some (b ∷ cs) ≡ None = rw (one, name) at short in cc)
    | inl two ↦ elim cs as (λ (ds : Text). bytes_eq (a ∷ b ∷ ds) (45 ∷ 45 ∷ []) ≡ false → long_of (a ∷ b ∷ ds) ≡ None → (a == 45) ≡ false) [
      | [] ↦ λ dd' long'. absurd (true≢false (rw (one, two) at dd'))
      | d ∷ ds ↦ λ dd' long'. absurd (let bad : Some (name_and_value (d ∷ ds)) ≡ None = rw (one, two) at long' in cc)
    ] dd long
  ]
]
