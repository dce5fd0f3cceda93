-- The first token of a text, as the scanner splits it off, is the first of the specification's tokens.
use Rattle.std.proofs.Common.{◌≡◌, ◌∙◌, inl, inr, ℕ, suc, ◌+◌, ◌&&◌, Bool, true, false, not, List, [], ◌∷◌, ◌++◌, drop, take, refl, sym, ap, arith, cond, true≢false}
use Rattle.std.specs.List.{prefix_len, list_all}
use Rattle.ascii_scan.specs.Tokens.{word, mark, is_blank, is_mark, is_inner, begins_blank, begins_inner, tokens, grown, front, rest}
use Rattle.std.proofs.lemmas.Bool.{cases_Bool}

pub tokens_nil : tokens [] ≡ []
unfolding tokens
tokens_nil = refl

pub tokens_blank : (b : ℕ) (bs : List ℕ) → is_blank b ≡ true → tokens (b ∷ bs) ≡ tokens bs
unfolding tokens
tokens_blank b bs e = rw e refl

pub tokens_mark : (b : ℕ) (bs : List ℕ) → is_blank b ≡ false → is_mark b ≡ true → tokens (b ∷ bs) ≡ mark b ∷ tokens bs
unfolding tokens
tokens_mark b bs blank e = rw (blank, e) refl

tokens_last : (b : ℕ) (bs : List ℕ) → is_blank b ≡ false → is_mark b ≡ false → begins_inner bs ≡ false → tokens (b ∷ bs) ≡ word (b ∷ []) ∷ tokens bs
unfolding tokens
tokens_last b bs blank marked last = rw (blank, marked, last) refl

tokens_more : (b : ℕ) (bs : List ℕ) → is_blank b ≡ false → is_mark b ≡ false → begins_inner bs ≡ true → tokens (b ∷ bs) ≡ grown b (tokens bs)
unfolding tokens
tokens_more b bs blank marked more = rw (blank, marked, more) refl

inner_of : (b : ℕ) → is_blank b ≡ false → is_mark b ≡ false → is_inner b ≡ true
inner_of b blank marked = rw (blank, marked) refl

no_blank : (b : ℕ) → is_inner b ≡ true → is_blank b ≡ false
no_blank b inner = elim (is_blank b) as (λ v. (not v && not (is_mark b)) ≡ true → v ≡ false) [ true ↦ λ e. sym e | false ↦ λ e. refl ] inner

no_mark : (b : ℕ) → is_inner b ≡ true → is_mark b ≡ false
no_mark b inner = elim (is_blank b) as (λ v. (not v && not (is_mark b)) ≡ true → is_mark b ≡ false) [
  | true ↦ λ e. absurd (true≢false (sym e))
  | false ↦ λ e. elim (is_mark b) as (λ v. not v ≡ true → v ≡ false) [ true ↦ λ f. sym f | false ↦ λ f. refl ] e
] inner

pub one_plus : (n : ℕ) → 1 + n ≡ suc n
one_plus n = omega arith

pub front_is : (p : ℕ → Bool) (bs : List ℕ) → take (prefix_len p bs) bs ≡ front p bs
front_is p [] = refl
front_is p (b ∷ bs) = elim (p b) as (λ v. take (cond v (1 + prefix_len p bs) 0) (b ∷ bs) ≡ cond v (b ∷ front p bs) []) [
  | true ↦ ap (λ n. take n (b ∷ bs)) (one_plus (prefix_len p bs)) ∙ ap (λ w. b ∷ w) (front_is p bs)
  | false ↦ refl
]

pub rest_is : (p : ℕ → Bool) (bs : List ℕ) → drop (prefix_len p bs) bs ≡ rest p bs
rest_is p [] = refl
rest_is p (b ∷ bs) = elim (p b) as (λ v. drop (cond v (1 + prefix_len p bs) 0) (b ∷ bs) ≡ cond v (rest p bs) (b ∷ bs)) [
  | true ↦ ap (λ n. drop n (b ∷ bs)) (one_plus (prefix_len p bs)) ∙ rest_is p bs
  | false ↦ refl
]

-- a text that begins with a byte of a word begins with the word up to the first blank or mark
pub tokens_word : (b : ℕ) (bs : List ℕ) → is_blank b ≡ false → is_mark b ≡ false → tokens (b ∷ bs) ≡ word (b ∷ front is_inner bs) ∷ tokens (rest is_inner bs)
tokens_word b [] blank marked = tokens_last b [] blank marked refl
tokens_word b (x ∷ xs) blank marked = elim (cases_Bool (is_inner x)) [
  | inl more ↦ tokens_more b (x ∷ xs) blank marked more ∙ rw (tokens_word x xs (no_blank x more) (no_mark x more), more) refl
  | inr last ↦ tokens_last b (x ∷ xs) blank marked last ∙ rw last refl
]

pub tokens_after_blanks : (bs : List ℕ) → tokens (rest is_blank bs) ≡ tokens bs
tokens_after_blanks [] = refl
tokens_after_blanks (b ∷ bs) = elim (cases_Bool (is_blank b)) [
  | inl blank ↦ rw (blank, tokens_blank b bs blank) (tokens_after_blanks bs)
  | inr none ↦ rw none refl
]

pub no_blank_after : (bs : List ℕ) → begins_blank (rest is_blank bs) ≡ false
no_blank_after [] = refl
no_blank_after (b ∷ bs) = elim (cases_Bool (is_blank b)) [
  | inl blank ↦ rw blank (no_blank_after bs)
  | inr none ↦ rw none none
]

-- ---- the first token

same_tokens : (bs : List ℕ) (s : List ℕ) → rest is_blank bs ≡ s → tokens bs ≡ tokens s
same_tokens bs s e = sym (tokens_after_blanks bs) ∙ ap tokens e

front_no_blank : (bs : List ℕ) (f : ℕ) (after : List ℕ) → rest is_blank bs ≡ f ∷ after → is_blank f ≡ false
front_no_blank bs f after e = sym (ap begins_blank e) ∙ no_blank_after bs

pub next_none : (bs : List ℕ) → rest is_blank bs ≡ [] → tokens bs ≡ []
next_none bs e = same_tokens bs [] e ∙ tokens_nil

pub next_mark : (bs : List ℕ) (f : ℕ) (after : List ℕ) → rest is_blank bs ≡ f ∷ after → is_mark f ≡ true → tokens bs ≡ mark f ∷ tokens after
next_mark bs f after e marked = same_tokens bs _ e ∙ tokens_mark f after (front_no_blank bs f after e) marked

pub next_word : (bs : List ℕ) (f : ℕ) (after : List ℕ) → rest is_blank bs ≡ f ∷ after → is_mark f ≡ false
    → tokens bs ≡ word (front is_inner (rest is_blank bs)) ∷ tokens (rest is_inner (rest is_blank bs))
next_word bs f after e marked =
    let blank = front_no_blank bs f after e in
    let inner = inner_of f blank marked in
    rw e (same_tokens bs _ e ∙ tokens_word f after blank marked ∙ rw inner refl)

-- ---- a word that was written is read back

front_written : (w rest' : List ℕ) → list_all is_inner w ≡ true → begins_inner rest' ≡ false → (front is_inner (w ++ rest') ≡ w) × (rest is_inner (w ++ rest') ≡ rest')
front_written [] [] all ends = (refl, refl)
front_written [] (b ∷ bs) all ends = (rw ends refl, rw ends refl)
front_written (x ∷ xs) bs all ends = elim (cases_Bool (is_inner x)) [
  | inl yes' ↦ let next = front_written xs bs (rw yes' at all) ends in (rw yes' (ap (λ w. x ∷ w) next.0), rw yes' next.1)
  | inr no' ↦ absurd (true≢false (sym (rw no' at all)))
]

pub tokens_written : (x : ℕ) (xs rest' : List ℕ) → list_all is_inner (x ∷ xs) ≡ true → begins_inner rest' ≡ false → tokens (x ∷ xs ++ rest') ≡ word (x ∷ xs) ∷ tokens rest'
tokens_written x xs bs all ends = elim (cases_Bool (is_inner x)) [
  | inl yes' ↦ let next = front_written xs bs (rw yes' at all) ends in tokens_word x (xs ++ bs) (no_blank x yes') (no_mark x yes') ∙ rw (next.0, next.1) refl
  | inr no' ↦ absurd (true≢false (sym (rw no' at all)))
]
