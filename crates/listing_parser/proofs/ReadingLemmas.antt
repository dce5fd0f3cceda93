-- Labels at the front, and lines one by one.
use Rattle.std.proofs.Common.{◌≡◌, ◌∙◌, inl, inr, ℕ, zero, suc, ◌<◌, ◌≤◌, ◌==◌, ◌&&◌, Bool, true, false, List, [], ◌∷◌, ◌++◌, length, refl, sym, ap, arith, true≢false, append_assoc, append-nil, Result, Ok, Err, eqb-true, eq-eqb}
use Rattle.std.proofs.lemmas.Bool.{cases_Bool, false_from_ne_true}
use Rattle.ascii_scan.specs.Tokens.{rest, is_blank}
use Rattle.ascii_scan.specs.Lines.{Placed}
use Rattle.thumb_model.specs.Listing.{Name}
use Rattle.thumb_syntax.specs.Operands.{is_name}
use Rattle.listing_parser.specs.declared.errors.ListingFault.{ListingFault}
use Rattle.listing_parser.specs.declared.errors.ListingError.{ListingError}
use Rattle.listing_parser.specs.declared.errors.ListingError.TheVariants as errors
use Rattle.listing_parser.specs.Grammar.{is_no_colon, without_first, is_some_byte, front_name, from_colon, begins_label, labels_within, labels_at_front, without_return, Read, with_front, with_first, checked_line, read_lines}
use Rattle.listing_parser.specs.Results.{Fails}

-- ---- labels ----

pub rest_short : (p : ℕ → Bool) (bs : List ℕ) → length (rest p bs) ≤ length bs
rest_short p [] = omega arith
rest_short p (b ∷ bs) = elim (cases_Bool (p b)) [
  | inl e ↦ rw e (omega (arith, rest_short p bs))
  | inr e ↦ rw e (omega arith)
]

first_short : (bs : List ℕ) → is_some_byte bs ≡ true → length (without_first bs) < length bs
first_short [] e = absurd (true≢false (sym e))
first_short (b ∷ bs) e = omega arith

pub and_second : (a b : Bool) → (a && b) ≡ true → b ≡ true
and_second true b e = e
and_second false b e = absurd (true≢false (sym e))

pub after_shorter : (bs : List ℕ) → begins_label bs ≡ true → length (without_first (from_colon bs)) < length bs
after_shorter bs e =
    let h = first_short (from_colon bs) (and_second (is_name (front_name bs)) (is_some_byte (from_colon bs)) e) in
    omega (arith, rest_short is_no_colon (rest is_blank bs), rest_short is_blank bs)

pub within_zero : (bs : List ℕ) → labels_within zero bs ≡ ([], bs)
unfolding labels_within
within_zero bs = refl

pub within_none : (n : ℕ) (bs : List ℕ) → begins_label bs ≡ false → labels_within n bs ≡ ([], bs)
unfolding labels_within
within_none zero bs e = refl
within_none (suc n) bs e = rw e refl

pub within_more : (n : ℕ) (bs : List ℕ) → begins_label bs ≡ true
    → labels_within (suc n) bs ≡ (front_name bs ∷ (labels_within n (without_first (from_colon bs))).0, (labels_within n (without_first (from_colon bs))).1)
unfolding labels_within
within_more n bs e = rw e refl

-- where there are no more bytes, how many labels may be read doesn't matter
within_enough : (n m : ℕ) (bs : List ℕ) → length bs ≤ n → length bs ≤ m → labels_within n bs ≡ labels_within m bs
within_enough zero m bs h k = elim (cases_Bool (begins_label bs)) [
  | inl e ↦ absurd (let shorter = after_shorter bs e in omega arith)
  | inr e ↦ within_none zero bs e ∙ sym (within_none m bs e)
]
within_enough (suc n) zero bs h k = elim (cases_Bool (begins_label bs)) [
  | inl e ↦ absurd (let shorter = after_shorter bs e in omega arith)
  | inr e ↦ within_none (suc n) bs e ∙ sym (within_none zero bs e)
]
within_enough (suc n) (suc m) bs h k = elim (cases_Bool (begins_label bs)) [
  | inl e ↦
      let shorter = after_shorter bs e in
      let next = within_enough n m (without_first (from_colon bs)) (omega arith) (omega arith) in
      within_more n bs e ∙ ap (λ (r : List Name × List ℕ). (front_name bs ∷ r.0, r.1)) next ∙ sym (within_more m bs e)
  | inr e ↦ within_none (suc n) bs e ∙ sym (within_none (suc m) bs e)
]

front_step : (n : ℕ) (bs : List ℕ) → length bs ≡ n → begins_label bs ≡ true
    → labels_within n bs ≡ (front_name bs ∷ (labels_at_front (without_first (from_colon bs))).0, (labels_at_front (without_first (from_colon bs))).1)
unfolding labels_at_front
front_step zero bs h e = absurd (let shorter = after_shorter bs e in omega arith)
front_step (suc n) bs h e =
    let shorter = after_shorter bs e in
    within_more n bs e ∙ ap (λ (r : List Name × List ℕ). (front_name bs ∷ r.0, r.1)) (within_enough n (length (without_first (from_colon bs))) (without_first (from_colon bs)) (omega arith) (omega arith))

pub all_at_front : (bs : List ℕ) → labels_at_front bs ≡ labels_within (length bs) bs
unfolding labels_at_front
all_at_front bs = refl

pub labels_more : (bs : List ℕ) → begins_label bs ≡ true
    → labels_at_front bs ≡ (front_name bs ∷ (labels_at_front (without_first (from_colon bs))).0, (labels_at_front (without_first (from_colon bs))).1)
labels_more bs e = all_at_front bs ∙ front_step (length bs) bs refl e

pub labels_none : (bs : List ℕ) → begins_label bs ≡ false → labels_at_front bs ≡ ([], bs)
unfolding labels_at_front
labels_none bs e = within_none (length bs) bs e

-- the labels so far, before those that are left
pub labels_step : (ns : List Name) (name : Name) (bs after : List ℕ) (all : List Name × List ℕ) → begins_label bs ≡ true → name ≡ front_name bs → after ≡ without_first (from_colon bs)
    → ns ++ (labels_at_front bs).0 ≡ all.0 → (labels_at_front bs).1 ≡ all.1 → ((ns ++ name ∷ []) ++ (labels_at_front after).0 ≡ all.0) × ((labels_at_front after).1 ≡ all.1) × (length after < length bs)
labels_step ns name bs after all e is rest so_far last =
    let next = labels_more bs e in (
      append_assoc ns (name ∷ []) (labels_at_front after).0
          ∙ ap (λ w. ns ++ w) (rw (is, rest) (sym (ap (λ (r : List Name × List ℕ). r.0) next)))
          ∙ so_far,
      rw rest (sym (ap (λ (r : List Name × List ℕ). r.1) next)) ∙ last,
      rw rest (after_shorter bs e),
    )

pub labels_end : (ns : List Name) (bs : List ℕ) (all : List Name × List ℕ) → begins_label bs ≡ false → ns ++ (labels_at_front bs).0 ≡ all.0 → (labels_at_front bs).1 ≡ all.1 → (ns, bs) ≡ all
labels_end ns bs all e so_far last =
    let none = labels_none bs e in
    let names : ns ≡ all.0 = sym (append-nil ns) ∙ ap (λ w. ns ++ w) (sym (ap (λ (r : List Name × List ℕ). r.0) none)) ∙ so_far in
    let after : bs ≡ all.1 = sym (ap (λ (r : List Name × List ℕ). r.1) none) ∙ last in
    λ i. (names i, after i)

-- ---- a carriage return at the end ----

pub last_return : (front : List ℕ) (last : ℕ) → last ≡ 13 → without_return (front ++ last ∷ []) ≡ front
last_return [] last e = rw (eq-eqb last 13 e) refl
last_return (b ∷ []) last e = ap (λ w. b ∷ w) (last_return [] last e)
last_return (b ∷ c ∷ bs) last e = ap (λ w. b ∷ w) (last_return (c ∷ bs) last e)

pub last_other : (front : List ℕ) (last : ℕ) → (last ≡ 13 → ⊥) → without_return (front ++ last ∷ []) ≡ front ++ last ∷ []
last_other [] last e = let differs : (last == 13) ≡ false = false_from_ne_true (last == 13) (λ h. e (eqb-true last 13 h)) in rw differs refl
last_other (b ∷ []) last e = ap (λ w. b ∷ w) (last_other [] last e)
last_other (b ∷ c ∷ bs) last e = ap (λ w. b ∷ w) (last_other (c ∷ bs) last e)

-- ---- line by line ----

front_more : (rs : List Read) (x : Read) (r : Result (List Read) (ℕ × ListingFault)) → with_front rs (with_front (x ∷ []) r) ≡ with_front (rs ++ x ∷ []) r
front_more rs x (Ok xs) = ap (λ ys. Ok ys) (sym (append_assoc rs (x ∷ []) xs))
front_more rs x (Err e) = refl

read_step : (l : Placed) (ls : List Placed) → read_lines (l ∷ ls) ≡ with_first (checked_line l) (read_lines ls)
unfolding read_lines
read_step l ls = refl

pub read_end : (rs : List Read) (ls : List Placed) (r : Result (List Read) (ℕ × ListingFault)) → ls ≡ [] → with_front rs (read_lines ls) ≡ r → r ≡ Ok rs
unfolding read_lines
read_end rs ls r e so_far = sym so_far ∙ rw e (ap (λ ys. Ok ys) (append-nil rs))

pub read_ok : (rs : List Read) (ls rest : List Placed) (l : Placed) (x : Read) (r : Result (List Read) (ℕ × ListingFault)) → ls ≡ l ∷ rest → checked_line l ≡ Ok x
    → with_front rs (read_lines ls) ≡ r → with_front (rs ++ x ∷ []) (read_lines rest) ≡ r
read_ok rs ls rest l x r e ok so_far =
    sym (front_more rs x (read_lines rest))
    ∙ ap (with_front rs) (sym (ap read_lines e ∙ read_step l rest ∙ ap (λ y. with_first y (read_lines rest)) ok))
    ∙ so_far

pub read_err : (rs : List Read) (ls rest : List Placed) (l : Placed) (e : ListingError) (r : Result (List Read) (ℕ × ListingFault)) → ls ≡ l ∷ rest → Fails e (checked_line l)
    → with_front rs (read_lines ls) ≡ r → Fails e r
read_err rs ls rest l errors.Memory r is fails so_far = tt
read_err rs ls rest l (errors.Line number k) r is fails so_far =
    sym so_far ∙ ap (with_front rs) (ap read_lines is ∙ read_step l rest ∙ ap (λ y. with_first y (read_lines rest)) fails)
