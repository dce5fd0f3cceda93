-- The loop of `names_of`: the names of r0 to r7 are set from the last register of an order to the first, so that the first appearance wins.
use Rattle.std.proofs.Common.{◌≡◌, ℕ, zero, suc, ◌+◌, ◌-◌, ◌<◌, ◌≢◌, List, [], ◌∷◌, map, length, drop, get_or, refl, sym, ap, ◌∙◌, arith, slice_set, inl, inr}
use Rattle.std.proofs.Math.Seq.{drop-cons}
use Rattle.std.proofs.lemmas.List.{drop_all}
use Rattle.std.proofs.lemmas.Bool.Decides.{eqb_tells}
use Rattle.seq_enum.specs.Alphabet.{numbers_from}
use Rattle.thumb_instr.specs.Window.{Low}
use Rattle.rule_table.specs.Canonical.{name_in, numbers_of}
use Rattle.rule_table.proofs.Backs.{eight}

-- the index of each register in the part of the order that begins at an index
abbrev pub names_from : ℕ → List ℕ → List ℕ
names_from place rest = map (λ r. place + name_in rest r) eight

counted : eight ≡ numbers_from 0 8
unfolding numbers_from
counted = refl

map_same : (f g : ℕ → ℕ) (first n : ℕ) → ((r : ℕ) → first < suc r → f r ≡ g r) → map f (numbers_from first n) ≡ map g (numbers_from first n)
unfolding numbers_from
map_same f g first zero h = refl
map_same f g first (suc n) h = ap (λ x. x ∷ map f (numbers_from (suc first) n)) (h first (omega arith)) ∙ ap (λ xs. g first ∷ xs) (map_same f g (suc first) n (λ r l. h r (omega arith)))

set_map : (f g : ℕ → ℕ) (first n i v : ℕ) → g (first + i) ≡ v → ((r : ℕ) → r ≢ first + i → f r ≡ g r) → slice_set (map f (numbers_from first n)) i v ≡ map g (numbers_from first n)
unfolding numbers_from
set_map f g first zero i v at others = refl
set_map f g first (suc n) zero v at others =
    let here : first + 0 ≡ first = omega arith in
    ap (λ x. x ∷ map f (numbers_from (suc first) n)) (sym at ∙ ap g here) ∙ ap (λ xs. g first ∷ xs) (map_same f g (suc first) n (λ r l. others r (λ e. omega arith)))
set_map f g first (suc n) (suc i) v at others =
    let next : suc first + i ≡ first + suc i = omega arith in
    ap (λ x. x ∷ slice_set (map f (numbers_from (suc first) n)) i v) (others first (λ e. omega arith))
    ∙ ap (λ xs. g first ∷ xs) (set_map f g (suc first) n i v (ap g next ∙ at) (λ r d. others r (λ e. d (e ∙ sym next))))

pub names_start : (place : ℕ) → map (λ r. place) eight ≡ names_from place []
unfolding name_in
names_start place = ap (map (λ r. place)) counted ∙ map_same (λ r. place) (λ r. place + name_in [] r) 0 8 (λ r l. omega arith) ∙ ap (map (λ r. place + name_in [] r)) (sym counted)

pub names_step : (place x : ℕ) (rest : List ℕ) → slice_set (names_from (suc place) rest) x place ≡ names_from place (x ∷ rest)
unfolding name_in
names_step place x rest =
    let f : ℕ → ℕ = λ r. suc place + name_in rest r in
    let g : ℕ → ℕ = λ r. place + name_in (x ∷ rest) r in
    ap (λ ks. slice_set (map f ks) x place) counted ∙ set_map f g 0 8 x place (here (0 + x) (omega arith)) (λ r d. there r (λ e. d (sym e ∙ omega arith))) ∙ ap (map g) (sym counted)
  where
    here : (r : ℕ) → x ≡ r → place + name_in (x ∷ rest) r ≡ place
    here r e = elim (eqb_tells x r) [
      | inl s ↦ rw s.0 (omega arith)
      | inr n ↦ absurd (n.1 e)
    ]

    there : (r : ℕ) → x ≢ r → suc place + name_in rest r ≡ place + name_in (x ∷ rest) r
    there r d = elim (eqb_tells x r) [
      | inl s ↦ absurd (d s.1)
      | inr n ↦ rw n.0 (omega arith)
    ]

-- ---- the loop ----

numbers-set : (xs : List Low) (i : ℕ) (x : Low) → numbers_of (slice_set xs i x) ≡ slice_set (numbers_of xs) i x.number
numbers-set [] i x = refl
numbers-set (y ∷ xs) zero x = refl
numbers-set (y ∷ xs) (suc i) x = ap (λ ns. y.number ∷ ns) (numbers-set xs i x)

pub names_begin : (n : ℕ) (order : List Low) → n ≡ length order → map (λ r. n) eight ≡ names_from (length order - 0) (numbers_of (drop (length order - 0) order))
names_begin n order e =
    let whole : length order - 0 ≡ length order = omega arith in
    names_start n ∙ ap (λ m. names_from m []) (e ∙ sym whole) ∙ ap (λ (rs : List Low). names_from (length order - 0) (numbers_of rs)) (sym (drop_all (length order - 0) order (omega arith)))

pub names_next : (order names : List Low) (turn : ℕ) (d low : Low) → turn < length order → numbers_of names ≡ names_from (length order - turn) (numbers_of (drop (length order - turn) order))
    → low.number ≡ length order - 1 - turn
    → numbers_of (slice_set names (get_or order (length order - 1 - turn) d).number low) ≡ names_from (length order - (turn + 1)) (numbers_of (drop (length order - (turn + 1)) order))
names_next order names turn d low h before e =
    let place = length order - 1 - turn in
    let x = get_or order place d in
    let old : length order - turn ≡ suc place = omega arith in
    let new : length order - (turn + 1) ≡ place = omega arith in
    numbers-set names x.number low
    ∙ ap (slice_set (numbers_of names) x.number) e
    ∙ ap (λ ns. slice_set ns x.number place) (before ∙ ap (λ m. names_from m (numbers_of (drop m order))) old)
    ∙ names_step place x.number (numbers_of (drop (suc place) order))
    ∙ ap (λ (rs : List Low). names_from place (numbers_of rs)) (sym (drop-cons order place d (omega arith)))
    ∙ ap (λ m. names_from m (numbers_of (drop m order))) (sym new)
