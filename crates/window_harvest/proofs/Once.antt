-- A window has one canonical form.
use Rattle.std.proofs.Common.{◌≡◌, ℕ, zero, suc, ◌<◌, ◌≤◌, ◌==◌, Bool, true, false, min, List, [], ◌∷◌, length, map, Option, Some, None, refl, sym, ap, ◌∙◌, subst, arith, eq-eqb, eqb-true}
use Rattle.std.specs.Prelude.{slice_get, if◌then◌else◌}
use Rattle.std.specs.Int.{bit_at}
use Rattle.std.specs.List.{flat_map, list_all}
use Rattle.std.specs.Option.{option_map}
use Rattle.std.proofs.lemmas.Bool.{and_parts}
use Rattle.std.proofs.lemmas.Nat.Bits.{bit_at-lt, same_from_bits}
use Rattle.std.proofs.lemmas.Option.{slice_get-map}
use Rattle.std.proofs.lemmas.List.{length-map}
use Rattle.thumb_instr.specs.declared.instr.Instr.{Instr}
use Rattle.thumb_instr.specs.Items.{has as has_item}
use Rattle.thumb_instr.specs.Window.{is_in_window, normal_of, Low, named, renamed, AreBelow, item_under, number_or}
use Rattle.thumb_instr.proofs.RenamingLemmas.{below_parts}
use Rattle.rule_table.specs.Canonical.{has, name_in, numbers_of, appearing, masked, IsCanonical}
use Rattle.rule_table.proofs.Backs.{windows_normal, eight, eight_at}
use Rattle.rule_table.proofs.Renamings.{AllNamed, ComesBack, renamed_back}
use Rattle.thumb_instr.proofs.Shared.{windows_back}
use Rattle.rule_table.proofs.Shared.{has_at, same_numbers}
use Rattle.rule_table.proofs.Distinct.{AreDistinct, firsts_distinct}

-- ---- names of registers ----

-- a register's name is the place where it stands
pub name_at : (xs : List ℕ) (i r : ℕ) → AreDistinct xs → slice_get xs i ≡ Some r → name_in xs r ≡ i
unfolding name_in
name_at [] i r d e = absurd (cc)
name_at (x ∷ xs) zero r d e = let s : x ≡ r = cc in rw (eq-eqb x r s) refl
name_at (x ∷ xs) (suc i) r d e = go (x == r) refl (name_at xs i r d.1 e)
  where
    go : (b : Bool) → (x == r) ≡ b → name_in xs r ≡ i → (if b then 0 else suc (name_in xs r)) ≡ suc i
    go true t h = absurd (let s : x ≡ r = eqb-true x r t in let g : has xs x ≡ true = ap (has xs) s ∙ has_at xs i r e in let f = d.0 in cc)
    go false t h = ap suc h

-- ---- the map back ----

-- the register of a number up to 7
low_of : ℕ → Low
low_of n = record { number = min n 7; least = omega arith; below = omega arith }

low_of_number : (n : ℕ) → n ≤ 7 → (low_of n).number ≡ n
unfolding low_of
low_of_number n h = omega arith

backward : List Low → List Low
backward f = map (λ r. low_of (name_in (numbers_of f) r)) eight

back_at : (f : List Low) (x : ℕ) → x < 8 → slice_get (backward f) x ≡ Some (low_of (name_in (numbers_of f) x))
unfolding backward
back_at f x h = slice_get-map (λ r. low_of (name_in (numbers_of f) r)) eight x ∙ ap (option_map (λ r. low_of (name_in (numbers_of f) r))) (eight_at x h)

comes_back : (f : List Low) (k x : ℕ) → length f ≡ k → k ≤ 4 → AreDistinct (numbers_of f) → x < k → item_under (backward f) (item_under f x) ≡ x
comes_back f k x n h d l = go (slice_get f x) refl
  where
    some_at : (xs : List Low) (i : ℕ) → i < length xs → slice_get xs i ≡ None → ⊥
    some_at [] i h e = omega arith
    some_at (y ∷ xs) zero h e = cc
    some_at (y ∷ xs) (suc i) h e = some_at xs i (omega arith) e

    go : (o : Option Low) → slice_get f x ≡ o → item_under (backward f) (number_or o x) ≡ x
    go None e = absurd (some_at f x (omega arith) e)
    go (Some r) e =
        let there : slice_get (numbers_of f) x ≡ Some r.number = slice_get-map (λ (y : Low). y.number) f x ∙ ap (option_map (λ (y : Low). y.number)) e in
        let name : name_in (numbers_of f) r.number ≡ x = name_at (numbers_of f) x r.number d there in
        ap (λ (o : Option Low). number_or o r.number) (back_at f r.number r.below) ∙ ap (λ n. (low_of n).number) name ∙ low_of_number x (omega arith)

all_come_back : (f : List Low) (k : ℕ) (xs : List ℕ) → length f ≡ k → k ≤ 4 → AreDistinct (numbers_of f) → AreBelow k xs → AllNamed (ComesBack f (backward f)) xs
all_come_back f k [] n h d a = tt
all_come_back f k (x ∷ xs) n h d a = (comes_back f k x n h d a.0, all_come_back f k xs n h d a.1)

seq_back : (f : List Low) (k : ℕ) (is : List Instr) → length f ≡ k → k ≤ 4 → AreDistinct (numbers_of f) → AreBelow k (flat_map named is) → list_all is_in_window is ≡ true → map (renamed (backward f)) (map (renamed f) is) ≡ is
seq_back f k [] n h d a w = refl
seq_back f k (i ∷ is) n h d a w =
    let b = below_parts k (named i) (flat_map named is) a in
    let v = and_parts (is_in_window i) (list_all is_in_window is) w in
    ap (λ j. j ∷ map (renamed (backward f)) (map (renamed f) is)) (renamed_back f (backward f) i v.0 (all_come_back f k (named i) n h d b.0))
    ∙ ap (λ js. i ∷ js) (seq_back f k is n h d b.1 v.1)

-- ---- one form ----

same_bit : (a b x : ℕ) → has_item a x ≡ has_item b x → bit_at a x ≡ bit_at b x
same_bit a b x = go (bit_at a x) (bit_at b x) (bit_at-lt a x) (bit_at-lt b x)
  where
    go : (m n : ℕ) → m < 2 → n < 2 → (m == 1) ≡ (n == 1) → m ≡ n
    go zero zero h k e = refl
    go zero (suc zero) h k e = absurd (cc)
    go (suc zero) zero h k e = absurd (cc)
    go (suc zero) (suc zero) h k e = refl
    go (suc (suc m)) n h k e = absurd (omega arith)
    go m (suc (suc n)) h k e = absurd (omega arith)

pub same_words : (a b : ℕ) → ((x : ℕ) → has_item a x ≡ has_item b x) → a ≡ b
same_words a b h = same_from_bits a b (λ x. same_bit a b x (h x))

-- the canonical form of a window of at most four registers, and the mask of items, are determined
pub canonical_once : (window : List Instr) (items : ℕ) (seq other : List Instr) (given too : List (Option Low)) (mask next : ℕ) → list_all is_in_window window ≡ true → length (appearing (map normal_of window)) ≤ 4
    → IsCanonical window items seq given mask → IsCanonical window items other too next → (seq ≡ other) × (mask ≡ next)
canonical_once window items seq other given too mask next w few a b =
    let same : a.registers ≡ b.registers = same_numbers a.registers b.registers (a.order ∙ sym b.order) in
    let k = length a.registers in
    let count : k ≤ 4 = omega (arith, ap length a.order, length-map a.registers (λ (r : Low). r.number)) in
    let distinct : AreDistinct (numbers_of a.registers) = subst AreDistinct (sym a.order) (firsts_distinct [] (flat_map named (map normal_of window)) tt) in
    let under : map (renamed a.registers) other ≡ map normal_of window = ap (λ (f : List Low). map (renamed f) other) same ∙ b.under in
    let below : AreBelow k (flat_map named other) = subst (λ n. AreBelow n (flat_map named other)) (ap length (sym same)) b.below in
    let normal : list_all is_in_window (map normal_of window) ≡ true = windows_normal window w in
    let in_window : list_all is_in_window seq ≡ true = windows_back a.registers k seq (omega arith) a.below (ap (list_all is_in_window) a.under ∙ normal) in
    let in_window_too : list_all is_in_window other ≡ true = windows_back a.registers k other (omega arith) below (ap (list_all is_in_window) under ∙ normal) in (
      sym (seq_back a.registers k seq refl count distinct a.below in_window) ∙ ap (map (renamed (backward a.registers))) (a.under ∙ sym under) ∙ seq_back a.registers k other refl count distinct below in_window_too,
      same_words mask next (λ x. a.masks x ∙ ap (λ (f : List Low). masked items (numbers_of f) x) same ∙ sym (b.masks x)),
    )
