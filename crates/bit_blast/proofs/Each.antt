-- The meaning of circuits that go bit by bit: bitwise gates, the choice between two words, and whether none or some of the bits is true.
use Rattle.std.proofs.Common.{◌≡◌, ℕ, suc, ◌+◌, ◌*◌, ◌<◌, List, [], ◌∷◌, Bool, true, false, not, ◌&&◌, ◌||◌, cond, eqb, length, refl, sym, ap, ◌∙◌, arith, bit_and, bit_or, bit_xor}
use Rattle.std.proofs.lemmas.Nat.{and_block, or_block, xor_block}
use Rattle.std.proofs.lemmas.Bool.{ne_eqb}
use Rattle.std.proofs.lemmas.Bool.Decides.{eqb_tells}
use Rattle.std.specs.Int.{from_bool}
use Rattle.cnf_gates.specs.declared.bit.Bit.{Bit}
use Rattle.cnf_gates.specs.Gates.{Built, and_of, or_of, ite_of, not_of, differ}
use Rattle.cnf_gates.specs.Meaning.{bit_value}
use Rattle.cnf_gates.specs.Growth.{BitBelow, AllBelow, Ready, Gives}
use Rattle.cnf_gates.proofs.Giving.{and_gives, or_gives, xor_gives, ite_gives, later, all_later, BitBelow-not_of}
use Rattle.cnf_gates.proofs.Values.{bit_value-not_of}
use Rattle.cnf_gates.proofs.Tables.{and_true}
use Rattle.bit_blast.specs.declared.circuits.Connective.{Connective}
use Rattle.bit_blast.specs.declared.circuits.Connective.TheVariants.{And, Or, Xor}
use Rattle.bit_blast.specs.Circuits.{connected, each_of, choose_each, none_of, any_of}
use Rattle.bit_blast.specs.Exactness.{number_of}
use Rattle.bit_blast.proofs.Extends.{Extends, and_extends, or_extends, xor_extends, ite_extends}
use Rattle.bit_blast.proofs.Steps.{Goes-none, Goes-gives, Goes-map, Goes-then, BitGives, WordGives}
use Rattle.common_lemmas.proofs.Booleans.{or_false}
use Rattle.thumb_model.proofs.Held.{bool_small}

-- ---- one gate for each pair of bits

-- the result of a kind of gate on two bits, and on two numbers
abbrev pub of_bits : Connective → Bool → Bool → Bool
of_bits And x y = x && y
of_bits Or x y = x || y
of_bits Xor x y = differ x y

abbrev pub of_numbers : Connective → ℕ → ℕ → ℕ
of_numbers And x y = bit_and x y
of_numbers Or x y = bit_or x y
of_numbers Xor x y = bit_xor x y

pub connected_gives : (low : ℕ) (b : Built) (gate : Connective) (x y : Bit) → Ready low b → BitBelow b.variables x → BitBelow b.variables y
    → Gives 1 b (λ c. connected gate c x y) (λ m. of_bits gate (bit_value m x) (bit_value m y))
connected_gives low b And x y k px py = and_gives low b x y k px py
connected_gives low b Or x y k px py = or_gives low b x y k px py
connected_gives low b Xor x y k px py = xor_gives low b x y k px py

connected_extends : (b : Built) (gate : Connective) (x y : Bit) → Extends b (connected gate b x y).0
connected_extends b And x y = and_extends b x y
connected_extends b Or x y = or_extends b x y
connected_extends b Xor x y = xor_extends b x y

of_one_bit : (gate : Connective) (x y : Bool) → of_numbers gate (from_bool x) (from_bool y) ≡ from_bool (of_bits gate x y)
of_one_bit And true true = refl
of_one_bit And true false = refl
of_one_bit And false true = refl
of_one_bit And false false = refl
of_one_bit Or true true = refl
of_one_bit Or true false = refl
of_one_bit Or false true = refl
of_one_bit Or false false = refl
of_one_bit Xor true true = refl
of_one_bit Xor true false = refl
of_one_bit Xor false true = refl
of_one_bit Xor false false = refl

of_blocks : (gate : Connective) (a b r s : ℕ) → r < 2 → s < 2 → of_numbers gate (a * 2 + r) (b * 2 + s) ≡ of_numbers gate a b * 2 + of_numbers gate r s
of_blocks And a b r s h k = and_block 1 a b r s h k
of_blocks Or a b r s h k = or_block 1 a b r s h k
of_blocks Xor a b r s h k = xor_block 1 a b r s h k

of_places : (gate : Connective) (x y : Bool) (a b : ℕ) → from_bool (of_bits gate x y) + 2 * of_numbers gate a b ≡ of_numbers gate (from_bool x + 2 * a) (from_bool y + 2 * b)
of_places gate x y a b =
    let p : from_bool x + 2 * a ≡ a * 2 + from_bool x = omega arith in
    let q : from_bool y + 2 * b ≡ b * 2 + from_bool y = omega arith in
    let turned : from_bool (of_bits gate x y) + 2 * of_numbers gate a b ≡ of_numbers gate a b * 2 + from_bool (of_bits gate x y) = omega arith in
    turned
    ∙ ap (λ v. of_numbers gate a b * 2 + v) (sym (of_one_bit gate x y))
    ∙ sym (of_blocks gate a b (from_bool x) (from_bool y) (bool_small x) (bool_small y))
    ∙ ap (λ v. of_numbers gate v (b * 2 + from_bool y)) (sym p) ∙ ap (λ v. of_numbers gate (from_bool x + 2 * a) v) (sym q)

of_nothing : (gate : Connective) → let z : ℕ = 0 in z ≡ of_numbers gate 0 0
of_nothing And = refl
of_nothing gate = refl

pub each_gives : (low : ℕ) (b : Built) (gate : Connective) (xs ys : List Bit) → length xs ≡ length ys → Ready low b → AllBelow b.variables xs → AllBelow b.variables ys
    → WordGives (length xs) b (λ c. each_of gate c xs ys) (length xs) (λ m. of_numbers gate (number_of m xs) (number_of m ys))
each_gives low b gate [] [] same k px py = record { goes = Goes-none 0 b []; below = tt; length_is = refl; value = λ m _. of_nothing gate }
each_gives low b gate [] (y ∷ ys) same k px py = absurd (omega arith)
each_gives low b gate (x ∷ xs) [] same k px py = absurd (omega arith)
each_gives low b gate (x ∷ xs) (y ∷ ys) same k px py =
    let here = connected gate b x y in
    let hg = connected_gives low b gate x y k px.0 py.0 in
    let tail : length xs ≡ length ys = omega arith in
    let rest = each_of gate here.0 xs ys in
    let rg = each_gives low here.0 gate xs ys tail (hg.grows.ready low k) (all_later 1 b here.0 xs hg.grows px.1) (all_later 1 b here.0 ys hg.grows py.1) in
    record {
      goes = Goes-then (suc (length xs)) 1 (length xs) b (λ c. connected gate c x y) (λ r c. ((each_of gate c xs ys).0, r ∷ (each_of gate c xs ys).1)) (omega arith)
          (Goes-gives 1 b (λ c. connected gate c x y) _ hg (connected_extends b gate x y)) (Goes-map (length xs) here.0 (λ s. here.1 ∷ s) (λ c. each_of gate c xs ys) rg.goes);
      below = (later (length xs) here.0 rest.0 here.1 rg.goes.grows hg.below, rg.below);
      length_is = ap suc rg.length_is;
      value = λ m holds.
          ap (λ v. from_bool v + 2 * number_of m rest.1) (hg.value m (rg.goes.grows.kept m holds))
          ∙ ap (λ v. from_bool (of_bits gate (bit_value m x) (bit_value m y)) + 2 * v) (rg.value m holds)
          ∙ of_places gate (bit_value m x) (bit_value m y) (number_of m xs) (number_of m ys);
    }

-- ---- one choice for each pair of bits

choose_place : (a x y : Bool) (p q : ℕ) → from_bool (cond a y x) + 2 * cond a q p ≡ cond a (from_bool y + 2 * q) (from_bool x + 2 * p)
choose_place true x y p q = refl
choose_place false x y p q = refl

none_chosen : (c : Bool) → let z : ℕ = 0 in z ≡ cond c 0 0
none_chosen true = refl
none_chosen false = refl

pub choose_each_gives : (low : ℕ) (b : Built) (a : Bit) (ys xs : List Bit) → length ys ≡ length xs → Ready low b → BitBelow b.variables a → AllBelow b.variables ys → AllBelow b.variables xs
    → WordGives (length xs) b (λ c. choose_each c a ys xs) (length xs) (λ m. cond (bit_value m a) (number_of m ys) (number_of m xs))
choose_each_gives low b a [] [] same k pa py px = record { goes = Goes-none 0 b []; below = tt; length_is = refl; value = λ m _. none_chosen (bit_value m a) }
choose_each_gives low b a [] (x ∷ xs) same k pa py px = absurd (omega arith)
choose_each_gives low b a (y ∷ ys) [] same k pa py px = absurd (omega arith)
choose_each_gives low b a (y ∷ ys) (x ∷ xs) same k pa py px =
    let here = ite_of b a y x in
    let hg = ite_gives low b a y x k pa py.0 px.0 in
    let tail : length ys ≡ length xs = omega arith in
    let rest = choose_each here.0 a ys xs in
    let rg = choose_each_gives low here.0 a ys xs tail (hg.grows.ready low k) (later 1 b here.0 a hg.grows pa) (all_later 1 b here.0 ys hg.grows py.1) (all_later 1 b here.0 xs hg.grows px.1) in
    record {
      goes = Goes-then (suc (length xs)) 1 (length xs) b (λ c. ite_of c a y x) (λ r c. ((choose_each c a ys xs).0, r ∷ (choose_each c a ys xs).1)) (omega arith)
          (Goes-gives 1 b (λ c. ite_of c a y x) _ hg (ite_extends b a y x)) (Goes-map (length xs) here.0 (λ s. here.1 ∷ s) (λ c. choose_each c a ys xs) rg.goes);
      below = (later (length xs) here.0 rest.0 here.1 rg.goes.grows hg.below, rg.below);
      length_is = ap suc rg.length_is;
      value = λ m holds.
          ap (λ v. from_bool v + 2 * number_of m rest.1) (hg.value m (rg.goes.grows.kept m holds))
          ∙ ap (λ v. from_bool (cond (bit_value m a) (bit_value m y) (bit_value m x)) + 2 * v) (rg.value m holds)
          ∙ choose_place (bit_value m a) (bit_value m x) (bit_value m y) (number_of m xs) (number_of m ys);
    }

-- ---- none, and some

none_value : (z x : Bool) (n : ℕ) → ((z && not x) && eqb n 0) ≡ (z && eqb (from_bool x + 2 * n) 0)
none_value false x n = refl
none_value true true n = sym (ne_eqb (1 + 2 * n) 0 (λ h. omega arith))
none_value true false n = grind (arith, eqb_tells)

pub none_gives : (low : ℕ) (b : Built) (xs : List Bit) (z : Bit) → Ready low b → AllBelow b.variables xs → BitBelow b.variables z
    → BitGives (length xs) b (λ c. none_of c xs z) (λ m. bit_value m z && eqb (number_of m xs) 0)
none_gives low b [] z k px pz = record { goes = Goes-none 0 b z; below = pz; value = λ m _. and_true (bit_value m z) }
none_gives low b (x ∷ xs) z k px pz =
    let here = and_of b z (not_of x) in
    let hg = and_gives low b z (not_of x) k pz (BitBelow-not_of b.variables x px.0) in
    let rg = none_gives low here.0 xs here.1 (hg.grows.ready low k) (all_later 1 b here.0 xs hg.grows px.1) hg.below in
    record {
      goes = Goes-then (suc (length xs)) 1 (length xs) b (λ c. and_of c z (not_of x)) (λ r c. none_of c xs r) (omega arith) (Goes-gives 1 b (λ c. and_of c z (not_of x)) _ hg (and_extends b z (not_of x))) rg.goes;
      below = rg.below;
      value = λ m holds.
          rg.value m holds
          ∙ ap (λ v. v && eqb (number_of m xs) 0) (hg.value m (rg.goes.grows.kept m holds) ∙ ap (λ v. bit_value m z && v) (bit_value-not_of m x))
          ∙ none_value (bit_value m z) (bit_value m x) (number_of m xs);
    }

any_value_place : (z x : Bool) (n : ℕ) → ((z || x) || not (eqb n 0)) ≡ (z || not (eqb (from_bool x + 2 * n) 0))
any_value_place true x n = refl
any_value_place false true n = ap not (sym (ne_eqb (1 + 2 * n) 0 (λ h. omega arith)))
any_value_place false false n = grind (arith, eqb_tells)

pub any_gives : (low : ℕ) (b : Built) (xs : List Bit) (z : Bit) → Ready low b → AllBelow b.variables xs → BitBelow b.variables z
    → BitGives (length xs) b (λ c. any_of c xs z) (λ m. bit_value m z || not (eqb (number_of m xs) 0))
any_gives low b [] z k px pz = record { goes = Goes-none 0 b z; below = pz; value = λ m _. sym (or_false (bit_value m z)) }
any_gives low b (x ∷ xs) z k px pz =
    let here = or_of b z x in
    let hg = or_gives low b z x k pz px.0 in
    let rg = any_gives low here.0 xs here.1 (hg.grows.ready low k) (all_later 1 b here.0 xs hg.grows px.1) hg.below in
    record {
      goes = Goes-then (suc (length xs)) 1 (length xs) b (λ c. or_of c z x) (λ r c. any_of c xs r) (omega arith) (Goes-gives 1 b (λ c. or_of c z x) _ hg (or_extends b z x)) rg.goes;
      below = rg.below;
      value = λ m holds.
          rg.value m holds
          ∙ ap (λ v. v || not (eqb (number_of m xs) 0)) (hg.value m (rg.goes.grows.kept m holds))
          ∙ any_value_place (bit_value m z) (bit_value m x) (number_of m xs);
    }
