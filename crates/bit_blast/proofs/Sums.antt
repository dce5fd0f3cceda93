-- The adder circuit computes AddWithCarry: its bits are those of the sum of the numbers, with the right C and V.
use Rattle.std.proofs.Common.{◌≡◌, ℕ, suc, ◌+◌, ◌*◌, ◌^◌, ◌<◌, List, [], ◌∷◌, Bool, true, false, ◌&&◌, ◌||◌, length, refl, sym, ap, subst, ◌∙◌, arith, ◌%◌, pos, ◌+ℤ◌}
use Rattle.std.proofs.Math.Nat.{pow-suc}
use Rattle.std.proofs.lemmas.Nat.{pow_pos}
use Rattle.std.proofs.lemmas.Int.{ints}
use Rattle.word_bits.specs.Word.{signed, sum_of}
use Rattle.word_bits.proofs.Words.{signed_is, differs, differs-false, differs-true, sum_is}
use Rattle.std.specs.Int.{from_bool}
use Rattle.cnf_gates.specs.declared.bit.Bit.{Bit}
use Rattle.cnf_gates.specs.Gates.{Built, and_of, or_of, xor_of, differ}
use Rattle.cnf_gates.specs.Meaning.{bit_value, GatesHold}
use Rattle.cnf_gates.specs.Growth.{BitBelow, AllBelow, Ready}
use Rattle.cnf_gates.proofs.Giving.{and_gives, or_gives, xor_gives, later, all_later}
use Rattle.bit_blast.specs.Circuits.{Places, Total, place_of, places_of, add_of}
use Rattle.bit_blast.specs.Exactness.{number_of}
use Rattle.bit_blast.proofs.Extends.{and_extends, or_extends, xor_extends}
use Rattle.bit_blast.proofs.Steps.{Goes, Goes-none, Goes-gives, Goes-map, Goes-then}
use Rattle.bit_blast.proofs.Numbers.{number_lt, low_places}
use Rattle.thumb_model.proofs.Held.{bool_small}

-- ---- one place

-- a full adder: the bit and the next carry have the sum of the two bits and the carry
place_adds : (x y c : Bool) → from_bool (differ (differ x y) c) + 2 * from_bool ((x && y) || (differ x y && c)) ≡ from_bool x + from_bool y + from_bool c
place_adds x y c = grind arith

-- the same in terms of the outputs of the five gates of a place
place_from_bits : (x y c p s g h n : Bool) → p ≡ differ x y → s ≡ differ p c → g ≡ (x && y) → h ≡ (p && c) → n ≡ (g || h) → from_bool s + 2 * from_bool n ≡ from_bool x + from_bool y + from_bool c
place_from_bits x y c p s g h n ep es eg eh en = rw (en, eg, eh, es, ep) (place_adds x y c)

record PlaceGives (b : Built) (x y c : Bit) : Type 0 where
  goes : Goes {A = Bit × Bit} 5 b (λ d. place_of d x y c)
  sum : BitBelow (place_of b x y c).0.variables (place_of b x y c).1.0
  carry : BitBelow (place_of b x y c).0.variables (place_of b x y c).1.1
  adds : (m : ℕ → Bool) → GatesHold m (place_of b x y c).0.gates
      → from_bool (bit_value m (place_of b x y c).1.0) + 2 * from_bool (bit_value m (place_of b x y c).1.1) ≡ from_bool (bit_value m x) + from_bool (bit_value m y) + from_bool (bit_value m c)

-- the rest of a place, after its first gates
abbrev behind_h : Bit → Bit → Bit → Built → Built × (Bit × Bit)
behind_h s g h d = let n = or_of d g h in (n.0, (s, n.1))

abbrev behind_g : Bit → Bit → Bit → Bit → Built → Built × (Bit × Bit)
behind_g p c s g d = let h = and_of d p c in behind_h s g h.1 h.0

abbrev behind_s : Bit → Bit → Bit → Bit → Bit → Built → Built × (Bit × Bit)
behind_s x y p c s d = let g = and_of d x y in behind_g p c s g.1 g.0

abbrev behind_p : Bit → Bit → Bit → Bit → Built → Built × (Bit × Bit)
behind_p x y c p d = let s = xor_of d p c in behind_s x y p c s.1 s.0

place_gives : (low : ℕ) (b : Built) (x y c : Bit) → Ready low b → BitBelow b.variables x → BitBelow b.variables y → BitBelow b.variables c → PlaceGives b x y c
place_gives low b x y c k px py pc =
    let p = xor_of b x y in
    let s = xor_of p.0 p.1 c in
    let g = and_of s.0 x y in
    let h = and_of g.0 p.1 c in
    let n = or_of h.0 g.1 h.1 in
    let pg = xor_gives low b x y k px py in
    let kp = pg.grows.ready low k in
    let p_c = later 1 b p.0 c pg.grows pc in
    let sg = xor_gives low p.0 p.1 c kp pg.below p_c in
    let ks = sg.grows.ready low kp in
    let s_x = later 1 p.0 s.0 x sg.grows (later 1 b p.0 x pg.grows px) in
    let s_y = later 1 p.0 s.0 y sg.grows (later 1 b p.0 y pg.grows py) in
    let s_c = later 1 p.0 s.0 c sg.grows p_c in
    let s_p = later 1 p.0 s.0 p.1 sg.grows pg.below in
    let gg = and_gives low s.0 x y ks s_x s_y in
    let kg = gg.grows.ready low ks in
    let hg = and_gives low g.0 p.1 c kg (later 1 s.0 g.0 p.1 gg.grows s_p) (later 1 s.0 g.0 c gg.grows s_c) in
    let kh = hg.grows.ready low kg in
    let ng = or_gives low h.0 g.1 h.1 kh (later 1 g.0 h.0 g.1 hg.grows gg.below) hg.below in
    let goes_n : Goes {A = Bit × Bit} 1 h.0 (behind_h s.1 g.1 h.1) = Goes-map 1 h.0 (λ (q : Bit). (s.1, q)) (λ d. or_of d g.1 h.1) (Goes-gives 1 h.0 (λ d. or_of d g.1 h.1) _ ng (or_extends h.0 g.1 h.1)) in
    let goes_h : Goes {A = Bit × Bit} 2 g.0 (behind_g p.1 c s.1 g.1) = Goes-then 2 1 1 g.0 (λ d. and_of d p.1 c) (behind_h s.1 g.1) (omega arith) (Goes-gives 1 g.0 (λ d. and_of d p.1 c) _ hg (and_extends g.0 p.1 c)) goes_n in
    let goes_g : Goes {A = Bit × Bit} 3 s.0 (behind_s x y p.1 c s.1) = Goes-then 3 1 2 s.0 (λ d. and_of d x y) (behind_g p.1 c s.1) (omega arith) (Goes-gives 1 s.0 (λ d. and_of d x y) _ gg (and_extends s.0 x y)) goes_h in
    let goes_s : Goes {A = Bit × Bit} 4 p.0 (behind_p x y c p.1) = Goes-then 4 1 3 p.0 (λ d. xor_of d p.1 c) (behind_s x y p.1 c) (omega arith) (Goes-gives 1 p.0 (λ d. xor_of d p.1 c) _ sg (xor_extends p.0 p.1 c)) goes_g in
    record {
      goes = Goes-then 5 1 4 b (λ d. xor_of d x y) (behind_p x y c) (omega arith) (Goes-gives 1 b (λ d. xor_of d x y) _ pg (xor_extends b x y)) goes_s;
      sum = later 1 h.0 n.0 s.1 ng.grows (later 1 g.0 h.0 s.1 hg.grows (later 1 s.0 g.0 s.1 gg.grows sg.below));
      carry = ng.below;
      adds = λ m holds.
          let in_h = ng.grows.kept m holds in
          let in_g = hg.grows.kept m in_h in
          let in_s = gg.grows.kept m in_g in
          let in_p = sg.grows.kept m in_s in
          place_from_bits (bit_value m x) (bit_value m y) (bit_value m c) (bit_value m p.1) (bit_value m s.1) (bit_value m g.1) (bit_value m h.1) (bit_value m n.1)
          (pg.value m in_p) (sg.value m in_s) (gg.value m in_g) (hg.value m in_h) (ng.value m holds);
    }

-- ---- all places

record PlacesGive (b : Built) (xs ys : List Bit) (c before : Bit) : Type 0 where
  goes : Goes (5 * length xs) b (λ d. places_of d xs ys c before)
  value : AllBelow (places_of b xs ys c before).0.variables (places_of b xs ys c before).1.value
  carry : BitBelow (places_of b xs ys c before).0.variables (places_of b xs ys c before).1.carry
  before_of : BitBelow (places_of b xs ys c before).0.variables (places_of b xs ys c before).1.before
  wide : length (places_of b xs ys c before).1.value ≡ length xs
  sums : (m : ℕ → Bool) → GatesHold m (places_of b xs ys c before).0.gates
      → number_of m (places_of b xs ys c before).1.value + 2 ^ length xs * from_bool (bit_value m (places_of b xs ys c before).1.carry) ≡ number_of m xs + number_of m ys + from_bool (bit_value m c)

next_place : (k a b d x y s t e f : ℕ) → s + 2 * e ≡ x + y + d → t + k * f ≡ a + b + e → (s + 2 * t) + (k * 2) * f ≡ (x + 2 * a) + (y + 2 * b) + d
next_place k a b d x y s t e f h g = omega (arith, h, g)

abbrev place_before : Bit → Places → Places
place_before x p = record { value = x ∷ p.value; carry = p.carry; before = p.before }

abbrev behind_place : List Bit → List Bit → Bit → Bit × Bit → Built → Built × Places
behind_place xs ys c r d = ((places_of d xs ys r.1 c).0, place_before r.0 (places_of d xs ys r.1 c).1)

places_give : (low : ℕ) (b : Built) (xs ys : List Bit) (c before : Bit) → length xs ≡ length ys → Ready low b → AllBelow b.variables xs → AllBelow b.variables ys → BitBelow b.variables c → BitBelow b.variables before
    → PlacesGive b xs ys c before
places_give low b [] [] c before same k px py pc pb =
    record { goes = Goes-none 0 b (record { value = []; carry = c; before = before }); value = tt; carry = pc; before_of = pb; wide = refl; sums = λ _ _. omega arith }
places_give low b [] (y ∷ ys) c before same k px py pc pb = absurd (omega arith)
places_give low b (x ∷ xs) [] c before same k px py pc pb = absurd (omega arith)
places_give low b (x ∷ xs) (y ∷ ys) c before same k px py pc pb =
    let here = place_of b x y c in
    let hg = place_gives low b x y c k px.0 py.0 pc in
    let tail : length xs ≡ length ys = omega arith in
    let rest = places_of here.0 xs ys here.1.1 c in
    let rg = places_give low here.0 xs ys here.1.1 c tail (hg.goes.grows.ready low k) (all_later 5 b here.0 xs hg.goes.grows px.1) (all_later 5 b here.0 ys hg.goes.grows py.1) hg.carry (later 5 b here.0 c hg.goes.grows pc) in
    record {
      goes = Goes-then (5 * suc (length xs)) 5 (5 * length xs) b (λ d. place_of d x y c) (behind_place xs ys c) (omega arith) hg.goes
          (Goes-map (5 * length xs) here.0 (place_before here.1.0) (λ d. places_of d xs ys here.1.1 c) rg.goes);
      value = (later (5 * length xs) here.0 rest.0 here.1.0 rg.goes.grows hg.sum, rg.value);
      carry = rg.carry;
      before_of = rg.before_of;
      wide = ap suc rg.wide;
      sums = λ m holds.
          rw (pow-suc 2 (length xs))
          (next_place (2 ^ length xs) (number_of m xs) (number_of m ys) (from_bool (bit_value m c)) (from_bool (bit_value m x)) (from_bool (bit_value m y))
          (from_bool (bit_value m here.1.0)) (number_of m rest.1.value) (from_bool (bit_value m here.1.1)) (from_bool (bit_value m rest.1.carry)) (hg.adds m (rg.goes.grows.kept m holds)) (rg.sums m holds));
    }

-- ---- the carry into the last place

next_before : (p a b d x y s t e f : ℕ) → x < 2 → y < 2 → s < 2 → 0 < p → s + 2 * e ≡ x + y + d → (a % p) + (b % p) + e ≡ t % p + p * f
    → ((x + 2 * a) % (p * 2)) + ((y + 2 * b) % (p * 2)) + d ≡ (s + 2 * t) % (p * 2) + (p * 2) * f
next_before p a b d x y s t e f hx hy hs hp h g = rw (low_places x a p hx hp, low_places y b p hy hp, low_places s t p hs hp) (omega (arith, h, g))

sum_before : (low : ℕ) (b : Built) (x : Bit) (xs : List Bit) (y : Bit) (ys : List Bit) (c before : Bit) → length xs ≡ length ys → Ready low b → AllBelow b.variables (x ∷ xs) → AllBelow b.variables (y ∷ ys) → BitBelow b.variables c → BitBelow b.variables before
    → (m : ℕ → Bool) → GatesHold m (places_of b (x ∷ xs) (y ∷ ys) c before).0.gates
    → number_of m (x ∷ xs) % 2 ^ length xs + number_of m (y ∷ ys) % 2 ^ length xs + from_bool (bit_value m c)
    ≡ number_of m (places_of b (x ∷ xs) (y ∷ ys) c before).1.value % 2 ^ length xs + 2 ^ length xs * from_bool (bit_value m (places_of b (x ∷ xs) (y ∷ ys) c before).1.before)
sum_before low b x [] y [] c before same k px py pc pb m holds = omega arith
sum_before low b x [] y (w ∷ ys) c before same k px py pc pb m holds = absurd (omega arith)
sum_before low b x (v ∷ xs) y [] c before same k px py pc pb m holds = absurd (omega arith)
sum_before low b x (v ∷ xs) y (w ∷ ys) c before same k px py pc pb m holds =
    let here = place_of b x y c in
    let hg = place_gives low b x y c k px.0 py.0 pc in
    let tail : length xs ≡ length ys = omega arith in
    let rest = places_of here.0 (v ∷ xs) (w ∷ ys) here.1.1 c in
    let pxs = all_later 5 b here.0 (v ∷ xs) hg.goes.grows px.1 in
    let pys = all_later 5 b here.0 (w ∷ ys) hg.goes.grows py.1 in
    let p_c = later 5 b here.0 c hg.goes.grows pc in
    let rg = places_give low here.0 (v ∷ xs) (w ∷ ys) here.1.1 c same (hg.goes.grows.ready low k) pxs pys hg.carry p_c in
    let g = sum_before low here.0 v xs w ys here.1.1 c tail (hg.goes.grows.ready low k) pxs pys hg.carry p_c m holds in
    rw (pow-suc 2 (length xs))
    (next_before (2 ^ length xs) (number_of m (v ∷ xs)) (number_of m (w ∷ ys)) (from_bool (bit_value m c)) (from_bool (bit_value m x)) (from_bool (bit_value m y))
    (from_bool (bit_value m here.1.0)) (number_of m rest.1.value) (from_bool (bit_value m here.1.1)) (from_bool (bit_value m rest.1.before))
    (bool_small (bit_value m x)) (bool_small (bit_value m y)) (bool_small (bit_value m here.1.0)) (pow_pos (length xs)) (hg.adds m (rg.goes.grows.kept m holds)) g)

before_32 : (low : ℕ) (b : Built) (xs ys : List Bit) (c before : Bit) → length xs ≡ 32 → length ys ≡ 32 → Ready low b → AllBelow b.variables xs → AllBelow b.variables ys → BitBelow b.variables c → BitBelow b.variables before
    → (m : ℕ → Bool) → GatesHold m (places_of b xs ys c before).0.gates
    → number_of m xs % 2 ^ 31 + number_of m ys % 2 ^ 31 + from_bool (bit_value m c)
    ≡ number_of m (places_of b xs ys c before).1.value % 2 ^ 31 + 2 ^ 31 * from_bool (bit_value m (places_of b xs ys c before).1.before)
before_32 low b [] ys c before wx wy k px py pc pb m holds = absurd (omega arith)
before_32 low b (x ∷ xs) [] c before wx wy k px py pc pb m holds = absurd (omega arith)
before_32 low b (x ∷ xs) (y ∷ ys) c before wx wy k px py pc pb m holds =
    let e : length xs ≡ 31 = omega arith in
    let same : length xs ≡ length ys = omega arith in
    subst (λ n. number_of m (x ∷ xs) % 2 ^ n + number_of m (y ∷ ys) % 2 ^ n + from_bool (bit_value m c) ≡ number_of m (places_of b (x ∷ xs) (y ∷ ys) c before).1.value % 2 ^ n + 2 ^ n * from_bool (bit_value m (places_of b (x ∷ xs) (y ∷ ys) c before).1.before))
    e (sum_before low b x xs y ys c before same k px py pc pb m holds)

-- ---- a sum of 32 places is AddWithCarry

overflow_at : (x y s c before carry : ℕ) → x < 2 ^ 32 → y < 2 ^ 32 → s < 2 ^ 32 → c < 2 → before < 2 → carry < 2 → s + 2 ^ 32 * carry ≡ x + y + c
    → x % 2 ^ 31 + y % 2 ^ 31 + c ≡ s % 2 ^ 31 + 2 ^ 31 * before → before ≡ carry → signed s ≡ signed x +ℤ signed y +ℤ pos c
overflow_at x y s c before carry hx hy hs hc hb hk e f same = omega (arith, ints, signed_is x hx, signed_is y hy, signed_is s hs)

no_overflow_at : (x y s c before carry : ℕ) → x < 2 ^ 32 → y < 2 ^ 32 → s < 2 ^ 32 → c < 2 → before < 2 → carry < 2 → s + 2 ^ 32 * carry ≡ x + y + c
    → x % 2 ^ 31 + y % 2 ^ 31 + c ≡ s % 2 ^ 31 + 2 ^ 31 * before → (before ≡ carry → ⊥) → signed s ≡ signed x +ℤ signed y +ℤ pos c → ⊥
no_overflow_at x y s c before carry hx hy hs hc hb hk e f same same_sum = omega (arith, ints, signed_is x hx, signed_is y hy, signed_is s hs)

overflow_from_carries : (x y s c : ℕ) (before carry : Bool) → x < 2 ^ 32 → y < 2 ^ 32 → s < 2 ^ 32 → c < 2 → s + 2 ^ 32 * from_bool carry ≡ x + y + c
    → x % 2 ^ 31 + y % 2 ^ 31 + c ≡ s % 2 ^ 31 + 2 ^ 31 * from_bool before → differ before carry ≡ differs s x y c
overflow_from_carries x y s c true true hx hy hs hc e f = differs-false s x y c (overflow_at x y s c 1 1 hx hy hs hc (omega arith) (omega arith) e f refl)
overflow_from_carries x y s c false false hx hy hs hc e f = differs-false s x y c (overflow_at x y s c 0 0 hx hy hs hc (omega arith) (omega arith) e f refl)
overflow_from_carries x y s c true false hx hy hs hc e f = differs-true s x y c (no_overflow_at x y s c 1 0 hx hy hs hc (omega arith) (omega arith) e f (λ h. omega arith))
overflow_from_carries x y s c false true hx hy hs hc e f = differs-true s x y c (no_overflow_at x y s c 0 1 hx hy hs hc (omega arith) (omega arith) e f (λ h. omega arith))

sum_meets : (x y s : ℕ) (c before carry : Bool) → x < 2 ^ 32 → y < 2 ^ 32 → s < 2 ^ 32 → s + 2 ^ 32 * from_bool carry ≡ x + y + from_bool c
    → x % 2 ^ 31 + y % 2 ^ 31 + from_bool c ≡ s % 2 ^ 31 + 2 ^ 31 * from_bool before
    → (s ≡ (sum_of x y c).value) × (carry ≡ (sum_of x y c).c) × (differ before carry ≡ (sum_of x y c).v)
sum_meets x y s c before carry hx hy hs e f =
    let parts = sum_is x y s c carry hx hy hs (omega (arith, e)) in
    let overflow : differ before carry ≡ differs s x y (from_bool c) = overflow_from_carries x y s (from_bool c) before carry hx hy hs (bool_small c) e f in
    (parts.0, parts.1, overflow ∙ ap (λ n. differs n x y (from_bool c)) parts.0)

-- the properties of the sum of two words
pub record AddGives (b : Built) (xs ys : List Bit) (c : Bit) : Type 0 where
  pub goes : Goes 161 b (λ d. add_of d xs ys c)
  pub below : AllBelow (add_of b xs ys c).0.variables (add_of b xs ys c).1.value
  pub carry : BitBelow (add_of b xs ys c).0.variables (add_of b xs ys c).1.carry
  pub overflow : BitBelow (add_of b xs ys c).0.variables (add_of b xs ys c).1.overflow
  pub wide : length (add_of b xs ys c).1.value ≡ 32
  pub value : (m : ℕ → Bool) → GatesHold m (add_of b xs ys c).0.gates → number_of m (add_of b xs ys c).1.value ≡ (sum_of (number_of m xs) (number_of m ys) (bit_value m c)).value
  pub carries : (m : ℕ → Bool) → GatesHold m (add_of b xs ys c).0.gates → bit_value m (add_of b xs ys c).1.carry ≡ (sum_of (number_of m xs) (number_of m ys) (bit_value m c)).c
  pub overflows : (m : ℕ → Bool) → GatesHold m (add_of b xs ys c).0.gates → bit_value m (add_of b xs ys c).1.overflow ≡ (sum_of (number_of m xs) (number_of m ys) (bit_value m c)).v

abbrev total_of : Places → Bit → Total
total_of p v = record { value = p.value; carry = p.carry; overflow = v }

abbrev behind_places : Places → Built → Built × Total
behind_places p d = ((xor_of d p.before p.carry).0, total_of p (xor_of d p.before p.carry).1)

pub add_gives : (low : ℕ) (b : Built) (xs ys : List Bit) (c : Bit) → length xs ≡ 32 → length ys ≡ 32 → Ready low b → AllBelow b.variables xs → AllBelow b.variables ys → BitBelow b.variables c → AddGives b xs ys c
add_gives low b xs ys c wx wy k px py pc =
    let p = places_of b xs ys c c in
    let pg = places_give low b xs ys c c (wx ∙ sym wy) k px py pc pc in
    let wide : length p.1.value ≡ 32 = pg.wide ∙ wx in
    let v = xor_of p.0 p.1.before p.1.carry in
    let vg = xor_gives low p.0 p.1.before p.1.carry (pg.goes.grows.ready low k) pg.before_of pg.carry in
    let meets : (m : ℕ → Bool) → GatesHold m p.0.gates → (number_of m p.1.value ≡ (sum_of (number_of m xs) (number_of m ys) (bit_value m c)).value) × (bit_value m p.1.carry ≡ (sum_of (number_of m xs) (number_of m ys) (bit_value m c)).c) × (differ (bit_value m p.1.before) (bit_value m p.1.carry) ≡ (sum_of (number_of m xs) (number_of m ys) (bit_value m c)).v) = λ m holds.
    sum_meets (number_of m xs) (number_of m ys) (number_of m p.1.value) (bit_value m c) (bit_value m p.1.before) (bit_value m p.1.carry) (number_lt m xs wx) (number_lt m ys wy) (number_lt m p.1.value wide)
    (subst (λ n. number_of m p.1.value + 2 ^ n * from_bool (bit_value m p.1.carry) ≡ number_of m xs + number_of m ys + from_bool (bit_value m c)) wx (pg.sums m holds))
    (before_32 low b xs ys c c wx wy k px py pc pc m holds) in
    record {
      goes = Goes-then 161 (5 * length xs) 1 b (λ d. places_of d xs ys c c) behind_places (omega arith) pg.goes
          (Goes-map 1 p.0 (total_of p.1) (λ d. xor_of d p.1.before p.1.carry) (Goes-gives 1 p.0 (λ d. xor_of d p.1.before p.1.carry) _ vg (xor_extends p.0 p.1.before p.1.carry)));
      below = all_later 1 p.0 v.0 p.1.value vg.grows pg.value;
      carry = later 1 p.0 v.0 p.1.carry vg.grows pg.carry;
      overflow = vg.below;
      wide = wide;
      value = λ m holds. (meets m (vg.grows.kept m holds)).0;
      carries = λ m holds. (meets m (vg.grows.kept m holds)).1;
      overflows = λ m holds. vg.value m holds ∙ (meets m (vg.grows.kept m holds)).2;
    }
