-- The circuits of shifts and rotations by a register compute the manual's functions.
use Rattle.std.proofs.Common.{◌≡◌, ℕ, suc, ◌+◌, ◌-◌, ◌*◌, ◌^◌, ◌/◌, ◌%◌, ◌<◌, ◌≤◌, List, [], ◌∷◌, Bool, true, false, not, ◌||◌, cond, eqb, length, refl, sym, ap, ◌∙◌, arith, take, length-take, ⊎_elim}
use Rattle.std.proofs.lemmas.Nat.{pow_pos, pow-add}
use Rattle.std.proofs.lemmas.Bool.{ne_eqb, eq-eqb, cases_eq}
use Rattle.std.specs.Int.{from_bool, bit_at}
use Rattle.word_bits.specs.declared.Shift.{Shift}
use Rattle.word_bits.specs.declared.Shift.TheVariants.{Lsl, Lsr, Asr, Ror}
use Rattle.word_bits.specs.Word.{shifted, last_out, shift_of}
use Rattle.word_bits.proofs.Words.{pow_le, lsl_far, lsr_far, asr_far}
use Rattle.word_bits.proofs.Successive.{shift_of-shift_of, shift_of-some, ror_value as rotated_twice, rotated-zero as not_rotated}
use Rattle.cnf_gates.specs.declared.bit.Bit.{Bit}
use Rattle.cnf_gates.specs.declared.bit.Bit.TheVariants.{Constant}
use Rattle.cnf_gates.specs.Gates.{Built, or_of, ite_of}
use Rattle.cnf_gates.specs.Meaning.{bit_value, GatesHold}
use Rattle.cnf_gates.specs.Growth.{BitBelow, AllBelow, Ready}
use Rattle.cnf_gates.proofs.Giving.{or_gives, ite_gives, later, all_later}
use Rattle.bit_blast.specs.Words.{bit_of, filled, fill, moved, moved_out}
use Rattle.bit_blast.specs.Circuits.{choose_each, any_of, Shifted, stage_of, stages_from, shift_by, rotations_from, rotate_by}
use Rattle.bit_blast.specs.Exactness.{number_of}
use Rattle.bit_blast.proofs.Extends.{or_extends, ite_extends}
use Rattle.bit_blast.proofs.Steps.{Goes, Goes-none, Goes-gives, Goes-map, Goes-then, WordGives}
use Rattle.bit_blast.proofs.Numbers.{number_lt, number_at, number_of-take, AllBelow-take, bit_below}
use Rattle.bit_blast.proofs.Each.{choose_each_gives, any_gives}
use Rattle.bit_blast.proofs.Moves.{IsStraight, length-filled, number_of-filled, AllBelow-filled, length-moved, AllBelow-moved, below-moved_out, below-fill, moved_is, moved-ror, out_is, one_test}

-- ---- one stage

-- the properties of a step that gives a shifted word and its carry
pub record ShiftedGives (n : ℕ) (b : Built) (step : Built → Built × Shifted) (f : (ℕ → Bool) → ℕ × Bool) : Type 0 where
  pub goes : Goes n b step
  pub below : AllBelow (step b).0.variables (step b).1.value
  pub carry : BitBelow (step b).0.variables (step b).1.carry
  pub wide : length (step b).1.value ≡ 32
  pub value : (m : ℕ → Bool) → GatesHold m (step b).0.gates → (number_of m (step b).1.value, bit_value m (step b).1.carry) ≡ f m

choice_of_pairs : (a : Bool) (x v y : ℕ) (c out w : Bool) → y ≡ cond a v x → w ≡ cond a out c → ◌≡◌ {A = ℕ × Bool} (y, w) (cond a (v, out) (x, c))
choice_of_pairs true x v y c out w e f = ap (λ p. (p, w)) e ∙ ap (λ q. (v, q)) f
choice_of_pairs false x v y c out w e f = ap (λ p. (p, w)) e ∙ ap (λ q. (x, q)) f

abbrev shifted_to : List Bit → Bit → Shifted
shifted_to value carry = record { value = value; carry = carry }

abbrev behind_choice : Bit → Bit → Bit → List Bit → Built → Built × Shifted
behind_choice a out carry value d = ((ite_of d a out carry).0, shifted_to value (ite_of d a out carry).1)

stage_gives : (low : ℕ) (b : Built) (a : Bit) (bits : List Bit) (out : Bit) (s : Shifted) → length bits ≡ 32 → length s.value ≡ 32 → Ready low b → BitBelow b.variables a → AllBelow b.variables bits → BitBelow b.variables out → AllBelow b.variables s.value → BitBelow b.variables s.carry
    → ShiftedGives 33 b (λ d. stage_of d a bits out s) (λ m. cond (bit_value m a) (number_of m bits, bit_value m out) (number_of m s.value, bit_value m s.carry))
stage_gives low b a bits out s wb ws k pa pb po ps pc =
    let r = choose_each b a bits s.value in
    let rg = choose_each_gives low b a bits s.value (wb ∙ sym ws) k pa pb ps in
    let c = ite_of r.0 a out s.carry in
    let g = rg.goes.grows in
    let cg = ite_gives low r.0 a out s.carry (g.ready low k) (later (length s.value) b r.0 a g pa) (later (length s.value) b r.0 out g po) (later (length s.value) b r.0 s.carry g pc) in
    record {
      goes = Goes-then 33 (length s.value) 1 b (λ d. choose_each d a bits s.value) (behind_choice a out s.carry) (omega arith) rg.goes
          (Goes-map 1 r.0 (shifted_to r.1) (λ d. ite_of d a out s.carry) (Goes-gives 1 r.0 (λ d. ite_of d a out s.carry) _ cg (ite_extends r.0 a out s.carry)));
      below = all_later 1 r.0 c.0 r.1 cg.grows rg.below;
      carry = cg.below;
      wide = rg.length_is ∙ ws;
      value = λ m holds.
          choice_of_pairs (bit_value m a) (number_of m s.value) (number_of m bits) (number_of m r.1) (bit_value m s.carry) (bit_value m out) (bit_value m c.1)
          (rg.value m (cg.grows.kept m holds)) (cg.value m holds);
    }

-- ---- stage after stage

-- a shift by n where a is true, and else none, is a shift by a times n
choice_of_shift : (kind : Shift) (a : Bool) (x n : ℕ) (c : Bool) → 0 < n → cond a (shifted kind x n, eqb (last_out kind x n) 1) (x, c) ≡ shift_of kind x (from_bool a * n) c
choice_of_shift kind true x n c h = sym (shift_of-some kind x n c h) ∙ ap (λ k. shift_of kind x k c) (let e : n ≡ 1 * n = omega arith in e)
choice_of_shift kind false x n c h = ap (λ k. shift_of kind x k c) (let e : 0 ≡ 0 * n = omega arith in e)

shift_next : (kind : Shift) (x : ℕ) (c : Bool) (a : Bool) (j rest : ℕ) (y : ℕ) (w : Bool) → x < 2 ^ 32 → (y, w) ≡ shift_of kind x (from_bool a * 2 ^ j) c
    → shift_of kind y (2 ^ (j + 1) * rest) w ≡ shift_of kind x (2 ^ j * (from_bool a + 2 * rest)) c
shift_next kind x c a j rest y w h e =
    ap (λ p. shift_of kind p.0 (2 ^ (j + 1) * rest) p.1) e
    ∙ shift_of-shift_of kind x (from_bool a * 2 ^ j) (2 ^ (j + 1) * rest) c h
    ∙ ap (λ k. shift_of kind x k c) (let p : 2 ^ (j + 1) ≡ 2 ^ j * 2 = pow-add 2 j 1 in let q : from_bool a * 2 ^ j + 2 ^ (j + 1) * rest ≡ 2 ^ j * (from_bool a + 2 * rest) = rw p (omega arith) in q)

abbrev behind_stage : Shift → ℕ → List Bit → Shifted → Built → Built × Shifted
behind_stage kind j rest s d = stages_from kind d (j + 1) rest s

stages_give : (low : ℕ) (b : Built) (kind : Shift) (j : ℕ) (amount : List Bit) (s : Shifted) → IsStraight kind → j + length amount ≤ 6 → length s.value ≡ 32 → Ready low b → AllBelow b.variables amount → AllBelow b.variables s.value → BitBelow b.variables s.carry
    → ShiftedGives (33 * length amount) b (λ d. stages_from kind d j amount s) (λ m. shift_of kind (number_of m s.value) (2 ^ j * number_of m amount) (bit_value m s.carry))
stages_give low b kind j [] s straight few ws k pa ps pc = record {
  goes = Goes-none 0 b s;
  below = ps;
  carry = pc;
  wide = ws;
  value = λ m _. ap (λ n. shift_of kind (number_of m s.value) n (bit_value m s.carry)) (let e : 0 ≡ 2 ^ j * 0 = omega arith in e);
}
stages_give low b kind j (a ∷ rest) s straight few ws k pa ps pc =
    let n : ℕ = 2 ^ j in
    let some : 0 < n = pow_pos j in
    let small : n ≤ 2 ^ 5 = pow_le j 5 (omega arith) in
    let within : n ≤ 32 = omega arith in
    let bits = moved kind n s.value in
    let out = moved_out kind n s.value in
    let r = stage_of b a bits out s in
    let rg = stage_gives low b a bits out s (length-moved kind n s.value within ws) ws k pa.0 (AllBelow-moved b.variables kind n s.value ps) (below-moved_out b.variables kind n s.value ps) ps pc in
    let g = rg.goes.grows in
    let t = stages_from kind r.0 (j + 1) rest r.1 in
    let tg = stages_give low r.0 kind (j + 1) rest r.1 straight (omega arith) rg.wide (g.ready low k) (all_later 33 b r.0 rest g pa.1) rg.below rg.carry in
    record {
      goes = Goes-then (33 * suc (length rest)) 33 (33 * length rest) b (λ d. stage_of d a bits out s) (behind_stage kind j rest) (omega arith) rg.goes tg.goes;
      below = tg.below;
      carry = tg.carry;
      wide = tg.wide;
      value = λ m holds.
          let x : ℕ = number_of m s.value in
          let c : Bool = bit_value m s.carry in
          let here : (number_of m r.1.value, bit_value m r.1.carry) ≡ shift_of kind x (from_bool (bit_value m a) * n) c =
          rg.value m (tg.goes.grows.kept m holds)
          ∙ ap (λ v. cond (bit_value m a) (v, bit_value m out) (x, c)) (moved_is m kind s.value n straight within ws)
          ∙ ap (λ o. cond (bit_value m a) (shifted kind x n, o) (x, c)) (one_test (bit_value m out) (last_out kind x n) (out_is m kind s.value n straight some within ws))
          ∙ choice_of_shift kind (bit_value m a) x n c some in
          tg.value m holds ∙ shift_next kind x c (bit_value m a) j (number_of m rest) (number_of m r.1.value) (bit_value m r.1.carry) (number_lt m s.value ws) here;
    }

-- ---- all bits moved out

one_all : (p : ℕ) → 0 * p ≡ 0
one_all p = omega arith

far_value : (m : ℕ → Bool) (kind : Shift) (xs : List Bit) (n : ℕ) → IsStraight kind → 32 < n → length xs ≡ 32
    → (number_of m (filled (fill kind xs)) ≡ shifted kind (number_of m xs) n) × (from_bool (bit_value m (fill kind xs)) ≡ last_out kind (number_of m xs) n)
far_value m Lsl xs n s h wide =
    let far = lsl_far (number_of m xs) n h in
    (number_of-filled m (Constant false) ∙ one_all (2 ^ 32 - 1) ∙ sym far.0, sym far.1)
far_value m Lsr xs n s h wide =
    let far = lsr_far (number_of m xs) n (number_lt m xs wide) h in
    (number_of-filled m (Constant false) ∙ one_all (2 ^ 32 - 1) ∙ sym far.0, sym far.1)
far_value m Asr xs n s h wide =
    let far = asr_far (number_of m xs) n (number_lt m xs wide) (omega arith) in
    let top = number_at m xs 31 in
    (number_of-filled m (bit_of xs 31) ∙ ap (λ t. t * (2 ^ 32 - 1)) top ∙ sym far.0, top ∙ sym far.1)
far_value m Ror xs n s h wide = absurd s

far_pair : (m : ℕ → Bool) (kind : Shift) (xs : List Bit) (n : ℕ) (c : Bool) → IsStraight kind → 32 < n → length xs ≡ 32 → (number_of m (filled (fill kind xs)), bit_value m (fill kind xs)) ≡ shift_of kind (number_of m xs) n c
far_pair m kind xs n c s h wide =
    let far = far_value m kind xs n s h wide in
    ap (λ v. (v, bit_value m (fill kind xs))) far.0 ∙ ap (λ o. (shifted kind (number_of m xs) n, o)) (one_test (bit_value m (fill kind xs)) (last_out kind (number_of m xs) n) far.1) ∙ sym (shift_of-some kind (number_of m xs) n c (omega arith))

-- bits 6 and 7 together
far_shift : (m : ℕ → Bool) (kind : Shift) (xs : List Bit) (p q : Bool) (c : Bool) → IsStraight kind → length xs ≡ 32
    → cond (p || q) (number_of m (filled (fill kind xs)), bit_value m (fill kind xs)) (number_of m xs, c) ≡ shift_of kind (number_of m xs) (64 * from_bool p + 128 * from_bool q) c
far_shift m kind xs false false c s wide = refl
far_shift m kind xs true false c s wide = far_pair m kind xs 64 c s (omega arith) wide
far_shift m kind xs false true c s wide = far_pair m kind xs 128 c s (omega arith) wide
far_shift m kind xs true true c s wide = far_pair m kind xs 192 c s (omega arith) wide

-- the low byte of an amount: bits 0 to 5, and bits 6 and 7
low_byte : (y : ℕ) → 2 ^ 0 * (y % 2 ^ 6) + (64 * bit_at y 6 + 128 * bit_at y 7) ≡ y % 256
low_byte y = omega arith

shift_all : (kind : Shift) (x k n : ℕ) (c : Bool) (y : ℕ) (w : Bool) → x < 2 ^ 32 → (y, w) ≡ shift_of kind x k c → shift_of kind y n w ≡ shift_of kind x (k + n) c
shift_all kind x k n c y w h e = ap (λ p. shift_of kind p.0 n p.1) e ∙ shift_of-shift_of kind x k n c h

-- the last stage
abbrev last_stage : Shift → Shifted → Bit → Built → Built × Shifted
last_stage kind s a d = stage_of d a (filled (fill kind s.value)) (fill kind s.value) s

abbrev behind_stages : Shift → List Bit → Shifted → Built → Built × Shifted
behind_stages kind amount s d = let far = or_of d (bit_of amount 6) (bit_of amount 7) in last_stage kind s far.1 far.0

pub shift_by_gives : (low : ℕ) (b : Built) (kind : Shift) (amount : List Bit) (s : Shifted) → IsStraight kind → length amount ≡ 32 → length s.value ≡ 32 → Ready low b → AllBelow b.variables amount → AllBelow b.variables s.value → BitBelow b.variables s.carry
    → ShiftedGives 232 b (λ d. shift_by kind d amount s) (λ m. shift_of kind (number_of m s.value) (number_of m amount % 256) (bit_value m s.carry))
shift_by_gives low b kind amount s straight wa ws k pa ps pc =
    let six = take 6 amount in
    let count : length six ≡ 6 = omega (arith, length-take 6 amount) in
    let near = stages_from kind b 0 six s in
    let ng = stages_give low b kind 0 six s straight (omega arith) ws k (AllBelow-take b.variables 6 amount pa) ps pc in
    let g = ng.goes.grows in
    let kn = g.ready low k in
    let na = all_later (33 * length six) b near.0 amount g pa in
    let a6 = bit_of amount 6 in
    let a7 = bit_of amount 7 in
    let far = or_of near.0 a6 a7 in
    let fg = or_gives low near.0 a6 a7 kn (bit_below near.0.variables amount 6 na) (bit_below near.0.variables amount 7 na) in
    let kf = fg.grows.ready low kn in
    let rest = fill kind near.1.value in
    let nb = all_later 1 near.0 far.0 near.1.value fg.grows ng.below in
    let pr = below-fill far.0.variables kind near.1.value nb in
    let lg = stage_gives low far.0 far.1 (filled rest) rest near.1 (length-filled rest) ng.wide kf fg.below (AllBelow-filled far.0.variables rest pr) pr nb (later 1 near.0 far.0 near.1.carry fg.grows ng.carry) in
    record {
      goes = Goes-then 232 (33 * length six) 34 b (λ d. stages_from kind d 0 six s) (behind_stages kind amount) (omega arith) ng.goes
          (Goes-then 34 1 33 near.0 (λ d. or_of d a6 a7) (last_stage kind near.1) (omega arith) (Goes-gives 1 near.0 (λ d. or_of d a6 a7) _ fg (or_extends near.0 a6 a7)) lg.goes);
      below = lg.below;
      carry = lg.carry;
      wide = lg.wide;
      value = λ m holds.
          let in_f = lg.goes.grows.kept m holds in
          let in_n = fg.grows.kept m in_f in
          let x : ℕ = number_of m s.value in
          let y : ℕ = number_of m amount in
          let p : Bool = bit_value m a6 in
          let q : Bool = bit_value m a7 in
          lg.value m holds
          ∙ ap (λ t. cond t (number_of m (filled rest), bit_value m rest) (number_of m near.1.value, bit_value m near.1.carry)) (fg.value m in_f)
          ∙ far_shift m kind near.1.value p q (bit_value m near.1.carry) straight ng.wide
          ∙ shift_all kind x (2 ^ 0 * number_of m six) (64 * from_bool p + 128 * from_bool q) (bit_value m s.carry) (number_of m near.1.value) (bit_value m near.1.carry) (number_lt m s.value ws) (ng.value m in_n)
          ∙ ap (λ n. shift_of kind x n (bit_value m s.carry))
          (ap (λ v. 2 ^ 0 * v + (64 * from_bool p + 128 * from_bool q)) (number_of-take m amount 6)
          ∙ ap (λ v. 2 ^ 0 * (y % 2 ^ 6) + (64 * v + 128 * from_bool q)) (number_at m amount 6)
          ∙ ap (λ v. 2 ^ 0 * (y % 2 ^ 6) + (64 * bit_at y 6 + 128 * v)) (number_at m amount 7)
          ∙ low_byte y);
    }

-- ---- rotations

choice_of_rotation : (a : Bool) (x n : ℕ) → x < 2 ^ 32 → cond a (shifted Ror x n) x ≡ shifted Ror x (from_bool a * n)
choice_of_rotation true x n h = ap (shifted Ror x) (let e : n ≡ 1 * n = omega arith in e)
choice_of_rotation false x n h = sym (ap (shifted Ror x) (let e : 0 * n ≡ 0 = omega arith in e) ∙ not_rotated x h)

abbrev behind_rotation : ℕ → List Bit → List Bit → Built → Built × List Bit
behind_rotation j rest xs d = rotations_from d (j + 1) rest xs

rotations_give : (low : ℕ) (b : Built) (j : ℕ) (amount xs : List Bit) → j + length amount ≤ 5 → length xs ≡ 32 → Ready low b → AllBelow b.variables amount → AllBelow b.variables xs
    → WordGives (32 * length amount) b (λ d. rotations_from d j amount xs) 32 (λ m. shifted Ror (number_of m xs) (2 ^ j * number_of m amount))
rotations_give low b j [] xs few ws k pa px = record {
  goes = Goes-none 0 b xs;
  below = px;
  length_is = ws;
  value = λ m _. sym (ap (shifted Ror (number_of m xs)) (let e : 2 ^ j * 0 ≡ 0 = omega arith in e) ∙ not_rotated (number_of m xs) (number_lt m xs ws));
}
rotations_give low b j (a ∷ rest) xs few ws k pa px =
    let n : ℕ = 2 ^ j in
    let small : n ≤ 2 ^ 4 = pow_le j 4 (omega arith) in
    let bits = moved Ror n xs in
    let wb = length-moved Ror n xs (omega arith) ws in
    let r = choose_each b a bits xs in
    let rg = choose_each_gives low b a bits xs (wb ∙ sym ws) k pa.0 (AllBelow-moved b.variables Ror n xs px) px in
    let g = rg.goes.grows in
    let t = rotations_from r.0 (j + 1) rest r.1 in
    let tg = rotations_give low r.0 (j + 1) rest r.1 (omega arith) (rg.length_is ∙ ws) (g.ready low k) (all_later (length xs) b r.0 rest g pa.1) rg.below in
    record {
      goes = Goes-then (32 * suc (length rest)) (length xs) (32 * length rest) b (λ d. choose_each d a bits xs) (behind_rotation j rest) (omega arith) rg.goes tg.goes;
      below = tg.below;
      length_is = tg.length_is;
      value = λ m holds.
          let x : ℕ = number_of m xs in
          let hx = number_lt m xs ws in
          let here : number_of m r.1 ≡ shifted Ror x (from_bool (bit_value m a) * n) =
          rg.value m (tg.goes.grows.kept m holds) ∙ ap (λ v. cond (bit_value m a) v x) (moved-ror m xs n (omega arith) ws) ∙ choice_of_rotation (bit_value m a) x n hx in
          tg.value m holds
          ∙ ap (λ v. shifted Ror v (2 ^ (j + 1) * number_of m rest)) here
          ∙ rotated_twice x (from_bool (bit_value m a) * n) (2 ^ (j + 1) * number_of m rest) hx
          ∙ ap (shifted Ror x) (let p : 2 ^ (j + 1) ≡ 2 ^ j * 2 = pow-add 2 j 1 in let q : from_bool (bit_value m a) * 2 ^ j + 2 ^ (j + 1) * number_of m rest ≡ 2 ^ j * (from_bool (bit_value m a) + 2 * number_of m rest) = rw p (omega arith) in q);
    }

-- the carry of a rotation by the low byte
rotation_whole : (x y v : ℕ) (c nz top out : Bool) → x < 2 ^ 32 → v ≡ shifted Ror x (2 ^ 0 * (y % 2 ^ 5)) → nz ≡ not (eqb (y % 2 ^ 8) 0) → from_bool top ≡ bit_at v 31 → out ≡ cond nz top c → (v, out) ≡ shift_of Ror x (y % 256) c
rotation_whole x y v c nz top out hx ev en et eo =
    let n : ℕ = y % 256 in
    ⊎_elim
    (λ (none : n ≡ 0).
    let no : nz ≡ false = en ∙ ap not (eq-eqb (y % 2 ^ 8) 0 none) in
    let zero_places : 2 ^ 0 * (y % 2 ^ 5) ≡ 0 = omega arith in
    let value : v ≡ x = ev ∙ ap (shifted Ror x) zero_places ∙ not_rotated x hx in
    ap (λ u. (u, out)) value ∙ ap (λ o. (x, o)) (eo ∙ ap (λ t. cond t top c) no) ∙ sym (ap (λ k. shift_of Ror x k c) none))
    (λ (some : n ≡ 0 → ⊥).
    let yes : nz ≡ true = en ∙ ap not (ne_eqb (y % 2 ^ 8) 0 some) in
    let same_places : 2 ^ 0 * (y % 2 ^ 5) % 32 ≡ n % 32 = omega arith in
    let value : v ≡ shifted Ror x n = ev ∙ ap (λ k. x / 2 ^ k + x * 2 ^ (32 - k) % 2 ^ 32) same_places in
    let last : top ≡ eqb (last_out Ror x n) 1 = one_test top (last_out Ror x n) (et ∙ ap (λ u. bit_at u 31) value) in
    ap (λ u. (u, out)) value ∙ ap (λ o. (shifted Ror x n, o)) (eo ∙ ap (λ t. cond t top c) yes ∙ last) ∙ sym (shift_of-some Ror x n c (omega arith)))
    (cases_eq n 0)

abbrev behind_any : List Bit → Bit → Bit → Built → Built × Shifted
behind_any value carry nz d = ((ite_of d nz (bit_of value 31) carry).0, shifted_to value (ite_of d nz (bit_of value 31) carry).1)

abbrev behind_rotations : List Bit → Bit → List Bit → Built → Built × Shifted
behind_rotations amount carry value d = let some = any_of d (take 8 amount) (Constant false) in behind_any value carry some.1 some.0

pub rotate_by_gives : (low : ℕ) (b : Built) (amount : List Bit) (s : Shifted) → length amount ≡ 32 → length s.value ≡ 32 → Ready low b → AllBelow b.variables amount → AllBelow b.variables s.value → BitBelow b.variables s.carry
    → ShiftedGives 232 b (λ d. rotate_by d amount s) (λ m. shift_of Ror (number_of m s.value) (number_of m amount % 256) (bit_value m s.carry))
rotate_by_gives low b amount s wa ws k pa ps pc =
    let five = take 5 amount in
    let eight = take 8 amount in
    let count : length five ≡ 5 = omega (arith, length-take 5 amount) in
    let count_8 : length eight ≡ 8 = omega (arith, length-take 8 amount) in
    let r = rotations_from b 0 five s.value in
    let rg = rotations_give low b 0 five s.value (omega arith) ws k (AllBelow-take b.variables 5 amount pa) ps in
    let g = rg.goes.grows in
    let kr = g.ready low k in
    let some = any_of r.0 eight (Constant false) in
    let sg = any_gives low r.0 eight (Constant false) kr (AllBelow-take r.0.variables 8 amount (all_later (32 * length five) b r.0 amount g pa)) tt in
    let top = bit_of r.1 31 in
    let nb = all_later (length eight) r.0 some.0 r.1 sg.goes.grows rg.below in
    let c = ite_of some.0 some.1 top s.carry in
    let cg = ite_gives low some.0 some.1 top s.carry (sg.goes.grows.ready low kr) sg.below (bit_below some.0.variables r.1 31 nb) (later (length eight) r.0 some.0 s.carry sg.goes.grows (later (32 * length five) b r.0 s.carry g pc)) in
    record {
      goes = Goes-then 232 (32 * length five) 9 b (λ d. rotations_from d 0 five s.value) (behind_rotations amount s.carry) (omega arith) rg.goes
          (Goes-then 9 (length eight) 1 r.0 (λ d. any_of d eight (Constant false)) (behind_any r.1 s.carry) (omega arith) sg.goes
          (Goes-map 1 some.0 (shifted_to r.1) (λ d. ite_of d some.1 top s.carry) (Goes-gives 1 some.0 (λ d. ite_of d some.1 top s.carry) _ cg (ite_extends some.0 some.1 top s.carry))));
      below = all_later 1 some.0 c.0 r.1 cg.grows nb;
      carry = cg.below;
      wide = rg.length_is;
      value = λ m holds.
          let in_s = cg.grows.kept m holds in
          let in_r = sg.goes.grows.kept m in_s in
          rotation_whole (number_of m s.value) (number_of m amount) (number_of m r.1) (bit_value m s.carry) (bit_value m some.1) (bit_value m top) (bit_value m c.1) (number_lt m s.value ws)
          (rg.value m in_r ∙ ap (λ v. shifted Ror (number_of m s.value) (2 ^ 0 * v)) (number_of-take m amount 5))
          (sg.value m in_s ∙ ap (λ v. not (eqb v 0)) (number_of-take m amount 8))
          (number_at m r.1 31)
          (cg.value m holds);
    }
