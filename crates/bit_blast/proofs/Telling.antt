-- The gathered bits of which some is true exactly where an item of the mask differs between two states.
use Rattle.std.proofs.Common.{◌≡◌, ◌≢◌, ℕ, zero, suc, ◌+◌, ◌*◌, ◌<◌, ◌≤◌, List, [], ◌∷◌, ◌++◌, Bool, true, false, not, ◌&&◌, ◌||◌, cond, eqb, length, take, refl, sym, ap, ◌∙◌, arith, ⊎_elim, length-take}
use Rattle.std.proofs.lemmas.List.{get_or-take}
use Rattle.std.proofs.lemmas.Bool.{ne_eqb, eq-eqb, and_parts, and_from, or_cases, or_left, or_right}
use Rattle.std.proofs.lemmas.Bool.Decides.{eqb_tells}
use Rattle.std.specs.Int.{from_bool}
use Rattle.cnf_gates.specs.declared.bit.Bit.{Bit}
use Rattle.cnf_gates.specs.Gates.{Built, xor_of, differ}
use Rattle.cnf_gates.specs.Meaning.{bit_value, any_value, GatesHold}
use Rattle.cnf_gates.specs.Growth.{BitBelow, AllBelow, Ready}
use Rattle.cnf_gates.proofs.Giving.{xor_gives, later, all_later}
use Rattle.cnf_gates.proofs.Tables.{or_assoc}
use Rattle.thumb_instr.specs.Items.{has, n_flag, z_flag, c_flag, v_flag}
use Rattle.thumb_model.specs.Effect.{Values}
use Rattle.window_exec.proofs.Differences.{either}
use Rattle.bit_blast.specs.declared.circuits.Connective.TheVariants.{Xor}
use Rattle.bit_blast.specs.Circuits.{each_of, before_word}
use Rattle.bit_blast.specs.Forming.{Bits, word}
use Rattle.bit_blast.specs.Differences.{register_differences, flag_difference, differences}
use Rattle.bit_blast.specs.Exactness.{number_of, values_at}
use Rattle.bit_blast.proofs.Extends.{xor_extends}
use Rattle.bit_blast.proofs.Steps.{Goes, Goes-none, Goes-gives, Goes-map, Goes-then, Goes-within}
use Rattle.bit_blast.proofs.Numbers.{AllBelow-append}
use Rattle.bit_blast.proofs.Formed.{AllWords, AllWords-more, AreOf, AreOf-more, register_value}
use Rattle.common_lemmas.proofs.Booleans.{or_false}

-- ---- bits of which some is true

pub any-append : (m : ℕ → Bool) (xs ys : List Bit) → any_value m (xs ++ ys) ≡ (any_value m xs || any_value m ys)
any-append m [] ys = refl
any-append m (x ∷ xs) ys = ap (λ v. bit_value m x || v) (any-append m xs ys) ∙ or_assoc (bit_value m x) (any_value m xs) (any_value m ys)

-- a step that gives bits of which some is true exactly where f is
pub record TellsGives (n : ℕ) (b : Built) (step : Built → Built × List Bit) (f : (ℕ → Bool) → Bool) : Type 0 where
  pub goes : Goes n b step
  pub below : AllBelow (step b).0.variables (step b).1
  pub value : (m : ℕ → Bool) → GatesHold m (step b).0.gates → any_value m (step b).1 ≡ f m

tells_none : (n : ℕ) (b : Built) → TellsGives n b (λ d. (d, [])) (λ m. false)
tells_none n b = record { goes = Goes-none n b []; below = tt; value = λ m _. refl }

tells_cond : (n : ℕ) (b : Built) (t : Bool) (r s : Built → Built × List Bit) (f : (ℕ → Bool) → Bool) → (t ≡ true → TellsGives n b r f) → (t ≡ false → TellsGives n b s f) → TellsGives n b (λ d. cond t (r d) (s d)) f
tells_cond n b true r s f h k = h refl
tells_cond n b false r s f h k = k refl

tells_at : (n : ℕ) (b : Built) (step : Built → Built × List Bit) (f g : (ℕ → Bool) → Bool) → ((m : ℕ → Bool) → f m ≡ g m) → TellsGives n b step f → TellsGives n b step g
tells_at n b step f g e h = record { goes = h.goes; below = h.below; value = λ m holds. h.value m holds ∙ e m }

tells_within : (n k : ℕ) (b : Built) (step : Built → Built × List Bit) (f : (ℕ → Bool) → Bool) → n ≤ k → TellsGives n b step f → TellsGives k b step f
tells_within n k b step f le h = record { goes = Goes-within n k b step le h.goes; below = h.below; value = h.value }

-- ---- words

same_odd : (a b : ℕ) → eqb a b ≡ eqb (1 + 2 * a) (1 + 2 * b)
same_odd a b = grind (arith, eqb_tells)

same_even : (a b : ℕ) → eqb a b ≡ eqb (0 + 2 * a) (0 + 2 * b)
same_even a b = grind (arith, eqb_tells)

-- two numbers differ in the lowest bit or in the others
differ_place : (x y : Bool) (a b : ℕ) → (differ x y || not (eqb a b)) ≡ not (eqb (from_bool x + 2 * a) (from_bool y + 2 * b))
differ_place true true a b = ap not (same_odd a b)
differ_place true false a b = ap not (sym (ne_eqb (1 + 2 * a) (0 + 2 * b) (λ h. omega arith)))
differ_place false true a b = ap not (sym (ne_eqb (0 + 2 * a) (1 + 2 * b) (λ h. omega arith)))
differ_place false false a b = ap not (same_even a b)

word_tells : (low : ℕ) (b : Built) (xs ys : List Bit) → length xs ≡ length ys → Ready low b → AllBelow b.variables xs → AllBelow b.variables ys
    → TellsGives (length xs) b (λ d. each_of Xor d xs ys) (λ m. not (eqb (number_of m xs) (number_of m ys)))
word_tells low b [] [] same k px py = tells_none 0 b
word_tells low b [] (y ∷ ys) same k px py = absurd (omega arith)
word_tells low b (x ∷ xs) [] same k px py = absurd (omega arith)
word_tells low b (x ∷ xs) (y ∷ ys) same k px py =
    let here = xor_of b x y in
    let hg = xor_gives low b x y k px.0 py.0 in
    let tail : length xs ≡ length ys = omega arith in
    let rest = each_of Xor here.0 xs ys in
    let rg = word_tells low here.0 xs ys tail (hg.grows.ready low k) (all_later 1 b here.0 xs hg.grows px.1) (all_later 1 b here.0 ys hg.grows py.1) in
    record {
      goes = Goes-then (suc (length xs)) 1 (length xs) b (λ d. xor_of d x y) (λ r d. ((each_of Xor d xs ys).0, r ∷ (each_of Xor d xs ys).1)) (omega arith)
          (Goes-gives 1 b (λ d. xor_of d x y) _ hg (xor_extends b x y)) (Goes-map (length xs) here.0 (λ l. here.1 ∷ l) (λ d. each_of Xor d xs ys) rg.goes);
      below = (later (length xs) here.0 rest.0 here.1 rg.goes.grows hg.below, rg.below);
      value = λ m holds.
          ap (λ v. v || any_value m rest.1) (hg.value m (rg.goes.grows.kept m holds)) ∙ ap (λ v. differ (bit_value m x) (bit_value m y) || v) (rg.value m holds)
          ∙ differ_place (bit_value m x) (bit_value m y) (number_of m xs) (number_of m ys);
    }

-- ---- registers

-- whether some register of the mask differs, from number i on
abbrev pub words_differ : ℕ → (ℕ → Bool) → ℕ → List (List Bit) → List (List Bit) → Bool
words_differ mask m i [] ys = false
words_differ mask m i (x ∷ xs) [] = false
words_differ mask m i (x ∷ xs) (y ∷ ys) = (has mask i && not (eqb (number_of m x) (number_of m y))) || words_differ mask m (i + 1) xs ys

abbrev behind_word : ℕ → ℕ → List (List Bit) → List (List Bit) → List Bit → Built → Built × List Bit
behind_word mask i xs ys r d = ((register_differences d mask (i + 1) xs ys).0, r ++ (register_differences d mask (i + 1) xs ys).1)

with_on : (t a r : Bool) → t ≡ true → (a || r) ≡ ((t && a) || r)
with_on t a r e = rw e refl

with_off : (t a r : Bool) → t ≡ false → r ≡ ((t && a) || r)
with_off t a r e = rw e refl

registers_tell : (low : ℕ) (b : Built) (mask i : ℕ) (xs ys : List (List Bit)) → Ready low b → AllWords b.variables xs → AllWords b.variables ys
    → TellsGives (32 * length xs) b (λ d. register_differences d mask i xs ys) (λ m. words_differ mask m i xs ys)
registers_tell low b mask i [] ys k px py = tells_none 0 b
registers_tell low b mask i (x ∷ xs) [] k px py = tells_none (32 * suc (length xs)) b
registers_tell low b mask i (x ∷ xs) (y ∷ ys) k px py =
    tells_cond (32 * suc (length xs)) b (has mask i) _ _ (λ m. words_differ mask m i (x ∷ xs) (y ∷ ys))
    (λ (on : has mask i ≡ true).
    let here = each_of Xor b x y in
    let hg = word_tells low b x y (px.0 ∙ sym py.0) k px.1 py.1 in
    let g = hg.goes.grows in
    let rest = register_differences here.0 mask (i + 1) xs ys in
    let rg = registers_tell low here.0 mask (i + 1) xs ys (g.ready low k) (AllWords-more b.variables here.0.variables xs g.more px.2) (AllWords-more b.variables here.0.variables ys g.more py.2) in
    record {
      goes = Goes-then (32 * suc (length xs)) (length x) (32 * length xs) b (λ d. each_of Xor d x y) (behind_word mask i xs ys) (let w : length x ≡ 32 = px.0 in omega arith) hg.goes
          (Goes-map (32 * length xs) here.0 (λ l. here.1 ++ l) (λ d. register_differences d mask (i + 1) xs ys) rg.goes);
      below = AllBelow-append rest.0.variables here.1 rest.1 (all_later (32 * length xs) here.0 rest.0 here.1 rg.goes.grows hg.below) rg.below;
      value = λ m holds.
          any-append m here.1 rest.1 ∙ ap (λ v. v || any_value m rest.1) (hg.value m (rg.goes.grows.kept m holds)) ∙ ap (λ v. not (eqb (number_of m x) (number_of m y)) || v) (rg.value m holds)
          ∙ with_on (has mask i) (not (eqb (number_of m x) (number_of m y))) (words_differ mask m (i + 1) xs ys) on;
    })
    (λ (off : has mask i ≡ false).
    tells_at (32 * suc (length xs)) b (λ d. register_differences d mask (i + 1) xs ys) (λ m. words_differ mask m (i + 1) xs ys) (λ m. words_differ mask m i (x ∷ xs) (y ∷ ys))
    (λ m. with_off (has mask i) (not (eqb (number_of m x) (number_of m y))) (words_differ mask m (i + 1) xs ys) off)
    (tells_within (32 * length xs) (32 * suc (length xs)) b (λ d. register_differences d mask (i + 1) xs ys) _ (omega arith) (registers_tell low b mask (i + 1) xs ys k px.2 py.2)))

-- ---- flags behind what was found

flag_tells : (low : ℕ) (b : Built) (found : List Bit) (on : Bool) (x y : Bit) → Ready low b → AllBelow b.variables found → BitBelow b.variables x → BitBelow b.variables y
    → TellsGives 1 b (λ d. before_word found (flag_difference d on x y)) (λ m. any_value m found || (on && differ (bit_value m x) (bit_value m y)))
flag_tells low b found false x y k pf px py = record {
  goes = Goes-none 1 b (found ++ []);
  below = AllBelow-append b.variables found [] pf tt;
  value = λ m _. any-append m found [];
}
flag_tells low b found true x y k pf px py =
    let r = xor_of b x y in
    let g = xor_gives low b x y k px py in
    record {
      goes = Goes-map 1 b (λ z. found ++ z ∷ []) (λ d. xor_of d x y) (Goes-gives 1 b (λ d. xor_of d x y) _ g (xor_extends b x y));
      below = AllBelow-append r.0.variables found (r.1 ∷ []) (all_later 1 b r.0 found g.grows pf) (g.below, tt);
      value = λ m holds. any-append m found (r.1 ∷ []) ∙ ap (λ v. any_value m found || v) (or_false (bit_value m r.1) ∙ g.value m holds);
    }

-- a step, and one that continues with the bits that it found
tells_then : (total n k : ℕ) (b : Built) (first : Built → Built × List Bit) (second : List Bit → Built → Built × List Bit) (f : (ℕ → Bool) → Bool) (h : Bool → (ℕ → Bool) → Bool) → n + k ≤ total
    → TellsGives n b first f → TellsGives k (first b).0 (second (first b).1) (λ m. h (any_value m (first b).1) m) → TellsGives total b (λ d. second (first d).1 (first d).0) (λ m. h (f m) m)
tells_then total n k b first second f h le p q = record {
  goes = Goes-then total n k b first second le p.goes q.goes;
  below = q.below;
  value = λ m holds. q.value m holds ∙ ap (λ v. h v m) (p.value m (q.goes.grows.kept m holds));
}

module _ (mask : ℕ) (x y : Bits) where
  abbrev n_step : List Bit → Built → Built × List Bit
  n_step found d = before_word found (flag_difference d (has mask n_flag) x.n y.n)

  abbrev z_step : List Bit → Built → Built × List Bit
  z_step found d = before_word found (flag_difference d (has mask z_flag) x.z y.z)

  abbrev c_step : List Bit → Built → Built × List Bit
  c_step found d = before_word found (flag_difference d (has mask c_flag) x.c y.c)

  abbrev v_step : List Bit → Built → Built × List Bit
  v_step found d = before_word found (flag_difference d (has mask v_flag) x.v y.v)

  abbrev from_c : List Bit → Built → Built × List Bit
  from_c found d = let r = c_step found d in v_step r.1 r.0

  abbrev from_z : List Bit → Built → Built × List Bit
  from_z found d = let r = z_step found d in from_c r.1 r.0

  abbrev from_n : List Bit → Built → Built × List Bit
  from_n found d = let r = n_step found d in from_z r.1 r.0

abbrev flag_differs : ℕ → ℕ → (ℕ → Bool) → Bit → Bit → Bool
flag_differs mask f m x y = has mask f && differ (bit_value m x) (bit_value m y)

-- whether some item of the mask differs
abbrev pub all_differ : ℕ → (ℕ → Bool) → Bits → Bits → Bool
all_differ mask m x y =
    (((words_differ mask m 0 (take 4 x.r) (take 4 y.r) || flag_differs mask n_flag m x.n y.n) || flag_differs mask z_flag m x.z y.z) || flag_differs mask c_flag m x.c y.c) || flag_differs mask v_flag m x.v y.v

AllWords-take : (v n : ℕ) (ws : List (List Bit)) → AllWords v ws → AllWords v (take n ws)
AllWords-take v (suc n) (w ∷ ws) h = (h.0, h.1, AllWords-take v n ws h.2)
AllWords-take v n ws h = tt

pub differences_give : (low : ℕ) (b : Built) (mask : ℕ) (x y : Bits) → Ready low b → AreOf b.variables x → AreOf b.variables y → TellsGives 132 b (λ d. differences d mask x y) (λ m. all_differ mask m x y)
differences_give low b mask x y k px py =
    let xs = take 4 x.r in
    let ys = take 4 y.r in
    let r = register_differences b mask 0 xs ys in
    let rg = registers_tell low b mask 0 xs ys k (AllWords-take b.variables 4 x.r px.words) (AllWords-take b.variables 4 y.r py.words) in
    let kr = rg.goes.grows.ready low k in
    let rx = AreOf-more b.variables r.0.variables x rg.goes.grows.more px in
    let ry = AreOf-more b.variables r.0.variables y rg.goes.grows.more py in
    let n = n_step mask x y r.1 r.0 in
    let ng = flag_tells low r.0 r.1 (has mask n_flag) x.n y.n kr rg.below rx.n_of ry.n_of in
    let kn = ng.goes.grows.ready low kr in
    let nx = AreOf-more r.0.variables n.0.variables x ng.goes.grows.more rx in
    let ny = AreOf-more r.0.variables n.0.variables y ng.goes.grows.more ry in
    let z = z_step mask x y n.1 n.0 in
    let zg = flag_tells low n.0 n.1 (has mask z_flag) x.z y.z kn ng.below nx.z_of ny.z_of in
    let kz = zg.goes.grows.ready low kn in
    let zx = AreOf-more n.0.variables z.0.variables x zg.goes.grows.more nx in
    let zy = AreOf-more n.0.variables z.0.variables y zg.goes.grows.more ny in
    let c = c_step mask x y z.1 z.0 in
    let cg = flag_tells low z.0 z.1 (has mask c_flag) x.c y.c kz zg.below zx.c_of zy.c_of in
    let kc = cg.goes.grows.ready low kz in
    let cx = AreOf-more z.0.variables c.0.variables x cg.goes.grows.more zx in
    let cy = AreOf-more z.0.variables c.0.variables y cg.goes.grows.more zy in
    let vg = flag_tells low c.0 c.1 (has mask v_flag) x.v y.v kc cg.below cx.v_of cy.v_of in
    let vf : Bool → (ℕ → Bool) → Bool = λ u m. u || flag_differs mask v_flag m x.v y.v in
    let cf : Bool → (ℕ → Bool) → Bool = λ u m. vf (u || flag_differs mask c_flag m x.c y.c) m in
    let zf : Bool → (ℕ → Bool) → Bool = λ u m. cf (u || flag_differs mask z_flag m x.z y.z) m in
    let nf : Bool → (ℕ → Bool) → Bool = λ u m. zf (u || flag_differs mask n_flag m x.n y.n) m in
    let four : length xs ≤ 4 = omega (arith, length-take 4 x.r) in
    tells_then 132 (32 * length xs) 4 b (λ d. register_differences d mask 0 xs ys) (from_n mask x y) (λ m. words_differ mask m 0 xs ys) nf (omega arith) rg
    (tells_then 4 1 3 r.0 (n_step mask x y r.1) (from_z mask x y) _ zf (omega arith) ng
    (tells_then 3 1 2 n.0 (z_step mask x y n.1) (from_c mask x y) _ cf (omega arith) zg
    (tells_then 2 1 1 z.0 (c_step mask x y z.1) (v_step mask x y) _ vf (omega arith) cg vg)))

-- ---- items that differ

-- the item i is in the mask and its two values differ
abbrev pub DiffersAt : ℕ → Values → Values → ℕ → Type 0
DiffersAt mask v w x = (has mask x ≡ true) × (v x ≢ w x)

differ_shown : (a b : Bool) → differ a b ≡ true → from_bool a ≢ from_bool b
differ_shown true true h e = absurd cc
differ_shown true false h e = omega arith
differ_shown false true h e = omega arith
differ_shown false false h e = absurd cc

differ_found : (a b : Bool) → from_bool a ≢ from_bool b → differ a b ≡ true
differ_found true true h = absurd (h refl)
differ_found true false h = refl
differ_found false true h = refl
differ_found false false h = absurd (h refl)

not_equal : (x y : ℕ) → not (eqb x y) ≡ true → x ≢ y
not_equal x y h e = let t : eqb x y ≡ true = eq-eqb x y e in absurd cc

not_equal_found : (x y : ℕ) → x ≢ y → not (eqb x y) ≡ true
not_equal_found x y h = ap not (ne_eqb x y h)

-- a register of the mask, from number i on, whose words differ
record WordDiffers (mask : ℕ) (m : ℕ → Bool) (i : ℕ) (xs ys : List (List Bit)) : Type 0 where
  at : ℕ
  inside : at < length xs
  inside_too : at < length ys
  on : has mask (i + at) ≡ true
  other : number_of m (word xs at) ≢ number_of m (word ys at)

words_shown : (mask : ℕ) (m : ℕ → Bool) (i : ℕ) (xs ys : List (List Bit)) → words_differ mask m i xs ys ≡ true → WordDiffers mask m i xs ys
words_shown mask m i [] ys h = absurd cc
words_shown mask m i (x ∷ xs) [] h = absurd cc
words_shown mask m i (x ∷ xs) (y ∷ ys) h =
    ⊎_elim
    (λ (t : (has mask i && not (eqb (number_of m x) (number_of m y))) ≡ true).
    let parts : (has mask i ≡ true) × (not (eqb (number_of m x) (number_of m y)) ≡ true) = and_parts (has mask i) (not (eqb (number_of m x) (number_of m y))) t in
    record { at = 0; inside = omega arith; inside_too = omega arith; on = ap (has mask) (let e : i + 0 ≡ i = omega arith in e) ∙ parts.0; other = not_equal (number_of m x) (number_of m y) parts.1 })
    (λ (t : words_differ mask m (i + 1) xs ys ≡ true).
    let r = words_shown mask m (i + 1) xs ys t in
    let p : r.at < length xs = r.inside in
    let q : r.at < length ys = r.inside_too in
    record { at = suc r.at; inside = omega arith; inside_too = omega arith; on = ap (has mask) (let e : i + suc r.at ≡ i + 1 + r.at = omega arith in e) ∙ r.on; other = r.other })
    (or_cases (has mask i && not (eqb (number_of m x) (number_of m y))) (words_differ mask m (i + 1) xs ys) h)

words_found : (mask : ℕ) (m : ℕ → Bool) (i : ℕ) (xs ys : List (List Bit)) (j : ℕ) → j < length xs → j < length ys → has mask (i + j) ≡ true → number_of m (word xs j) ≢ number_of m (word ys j) → words_differ mask m i xs ys ≡ true
words_found mask m i [] ys j p q on h = absurd (omega arith)
words_found mask m i (x ∷ xs) [] j p q on h = absurd (omega arith)
words_found mask m i (x ∷ xs) (y ∷ ys) zero p q on h =
    or_left (has mask i && not (eqb (number_of m x) (number_of m y))) (words_differ mask m (i + 1) xs ys)
    (and_from (has mask i) (not (eqb (number_of m x) (number_of m y))) (ap (has mask) (let e : i ≡ i + 0 = omega arith in e) ∙ on) (not_equal_found (number_of m x) (number_of m y) h))
words_found mask m i (x ∷ xs) (y ∷ ys) (suc j) p q on h =
    or_right (has mask i && not (eqb (number_of m x) (number_of m y))) (words_differ mask m (i + 1) xs ys)
    (words_found mask m (i + 1) xs ys j (omega arith) (omega arith) (ap (has mask) (let e : i + 1 + j ≡ i + suc j = omega arith in e) ∙ on) h)

word_of_four : (ws : List (List Bit)) (j : ℕ) → j < 4 → word (take 4 ws) j ≡ word ws j
word_of_four ws j h = get_or-take 4 ws j [] h

-- where some item of the mask differs, there is one
pub differ_shows : (mask : ℕ) (m : ℕ → Bool) (x y : Bits) → all_differ mask m x y ≡ true → (i : ℕ) × DiffersAt mask (values_at m x) (values_at m y) i
differ_shows mask m x y h =
    let w = words_differ mask m 0 (take 4 x.r) (take 4 y.r) in
    let n = flag_differs mask n_flag m x.n y.n in
    let z = flag_differs mask z_flag m x.z y.z in
    let c = flag_differs mask c_flag m x.c y.c in
    let v = flag_differs mask v_flag m x.v y.v in
    either (((w || n) || z) || c) v
    (either ((w || n) || z) c
    (either (w || n) z
    (either w n
    (λ t.
    let r = words_shown mask m 0 (take 4 x.r) (take 4 y.r) t in
    let four : length (take 4 x.r) ≤ 4 = omega (arith, length-take 4 x.r) in
    let inside : r.at < length (take 4 x.r) = r.inside in
    let small : r.at < 4 = omega arith in
    let e : 0 + r.at ≡ r.at = omega arith in
    (r.at, (sym (ap (has mask) e) ∙ r.on, λ same. r.other (ap (number_of m) (word_of_four x.r r.at small) ∙ register_value m x r.at (omega arith) ∙ same ∙ sym (ap (number_of m) (word_of_four y.r r.at small) ∙ register_value m y r.at (omega arith))))))
    (λ t. let p = and_parts (has mask n_flag) (differ (bit_value m x.n) (bit_value m y.n)) t in (15, (p.0, differ_shown (bit_value m x.n) (bit_value m y.n) p.1))))
    (λ t. let p = and_parts (has mask z_flag) (differ (bit_value m x.z) (bit_value m y.z)) t in (16, (p.0, differ_shown (bit_value m x.z) (bit_value m y.z) p.1))))
    (λ t. let p = and_parts (has mask c_flag) (differ (bit_value m x.c) (bit_value m y.c)) t in (17, (p.0, differ_shown (bit_value m x.c) (bit_value m y.c) p.1))))
    (λ t. let p = and_parts (has mask v_flag) (differ (bit_value m x.v) (bit_value m y.v)) t in (18, (p.0, differ_shown (bit_value m x.v) (bit_value m y.v) p.1)))
    h

-- and a register of the mask that differs is found
pub register_found : (mask : ℕ) (m : ℕ → Bool) (x y : Bits) (i : ℕ) → i < 4 → i < length x.r → i < length y.r → DiffersAt mask (values_at m x) (values_at m y) i → all_differ mask m x y ≡ true
register_found mask m x y i small px py d =
    let w = words_differ mask m 0 (take 4 x.r) (take 4 y.r) in
    let n = flag_differs mask n_flag m x.n y.n in
    let z = flag_differs mask z_flag m x.z y.z in
    let c = flag_differs mask c_flag m x.c y.c in
    let v = flag_differs mask v_flag m x.v y.v in
    let e : i ≡ 0 + i = omega arith in
    let found : w ≡ true =
    words_found mask m 0 (take 4 x.r) (take 4 y.r) i (omega (arith, length-take 4 x.r)) (omega (arith, length-take 4 y.r)) (sym (ap (has mask) e) ∙ d.0)
    (λ same. d.1 (sym (ap (number_of m) (word_of_four x.r i small) ∙ register_value m x i (omega arith)) ∙ same ∙ ap (number_of m) (word_of_four y.r i small) ∙ register_value m y i (omega arith))) in
    or_left (((w || n) || z) || c) v (or_left ((w || n) || z) c (or_left (w || n) z (or_left w n found)))

pub flag_found : (mask : ℕ) (m : ℕ → Bool) (x y : Bits) (j : ℕ) → j < 4 → DiffersAt mask (values_at m x) (values_at m y) (15 + j) → all_differ mask m x y ≡ true
flag_found mask m x y zero h d =
    or_left _ (flag_differs mask v_flag m x.v y.v) (or_left _ (flag_differs mask c_flag m x.c y.c) (or_left _ (flag_differs mask z_flag m x.z y.z)
    (or_right (words_differ mask m 0 (take 4 x.r) (take 4 y.r)) (flag_differs mask n_flag m x.n y.n) (and_from (has mask n_flag) (differ (bit_value m x.n) (bit_value m y.n)) d.0 (differ_found (bit_value m x.n) (bit_value m y.n) d.1)))))
flag_found mask m x y (suc zero) h d =
    or_left _ (flag_differs mask v_flag m x.v y.v) (or_left _ (flag_differs mask c_flag m x.c y.c)
    (or_right (words_differ mask m 0 (take 4 x.r) (take 4 y.r) || flag_differs mask n_flag m x.n y.n) (flag_differs mask z_flag m x.z y.z) (and_from (has mask z_flag) (differ (bit_value m x.z) (bit_value m y.z)) d.0 (differ_found (bit_value m x.z) (bit_value m y.z) d.1))))
flag_found mask m x y (suc (suc zero)) h d =
    or_left _ (flag_differs mask v_flag m x.v y.v)
    (or_right ((words_differ mask m 0 (take 4 x.r) (take 4 y.r) || flag_differs mask n_flag m x.n y.n) || flag_differs mask z_flag m x.z y.z) (flag_differs mask c_flag m x.c y.c) (and_from (has mask c_flag) (differ (bit_value m x.c) (bit_value m y.c)) d.0 (differ_found (bit_value m x.c) (bit_value m y.c) d.1)))
flag_found mask m x y (suc (suc (suc zero))) h d =
    or_right (((words_differ mask m 0 (take 4 x.r) (take 4 y.r) || flag_differs mask n_flag m x.n y.n) || flag_differs mask z_flag m x.z y.z) || flag_differs mask c_flag m x.c y.c) (flag_differs mask v_flag m x.v y.v)
    (and_from (has mask v_flag) (differ (bit_value m x.v) (bit_value m y.v)) d.0 (differ_found (bit_value m x.v) (bit_value m y.v) d.1))
flag_found mask m x y (suc (suc (suc (suc j)))) h d = absurd (omega arith)
