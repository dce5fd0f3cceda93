-- The formula's models are exactly the states that tell the sides apart, it has few variables, and that of a side against itself ends in the empty clause.
use Rattle.std.proofs.Common.{◌≡◌, ℕ, ◌+◌, ◌-◌, ◌*◌, ◌^◌, ◌<◌, ◌≤◌, ◌↔◌, List, [], ◌∷◌, ◌++◌, Bool, true, false, ◌||◌, cond, eqb, length, take, refl, sym, ap, ◌∙◌, arith, ⊎_elim, subst, map}
use Rattle.std.proofs.lemmas.Bool.{cond-true, cond-false, eq-eqb, cases_eq}
use Rattle.std.proofs.lemmas.List.{length-map}
use Rattle.clause_model.specs.Clauses.{variable_of, is_negative, number_of as number_of_literal}
use Rattle.cnf_gates.specs.declared.bit.Bit.{Bit}
use Rattle.cnf_gates.specs.declared.bit.Bit.TheVariants.{Constant, Signed}
use Rattle.cnf_gates.specs.Gates.{Built, xor_of, differ, or_clause_of, literals, has_true, has_pair, always_true, distinct}
use Rattle.cnf_gates.specs.Meaning.{all_true}
use Rattle.thumb_instr.specs.declared.instr.Instr.{Instr}
use Rattle.thumb_instr.specs.Items.{has, n_flag, z_flag, c_flag, v_flag}
use Rattle.thumb_model.specs.Effect.{Values, after_all, AreOver}
use Rattle.window_exec.specs.State.{Tells}
use Rattle.bit_blast.specs.declared.slots.Slot.TheVariants.{Plain}
use Rattle.bit_blast.specs.declared.circuits.Connective.TheVariants.{Xor}
use Rattle.bit_blast.specs.Slots.{Byte, filled as filled_slot, AreSlotsOver}
use Rattle.bit_blast.specs.Words.{filled}
use Rattle.bit_blast.specs.Circuits.{each_of}
use Rattle.bit_blast.specs.Forming.{Bits, formed_all}
use Rattle.bit_blast.specs.Differences.{start_bits, start_built, register_differences, flag_difference, differences, sides_from, sides_formula}
use Rattle.bit_blast.specs.Exactness.{start_values, IsMask, IsMaskOver, SameOver, ModelsTell, TellersAreModels, AreEqual, HasNoModel, EndsInEmpty}
use Rattle.bit_blast.proofs.Holes.{plain_over, filled_plain}
use Rattle.bit_blast.proofs.Moves.{length-filled, number_of-filled, AllBelow-filled}
use Rattle.bit_blast.proofs.Formed.{run_gives}
use Rattle.bit_blast.proofs.Start.{start_are, start_ready, start_words, values_same, given_by, given_back}
use Rattle.bit_blast.proofs.TwoSides.{IsStart, start_count, model_tells, teller_is_model, few_from, same_states_tell}

-- the bits of a symbol's value for sides without holes, which ignore them
abbrev no_symbol : List Bit
no_symbol = filled (Constant false)

abbrev no_value : (ℕ → Bool) → Byte
no_value m = record { number = 0; least = omega arith; below = omega arith }

plain_start : (k : ℕ) → IsStart (32 * k + 4) k (start_built k) no_symbol no_value
plain_start k = record {
  ready = start_ready k;
  are = start_are k;
  wide = length-filled (Constant false);
  below = AllBelow-filled (32 * k + 4) (Constant false) tt;
  is = λ m. number_of-filled m (Constant false) ∙ (let e : 0 * (2 ^ 32 - 1) ≡ 0 = omega arith in e);
}

-- the sides without holes are the instructions themselves
plain_tell : (v : Values) (left right : List Instr) (mask : ℕ) (x : Byte) → Tells v (map (filled_slot x) (map Plain left)) (map (filled_slot x) (map Plain right)) mask → Tells v left right mask
plain_tell v left right mask x t = subst (λ r. Tells v left r mask) (filled_plain x right) (subst (λ l. Tells v l (map (filled_slot x) (map Plain right)) mask) (filled_plain x left) t)

plain_told : (v : Values) (left right : List Instr) (mask : ℕ) (x : Byte) → Tells v left right mask → Tells v (map (filled_slot x) (map Plain left)) (map (filled_slot x) (map Plain right)) mask
plain_told v left right mask x t = subst (λ r. Tells v (map (filled_slot x) (map Plain left)) r mask) (sym (filled_plain x right)) (subst (λ l. Tells v l right mask) (sym (filled_plain x left)) t)

-- ---- models tell

pub models_tell : (left right : List Instr) (mask k : ℕ) → AreOver k left → AreOver k right → ModelsTell (sides_formula left right mask k) left right mask k
models_tell left right mask k over_left over_right m h =
    let t = model_tells (32 * k + 4) k (start_built k) no_symbol no_value (plain_start k) (map Plain left) (map Plain right) mask (plain_over k left over_left) (plain_over k right over_right) m h in
    (start_words m k, plain_tell (start_values m k) left right mask (no_value m) t.1)

-- ---- and tellers are models

pub tellers_are_models : (left right : List Instr) (mask k : ℕ) → AreOver k left → AreOver k right → IsMask mask → IsMaskOver k mask → TellersAreModels (sides_formula left right mask k) left right mask k
tellers_are_models left right mask k over_left over_right in_masks over v are t =
    let low : ℕ = 32 * k + 4 in
    let m : ℕ → Bool = given_by k v in
    let same : (n : ℕ → Bool) → ((u : ℕ) → u < low → n u ≡ m u) → SameOver k (start_values n k) v = λ n agree x p. values_same n m low (start_bits k) x agree (start_are k) ∙ given_back k v are x p in
    let r = teller_is_model low k (start_built k) no_symbol no_value (plain_start k) (map Plain left) (map Plain right) mask (plain_over k left over_left) (plain_over k right over_right) (no_value m) v m in_masks over
    (λ n agree. (refl, same n agree, refl)) (plain_told v left right mask (no_value m) t) in
    (r.0, r.2, same r.0 r.1)

-- ---- so it has no model exactly where the sides are equal

pub no_model_is_equal : (left right : List Instr) (mask k : ℕ) → AreOver k left → AreOver k right → IsMask mask → IsMaskOver k mask → HasNoModel (sides_formula left right mask k) ↔ AreEqual left right mask
no_model_is_equal left right mask k over_left over_right in_masks over = (
  λ none v are x on.
      ⊎_elim
      (λ (e : after_all left v x ≡ after_all right v x). e)
      (λ (n : after_all left v x ≡ after_all right v x → ⊥). let t = tellers_are_models left right mask k over_left over_right in_masks over v are (x, on, n) in absurd (none t.0 t.1))
      (cases_eq (after_all left v x) (after_all right v x)),
  λ equal m h. let t = models_tell left right mask k over_left over_right m h in t.1.2 (equal (start_values m k) t.0 t.1.0 t.1.1),
)

-- ---- few variables

pub few_variables : (left right : List Instr) (mask k : ℕ) → length left ≤ 5 → length right ≤ 5 → k < 256 → AreOver k left → AreOver k right → (sides_formula left right mask k).variables < 200000
few_variables left right mask k few_left few_right small over_left over_right =
    let most : (sides_formula left right mask k).variables ≤ 32 * k + 4 + (6208 * length (map Plain left) + 6208 * length (map Plain right) + 132) =
    few_from (32 * k + 4) k (start_built k) no_symbol no_value (plain_start k) (map Plain left) (map Plain right) mask (plain_over k left over_left) (plain_over k right over_right) in
    let l : length (map Plain left) ≡ length left = length-map left Plain in
    let r : length (map Plain right) ≡ length right = length-map right Plain in
    omega arith

-- ---- a side against itself

-- each of the bits is False
abbrev AreFalse : List Bit → Type 0
AreFalse [] = Unit {0}
AreFalse (x ∷ xs) = (x ≡ Constant false) × AreFalse xs

AreFalse-append : (xs ys : List Bit) → AreFalse xs → AreFalse ys → AreFalse (xs ++ ys)
AreFalse-append [] ys h k = k
AreFalse-append (x ∷ xs) ys h k = (h.0, AreFalse-append xs ys h.1 k)

same_sign : (n : Bool) → differ n n ≡ false
same_sign true = refl
same_sign false = refl

xor_itself : (b : Built) (x : Bit) → xor_of b x x ≡ (b, Constant false)
xor_itself b (Constant true) = refl
xor_itself b (Constant false) = refl
xor_itself b (Signed x) =
    cond-true (eqb (variable_of x) (variable_of x)) (b, Constant (differ (is_negative x) (is_negative x))) _ (eq-eqb (variable_of x) (variable_of x) refl) ∙ ap (λ n. (b, Constant n)) (same_sign (is_negative x))

-- a step that builds nothing and gives only bits that are False
record FindsNothing (b : Built) (r : Built × List Bit) : Type 0 where
  makes_nothing : r.0 ≡ b
  are_false : AreFalse r.1

word_itself : (b : Built) (xs : List Bit) → FindsNothing b (each_of Xor b xs xs)
word_itself b [] = record { makes_nothing = refl; are_false = tt }
word_itself b (x ∷ xs) =
    let here = xor_itself b x in
    let rest = word_itself b xs in
    record {
      makes_nothing = ap (λ p. (each_of Xor p.0 xs xs).0) here ∙ rest.makes_nothing;
      are_false = (ap (λ p. p.1) here, subst (λ d. AreFalse (each_of Xor d xs xs).1) (sym (ap (λ p. p.0) here)) rest.are_false);
    }

nothing_cond : (b : Built) (t : Bool) (r s : Built × List Bit) → FindsNothing b r → FindsNothing b s → FindsNothing b (cond t r s)
nothing_cond b true r s h k = h
nothing_cond b false r s h k = k

registers_themselves : (b : Built) (mask i : ℕ) (xs : List (List Bit)) → FindsNothing b (register_differences b mask i xs xs)
registers_themselves b mask i [] = record { makes_nothing = refl; are_false = tt }
registers_themselves b mask i (x ∷ xs) =
    let here = word_itself b x in
    let rest = registers_themselves b mask (i + 1) xs in
    let d = each_of Xor b x x in
    nothing_cond b (has mask i) _ _
    (record {
      makes_nothing = ap (λ e. (register_differences e mask (i + 1) xs xs).0) here.makes_nothing ∙ rest.makes_nothing;
      are_false = AreFalse-append d.1 (register_differences d.0 mask (i + 1) xs xs).1 here.are_false (subst (λ e. AreFalse (register_differences e mask (i + 1) xs xs).1) (sym here.makes_nothing) rest.are_false);
    })
    rest

flag_itself : (b : Built) (on : Bool) (x : Bit) → FindsNothing b (flag_difference b on x x)
flag_itself b false x = record { makes_nothing = refl; are_false = tt }
flag_itself b true x = record { makes_nothing = ap (λ p. p.0) (xor_itself b x); are_false = (ap (λ p. p.1) (xor_itself b x), tt) }

-- one such step after another
behind : (a b : Built) (found : List Bit) (r : Built → Built × List Bit) → b ≡ a → AreFalse found → ((d : Built) → FindsNothing d (r d)) → FindsNothing a ((r b).0, found ++ (r b).1)
behind a b found r e h k = record { makes_nothing = (k b).makes_nothing ∙ e; are_false = AreFalse-append found (r b).1 h (k b).are_false }

differences_themselves : (b : Built) (mask : ℕ) (x : Bits) → FindsNothing b (differences b mask x x)
differences_themselves b mask x =
    let r = registers_themselves b mask 0 (take 4 x.r) in
    let n = behind b _ _ (λ d. flag_difference d (has mask n_flag) x.n x.n) r.makes_nothing r.are_false (λ d. flag_itself d (has mask n_flag) x.n) in
    let z = behind b _ _ (λ d. flag_difference d (has mask z_flag) x.z x.z) n.makes_nothing n.are_false (λ d. flag_itself d (has mask z_flag) x.z) in
    let c = behind b _ _ (λ d. flag_difference d (has mask c_flag) x.c x.c) z.makes_nothing z.are_false (λ d. flag_itself d (has mask c_flag) x.c) in
    behind b _ _ (λ d. flag_difference d (has mask v_flag) x.v x.v) c.makes_nothing c.are_false (λ d. flag_itself d (has mask v_flag) x.v)

no_literals : (xs : List Bit) → AreFalse xs → literals xs ≡ []
no_literals [] h = refl
no_literals (x ∷ xs) h = ap (λ y. literals (y ∷ xs)) h.0 ∙ no_literals xs h.1

no_true : (xs : List Bit) → AreFalse xs → has_true xs ≡ false
no_true [] h = refl
no_true (x ∷ xs) h = ap (λ y. has_true (y ∷ xs)) h.0 ∙ no_true xs h.1

empty_clause : (b : Built) (xs : List Bit) → AreFalse xs → or_clause_of b xs ≡ record b { clauses = b.clauses ++ [] ∷ [] }
empty_clause b xs h =
    let ls = no_literals xs h in
    let never : always_true xs ≡ false = ap (λ t. t || has_pair (literals xs)) (no_true xs h) ∙ ap has_pair ls in
    cond-false (always_true xs) b (record b { clauses = b.clauses ++ map number_of_literal (distinct (literals xs)) ∷ [] }) never
    ∙ ap (λ l. let c : Built = record b { clauses = b.clauses ++ map number_of_literal (distinct l) ∷ [] } in c) ls

-- forming the side a second time finds every gate already built, so both ends have the same bits, nothing differs and the last clause is empty
pub itself_ends_in_empty : (side : List Instr) (mask k : ℕ) → AreOver k side → EndsInEmpty (sides_formula side side mask k)
itself_ends_in_empty side mask k over =
    let low : ℕ = 32 * k + 4 in
    let b = start_built k in
    let s = start_bits k in
    let w = no_symbol in
    let xs = map Plain side in
    let p = plain_start k in
    let l = formed_all w b xs s in
    let lg = run_gives low w no_value p.wide p.is b s xs p.ready p.are p.below (subst (λ n. AreSlotsOver n xs) (sym (start_count k)) (plain_over k side over)) in
    let again : formed_all w l.0 xs s ≡ (l.0, l.1) = lg.goes.again l.0 (record { found = λ _ _ e. e }) in
    let both : sides_from b s w xs xs mask ≡ differences l.0 mask l.1 l.1 = ap (λ q. differences q.0 mask l.1 q.1) again in
    let d = differences l.0 mask l.1 l.1 in
    let none = differences_themselves l.0 mask l.1 in
    (d.0.clauses, ap (λ q. (or_clause_of q.0 q.1).clauses) both ∙ ap (λ (c : Built). c.clauses) (empty_clause d.0 d.1 none.are_false))

-- ---- states

-- a state with the values that a model gives tells the sides apart
pub models_give_states : (left right : List Instr) (mask k : ℕ) → AreOver k left → AreOver k right → IsMask mask → IsMaskOver k mask → k ≤ 4 → (m : ℕ → Bool) → all_true m (sides_formula left right mask k).clauses ≡ true → (v : Values) → SameOver 4 v (start_values m k)
    → Tells v left right mask
models_give_states left right mask k over_left over_right in_masks over few m h v same =
    let t = models_tell left right mask k over_left over_right m h in
    same_states_tell left right mask k over_left over_right in_masks over few v (start_values m k) same t.1
