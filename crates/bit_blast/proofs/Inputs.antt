-- For the code's loops that make inputs and gather differences: the invariant is preserved, and at the end gives the contract.
use Rattle.std.proofs.Common.{◌≡◌, ℕ, suc, ◌+◌, ◌-◌, ◌*◌, ◌<◌, min, Bool, true, false, cond, List, [], ◌∷◌, ◌++◌, length, take, drop, get_or, set, refl, sym, ap, ◌∙◌, arith, append_assoc, append-nil}
use Rattle.std.proofs.lemmas.List.{drop_more, get_or-take, length-take}
use Rattle.cnf_gates.specs.declared.bit.Bit.{Bit}
use Rattle.cnf_gates.specs.declared.bit.Bit.TheVariants.{Constant, Signed}
use Rattle.cnf_gates.specs.Gates.{Built, input_of}
use Rattle.thumb_instr.specs.Items.{has, n_flag, z_flag, c_flag, v_flag}
use Rattle.bit_blast.specs.declared.circuits.Connective.TheVariants.{Xor}
use Rattle.bit_blast.specs.Circuits.{each_of, before_word}
use Rattle.bit_blast.specs.declared.slots.Slot.{Slot}
use Rattle.bit_blast.specs.Forming.{Bits, formed_all}
use Rattle.bit_blast.specs.Differences.{variables_from, words_from, input_word, low_inputs, register_differences, flag_difference, differences, sides_from}
use Rattle.bit_blast.specs.Words.{copies}
use Rattle.bit_blast.proofs.Ends.{variables_from-more, words_from-more, length-variables_from}
use Rattle.std.proofs.Math.Seq.{set-append_seam}

-- ---- inputs

abbrev with_variables : Built → ℕ → Built
with_variables b n = record b { variables = n }

pub input_built : (a b c : Built) (i : ℕ) (x : Bit) → b ≡ record a { variables = a.variables + i } → (c, x) ≡ input_of b → c ≡ record a { variables = a.variables + (i + 1) }
input_built a b c i x e f =
    ap (λ p. p.0) f ∙ ap (λ d. (input_of d).0) e ∙ ap (with_variables a) (let g : suc (a.variables + i) ≡ a.variables + (i + 1) = omega arith in g)

-- one more input, in the place of the lowest bit that is still False
pub low_inputs_step : (a b c : Built) (i : ℕ) (word : List Bit) (x : Bit) → i < 32 → b ≡ record a { variables = a.variables + i } → word ≡ low_inputs a.variables i → (c, x) ≡ input_of b → set word i x ≡ low_inputs a.variables (i + 1)
unfolding low_inputs
low_inputs_step a b c i word x h e same f =
    let v : ℕ = a.variables in
    let bit : x ≡ Signed (2 * (v + i)) = ap (λ p. p.1) f ∙ ap (λ d. (input_of d).1) e in
    let none = copies (32 - (i + 1)) (Constant false) in
    let one : low_inputs v i ≡ variables_from v i ++ Constant false ∷ none = ap (λ n. variables_from v i ++ copies n (Constant false)) (let g : 32 - i ≡ suc (32 - (i + 1)) = omega arith in g) in
    ap (λ l. set l i x) (same ∙ one) ∙ ap (λ j. set (variables_from v i ++ Constant false ∷ none) j x) (sym (length-variables_from v i)) ∙ set-append_seam (variables_from v i) (Constant false) none x
    ∙ ap (λ y. variables_from v i ++ y ∷ none) bit ∙ sym (append_assoc (variables_from v i) (Signed (2 * (v + i)) ∷ []) none) ∙ ap (λ l. l ++ none) (variables_from-more v i)

-- a whole word of inputs
pub whole_word : (v : ℕ) → low_inputs v 32 ≡ input_word v
unfolding input_word low_inputs
whole_word v = append-nil (variables_from v 32)

pub inputs_built : (b c : Built) (i : ℕ) → b ≡ record { variables = 32 * i; clauses = []; gates = [] } → c ≡ record b { variables = b.variables + 32 } → c ≡ record { variables = 32 * (i + 1); clauses = []; gates = [] }
inputs_built b c i e f =
    f ∙ ap (λ d. with_variables d (d.variables + 32)) e ∙ ap (with_variables (record { variables = 0; clauses = []; gates = [] })) (let g : 32 * i + 32 ≡ 32 * (i + 1) = omega arith in g)

pub inputs_words : (b : Built) (i : ℕ) (ws : List (List Bit)) (w : List Bit) → b ≡ record { variables = 32 * i; clauses = []; gates = [] } → ws ≡ words_from 0 i → w ≡ input_word b.variables → ws ++ w ∷ [] ≡ words_from 0 (i + 1)
inputs_words b i ws w e same f =
    ap (λ l. l ++ w ∷ []) same ∙ ap (λ x. words_from 0 i ++ x ∷ []) (f ∙ ap (λ d. input_word d.variables) e ∙ ap input_word (let g : 32 * i ≡ 0 + 32 * i = omega arith in g)) ∙ words_from-more 0 i

-- ---- differences

-- the first of those of the first four words that are left
first_of_four : (i : ℕ) (ws : List (List Bit)) (d x : List Bit) → i < min (length ws) 4 → get_or ws i d ≡ x → drop i (take 4 ws) ≡ x ∷ drop (i + 1) (take 4 ws)
first_of_four i ws d x h e =
    drop_more (take 4 ws) i d (omega (arith, length-take 4 ws)) ∙ ap (λ y. y ∷ drop (i + 1) (take 4 ws)) (get_or-take 4 ws i d (omega arith) ∙ e)

register_at : (b : Built) (mask i : ℕ) (x y : List Bit) (xs ys : List (List Bit)) (found : List Bit) (r : Built × List Bit)
    → before_word found (register_differences b mask i (x ∷ xs) (y ∷ ys)) ≡ r → (t : Bool) → has mask i ≡ t
    → before_word found (cond t (let d = each_of Xor b x y in let s = register_differences d.0 mask (i + 1) xs ys in (s.0, d.1 ++ s.1)) (register_differences b mask (i + 1) xs ys)) ≡ r
register_at b mask i x y xs ys found r e t h =
    ap (λ u. before_word found (cond u (let d = each_of Xor b x y in let s = register_differences d.0 mask (i + 1) xs ys in (s.0, d.1 ++ s.1)) (register_differences b mask (i + 1) xs ys))) (sym h) ∙ e

pub register_taken : (b c : Built) (mask i : ℕ) (x y : List Bit) (xs ys : List (List Bit)) (found more : List Bit) (r : Built × List Bit) → i < min (length xs) 4 → length xs ≡ length ys → get_or xs i x ≡ x → get_or ys i y ≡ y
    → has mask i ≡ true → (c, more) ≡ before_word found (each_of Xor b x y) → before_word found (register_differences b mask i (drop i (take 4 xs)) (drop i (take 4 ys))) ≡ r
    → before_word more (register_differences c mask (i + 1) (drop (i + 1) (take 4 xs)) (drop (i + 1) (take 4 ys))) ≡ r
register_taken b c mask i x y xs ys found more r h same ex ey on e f =
    let left = first_of_four i xs x x h ex in
    let right = first_of_four i ys y y (omega arith) ey in
    let xs4 = drop (i + 1) (take 4 xs) in
    let ys4 = drop (i + 1) (take 4 ys) in
    let d = each_of Xor b x y in
    let s = register_differences d.0 mask (i + 1) xs4 ys4 in
    ap (λ p. before_word p.1 (register_differences p.0 mask (i + 1) xs4 ys4)) e
    ∙ ap (λ l. (s.0, l)) (append_assoc found d.1 s.1)
    ∙ register_at b mask i x y xs4 ys4 found r (ap (λ l. before_word found (register_differences b mask i l (y ∷ ys4))) (sym left) ∙ ap (λ l. before_word found (register_differences b mask i (drop i (take 4 xs)) l)) (sym right) ∙ f) true on

pub register_passed : (b : Built) (mask i : ℕ) (xs ys : List (List Bit)) (found : List Bit) (r : Built × List Bit) → i < min (length xs) 4 → length xs ≡ length ys
    → has mask i ≡ false → before_word found (register_differences b mask i (drop i (take 4 xs)) (drop i (take 4 ys))) ≡ r
    → before_word found (register_differences b mask (i + 1) (drop (i + 1) (take 4 xs)) (drop (i + 1) (take 4 ys))) ≡ r
register_passed b mask i xs ys found r h same off f =
    let x = get_or xs i [] in
    let y = get_or ys i [] in
    let left = first_of_four i xs [] x h refl in
    let right = first_of_four i ys [] y (omega arith) refl in
    let xs4 = drop (i + 1) (take 4 xs) in
    let ys4 = drop (i + 1) (take 4 ys) in
    register_at b mask i x y xs4 ys4 found r (ap (λ l. before_word found (register_differences b mask i l (y ∷ ys4))) (sym left) ∙ ap (λ l. before_word found (register_differences b mask i (drop i (take 4 xs)) l)) (sym right) ∙ f) false off

pub all_gathered : (mask : ℕ) (x y : Bits) (b b0 b1 b2 b3 b4 : Built) (f0 f1 f2 f3 f4 : List Bit)
    → (b0, f0) ≡ register_differences b mask 0 (take 4 x.r) (take 4 y.r)
    → (b1, f1) ≡ before_word f0 (flag_difference b0 (has mask n_flag) x.n y.n)
    → (b2, f2) ≡ before_word f1 (flag_difference b1 (has mask z_flag) x.z y.z)
    → (b3, f3) ≡ before_word f2 (flag_difference b2 (has mask c_flag) x.c y.c)
    → (b4, f4) ≡ before_word f3 (flag_difference b3 (has mask v_flag) x.v y.v)
    → (b4, f4) ≡ differences b mask x y
all_gathered mask x y b b0 b1 b2 b3 b4 f0 f1 f2 f3 f4 e0 e1 e2 e3 e4 =
    let g1 = e1 ∙ ap (λ p. before_word p.1 (flag_difference p.0 (has mask n_flag) x.n y.n)) e0 in
    let g2 = e2 ∙ ap (λ p. before_word p.1 (flag_difference p.0 (has mask z_flag) x.z y.z)) g1 in
    let g3 = e3 ∙ ap (λ p. before_word p.1 (flag_difference p.0 (has mask c_flag) x.c y.c)) g2 in
    e4 ∙ ap (λ p. before_word p.1 (flag_difference p.0 (has mask v_flag) x.v y.v)) g3

-- both sides formed, one after the other
pub both_done : (w : List Bit) (left right : List Slot) (mask : ℕ) (b0 b1 b2 : Built) (s0 s1 l r : Bits) → s1 ≡ s0 → (b1, l) ≡ formed_all w b0 left s1 → (b2, r) ≡ formed_all w b1 right s0
    → differences b2 mask l r ≡ sides_from b0 s0 w left right mask
both_done w left right mask b0 b1 b2 s0 s1 l r et el er =
    let p : (b1, l) ≡ formed_all w b0 left s0 = el ∙ ap (formed_all w b0 left) et in
    ap (λ t. differences t.0 mask l t.1) er ∙ ap (λ t. let u = formed_all w t.0 right s0 in differences u.0 mask t.1 u.1) p
