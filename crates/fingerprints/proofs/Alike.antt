-- Sequences that no state tells apart have equal prints.
use Rattle.std.proofs.Common.{◌≡◌, ℕ, zero, suc, ◌+◌, ◌*◌, ◌%◌, ◌<◌, ◌≤◌, ◌^◌, ◌==◌, inl, inr, Bool, true, false, List, [], ◌∷◌, length, map, get_or, fold, bit_and, min, refl, sym, ◌∙◌, ap, arith}
use Rattle.std.specs.Prelude.{All, if◌then◌else◌}
use Rattle.std.specs.Int.{bit_at, from_bool}
use Rattle.std.proofs.lemmas.Bool.{cases_eq, cases_lt, cases_Bool}
use Rattle.std.proofs.lemmas.List.{get_or_past}
use Rattle.std.proofs.lemmas.List.Elements.{All-head, All-tail}
use Rattle.std.proofs.lemmas.Nat.{and_le_r}
use Rattle.std.proofs.lemmas.Nat.Bits.{bit_at-lt, bit_at_and, same_from_bits_below}
use Rattle.thumb_instr.specs.declared.instr.Instr.{Instr}
use Rattle.thumb_instr.specs.Items.{has}
use Rattle.thumb_model.specs.Effect.{Values, n_flag, z_flag, c_flag, v_flag, after_all}
use Rattle.thumb_model.proofs.Held.{AreHeld, bool_small}
use Rattle.thumb_model.proofs.Window.{held_after}
use Rattle.window_exec.specs.declared.state.WState.{WState}
use Rattle.window_exec.specs.State.{values_of}
use Rattle.fingerprints.specs.Print.{mixed, one_if, nzcv_of, in_mask, words_of, with_words, print_from, print_after}
use Rattle.fingerprints.specs.Laws.{IsState, AreUntold}

-- ---- registers hold words and flags hold bits, also after a sequence

either : (b : Bool) (p q m : ℕ) → p < m → q < m → (if b then p else q) < m
either true p q m h k = h
either false p q m h k = k

state_held : (s : WState) → IsState s → AreHeld (values_of s)
state_held s h = record {
  words = record { register = register; flag = flag };
  stack = ap (λ n. n % 4) (past 13 (omega (arith, h.0)));
}
  where
    past : (x : ℕ) → length s.r ≤ x → get_or s.r x 0 ≡ 0
    past x l = get_or_past s.r x 0 l

    word : (x : ℕ) → get_or s.r x 0 < 2 ^ 32
    word x = elim (cases_lt x (length s.r)) [ inl l ↦ h.1 x 0 l | inr l ↦ rw (past x l) (omega arith) ]

    -- a bound on a register's word is one on the item's value, also where the item is a flag
    within : (x m : ℕ) → 2 ≤ m → get_or s.r x 0 < m → values_of s x < m
    within x m two l =
        let bit : (i : ℕ) → bit_at s.nzcv i < m = λ i. omega (arith, bit_at-lt s.nzcv i, two) in
        either (x == n_flag) _ _ m (bit 3) (either (x == z_flag) _ _ m (bit 2) (either (x == c_flag) _ _ m (bit 1) (either (x == v_flag) _ _ m (bit 0) l)))

    register : (x : ℕ) → x < 15 → values_of s x < 2 ^ 32
    register x l = within x (2 ^ 32) (omega arith) (word x)

    flag : (x : ℕ) → 15 ≤ x → values_of s x < 2
    flag x l = within x 2 (omega arith) (rw (past x (omega (arith, h.0))) (omega arith))

-- ---- words of states that are the same under the mask

one_if_alike : (t : Bool) (x y : ℕ) → (t ≡ true → x ≡ y) → one_if t x ≡ one_if t y
one_if_alike true x y h = ap (λ n. n ∷ []) (h refl)
one_if_alike false x y h = refl

-- four bits, and each of them
nibble_bits : (n z c v : ℕ) → n < 2 → z < 2 → c < 2 → v < 2 → (bit_at (n * 8 + z * 4 + c * 2 + v) 3 ≡ n) × (bit_at (n * 8 + z * 4 + c * 2 + v) 2 ≡ z) × (bit_at (n * 8 + z * 4 + c * 2 + v) 1 ≡ c) × (bit_at (n * 8 + z * 4 + c * 2 + v) 0 ≡ v)
nibble_bits n z c v hn hz hc hv = (omega arith, omega arith, omega arith, omega arith)

mask_bit : (mask x : ℕ) → in_mask mask x < 2
mask_bit mask x = bool_small (has mask x)

-- a bit that a mask may clear
bit_alike : (mask x a b : ℕ) → (has mask x ≡ true → a ≡ b) → min a (in_mask mask x) ≡ min b (in_mask mask x)
bit_alike mask x a b h = elim (cases_Bool (has mask x)) [
  | inl t ↦ ap (λ n. min n (in_mask mask x)) (h t)
  | inr f ↦ (let z : in_mask mask x ≡ 0 = ap from_bool f in omega arith)
]

flags_alike : (mask : ℕ) (a b : Values) → AreHeld a → AreHeld b → ((x : ℕ) → has mask x ≡ true → a x ≡ b x)
    → bit_and (nzcv_of a) (nzcv_of (in_mask mask)) ≡ bit_and (nzcv_of b) (nzcv_of (in_mask mask))
flags_alike mask a b ha hb same =
    let m : nzcv_of (in_mask mask) < 2 ^ 4 = omega (arith, mask_bit mask n_flag, mask_bit mask z_flag, mask_bit mask c_flag, mask_bit mask v_flag) in
    let na : bit_and (nzcv_of a) (nzcv_of (in_mask mask)) < 2 ^ 4 = omega (arith, m, and_le_r (nzcv_of a) (nzcv_of (in_mask mask))) in
    let nb : bit_and (nzcv_of b) (nzcv_of (in_mask mask)) < 2 ^ 4 = omega (arith, m, and_le_r (nzcv_of b) (nzcv_of (in_mask mask))) in
    same_from_bits_below 4 (bit_and (nzcv_of a) (nzcv_of (in_mask mask))) (bit_and (nzcv_of b) (nzcv_of (in_mask mask))) na nb
    (λ i l. bit_at_and (nzcv_of a) (nzcv_of (in_mask mask)) i ∙ each i l ∙ sym (bit_at_and (nzcv_of b) (nzcv_of (in_mask mask)) i))
  where
    fa : (x : ℕ) → 15 ≤ x → a x < 2
    fa x l = ha.words.flag x l

    fb : (x : ℕ) → 15 ≤ x → b x < 2
    fb x l = hb.words.flag x l

    pa : (bit_at (nzcv_of a) 3 ≡ a n_flag) × (bit_at (nzcv_of a) 2 ≡ a z_flag) × (bit_at (nzcv_of a) 1 ≡ a c_flag) × (bit_at (nzcv_of a) 0 ≡ a v_flag)
    pa = nibble_bits (a n_flag) (a z_flag) (a c_flag) (a v_flag) (fa n_flag (omega arith)) (fa z_flag (omega arith)) (fa c_flag (omega arith)) (fa v_flag (omega arith))

    pb : (bit_at (nzcv_of b) 3 ≡ b n_flag) × (bit_at (nzcv_of b) 2 ≡ b z_flag) × (bit_at (nzcv_of b) 1 ≡ b c_flag) × (bit_at (nzcv_of b) 0 ≡ b v_flag)
    pb = nibble_bits (b n_flag) (b z_flag) (b c_flag) (b v_flag) (fb n_flag (omega arith)) (fb z_flag (omega arith)) (fb c_flag (omega arith)) (fb v_flag (omega arith))

    pm : (bit_at (nzcv_of (in_mask mask)) 3 ≡ in_mask mask n_flag) × (bit_at (nzcv_of (in_mask mask)) 2 ≡ in_mask mask z_flag) × (bit_at (nzcv_of (in_mask mask)) 1 ≡ in_mask mask c_flag) × (bit_at (nzcv_of (in_mask mask)) 0 ≡ in_mask mask v_flag)
    pm = nibble_bits (in_mask mask n_flag) (in_mask mask z_flag) (in_mask mask c_flag) (in_mask mask v_flag) (mask_bit mask n_flag) (mask_bit mask z_flag) (mask_bit mask c_flag) (mask_bit mask v_flag)

    each : (i : ℕ) → i < 4 → min (bit_at (nzcv_of a) i) (bit_at (nzcv_of (in_mask mask)) i) ≡ min (bit_at (nzcv_of b) i) (bit_at (nzcv_of (in_mask mask)) i)
    each zero l = rw (pa.3, pb.3, pm.3) (bit_alike mask v_flag (a v_flag) (b v_flag) (same v_flag))
    each (suc zero) l = rw (pa.2, pb.2, pm.2) (bit_alike mask c_flag (a c_flag) (b c_flag) (same c_flag))
    each (suc (suc zero)) l = rw (pa.1, pb.1, pm.1) (bit_alike mask z_flag (a z_flag) (b z_flag) (same z_flag))
    each (suc (suc (suc zero))) l = rw (pa.0, pb.0, pm.0) (bit_alike mask n_flag (a n_flag) (b n_flag) (same n_flag))
    each (suc (suc (suc (suc i)))) l = absurd (omega arith)

words_alike : (mask : ℕ) (a b : Values) → AreHeld a → AreHeld b → ((x : ℕ) → has mask x ≡ true → a x ≡ b x) → words_of mask a ≡ words_of mask b
unfolding words_of
words_alike mask a b ha hb same =
    rw (one_if_alike (has mask 0) (a 0) (b 0) (same 0), one_if_alike (has mask 1) (a 1) (b 1) (same 1), one_if_alike (has mask 2) (a 2) (b 2) (same 2), one_if_alike (has mask 3) (a 3) (b 3) (same 3), flags_alike mask a b ha hb same) refl

with_words_alike : (mask h : ℕ) (a b : Values) → words_of mask a ≡ words_of mask b → with_words mask h a ≡ with_words mask h b
unfolding with_words
with_words_alike mask h a b e = ap (fold mixed h) e

prints_alike : (states : List WState) (left right : List Instr) (mask h : ℕ) → All IsState states → AreUntold states left right mask
    → print_from mask h (map (after_all left) (map values_of states)) ≡ print_from mask h (map (after_all right) (map values_of states))
prints_alike [] left right mask h are untold = refl
prints_alike (s ∷ ss) left right mask h are untold =
    let held = state_held s (All-head IsState s ss are) in
    let v = values_of s in
    let same : (x : ℕ) → has mask x ≡ true → after_all left v x ≡ after_all right v x = λ x t. elim (cases_eq (after_all left v x) (after_all right v x)) [
      | inl e ↦ e
      | inr d ↦ absurd (untold 0 s (omega arith) (x, t, d))
    ] in
    let first = with_words_alike mask h (after_all left v) (after_all right v) (words_alike mask (after_all left v) (after_all right v) (held_after left v held) (held_after right v held) same) in
    ap (λ p. print_from mask p (map (after_all left) (map values_of ss))) first
    ∙ prints_alike ss left right mask (with_words mask h (after_all right v)) (All-tail IsState s ss are) (λ k d l. untold (suc k) d (omega arith))

pub untold_alike : (states : List WState) (left right : List Instr) (mask : ℕ) → All IsState states → AreUntold states left right mask → print_after mask (map values_of states) left ≡ print_after mask (map values_of states) right
untold_alike states left right mask are untold = prints_alike states left right mask 0 are untold
