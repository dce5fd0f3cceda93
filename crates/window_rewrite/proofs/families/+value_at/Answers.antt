use Rattle.std.proofs.Common.{◌≡◌, ◌∙◌, ℕ, suc, ◌-◌, ◌≤◌, true, false, List, [], ◌∷◌, length, drop, take, slice_index_or, ap, arith, refl, sym, subst}
use Rattle.std.specs.List.{list_any}
use Rattle.thumb_instr.specs.declared.instr.Instr.{Instr}
use Rattle.bit_blast.specs.Slots.{Byte, instance}
use Rattle.table_audit.specs.Families.{is_hole}
use Rattle.window_rewrite.specs.Families.{IsByteOf}
use Rattle.window_rewrite.proofs.Raised.{byte_first, rest_held, rest_same}
use Rattle.window_rewrite.proofs.families.+value_at.Goals as goal

-- what the first instructions tell
first_of : (n : ℕ) (left side : List Instr) (i other : Instr) (x : Byte) → 1 ≤ length left → 1 ≤ length side → i ≡ slice_index_or left 0 i → other ≡ slice_index_or side 0 other → is_hole n i ≡ true → instance n left x ≡ side → IsByteOf other x
first_of n [] side i other x a b e f h s = absurd (omega arith)
first_of n (j ∷ js) [] i other x a b e f h s = absurd (omega arith)
first_of n (j ∷ js) (k ∷ ks) i other x a b e f h s = subst (λ o. IsByteOf o x) (sym f) (byte_first n j k js ks x (subst (λ (o : Instr). is_hole n o ≡ true) e h) s)

whole : (is : List Instr) → take (length is) is ≡ is
whole [] = refl
whole (i ∷ is) = ap (λ js. i ∷ js) (whole is)

-- what is behind the first instruction, as the code has it
rest_all : (is : List Instr) → 1 ≤ length is → take (length is - 1) (drop 1 is) ≡ drop 1 is
rest_all [] h = absurd (omega arith)
rest_all (i ∷ is) h = ap (λ k. take k is) (let k : suc (length is) - 1 ≡ length is = omega arith in k) ∙ whole is

rest_is : (n : ℕ) (left side : List Instr) (x : Byte) → 1 ≤ length left → 1 ≤ length side → instance n left x ≡ side → instance n (drop 1 left) x ≡ drop 1 side
rest_is n [] side x a b s = absurd (omega arith)
rest_is n (j ∷ js) [] x a b s = absurd (omega arith)
rest_is n (j ∷ js) (k ∷ ks) x a b s = rest_same n j k js ks x s

rest_has : (n : ℕ) (left : List Instr) (i : Instr) → 1 ≤ length left → i ≡ slice_index_or left 0 i → is_hole n i ≡ false → list_any (is_hole n) left ≡ true → list_any (is_hole n) (drop 1 left) ≡ true
rest_has n [] i a e f h = absurd (omega arith)
rest_has n (j ∷ js) i a e f h = rest_held n j js (subst (λ (o : Instr). is_hole n o ≡ false) e f) h

pub returns-then-is_hole : goal.returns-then-is_hole
returns-then-is_hole t c = λ x held same.
    c.byte_of.ensures x (first_of c.args.number c.args.left.now c.args.side.now c.first-item.result c.other-item.result x c.in-len1-up.len_at_least c.in-len1-up-side.len_at_least c.first-item.is c.other-item.is (sym c.is_hole.ensures ∙ c.if-is_hole.true) same)

pub returns-else-is_hole : goal.returns-else-is_hole
returns-else-is_hole t c = λ x held same.
    let own = rest_all c.args.left.now c.in-len1-up.len_at_least in
    let other = rest_all c.args.side.now c.in-len1-up-side.len_at_least in
    c.value_at.ensures x
    (subst (λ (l : List Instr). list_any (is_hole c.args.number) l ≡ true) (sym own) (rest_has c.args.number c.args.left.now c.first-item.result c.in-len1-up.len_at_least c.first-item.is (sym c.is_hole.ensures ∙ c.if-is_hole.false) held))
    (ap (λ (l : List Instr). instance c.args.number l x) own ∙ rest_is c.args.number c.args.left.now c.args.side.now x c.in-len1-up.len_at_least c.in-len1-up-side.len_at_least same ∙ sym other)
