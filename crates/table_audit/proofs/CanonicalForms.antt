-- The canonical form of a window is a canonical side.
use Rattle.std.proofs.Common.{◌≡◌, ℕ, ◌<◌, ◌≤◌, ◌⊎◌, ◌==◌, ◌&&◌, Bool, true, false, inl, inr, List, [], ◌∷◌, Option, Some, None, slice_get, map, length, cond, refl, sym, ◌∙◌, ap, subst, arith, eq-eqb}
use Rattle.std.specs.List.{flat_map, list_all}
use Rattle.std.proofs.lemmas.Bool.{cases_Bool, and_parts, eqb-true}
use Rattle.std.proofs.lemmas.List.{length-map}
use Rattle.std.proofs.lemmas.Option.{slice_get_within}
use Rattle.thumb_instr.specs.declared.instr.Instr.{Instr}
use Rattle.thumb_instr.specs.declared.instr.Instr.TheVariants as instr
use Rattle.thumb_instr.specs.Items.{has as has_item, is_in_masks}
use Rattle.thumb_instr.specs.Window.{is_in_window, normal_of, byte_sum, byte_of, Low, named, renamed, low_under, item_under}
use Rattle.thumb_instr.proofs.RenamingLemmas.{low_number}
use Rattle.rule_table.specs.Canonical.{firsts, appearing, numbers_of, register_has, masked}
use Rattle.rule_table.proofs.Backs.{windows_normal}
use Rattle.table_audit.specs.Shorter.{named_count, IsCanonicalSide}
use Rattle.table_audit.specs.Canonical.{CanonicalFormIsSide}
use Rattle.window_exec.proofs.Differences.{either}
use Rattle.table_audit.proofs.Names.{count_same}
use Rattle.rule_table.proofs.Distinct.{AreDistinct, firsts_distinct}
use Rattle.table_audit.proofs.OneToOne.{firsts_below, firsts_mapped, one_to_one, counted_under}
use Rattle.thumb_instr.proofs.Shared.{windows_back, named_all}

-- ---- what is normal when it is renamed is normal itself ----

normal_again : (i : Instr) → normal_of (normal_of i) ≡ normal_of i
normal_again (instr.ThreeNumber s d n i) =
    elim (d.number == n.number) as (λ b. (d.number == n.number) ≡ b → normal_of (cond b (instr.TwoNumber (byte_sum s) d (byte_of i)) (instr.ThreeNumber s d n i)) ≡ cond b (instr.TwoNumber (byte_sum s) d (byte_of i)) (instr.ThreeNumber s d n i)) [
      | true ↦ λ e. refl
      | false ↦ λ e. rw e refl
    ] refl
normal_again i = refl

normals_again : (is : List Instr) → map normal_of (map normal_of is) ≡ map normal_of is
normals_again [] = refl
normals_again (i ∷ is) = ap (λ j. j ∷ map normal_of (map normal_of is)) (normal_again i) ∙ ap (λ js. normal_of i ∷ js) (normals_again is)

normal_under : (registers : List Low) (i : Instr) → normal_of (renamed registers i) ≡ renamed registers i → normal_of i ≡ i
normal_under registers (instr.ThreeNumber s d n i) h = elim (cases_Bool (d.number == n.number)) [
  | inl same ↦ (
      let one = low_under registers d in
      let other = low_under registers n in
      let equal : one.number ≡ other.number = low_number registers d ∙ ap (item_under registers) (eqb-true d.number n.number same) ∙ sym (low_number registers n) in
      let second : instr.TwoNumber (byte_sum s) one (byte_of i) ≡ instr.ThreeNumber s one other i =
      subst (λ b. cond b (instr.TwoNumber (byte_sum s) one (byte_of i)) (instr.ThreeNumber s one other i) ≡ instr.ThreeNumber s one other i) (eq-eqb one.number other.number equal) h in
      absurd (cc)
      )
  | inr apart ↦ rw apart refl
]
normal_under registers i h = refl

normals_under : (registers : List Low) (is : List Instr) → map normal_of (map (renamed registers) is) ≡ map (renamed registers) is → map normal_of is ≡ is
normals_under registers [] h = refl
normals_under registers (i ∷ is) h =
    let head : normal_of (renamed registers i) ≡ renamed registers i = cc in
    let tail : map normal_of (map (renamed registers) is) ≡ map (renamed registers) is = cc in
    ap (λ j. j ∷ map normal_of is) (normal_under registers i head) ∙ ap (λ js. i ∷ js) (normals_under registers is tail)

-- ---- masks ----

named_item : (items : ℕ) (order : List ℕ) (n x : ℕ) → (register_has items (slice_get order n) && (x == n)) ≡ true → x < length order
named_item items order n x h =
    let parts = and_parts (register_has items (slice_get order n)) (x == n) h in
    omega (arith, eqb-true x n parts.1, within (slice_get order n) refl parts.0)
  where
    within : (o : Option ℕ) → slice_get order n ≡ o → register_has items o ≡ true → n < length order
    within None e k = absurd (cc)
    within (Some r) e k = slice_get_within order n r e

flag_item : (b : Bool) (n x : ℕ) → 15 ≤ n → (b && (x == n)) ≡ true → 15 ≤ x
flag_item b n x high h = omega (arith, high, eqb-true x n (and_parts b (x == n) h).1)

masked_over : (items : ℕ) (order : List ℕ) (x : ℕ) → masked items order x ≡ true → (x < length order) ⊎ (15 ≤ x)
masked_over items order x h =
    either _ _
    (either _ _ (either _ _ (either _ _ (either _ _ (either _ _ (either _ _ (register 0) (register 1)) (register 2)) (register 3)) (flag 15 (omega arith))) (flag 16 (omega arith))) (flag 17 (omega arith)))
    (flag 18 (omega arith))
    (and_parts _ (is_in_masks x) h).0
  where
    register : (n : ℕ) → (register_has items (slice_get order n) && (x == n)) ≡ true → (x < length order) ⊎ (15 ≤ x)
    register n k = inl (named_item items order n x k)

    flag : (n : ℕ) → 15 ≤ n → (has_item items n && (x == n)) ≡ true → (x < length order) ⊎ (15 ≤ x)
    flag n high k = inr (flag_item (has_item items n) n x high k)

-- ---- the whole ----

pub form_is_side : CanonicalFormIsSide
form_is_side window items seq given mask w c =
    let normals = map normal_of window in
    let registers = c.registers in
    let order : numbers_of registers ≡ appearing normals = c.order in
    let size : length (numbers_of registers) ≡ length registers = length-map registers (λ r. r.number) in
    let few : length registers ≤ 4 = omega (arith, size, ap length order, w.registers) in
    let distinct : AreDistinct (numbers_of registers) = subst AreDistinct (sym order) (firsts_distinct [] (flat_map named normals) tt) in
    let windows : list_all is_in_window seq ≡ true =
    windows_back registers (length registers) seq (omega (arith, few)) c.below (ap (list_all is_in_window) c.under ∙ windows_normal window w.windows) in
    let normal : map normal_of seq ≡ seq = normals_under registers seq (ap (map normal_of) c.under ∙ normals_again window ∙ sym c.under) in
    let names : flat_map named normals ≡ map (item_under registers) (flat_map named seq) = ap (flat_map named) (sym c.under) ∙ named_all registers seq windows in
    let mapped : firsts [] (map (item_under registers) (flat_map named seq)) ≡ map (item_under registers) (appearing seq) =
    firsts_mapped (length registers) (item_under registers) (one_to_one registers distinct) [] (flat_map named seq) tt c.below in
    let taken : map (item_under registers) (appearing seq) ≡ numbers_of registers = sym mapped ∙ ap (firsts []) (sym names) ∙ sym order in
    let as_many : named_count seq ≡ length registers = sym (length-map (appearing seq) (item_under registers)) ∙ ap length taken ∙ size in
    let as_long : length seq ≡ length window = sym (length-map seq (renamed registers)) ∙ ap length c.under ∙ length-map window normal_of in
    let side : IsCanonicalSide seq = record {
      renamable = record {
        some = omega (arith, as_long, w.some);
        few = omega (arith, as_long, w.few);
        windows = windows;
        registers = subst (λ is. length (appearing is) ≤ 4) (sym normal) (omega (arith, as_many, few));
      };
      normal = normal;
      in_order = counted_under registers (appearing seq) distinct (firsts_below (length registers) [] (flat_map named seq) tt c.below) taken;
    } in
    record {
      canonical = side;
      counted = sym (count_same seq side.in_order);
      over = λ x h. elim (masked_over items (numbers_of registers) x (sym (c.masks x) ∙ h)) [
        | inl low ↦ inl (omega (arith, low, size, as_many))
        | inr high ↦ inr high
      ];
      as_long = as_long;
    }
