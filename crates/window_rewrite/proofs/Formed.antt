-- The canonical form of a window is each left side that stands in it, and where one fits, its mask has what is live.
use Rattle.std.proofs.Common.{◌≡◌, ℕ, zero, suc, ◌<◌, ◌≤◌, ◌==◌, ◌&&◌, true, false, List, [], ◌∷◌, ◌++◌, length, map, min, Option, Some, None, refl, sym, ap, ◌∙◌, subst, ◌⊎◌, inl, inr, arith, eqb-true}
use Rattle.std.specs.Prelude.{slice_get, bit_and}
use Rattle.std.specs.Int.{bit_at}
use Rattle.std.specs.List.{flat_map, list_all}
use Rattle.std.specs.Option.{option_map}
use Rattle.std.proofs.lemmas.Bool.{and_from, and_parts, cases_Bool, cases_lt, eq-eqb, or_left, or_right, true≢false}
use Rattle.std.proofs.lemmas.List.{length-map}
use Rattle.std.proofs.lemmas.Nat.Bits.{bit_at_and, bit_at-lt, same_from_bits}
use Rattle.std.proofs.lemmas.Option.{slice_get-map, slice_get_within}
use Rattle.thumb_instr.specs.declared.instr.Instr.{Instr}
use Rattle.thumb_instr.specs.declared.kind.Parts.{Parts}
use Rattle.thumb_instr.specs.declared.role.Role.{Role}
use Rattle.thumb_instr.specs.declared.role.Role.TheVariants.{Register}
use Rattle.thumb_instr.specs.Items.{has, is_in_masks}
use Rattle.thumb_instr.specs.Parts.{parts_of}
use Rattle.thumb_instr.specs.Roles.{roles}
use Rattle.thumb_instr.specs.Window.{is_in_window, normal_of, Low, named, named_by, renamed, AreBelow, item_under, number_or}
use Rattle.thumb_instr.proofs.PartLemmas.{same_parts, same_fields}
use Rattle.thumb_instr.proofs.RenamingLemmas.{below_parts}
use Rattle.thumb_instr.proofs.Bits.{has_none}
use Rattle.thumb_instr.proofs.Shared.{named_all}
use Rattle.thumb_model.specs.Effect.{one_of, register_count, IsOneToOne}
use Rattle.thumb_model.proofs.Shared.{one_of_map}
use Rattle.window_exec.proofs.Differences.{either}
use Rattle.rule_model.specs.Rules.{Rule, IsSoundRule}
use Rattle.rule_table.specs.Binding.{number_under}
use Rattle.rule_table.specs.Canonical.{appearing, firsts, numbers_of, register_has, masked, IsRenamable, IsCanonical}
use Rattle.rule_table.proofs.Renamings.{renamed_parts}
use Rattle.table_audit.specs.Shorter.{named_count, IsCanonicalSide}
use Rattle.table_audit.proofs.CanonicalForms.{form_is_side}
use Rattle.table_audit.proofs.Names.{count_same}
use Rattle.window_rewrite.specs.declared.forms.Form.{Form}
use Rattle.window_rewrite.specs.TableRewriting.{registers_of}
use Rattle.window_rewrite.specs.Fitting.{is_allowed, Stands, Fits, IsForm}
use Rattle.window_rewrite.specs.Forms.{form_of}
use Rattle.rule_table.proofs.Distinct.{AreDistinct, firsts_distinct}
use Rattle.table_audit.proofs.OneToOne.{firsts_mapped, one_to_one, IsOneToOneBelow}
use Rattle.window_rewrite.proofs.Sides.{apart, names_below, windows_over, order, register_at, window_count}
use Rattle.window_rewrite.proofs.Live.{allowed_true, true_allowed}
use Rattle.window_rewrite.proofs.Maps.{some_registers}
use Rattle.window_rewrite.proofs.Whole.{ComesOf, comes_of, one_is, past_none, register_one}
use Rattle.rule_table.proofs.Shared.{same_numbers}

-- ---- a window in which a left side stands has a canonical form ----

pub stands_renamable : (rule : Rule) (registers : List Low) (window : List Instr) → IsSoundRule rule → IsCanonicalSide rule.left → list_all is_in_window window ≡ true → Stands rule registers window → IsRenamable window
stands_renamable rule registers window s c w h =
    let n = window_count rule registers window h in
    let some = c.renamable.some in
    let few = c.renamable.few in
    let low = s.few in
    let as_many = h.as_many in
    let counted = ap (λ (xs : List ℕ). length xs) (order rule registers window s c h) in
    record {
      some = omega arith;
      few = omega arith;
      windows = w;
      registers = omega (arith, counted, length-map registers (λ r. r.number));
    }

-- ---- it is the left side ----

number_apart : (k : ℕ) (f : List Low) (r : Role) (m n : ℕ) → IsOneToOneBelow k (item_under f) → AreBelow k (named_by r m) → AreBelow k (named_by r n) → number_under f r m ≡ number_under f r n → m ≡ n
number_apart k f (Register u c) m n a b d e = a m n b.0 d.0 e
number_apart k f r m n a b d e = e

instr_apart : (k : ℕ) (f : List Low) (i j : Instr) → IsOneToOneBelow k (item_under f) → is_in_window i ≡ true → is_in_window j ≡ true → AreBelow k (named i) → AreBelow k (named j) → renamed f i ≡ renamed f j → i ≡ j
instr_apart k f i j a v w b d e =
    let p : Parts = parts_of i in
    let q : Parts = parts_of j in
    let under = sym (renamed_parts f i v) ∙ ap parts_of e ∙ renamed_parts f j w in
    let kinds : p.kind ≡ q.kind = ap (λ (x : Parts). x.kind) under in
    let r = roles p.kind in
    let own = below_parts k (named_by r.first p.first) (named_by r.second p.second ++ named_by r.third p.third) b in
    let own_rest = below_parts k (named_by r.second p.second) (named_by r.third p.third) own.1 in
    let there : AreBelow k (named_by r.first q.first ++ (named_by r.second q.second ++ named_by r.third q.third)) = subst (λ x. AreBelow k (named_by (roles x).first q.first ++ (named_by (roles x).second q.second ++ named_by (roles x).third q.third))) (sym kinds) d in
    let other = below_parts k (named_by r.first q.first) (named_by r.second q.second ++ named_by r.third q.third) there in
    let other_rest = below_parts k (named_by r.second q.second) (named_by r.third q.third) other.1 in
    let first : number_under f r.first p.first ≡ number_under f r.first q.first = ap (λ (x : Parts). x.first) under ∙ ap (λ x. number_under f (roles x).first q.first) (sym kinds) in
    let second : number_under f r.second p.second ≡ number_under f r.second q.second = ap (λ (x : Parts). x.second) under ∙ ap (λ x. number_under f (roles x).second q.second) (sym kinds) in
    let third : number_under f r.third p.third ≡ number_under f r.third q.third = ap (λ (x : Parts). x.third) under ∙ ap (λ x. number_under f (roles x).third q.third) (sym kinds) in
    same_parts i j (same_fields p q kinds
    (number_apart k f r.first p.first q.first a own.0 other.0 first)
    (number_apart k f r.second p.second q.second a own_rest.0 other_rest.0 second)
    (number_apart k f r.third p.third q.third a own_rest.1 other_rest.1 third))

side_apart : (k : ℕ) (f : List Low) (is js : List Instr) → IsOneToOneBelow k (item_under f) → list_all is_in_window is ≡ true → list_all is_in_window js ≡ true → AreBelow k (flat_map named is) → AreBelow k (flat_map named js)
    → map (renamed f) is ≡ map (renamed f) js → is ≡ js
side_apart k f [] [] a v w b d e = refl
side_apart k f [] (j ∷ js) a v w b d e = absurd (cc)
side_apart k f (i ∷ is) [] a v w b d e = absurd (cc)
side_apart k f (i ∷ is) (j ∷ js) a v w b d e =
    let head : renamed f i ≡ renamed f j = cc in
    let tail : map (renamed f) is ≡ map (renamed f) js = cc in
    let vs = and_parts (is_in_window i) (list_all is_in_window is) v in
    let ws = and_parts (is_in_window j) (list_all is_in_window js) w in
    let bs = below_parts k (named i) (flat_map named is) b in
    let ds = below_parts k (named j) (flat_map named js) d in
    ap (λ x. x ∷ is) (instr_apart k f i j a vs.0 ws.0 bs.0 ds.0 head) ∙ ap (λ xs. j ∷ xs) (side_apart k f is js a vs.1 ws.1 bs.1 ds.1 tail)

-- the map is the form's
same_map : (rule : Rule) (registers : List Low) (window : List Instr) (live : ℕ) (side : List Instr) (given : List (Option Low)) (mask : ℕ) → IsSoundRule rule → IsCanonicalSide rule.left → Stands rule registers window
    → (c : IsCanonical window live side given mask) → registers ≡ c.registers
same_map rule registers window live side given mask s c h f = same_numbers registers f.registers (order rule registers window s c h ∙ sym f.order)

form_is_left : (rule : Rule) (registers : List Low) (window : List Instr) (live : ℕ) (side : List Instr) (given : List (Option Low)) (mask : ℕ) → IsSoundRule rule → IsCanonicalSide rule.left → Stands rule registers window
    → IsRenamable window → IsCanonical window live side given mask → rule.left ≡ side
form_is_left rule registers window live side given mask s c h w f =
    let k = register_count rule.left in
    let same = same_map rule registers window live side given mask s c h f in
    let all : length registers ≡ k = h.as_many in
    let is_side = form_is_side window live side given mask w f in
    let below : AreBelow k (flat_map named side) = subst (λ n. AreBelow n (flat_map named side)) (ap (λ (rs : List Low). length rs) (sym same) ∙ all) f.below in
    let far : IsOneToOneBelow k (item_under registers) = subst (λ n. IsOneToOneBelow n (item_under registers)) all (apart registers h.one_to_one) in
    side_apart k registers rule.left side far (windows_over k rule.left s.left) is_side.canonical.renamable.windows (names_below k rule.left s.left) below
    (sym h.matches ∙ sym f.under ∙ ap (λ (rs : List Low). map (renamed rs) side) (sym same))

-- ---- masks ----

abbrev IsOne : ℕ → List ℕ → ℕ → Type 0
IsOne items order x = (register_has items (slice_get order x) ≡ true) ⊎ ((has items x ≡ true) × (15 ≤ x))

-- a masked item is a register that has this name, or a flag
masked_is_one : (items : ℕ) (order : List ℕ) (x : ℕ) → masked items order x ≡ true → IsOne items order x
masked_is_one items order x h =
    either _ _
    (either _ _ (either _ _ (either _ _ (either _ _ (either _ _ (either _ _ (register 0) (register 1)) (register 2)) (register 3)) (flag 15 (omega arith))) (flag 16 (omega arith))) (flag 17 (omega arith)))
    (flag 18 (omega arith))
    (and_parts _ (is_in_masks x) h).0
  where
    register : (n : ℕ) → (register_has items (slice_get order n) && (x == n)) ≡ true → IsOne items order x
    register n k =
        let both = and_parts (register_has items (slice_get order n)) (x == n) k in
        inl (ap (λ m. register_has items (slice_get order m)) (eqb-true x n both.1) ∙ both.0)

    flag : (n : ℕ) → 15 ≤ n → (has items n && (x == n)) ≡ true → IsOne items order x
    flag n high k =
        let both = and_parts (has items n) (x == n) k in
        let same : x ≡ n = eqb-true x n both.1 in
        inr (ap (has items) same ∙ both.0, omega arith)

-- and a register that has this name is masked
masked_register : (items : ℕ) (order : List ℕ) (n : ℕ) → n < 4 → register_has items (slice_get order n) ≡ true → masked items order n ≡ true
masked_register items order zero h e = rw e refl
masked_register items order (suc zero) h e = rw e (and_from _ _ (or_left _ _ (or_left _ _ (or_left _ _ (or_left _ _ (or_left _ _ (or_left _ _ (or_right _ _ refl))))))) refl)
masked_register items order (suc (suc zero)) h e = rw e (and_from _ _ (or_left _ _ (or_left _ _ (or_left _ _ (or_left _ _ (or_left _ _ (or_right _ _ refl)))))) refl)
masked_register items order (suc (suc (suc zero))) h e = rw e (and_from _ _ (or_left _ _ (or_left _ _ (or_left _ _ (or_left _ _ (or_right _ _ refl))))) refl)
masked_register items order (suc (suc (suc (suc n)))) h e = absurd (omega arith)

masked_flag : (items : ℕ) (order : List ℕ) (x : ℕ) → 15 ≤ x → x < 19 → has items x ≡ true → masked items order x ≡ true
masked_flag items order x h l e = elim (cases_lt x 16) [
  | inl n ↦ at (let is : x ≡ 15 = omega arith in is) (λ z. and_from _ _ (or_left _ _ (or_left _ _ (or_left _ _ (or_right _ _ (and_from _ _ z refl))))) refl)
  | inr a ↦ elim (cases_lt x 17) [
    | inl n ↦ at (let is : x ≡ 16 = omega arith in is) (λ z. and_from _ _ (or_left _ _ (or_left _ _ (or_right _ _ (and_from _ _ z refl)))) refl)
    | inr b ↦ elim (cases_lt x 18) [
      | inl n ↦ at (let is : x ≡ 17 = omega arith in is) (λ z. and_from _ _ (or_left _ _ (or_right _ _ (and_from _ _ z refl))) refl)
      | inr c ↦ at (let is : x ≡ 18 = omega arith in is) (λ z. and_from _ _ (or_right _ _ (and_from _ _ z refl)) refl)
    ]
  ]
]
  where
    at : {n : ℕ} → x ≡ n → (has items n ≡ true → masked items order n ≡ true) → masked items order x ≡ true
    at {n} is all = subst (λ (y : ℕ). masked items order y ≡ true) (sym is) (all (ap (has items) (sym is) ∙ e))

-- an item of the mask is determined by what it becomes under the map
own_item : (rule : Rule) (registers : List Low) (x y : ℕ) → IsSoundRule rule → IsOneToOneBelow (register_count rule.left) (item_under registers) → length registers ≡ register_count rule.left
    → (x < register_count rule.left) ⊎ (15 ≤ x) → item_under registers x ≡ y → ComesOf (item_under registers) rule.mask y → one_of x rule.mask ≡ true
own_item rule registers x y s far all (inl low) e c = elim (s.mask c.from c.among) [
  | inl l ↦ ap (λ z. one_of z rule.mask) (far x c.from low l (e ∙ sym c.is)) ∙ c.among
  | inr h ↦ absurd (
      let r = register_at registers x (omega arith) in
      let few = s.few in
      let below = r.register.below in
      let own : item_under registers x ≡ r.register.number = ap (λ o. number_or o x) r.is in
      let high : item_under registers c.from ≡ c.from = past_none registers c.from (omega (arith, h.0, few, all)) in
      omega (arith, own, high, below, h.0, e, c.is))
]
own_item rule registers x y s far all (inr flag) e c = elim (s.mask c.from c.among) [
  | inl l ↦ absurd (
      let r = register_at registers c.from (omega arith) in
      let few = s.few in
      let below = r.register.below in
      let own : item_under registers c.from ≡ r.register.number = ap (λ o. number_or o c.from) r.is in
      let high : item_under registers x ≡ x = past_none registers x (omega (arith, flag, few, all)) in
      omega (arith, own, high, below, flag, e, c.is))
  | inr h ↦ (
      let few = s.few in
      let high : item_under registers x ≡ x = past_none registers x (omega (arith, flag, few, all)) in
      let own : item_under registers c.from ≡ c.from = past_none registers c.from (omega (arith, h.0, few, all)) in
      ap (λ z. one_of z rule.mask) (let same : x ≡ c.from = omega (arith, high, own, e, c.is) in same) ∙ c.among
      )
]

fits_mask : (rule : Rule) (registers : List Low) (window : List Instr) (live : ℕ) (x : ℕ) → IsSoundRule rule → Fits rule registers window live → masked live (numbers_of registers) x ≡ true → one_of x rule.mask ≡ true
fits_mask rule registers window live x s f h =
    let k = register_count rule.left in
    let all : length registers ≡ k = f.stands.as_many in
    let far : IsOneToOneBelow k (item_under registers) = subst (λ n. IsOneToOneBelow n (item_under registers)) all (apart registers f.stands.one_to_one) in
    elim (masked_is_one live (numbers_of registers) x h) [
      | inl n ↦ register (slice_get registers x) refl (ap (register_has live) (sym (slice_get-map (λ r. r.number) registers x)) ∙ n) far all
      | inr g ↦ flag g.0 g.1 far all
    ]
  where
    register : (o : Option Low) → slice_get registers x ≡ o → register_has live (option_map (λ r. r.number) (slice_get registers x)) ≡ true → IsOneToOneBelow (register_count rule.left) (item_under registers) → length registers ≡ register_count rule.left → one_of x rule.mask ≡ true
    register None e n far all = absurd (let bad : false ≡ true = sym (ap (λ o. register_has live (option_map (λ r. r.number) o)) e) ∙ n in cc)
    register (Some r) e n far all =
        let there : has live r.number ≡ true = sym (ap (λ o. register_has live (option_map (λ r. r.number) o)) e) ∙ n in
        let within = slice_get_within registers x r e in
        elim (allowed_true rule.mask registers r.number (f.allowed r.number there)) [
          | inl m ↦ own_item rule registers x r.number s far all (inl (omega arith)) (ap (λ o. number_or o x) e) (comes_of (item_under registers) rule.mask r.number m)
          | inr o ↦ absurd (let bad : true ≡ false = sym (register_one registers x r e) ∙ o.1 in cc)
        ]

    flag : has live x ≡ true → 15 ≤ x → IsOneToOneBelow (register_count rule.left) (item_under registers) → length registers ≡ register_count rule.left → one_of x rule.mask ≡ true
    flag there high far all =
        let few = s.few in
        let own : item_under registers x ≡ x = past_none registers x (omega (arith, high, few, all)) in
        elim (allowed_true rule.mask registers x (f.allowed x there)) [
          | inl m ↦ own_item rule registers x x s far all (inr high) own (comes_of (item_under registers) rule.mask x m)
          | inr o ↦ absurd (omega (arith, o.0, high))
        ]

-- ---- the form of a window ----

-- the registers of its canonical form
own_registers : (window : List Instr) (f : Form) (formed : IsForm window f) → formed.canonical.registers ≡ f.registers.items
own_registers window f formed = sym (some_registers formed.canonical.registers) ∙ ap registers_of (sym formed.canonical.is_given) ∙ some_registers f.registers.items

pub is_form : (window : List Instr) (f : Form) (side : List Instr) (given : List (Option Low)) → f.side ≡ side → f.number ≡ form_of side → f.registers.items ≡ registers_of given → IsRenamable window → IsCanonical window f.live.bits side given f.mask.items.bits → IsForm window f
is_form window f side given own is registers w c = record {
  renamable = w;
  canonical = subst (λ (l : List Instr). IsCanonical window f.live.bits l (map Some f.registers.items) f.mask.items.bits) (sym own) (record {
    registers = c.registers;
    is_given = ap (map Some) (registers ∙ ap registers_of c.is_given ∙ some_registers c.registers);
    order = c.order;
    under = c.under;
    below = c.below;
    masks = c.masks;
  });
  number = is ∙ ap form_of (sym own);
}

module _ (rule : Rule) (window : List Instr) (f : Form) (s : IsSoundRule rule) (left : IsCanonicalSide rule.left) (formed : IsForm window f) where
  abbrev form : IsCanonical window f.live.bits f.side (map Some f.registers.items) f.mask.items.bits
  form = formed.canonical

  -- a left side that stands there is its side, with its registers
  pub form_side : (registers : List Low) → Stands rule registers window → rule.left ≡ f.side
  form_side registers h = form_is_left rule registers window f.live.bits f.side (map Some f.registers.items) f.mask.items.bits s left h formed.renamable form

  pub form_number : (registers : List Low) → Stands rule registers window → form_of rule.left ≡ f.number
  form_number registers h = ap form_of (form_side registers h) ∙ sym formed.number

  pub form_registers : (registers : List Low) → Stands rule registers window → registers ≡ f.registers.items
  form_registers registers h = same_map rule registers window f.live.bits f.side (map Some f.registers.items) f.mask.items.bits s left h form ∙ own_registers window f formed

  -- and where it fits, its mask has what the form's mask has
  pub form_mask : (registers : List Low) (x : ℕ) → Fits rule registers window f.live.bits → has f.mask.items.bits x ≡ true → one_of x rule.mask ≡ true
  form_mask registers x h there =
      fits_mask rule registers window f.live.bits x s h
      (ap (λ (rs : List Low). masked f.live.bits (numbers_of rs) x) (same_map rule registers window f.live.bits f.side (map Some f.registers.items) f.mask.items.bits s left h.stands form) ∙ sym (form.masks x) ∙ there)

  -- ---- the other way round ----

  module _ (same : rule.left ≡ f.side) where
    distinct : AreDistinct (numbers_of form.registers)
    distinct = subst AreDistinct (sym form.order) (firsts_distinct [] (flat_map named (map normal_of window)) tt)

    -- so many registers as the left side names
    as_many : length form.registers ≡ register_count rule.left
    as_many =
        let windows : list_all is_in_window f.side ≡ true = subst (λ (is : List Instr). list_all is_in_window is ≡ true) same (windows_over (register_count rule.left) rule.left s.left) in
        let names : flat_map named (map normal_of window) ≡ map (item_under form.registers) (flat_map named f.side) = ap (flat_map named) (sym form.under) ∙ named_all form.registers f.side windows in
        let mapped = firsts_mapped (length form.registers) (item_under form.registers) (one_to_one form.registers distinct) [] (flat_map named f.side) tt form.below in
        let taken : map (item_under form.registers) (appearing f.side) ≡ numbers_of form.registers = sym mapped ∙ ap (firsts []) (sym names) ∙ sym form.order in
        sym (length-map form.registers (λ r. r.number)) ∙ ap (λ (xs : List ℕ). length xs) (sym taken) ∙ length-map (appearing f.side) (item_under form.registers)
        ∙ ap (λ (is : List Instr). named_count is) (sym same) ∙ sym (count_same rule.left left.in_order)

    apart_there : IsOneToOne form.registers
    apart_there = record {
      distinct = λ j k r e z g h.
          one_to_one form.registers distinct j k (slice_get_within form.registers j r e) (slice_get_within form.registers k z g) (ap (λ o. number_or o j) e ∙ h ∙ sym (ap (λ o. number_or o k) g));
    }

    -- a left side that is the form's side stands in the window
    pub form_stands : Stands rule f.registers.items window
    form_stands = subst (λ (rs : List Low). Stands rule rs window) (own_registers window f formed) (record {
      as_many = as_many;
      one_to_one = apart_there;
      matches = sym form.under ∙ ap (map (renamed form.registers)) (sym same);
    })

    own_few : length f.registers.items ≤ 4
    own_few = let few = s.few in let many = form_stands.as_many in omega arith

    -- what the form's mask has becomes what is live
    becomes : ((x : ℕ) → has f.mask.items.bits x ≡ true → one_of x rule.mask ≡ true) → (n x : ℕ) → masked f.live.bits (numbers_of form.registers) n ≡ true → item_under f.registers.items n ≡ x
        → is_allowed rule.mask f.registers.items x ≡ true
    becomes masks n x there is = true_allowed rule.mask f.registers.items x
        (inl (subst (λ y. one_of y (map (item_under f.registers.items) rule.mask) ≡ true) is (one_of_map (item_under f.registers.items) n rule.mask (masks n (form.masks n ∙ there)))))

    -- and where the rule's mask has all of the form's mask, what is live may be live
    pub form_allowed : ((x : ℕ) → has f.mask.items.bits x ≡ true → one_of x rule.mask ≡ true) → (x : ℕ) → has f.live.bits x ≡ true → is_allowed rule.mask f.registers.items x ≡ true
    form_allowed masks x live = elim (cases_Bool (one_of x (map (λ r. r.number) f.registers.items))) [
      | inl t ↦ (
          let o = one_is f.registers.items x t in
          let at : slice_get form.registers o.place ≡ Some o.register = ap (λ (rs : List Low). slice_get rs o.place) (own_registers window f formed) ∙ o.at in
          let there : register_has f.live.bits (slice_get (numbers_of form.registers) o.place) ≡ true =
          ap (register_has f.live.bits) (slice_get-map (λ r. r.number) form.registers o.place ∙ ap (option_map (λ r. r.number)) at) ∙ ap (has f.live.bits) (sym o.is) ∙ live in
          becomes masks o.place x (masked_register f.live.bits (numbers_of form.registers) o.place (omega (arith, slice_get_within f.registers.items o.place o.register o.at, own_few)) there) (ap (λ z. number_or z o.place) o.at ∙ sym o.is)
          )
      | inr n ↦ elim (cases_lt x 15) [
        | inl low ↦ true_allowed rule.mask f.registers.items x (inr (low, n))
        | inr high ↦ elim (cases_lt x 19) [
          | inl below ↦ becomes masks x x (masked_flag f.live.bits (numbers_of form.registers) x high below live) (past_none f.registers.items x (omega (arith, own_few, high)))
          | inr past ↦ absurd (true≢false (sym live ∙ has_none f.live.bits x f.live.is_small past))
        ]
      ]
    ]

-- ---- bits ----

low_bit : (m n : ℕ) → m < 2 → n < 2 → ((m == 1) ≡ true → (n == 1) ≡ true) → min m n ≡ m
low_bit zero n h k f = omega arith
low_bit (suc zero) n h k f = let one : n ≡ 1 = eqb-true n 1 (f refl) in omega (arith, one)
low_bit (suc (suc m)) n h k f = absurd (omega arith)

-- a set is its intersection with one that contains it
pub shares_all : (a b : ℕ) → ((x : ℕ) → has a x ≡ true → has b x ≡ true) → bit_and a b ≡ a
shares_all a b h = same_from_bits (bit_and a b) a (λ i. bit_at_and a b i ∙ low_bit (bit_at a i) (bit_at b i) (bit_at-lt a i) (bit_at-lt b i) (h i))

-- and one whose intersection with it is the set contains the set
pub has_shared : (a b x : ℕ) → bit_and a b ≡ a → has a x ≡ true → has b x ≡ true
has_shared a b x h one =
    let below = bit_at-lt b x in
    let least : min (bit_at a x) (bit_at b x) ≡ bit_at a x = sym (bit_at_and a b x) ∙ ap (λ w. bit_at w x) h in
    eq-eqb (bit_at b x) 1 (omega (arith, below, least, eqb-true (bit_at a x) 1 one))
