-- Registers in order of first appearance: r0, r1 and so on, or astray.
use Rattle.std.proofs.Common.{◌≡◌, ℕ, zero, suc, ◌+◌, ◌-◌, ◌<◌, ◌≤◌, ◌==◌, true, false, inl, inr, List, [], ◌∷◌, ◌++◌, Some, slice_get, length, refl, sym, ◌∙◌, ap, subst, arith, cond, zero-add, get_or, drop, length-append}
use Rattle.std.specs.List.{flat_map, list_all}
use Rattle.std.proofs.lemmas.Option.{same_Some, slice_get_within}
use Rattle.std.proofs.lemmas.Bool.{eq-eqb, eqb-true, cases_Bool, and_parts}
use Rattle.seq_enum.specs.Alphabet.{numbers_from}
use Rattle.seq_enum.proofs.Numbered.{numbers_at, get_back}
use Rattle.thumb_instr.specs.Window.{Low, named, is_in_window}
use Rattle.thumb_instr.specs.declared.instr.Instr.{Instr}
use Rattle.thumb_instr.specs.declared.instr.Instr.TheVariants as instr
use Rattle.rule_table.specs.Canonical.{firsts, has, with_first, numbers_of, appearing}
use Rattle.rule_table.proofs.Orders.{low-step, instr-step, firsts-grows}
use Rattle.table_audit.specs.Shorter.{named_count}
use Rattle.table_audit.specs.Orders.{IsAstray, IsInOrder}
use Rattle.common_lemmas.proofs.Lists.{get_front}
use Rattle.seq_enum.proofs.CostLines.{length-from}
use Rattle.seq_enum.proofs.Weighing.{numbers_split}

-- ---- r0, r1 and so on ----

pub has_low : (first count r : ℕ) → first ≤ r → r < first + count → has (numbers_from first count) r ≡ true
unfolding numbers_from
has_low first zero r h k = absurd (omega arith)
has_low first (suc count) r h k = elim (cases_Bool (first == r)) [
  | inl same ↦ rw same refl
  | inr other ↦ (
      let apart : first ≡ r → ⊥ = λ e. (let yes : (first == r) ≡ true = eq-eqb first r e in absurd (cc)) in
      rw other (has_low (suc first) count r (omega (arith, apart)) (omega arith))
      )
]

has_high : (first count r : ℕ) → first + count ≤ r → has (numbers_from first count) r ≡ false
unfolding numbers_from
has_high first zero r h = refl
has_high first (suc count) r h =
    let other : (first == r) ≡ false = elim (cases_Bool (first == r)) [
      | inl same ↦ absurd (omega (arith, eqb-true first r same))
      | inr other ↦ other
    ] in
    rw other (has_high (suc first) count r (omega arith))

-- one that is there already changes nothing, and the next one makes one more
pub with_low : (count r : ℕ) → r < count → with_first (numbers_from 0 count) r ≡ numbers_from 0 count
with_low count r h = rw (has_low 0 count r (omega arith) (omega arith)) refl

pub with_next : (count : ℕ) → with_first (numbers_from 0 count) count ≡ numbers_from 0 (count + 1)
unfolding numbers_from
with_next count = rw (has_high 0 count count (omega arith)) (sym (numbers_split 0 count 1 ∙ ap (λ m. numbers_from 0 count ++ numbers_from m 1) (zero-add count)))

-- ---- astray ----

-- a later one is astray
pub with_astray : (count r : ℕ) → count < r → IsAstray (with_first (numbers_from 0 count) r)
with_astray count r h =
    let no : has (numbers_from 0 count) r ≡ false = has_high 0 count r (omega arith) in
    let last : count - length (numbers_from 0 count) ≡ 0 = omega (arith, length-from 0 count) in
    rw no (record {
      place = count;
      register = r;
      stands = get_back (numbers_from 0 count) (r ∷ []) count (omega (arith, length-from 0 count)) ∙ ap (slice_get (r ∷ [])) last;
      elsewhere = λ e. omega (arith, e, h);
    })

-- what is astray stays so
astray_more : (seen : List ℕ) (r : ℕ) → IsAstray seen → IsAstray (with_first seen r)
astray_more seen r a =
    elim (has seen r) as (λ b. IsAstray (cond b seen (seen ++ r ∷ []))) [
      | true ↦ a
      | false ↦ record {
        place = a.place;
        register = a.register;
        stands = get_front seen (r ∷ []) a.place (slice_get_within seen a.place a.register a.stands) ∙ a.stands;
        elsewhere = a.elsewhere;
      }
    ]

pub astray_stays : (seen rs : List ℕ) → IsAstray seen → IsAstray (firsts seen rs)
unfolding firsts
astray_stays seen [] a = a
astray_stays seen (r ∷ rs) a = astray_stays (with_first seen r) rs (astray_more seen r a)

-- and is not r0, r1 and so on
pub not_astray : (count : ℕ) → IsAstray (numbers_from 0 count) → ⊥
not_astray count a =
    let low : a.place < count = omega (arith, slice_get_within (numbers_from 0 count) a.place a.register a.stands, length-from 0 count) in
    a.elsewhere (same_Some _ _ (sym (numbers_at 0 count a.place low ∙ ap Some (zero-add a.place)) ∙ a.stands))

-- ---- a loop over registers ----

-- a register past the next one makes the whole list astray
pub order_fault : (seen i : ℕ) (rs : List Low) (r : Low) (whole : List ℕ) → i < length rs → r ≡ get_or rs i r → seen < r.number
    → firsts (numbers_from 0 seen) (numbers_of (drop i rs)) ≡ whole → IsAstray whole
order_fault seen i rs r whole low is far same =
    let later : seen < (get_or rs i r).number = subst (λ (x : Low). seen < x.number) is far in
    subst IsAstray (sym (low-step (numbers_from 0 seen) rs i r low) ∙ same) (astray_stays (with_first (numbers_from 0 seen) (get_or rs i r).number) (numbers_of (drop (i + 1) rs)) (with_astray seen (get_or rs i r).number later))

-- one that was seen changes nothing
pub order_seen : (seen i : ℕ) (rs : List Low) (r : Low) (whole : List ℕ) → i < length rs → r ≡ get_or rs i r → r.number < seen
    → firsts (numbers_from 0 seen) (numbers_of (drop i rs)) ≡ whole → firsts (numbers_from 0 seen) (numbers_of (drop (i + 1) rs)) ≡ whole
order_seen seen i rs r whole low is near same =
    let earlier : (get_or rs i r).number < seen = subst (λ (x : Low). x.number < seen) is near in
    sym (ap (λ ns. firsts ns (numbers_of (drop (i + 1) rs))) (with_low seen (get_or rs i r).number earlier)) ∙ sym (low-step (numbers_from 0 seen) rs i r low) ∙ same

-- the next one makes one more
pub order_next : (seen i : ℕ) (rs : List Low) (r : Low) (whole : List ℕ) → i < length rs → r ≡ get_or rs i r → r.number ≡ seen
    → firsts (numbers_from 0 seen) (numbers_of (drop i rs)) ≡ whole → firsts (numbers_from 0 (seen + 1)) (numbers_of (drop (i + 1) rs)) ≡ whole
order_next seen i rs r whole low is here same =
    let next : (get_or rs i r).number ≡ seen = sym (ap (λ (x : Low). x.number) is) ∙ here in
    sym (ap (λ ns. firsts ns (numbers_of (drop (i + 1) rs))) (ap (with_first (numbers_from 0 seen)) next ∙ with_next seen)) ∙ sym (low-step (numbers_from 0 seen) rs i r low) ∙ same

-- ---- a loop over instructions ----

pub names_fault : (count i : ℕ) (is : List Instr) (d : Instr) (names whole : List ℕ) → i < length is → names ≡ named (get_or is i d)
    → IsAstray (firsts (numbers_from 0 count) names) → firsts (numbers_from 0 count) (flat_map named (drop i is)) ≡ whole → IsAstray whole
names_fault count i is d names whole low e astray same =
    let here : IsAstray (firsts (numbers_from 0 count) (named (get_or is i d))) = subst (λ ns. IsAstray (firsts (numbers_from 0 count) ns)) e astray in
    subst IsAstray (sym (instr-step (numbers_from 0 count) is i d low) ∙ same) (astray_stays (firsts (numbers_from 0 count) (named (get_or is i d))) (flat_map named (drop (i + 1) is)) here)

pub names_step : (count more i : ℕ) (is : List Instr) (d : Instr) (names whole : List ℕ) → i < length is → names ≡ named (get_or is i d)
    → firsts (numbers_from 0 count) names ≡ numbers_from 0 more → firsts (numbers_from 0 count) (flat_map named (drop i is)) ≡ whole
    → firsts (numbers_from 0 more) (flat_map named (drop (i + 1) is)) ≡ whole
names_step count more i is d names whole low e here same =
    ap (λ ns. firsts ns (flat_map named (drop (i + 1) is))) (sym here ∙ ap (firsts (numbers_from 0 count)) e) ∙ sym (instr-step (numbers_from 0 count) is i d low) ∙ same

pub names_start : (is : List Instr) → firsts (numbers_from 0 0) (flat_map named is) ≡ appearing is
unfolding numbers_from
names_start is = refl

-- ---- sides ----

pub in_order : (side : List Instr) (n : ℕ) → 0 < length side → list_all is_in_window side ≡ true → appearing side ≡ numbers_from 0 n → n ≤ 4 → IsInOrder side × (n ≡ named_count side)
in_order side n some windows order few =
    let count : named_count side ≡ n = ap length order ∙ length-from 0 n in (
      record {
        some = some;
        windows = windows;
        in_order = order ∙ ap (numbers_from 0) (sym count);
        few = omega (arith, count, few);
      },
      sym count,
    )

pub out_of_order : (side : List Instr) → IsAstray (appearing side) → IsInOrder side → ⊥
out_of_order side astray o = not_astray (named_count side) (subst IsAstray o.in_order astray)

pub too_many : (side : List Instr) (n : ℕ) → appearing side ≡ numbers_from 0 n → 4 < n → IsInOrder side → ⊥
too_many side n order many o = omega (arith, o.few, ap length order, length-from 0 n, many)

pub above_zero : (n : ℕ) → (n == 0) ≡ false → 0 < n
above_zero zero h = absurd (cc)
above_zero (suc n) h = omega arith

-- an instruction that may stand in a window names a register
names_some : (i : Instr) → is_in_window i ≡ true → 0 < length (named i)
names_some (instr.Mov d m) h = omega arith
names_some i h = grind arith

firsts_some : (rs : List ℕ) → 0 < length rs → 0 < length (firsts [] rs)
unfolding firsts
firsts_some [] h = h
firsts_some (r ∷ rs) h = omega (arith, firsts-grows (r ∷ []) rs)

pub names_register : (side : List Instr) → 0 < length side → list_all is_in_window side ≡ true → 0 < named_count side
names_register [] h windows = absurd (omega arith)
names_register (i ∷ is) h windows =
    let first = and_parts (is_in_window i) (list_all is_in_window is) windows in
    firsts_some (flat_map named (i ∷ is)) (omega (arith, names_some i first.0, length-append (named i) (flat_map named is)))
