-- Renaming the registers of a window's instructions: what is named afterwards, and that windows stay windows.
use Rattle.std.proofs.Common.{◌≡◌, ℕ, ◌<◌, true, List, [], ◌∷◌, ◌++◌, map, Some, None, refl, sym, ap, ◌∙◌, subst, arith, lt-ltb}
use Rattle.std.specs.Prelude.{nat_lt, slice_get, unwrap_or}
use Rattle.std.proofs.lemmas.Bool.{and_parts, and_from, ltb-true}
use Rattle.thumb_instr.specs.declared.instr.Instr.{Instr}
use Rattle.thumb_instr.specs.declared.instr.Instr.TheVariants as instr
use Rattle.thumb_instr.specs.declared.kind.Parts.{Parts}
use Rattle.thumb_instr.specs.declared.role.Operands.{Operands}
use Rattle.thumb_instr.specs.Parts.{parts_of}
use Rattle.thumb_instr.specs.Roles.{roles}
use Rattle.thumb_instr.specs.Window.{Low, Reg, named_by, named_in, named, AreBelow, wide_or, low_under, reg_under, both_under, renamed, number_or, item_under, is_in_window}
use Rattle.thumb_instr.proofs.Registers.{widened_number}

low_below : (d : Low) → d.number < 8
low_below d = d.below

-- an instruction of a window names only low registers
pub named_low : (i : Instr) → is_in_window i ≡ true → AreBelow 8 (named i)
named_low (instr.Mov d m) w = let p = and_parts (nat_lt d.number 8) (nat_lt m.number 8) w in (ltb-true d.number 8 p.0, (ltb-true m.number 8 p.1, tt))
named_low (instr.Add r) w = let p = and_parts (nat_lt r.target.number 8) (nat_lt r.source.number 8) w in (ltb-true r.target.number 8 p.0, (ltb-true r.source.number 8 p.1, tt))
named_low (instr.Movs d m) w = (d.below, (m.below, tt))
named_low i w = first_of (search low_below, grind arith)

pub below_parts : (k : ℕ) (xs ys : List ℕ) → AreBelow k (xs ++ ys) → AreBelow k xs × AreBelow k ys
below_parts k [] ys h = (tt, h)
below_parts k (x ∷ xs) ys h = let p = below_parts k xs ys h.1 in ((h.0, p.0), p.1)

pub parts_low : (i : Instr) (p : Parts) (r : Operands) → p ≡ parts_of i → r ≡ roles p.kind → is_in_window i ≡ true
    → AreBelow 8 (named_by r.first p.first) × AreBelow 8 (named_by r.second p.second) × AreBelow 8 (named_by r.third p.third)
parts_low i p r e f w =
    let same : named_in r p ≡ named i = ap (λ (x : Operands). named_in x p) f ∙ ap (λ (x : Parts). named_in (roles x.kind) x) e in
    let first = below_parts 8 (named_by r.first p.first) (named_by r.second p.second ++ named_by r.third p.third) (subst (AreBelow 8) (sym same) (named_low i w)) in
    let second = below_parts 8 (named_by r.second p.second) (named_by r.third p.third) first.1 in
    (first.0, second.0, second.1)

-- the number of a renamed register
pub low_number : (registers : List Low) (d : Low) → (low_under registers d).number ≡ item_under registers d.number
low_number registers d = elim (slice_get registers d.number) as (λ o. (unwrap_or o d).number ≡ number_or o d.number) [ None ↦ refl | Some r ↦ refl ]

pub reg_number : (registers : List Low) (d : Reg) → (reg_under registers d).number ≡ item_under registers d.number
reg_number registers d = elim (slice_get registers d.number) as (λ o. (wide_or o d).number ≡ number_or o d.number) [ None ↦ refl | Some r ↦ widened_number r ]

-- a renamed instruction names the renamed registers
pub named_renamed : (f : List Low) (i : Instr) → is_in_window i ≡ true → named (renamed f i) ≡ map (item_under f) (named i)
named_renamed f (instr.Mov d m) w = rw (reg_number f d, reg_number f m) refl
named_renamed f i w = first_of (simp (reg_number f, low_number f), cc)

-- a renamed low register is low
low_stays : (registers : List Low) (d : Reg) → nat_lt d.number 8 ≡ true → nat_lt (reg_under registers d).number 8 ≡ true
low_stays registers d h = elim (slice_get registers d.number) as (λ o. nat_lt (wide_or o d).number 8 ≡ true) [ None ↦ h | Some r ↦ ap (λ n. nat_lt n 8) (widened_number r) ∙ lt-ltb r.number 8 (omega arith) ]

-- a renamed instruction may be in a window if the original may
pub window_renamed : (registers : List Low) (i : Instr) → is_in_window i ≡ true → is_in_window (renamed registers i) ≡ true
window_renamed registers (instr.Mov d m) h =
    let both = and_parts (nat_lt d.number 8) (nat_lt m.number 8) h in
    and_from (nat_lt (reg_under registers d).number 8) (nat_lt (reg_under registers m).number 8) (low_stays registers d both.0) (low_stays registers m both.1)
window_renamed registers (instr.Add r) h =
    let both = and_parts (nat_lt r.target.number 8) (nat_lt r.source.number 8) h in
    and_from (nat_lt (both_under registers r).target.number 8) (nat_lt (both_under registers r).source.number 8)
    (low_stays registers r.target both.0)
    (low_stays registers r.source both.1)
window_renamed registers i h = h
