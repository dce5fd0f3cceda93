-- Renaming an instruction that may stand in windows, in terms of renaming each register that it names.
use Rattle.std.proofs.Common.{◌≡◌, ◌∙◌, ℕ, true, List, [], ◌∷◌, ◌++◌, refl, sym, ap}
use Rattle.thumb_instr.specs.declared.instr.Instr.{Instr}
use Rattle.thumb_instr.specs.declared.instr.Instr.TheVariants as instr
use Rattle.thumb_instr.specs.declared.kind.Parts.{Parts}
use Rattle.thumb_instr.specs.declared.role.Operands.{Operands}
use Rattle.thumb_instr.specs.declared.role.Role.{Role}
use Rattle.thumb_instr.specs.declared.role.Role.TheVariants.{Register}
use Rattle.thumb_instr.specs.Parts.{parts_of, of}
use Rattle.thumb_instr.specs.Roles.{roles}
use Rattle.thumb_instr.specs.Window.{is_in_window, Low, named_by, named, renamed, item_under}
use Rattle.thumb_instr.proofs.PartLemmas.{same_parts, same_fields}
use Rattle.thumb_instr.proofs.RenamingLemmas.{low_number, reg_number, window_renamed}
use Rattle.rule_table.specs.Binding.{number_under}

-- the parts with their registers renamed
abbrev pub parts_under : List Low → Operands → Parts → Parts
parts_under registers r p = of p.kind (number_under registers r.first p.first) (number_under registers r.second p.second) (number_under registers r.third p.third)

-- renaming an instruction renames those of its operands that are registers
pub renamed_parts : (f : List Low) (i : Instr) → is_in_window i ≡ true → parts_of (renamed f i) ≡ parts_under f (roles (parts_of i).kind) (parts_of i)
renamed_parts f (instr.Mov d m) w = rw (reg_number f d, reg_number f m) refl
renamed_parts f (instr.Add r) w = rw (reg_number f r.target, reg_number f r.source) refl
renamed_parts f (instr.Three s d n m) w = rw (low_number f d, low_number f n, low_number f m) refl
renamed_parts f (instr.Two o d m) w = rw (low_number f d, low_number f m) refl
renamed_parts f (instr.Movs d m) w = rw (low_number f d, low_number f m) refl
renamed_parts f (instr.ShiftLeft d m i) w = rw (low_number f d, low_number f m) refl
renamed_parts f (instr.ShiftRight s d m i) w = rw (low_number f d, low_number f m) refl
renamed_parts f (instr.ThreeNumber s d n i) w = rw (low_number f d, low_number f n) refl
renamed_parts f (instr.TwoNumber o d i) w = rw (low_number f d) refl
renamed_parts f (instr.Extend e d m) w = rw (low_number f d, low_number f m) refl
renamed_parts f (instr.Reverse r d m) w = rw (low_number f d, low_number f m) refl
renamed_parts f i w = cc

-- the property holds of each register that is named
abbrev pub AllNamed : (ℕ → Type 0) → List ℕ → Type 0
AllNamed P [] = Unit {0}
AllNamed P (x ∷ xs) = P x × AllNamed P xs

pub named_parts : (P : ℕ → Type 0) (xs ys : List ℕ) → AllNamed P (xs ++ ys) → AllNamed P xs × AllNamed P ys
named_parts P [] ys h = (tt, h)
named_parts P (x ∷ xs) ys h = let p = named_parts P xs ys h.1 in ((h.0, p.0), p.1)

-- it holds of the register of each of the three operands
of_each : (P : ℕ → Type 0) (i : Instr) → AllNamed P (named i) → (let r = roles (parts_of i).kind in let p = parts_of i in AllNamed P (named_by r.first p.first) × (AllNamed P (named_by r.second p.second) × AllNamed P (named_by r.third p.third)))
of_each P i h =
    let r = roles (parts_of i).kind in
    let p = parts_of i in
    let first = named_parts P (named_by r.first p.first) (named_by r.second p.second ++ named_by r.third p.third) h in
    (first.0, named_parts P (named_by r.second p.second) (named_by r.third p.third) first.1)

-- both maps have the same register in place of x
abbrev pub IsSameUnder : List Low → List Low → ℕ → Type 0
IsSameUnder f g x = item_under f x ≡ item_under g x

-- a register comes back under the second map
abbrev pub ComesBack : List Low → List Low → ℕ → Type 0
ComesBack f g x = item_under g (item_under f x) ≡ x

same_number_under : (f g : List Low) (r : Role) (n : ℕ) → AllNamed (IsSameUnder f g) (named_by r n) → number_under f r n ≡ number_under g r n
same_number_under f g (Register u c) n h = h.0
same_number_under f g r n h = refl

number_back : (f g : List Low) (r : Role) (n : ℕ) → AllNamed (ComesBack f g) (named_by r n) → number_under g r (number_under f r n) ≡ n
number_back f g (Register u c) n h = h.0
number_back f g r n h = refl

-- two maps that agree on an instruction's registers rename it to the same
pub renamed_alike : (f g : List Low) (i : Instr) → is_in_window i ≡ true → AllNamed (IsSameUnder f g) (named i) → renamed f i ≡ renamed g i
renamed_alike f g i w h =
    let r = roles (parts_of i).kind in
    let p = parts_of i in
    let each = of_each (IsSameUnder f g) i h in
    let same : parts_under f r p ≡ parts_under g r p =
    same_fields _ _ refl (same_number_under f g r.first p.first each.0) (same_number_under f g r.second p.second each.1.0) (same_number_under f g r.third p.third each.1.1) in
    same_parts (renamed f i) (renamed g i) (renamed_parts f i w ∙ same ∙ sym (renamed_parts g i w))

-- an instruction comes back where its registers do
pub renamed_back : (f g : List Low) (i : Instr) → is_in_window i ≡ true → AllNamed (ComesBack f g) (named i) → renamed g (renamed f i) ≡ i
renamed_back f g i w h =
    let r = roles (parts_of i).kind in
    let p = parts_of i in
    let each = of_each (ComesBack f g) i h in
    let back : parts_under g r (parts_under f r p) ≡ p =
    same_fields _ p refl (number_back f g r.first p.first each.0) (number_back f g r.second p.second each.1.0) (number_back f g r.third p.third each.1.1) in
    let twice : parts_of (renamed g (renamed f i)) ≡ parts_under g r (parts_under f r p) =
    renamed_parts g (renamed f i) (window_renamed f i w) ∙ ap (λ (q : Parts). parts_under g (roles q.kind) q) (renamed_parts f i w) in
    same_parts (renamed g (renamed f i)) i (twice ∙ back)
