-- A left side matches a window under one map at most.
use Rattle.std.proofs.Common.{◌≡◌, ◌∙◌, ℕ, zero, suc, ◌<◌, ◌==◌, ◌||◌, Bool, true, false, List, [], ◌∷◌, ◌++◌, length, map, refl, sym, ap, arith, Some, None, eqb-true, cond, slice_get}
use Rattle.std.specs.Prelude.{nat_lt}
use Rattle.std.specs.List.{list_all}
use Rattle.std.proofs.lemmas.Bool.{and_parts, and_from, ltb-false}
use Rattle.std.proofs.lemmas.List.{map-append}
use Rattle.std.proofs.lemmas.Option.{slice_get_past}
use Rattle.thumb_instr.specs.declared.instr.Instr.{Instr}
use Rattle.thumb_instr.specs.declared.instr.Instr.TheVariants as instr
use Rattle.thumb_instr.specs.Window.{is_in_window, Low, Reg, named, renamed, reg_under, both_under, wide_or, number_or, item_under}
use Rattle.thumb_instr.proofs.Registers.{same_number}
use Rattle.thumb_instr.proofs.RenamingLemmas.{named_renamed}
use Rattle.rule_table.specs.Canonical.{has}
use Rattle.rule_table.proofs.Backs.{windows_normal}
use Rattle.rule_table.specs.Matching.{registers_in, given_for, Matches, OneMap}

registers_renamed : (r : List Low) (is : List Instr) → list_all is_in_window is ≡ true → registers_in (map (renamed r) is) ≡ map (item_under r) (registers_in is)
registers_renamed r [] w = refl
registers_renamed r (i ∷ is) w =
    let both = and_parts (is_in_window i) (list_all is_in_window is) w in
    ap (λ us. us ++ registers_in (map (renamed r) is)) (named_renamed r i both.0) ∙ ap (λ us. map (item_under r) (named i) ++ us) (registers_renamed r is both.1)
    ∙ sym (map-append (item_under r) (named i) (registers_in is))

-- ---- windows

-- an instruction that may stand in a window when it is renamed may do so itself
reg_back : (r : List Low) (d : Reg) → length r ≡ 8 → nat_lt (reg_under r d).number 8 ≡ true → nat_lt d.number 8 ≡ true
reg_back r d size h = by (nat_lt d.number 8) refl
  where
    by : (b : Bool) → nat_lt d.number 8 ≡ b → nat_lt d.number 8 ≡ true
    by true e = e
    by false e =
        let past : slice_get r d.number ≡ None = slice_get_past r d.number (let k = ltb-false d.number 8 e in omega arith) in
        let stays : reg_under r d ≡ d = ap (λ o. wide_or o d) past in
        ap (λ (x : Reg). nat_lt x.number 8) (sym stays) ∙ h

window_back : (r : List Low) (i : Instr) → length r ≡ 8 → is_in_window (renamed r i) ≡ true → is_in_window i ≡ true
window_back r (instr.Mov d m) size h =
    let both = and_parts (nat_lt (reg_under r d).number 8) (nat_lt (reg_under r m).number 8) h in
    and_from (nat_lt d.number 8) (nat_lt m.number 8) (reg_back r d size both.0) (reg_back r m size both.1)
window_back r (instr.Add x) size h =
    let both = and_parts (nat_lt (both_under r x).target.number 8) (nat_lt (both_under r x).source.number 8) h in
    and_from (nat_lt x.target.number 8) (nat_lt x.source.number 8) (reg_back r x.target size both.0) (reg_back r x.source size both.1)
window_back r i size h = h

pub windows_back : (r : List Low) (is : List Instr) → length r ≡ 8 → list_all is_in_window (map (renamed r) is) ≡ true → list_all is_in_window is ≡ true
windows_back r [] size h = refl
windows_back r (i ∷ is) size h =
    let both = and_parts (is_in_window (renamed r i)) (list_all is_in_window (map (renamed r) is)) h in
    and_from (is_in_window i) (list_all is_in_window is) (window_back r i size both.0) (windows_back r is size both.1)

-- a left side that matches a window has only instructions that may stand in windows
pub left_windows : (left window : List Instr) (registers : List Low) → Matches left window registers → list_all is_in_window left ≡ true
left_windows left window registers m =
    windows_back registers left m.renames.all (ap (list_all is_in_window) m.renames.under ∙ windows_normal window m.windows)

-- ---- there is one map at most

agree_by : (f g : ℕ → ℕ) (xs : List ℕ) (x : ℕ) → map f xs ≡ map g xs → has xs x ≡ true → f x ≡ g x
agree_by f g [] x e h = cc
agree_by f g (y ∷ xs) x e h = by (y == x) refl h (agree_by f g xs x tail)
  where
    head : f y ≡ g y
    head = cc

    tail : map f xs ≡ map g xs
    tail = cc

    by : (b : Bool) → (y == x) ≡ b → (b || has xs x) ≡ true → (has xs x ≡ true → f x ≡ g x) → f x ≡ g x
    by true s h later = let one = eqb-true y x s in ap f (sym one) ∙ head ∙ ap g one
    by false s h later = later h

-- the register at an index of eight
record Register (r : List Low) (x : ℕ) : Type 0 where
  register : Low
  there : slice_get r x ≡ Some register

register_at : (r : List Low) (x : ℕ) → x < length r → Register r x
register_at [] x h = absurd (omega arith)
register_at (y ∷ r) zero h = record { register = y; there = refl }
register_at (y ∷ r) (suc x) h = let later = register_at r x (omega arith) in record { register = later.register; there = later.there }

one_given : (left window : List Instr) (r s : List Low) → Matches left window r → Matches left window s → (x : ℕ) → x < 8 → given_for (registers_in left) r x ≡ given_for (registers_in left) s x
one_given left window r s m n x low = by (has (registers_in left) x) refl
  where
    windows : list_all is_in_window left ≡ true
    windows = left_windows left window r m

    same : map (item_under r) (registers_in left) ≡ map (item_under s) (registers_in left)
    same = sym (registers_renamed r left windows) ∙ ap registers_in (m.renames.under ∙ sym n.renames.under) ∙ registers_renamed s left windows

    by : (b : Bool) → has (registers_in left) x ≡ b → cond b (slice_get r x) None ≡ cond b (slice_get s x) None
    by false h = refl
    by true h =
        let i = register_at r x (let size = m.renames.all in omega arith) in
        let j = register_at s x (let size = n.renames.all in omega arith) in
        let number : i.register.number ≡ j.register.number =
        sym (ap (λ o. number_or o x) i.there) ∙ agree_by (item_under r) (item_under s) (registers_in left) x same h ∙ ap (λ o. number_or o x) j.there in
        i.there ∙ ap Some (same_number i.register j.register number) ∙ sym j.there

pub one_map : OneMap
one_map left window given other a b =
    let at : (x : ℕ) → x < 8 → given_for (registers_in left) a.registers x ≡ given_for (registers_in left) b.registers x = one_given left window a.registers b.registers a.matches b.matches in
    a.is ∙ rw (at 0 (omega arith), at 1 (omega arith), at 2 (omega arith), at 3 (omega arith), at 4 (omega arith), at 5 (omega arith), at 6 (omega arith), at 7 (omega arith)) refl ∙ sym b.is
