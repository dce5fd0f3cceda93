-- Registers in order of first appearance: the loops of `windows` that collect them.
use Rattle.std.proofs.Common.{◌≡◌, ℕ, suc, ◌+◌, ◌<◌, ◌≤◌, true, false, List, [], ◌∷◌, ◌++◌, inl, inr, length, get_or, drop, refl, ◌∙◌, ap, arith, length-append, cond, Some, slice_get}
use Rattle.std.proofs.Math.Seq.{drop-cons}
use Rattle.std.proofs.lemmas.List.{drop_all}
use Rattle.std.proofs.lemmas.List.Folds.{list_any-append}
use Rattle.std.proofs.lemmas.Bool.Decides.{eqb_tells}
use Rattle.rule_table.specs.Canonical.{firsts, has, with_first, name_in, numbers_of}
use Rattle.std.specs.List.{flat_map}
use Rattle.thumb_instr.specs.declared.instr.Instr.{Instr}
use Rattle.thumb_instr.specs.Window.{Low, named}

-- the registers seen only grow
pub firsts-grows : (seen rs : List ℕ) → length seen ≤ length (firsts seen rs)
unfolding firsts
firsts-grows seen [] = omega arith
firsts-grows seen (r ∷ rs) =
    elim (has seen r) as (λ b. length seen ≤ length (firsts (cond b seen (seen ++ r ∷ [])) rs)) [
      | true ↦ firsts-grows seen rs
      | false ↦ omega (arith, firsts-grows (seen ++ r ∷ []) rs, length-append seen (r ∷ []))
    ]

-- each register is at the index that is its name
pub name_stands : (xs : List ℕ) (r : ℕ) → has xs r ≡ true → slice_get xs (name_in xs r) ≡ Some r
unfolding name_in
name_stands [] r h = cc
name_stands (x ∷ xs) r h =
    elim (eqb_tells x r) [
      | inl e ↦ rw e.0 (ap Some e.1)
      | inr e ↦ let rest : has xs r ≡ true = rw e.0 at h in rw e.0 (name_stands xs r rest)
    ]

pub has_kept : (seen : List ℕ) (r x : ℕ) → has seen x ≡ true → has (with_first seen r) x ≡ true
has_kept seen r x h =
    elim (has seen r) as (λ b. has (cond b seen (seen ++ r ∷ [])) x ≡ true) [
      | true ↦ h
      | false ↦ simp list_any-append (rw h refl)
    ]

pub has_firsts : (seen rs : List ℕ) (x : ℕ) → has seen x ≡ true → has (firsts seen rs) x ≡ true
unfolding firsts
has_firsts seen [] x h = h
has_firsts seen (r ∷ rs) x h = has_firsts (with_first seen r) rs x (has_kept seen r x h)

-- the registers of two lists one after the other
pub firsts-append : (seen xs ys : List ℕ) → firsts seen (xs ++ ys) ≡ firsts (firsts seen xs) ys
unfolding firsts
firsts-append seen [] ys = refl
firsts-append seen (x ∷ xs) ys = firsts-append (with_first seen x) xs ys

-- the same by a list of registers
pub low-step : (seen : List ℕ) (rs : List Low) (i : ℕ) (d : Low) → i < length rs
    → firsts seen (numbers_of (drop i rs)) ≡ firsts (with_first seen (get_or rs i d).number) (numbers_of (drop (i + 1) rs))
unfolding firsts
low-step seen rs i d h =
    let next : suc i ≡ i + 1 = omega arith in
    ap (λ xs. firsts seen (numbers_of xs)) (drop-cons rs i d h) ∙ ap (λ j. firsts (with_first seen (get_or rs i d).number) (numbers_of (drop j rs))) next

pub low-end : (seen : List ℕ) (rs : List Low) (i : ℕ) → length rs ≤ i → firsts seen (numbers_of (drop i rs)) ≡ seen
unfolding firsts
low-end seen rs i h = ap (λ xs. firsts seen (numbers_of xs)) (drop_all i rs h)

pub low-many : (seen : List ℕ) (rs : List Low) (i : ℕ) (d : Low) → i < length rs → 4 < length (with_first seen (get_or rs i d).number)
    → 4 < length (firsts seen (numbers_of (drop i rs)))
low-many seen rs i d h many =
    omega (arith, firsts-grows (with_first seen (get_or rs i d).number) (numbers_of (drop (i + 1) rs)), ap length (low-step seen rs i d h))

pub ruleset order = (low-step, low-end, low-many)

-- the same by a list of instructions
pub instr-step : (seen : List ℕ) (is : List Instr) (i : ℕ) (d : Instr) → i < length is
    → firsts seen (flat_map named (drop i is)) ≡ firsts (firsts seen (named (get_or is i d))) (flat_map named (drop (i + 1) is))
instr-step seen is i d h =
    let next : suc i ≡ i + 1 = omega arith in
    ap (λ xs. firsts seen (flat_map named xs)) (drop-cons is i d h)
    ∙ firsts-append seen (named (get_or is i d)) (flat_map named (drop (suc i) is))
    ∙ ap (λ j. firsts (firsts seen (named (get_or is i d))) (flat_map named (drop j is))) next

pub instr-end : (seen : List ℕ) (is : List Instr) (i : ℕ) → length is ≤ i → firsts seen (flat_map named (drop i is)) ≡ seen
unfolding firsts
instr-end seen is i h = ap (λ xs. firsts seen (flat_map named xs)) (drop_all i is h)

pub instr-many : (seen : List ℕ) (is : List Instr) (i : ℕ) (d : Instr) → i < length is → 4 < length (firsts seen (named (get_or is i d)))
    → 4 < length (firsts seen (flat_map named (drop i is)))
instr-many seen is i d h many =
    omega (arith, firsts-grows (firsts seen (named (get_or is i d))) (flat_map named (drop (i + 1) is)), ap length (instr-step seen is i d h))

pub ruleset orders = (instr-step, instr-end, instr-many)
