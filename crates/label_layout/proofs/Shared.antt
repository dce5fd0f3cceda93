-- Lemmas that crates above share.
use Rattle.std.proofs.Common.{◌≡◌, inl, inr, ℕ, zero, suc, ◌-◌, ◌%◌, ◌≤◌, min, List, [], ◌∷◌, ◌++◌, map, ap, arith}
use Rattle.std.specs.Prelude.{nat_le}
use Rattle.std.proofs.lemmas.Bool.{cases_Bool, leb-true}
use Rattle.std.proofs.lemmas.Nat.{mod_below}
use Rattle.thumb_instr.specs.declared.instr.Instr.{Instr}
use Rattle.thumb_instr.specs.declared.instr.Instr.TheVariants as instr
use Rattle.thumb_model.specs.Layout.{instr_size, padding}
use Rattle.thumb_model.specs.Listing.{ListingLine}
use Rattle.thumb_model.specs.Replaced.{new_line}

-- a row: an instruction takes two bytes at least
pub two_least : (i : Instr) → 2 ≤ instr_size i
two_least (instr.Mov d m) = omega arith
two_least i = omega arith

-- ---- padding ----

-- what is needed to the next multiple
abbrev pub need : ℕ → ℕ → ℕ
need size at = (size - at % size) % size

no_need : (x : ℕ) → (0 - x) % 0 ≡ 0
no_need x = ap (λ (y : ℕ). y % 0) (let e : 0 - x ≡ 0 = omega arith in e)

pub need_small : (size at : ℕ) → need size at ≤ size - 1
need_small zero at = rw (no_need (at % 0)) (omega arith)
need_small (suc n) at = let h = mod_below (suc n - at % suc n) (suc n) (omega arith) in omega arith

pub padding_most : (size most at : ℕ) → padding size most at ≤ min most (size - 1)
padding_most size most at = elim (cases_Bool (nat_le (need size at) most)) [
  | inl h ↦ rw h (let a = need_small size at in let b = leb-true (need size at) most h in omega arith)
  | inr h ↦ rw h (omega arith)
]

-- ---- new instructions ----

-- what stays true of lines where one new instruction comes before them, stays so where any do
pub new_before : (A : List ListingLine → Type 0) (write : Instr → List ℕ) → ((i : Instr) (ls : List ListingLine) → A ls → A (new_line write i ∷ ls)) → (is : List Instr) (ls : List ListingLine) → A ls → A (map (new_line write) is ++ ls)
new_before A write more [] ls a = a
new_before A write more (i ∷ is) ls a = more i (map (new_line write) is ++ ls) (new_before A write more is ls a)
