-- Words that are equal except for the case of letters.
use Rattle.std.proofs.Common.{◌≡◌, inl, inr, ℕ, ◌%◌, true, List, map, refl, ap, arith}
use Rattle.std.specs.Prelude.{nat_lt}
use Rattle.std.specs.Str.{bytes_eq}
use Rattle.std.specs.Char.{to_ascii_lowercase}
use Rattle.std.proofs.lemmas.Bool.{cases_Bool}
use Rattle.std.proofs.lemmas.Slice.Eq.{bytes_eq-Decides}
use Rattle.ascii_scan.specs.Names.{is_spelled}

pub lowered_alike : (w n : List ℕ) → is_spelled w n ≡ true → map to_ascii_lowercase w ≡ map to_ascii_lowercase n
lowered_alike w n e = (bytes_eq-Decides (map to_ascii_lowercase w) (map to_ascii_lowercase n)).0 e

pub spelled_alike : (w n m : List ℕ) → is_spelled w n ≡ true → is_spelled w m ≡ is_spelled n m
spelled_alike w n m e = ap (λ (x : List ℕ). bytes_eq x (map to_ascii_lowercase m)) (lowered_alike w n e)

pub lowered_place : (b : ℕ) → to_ascii_lowercase b % 32 ≡ b % 32
lowered_place b = elim (cases_Bool (nat_lt b 65)) [
  | inl less ↦ rw less refl
  | inr more ↦ elim (cases_Bool (nat_lt b 91)) [
    | inl upper ↦ rw (more, upper) (omega arith)
    | inr other ↦ rw (more, other) refl
  ]
]
