-- The proof of `ReachesAreFields`.
use Rattle.std.proofs.Common.{◌≡◌, inl, inr, ℕ, ◌+◌, ◌-◌, ◌*◌, ◌/◌, ◌%◌, ◌<◌, ◌≤◌, ◌==◌, ◌&&◌, true, false, Some, None, refl, arith, eqb-true, eq-eqb, ltb-true, leb-true}
use Rattle.std.specs.Prelude.{nat_le, nat_lt, pos, negsuc}
use Rattle.std.proofs.lemmas.Bool.{cases_Bool, and_parts, and_from, le-leb, lt-ltb, leb-false}
use Rattle.thumb_instr.specs.Items.{IsDistance}
use Rattle.thumb_model.specs.Layout.{Range, Align, branch_fault, branch_base, distance, less, literal_base, literal_fault}
use Rattle.thumb_model.specs.Reaches.{BranchesReach, LiteralsReach, ReachesAreFields}

branches : BranchesReach
branches half at to e f = elim (cases_Bool (nat_le (branch_base at) to)) [
  | inl h ↦ let on = leb-true (branch_base at) to h in (
    λ none. rw h (omega arith, (let l = (bounds none).0 in omega arith)),
    λ is. within ((let d = (forward h is).1 in omega arith), omega arith),
  )
  | inr h ↦ let back = leb-false (branch_base at) to h in (
    λ none. rw h (omega arith, (let l = (bounds none).1 in omega arith)),
    λ is. within (omega arith, (let d = (backward h is).1 in omega arith)),
  )
] where
  bounds : branch_fault half at (Some to) ≡ None → (to < branch_base at + 2 * half) × (branch_base at ≤ to + 2 * half)
  bounds none = elim (cases_Bool (nat_lt to (branch_base at + 2 * half) && nat_le (branch_base at) (to + 2 * half))) [
    | inl g ↦ let p = and_parts (nat_lt to (branch_base at + 2 * half)) _ g in (ltb-true _ _ p.0, leb-true _ _ p.1)
    | inr g ↦ absurd (let bad : Some (Range (distance at to)) ≡ None = rw g at none in cc)
  ]

  within : (to < branch_base at + 2 * half) × (branch_base at ≤ to + 2 * half) → branch_fault half at (Some to) ≡ None
  within b = let g = and_from (nat_lt to (branch_base at + 2 * half)) (nat_le (branch_base at) (to + 2 * half)) (lt-ltb _ _ b.0) (le-leb _ _ b.1) in rw g refl

  forward : nat_le (branch_base at) to ≡ true → IsDistance half (distance at to) → IsDistance half (pos (to - branch_base at))
  forward h is = rw h at is

  backward : nat_le (branch_base at) to ≡ false → IsDistance half (distance at to) → IsDistance half (negsuc (branch_base at - to - 1))
  backward h is = rw h at is

literals : LiteralsReach
literals at to plus = (found, lies) where
  found : literal_fault at (Some to) plus ≡ None → (field : ℕ) × (field < 256) × (to + plus ≡ literal_base at + 4 * field)
  found none = elim (cases_Bool ((to + plus) % 4 == 0)) [
    | inr h ↦ absurd (let bad : Some (Align (to + plus)) ≡ None = rw h at none in cc)
    | inl h ↦ elim (cases_Bool (nat_le (literal_base at) (to + plus) && nat_le (to + plus) (literal_base at + 1020))) [
      | inr g ↦ absurd (let bad : Some (Range (less (to + plus) (literal_base at))) ≡ None = rw (h, g) at none in cc)
      | inl g ↦
          let p = and_parts (nat_le (literal_base at) (to + plus)) _ g in
          let least = leb-true (literal_base at) (to + plus) p.0 in
          let most = leb-true (to + plus) (literal_base at + 1020) p.1 in
          let whole = eqb-true ((to + plus) % 4) 0 h in
          ((to + plus - literal_base at) / 4, omega arith, omega arith)
    ]
  ]

  lies : (field : ℕ) × (field < 256) × (to + plus ≡ literal_base at + 4 * field) → literal_fault at (Some to) plus ≡ None
  lies (field, few, is) =
      let whole : ((to + plus) % 4 == 0) ≡ true = eq-eqb ((to + plus) % 4) 0 (omega arith) in
      let g = and_from (nat_le (literal_base at) (to + plus)) (nat_le (to + plus) (literal_base at + 1020)) (le-leb _ _ (omega arith)) (le-leb _ _ (omega arith)) in
      rw (whole, g) refl

pub reaches_are_fields : ReachesAreFields
reaches_are_fields = record { branches = branches; literals = literals }
