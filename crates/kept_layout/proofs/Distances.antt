-- Mentions whose ends move, those of literals by a multiple of 4: together, or nearer to each other.
use Rattle.std.proofs.Common.{◌≡◌, ◌∙◌, inl, inr, ℕ, ◌+◌, ◌-◌, ◌*◌, ◌%◌, ◌<◌, ◌≤◌, ◌==◌, ◌&&◌, true, false, Some, None, refl, sym, subst, arith}
use Rattle.std.specs.Prelude.{nat_le, nat_lt}
use Rattle.std.proofs.lemmas.Bool.{cases_Bool, cases_lt, and_parts, ltb-true, leb-true, eqb-true, lt-ltb, le-leb, eq-eqb}
use Rattle.thumb_instr.specs.declared.instr.Instr.{Instr}
use Rattle.thumb_instr.specs.declared.instr.Instr.TheVariants as instr
use Rattle.kept_layout.specs.Blocks.{is_literal, Divides}
use Rattle.thumb_model.specs.Layout.{literal_base, branch_fault, literal_fault, aim_fault}

-- ---- within reach ----

-- a branch reaches from an address to another
record Reaches (half at to : ℕ) : Type 0 where
  below : to < at + 4 + 2 * half
  above : at + 4 ≤ to + 2 * half

branch_parts : (half at to : ℕ) → branch_fault half at (Some to) ≡ None → Reaches half at to
branch_parts half at to e = elim (cases_Bool (nat_lt to (at + 4 + 2 * half) && nat_le (at + 4) (to + 2 * half))) [
  | inl h ↦ let p = and_parts _ _ h in record { below = ltb-true _ _ p.0; above = leb-true _ _ p.1 }
  | inr h ↦ absurd (let bad = rw h at e in cc)
]

branch_from : (half at to : ℕ) → Reaches half at to → branch_fault half at (Some to) ≡ None
branch_from half at to r = rw (lt-ltb to (at + 4 + 2 * half) r.below, le-leb (at + 4) (to + 2 * half) r.above) refl

-- a literal is reached, with a number added to its label's address
record IsReached (at to plus : ℕ) : Type 0 where
  whole : (to + plus) % 4 ≡ 0
  above : literal_base at ≤ to + plus
  below : to + plus ≤ literal_base at + 1020

literal_parts : (at to plus : ℕ) → literal_fault at (Some to) plus ≡ None → IsReached at to plus
literal_parts at to plus e = elim (cases_Bool ((to + plus) % 4 == 0)) [
  | inl h ↦ elim (cases_Bool (nat_le (literal_base at) (to + plus) && nat_le (to + plus) (literal_base at + 1020))) [
    | inl k ↦ let p = and_parts _ _ k in record { whole = eqb-true _ _ h; above = leb-true _ _ p.0; below = leb-true _ _ p.1 }
    | inr k ↦ absurd (let bad = rw (h, k) at e in cc)
  ]
  | inr h ↦ absurd (let bad = rw h at e in cc)
]

literal_from : (at to plus : ℕ) → IsReached at to plus → literal_fault at (Some to) plus ≡ None
literal_from at to plus r = rw (eq-eqb ((to + plus) % 4) 0 r.whole, le-leb (literal_base at) (to + plus) r.above, le-leb (to + plus) (literal_base at + 1020) r.below) refl

-- ---- both ends move ----

branch_moves : (half d at to : ℕ) → d ≤ at → d ≤ to → branch_fault half at (Some to) ≡ None → branch_fault half (at - d) (Some (to - d)) ≡ None
branch_moves half d at to h k e = let r = branch_parts half at to e in let a = r.below in let b = r.above in branch_from half (at - d) (to - d) (record { below = omega arith; above = omega arith })

literal_moves : (d at to plus : ℕ) → Divides 4 d → d ≤ at → d ≤ to → literal_fault at (Some to) plus ≡ None → literal_fault (at - d) (Some (to - d)) plus ≡ None
literal_moves d at to plus f h k e =
    let q = f.0 in let times = f.1 in let r = literal_parts at to plus e in let a = r.whole in let b = r.above in let c = r.below in
    literal_from (at - d) (to - d) plus (record { whole = omega arith; above = omega arith; below = omega arith })

-- what mentions something stays within reach where both move, and the distance is a multiple of 4 where that is a literal: a row each
pub aim_moves : (d at to : ℕ) (i : Instr) (plus : ℕ) → (is_literal i ≡ true → Divides 4 d) → d ≤ at → d ≤ to → aim_fault at i (Some to) plus ≡ None → aim_fault (at - d) i (Some (to - d)) plus ≡ None
aim_moves d at to (instr.Literal t s) plus f h k e = literal_moves d at to plus (f refl) h k e
aim_moves d at to (instr.Address t s) plus f h k e = literal_moves d at to plus (f refl) h k e
aim_moves d at to (instr.BranchIf c s) plus f h k e = branch_moves 128 d at to h k e
aim_moves d at to (instr.Branch s) plus f h k e = branch_moves 1024 d at to h k e
aim_moves d at to (instr.Call s) plus f h k e = branch_moves 8388608 d at to h k e
aim_moves d at to i plus f h k e = refl

-- ---- one end moves towards the other ----

branch_ahead : (half d at to : ℕ) → 2 ≤ half → at + 2 + d ≤ to → branch_fault half at (Some to) ≡ None → branch_fault half at (Some (to - d)) ≡ None
branch_ahead half d at to g h e = let r = branch_parts half at to e in let a = r.below in let b = r.above in branch_from half at (to - d) (record { below = omega arith; above = omega arith })

literal_ahead : (d at to plus : ℕ) → Divides 4 d → at + 2 + d ≤ to → literal_fault at (Some to) plus ≡ None → literal_fault at (Some (to - d)) plus ≡ None
literal_ahead d at to plus f h e =
    let q = f.0 in let times = f.1 in let r = literal_parts at to plus e in let a = r.whole in let b = r.above in let c = r.below in
    literal_from at (to - d) plus (record { whole = omega arith; above = omega arith; below = omega arith })

-- a label behind an instruction of two bytes at least comes nearer, a literal's by a multiple of 4, and stays behind it: a row each
pub aim_ahead : (d at to : ℕ) (i : Instr) (plus : ℕ) → (is_literal i ≡ true → Divides 4 d) → at + 2 + d ≤ to → aim_fault at i (Some to) plus ≡ None → aim_fault at i (Some (to - d)) plus ≡ None
aim_ahead d at to (instr.Literal t s) plus f h e = literal_ahead d at to plus (f refl) h e
aim_ahead d at to (instr.Address t s) plus f h e = literal_ahead d at to plus (f refl) h e
aim_ahead d at to (instr.BranchIf c s) plus f h e = branch_ahead 128 d at to (omega arith) h e
aim_ahead d at to (instr.Branch s) plus f h e = branch_ahead 1024 d at to (omega arith) h e
aim_ahead d at to (instr.Call s) plus f h e = branch_ahead 8388608 d at to (omega arith) h e
aim_ahead d at to i plus f h e = refl

branch_back : (half d at to : ℕ) → to + d ≤ at → branch_fault half at (Some to) ≡ None → branch_fault half (at - d) (Some to) ≡ None
branch_back half d at to h e = let r = branch_parts half at to e in let a = r.below in let b = r.above in branch_from half (at - d) to (record { below = omega arith; above = omega arith })

-- an instruction that isn't a literal's comes nearer to a label before it: a row each
pub aim_back : (d at to : ℕ) (i : Instr) (plus : ℕ) → is_literal i ≡ false → to + d ≤ at → aim_fault at i (Some to) plus ≡ None → aim_fault (at - d) i (Some to) plus ≡ None
aim_back d at to (instr.Literal t s) plus f h e = absurd (let bad : true ≡ false = f in cc)
aim_back d at to (instr.Address t s) plus f h e = absurd (let bad : true ≡ false = f in cc)
aim_back d at to (instr.BranchIf c s) plus f h e = branch_back 128 d at to h e
aim_back d at to (instr.Branch s) plus f h e = branch_back 1024 d at to h e
aim_back d at to (instr.Call s) plus f h e = branch_back 8388608 d at to h e
aim_back d at to i plus f h e = refl

-- ---- both ends move, not alike ----

-- a branch far ahead or far behind is a call
ahead_far : (at to new_at new_to : ℕ) (i : Instr) (plus : ℕ) → is_literal i ≡ false → at + 2052 < to → new_at ≤ new_to → new_to ≤ new_at + 16000000 → aim_fault at i (Some to) plus ≡ None → aim_fault new_at i (Some new_to) plus ≡ None
ahead_far at to new_at new_to (instr.Literal t s) plus f h o n e = absurd (let bad : true ≡ false = f in cc)
ahead_far at to new_at new_to (instr.Address t s) plus f h o n e = absurd (let bad : true ≡ false = f in cc)
ahead_far at to new_at new_to (instr.BranchIf c s) plus f h o n e = absurd (let r = (branch_parts 128 at to e).below in omega arith)
ahead_far at to new_at new_to (instr.Branch s) plus f h o n e = absurd (let r = (branch_parts 1024 at to e).below in omega arith)
ahead_far at to new_at new_to (instr.Call s) plus f h o n e = branch_from 8388608 new_at new_to (record { below = omega arith; above = omega arith })
ahead_far at to new_at new_to i plus f h o n e = refl

back_far : (at to new_at new_to : ℕ) (i : Instr) (plus : ℕ) → is_literal i ≡ false → to + 2052 < at → new_to ≤ new_at → new_at ≤ new_to + 16000000 → aim_fault at i (Some to) plus ≡ None → aim_fault new_at i (Some new_to) plus ≡ None
back_far at to new_at new_to (instr.Literal t s) plus f h o n e = absurd (let bad : true ≡ false = f in cc)
back_far at to new_at new_to (instr.Address t s) plus f h o n e = absurd (let bad : true ≡ false = f in cc)
back_far at to new_at new_to (instr.BranchIf c s) plus f h o n e = absurd (let r = (branch_parts 128 at to e).above in omega arith)
back_far at to new_at new_to (instr.Branch s) plus f h o n e = absurd (let r = (branch_parts 1024 at to e).above in omega arith)
back_far at to new_at new_to (instr.Call s) plus f h o n e = branch_from 8388608 new_at new_to (record { below = omega arith; above = omega arith })
back_far at to new_at new_to i plus f h o n e = refl

no_literal : (i : Instr) (P : Type 0) → is_literal i ≡ false → is_literal i ≡ true → P
no_literal i P f t = absurd (let never : true ≡ false = sym t ∙ f in cc)

-- the later end moves at least as far, or both are far from each other
pub aim_ahead_of : (bytes by at to : ℕ) (i : Instr) (plus : ℕ) → is_literal i ≡ false → bytes ≤ at → by ≤ to → at - bytes + 2 ≤ to - by → (by < bytes → (at + 2052 < to) × (to + bytes ≤ at + 16000000)) → aim_fault at i (Some to) plus ≡ None → aim_fault (at - bytes) i (Some (to - by)) plus ≡ None
aim_ahead_of bytes by at to i plus f low less two far e = elim (cases_lt by bytes) [
  | inl less_far ↦ let h = far less_far in let a = h.0 in let b = h.1 in ahead_far at to (at - bytes) (to - by) i plus f a (omega arith) (omega arith) e
  | inr nearer ↦
      let both = aim_moves bytes at to i plus (no_literal i (Divides 4 bytes) f) low (omega arith) e in
      let near = aim_ahead (by - bytes) (at - bytes) (to - bytes) i plus (no_literal i (Divides 4 (by - bytes)) f) (omega arith) both in
      subst (λ n. aim_fault (at - bytes) i (Some n) plus ≡ None) (let same : to - bytes - (by - bytes) ≡ to - by = omega arith in same) near
]

pub aim_back_of : (bytes by at to : ℕ) (i : Instr) (plus : ℕ) → is_literal i ≡ false → by ≤ at → bytes ≤ to → to - bytes ≤ at - by → (by < bytes → (to + 2052 < at) × (at + bytes ≤ to + 16000000)) → aim_fault at i (Some to) plus ≡ None → aim_fault (at - by) i (Some (to - bytes)) plus ≡ None
aim_back_of bytes by at to i plus f low less order far e = elim (cases_lt by bytes) [
  | inl less_far ↦ let h = far less_far in let a = h.0 in let b = h.1 in back_far at to (at - by) (to - bytes) i plus f a (omega arith) (omega arith) e
  | inr nearer ↦
      let both = aim_moves bytes at to i plus (no_literal i (Divides 4 bytes) f) (omega arith) less e in
      let near = aim_back (by - bytes) (at - bytes) (to - bytes) i plus f (omega arith) both in
      subst (λ n. aim_fault n i (Some (to - bytes)) plus ≡ None) (let same : at - bytes - (by - bytes) ≡ at - by = omega arith in same) near
]
