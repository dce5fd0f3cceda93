-- Reading an instruction's code yields its registers and numbers.
use Rattle.std.proofs.Common.{◌≡◌, ◌∙◌, inl, inr, ℕ, ◌+◌, ◌*◌, ◌/◌, ◌%◌, ◌^◌, ◌<◌, ◌≤◌, ◌==◌, ◌&&◌, ◌||◌, Bool, true, false, List, [], ◌∷◌, refl, sym, arith, true≢false, lit<}
use Rattle.std.specs.Prelude.{if◌then◌else◌, nat_le}
use Rattle.std.proofs.lemmas.Bool.{and_parts, and_from, or_cases, le-leb, leb-true}
use Rattle.std.proofs.lemmas.Bool.Decides.{nat_tests}
use Rattle.std.proofs.Math.Nat.{mod-eq_of_lt}
use Rattle.thumb_instr.specs.declared.instr.Instr.{Instr}
use Rattle.thumb_instr.specs.declared.instr.Instr.TheVariants as instr
use Rattle.thumb_instr.specs.declared.kind.Kind.{Kind}
use Rattle.thumb_instr.specs.declared.kind.Kind.TheVariants as kind
use Rattle.thumb_instr.specs.declared.kind.Parts.{Parts}
use Rattle.thumb_instr.specs.declared.operation.Right.TheVariants as right
use Rattle.thumb_instr.specs.declared.role.Operands.{Operands}
use Rattle.thumb_instr.specs.declared.role.Role.{Role}
use Rattle.thumb_instr.specs.declared.role.Role.TheVariants as role
use Rattle.thumb_instr.specs.declared.role.Class.TheVariants as class
use Rattle.thumb_instr.specs.declared.within.Within.{Within}
use Rattle.thumb_instr.specs.declared.within.General.{General}
use Rattle.thumb_instr.specs.Parts.{parts_of}
use Rattle.thumb_instr.specs.Roles.{roles}
use Rattle.thumb_table.specs.declared.row.OperandPosition.{OperandPosition}
use Rattle.thumb_table.specs.declared.row.OperandPosition.TheVariants as position
use Rattle.thumb_table.specs.declared.row.Piece.{Piece}
use Rattle.thumb_table.specs.Table.{width_of, number, same, pieces, row_of, code_of}
use Rattle.thumb_table.specs.ReadBits.{is_about, read_on}
use Rattle.thumb_table.specs.Kinds.{kinds}
use Rattle.thumb_table.proofs.Rows.{fits, are_free, free_fits, gathered, spans, spanned, read_packed}
use Rattle.thumb_table.proofs.Apart.{are_all, every, narrow}

-- ---- each piece can hold its value for an instruction ----

-- the kinds whose rows have a least number
abbrev has_least : Kind → Bool
has_least kind.ShiftLeft = true
has_least k = false

abbrev is_free : Kind → Bool
is_free k = has_least k || are_free (pieces k)

all_free : are_all is_free kinds ≡ true
unfolding kinds pieces are_free
all_free = refl

free : (k : Kind) → has_least k ≡ false → are_free (pieces k) ≡ true
free k h = elim (or_cases (has_least k) (are_free (pieces k)) (every is_free all_free k)) [ inl e ↦ absurd (true≢false (sym e ∙ h)) | inr e ↦ e ]

pub fit : (i : Instr) → fits (row_of i) (parts_of i) ≡ true
unfolding pieces fits
fit (instr.ShiftLeft d m i) =
    and_from _ _ (le-leb 1 (i.number / 1 % 32) (omega arith)) (and_from _ _ (le-leb 0 (m.number / 1 % 8) (omega arith)) (and_from _ _ (le-leb 0 (d.number / 1 % 8) (omega arith)) refl))
fit i = free_fits (row_of i) (parts_of i) (free (parts_of i).kind refl)

-- ---- a number of an instruction is below the end of its role ----

abbrev end_of : Role → ℕ
end_of (role.Register u class.Low) = 8
end_of (role.Register u c) = 15
end_of (role.Number least end) = end
end_of (role.List end) = end
end_of (role.Distance end) = end
end_of role.Nothing = 1

abbrev role_of : OperandPosition → Operands → Role
role_of position.First r = r.first
role_of position.Second r = r.second
role_of position.Third r = r.third

abbrev end_at : OperandPosition → Kind → ℕ
end_at o k = end_of (role_of o (roles k))

within : {least end : ℕ} (x : Within least end) → x.number < end
within x = x.below

general : (x : General) → x.number < 15
general x = x.below

nothing : 0 < 1
nothing = lit< tt

below : (i : Instr) (o : OperandPosition) → number o (parts_of i) < end_at o (parts_of i).kind
below (instr.BranchIf c d) position.First = d.below
below (instr.Branch d) position.First = d.below
below (instr.Call d) position.First = d.below
below i position.First = search (within, general, nothing)
below (instr.Three s d n m) position.Second = within n
below (instr.Three s d n m) position.Third = within m
below i position.Second = search (within, general, nothing)
below i position.Third = search (within, general, nothing)

-- ---- the row holds the whole number ----

-- the numbers that a row holds otherwise than as their bits in order
abbrev is_odd : Kind → OperandPosition → Bool
is_odd (kind.ShiftRight s) position.Third = true
is_odd kind.Call position.First = true
is_odd k o = false

abbrev breadth : OperandPosition → List Piece → ℕ
breadth o [] = 0
breadth o (p ∷ ps) = if is_about o p then width_of p + breadth o ps else breadth o ps

abbrev is_told : OperandPosition → Kind → Bool
is_told o k = is_odd k o || (spans o (pieces k) (breadth o (pieces k)) && nat_le (end_at o k) (2 ^ breadth o (pieces k)))

all_told : (o : OperandPosition) → are_all (is_told o) kinds ≡ true
unfolding kinds pieces spans
all_told position.First = refl
all_told position.Second = refl
all_told position.Third = refl

plain : (k : Kind) (o : OperandPosition) (m : Parts) → is_odd k o ≡ false → number o m < end_at o k → gathered o (pieces k) m 0 ≡ number o m
plain k o m h l =
    let b = breadth o (pieces k) in
    elim (or_cases (is_odd k o) (spans o (pieces k) b && nat_le (end_at o k) (2 ^ b)) (every (is_told o) (all_told o) k)) [
      | inl e ↦ absurd (true≢false (sym e ∙ h))
      | inr e ↦
          (let both = and_parts (spans o (pieces k) b) (nat_le (end_at o k) (2 ^ b)) e in
          let limit = leb-true (end_at o k) (2 ^ b) both.1 in
          let small : number o m < 2 ^ b = omega arith in
          let all : number o m % 2 ^ b ≡ number o m = mod-eq_of_lt small in
          let told : gathered o (pieces k) m 0 ≡ 0 + number o m % 2 ^ b = spanned o (pieces k) m b 0 both.0 in
          told ∙ (let whole : 0 + number o m % 2 ^ b ≡ number o m = omega arith in whole))
    ]

-- an amount of 32 is written as 0
amount_is : (n : ℕ) → 1 ≤ n → n < 33 → 0 + (if n % 32 == 0 then 32 else n % 32) ≡ n
amount_is n l m = grind (arith, nat_tests)

same_same : (x s : ℕ) → x < 2 → s < 2 → same (same x s) s ≡ x
same_same x s h k = grind (arith, nat_tests)

-- half the distance of BL, from its sign, its upper bits, the two bits that say whether a bit equals the sign, and the rest
abbrev half_of : (s h j k l : ℕ) → ℕ
half_of s h j k l =
    let a : ℕ = 0 + s * 8388608 + h * 2048 in
    let b : ℕ = a + same j (a / 8388608 % 2) * 4194304 in
    b + same k (b / 8388608 % 2) * 2097152 + l * 1

half_is : (s h j k l : ℕ) → s < 2 → h < 1024 → j < 2 → k < 2 → l < 2048 → half_of s h (same j s) (same k s) l ≡ s * 8388608 + j * 4194304 + k * 2097152 + h * 2048 + l
half_is s h j k l s2 h2 j2 k2 l2 =
    let sign : (0 + s * 8388608 + h * 2048) / 8388608 % 2 ≡ s = omega arith in
    let next : (0 + s * 8388608 + h * 2048 + j * 4194304) / 8388608 % 2 ≡ s = omega arith in
    rw (sign, same_same j s j2 s2, next, same_same k s k2 s2) (omega arith)

call_again : (v : ℕ) → v < 2 ^ 24 → half_of (v / 8388608 % 2) (v / 2048 % 1024) (same (v / 4194304 % 2) (v / 8388608 % 2)) (same (v / 2097152 % 2) (v / 8388608 % 2)) (v / 1 % 2048) ≡ v
call_again v l =
    half_is (v / 8388608 % 2) (v / 2048 % 1024) (v / 4194304 % 2) (v / 2097152 % 2) (v / 1 % 2048) (omega arith) (omega arith) (omega arith) (omega arith) (omega arith) ∙ omega arith

gathers : (i : Instr) (o : OperandPosition) → gathered o (row_of i) (parts_of i) 0 ≡ number o (parts_of i)
unfolding pieces gathered
gathers (instr.ShiftRight right.Lsr d m i) position.Third = amount_is i.number i.least i.below
gathers (instr.ShiftRight right.Asr d m i) position.Third = amount_is i.number i.least i.below
gathers (instr.Call d) position.First = call_again d.field (let l : d.field < 2 * 8388608 = d.below in omega arith)
gathers i o = plain (parts_of i).kind o (parts_of i) refl (below i o)

pub read_is : (i : Instr) (o : OperandPosition) → read_on o (row_of i) (code_of i) 0 ≡ number o (parts_of i)
read_is i o = read_packed o (row_of i) (parts_of i) 0 (narrow (parts_of i).kind) ∙ gathers i o
