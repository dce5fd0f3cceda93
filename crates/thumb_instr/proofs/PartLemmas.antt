-- An instruction and its parts determine each other.
use Rattle.std.proofs.Common.{◌≡◌, ℕ, ◌*◌, ◌/◌, ◌%◌, ◌^◌, ◌<◌, ◌≤◌, ◌==◌, ◌&&◌, not, Bool, true, false, refl, sym, ap, ◌∙◌, Option, Some, None, inl, inr, arith, eqb-true, eq-eqb, lt-ltb}
use Rattle.std.specs.Prelude.{nat_lt, nat_le, MatchOption}
use Rattle.std.proofs.lemmas.Bool.{cases_Bool, and_from, le-leb, le-ltb, ne_eqb, ltb-true}
use Rattle.thumb_instr.specs.declared.instr.Instr.{Instr}
use Rattle.thumb_instr.specs.declared.instr.Instr.TheVariants as instr
use Rattle.thumb_instr.specs.declared.kind.Kind.{Kind}
use Rattle.thumb_instr.specs.declared.kind.Kind.TheVariants as kind
use Rattle.thumb_instr.specs.declared.kind.Parts.{Parts}
use Rattle.thumb_instr.specs.declared.within.Within.{Within}
use Rattle.thumb_instr.specs.declared.within.General.{General}
use Rattle.thumb_instr.specs.declared.within.NotBothSp.{NotBothSp}
use Rattle.thumb_instr.specs.declared.within.NotBothLow.{NotBothLow}
use Rattle.thumb_instr.specs.declared.within.Stored.{Stored}
use Rattle.thumb_instr.specs.declared.distance.Distance.{Distance}
use Rattle.thumb_instr.specs.Parts.{parts_of, made, when, is_instr, kept_of, is_within, is_general, are_registers, low_and, two_low_and, is_stored}
use Rattle.thumb_instr.specs.Roles.{roles}
use Rattle.thumb_instr.proofs.Registers.{same_number, same_general, same_distance, same_not_both_sp, same_not_both_low, same_stored}

-- ---- an instruction's parts fit the roles of its kind

when_true : (b : Bool) (m : Parts) → b ≡ true → when b m ≡ Some m
when_true b m e = rw e refl

within : (least end n : ℕ) → least ≤ n → n < end → is_within least end n ≡ true
within least end n low high = and_from (nat_le least n) (nat_lt n end) (le-leb least n low) (lt-ltb n end high)

in_range : {least end : ℕ} (x : Within least end) → is_within least end x.number ≡ true
in_range {least} {end} x = within least end x.number x.least x.below

near : {half : ℕ} (d : Distance half) → is_within 0 (2 * half) d.field ≡ true
near {half} d = within 0 (2 * half) d.field (omega arith) d.below

general : (r : General) → is_general r.number ≡ true
general r = and_from (nat_lt r.number 15) (not (r.number == 13)) (lt-ltb r.number 15 r.below) (rw (ne_eqb r.number 13 r.no_sp) refl)

three_low : {least end : ℕ} (a b : Within 0 8) (n : Within least end) → two_low_and least end a.number b.number n.number ≡ true
three_low a b n = and_from _ _ (in_range a) (and_from _ _ (in_range b) (in_range n))

not_both_sp : (r : NotBothSp) → (are_registers r.target.number r.source.number && not (r.target.number == 13 && r.source.number == 13)) ≡ true
not_both_sp r = and_from _ _ (and_from _ _ (in_range r.target) (in_range r.source)) (elim (cases_Bool (r.target.number == 13)) [
  | inl e ↦ (let f = ne_eqb r.source.number 13 (r.one_other (eqb-true r.target.number 13 e)) in rw (e, f) refl)
  | inr e ↦ rw e refl
])

not_both_low : (r : NotBothLow) → (are_registers r.left.number r.right.number && not (nat_lt r.left.number 8 && nat_lt r.right.number 8)) ≡ true
not_both_low r = and_from _ _ (and_from _ _ (in_range r.left) (in_range r.right)) (elim (cases_Bool (nat_lt r.left.number 8)) [
  | inl e ↦ (let f = le-ltb r.right.number 8 (r.one_high (ltb-true r.left.number 8 e)) in rw (e, f) refl)
  | inr e ↦ rw e refl
])

stored : (s : Stored) → (low_and 1 256 s.base.number s.list.number && is_stored s.base.number s.list.number) ≡ true
stored s = and_from _ _ (and_from _ _ (in_range s.base) (in_range s.list)) (elim (cases_Bool (s.list.number / 2 ^ s.base.number % 2 == 1)) [
  | inl e ↦ (let f = eq-eqb (s.list.number % 2 ^ s.base.number) 0 (s.base_first (eqb-true (s.list.number / 2 ^ s.base.number % 2) 1 e)) in rw (e, f) refl)
  | inr e ↦ rw e refl
])

pub made_parts : (i : Instr) → made (parts_of i).kind (parts_of i).first (parts_of i).second (parts_of i).third ≡ Some (parts_of i)
made_parts (instr.BranchIf c d) = when_true _ _ (near d)
made_parts (instr.Branch d) = when_true _ _ (near d)
made_parts (instr.Call d) = when_true _ _ (near d)
made_parts i = search (when_true, and_from, in_range, general, three_low, not_both_sp, not_both_low, stored)

-- the instruction made from a kind and numbers has this kind
pub when_some : (b : Bool) (m n : Parts) → when b m ≡ Some n → (b ≡ true) × (m ≡ n)
when_some true m n e = (refl, cc)
when_some false m n e = absurd (cc)

pub made_kind : (k : Kind) (a b c : ℕ) (m : Parts) → made k a b c ≡ Some m → m.kind ≡ k
made_kind k a b c m e = ap (λ (n : Parts). n.kind) (sym (when_some (is_instr k a b c) (kept_of (roles k) k a b c) m e).1)

pub same_fields : (m n : Parts) → m.kind ≡ n.kind → m.first ≡ n.first → m.second ≡ n.second → m.third ≡ n.third → m ≡ n
same_fields m n e f g h = λ i. record { kind = e i; first = f i; second = g i; third = h i }

-- ---- no two instructions have the same parts

kinds : (m n : Parts) → m ≡ n → m.kind ≡ n.kind
kinds m n e = ap (λ (x : Parts). x.kind) e

firsts : (m n : Parts) → m ≡ n → m.first ≡ n.first
firsts m n e = ap (λ (x : Parts). x.first) e

seconds : (m n : Parts) → m ≡ n → m.second ≡ n.second
seconds m n e = ap (λ (x : Parts). x.second) e

thirds : (m n : Parts) → m ≡ n → m.third ≡ n.third
thirds m n e = ap (λ (x : Parts). x.third) e

-- two instructions of the same kind with the same numbers are equal
pub same_parts : (i j : Instr) → parts_of i ≡ parts_of j → i ≡ j
same_parts (instr.Mov a b) (instr.Mov x y) e = λ k. instr.Mov (same_number a x (firsts _ _ e) k) (same_number b y (seconds _ _ e) k)
same_parts (instr.Three o a b c) (instr.Three p x y z) e = let q : kind.Three o ≡ kind.Three p = kinds _ _ e in let s : o ≡ p = cc in λ k. instr.Three (s k) (same_number a x (firsts _ _ e) k) (same_number b y (seconds _ _ e) k) (same_number c z (thirds _ _ e) k)
same_parts (instr.Two o a b) (instr.Two p x y) e = let q : kind.Two o ≡ kind.Two p = kinds _ _ e in let s : o ≡ p = cc in λ k. instr.Two (s k) (same_number a x (firsts _ _ e) k) (same_number b y (seconds _ _ e) k)
same_parts (instr.Bx a) (instr.Bx x) e = ap instr.Bx (same_general a x (firsts _ _ e))
same_parts (instr.Movs a b) (instr.Movs x y) e = λ k. instr.Movs (same_number a x (firsts _ _ e) k) (same_number b y (seconds _ _ e) k)
same_parts (instr.ShiftLeft a b c) (instr.ShiftLeft x y z) e = λ k. instr.ShiftLeft (same_number a x (firsts _ _ e) k) (same_number b y (seconds _ _ e) k) (same_number c z (thirds _ _ e) k)
same_parts (instr.ShiftRight o a b c) (instr.ShiftRight p x y z) e = let q : kind.ShiftRight o ≡ kind.ShiftRight p = kinds _ _ e in let s : o ≡ p = cc in λ k. instr.ShiftRight (s k) (same_number a x (firsts _ _ e) k) (same_number b y (seconds _ _ e) k) (same_number c z (thirds _ _ e) k)
same_parts (instr.ThreeNumber o a b c) (instr.ThreeNumber p x y z) e = let q : kind.ThreeNumber o ≡ kind.ThreeNumber p = kinds _ _ e in let s : o ≡ p = cc in λ k. instr.ThreeNumber (s k) (same_number a x (firsts _ _ e) k) (same_number b y (seconds _ _ e) k) (same_number c z (thirds _ _ e) k)
same_parts (instr.TwoNumber o a b) (instr.TwoNumber p x y) e = let q : kind.TwoNumber o ≡ kind.TwoNumber p = kinds _ _ e in let s : o ≡ p = cc in λ k. instr.TwoNumber (s k) (same_number a x (firsts _ _ e) k) (same_number b y (seconds _ _ e) k)
same_parts (instr.Add r) (instr.Add s) e = ap instr.Add (same_not_both_sp r s (same_number r.target s.target (firsts _ _ e)) (same_number r.source s.source (seconds _ _ e)))
same_parts (instr.Compare r) (instr.Compare s) e = ap instr.Compare (same_not_both_low r s (same_number r.left s.left (firsts _ _ e)) (same_number r.right s.right (seconds _ _ e)))
same_parts (instr.Blx a) (instr.Blx x) e = ap instr.Blx (same_general a x (firsts _ _ e))
same_parts (instr.Literal a b) (instr.Literal x y) e = λ k. instr.Literal (same_number a x (firsts _ _ e) k) (same_number b y (seconds _ _ e) k)
same_parts (instr.Indexed o a b c) (instr.Indexed p x y z) e = let q : kind.Indexed o ≡ kind.Indexed p = kinds _ _ e in let s : o ≡ p = cc in λ k. instr.Indexed (s k) (same_number a x (firsts _ _ e) k) (same_number b y (seconds _ _ e) k) (same_number c z (thirds _ _ e) k)
same_parts (instr.Offset o a b c) (instr.Offset p x y z) e = let q : kind.Offset o ≡ kind.Offset p = kinds _ _ e in let s : o ≡ p = cc in λ k. instr.Offset (s k) (same_number a x (firsts _ _ e) k) (same_number b y (seconds _ _ e) k) (same_number c z (thirds _ _ e) k)
same_parts (instr.Stack o a b) (instr.Stack p x y) e = let q : kind.Stack o ≡ kind.Stack p = kinds _ _ e in let s : o ≡ p = cc in λ k. instr.Stack (s k) (same_number a x (firsts _ _ e) k) (same_number b y (seconds _ _ e) k)
same_parts (instr.Address a b) (instr.Address x y) e = λ k. instr.Address (same_number a x (firsts _ _ e) k) (same_number b y (seconds _ _ e) k)
same_parts (instr.StackAddress a b) (instr.StackAddress x y) e = λ k. instr.StackAddress (same_number a x (firsts _ _ e) k) (same_number b y (seconds _ _ e) k)
same_parts (instr.StackMove o a) (instr.StackMove p x) e = let q : kind.StackMove o ≡ kind.StackMove p = kinds _ _ e in let s : o ≡ p = cc in λ k. instr.StackMove (s k) (same_number a x (firsts _ _ e) k)
same_parts (instr.Extend o a b) (instr.Extend p x y) e = let q : kind.Extend o ≡ kind.Extend p = kinds _ _ e in let s : o ≡ p = cc in λ k. instr.Extend (s k) (same_number a x (firsts _ _ e) k) (same_number b y (seconds _ _ e) k)
same_parts (instr.Reverse o a b) (instr.Reverse p x y) e = let q : kind.Reverse o ≡ kind.Reverse p = kinds _ _ e in let s : o ≡ p = cc in λ k. instr.Reverse (s k) (same_number a x (firsts _ _ e) k) (same_number b y (seconds _ _ e) k)
same_parts (instr.Push a) (instr.Push x) e = ap instr.Push (same_number a x (firsts _ _ e))
same_parts (instr.Pop a) (instr.Pop x) e = ap instr.Pop (same_number a x (firsts _ _ e))
same_parts (instr.StoreMany r) (instr.StoreMany s) e = ap instr.StoreMany (same_stored r s (same_number r.base s.base (firsts _ _ e)) (same_number r.list s.list (seconds _ _ e)))
same_parts (instr.LoadMany a b) (instr.LoadMany x y) e = λ k. instr.LoadMany (same_number a x (firsts _ _ e) k) (same_number b y (seconds _ _ e) k)
same_parts (instr.Breakpoint a) (instr.Breakpoint x) e = ap instr.Breakpoint (same_number a x (firsts _ _ e))
same_parts (instr.Service a) (instr.Service x) e = ap instr.Service (same_number a x (firsts _ _ e))
same_parts (instr.Hint o) (instr.Hint p) e = let k : kind.Hint o ≡ kind.Hint p = kinds _ _ e in let same : o ≡ p = cc in ap instr.Hint same
same_parts (instr.ChangeState o) (instr.ChangeState p) e = let k : kind.ChangeState o ≡ kind.ChangeState p = kinds _ _ e in let same : o ≡ p = cc in ap instr.ChangeState same
same_parts (instr.BranchIf o a) (instr.BranchIf p x) e = let q : kind.BranchIf o ≡ kind.BranchIf p = kinds _ _ e in let s : o ≡ p = cc in λ k. instr.BranchIf (s k) (same_distance a x (firsts _ _ e) k)
same_parts (instr.Branch a) (instr.Branch x) e = ap instr.Branch (same_distance a x (firsts _ _ e))
same_parts (instr.Call a) (instr.Call x) e = ap instr.Call (same_distance a x (firsts _ _ e))
same_parts (instr.Barrier o) (instr.Barrier p) e = let k : kind.Barrier o ≡ kind.Barrier p = kinds _ _ e in let same : o ≡ p = cc in ap instr.Barrier same
same_parts (instr.ReadSpecial a o) (instr.ReadSpecial x p) e = let q : kind.ReadSpecial o ≡ kind.ReadSpecial p = kinds _ _ e in let s : o ≡ p = cc in λ k. instr.ReadSpecial (same_general a x (firsts _ _ e) k) (s k)
same_parts (instr.WriteMask a) (instr.WriteMask x) e = ap instr.WriteMask (same_general a x (firsts _ _ e))
same_parts i j e = absurd (let k = kinds _ _ e in cc)

pub gives_back : (o : Option Instr) (i : Instr) (p : Parts) → p ≡ parts_of i → MatchOption o ((j : Instr) → parts_of j ≡ p → ⊥) (λ j. parts_of j ≡ p) → o ≡ Some i
gives_back None i p e h = absurd (h i (sym e))
gives_back (Some j) i p e h = ap Some (same_parts j i (h ∙ e))
