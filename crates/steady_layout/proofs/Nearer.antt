-- Mentions that come nearer stay within reach, and what is within reach has no fault.
use Rattle.std.proofs.Common.{◌≡◌, ◌⊎◌, inl, inr, ℕ, ◌+◌, ◌*◌, ◌%◌, ◌<◌, ◌≤◌, ◌==◌, ◌&&◌, true, false, Option, Some, None, refl, arith}
use Rattle.std.specs.Prelude.{is_none, nat_le, nat_lt}
use Rattle.std.proofs.lemmas.Bool.{cases_Bool, and_parts, and_from, ltb-true, leb-true, eqb-true, lt-ltb, le-leb, eq-eqb}
use Rattle.thumb_instr.specs.declared.instr.Instr.{Instr}
use Rattle.thumb_instr.specs.declared.instr.Instr.TheVariants as instr
use Rattle.thumb_model.specs.Layout.{Fault, or_else, branch_fault, literal_base, literal_fault, aim_fault}
use Rattle.steady_layout.specs.declared.starts.Start.{Start}
use Rattle.steady_layout.specs.Steady.{reaches, steady_branch, steady_literal, steady_aim}

-- ---- a start in another layout, and what lies before and behind it there ----

-- the one start is at no greater address than the other, and surely a multiple of 4 where that is
pub record IsWithin (o n : Start) : Type 0 where
  pub at : n.at ≤ o.at
  pub aligned : o.aligned ≡ true → n.aligned ≡ true

-- what lies at or before it is no further away
pub record IsBack (o n a b : Start) : Type 0 where
  pub old : a.at ≤ o.at
  pub new : b.at ≤ n.at
  pub nearer : n.at + a.at ≤ o.at + b.at

-- what lies at or behind it is no further away
pub record IsAhead (o n a b : Start) : Type 0 where
  pub old : o.at ≤ a.at
  pub new : n.at ≤ b.at
  pub nearer : b.at + o.at ≤ a.at + n.at
  pub aligned : a.aligned ≡ true → b.aligned ≡ true

-- what lies behind it is no further away
pub record IsPast (o n a b : Start) : Type 0 where
  pub old : o.at < a.at
  pub new : n.at < b.at
  pub nearer : b.at + o.at ≤ a.at + n.at
  pub aligned : a.aligned ≡ true → b.aligned ≡ true

abbrev pub Meets : Start → Start → Option Start → Option Start → Type 0
Meets o n None None = Unit {0}
Meets o n None (Some b) = ⊥
Meets o n (Some a) None = ⊥
Meets o n (Some a) (Some b) = IsBack o n a b ⊎ IsPast o n a b

-- ---- branches ----

reach_parts : (half at to : ℕ) → reaches half at (Some to) ≡ true → (to < at + 4 + 2 * half) × (at + 4 ≤ to + 2 * half)
reach_parts half at to e = elim (cases_Bool (nat_lt to (at + 4 + 2 * half) && nat_le (at + 4) (to + 2 * half))) [
  | inl h ↦ let p = and_parts _ _ h in (ltb-true _ _ p.0, leb-true _ _ p.1)
  | inr h ↦ absurd (let bad : false ≡ true = rw h at e in cc)
]

reach_from : (half at to : ℕ) → to < at + 4 + 2 * half → at + 4 ≤ to + 2 * half → reaches half at (Some to) ≡ true
reach_from half at to h k = rw (lt-ltb to (at + 4 + 2 * half) h, le-leb (at + 4) (to + 2 * half) k) refl

reach_between : (half base o n : ℕ) (to : Option ℕ) → base ≤ n → n ≤ o → reaches half base to ≡ true → reaches half o to ≡ true → reaches half n to ≡ true
reach_between half base o n None h k e f = refl
reach_between half base o n (Some to) h k e f = let p = reach_parts half base to e in let q = reach_parts half o to f in reach_from half n to (omega arith) (omega arith)

reach_nearer : (half : ℕ) (o n a b : Start) → 2 ≤ half → IsBack o n a b ⊎ IsPast o n a b → reaches half o.at (Some a.at) ≡ true → reaches half n.at (Some b.at) ≡ true
reach_nearer half o n a b h (inl k) e =
    let p = reach_parts half o.at a.at e in
    let r = k.nearer in let s = k.new in let t = k.old in
    reach_from half n.at b.at (omega arith) (omega arith)
reach_nearer half o n a b h (inr k) e =
    let p = reach_parts half o.at a.at e in
    let r = k.nearer in let s = k.new in let t = k.old in
    reach_from half n.at b.at (omega arith) (omega arith)

branch_stays : (half base : ℕ) (o n : Start) (a b : Option Start) (set : Option ℕ) → 2 ≤ half → base ≤ n.at → IsWithin o n → Meets o n a b → steady_branch half base o a set ≡ true → steady_branch half base n b set ≡ true
branch_stays half base o n None None set h k w m e =
    let p = and_parts _ _ e in
    and_from _ _ p.0 (reach_between half base o.at n.at set k w.at p.0 p.1)
branch_stays half base o n None (Some b) set h k w m e = absurd m
branch_stays half base o n (Some a) None set h k w m e = absurd m
branch_stays half base o n (Some a) (Some b) set h k w m e = reach_nearer half o n a b h m e

-- ---- literals ----

pub record IsLiteral (here label : Start) (plus : ℕ) : Type 0 where
  pub aligned : label.aligned ≡ true
  pub whole : plus % 4 ≡ 0
  pub past : here.at < label.at
  pub near : label.at + plus ≤ here.at + 1022

literal_parts : (here label : Start) (set : Option ℕ) (plus : ℕ) → steady_literal here (Some label) set plus ≡ true → IsLiteral here label plus
literal_parts here label set plus e =
    let p = and_parts (label.aligned && plus % 4 == 0) (nat_lt here.at label.at && nat_le (label.at + plus) (here.at + 1022)) e in
    let q = and_parts label.aligned (plus % 4 == 0) p.0 in
    let r = and_parts (nat_lt here.at label.at) (nat_le (label.at + plus) (here.at + 1022)) p.1 in
    record { aligned = q.0; whole = eqb-true _ _ q.1; past = ltb-true _ _ r.0; near = leb-true _ _ r.1 }

literal_from : (here label : Start) (set : Option ℕ) (plus : ℕ) → IsLiteral here label plus → steady_literal here (Some label) set plus ≡ true
literal_from here label set plus h =
    and_from _ _ (and_from _ _ h.aligned (eq-eqb (plus % 4) 0 h.whole)) (and_from _ _ (lt-ltb here.at label.at h.past) (le-leb (label.at + plus) (here.at + 1022) h.near))

literal_nearer : (o n a b : Start) (set : Option ℕ) (plus : ℕ) → IsBack o n a b ⊎ IsPast o n a b → IsLiteral o a plus → IsLiteral n b plus
literal_nearer o n a b set plus (inl k) h = absurd (let r = k.old in let s = h.past in omega arith)
literal_nearer o n a b set plus (inr k) h = record { aligned = k.aligned h.aligned; whole = h.whole; past = k.new; near = let r = k.nearer in let s = h.near in omega arith }

literal_stays : (o n : Start) (a b : Option Start) (set : Option ℕ) (plus : ℕ) → Meets o n a b → steady_literal o a set plus ≡ true → steady_literal n b set plus ≡ true
literal_stays o n None None set plus m e = e
literal_stays o n None (Some b) set plus m e = absurd m
literal_stays o n (Some a) None set plus m e = absurd m
literal_stays o n (Some a) (Some b) set plus m e = literal_from n b set plus (literal_nearer o n a b set plus m (literal_parts o a set plus e))

-- ---- what instructions mention: a row each ----

pub aim_stays : (base : ℕ) (o n : Start) (i : Instr) (a b : Option Start) (set : Option ℕ) (plus : ℕ) → base ≤ n.at → IsWithin o n → Meets o n a b → steady_aim base o i a set plus ≡ true → steady_aim base n i b set plus ≡ true
aim_stays base o n (instr.Literal t d) a b set plus k w m e = literal_stays o n a b set plus m e
aim_stays base o n (instr.Address t d) a b set plus k w m e = literal_stays o n a b set plus m e
aim_stays base o n (instr.BranchIf c d) a b set plus k w m e = branch_stays 128 base o n a b set (omega arith) k w m e
aim_stays base o n (instr.Branch d) a b set plus k w m e = branch_stays 1024 base o n a b set (omega arith) k w m e
aim_stays base o n (instr.Call d) a b set plus k w m e = branch_stays 8388608 base o n a b set (omega arith) k w m e
aim_stays base o n i a b set plus k w m e = refl

-- ---- no fault ----

-- the address that is surely a multiple of 4 is one
abbrev pub IsTold : Start → Type 0
IsTold s = s.aligned ≡ true → s.at % 4 ≡ 0

abbrev pub AreTold : Option Start → Type 0
AreTold None = Unit {0}
AreTold (Some s) = IsTold s

abbrev pub address_of : Option Start → Option ℕ
address_of None = None
address_of (Some s) = Some s.at

none_of : (o : Option Fault) → is_none o ≡ true → o ≡ None
none_of None e = refl
none_of (Some f) e = absurd (let bad : false ≡ true = e in cc)

no_address : (o : Option ℕ) → is_none o ≡ true → o ≡ None
no_address None e = refl
no_address (Some a) e = absurd (let bad : false ≡ true = e in cc)

branch_free : (half base : ℕ) (n : Start) (b : Option Start) (set : Option ℕ) → steady_branch half base n b set ≡ true → branch_fault half n.at (or_else (address_of b) set) ≡ None
branch_free half base n None set e = none_of _ ((and_parts _ _ e).1)
branch_free half base n (Some b) set e = none_of _ e

-- an address and 4, rounded down to a multiple of 4
rounded : (at : ℕ) → (literal_base at ≤ at + 4) × (at + 1 ≤ literal_base at) × (literal_base at % 4 ≡ 0)
rounded at = (omega arith, omega arith, omega arith)

literal_reached : (n b : Start) (plus : ℕ) → IsTold b → IsLiteral n b plus → literal_fault n.at (Some b.at) plus ≡ None
literal_reached n b plus t h =
    let m = t h.aligned in let p = h.whole in let q = h.past in let r = h.near in
    let whole : (b.at + plus) % 4 ≡ 0 = omega arith in
    let above : literal_base n.at ≤ b.at + plus = omega arith in
    let below : b.at + plus ≤ literal_base n.at + 1020 = omega arith in
    rw (eq-eqb ((b.at + plus) % 4) 0 whole, le-leb (literal_base n.at) (b.at + plus) above, le-leb (b.at + plus) (literal_base n.at + 1020) below) refl

literal_free : (n : Start) (b : Option Start) (set : Option ℕ) (plus : ℕ) → AreTold b → steady_literal n b set plus ≡ true → literal_fault n.at (or_else (address_of b) set) plus ≡ None
literal_free n None set plus t e = rw (no_address set e) refl
literal_free n (Some b) set plus t e = literal_reached n b plus t (literal_parts n b set plus e)

pub aim_free : (base : ℕ) (n : Start) (i : Instr) (b : Option Start) (set : Option ℕ) (plus : ℕ) → AreTold b → steady_aim base n i b set plus ≡ true → aim_fault n.at i (or_else (address_of b) set) plus ≡ None
aim_free base n (instr.Literal t d) b set plus h e = literal_free n b set plus h e
aim_free base n (instr.Address t d) b set plus h e = literal_free n b set plus h e
aim_free base n (instr.BranchIf c d) b set plus h e = branch_free 128 base n b set e
aim_free base n (instr.Branch d) b set plus h e = branch_free 1024 base n b set e
aim_free base n (instr.Call d) b set plus h e = branch_free 8388608 base n b set e
aim_free base n i b set plus h e = refl
