-- The table of rows as a whole: each row is within the bounds, and no two rows share a code.
use Rattle.std.proofs.Common.{◌≡◌, ◌∙◌, ◌⊎◌, inl, inr, ℕ, zero, suc, ◌+◌, ◌-◌, ◌*◌, ◌/◌, ◌^◌, ◌<◌, ◌≤◌, ◌==◌, ◌&&◌, ◌||◌, Bool, true, false, List, [], ◌∷◌, Some, refl, sym, ap, subst, arith, true≢false, eqb-true, eq-eqb, ◌%◌}
use Rattle.std.specs.Prelude.{if◌then◌else◌, slice_get, slice_index_or, nat_le, nat_lt}
use Rattle.std.specs.List.{list_all}
use Rattle.std.proofs.Math.Pow.{high}
use Rattle.std.proofs.lemmas.Bool.{and_parts, cases_lt, lt-ltb, le-ltb, cases_order, cases_Bool, or_cases, leb-true, ltb-true}
use Rattle.std.proofs.lemmas.Nat.{shr-shr}
use Rattle.thumb_instr.specs.declared.kind.Kind.{Kind}
use Rattle.thumb_instr.specs.declared.kind.Kind.TheVariants as kind
use Rattle.thumb_instr.specs.declared.kind.Parts.{Parts}
use Rattle.thumb_instr.specs.declared.operation.SumOperation.TheVariants as sum
use Rattle.thumb_instr.specs.declared.operation.Right.TheVariants as right
use Rattle.thumb_instr.specs.declared.operation.ByteOperation.TheVariants as byte
use Rattle.thumb_instr.specs.declared.operation.Operation.TheVariants as operation
use Rattle.thumb_instr.specs.declared.operation.Extension.TheVariants as extension
use Rattle.thumb_instr.specs.declared.operation.Reversal.TheVariants as reversal
use Rattle.thumb_instr.specs.declared.operation.Access.TheVariants as access
use Rattle.thumb_instr.specs.declared.operation.OffsetAccess.TheVariants as offset
use Rattle.thumb_instr.specs.declared.operation.WordAccess.TheVariants as word
use Rattle.thumb_instr.specs.declared.operation.Condition.TheVariants as condition
use Rattle.thumb_instr.specs.declared.operation.HintOperation.TheVariants as hint
use Rattle.thumb_instr.specs.declared.operation.Interrupts.TheVariants as interrupts
use Rattle.thumb_instr.specs.declared.operation.Barrier.TheVariants as barrier
use Rattle.thumb_instr.specs.declared.operation.Special.TheVariants as special
use Rattle.thumb_table.specs.declared.row.Piece.{Piece}
use Rattle.thumb_table.specs.declared.row.Piece.TheVariants.{Fixed}
use Rattle.thumb_table.specs.Table.{width, packed, pieces, whole}
use Rattle.thumb_table.specs.ReadBits.{agrees, are_narrow, most}
use Rattle.thumb_table.specs.Kinds.{kinds, kinds_at}
use Rattle.thumb_table.specs.Decoding.{begins_with}
use Rattle.thumb_table.proofs.Rows.{clash, clash_apart, padded, width_padded, agrees_padded, packed_below}

-- the upper four bits of a row
abbrev pub upper_of : List Piece → ℕ
upper_of (Fixed w x ∷ ps) = x / 2 ^ (w - 4)
upper_of ps = 0

abbrev pub upper : Kind → ℕ
upper k = upper_of (pieces k)

-- every row as one of two halfwords
abbrev pub long : List Piece → List Piece
long ps = if width ps == 16 then padded ps else ps

-- the index of the first row that may share a code with the kind's: the row itself, as rows are apart
unfoldable place_in : List Kind → Kind → ℕ
place_in [] k = 0
place_in (l ∷ ls) k = if clash 40 (long (pieces l)) (long (pieces k)) then suc (place_in ls k) else 0

abbrev place : Kind → ℕ
place k = place_in (kinds_at (upper k)) k

-- each kind is in the table, at its upper bits; a kind with operations has one line for each of them
pub listed : (k : Kind) → (j : ℕ) × (slice_get (kinds_at (upper k)) j ≡ Some k)
unfolding kinds pieces clash place_in
listed (kind.Three sum.Add) = (place (kind.Three sum.Add), refl)
listed (kind.Two operation.And) = (place (kind.Two operation.And), refl)
listed (kind.ShiftRight right.Lsr) = (place (kind.ShiftRight right.Lsr), refl)
listed (kind.ThreeNumber sum.Add) = (place (kind.ThreeNumber sum.Add), refl)
listed (kind.TwoNumber byte.Mov) = (place (kind.TwoNumber byte.Mov), refl)
listed (kind.Indexed access.Str) = (place (kind.Indexed access.Str), refl)
listed (kind.Offset offset.Str) = (place (kind.Offset offset.Str), refl)
listed (kind.Stack word.Str) = (place (kind.Stack word.Str), refl)
listed (kind.StackMove sum.Add) = (place (kind.StackMove sum.Add), refl)
listed (kind.Extend extension.Sxth) = (place (kind.Extend extension.Sxth), refl)
listed (kind.Reverse reversal.Rev) = (place (kind.Reverse reversal.Rev), refl)
listed (kind.Hint hint.Nop) = (place (kind.Hint hint.Nop), refl)
listed (kind.ChangeState interrupts.Enable) = (place (kind.ChangeState interrupts.Enable), refl)
listed (kind.BranchIf condition.Eq) = (place (kind.BranchIf condition.Eq), refl)
listed (kind.Barrier barrier.Dsb) = (place (kind.Barrier barrier.Dsb), refl)
listed (kind.ReadSpecial special.Primask) = (place (kind.ReadSpecial special.Primask), refl)
listed k = (place k, refl)

-- ---- what holds of each kind in the table ----

-- a predicate holds of all kinds
abbrev pub are_all : (Kind → Bool) → List (List Kind) → Bool
are_all test ks = list_all (list_all test) ks

all_at : (test : Kind → Bool) (gs : List (List Kind)) (n : ℕ) → are_all test gs ≡ true → list_all test (slice_index_or gs n []) ≡ true
all_at test [] n a = refl
all_at test (g ∷ gs) zero a = (and_parts (list_all test g) (are_all test gs) a).0
all_at test (g ∷ gs) (suc n) a = all_at test gs n (and_parts (list_all test g) (are_all test gs) a).1

in_list : (test : Kind → Bool) (ks : List Kind) (j : ℕ) (k : Kind) → list_all test ks ≡ true → slice_get ks j ≡ Some k → test k ≡ true
in_list test [] j k a e = absurd (cc)
in_list test (l ∷ ls) zero k a e = let s : l ≡ k = cc in subst (λ (x : Kind). test x ≡ true) s (and_parts (test l) (list_all test ls) a).0
in_list test (l ∷ ls) (suc j) k a e = in_list test ls j k (and_parts (test l) (list_all test ls) a).1 e

pub every : (test : Kind → Bool) → are_all test kinds ≡ true → (k : Kind) → test k ≡ true
every test a k = let l = listed k in in_list test (kinds_at (upper k)) l.0 k (all_at test kinds (upper k) a) l.1

-- ---- rows within the bounds ----

-- a row has one halfword or two, begins with at least four fixed bits, and holds small numbers
abbrev begins : List Piece → Bool
begins (Fixed w x ∷ ps) = nat_le 4 w
begins ps = false

abbrev is_proper : Kind → Bool
is_proper k = (are_narrow (pieces k) && begins (pieces k)) && (((width (pieces k) == 16) || (width (pieces k) == 32)) && nat_lt (most (pieces k)) 4294967296)

all_proper : are_all is_proper kinds ≡ true
unfolding kinds pieces are_narrow
all_proper = refl

record Proper (ps : List Piece) : Type 0 where
  narrow : are_narrow ps ≡ true
  begins : begins ps ≡ true
  width : ((width ps == 16) || (width ps == 32)) ≡ true
  most : nat_lt (most ps) 4294967296 ≡ true

proper : (k : Kind) → Proper (pieces k)
proper k =
    let both = and_parts (are_narrow (pieces k) && begins (pieces k)) (((width (pieces k) == 16) || (width (pieces k) == 32)) && nat_lt (most (pieces k)) 4294967296) (every is_proper all_proper k) in
    let one = and_parts (are_narrow (pieces k)) (begins (pieces k)) both.0 in
    let two = and_parts ((width (pieces k) == 16) || (width (pieces k) == 32)) (nat_lt (most (pieces k)) 4294967296) both.1 in
    record { narrow = one.0; begins = one.1; width = two.0; most = two.1 }

pub narrow : (k : Kind) → are_narrow (pieces k) ≡ true
narrow k = (proper k).narrow

pub most_small : (k : Kind) → most (pieces k) < 4294967296
most_small k = ltb-true (most (pieces k)) 4294967296 (proper k).most

pub width_is : (k : Kind) → (width (pieces k) ≡ 16) ⊎ (width (pieces k) ≡ 32)
width_is k = elim (or_cases (width (pieces k) == 16) (width (pieces k) == 32) (proper k).width) [ inl e ↦ inl (eqb-true (width (pieces k)) 16 e) | inr e ↦ inr (eqb-true (width (pieces k)) 32 e) ]

pub width_most : (k : Kind) → width (pieces k) ≤ 32
width_most k = elim (width_is k) [ inl e ↦ omega arith | inr e ↦ omega arith ]

pub packed_half : (k : Kind) (m : Parts) → width (pieces k) ≡ 16 → packed (pieces k) m < 65536
packed_half k m e = subst (λ (n : ℕ). packed (pieces k) m < 2 ^ n) e (packed_below (pieces k) m (narrow k))

pub width_long : (k : Kind) → (width (pieces k) ≡ 16 → ⊥) → width (pieces k) ≡ 32
width_long k n = elim (width_is k) [ inl e ↦ absurd (n e) | inr e ↦ e ]

pub whole_word : (k : Kind) (a b : ℕ) → a < 65536 → b < 65536 → whole (pieces k) a b < 2 ^ width (pieces k)
whole_word k a b h l = elim (width_is k) [
  | inl e ↦ rw (eq-eqb (width (pieces k)) 16 e, e) h
  | inr e ↦ rw (e) (omega arith)
]

-- ---- the lengths of rows ----

-- the kinds of two halfwords
abbrev pub is_long : Kind → Bool
is_long kind.Call = true
is_long (kind.Barrier b) = true
is_long (kind.ReadSpecial s) = true
is_long kind.WriteMask = true
is_long k = false

abbrev has_width : Kind → Bool
has_width k = width (pieces k) == (if is_long k then 32 else 16)

all_widths : are_all has_width kinds ≡ true
unfolding kinds pieces
all_widths = refl

pub row_width : (k : Kind) → width (pieces k) ≡ (if is_long k then 32 else 16)
row_width k = eqb-true (width (pieces k)) (if is_long k then 32 else 16) (every has_width all_widths k)

-- ---- rows apart ----

unfoldable all_apart : List Kind → Bool
all_apart [] = true
all_apart (k ∷ ks) = list_all (λ l. clash 40 (long (pieces k)) (long (pieces l))) ks && all_apart ks

kinds_apart : list_all all_apart kinds ≡ true
unfolding all_apart kinds pieces clash
kinds_apart = refl

apart_at : (gs : List (List Kind)) (n : ℕ) → list_all all_apart gs ≡ true → all_apart (slice_index_or gs n []) ≡ true
unfolding all_apart
apart_at [] n a = refl
apart_at (g ∷ gs) zero a = (and_parts (all_apart g) (list_all all_apart gs) a).0
apart_at (g ∷ gs) (suc n) a = apart_at gs n (and_parts (all_apart g) (list_all all_apart gs) a).1

apart_in : (ks : List Kind) (i j : ℕ) (k l : Kind) → all_apart ks ≡ true → i < j → slice_get ks i ≡ Some k → slice_get ks j ≡ Some l → clash 40 (long (pieces k)) (long (pieces l)) ≡ true
unfolding all_apart
apart_in [] i j k l a h e d = absurd (cc)
apart_in (x ∷ xs) i zero k l a h e d = absurd (omega arith)
apart_in (x ∷ xs) zero (suc j) k l a h e d =
    let s : x ≡ k = cc in
    in_list (λ z. clash 40 (long (pieces k)) (long (pieces z))) xs j l
    (subst (λ (y : Kind). list_all (λ z. clash 40 (long (pieces y)) (long (pieces z))) xs ≡ true) s (and_parts (list_all (λ z. clash 40 (long (pieces x)) (long (pieces z))) xs) (all_apart xs) a).0) d
apart_in (x ∷ xs) (suc i) (suc j) k l a h e d =
    apart_in xs i j k l (and_parts (list_all (λ z. clash 40 (long (pieces x)) (long (pieces z))) xs) (all_apart xs) a).1 (omega arith) e d

long_width : (ps : List Piece) → ((width ps == 16) || (width ps == 32)) ≡ true → width (long ps) ≡ 32
long_width ps h = elim (cases_Bool (width ps == 16)) [
  | inl e ↦ rw e (width_padded ps ∙ (let k = eqb-true (width ps) 16 e in omega arith))
  | inr e ↦ rw e (eqb-true (width ps) 32 (let k : ((false || (width ps == 32)) ≡ true) = rw e at h in k))
]

agrees_long : (ps : List Piece) (a b : ℕ) → a < 65536 → b < 65536 → agrees ps (whole ps a b) ≡ true → agrees (long ps) (a * 65536 + b) ≡ true
agrees_long ps a b h k g = elim (cases_Bool (width ps == 16)) [
  | inl e ↦ rw e (agrees_padded ps a b k (let w = eqb-true (width ps) 16 e in subst (λ (n : ℕ). a < 2 ^ n) (sym w) h) (rw e at g))
  | inr e ↦ rw e (rw e at g)
]

-- the leading bits of a row are those of its codes
head_of : (w x : ℕ) (ps : List Piece) (c : ℕ) → width (Fixed w x ∷ ps) ≡ 32 → agrees (Fixed w x ∷ ps) c ≡ true → (w ≤ 32) × (c / 2 ^ (32 - w) ≡ x)
unfolding agrees
head_of w x ps c l a =
    let is : c / 2 ^ width ps ≡ x = eqb-true (c / 2 ^ width ps) x (and_parts (c / 2 ^ width ps == x) (agrees ps (c % 2 ^ width ps)) a).0 in
    (omega arith, ap (λ (n : ℕ). c / 2 ^ n) (let e : 32 - w ≡ width ps = omega arith in e) ∙ is)

head_is : (w x : ℕ) (ps : List Piece) (c : ℕ) → width (long (Fixed w x ∷ ps)) ≡ 32 → agrees (long (Fixed w x ∷ ps)) c ≡ true → (w ≤ 32) × (c / 2 ^ (32 - w) ≡ x)
head_is w x ps c l a = elim (cases_Bool (width (Fixed w x ∷ ps) == 16)) [
  | inl e ↦ head_of w x (padded ps) c (rw e at l) (rw e at a)
  | inr e ↦ head_of w x ps c (rw e at l) (rw e at a)
]

upper_at : (ps : List Piece) (a b : ℕ) → begins ps ≡ true → b < 65536 → width (long ps) ≡ 32 → agrees (long ps) (a * 65536 + b) ≡ true → a / 4096 ≡ upper_of ps
upper_at (Fixed w x ∷ ps) a b s h l g =
    let head = head_is w x ps (a * 65536 + b) l g in
    let most : w ≤ 32 = head.0 in
    let least : 4 ≤ w = leb-true 4 w s in
    let up : a / 4096 ≡ (a * 65536 + b) / 2 ^ 28 = omega arith in
    up ∙ (ap (λ (n : ℕ). (a * 65536 + b) / 2 ^ n) (let e : 28 ≡ 32 - w + (w - 4) = omega arith in e) ∙ (sym (shr-shr (a * 65536 + b) (32 - w) (w - 4)) ∙ ap (λ (n : ℕ). n / 2 ^ (w - 4)) head.1))
upper_at ps a b s h l g = absurd (true≢false (sym s))

begun_at : (ps : List Piece) (a b : ℕ) → begins ps ≡ true → b < 65536 → width (long ps) ≡ 32 → agrees (long ps) (a * 65536 + b) ≡ true → begins_with ps a ≡ true
begun_at (Fixed w x ∷ ps) a b s h l g =
    let head = head_is w x ps (a * 65536 + b) l g in
    elim (cases_lt 16 w) [
      | inl e ↦ rw (lt-ltb 16 w e) refl
      | inr e ↦
          let up : (a * 65536 + b) / 2 ^ 16 ≡ a = high a 16 h in
          let is : a / 2 ^ (16 - w) ≡ x = ap (λ (n : ℕ). n / 2 ^ (16 - w)) (sym up) ∙ (shr-shr (a * 65536 + b) 16 (16 - w) ∙ (ap (λ (n : ℕ). (a * 65536 + b) / 2 ^ n) (let e : 16 + (16 - w) ≡ 32 - w = omega arith in e) ∙ head.1)) in
          rw (le-ltb 16 w e, eq-eqb (a / 2 ^ (16 - w)) x is) refl
    ]
begun_at ps a b s h l g = refl

pub upper_is : (k : Kind) (a b : ℕ) → a < 65536 → b < 65536 → agrees (pieces k) (whole (pieces k) a b) ≡ true → a / 4096 ≡ upper k
upper_is k a b h l g = let p = proper k in upper_at (pieces k) a b p.begins l (long_width (pieces k) p.width) (agrees_long (pieces k) a b h l g)

pub begun : (k : Kind) (a b : ℕ) → a < 65536 → b < 65536 → agrees (pieces k) (whole (pieces k) a b) ≡ true → begins_with (pieces k) a ≡ true
begun k a b h l g = let p = proper k in begun_at (pieces k) a b p.begins l (long_width (pieces k) p.width) (agrees_long (pieces k) a b h l g)

-- two halfwords agree with at most one row
pub one_row : (k l : Kind) (a b : ℕ) → a < 65536 → b < 65536 → agrees (pieces k) (whole (pieces k) a b) ≡ true → agrees (pieces l) (whole (pieces l) a b) ≡ true → k ≡ l
one_row k l a b h m p q =
    let up : upper l ≡ upper k = sym (upper_is l a b h m q) ∙ upper_is k a b h m p in
    let i = listed k in
    let j = listed l in
    let there : slice_get (kinds_at (upper k)) j.0 ≡ Some l = subst (λ (n : ℕ). slice_get (kinds_at n) j.0 ≡ Some l) up j.1 in
    let apart = apart_at kinds (upper k) kinds_apart in
    let wide : (x : Kind) → width (long (pieces x)) ≡ 32 = λ x. long_width (pieces x) (proper x).width in
    let pl = agrees_long (pieces k) a b h m p in
    let ql = agrees_long (pieces l) a b h m q in
    elim (cases_order i.0 j.0) [
      | inl e ↦ (let same : Some k ≡ Some l = sym i.1 ∙ (ap (slice_get (kinds_at (upper k))) e ∙ there) in cc)
      | inr o ↦ elim o [
        | inl n ↦ absurd (clash_apart 40 (long (pieces k)) (long (pieces l)) (a * 65536 + b) (apart_in (kinds_at (upper k)) i.0 j.0 k l apart n i.1 there) (wide k ∙ sym (wide l)) pl ql)
        | inr n ↦ absurd (clash_apart 40 (long (pieces l)) (long (pieces k)) (a * 65536 + b) (apart_in (kinds_at (upper k)) j.0 i.0 l k apart n there i.1) (wide l ∙ sym (wide k)) ql pl)
      ]
    ]
