-- Only items below 19 are read, so only these are live: a mask of 19 bits is enough.
use Rattle.std.proofs.Common.{◌≡◌, ℕ, zero, suc, ◌<◌, ◌≤◌, ◌==◌, ◌||◌, ◌&&◌, nat_lt, not, Bool, true, false, List, [], ◌∷◌, ◌++◌, if◌then◌else◌, Option, Some, None, refl, subst, arith, eqb-true, ltb-true}
use Rattle.std.specs.Prelude.{slice_get, filter}
use Rattle.std.proofs.lemmas.Option.{same_Some}
use Rattle.std.specs.List.{list_all}
use Rattle.thumb_instr.specs.declared.instr.Instr.{Instr}
use Rattle.thumb_instr.specs.declared.instr.Instr.TheVariants as instr
use Rattle.thumb_instr.specs.declared.operation.Operation.{Operation}
use Rattle.thumb_instr.specs.declared.operation.Operation.TheVariants as operation
use Rattle.thumb_instr.specs.declared.operation.ByteOperation.{ByteOperation}
use Rattle.thumb_instr.specs.declared.operation.ByteOperation.TheVariants as byte
use Rattle.thumb_instr.specs.declared.operation.Access.{Access}
use Rattle.thumb_instr.specs.declared.operation.Access.TheVariants as access
use Rattle.thumb_instr.specs.declared.operation.Condition.{Condition}
use Rattle.thumb_instr.specs.declared.operation.Condition.TheVariants as condition
use Rattle.thumb_instr.specs.Items.{has}
use Rattle.thumb_instr.specs.Shape.{registers_in, pushed, two_uses, byte_uses, access_uses, offset_access, word_access, condition_uses}
use Rattle.thumb_instr.specs.declared.within.Within.{Within}
use Rattle.thumb_instr.specs.declared.within.General.{General}
use Rattle.thumb_model.specs.Effect.{one_of, sp, lr}
use Rattle.thumb_model.specs.Listing.{Place, Op, Word, Code}
use Rattle.thumb_model.specs.States.{registers_left, handed}
use Rattle.thumb_model.specs.Steps.{aim_of}
use Rattle.thumb_model.specs.Flow.{Way, way, Onward, AnyPoint, Out, jump_way, call_way, left_but, ways, ways_on, ways_of, Reads, now, later, LiveAfter}
use Rattle.thumb_instr.specs.Window.{AreBelow}

-- an item of a list of items below k is below k
pub below_in : (k x : ℕ) (xs : List ℕ) → AreBelow k xs → one_of x xs ≡ true → x < k
below_in k x [] a h = absurd (cc)
below_in k x (y ∷ xs) a h =
    elim (x == y) as (λ b. (x == y) ≡ b → (b || one_of x xs) ≡ true → x < k) [
      | true ↦ λ e _. (let f = eqb-true x y e in omega (arith, a.0))
      | false ↦ λ e g. below_in k x xs a.1 g
    ] refl h

by_test : (k : ℕ) (xs : List ℕ) → list_all (λ x. nat_lt x k) xs ≡ true → AreBelow k xs
by_test k [] h = tt
by_test k (x ∷ xs) h =
    elim (nat_lt x k) as (λ b. nat_lt x k ≡ b → (b && list_all (λ x. nat_lt x k) xs) ≡ true → (x < k) × AreBelow k xs) [
      | true ↦ λ e g. (ltb-true x k e, by_test k xs g)
      | false ↦ λ e g. absurd (cc)
    ] refl h

-- lists below k: their filtered parts, two appended, and with a greater bound
pub below_filter : (k : ℕ) (p : ℕ → Bool) (xs : List ℕ) → AreBelow k xs → AreBelow k (filter p xs)
below_filter k p [] h = tt
below_filter k p (x ∷ xs) h = elim (p x) as (λ b. AreBelow k (if b then x ∷ filter p xs else filter p xs)) [ true ↦ (h.0, below_filter k p xs h.1) | false ↦ below_filter k p xs h.1 ]

pub below_append : (k : ℕ) (xs ys : List ℕ) → AreBelow k xs → AreBelow k ys → AreBelow k (xs ++ ys)
below_append k [] ys h g = g
below_append k (x ∷ xs) ys h g = (h.0, below_append k xs ys h.1 g)

pub below_more : (j k : ℕ) (xs : List ℕ) → j ≤ k → AreBelow j xs → AreBelow k xs
below_more j k [] l h = tt
below_more j k (x ∷ xs) l h = (omega (arith, h.0), below_more j k xs l h.1)

-- the registers of a list are low
pub registers_low : (list : ℕ) → AreBelow 8 (registers_in list)
unfolding registers_in
registers_low list = below_filter 8 (has list) (0 ∷ 1 ∷ 2 ∷ 3 ∷ 4 ∷ 5 ∷ 6 ∷ 7 ∷ []) (by_test 8 (0 ∷ 1 ∷ 2 ∷ 3 ∷ 4 ∷ 5 ∷ 6 ∷ 7 ∷ []) refl)

registers_small : (list : ℕ) → AreBelow 19 (registers_in list)
registers_small list = below_more 8 19 (registers_in list) (omega arith) (registers_low list)

-- what PUSH stores are registers
pub pushed_small : (list : ℕ) → AreBelow 15 (pushed list)
pushed_small list = below_append 15 (registers_in list) _ (below_more 8 15 (registers_in list) (omega arith) (registers_low list)) (elim (has list 8) as (λ b. AreBelow 15 (if b then lr ∷ [] else [])) [ true ↦ by_test 15 (lr ∷ []) refl | false ↦ tt ])

-- each way reads items below 19
abbrev AreSmall : List Way → Type 0
AreSmall [] = Unit {0}
AreSmall (w ∷ ws) = AreBelow 19 w.reads × AreSmall ws

-- a row: the items that an operation reads
small_two : (o : Operation) (d m : Within 0 8) → AreBelow 19 (two_uses o d.number m.number)
small_two operation.And d m = (omega arith, (omega arith, tt))
small_two o d m = grind arith

small_byte : (o : ByteOperation) (d : Within 0 8) → AreBelow 19 (byte_uses o d.number)
small_byte byte.Mov d = tt
small_byte o d = (omega arith, tt)

small_access : (a : Access) (t : Within 0 8) → AreBelow 19 (access_uses a t.number)
small_access access.Str t = (omega arith, tt)
small_access access.Strh t = (omega arith, tt)
small_access access.Strb t = (omega arith, tt)
small_access a t = tt

small_condition : (c : Condition) → AreBelow 19 (condition_uses c)
small_condition condition.Eq = by_test 19 (condition_uses condition.Eq) refl
small_condition c = by_test 19 (condition_uses c) refl

small_jump : (aim : Option ℕ) (xs : List ℕ) → AreBelow 19 xs → AreBelow 19 (jump_way xs aim).reads
small_jump None xs h = below_append 19 xs registers_left h (by_test 19 registers_left refl)
small_jump (Some p) xs h = h

small_call : (aim : Option ℕ) → AreBelow 19 (call_way aim).reads
small_call None = by_test 19 handed refl
small_call (Some p) = tt

low_small : (d : Within 0 8) → d.number < 19
low_small d = omega arith

reg_small : (d : Within 0 15) → d.number < 19
reg_small d = omega arith

general_small : (d : General) → d.number < 19
general_small d = omega arith

-- a row: the items that an instruction reads
small_ways : (aim : Option ℕ) (i : Instr) → AreSmall (ways_of aim i)
small_ways aim (instr.Two o d m) = (small_two o d m, tt)
small_ways aim (instr.Bx m) = ((omega arith, tt), ((omega arith, by_test 19 registers_left refl), tt))
small_ways aim (instr.TwoNumber o d i) = (small_byte o d, tt)
small_ways aim (instr.Blx m) = ((omega arith, tt), ((omega arith, by_test 19 handed refl), tt))
small_ways aim (instr.Indexed a t n m) = ((omega arith, (omega arith, small_access a t)), tt)
small_ways aim (instr.Offset a t n i) = ((omega arith, small_access (offset_access a) t), tt)
small_ways aim (instr.Stack a t i) = ((omega arith, small_access (word_access a) t), tt)
small_ways aim (instr.Push l) = ((omega arith, below_more 15 19 (pushed l.number) (omega arith) (pushed_small l.number)), tt)
small_ways aim (instr.Pop l) =
    elim (has l.number 8) as (λ b. AreSmall (if b then way (sp ∷ []) (sp ∷ registers_in l.number) AnyPoint ∷ way (sp ∷ left_but (registers_in l.number)) (sp ∷ registers_in l.number) Out ∷ [] else way (sp ∷ []) (sp ∷ registers_in l.number) Onward ∷ [])) [
      | true ↦ ((omega arith, tt), ((omega arith, below_filter 19 (λ x. not (one_of x (registers_in l.number))) registers_left (by_test 19 registers_left refl)), tt))
      | false ↦ ((omega arith, tt), tt)
    ]
small_ways aim (instr.StoreMany s) = ((omega arith, registers_small s.list.number), tt)
small_ways aim (instr.Service i) = (by_test 19 (0 ∷ 1 ∷ 2 ∷ 3 ∷ 12 ∷ sp ∷ []) refl, tt)
small_ways aim (instr.BranchIf c d) = (small_jump aim (condition_uses c) (small_condition c), (small_condition c, tt))
small_ways aim (instr.Branch d) = (small_jump aim [] tt, tt)
small_ways aim (instr.Call d) = (small_call aim, tt)
small_ways aim i = search (arith, low_small, reg_small, general_small)

small_at : (ws : List Way) (k : ℕ) (w : Way) → AreSmall ws → slice_get ws k ≡ Some w → AreBelow 19 w.reads
small_at [] k w a e = absurd (cc)
small_at (v ∷ ws) zero w a e = subst (λ (u : Way). AreBelow 19 u.reads) (same_Some v w e) a.0
small_at (v ∷ ws) (suc k) w a e = small_at ws k w a.1 e

small_on : (code : Code) (o : Option Place) → AreSmall (ways_on code o)
small_on code None = tt
small_on code (Some (Word v)) = tt
small_on code (Some (Op i mention)) = small_ways (aim_of code mention) i

-- only items below 19 are read
pub reads_small : (code : Code) (x p : ℕ) → Reads code x p → x < 19
reads_small code x _ (now p k w e t) = below_in 19 x w.reads (small_at (ways code p) k w (small_on code (slice_get code.places p)) e) t
reads_small code x _ (later p k w q e n f r) = reads_small code x q r

-- only items below 19 are live
pub live_small : (code : Code) (p x : ℕ) → LiveAfter code p x → x < 19
live_small code p x l = reads_small code x l.2 l.5
