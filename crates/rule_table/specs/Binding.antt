-- The bindings of a left side's registers to a window's, found one by one: what each step of the matcher of `binding` guarantees.
use Rattle.std.specs.Prelude.{◌≡◌, ℕ, ◌||◌, ◌↔◌, Bool, true, false, List, Option, Some, slice_get}
use Rattle.std.specs.Option.{option_and_then, is_some}
use Rattle.thumb_instr.specs.Items.{has as has_item}
use Rattle.thumb_instr.specs.declared.role.Role.{Role}
use Rattle.thumb_instr.specs.declared.role.Role.TheVariants.{Register}
use Rattle.thumb_instr.specs.Window.{Low, item_under}
use Rattle.rule_table.specs.Canonical.{has}

-- the register to which x is bound, if it is bound so far
abbrev pub given_at : List (Option Low) → ℕ → Option Low
given_at given x = option_and_then (λ o. o) (slice_get given x)

-- no two registers are bound to the same one, and the set has exactly the registers to which one is bound
pub record IsOneToOne (given : List (Option Low)) (taken : ℕ) : Type 0 where
  pub apart : (x y : ℕ) (r s : Low) → given_at given x ≡ Some r → given_at given y ≡ Some s → r.number ≡ s.number → x ≡ y
  pub held : (x : ℕ) (r : Low) → given_at given x ≡ Some r → has_item taken r.number ≡ true
  pub places : (n : ℕ) → has_item taken n ≡ true → (x : ℕ) × (r : Low) × (given_at given x ≡ Some r) × (r.number ≡ n)

-- these registers agree with the bindings: for each bound register they have the one to which it is bound
abbrev pub Agrees : List Low → List (Option Low) → Type 0
Agrees registers given = (x : ℕ) (r : Low) → given_at given x ≡ Some r → item_under registers x ≡ r.number

-- the names are bound too, and registers agree with the new bindings if and only if they agree with the old ones and meet what is asked
pub record Binds (old new : List (Option Low)) (names : List ℕ) (Asked : List Low → Type 0) : Type 0 where
  pub named : (x : ℕ) → is_some (given_at new x) ≡ (is_some (given_at old x) || has names x)
  pub agree : (registers : List Low) → Agrees registers new ↔ (Agrees registers old × Asked registers)

-- no registers that agree with the bindings meet what is asked and are one-to-one on the bound and named registers
abbrev pub Clashes : List (Option Low) → List ℕ → (List Low → Type 0) → Type 0
Clashes old names Asked =
    (registers : List Low) → Agrees registers old → Asked registers
    → ((x y : ℕ) → (is_some (given_at old x) || has names x) ≡ true → (is_some (given_at old y) || has names y) ≡ true → item_under registers x ≡ item_under registers y → x ≡ y) → ⊥

-- what the answer says: true, the names are bound; false, they can't be
abbrev pub IsBound : Bool → List (Option Low) → List (Option Low) → List ℕ → (List Low → Type 0) → Type 0
IsBound true old new names Asked = Binds old new names Asked
IsBound false old new names Asked = Clashes old names Asked

-- an operand of this role, renamed if it is a register
abbrev pub number_under : List Low → Role → ℕ → ℕ
number_under registers (Register u c) n = item_under registers n
number_under registers r n = n
