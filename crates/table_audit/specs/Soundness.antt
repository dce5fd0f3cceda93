-- What an accepted table promises: sound rules, shortest or cheapest right sides, open names with their logs, and families that hold for each value.
use Rattle.std.specs.Prelude.{ℕ, ◌≡◌, ◌≤◌, ◌↔◌, false, List, [], ◌∷◌, Option, None, Some, ◌++◌, filter, length, map, replicate, slice_get}
use Rattle.thumb_instr.specs.declared.instr.Instr.{Instr}
use Rattle.thumb_instr.specs.Items.{has}
use Rattle.rule_model.specs.Rules.{Rule, alone, AreSound}
use Rattle.thumb_model.specs.Effect.{Equal}
use Rattle.rule_table.specs.Header.{Header}
use Rattle.rule_table.specs.Table as table
use Rattle.table_audit.specs.Shorter.{IsBelow, is_named}
use Rattle.table_audit.specs.Acceptance.{IsRightlyOpen}
use Rattle.table_audit.specs.Families.{entry_at, entry_of, values_of, raised, IsRaisable, AreEqualWithEach, NoneIsShorter}

-- ---- entries as rewriting uses them ----

-- the items of a mask: some of r0 to r3, N, Z, C and V
unfoldable pub items_in : ℕ → List ℕ
items_in mask = filter (has mask) (0 ∷ 1 ∷ 2 ∷ 3 ∷ 15 ∷ 16 ∷ 17 ∷ 18 ∷ [])

abbrev pub number_of : table.Opened → ℕ
number_of o = o.number

abbrev pub rewriting_rule : table.Rule → Rule
rewriting_rule e = record { left = e.left; right = e.right; mask = items_in e.mask; open_numbers = map number_of e.opens }

-- a family's instances: its entry's rule with each value
abbrev pub instances_of : table.Family → Option table.Rule → List Rule
instances_of f None = []
instances_of f (Some e) = map (λ x. rewriting_rule (raised f.number e x)) (values_of f)

-- the numbers of entries and, behind them, of families: an entry's stands for its rule, a family's for its instances
abbrev pub numbers_in : List table.Rule → List table.Family → List (List Rule)
numbers_in es fs = alone (map rewriting_rule es) ++ map (λ f. instances_of f (entry_at es f.entry)) fs

abbrev pub numbers_of : table.Table → List (List Rule)
numbers_of t = numbers_in t.rules t.families

-- ---- shortest, or with costs cheapest ----

-- an entry's right side is no longer than its left side, and no sequence below it leaves the same under the mask, save those that the entry names open
pub record IsShortest (h : Header) (e : table.Rule) : Type 0 where
  pub no_longer : length e.right ≤ length e.left
  pub least : (number : ℕ) (other : List Instr) → IsBelow h e.left e.right number other → is_named e.opens number ≡ false → Equal e.left other (items_in e.mask) → ⊥

-- where each mnemonic costs 1, a right side is cheapest exactly where it would be shortest without costs
abbrev pub CheapestIsShortest : Type 0
CheapestIsShortest = (h : Header) (e : table.Rule) → h.costs ≡ Some (replicate 28 1) → IsShortest h e ↔ IsShortest (record h { costs = None }) e

abbrev pub AreShortest : table.Table → Type 0
AreShortest t = (k : ℕ) (e : table.Rule) → slice_get t.rules k ≡ Some e → IsShortest t.header e

-- each number that an entry names open is that of a sequence below its right side and has its log
abbrev pub AreRightlyOpen : table.Table → Type 0
AreRightlyOpen t = (k : ℕ) (e : table.Rule) → slice_get t.rules k ≡ Some e → (i : ℕ) (o : table.Opened) → slice_get e.opens i ≡ Some o → IsRightlyOpen t e o

-- a family's entry holds for each value, and its right side is shortest, or cheapest, for all of them together
pub record IsSoundFamily (t : table.Table) (f : table.Family) : Type 0 where
  pub entry : table.Rule
  pub is_entry : entry_of t f ≡ Some entry
  pub raisable : IsRaisable t.header.pool f entry.left
  pub equal : AreEqualWithEach f entry (items_in entry.mask)
  pub least : NoneIsShorter t.header f entry (items_in entry.mask)

abbrev pub AreSoundFamilies : table.Table → Type 0
AreSoundFamilies t = (k : ℕ) (f : table.Family) → slice_get t.families k ≡ Some f → IsSoundFamily t f

-- a table's rules are sound, and shortest or cheapest but for what they rightly name open; its families hold for each of their values
pub record IsSound (t : table.Table) : Type 0 where
  pub sound : AreSound (numbers_of t)
  pub shortest : AreShortest t
  pub opens : AreRightlyOpen t
  pub families : AreSoundFamilies t
