-- What a rule is, when it is sound, what a table of rules is, and where in a code a rule applies.
use Rattle.std.specs.Prelude.{◌≡◌, ℕ, ◌+◌, ◌-◌, ◌<◌, ◌≤◌, max, true, false, List, [], ◌∷◌, length, take, drop, map, sum_by, Option, Some, None, slice_get, ◌⊎◌}
use Rattle.thumb_instr.specs.declared.instr.Instr.{Instr}
use Rattle.thumb_instr.specs.Window.{Low, renamed, item_under}
use Rattle.thumb_model.specs.Effect.{one_of, Equal, IsOneToOne, AreOver, is_named, register_count, normalised}
use Rattle.thumb_model.specs.Listing.{plain, Label, Code, is_code}
use Rattle.thumb_model.specs.Flow.{LiveAfter}
use Rattle.thumb_model.specs.Replaced.{move_label, replaced}

-- a rule: its left side, its right side, the items that may be live after it, and the numbers of the sequences that it leaves open
pub record Rule : Type 0 where
  pub left : List Instr
  pub right : List Instr
  pub mask : List ℕ
  pub open_numbers : List ℕ

-- the registers of both sides: those of the left side, or a scratch register more
abbrev pub rule_registers : Rule → ℕ
rule_registers rule = max (register_count rule.left) (register_count rule.right)

-- the sides are equal under the mask, the right one is no longer, and it names the registers of the left side, which are those below their count, and at most the next one as scratch
pub record IsSoundRule (rule : Rule) : Type 0 where
  pub few : rule_registers rule ≤ 4
  pub near : rule_registers rule ≤ register_count rule.left + 1
  pub no_longer : length rule.right ≤ length rule.left
  pub left : AreOver (register_count rule.left) rule.left
  pub right : AreOver (rule_registers rule) rule.right
  pub mask : (x : ℕ) → one_of x rule.mask ≡ true → (x < register_count rule.left) ⊎ ((15 ≤ x) × (x < 19))
  pub all_named : (x : ℕ) → x < register_count rule.left → is_named x rule.left ≡ true
  pub equal : Equal rule.left rule.right rule.mask

-- what a sequence costs
abbrev pub weight : (Instr → ℕ) → List Instr → ℕ
weight cost is = sum_by cost is

-- ---- tables ----

-- each number of a table stands for rules: for one, or for the instances of a family
abbrev pub rule_among : Option (List Rule) → ℕ → Option Rule
rule_among None instance = None
rule_among (Some rules) instance = slice_get rules instance

abbrev pub rule_at : List (List Rule) → ℕ → ℕ → Option Rule
rule_at table entry instance = rule_among (slice_get table entry) instance

-- a table whose numbers stand for one rule each
abbrev pub alone : List Rule → List (List Rule)
alone rules = map (λ rule. rule ∷ []) rules

-- each rule of the table is sound
abbrev pub AreSound : List (List Rule) → Type 0
AreSound table = (entry instance : ℕ) (rule : Rule) → rule_at table entry instance ≡ Some rule → IsSoundRule rule

-- ---- where a rule applies ----

pub record Applies (rule : Rule) (registers : List Low) (code : Code) (p : ℕ) : Type 0 where
  -- a one-to-one map of the rule's registers
  pub as_many : length registers ≡ rule_registers rule
  pub one_to_one : IsOneToOne registers
  -- the instructions from p, normalised, are the left side under the map
  pub window : List Instr
  pub stands : take (length rule.left) (drop p code.places) ≡ map plain window
  pub matches : map normalised window ≡ map (renamed registers) rule.left
  -- no label stands between them
  pub unlabelled : (k : ℕ) (l : Label) → slice_get code.labels k ≡ Some l → (l.place ≤ p) ⊎ (p + length rule.left ≤ l.place)
  -- what is live after them is in the mask under the map, or a register outside the map
  pub live : (x : ℕ) → LiveAfter code (p + length rule.left - 1) x → (one_of x (map (item_under registers) rule.mask) ≡ true) ⊎ ((x < 15) × (one_of x (map (λ r. r.number) registers) ≡ false))
  -- each code label is still code
  pub labels_stay : (k : ℕ) (l : Label) → slice_get code.labels k ≡ Some l → is_code code.places l ≡ true → is_code (replaced code p (length rule.left) (map (renamed registers) rule.right)).places (move_label p (length rule.left - length rule.right) l) ≡ true
