-- The families of a table at a window.
use Rattle.std.specs.Prelude.{◌≡◌, ℕ, ◌+◌, ◌<◌, ◌≤◌, Bool, List, Option, drop, length, map}
use Rattle.thumb_instr.specs.declared.instr.Instr.{Instr}
use Rattle.thumb_instr.specs.declared.instr.Instr.TheVariants as instr
use Rattle.thumb_model.specs.Listing.{ListingLine}
use Rattle.bit_blast.specs.Slots.{Byte, IsValue, instance}
use Rattle.rule_table.specs.Table.{Rule, Family}
use Rattle.rule_table.specs.Views.{family_of, rule_of}
use Rattle.table_audit.specs.Families.{symbol_of}
use Rattle.rule_model.specs.Rewriting.{Replacement, AppliesIn, left_length}
use Rattle.window_rewrite.specs.declared.choice.Choice.{Choice}
use Rattle.window_rewrite.specs.declared.families.Instance.{Instance}
use Rattle.window_rewrite.specs.declared.finding.Rules.{Rules}
use Rattle.window_rewrite.specs.Forms.{form_of}
use Rattle.window_rewrite.specs.Rules.{chain_of, chains_of, first_with, raised_forms}
use Rattle.window_rewrite.specs.Hashes.{blind}
use Rattle.window_rewrite.specs.Choices.{choice_of, setting_of, IsChoice, Meets}

-- movs, cmp, adds or subs with this number in 8 bits
abbrev pub IsByteOf : Instr → Byte → Type 0
IsByteOf (instr.TwoNumber o d i) x = i ≡ x
IsByteOf i x = ⊥

-- the sides of a family's entry with a value in the holes, and its mask
pub record IsInstance (f : Family) (e : Rule) (x : Byte) (i : Instance) : Type 0 where
  pub left : i.rule.left ≡ instance f.number e.left x
  pub right : i.rule.right ≡ instance f.number e.right x
  pub mask : i.rule.mask.items.bits ≡ e.mask
  pub number : f.low + i.number ≡ x.number

-- it is the instance with a value of the range, the only one with which the left side may be `side`
pub record IsOnlyInstance (f : Family) (e : Rule) (side : List Instr) (i : Instance) : Type 0 where
  pub value : Byte
  pub among : IsValue (symbol_of f) value
  pub is : IsInstance f e value i
  pub only : (x : Byte) → instance f.number e.left x ≡ side → x ≡ value

-- the hashes of its families' left sides with 0 for 8-bit numbers
abbrev pub family_forms : Rules → List ℕ
family_forms r = raised_forms (map rule_of r.entries.now) (map family_of r.families.now)

-- of the families from the k-th on, the next one whose left side is in the chain of this side, both with 0 for 8-bit numbers, is this
abbrev pub AwaitsFamily : Rules → List Instr → ℕ → Option ℕ → Type 0
AwaitsFamily r side k next = next ≡ first_with r.index.now.families.kept.items (chain_of (family_forms r) (form_of (map blind side))) k (drop k (chains_of (family_forms r)))

-- ---- choices ----

-- it applies by an instance of the family of a number, and no other instance does
pub record IsFamilyChoice (r : Rules) (lines : List ListingLine) (place count n : ℕ) (c : Choice) : Type 0 where
  pub is : IsChoice (setting_of r) lines c
  pub at : (choice_of c).place ≡ place
  pub long : left_length (setting_of r) (choice_of c) ≡ count
  pub entry : (choice_of c).entry ≡ length r.entries.now + n
  pub only : (o : Replacement) → AppliesIn (setting_of r) o lines → o.place ≡ place → left_length (setting_of r) o ≡ count → o.entry ≡ length r.entries.now + n → o.instance ≡ (choice_of c).instance

-- no replacement at the place by an instance of the family, with a left side of `count` instructions, satisfies `Meets asked`
abbrev pub NoneOfFamily : Bool → Rules → List ListingLine → ℕ → ℕ → ℕ → Type 0
NoneOfFamily asked r lines place count n = (o : Replacement) → Meets asked (setting_of r) o lines → o.place ≡ place → left_length (setting_of r) o ≡ count → o.entry ≡ length r.entries.now + n → ⊥

-- and none by an instance of the first n families
abbrev pub NoneOfFamilies : Bool → Rules → List ListingLine → ℕ → ℕ → ℕ → Type 0
NoneOfFamilies asked r lines place count n =
    (o : Replacement) → Meets asked (setting_of r) o lines → o.place ≡ place → left_length (setting_of r) o ≡ count → length r.entries.now ≤ o.entry → o.entry < length r.entries.now + n → ⊥

-- of the choices at a place by families with left sides of `count` instructions it has the lowest number
pub record IsLowestFamily (r : Rules) (lines : List ListingLine) (place count : ℕ) (c : Choice) : Type 0 where
  pub is : IsChoice (setting_of r) lines c
  pub at : (choice_of c).place ≡ place
  pub long : left_length (setting_of r) (choice_of c) ≡ count
  pub lowest : (o : Replacement) → AppliesIn (setting_of r) o lines → o.place ≡ place → left_length (setting_of r) o ≡ count → length r.entries.now ≤ o.entry → (choice_of c).entry ≤ o.entry
  pub lowest_instance : (o : Replacement) → AppliesIn (setting_of r) o lines → o.place ≡ place → left_length (setting_of r) o ≡ count → o.entry ≡ (choice_of c).entry → (choice_of c).instance ≤ o.instance
