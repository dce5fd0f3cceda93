-- Replacements that can be made, and which of them comes first.
use Rattle.std.specs.Prelude.{◌≡◌, ℕ, ◌+◌, ◌<◌, ◌≤◌, ◌==◌, nat_lt, max, Bool, true, List, [], ◌∷◌, ◌++◌, length, drop, map, slice_get, Option, Some}
use Rattle.std.specs.Int.{from_bool}
use Rattle.thumb_instr.specs.declared.instr.Instr.{Instr}
use Rattle.thumb_instr.specs.Window.{Low}
use Rattle.thumb_model.specs.Listing.{ListingLine, code_of}
use Rattle.thumb_model.specs.Layout.{Layable}
use Rattle.rule_model.specs.Rules.{Rule, weight, alone, rule_at, Applies}
use Rattle.rule_model.specs.Rewriting.{Setting, Replacement, used_rule, AppliesIn, IsFirst, lines_after, left_length}
use Rattle.thumb_model.specs.Replaced.{are_joined_from, replaced_lines, IsWindow}
use Rattle.window_rewrite.specs.declared.choice.Choice.{Choice}
use Rattle.window_rewrite.specs.declared.finding.Rules.{Rules}
use Rattle.window_rewrite.specs.TableRewriting.{setting_by, replacement_of, IsWhole}
use Rattle.rule_table.specs.Views.{family_of, rule_of}
use Rattle.table_audit.specs.Soundness.{numbers_in}
use Rattle.window_rewrite.specs.Rules.{rules_in, chain_of, chains_of, left_forms, raised_rules, first_with, with_open, AreFit, AreRaised, IsIndex}
use Rattle.window_rewrite.specs.Forms.{form_of}
use Rattle.window_rewrite.specs.Fitting.{Lightens}
use Rattle.window_rewrite.specs.Settled.{MayGiveWay}

-- the table of a finder
abbrev pub table_in : Rules → List (List Rule)
table_in r = numbers_in (map rule_of r.entries.now) (map family_of r.families.now)

abbrev pub setting_of : Rules → Setting
setting_of r = setting_by r.costs.now r.base (table_in r)

-- its entries alone
abbrev pub entries_setting : Rules → Setting
entries_setting r = setting_by r.costs.now r.base (alone (rules_in r.entries.now))

-- rules with the left sides of its families, and with those of its entries too
abbrev pub families_sides : Rules → List Rule
families_sides r = raised_rules (map rule_of r.entries.now) (map family_of r.families.now)

abbrev pub sides_of : Rules → List Rule
sides_of r = rules_in r.entries.now ++ families_sides r

-- its rules are those of an accepted table, and its index is theirs
pub record AreReady (r : Rules) : Type 0 where
  pub few : r.longest ≤ 5
  pub fit : AreFit r.longest (table_in r)
  pub raised : AreRaised (map rule_of r.entries.now) (map family_of r.families.now)
  pub index : IsIndex r.costs.now (map rule_of r.entries.now) (map family_of r.families.now) r.index.now

-- each rule that stands in the window and whose right side weighs less is in this chain
abbrev pub AreInChain : Option (List ℕ) → List Rule → List Instr → ℕ → Type 0
AreInChain costs rules window chain = (k : ℕ) (rule : Rule) (registers : List Low) → slice_get rules k ≡ Some rule → Lightens costs rule registers window → chain_of (left_forms rules) (form_of rule.left) ≡ chain

-- of the rules from the k-th on, the next one that is kept and whose left side may stand in the window is this
pub record Awaits (costs : Option (List ℕ)) (rules : List Rule) (kept : List Bool) (window : List Instr) (k : ℕ) (next : Option ℕ) : Type 0 where
  pub chain : ℕ
  pub are_in : AreInChain costs rules window chain
  pub is : next ≡ first_with kept chain k (drop k (chains_of (left_forms rules)))

-- ---- with and without a look at the lines that are left ----

-- the rule fits there under this map: it applies, but its scratch register needn't be the least, and the lines that it leaves may be too many or not layable
pub record FitsIn (s : Setting) (o : Replacement) (lines : List ListingLine) : Type 0 where
  pub rule : Rule
  pub is_rule : used_rule s o ≡ Some rule
  pub lowers : weight s.cost rule.right < weight s.cost rule.left
  pub applies : Applies rule o.registers (code_of lines) o.place
  pub joined : are_joined_from o.place (length rule.left) lines ≡ true

-- the lines that it leaves are not too many, and can be laid out
pub record IsAllowed (s : Setting) (o : Replacement) (lines : List ListingLine) : Type 0 where
  pub few : length (lines_after s o lines) ≤ max (length lines) s.most_lines
  pub layable : Layable s.base (lines_after s o lines)

-- it fits, and where that is asked too, the lines that it leaves are allowed
abbrev pub Meets : Bool → Setting → Replacement → List ListingLine → Type 0
Meets asked s o lines = FitsIn s o lines × (asked ≡ true → IsAllowed s o lines)

-- ---- choices ----

abbrev pub choice_of : Choice → Replacement
choice_of c = replacement_of c.replacement

-- it applies: its window gives way to its new instructions
pub record IsChoice (s : Setting) (lines : List ListingLine) (c : Choice) : Type 0 where
  pub whole : IsWhole c.replacement
  pub applies : AppliesIn s (choice_of c) lines
  pub is_window : IsWindow lines (choice_of c).place c.window
  pub gives_way : MayGiveWay (code_of lines) (choice_of c).place c.window c.new
  pub leaves : replaced_lines s.write (choice_of c).place (length c.window) c.new lines ≡ lines_after s (choice_of c) lines
  pub long : length c.window ≡ left_length s (choice_of c)

-- a rule with these sides and this mask applies at the place as this number's instance
pub record IsChoiceBy (costs : Option (List ℕ)) (base : ℕ) (rule : Rule) (lines : List ListingLine) (place entry instance : ℕ) (c : Choice) : Type 0 where
  pub is : (table : List (List Rule)) (numbers : List ℕ) → rule_at table entry instance ≡ Some (with_open rule numbers) → IsChoice (setting_by costs base table) lines c
  pub at : (choice_of c).place ≡ place
  pub entry_is : (choice_of c).entry ≡ entry
  pub instance_is : (choice_of c).instance ≡ instance

-- no replacement at the place by a rule with these sides and this mask satisfies `Meets asked`
abbrev pub NoneBy : Bool → Option (List ℕ) → ℕ → Rule → List ListingLine → ℕ → Type 0
NoneBy asked costs base rule lines place = (table : List (List Rule)) (numbers : List ℕ) (o : Replacement) → used_rule (setting_by costs base table) o ≡ Some (with_open rule numbers) → o.place ≡ place → Meets asked (setting_by costs base table) o lines → ⊥

-- of the choices at a place by left sides of `count` instructions it has the lowest number
pub record IsLowest (s : Setting) (lines : List ListingLine) (place count : ℕ) (c : Choice) : Type 0 where
  pub is : IsChoice s lines c
  pub at : (choice_of c).place ≡ place
  pub long : left_length s (choice_of c) ≡ count
  pub lowest : (o : Replacement) → AppliesIn s o lines → o.place ≡ place → left_length s o ≡ count → (choice_of c).entry ≤ o.entry
  pub lowest_instance : (o : Replacement) → AppliesIn s o lines → o.place ≡ place → left_length s o ≡ count → o.entry ≡ (choice_of c).entry → (choice_of c).instance ≤ o.instance

-- no replacement at the place with a left side of `count` instructions satisfies `Meets asked`
abbrev pub NoneOf : Bool → Setting → List ListingLine → ℕ → ℕ → Type 0
NoneOf asked s lines place count = (o : Replacement) → Meets asked s o lines → o.place ≡ place → left_length s o ≡ count → ⊥

-- of the choices at a place it is the best
pub record IsBest (s : Setting) (lines : List ListingLine) (place : ℕ) (c : Choice) : Type 0 where
  pub is : IsChoice s lines c
  pub at : (choice_of c).place ≡ place
  pub longest : (o : Replacement) → AppliesIn s o lines → o.place ≡ place → left_length s o ≤ left_length s (choice_of c)
  pub lowest : (o : Replacement) → AppliesIn s o lines → o.place ≡ place → left_length s o ≡ left_length s (choice_of c) → (choice_of c).entry ≤ o.entry
  pub lowest_instance : (o : Replacement) → AppliesIn s o lines → o.place ≡ place → left_length s o ≡ left_length s (choice_of c) → o.entry ≡ (choice_of c).entry → (choice_of c).instance ≤ o.instance

-- no replacement at the place satisfies `Meets asked`
abbrev pub NoneAt : Bool → Setting → List ListingLine → ℕ → Type 0
NoneAt asked s lines place = (o : Replacement) → Meets asked s o lines → o.place ≡ place → ⊥

-- of all choices it is the first
pub record IsFirstChoice (s : Setting) (lines : List ListingLine) (c : Choice) : Type 0 where
  pub first : IsFirst s (choice_of c) lines
  pub is : IsChoice s lines c

-- no replacement before the place satisfies `Meets asked`
abbrev pub NoneBefore : Bool → Setting → List ListingLine → ℕ → Type 0
NoneBefore asked s lines place = (o : Replacement) → Meets asked s o lines → o.place < place → ⊥

-- ---- how many rules there are ----

-- with left sides of n instructions, and with longer ones
unfoldable pub of_length : ℕ → List Rule → ℕ
of_length n [] = 0
of_length n (r ∷ rs) = from_bool (length r.left == n) + of_length n rs

unfoldable pub longer : ℕ → List Rule → ℕ
longer n [] = 0
longer n (r ∷ rs) = from_bool (nat_lt n (length r.left)) + longer n rs
