-- What rewriting a listing by a table gives, as the code holds it.
use Rattle.std.specs.Prelude.{◌≡◌, ℕ, zero, suc, ◌≤◌, ◌-◌, ◌+◌, ◌*◌, List, [], ◌∷◌, length, Option, Some, None}
use Rattle.thumb_instr.specs.Window.{Low}
use Rattle.thumb_model.specs.Listing.{ListingLine, places_of}
use Rattle.rule_model.specs.Rules.{Rule}
use Rattle.rule_model.specs.Rewriting.{Setting, Replacement}
use Rattle.seq_enum.specs.Costs.{cost_under}
use Rattle.rule_table.specs.Table.{Table}
use Rattle.table_audit.specs.Soundness.{numbers_of}
use Rattle.label_layout.specs.Refusals.{fault_of, first_fault}
use Rattle.listing_parser.specs.Grammar.{most_lines}
use Rattle.listing_parser.specs.Parsing.{own_line}
use Rattle.window_rewrite.specs.declared.choice.Replacement.{Replacement as Made}
use Rattle.window_rewrite.specs.declared.errors.RewriteError.{RewriteError}
use Rattle.window_rewrite.specs.declared.errors.RewriteError.TheVariants as error

-- rewriting by these costs and by the rules of these numbers, for an image that begins at the base: a listing has as many lines as it may have at most, and a new instruction has a line of its own: a tab, its canonical text and a newline
abbrev pub setting_by : Option (List ℕ) → ℕ → List (List Rule) → Setting
setting_by costs base table = record { table = table; cost = cost_under costs; base = base; most_lines = most_lines; write = own_line }

-- rewriting by a table
abbrev pub setting : ℕ → Table → Setting
setting base t = setting_by t.header.costs base (numbers_of t)

-- the registers that a map has, in order
abbrev pub registers_of : List (Option Low) → List Low
registers_of [] = []
registers_of (None ∷ os) = registers_of os
registers_of (Some r ∷ os) = r ∷ registers_of os

-- a replacement that was made: its entry or family is counted from 0
abbrev pub replacement_of : Made → Replacement
replacement_of m = record { place = m.place; entry = m.entry - 1; instance = m.instance; registers = registers_of m.map }

-- the map of n registers that gives these in place of r0, r1, .. , and none in place of the rest
abbrev pub map_of : ℕ → List Low → List (Option Low)
map_of zero rs = []
map_of (suc n) [] = None ∷ map_of n []
map_of (suc n) (r ∷ rs) = Some r ∷ map_of n rs

-- a replacement that was made has its entry or family counted from 1, and its registers in place of r0, r1, .. , without a gap among the eight
pub record IsWhole (m : Made) : Type 0 where
  pub counted : 1 ≤ m.entry
  pub in_place : m.map ≡ map_of 8 (registers_of m.map)

-- why the given lines are refused: the first of them that cannot be laid out, by what its first fault is
abbrev pub IsRefusal : ℕ → List ListingLine → RewriteError → Type 0
IsRefusal base lines (error.Line number k) = first_fault base lines ≡ Some (number, fault_of k)
IsRefusal base lines error.Memory = Unit {0}

-- how many visits of places there are at most in the search for the live items of a listing with `places` places
abbrev pub visits : ℕ → ℕ
visits places = (19 * places + 1) * places

-- how many matches are tried at most for one replacement; `numbers` is how many entries and families there are
abbrev pub round_cost : ℕ → ℕ → ℕ
round_cost places numbers = places * numbers

-- the cost of some replacements, and of finding that there is no more: the matches, and the visits for the live items of the given lines
abbrev pub rewriting_cost : List ListingLine → ℕ → ℕ → ℕ
rewriting_cost lines numbers replacements = (replacements + 1) * round_cost (length (places_of lines)) numbers + visits (length (places_of lines))
