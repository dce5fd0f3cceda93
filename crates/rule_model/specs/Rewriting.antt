-- What rewriting a listing's lines by a table is: the first replacement that can be made, again and again, until none can.
use Rattle.std.specs.Prelude.{◌≡◌, ℕ, ◌+◌, ◌-◌, ◌<◌, ◌≤◌, max, true, List, [], ◌∷◌, length, take, map, Option, Some, None, slice_get, ◌⊎◌}
use Rattle.thumb_instr.specs.declared.instr.Instr.{Instr}
use Rattle.thumb_instr.specs.Window.{Low, renamed}
use Rattle.thumb_model.specs.Effect.{one_of, register_count}
use Rattle.thumb_model.specs.Listing.{ListingLine, Code, code_of}
use Rattle.thumb_model.specs.Flow.{LiveAfter}
use Rattle.thumb_model.specs.Layout.{Layable}
use Rattle.thumb_model.specs.Replaced.{replaced_lines, are_joined_from}
use Rattle.rule_model.specs.Rules.{Rule, weight, rule_at, Applies}

-- what rewriting is given: the rules of each number of the table, what an instruction costs, the base, how many lines there may be, and the bytes of an instruction's own line
pub record Setting : Type 0 where
  pub table : List (List Rule)
  pub cost : Instr → ℕ
  pub base : ℕ
  pub most_lines : ℕ
  pub write : Instr → List ℕ

-- a rule of the table was used at a place, under this map
pub record Replacement : Type 0 where
  pub place : ℕ
  pub entry : ℕ
  pub instance : ℕ
  pub registers : List Low

-- the rule that a replacement uses
abbrev pub used_rule : Setting → Replacement → Option Rule
used_rule s r = rule_at s.table r.entry r.instance

abbrev pub lines_after_rule : Setting → Option Rule → Replacement → List ListingLine → List ListingLine
lines_after_rule s None r ls = ls
lines_after_rule s (Some rule) r ls = replaced_lines s.write r.place (length rule.left) (map (renamed r.registers) rule.right) ls

-- the lines after a replacement by the table
abbrev pub lines_after : Setting → Replacement → List ListingLine → List ListingLine
lines_after s r ls = lines_after_rule s (used_rule s r) r ls

-- the scratch register, where the map has one, is the least that is free: each lesser register is one of the left side's or live after the window
abbrev pub IsLeastScratch : Rule → List Low → Code → ℕ → Type 0
IsLeastScratch rule registers code p = (scratch : Low) → slice_get registers (register_count rule.left) ≡ Some scratch → (x : ℕ) → x < scratch.number →
    (one_of x (map (λ r. r.number) (take (register_count rule.left) registers)) ≡ true) ⊎ LiveAfter code (p + length rule.left - 1) x

-- this rule of the table lowers the cost and applies there, under this map, and the lines that it leaves are not too many and can be laid out
pub record AppliesIn (s : Setting) (r : Replacement) (ls : List ListingLine) : Type 0 where
  pub rule : Rule
  pub is_rule : used_rule s r ≡ Some rule
  pub lowers : weight s.cost rule.right < weight s.cost rule.left
  pub applies : Applies rule r.registers (code_of ls) r.place
  pub least : IsLeastScratch rule r.registers (code_of ls) r.place
  pub joined : are_joined_from r.place (length rule.left) ls ≡ true
  pub few : length (lines_after_rule s (Some rule) r ls) ≤ max (length ls) s.most_lines
  pub layable : Layable s.base (lines_after_rule s (Some rule) r ls)

abbrev pub left_length_of : Option Rule → ℕ
left_length_of None = 0
left_length_of (Some rule) = length rule.left

abbrev pub left_length : Setting → Replacement → ℕ
left_length s r = left_length_of (used_rule s r)

-- no other choice comes before: at a lesser place, with a longer left side, or a lower entry or instance
pub record IsFirst (s : Setting) (r : Replacement) (ls : List ListingLine) : Type 0 where
  pub applies : AppliesIn s r ls
  pub least_place : (o : Replacement) → AppliesIn s o ls → r.place ≤ o.place
  pub longest : (o : Replacement) → AppliesIn s o ls → o.place ≡ r.place → left_length s o ≤ left_length s r
  pub lowest : (o : Replacement) → AppliesIn s o ls → o.place ≡ r.place → left_length s o ≡ left_length s r → r.entry ≤ o.entry
  pub lowest_instance : (o : Replacement) → AppliesIn s o ls → o.place ≡ r.place → left_length s o ≡ left_length s r → o.entry ≡ r.entry → r.instance ≤ o.instance

-- no rule applies any more
abbrev pub NoneApplies : Setting → List ListingLine → Type 0
NoneApplies s ls = (o : Replacement) → AppliesIn s o ls → ⊥

-- these replacements, each the first that can be made, lead to lines in which none can
abbrev pub AreRewritten : Setting → List ListingLine → List Replacement → List ListingLine → Type 0
AreRewritten s ls [] new = NoneApplies s ls × (new ≡ ls)
AreRewritten s ls (r ∷ rs) new = IsFirst s r ls × AreRewritten s (lines_after s r ls) rs new

-- each replacement could be made in the lines as they then were
abbrev pub AllApplied : Setting → List ListingLine → List Replacement → Type 0
AllApplied s ls [] = Unit {0}
AllApplied s ls (r ∷ rs) = AppliesIn s r ls × AllApplied s (lines_after s r ls) rs
