-- The laws of rewriting by a table: runs are kept, it is complete and determined, lines can still be laid out, and costs fall.
use Rattle.std.specs.Prelude.{◌≡◌, ◌≢◌, ℕ, ◌+◌, ◌≤◌, max, List, [], ◌∷◌, length, map, Some, IsSome, slice_get}
use Rattle.thumb_instr.specs.declared.instr.Instr.{Instr}
use Rattle.thumb_instr.specs.Window.{Low, renamed}
use Rattle.thumb_model.specs.Listing.{Name, Place, Op, Word, ListingLine, Code, places_of, code_of, place_of}
use Rattle.thumb_model.specs.Layout.{Layable}
use Rattle.thumb_model.specs.Naming.{Naming, Fits, points}
use Rattle.thumb_model.specs.Literals.{HasLiterals}
use Rattle.thumb_model.specs.Same.{Same}
use Rattle.thumb_model.specs.Effect.{normalised}
use Rattle.thumb_model.specs.Replaced.{replaced}
use Rattle.rule_model.specs.Rules.{AreSound, weight}
use Rattle.rule_model.specs.Rewriting.{Setting, Replacement, lines_after, AppliesIn, NoneApplies, AreRewritten, AllApplied}

-- the instructions among places
abbrev pub instructions : List Place → List Instr
instructions [] = []
instructions (Op i mention ∷ ps) = i ∷ instructions ps
instructions (Word v ∷ ps) = instructions ps

-- renaming an instruction and taking its normal form keep its cost
pub record CostsAreKept (cost : Instr → ℕ) : Type 0 where
  pub renaming : (registers : List Low) (i : Instr) → cost (renamed registers i) ≡ cost i
  pub normal : (i : Instr) → cost (normalised i) ≡ cost i

-- each instruction costs 1
abbrev pub CostsOne : Setting → Type 0
CostsOne s = (i : Instr) → s.cost i ≡ 1

-- one replacement by a sound table keeps the runs of lines whose literals stand behind their labels
abbrev pub ReplacingKeepsRuns : Type 0
ReplacingKeepsRuns = (s : Setting) (r : Replacement) (ls : List ListingLine) → AreSound s.table → HasLiterals (code_of ls) → AppliesIn s r ls → Same (code_of ls) (code_of (lines_after s r ls))

-- so does rewriting
abbrev pub RewritingKeepsRuns : Type 0
RewritingKeepsRuns = (s : Setting) (ls : List ListingLine) (rs : List Replacement) (new : List ListingLine) → AreSound s.table → HasLiterals (code_of ls) → AreRewritten s ls rs new → Same (code_of ls) (code_of new)

-- each replacement applied in the lines as they then were, and none applies in those that are left
abbrev pub RewritingIsComplete : Type 0
RewritingIsComplete = (s : Setting) (ls : List ListingLine) (rs : List Replacement) (new : List ListingLine) → AreRewritten s ls rs new → AllApplied s ls rs × NoneApplies s new

-- lines that can be laid out stay so
abbrev pub RewritingStaysLayable : Type 0
RewritingStaysLayable = (s : Setting) (ls : List ListingLine) (rs : List Replacement) (new : List ListingLine) → Layable s.base ls → AreRewritten s ls rs new → Layable s.base new

-- each replacement lowers the cost, no place is added, and the lines stay within their limit
abbrev pub RewritingLowers : Type 0
RewritingLowers =
    (s : Setting) (ls : List ListingLine) (rs : List Replacement) (new : List ListingLine) → CostsAreKept s.cost → AreSound s.table → AreRewritten s ls rs new →
    (weight s.cost (instructions (places_of new)) + length rs ≤ weight s.cost (instructions (places_of ls)))
    × (length (places_of new) ≤ length (places_of ls))
    × (length new ≤ max (length ls) s.most_lines)

-- where each instruction costs 1, each replacement takes a place away, and no line is added
abbrev pub RewritingShortens : Type 0
RewritingShortens = (s : Setting) (ls : List ListingLine) (rs : List Replacement) (new : List ListingLine) → CostsOne s → AreRewritten s ls rs new → (length (places_of new) + length rs ≤ length (places_of ls)) × (length new ≤ length ls)

-- replacing lines replaces their places and labels
abbrev pub LinesAreReplacedAsPlaces : Type 0
LinesAreReplacedAsPlaces = (s : Setting) (r : Replacement) (ls : List ListingLine) → AreSound s.table → (a : AppliesIn s r ls) → code_of (lines_after s r ls) ≡ replaced (code_of ls) r.place (length a.rule.left) (map (renamed r.registers) a.rule.right)

-- each code label is still a code label after a replacement
abbrev pub LabelsStayCode : Type 0
LabelsStayCode = (s : Setting) (r : Replacement) (ls : List ListingLine) → AreSound s.table → AppliesIn s r ls → (label : Name) → IsSome (place_of (code_of ls) label) → IsSome (place_of (code_of (lines_after s r ls)) label)

-- the replacements and the lines are determined
abbrev pub IsDetermined : Type 0
IsDetermined =
    (s : Setting) (ls : List ListingLine) → AreSound s.table →
    (rs ss : List Replacement) (new other : List ListingLine) → AreRewritten s ls rs new → AreRewritten s ls ss other → (rs ≡ ss) × (new ≡ other)

-- code points at different places have different words
abbrev pub TellsApart : Naming → Code → Type 0
TellsApart names code = (j k : ℕ) (v w p q : ℕ) → slice_get (points names code) j ≡ Some (v, p) → slice_get (points names code) k ≡ Some (w, q) → p ≢ q → v ≢ w

-- a naming that fits the lines that are left, and tells the given lines' code points apart, fits the given lines
abbrev pub LeftNamingsFitGiven : Type 0
LeftNamingsFitGiven =
    (s : Setting) (ls : List ListingLine) (rs : List Replacement) (new : List ListingLine) → AreSound s.table → AreRewritten s ls rs new →
    (names : Naming) → Fits names (code_of new) → TellsApart names (code_of ls) → Fits names (code_of ls)
