-- What a replacement in lines is in the padded code of these lines.
use Rattle.std.specs.Prelude.{◌≡◌, ℕ, ◌≤◌, Bool, List, length, map}
use Rattle.thumb_instr.specs.Window.{renamed}
use Rattle.thumb_model.specs.Listing.{ListingLine, Code, code_of}
use Rattle.rule_model.specs.Rewriting.{Setting, Replacement, lines_after, AppliesIn}
use Rattle.padded_code.specs.Padding.{IsPadded}
use Rattle.padded_code.specs.Exchange.{marks_after, exchanged}
use Rattle.padded_code.specs.Windows.{AreRanked}

-- where a rule's window gives way in lines, the padded code in which its kept places give way pads the code of the lines that are left
abbrev pub LinesStayPadded : Type 0
LinesStayPadded =
    (s : Setting) (r : Replacement) (ls : List ListingLine) (a : AppliesIn s r ls) → length a.rule.right ≤ length a.rule.left → (gone : List Bool) (padded : Code) → IsPadded gone padded (code_of ls) →
    (ps : List ℕ) → length ps ≡ length a.rule.left → AreRanked gone r.place ps →
    IsPadded (marks_after ps (map (renamed r.registers) a.rule.right) gone) (exchanged ps (map (renamed r.registers) a.rule.right) padded) (code_of (lines_after s r ls))
