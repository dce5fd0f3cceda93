-- When an instruction and a label can be written and read back: the label is there exactly where the text names one.
use Rattle.std.specs.Prelude.{◌≡◌, ℕ, ◌^◌, ◌==◌, ◌&&◌, Bool, true, false, List, Option, Some, None, nat_lt}
use Rattle.thumb_instr.specs.declared.instr.Instr.{Instr}
use Rattle.thumb_instr.specs.declared.instr.Instr.TheVariants as instr
use Rattle.thumb_syntax.specs.Operands.{is_name}
use Rattle.thumb_syntax.specs.Rows.{reading, shown_with}
use Rattle.thumb_syntax.specs.Spelling.{text_of}

-- a name with nothing added
abbrev pub is_label : Option (List ℕ × ℕ) → Bool
is_label None = false
is_label (Some l) = is_name l.0 && (l.1 == 0)

-- a name with an added number below 2 ^ 32, as every numeral is
abbrev pub is_label_sum : Option (List ℕ × ℕ) → Bool
is_label_sum None = false
is_label_sum (Some l) = is_name l.0 && nat_lt l.1 (2 ^ 32)

abbrev pub is_unlabelled : Option (List ℕ × ℕ) → Bool
is_unlabelled None = true
is_unlabelled (Some l) = false

-- there is a label exactly where the instruction's text names one, and the instruction's own distance is 0
abbrev pub is_whole : Instr → Option (List ℕ × ℕ) → Bool
is_whole (instr.Literal t i) l = (i.number == 0) && is_label_sum l
is_whole (instr.Address d i) l = (i.number == 0) && is_label_sum l
is_whole (instr.BranchIf c i) l = (i.field == 0) && is_label l
is_whole (instr.Branch i) l = (i.field == 0) && is_label l
is_whole (instr.Call i) l = (i.field == 0) && is_label l
is_whole i l = is_unlabelled l

-- the text of an instruction with its label is read as that instruction and label
abbrev pub WritingReadsBack : Type 0
WritingReadsBack = (i : Instr) (l : Option (List ℕ × ℕ)) → is_whole i l ≡ true → reading (text_of (shown_with i l)) ≡ Some (shown_with i l)

-- what is read is an instruction with the label that its text names
abbrev pub ReadingIsWhole : Type 0
ReadingIsWhole = (bytes : List ℕ) (i : Instr) (l : Option (List ℕ × ℕ)) → reading bytes ≡ Some (shown_with i l) → is_whole i l ≡ true
