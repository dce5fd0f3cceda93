-- Which instructions a replacement may put into a listing: those that name no label.
use Rattle.std.specs.Prelude.{Bool, true, false}
use Rattle.thumb_instr.specs.declared.instr.Instr.{Instr}
use Rattle.thumb_instr.specs.declared.instr.Instr.TheVariants as instr

-- whether an instruction's text has no label
abbrev pub names_no_label : Instr → Bool
names_no_label (instr.BranchIf c d) = false
names_no_label (instr.Branch d) = false
names_no_label (instr.Call d) = false
names_no_label (instr.Literal t d) = false
names_no_label (instr.Address t d) = false
names_no_label i = true
