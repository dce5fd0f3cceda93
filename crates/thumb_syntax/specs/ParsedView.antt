-- The value of an instruction that was read, without the borrow of its label.
use Rattle.std.specs.Prelude.{option_map}
use Rattle.thumb_syntax.specs.declared.reading.Parsed.{Parsed}
use Rattle.thumb_syntax.specs.FieldViews.{label_of}
use Rattle.thumb_instr.specs.Parts.{parts_of}
use Rattle.thumb_syntax.specs.Rows.{Shown}

abbrev pub shown : Parsed → Shown
shown p = record { made = parts_of p.instr; label = option_map label_of p.label }
