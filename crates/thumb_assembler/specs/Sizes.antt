-- The number of bytes that the layout gives an instruction is that of its encoding.
use Rattle.std.specs.Prelude.{◌≡◌, ◌*◌}
use Rattle.thumb_instr.specs.declared.instr.Instr.{Instr}
use Rattle.thumb_table.specs.Table.{width, row_of}
use Rattle.thumb_model.specs.Layout.{instr_size}

abbrev pub SizesAreWidths : Type 0
SizesAreWidths = (i : Instr) → 8 * instr_size i ≡ width (row_of i)
