use Rattle.bit_blast.specs.Slots.{slots}
use Rattle.bit_blast.proofs.Holes.{side_length, side_named, side_window, slots_over, filled_over}
use Rattle.bit_blast.proofs.laws.values_change_numbers_alone.Goals as goal

pub returns-clause-length : goal.returns-clause-length
returns-clause-length c = side_length

pub returns-clause-names : goal.returns-clause-names
returns-clause-names c = side_named

pub returns-clause-windows : goal.returns-clause-windows
returns-clause-windows c = side_window

pub returns-clause-over : goal.returns-clause-over
returns-clause-over c k n side x over = filled_over k x (slots n side) (slots_over k n side over)
