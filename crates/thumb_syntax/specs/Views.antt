-- The value of an operand, without the borrow of its name.
use Rattle.thumb_syntax.specs.declared.operands.Operand.{Operand as Slices}
use Rattle.thumb_syntax.specs.declared.operands.Operand.TheVariants as of
use Rattle.thumb_syntax.specs.Operands.{Operand, register, base, range, number, sign, name, sum, stray}

abbrev pub view : Slices → Operand
view (of.Register r) = register r
view (of.Base r) = base r
view (of.Range a b) = range a b
view (of.Number n) = number n
view (of.Sign s) = sign s
view (of.Name w) = name w.now
view (of.Sum w i) = sum w.now i
view of.Stray = stray
