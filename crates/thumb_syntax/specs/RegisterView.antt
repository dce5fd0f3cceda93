-- A register's name and number without the borrow of the name.
use Rattle.std.specs.Prelude.{ℕ, List}
use Rattle.thumb_syntax.specs.declared.registers.Register.{Register}

abbrev pub named : Register → List ℕ × ℕ
named r = (r.name.now, r.number)
