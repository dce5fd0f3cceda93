-- The numberings over one to four registers.
use Rattle.std.specs.Prelude.{◌≡◌, ℕ, List}
use Rattle.seq_enum.specs.declared.numbering.Numbering.{Numbering}
use Rattle.seq_enum.specs.Numberings.{IsNumbering}
use Rattle.window_harvest.specs.declared.numberings.Numberings.{Numberings}

-- the numbering is the one over these many registers and this pool
pub record Numbers (registers : ℕ) (pool : List ℕ) (n : Numbering) : Type 0 where
  pub is : IsNumbering n
  pub registers_are : n.registers ≡ registers
  pub pool_is : n.pool.now ≡ pool

pub record AreNumberings (pool : List ℕ) (ns : Numberings) : Type 0 where
  pub one : Numbers 1 pool ns.one
  pub two : Numbers 2 pool ns.two
  pub three : Numbers 3 pool ns.three
  pub four : Numbers 4 pool ns.four
