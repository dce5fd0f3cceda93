-- A stack of places as contracts see it: the places in the order in which they came, and for how many there is room.
use Rattle.std.specs.Prelude.{ℕ, List}

pub record Stack : Type 0 where
  pub places : List ℕ
  pub room : ℕ
