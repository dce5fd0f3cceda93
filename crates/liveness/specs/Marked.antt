-- How many places are marked.
use Rattle.std.specs.Prelude.{ℕ, ◌+◌, Bool, List, [], ◌∷◌}
use Rattle.std.specs.Int.{from_bool}

unfoldable pub count_marked : List Bool → ℕ
count_marked [] = 0
count_marked (m ∷ ms) = from_bool m + count_marked ms
