-- The list of states that columns of lanes stand for.
use Rattle.std.specs.Prelude.{ℕ, zero, suc, ◌+◌, List, [], ◌∷◌, ◌++◌}
use Rattle.thumb_model.specs.Effect.{Values}
use Rattle.fingerprints.specs.declared.lanes.Lanes.{Lanes}
use Rattle.fingerprints.specs.declared.columns.Column.{Column}
use Rattle.fingerprints.specs.Lanes.{values_at}

-- the states of the lanes from i on, n of them
unfoldable pub lanes_from : Lanes → ℕ → ℕ → List Values
lanes_from l i zero = []
lanes_from l i (suc n) = values_at l i ∷ lanes_from l (i + 1) n

-- the states of a column
abbrev pub states_of : Column → List Values
states_of c = lanes_from c.lanes 0 c.count

-- the states of columns, those of each in turn
unfoldable pub states_in : List Column → List Values
states_in [] = []
states_in (c ∷ cs) = states_of c ++ states_in cs
