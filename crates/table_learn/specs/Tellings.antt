-- Whether states tell sequences apart, as functions that can be computed: a state does if the two leave different values in an item of the mask.
use Rattle.std.specs.Prelude.{ℕ, ◌==◌, Bool, not, List}
use Rattle.std.specs.List.{list_any}
use Rattle.thumb_instr.specs.declared.instr.Instr.{Instr}
use Rattle.thumb_model.specs.Effect.{Values, after_all}
use Rattle.window_exec.specs.State.{Seen}
use Rattle.table_audit.specs.Soundness.{items_in}
use Rattle.table_audit.specs.Shorter.{values_in}

-- whether some item of the mask has different values
unfoldable pub differ : Values → Values → ℕ → Bool
differ v w mask = list_any (λ x. not (v x == w x)) (items_in mask)

-- whether some item of the mask has different values after the two sequences, run from the state
abbrev pub tells_apart : List Instr → List Instr → ℕ → Seen → Bool
tells_apart left right mask s = differ (after_all left (values_in s)) (after_all right (values_in s)) mask

-- whether some state tells the sequences apart under a mask
abbrev pub told : List Seen → List Instr → List Instr → ℕ → Bool
told states left right mask = list_any (tells_apart left right mask) states
