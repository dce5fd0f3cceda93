-- Two sequences are equal exactly where no state tells them apart.
use Rattle.std.specs.Prelude.{◌≡◌, ◌↔◌, ℕ, List}
use Rattle.thumb_instr.specs.declared.instr.Instr.{Instr}
use Rattle.thumb_instr.specs.Items.{has, one_of}
use Rattle.thumb_model.specs.Effect.{Values, AreWords, Equal}
use Rattle.window_exec.specs.State.{Tells}

-- `items` and `mask` are the same set of items: `Equal` takes it as a list, `Tells` as the bits of a word
abbrev pub EqualIsUntold : Type 0
EqualIsUntold = (left right : List Instr) (items : List ℕ) (mask : ℕ) → ((x : ℕ) → has mask x ≡ one_of x items) → Equal left right items ↔ ((v : Values) → AreWords v → Tells v left right mask → ⊥)
