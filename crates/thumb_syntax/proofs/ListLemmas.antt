-- Reading the items of a register list.
use Rattle.std.proofs.Common.{◌≡◌, ℕ, true, List, ◌∷◌, Option, Some, refl}
use Rattle.thumb_syntax.specs.Operands.{Operand}
use Rattle.thumb_syntax.specs.Slots.{is_sign, added, items}

-- an item and a comma are read, and the list goes on behind them
pub items_more : (extra : Option ℕ) (list : ℕ) (os mids after : List Operand) (item s : Operand) (more : ℕ)
    → os ≡ item ∷ mids → mids ≡ s ∷ after → Some more ≡ added extra list item → true ≡ is_sign 44 s → items extra list os ≡ items extra more after
items_more extra list os mids after item s more e f a b = rw (e, f, ← a, ← b) refl
