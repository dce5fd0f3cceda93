-- Whether an item that was read at the window is lost there doesn't depend on what the old instructions write.
use Rattle.std.proofs.Common.{◌≡◌, ℕ, ◌+◌, ◌&&◌, ◌||◌, not, Bool, true, false, List, length, refl, ◌⊎◌, inl, inr}
use Rattle.thumb_instr.specs.declared.instr.Instr.{Instr}
use Rattle.thumb_model.specs.Listing.{Code}
use Rattle.thumb_model.specs.Flow.{Reads}
use Rattle.shrinking_sets.specs.Straight.{reads_first, writes_in, IsExchange}
use Rattle.shrinking_sets.specs.Marks.{is_lost}
use Rattle.shrinking_sets.proofs.Window.{window_is_through}

simpler : (a b c d s : Bool) → (b ≡ true) ⊎ (d ≡ false) → (not a && ((b || (c && not d)) && not s)) ≡ (not a && ((b || c) && not s))
simpler true b c d s h = refl
simpler false true c d s h = refl
simpler false false c true s (inl h) = absurd (cc)
simpler false false c true s (inr h) = absurd (cc)
simpler false false true false s h = refl
simpler false false false false s h = refl

pub lost_is_simpler : (code new : Code) (w : ℕ) (old is : List Instr) (x : ℕ) (sure : Bool) → IsExchange code new w old is → Reads code x w → is_lost old is sure x ≡ (not (reads_first is x) && ((reads_first old x || writes_in is x) && not sure))
lost_is_simpler code new w old is x sure at r = simpler (reads_first is x) (reads_first old x) (writes_in is x) (writes_in old x) sure (either ((window_is_through code new w old is x at).0 r))
  where
    either : (reads_first old x ≡ true) ⊎ ((writes_in old x ≡ false) × Reads code x (w + length old)) → (reads_first old x ≡ true) ⊎ (writes_in old x ≡ false)
    either (inl h) = inl h
    either (inr h) = inr h.0
