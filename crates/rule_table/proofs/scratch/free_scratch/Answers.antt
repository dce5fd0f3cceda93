use Rattle.std.proofs.Common.{◌≡◌, ◌∙◌, ◌+◌, ◌<◌, ℕ, Bool, false, ap, arith, inl, inr, sym}
use Rattle.std.proofs.lemmas.Bool.{cases_lt}
use Rattle.rule_table.specs.Scratch.{is_free}
use Rattle.rule_table.proofs.scratch.free_scratch.Goals as goal

-- one more register that isn't free
none_more : (free : ℕ → Bool) (n m : ℕ) → m ≡ n → free m ≡ false → ((x : ℕ) → x < n → free x ≡ false) → (x : ℕ) → x < n + 1 → free x ≡ false
none_more free n m e here before x h = elim (cases_lt x n) [
  | inl l ↦ before x l
  | inr g ↦ (let same : m ≡ x = omega arith in sym (ap free same) ∙ here)
]

pub loop-number-preserved : goal.loop-number-preserved
loop-number-preserved c = none_more (is_free c.args.map.now c.args.live.bits) _ _ c.of-register.ensures (sym c.is_free.ensures ∙ c.if-is_free.false) c.loop-number.invariant
