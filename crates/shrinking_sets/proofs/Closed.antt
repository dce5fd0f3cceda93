-- Where a place outside the window wasn't cleared, a visit of it would mark nothing.
use Rattle.std.proofs.Common.{◌≡◌, ℕ, Bool, true, List, length, sym, ap, ◌∙◌}
use Rattle.thumb_instr.specs.declared.instr.Instr.{Instr}
use Rattle.thumb_model.specs.Listing.{Code}
use Rattle.thumb_model.specs.Flow.{Reads}
use Rattle.shrinking_sets.specs.Straight.{IsApart, IsExchange}
use Rattle.shrinking_sets.specs.Marks.{some_reads, IsClosedAt}
use Rattle.shrinking_sets.proofs.Forward.{reads_here, passes_back}
use Rattle.shrinking_sets.proofs.Exchange.{ways_same, passes_was}

pub others_stay_closed : (code new : Code) (w : ℕ) (old is : List Instr) (x : ℕ) (c : ℕ → Bool) → IsExchange code new w old is → ((p : ℕ) → c p ≡ true → Reads code x p) → (p : ℕ) → IsApart w (length old) p → (Reads code x p → c p ≡ true) → IsClosedAt new x c p
others_stay_closed code new w old is x c at below p a kept = record {
  reads = λ h. kept (reads_here code x p (ap (λ ws. some_reads ws x) (sym (ways_same code new w old is at p a)) ∙ h));
  passes = λ q s h. kept (passes_back code x p q (passes_was code new w old is at x p q a s) (below q h));
}
