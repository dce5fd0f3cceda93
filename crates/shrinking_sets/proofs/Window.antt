-- What is read at a window.
use Rattle.std.proofs.Common.{◌≡◌, ℕ, ◌+◌, true, false, List, [], ◌∷◌, length, refl, sym, ap, ◌∙◌, subst, ◌⊎◌, inl, inr, arith, ◌↔◌}
use Rattle.std.proofs.lemmas.Bool.{or_left}
use Rattle.thumb_instr.specs.declared.instr.Instr.{Instr}
use Rattle.thumb_instr.specs.Shape.{uses_of, writes_of}
use Rattle.thumb_model.specs.Effect.{one_of}
use Rattle.thumb_model.specs.Listing.{Code}
use Rattle.thumb_model.specs.Flow.{Way, Onward, way, ways, Follows, Reads, now, later}
use Rattle.shrinking_sets.specs.Straight.{reads_first, writes_in, IsExchange}
use Rattle.shrinking_sets.proofs.Exchange.{Runs, old_runs}
use Rattle.shrinking_sets.proofs.Cleared.{Through, through_more, through_reads, only}

-- what is read before straight code goes through it
reads_through : (code : Code) (is : List Instr) (q end x : ℕ) → end ≡ q + length is → Runs code q is → Reads code x q → Through is x (Reads code x end)
reads_through code [] q end x e r t = inr (refl, subst (Reads code x) (let f : q ≡ end = omega arith in f) t)
reads_through code (i ∷ is) q end x e r (now _ k y g t) =
    let one : way (uses_of i) (writes_of i) Onward ≡ y = only (ways code q) _ k y r.0 g in
    inl (or_left _ _ (ap (λ (v : Way). one_of x v.reads) one ∙ t))
reads_through code (i ∷ is) q end x e r (later _ k y s g n f t) =
    let one : way (uses_of i) (writes_of i) Onward ≡ y = only (ways code q) _ k y r.0 g in
    let next : s ≡ q + 1 = subst (λ (v : Way). Follows code q v.leads s) (sym one) f in
    through_more i is x (Reads code x end) (ap (λ (v : Way). one_of x v.writes) one ∙ n) (reads_through code is (q + 1) end x (omega arith) r.1 (subst (Reads code x) next t))

pub window_is_through : (code new : Code) (w : ℕ) (old is : List Instr) (x : ℕ) → IsExchange code new w old is → Reads code x w ↔ ((reads_first old x ≡ true) ⊎ ((writes_in old x ≡ false) × Reads code x (w + length old)))
window_is_through code new w old is x at = (
  reads_through code old w (w + length old) x refl (old_runs code new w old is at),
  through_reads code old w (w + length old) x refl (old_runs code new w old is at),
)
