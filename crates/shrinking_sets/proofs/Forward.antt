-- From a place with a forward mark the item is read.
use Rattle.std.proofs.Common.{◌≡◌, ℕ, zero, suc, ◌+◌, ◌≤◌, Bool, true, List, [], ◌∷◌, length, Option, Some, None, refl, sym, ap, ◌∙◌, inl, inr, arith}
use Rattle.std.specs.Prelude.{slice_get}
use Rattle.std.proofs.lemmas.Bool.{or_cases, or_left, or_right}
use Rattle.std.proofs.lemmas.Option.{same_Some, slice_get_past}
use Rattle.thumb_model.specs.Effect.{one_of}
use Rattle.thumb_model.specs.Listing.{Place, Code}
use Rattle.thumb_model.specs.Flow.{Way, ways_on, ways, Reads, now, later}
use Rattle.shrinking_sets.specs.Marks.{some_reads, Passes, IsForward}

-- the way that reads the item
pub reader : (ws : List Way) (x : ℕ) → some_reads ws x ≡ true → (k : ℕ) × (w : Way) × (slice_get ws k ≡ Some w) × (one_of x w.reads ≡ true)
reader [] x h = absurd (cc)
reader (w ∷ ws) x h =
    elim (or_cases _ _ h) [
      | inl t ↦ (0, w, refl, t)
      | inr t ↦ let r = reader ws x t in (suc r.0, r.1, r.2, r.3)
    ]

-- and back
pub some_way_reads : (ws : List Way) (x k : ℕ) (w : Way) → slice_get ws k ≡ Some w → one_of x w.reads ≡ true → some_reads ws x ≡ true
some_way_reads [] x k w e t = absurd (cc)
some_way_reads (v ∷ ws) x zero w e t = or_left _ _ (ap (λ (u : Way). one_of x u.reads) (same_Some v w e) ∙ t)
some_way_reads (v ∷ ws) x (suc k) w e t = or_right (one_of x v.reads) _ (some_way_reads ws x k w e t)

-- what a place reads is read from it, and what it passes to another is read from it where it is read from the other
pub reads_here : (code : Code) (x p : ℕ) → some_reads (ways code p) x ≡ true → Reads code x p
reads_here code x p h = let r = reader (ways code p) x h in now p r.0 r.1 r.2 r.3

pub passes_back : (code : Code) (x p q : ℕ) → Passes code x p q → Reads code x q → Reads code x p
passes_back code x p q a r = later p a.number a.found q a.is a.unwritten a.leads r

-- a place that has a way is one
pub within : (code : Code) (p k : ℕ) (w : Way) → slice_get (ways code p) k ≡ Some w → length code.places ≤ p → ⊥
within code p k w e h = let f : slice_get (ways_on code None) k ≡ Some w = ap (λ (o : Option Place). slice_get (ways_on code o) k) (sym (slice_get_past code.places p h)) ∙ e in cc

-- by how many places stand behind
from : (code : Code) (x : ℕ) (f : ℕ → Bool) → IsForward code x f → (n p : ℕ) → length code.places ≤ p + n → f p ≡ true → Reads code x p
from code x f h zero p l t =
    elim (h p t) [
      | inl u ↦ reads_here code x p u
      | inr r ↦ absurd (within code p r.1.number r.1.found r.1.is (omega arith))
    ]
from code x f h (suc n) p l t =
    elim (h p t) [
      | inl u ↦ reads_here code x p u
      | inr r ↦ passes_back code x p r.0 r.1 (from code x f h n r.0 (let g = r.2 in omega arith) r.3)
    ]

pub forward_is_read : (code : Code) (x : ℕ) (f : ℕ → Bool) → IsForward code x f → (p : ℕ) → f p ≡ true → Reads code x p
forward_is_read code x f h p t = from code x f h (length code.places) p (omega arith) t
