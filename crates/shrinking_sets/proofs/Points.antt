-- One mark for all code points clears as much as the marks of the single code points.
use Rattle.std.proofs.Common.{◌≡◌, ◌≢◌, ℕ, Bool, true, false, List, length, refl, sym, subst, ◌⊎◌, inl, inr}
use Rattle.thumb_instr.specs.declared.instr.Instr.{Instr}
use Rattle.thumb_model.specs.Listing.{Code, IsPoint}
use Rattle.thumb_model.specs.Flow.{Leads, Onward, ToPlace, AnyPoint, Out, ways, Follows, Reads}
use Rattle.shrinking_sets.specs.Straight.{IsApart, IsExchange}
use Rattle.shrinking_sets.specs.Marks.{some_reads, Passes, IsForward, IsCleared, IsClearedByPoints}
use Rattle.shrinking_sets.proofs.Cleared.{cleared_is_read}

-- a way leads to any code point, or it doesn't
pub to_points : (l : Leads) → (l ≡ AnyPoint) ⊎ (l ≢ AnyPoint)
to_points Onward = inr (λ e. cc)
to_points (ToPlace q) = inr (λ e. cc)
to_points AnyPoint = inl refl
to_points Out = inr (λ e. cc)

module _ (code new : Code) (w : ℕ) (old is : List Instr) (x : ℕ) (f c : ℕ → Bool) (v : Bool) (at : IsExchange code new w old is) (by : IsClearedByPoints code w old is x f c v) where
  abbrev Kept : ℕ → Type 0
  Kept p = (some_reads (ways code p) x ≡ true) ⊎ ((f p ≡ true) ⊎ ((r : ℕ) × Passes code x p r × (f r ≡ true)))

  widened : (p : ℕ) → (some_reads (ways code p) x ≡ true) ⊎ (f p ≡ true) → Kept p
  widened p (inl u) = inl u
  widened p (inr u) = inr (inl u)

  -- the way to another code point
  other : (p q r : ℕ) → (a : Passes code x p q) → a.found.leads ≡ AnyPoint → IsPoint code r → Passes code x p r
  other p q r a e h = record { number = a.number; found = a.found; is = a.is; unwritten = a.unwritten; leads = subst (λ (l : Leads). Follows code p l r) (sym e) h }

  back : (p q : ℕ) → IsApart w (length old) p → Passes code x p q → Reads code x q → c q ≡ false → c p ≡ true → Kept p
  back p q out a r n k =
      elim (to_points a.found.leads) [
        | inr d ↦ widened p (by.back p q out a d r n k)
        | inl e ↦ elim (by.point q (subst (λ (l : Leads). Follows code p l q) e a.leads) r n) [
          | inl z ↦ widened p (by.returns p q out a e r n z k)
          | inr s ↦ inr (inr (s.0, other p q s.0 a e s.1, s.2))
        ]
      ]

  pub by_points : IsCleared code w old is x f c
  by_points = record {
    below = by.below;
    inside = by.inside;
    lost = by.lost;
    through = by.through;
    back = back;
  }

pub cleared_by_points_is_read : (code new : Code) (w : ℕ) (old is : List Instr) (x : ℕ) (f c : ℕ → Bool) (v : Bool) → IsExchange code new w old is → IsForward new x f → IsClearedByPoints code w old is x f c v → (p : ℕ) → c p ≡ true → Reads new x p
cleared_by_points_is_read code new w old is x f c v at forward by p k = cleared_is_read code new w old is x f c at forward (by_points code new w old is x f c v at by) p k
