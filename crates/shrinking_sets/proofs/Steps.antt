-- A visit where all code points share one mark is a visit of the walk that clears marks.
use Rattle.std.proofs.Common.{◌≡◌, ℕ, Bool, true, List, length, sym, subst, ◌⊎◌, inl, inr}
use Rattle.thumb_instr.specs.declared.instr.Instr.{Instr}
use Rattle.thumb_model.specs.Listing.{Code}
use Rattle.thumb_model.specs.Flow.{Leads, ways, Follows}
use Rattle.shrinking_sets.specs.Straight.{IsApart}
use Rattle.shrinking_sets.specs.Marks.{KeepsMark, some_reads, Passes}
use Rattle.shrinking_sets.specs.Clearing.{IsStep, IsStepByPoints}
use Rattle.shrinking_sets.proofs.Points.{to_points}

pub steps_by_points : (code : Code) (w : ℕ) (old : List Instr) (x : ℕ) (f c pending : ℕ → Bool) (q : ℕ) (c' pending' : ℕ → Bool) (g : Bool) → IsStepByPoints code w old x f c pending q c' pending' g → IsStep code w old x f c pending q c' pending'
steps_by_points code w old x f c pending q c' pending' g s = record {
  fewer = s.fewer;
  pushed = s.pushed;
  stays = s.stays;
  before = before;
  window = s.window;
}
  where
    widened : (p : ℕ) → (some_reads (ways code p) x ≡ true) ⊎ (f p ≡ true) → KeepsMark code x f p
    widened p (inl u) = inl u
    widened p (inr u) = inr (inl u)

    before : pending q ≡ true → (p : ℕ) → IsApart w (length old) p → Passes code x p q → c' p ≡ true → KeepsMark code x f p
    before h p out a k =
        elim (to_points a.found.leads) [
          | inr d ↦ widened p (s.before h p out a d k)
          | inl e ↦ elim (s.point h (subst (λ (l : Leads). Follows code p l q) e a.leads)) [
            | inl z ↦ widened p (s.returns z p q out a e k)
            | inr t ↦ inr (inr (t.0, record { number = a.number; found = a.found; is = a.is; unwritten = a.unwritten; leads = subst (λ (l : Leads). Follows code p l t.0) (sym e) t.1 }, t.2))
          ]
        ]
