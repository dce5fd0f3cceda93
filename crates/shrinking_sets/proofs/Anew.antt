-- Forward marks that are worked out anew.
use Rattle.std.proofs.Common.{◌≡◌, ◌≢◌, ℕ, ◌<◌, Bool, true, false, List, length, sym, ap, ◌∙◌, subst, ◌⊎◌, inl, inr, arith}
use Rattle.std.proofs.lemmas.Bool.{cases_Bool, cases_eq}
use Rattle.thumb_instr.specs.declared.instr.Instr.{Instr}
use Rattle.thumb_model.specs.Listing.{Code}
use Rattle.thumb_model.specs.Flow.{ways}
use Rattle.shrinking_sets.specs.Straight.{IsApart, IsExchange}
use Rattle.shrinking_sets.specs.Marks.{some_reads, Passes, IsForwardAt, IsForward}
use Rattle.shrinking_sets.specs.Clearing.{IsForwardStep}
use Rattle.shrinking_sets.proofs.Exchange.{ways_same, passes_stays}

pub forward_begins : (code new : Code) (w : ℕ) (old is : List Instr) (x : ℕ) (f : ℕ → Bool) → IsExchange code new w old is → IsForward code x f → (p : ℕ) → IsApart w (length old) p → IsForwardAt new x f p
forward_begins code new w old is x f at h p a t =
    elim (h p t) [
      | inl u ↦ inl (ap (λ ws. some_reads ws x) (ways_same code new w old is at p a) ∙ u)
      | inr r ↦ inr (r.0, passes_stays code new w old is at x p r.0 a r.1, r.2, r.3)
    ]

module _ (code : Code) (x : ℕ) (f due : ℕ → Bool) (p : ℕ) (f' due' : ℕ → Bool) (forward : (q : ℕ) → due q ≡ false → IsForwardAt code x f q) (s : IsForwardStep code x f due p f' due') where
  abbrev Onwards : ℕ → Type 0
  Onwards q = (some_reads (ways code q) x ≡ true) ⊎ ((r : ℕ) × Passes code x q r × (q < r) × (f' r ≡ true))

  at_place : f' p ≡ true → Onwards p
  at_place t =
      elim (s.here t) [
        | inl u ↦ inl u
        | inr r ↦ inr (r.0, r.1, r.2, s.elsewhere r.0 (λ e. let l = r.2 in omega arith) ∙ r.3)
      ]

  at_other : (q : ℕ) → q ≢ p → due' q ≡ false → f' q ≡ true → Onwards q
  at_other q d n t =
      elim (forward q idle (sym (s.elsewhere q d) ∙ t)) [
        | inl u ↦ inl u
        | inr r ↦ inr (r.0, r.1, r.2, marked r.0 r.1 r.2 r.3)
      ]
    where
      idle : due q ≡ false
      idle = elim (cases_Bool (due q)) [
        | inl u ↦ absurd (let z = s.stays q d u in cc)
        | inr u ↦ u
      ]

      marked : (r : ℕ) → Passes code x q r → q < r → f r ≡ true → f' r ≡ true
      marked r a l u =
          elim (cases_eq r p) [
            | inr o ↦ s.elsewhere r o ∙ u
            | inl e ↦ elim (cases_Bool (f' p)) [
              | inl v ↦ ap f' e ∙ v
              | inr v ↦ absurd (let z = s.pushed (sym (ap f e) ∙ u) v q (omega arith) (subst (Passes code x q) e a) in cc)
            ]
          ]

  pub forward_goes_on : (q : ℕ) → due' q ≡ false → IsForwardAt code x f' q
  forward_goes_on q n t =
      elim (cases_eq q p) [
        | inl e ↦ subst Onwards (sym e) (at_place (sym (ap f' e) ∙ t))
        | inr d ↦ at_other q d n t
      ]
