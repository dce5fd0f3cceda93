-- Marks that grow back: a visit preserves that places off the stack are closed; where all are, each place from which the item is read is marked.
use Rattle.std.proofs.Common.{◌≡◌, ◌≢◌, ℕ, Bool, true, false, sym, ap, ◌∙◌, subst, ◌⊎◌, inl, inr}
use Rattle.std.proofs.lemmas.Bool.{cases_Bool, cases_eq}
use Rattle.thumb_model.specs.Listing.{Code}
use Rattle.thumb_model.specs.Flow.{ways, Reads, now, later}
use Rattle.shrinking_sets.specs.Marks.{Passes, IsClosedAt}
use Rattle.shrinking_sets.specs.Clearing.{IsVisited}
use Rattle.shrinking_sets.proofs.Forward.{some_way_reads}

module _ (code : Code) (x : ℕ) (c stack : ℕ → Bool) (p : ℕ) (c' stack' : ℕ → Bool) (closed : (q : ℕ) → stack q ≡ false → IsClosedAt code x c q) (v : IsVisited code x c stack p c' stack') where
  -- a mark stays
  still : (q : ℕ) → c q ≡ true → c' q ≡ true
  still q h =
      elim (cases_eq q p) [
        | inl e ↦ ap c' e ∙ v.more (sym (ap c e) ∙ h)
        | inr d ↦ v.elsewhere q d ∙ h
      ]

  -- the place itself
  at_place : IsClosedAt code x c' p
  at_place = record {
    reads = v.reads;
    passes = λ r s h. elim (cases_eq r p) [
      | inl e ↦ sym (ap c' e) ∙ h
      | inr d ↦ v.passes r s (sym (v.elsewhere r d) ∙ h)
    ];
  }

  -- another off the stack
  at_other : (q : ℕ) → q ≢ p → stack' q ≡ false → IsClosedAt code x c' q
  at_other q d n = record {
    reads = λ h. still q (before.reads h);
    passes = λ r s h. elim (cases_eq r p) [
      | inl e ↦ to_place r s h e (cases_Bool (c p))
      | inr o ↦ still q (before.passes r s (sym (v.elsewhere r o) ∙ h))
    ];
  }
    where
      before : IsClosedAt code x c q
      before = closed q (elim (cases_Bool (stack q)) [
        | inl t ↦ absurd (let z = v.stays q d t in cc)
        | inr t ↦ t
      ])

      to_place : (r : ℕ) → Passes code x q r → c' r ≡ true → r ≡ p → (c p ≡ true) ⊎ (c p ≡ false) → c' q ≡ true
      to_place r s h e (inl t) = still q (before.passes r s (ap c e ∙ t))
      to_place r s h e (inr t) =
          elim (v.pushed q (subst (Passes code x q) e s) t (sym (ap c' e) ∙ h)) [
            | inl z ↦ absurd (cc)
            | inr z ↦ z
          ]

  pub visits_keep_closed : (q : ℕ) → stack' q ≡ false → IsClosedAt code x c' q
  visits_keep_closed q n =
      elim (cases_eq q p) [
        | inl e ↦ subst (IsClosedAt code x c') (sym e) at_place
        | inr d ↦ at_other q d n
      ]

pub closed_have_all : (code : Code) (x : ℕ) (c : ℕ → Bool) → ((q : ℕ) → IsClosedAt code x c q) → (p : ℕ) → Reads code x p → c p ≡ true
closed_have_all code x c h _ (now p k y e t) = (h p).reads (some_way_reads (ways code p) x k y e t)
closed_have_all code x c h _ (later p k y q e n f r) = (h p).passes q (record { number = k; found = y; is = e; unwritten = n; leads = f }) (closed_have_all code x c h q r)
