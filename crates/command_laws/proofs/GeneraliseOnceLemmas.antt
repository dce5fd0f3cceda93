-- A text determines the outcome of `generalise`, except where the solver is asked.
use Rattle.std.proofs.Common.{◌≡◌, ◌∙◌, ◌⊎◌, inl, inr, ℕ, List, [], ◌∷◌, refl, sym, subst}
use Rattle.rule_table.specs.Table.{Rule, Family, Table}
use Rattle.command_runs.specs.Plans.{Outcome}
use Rattle.audit_cli.specs.Generalise.{IsRaisableFor, IsUnraised, no_entry, unraisable, differ, spent, Generalises, unaudited, unraised, generalised}
use Rattle.audit_cli.proofs.DemoLemmas.{never_unaudited}
use Rattle.audit_cli.proofs.GeneraliseLemmas.{not_none, not_unraisable}
use Rattle.command_laws.specs.Once.{AreOfOneFamily, GeneralisingIsOneButForSearches}
use Rattle.command_laws.proofs.OnceLemmas.{Cause, refuses_same, unaudited_once, one_audited, first_same}

-- the cause for which a table gets no family is determined, or the table has an entry that can be raised
unraised_once : (t : Table) (f : Family) (r s : Cause) → IsUnraised t f r → IsUnraised t f s → (r ≡ s) ⊎ ((e : Rule) × IsRaisableFor t f e)
unraised_once t f _ _ (no_entry a) (no_entry b) = inl refl
unraised_once t f _ _ (no_entry a) (unraisable b) = absurd (not_none t f b.0 b.1 a)
unraised_once t f _ _ (no_entry a) (differ e can x within other) = absurd (not_none t f e can.is_entry a)
unraised_once t f _ _ (no_entry a) (spent log h) = absurd (not_none t f h.entry h.raisable.is_entry a)
unraised_once t f _ _ (unraisable a) (no_entry b) = absurd (not_none t f a.0 a.1 b)
unraised_once t f _ _ (unraisable a) (unraisable b) = inl refl
unraised_once t f _ _ (unraisable a) (differ e can x within other) = absurd (not_unraisable t f e can a)
unraised_once t f _ _ (unraisable a) (spent log h) = absurd (not_unraisable t f h.entry h.raisable a)
unraised_once t f _ s (differ e can x within other) k = inr (e, can)
unraised_once t f _ s (spent log h) k = inr (h.entry, h.raisable)

module _ (out : List ℕ) (f : Family) (texts : List (List ℕ)) (text : List ℕ) (are : texts ≡ text ∷ []) where
  generalises_once : (o p : Outcome) → Generalises out f text o → Generalises out f text p → (o ≡ p) ⊎ AreOfOneFamily out f texts o p
  generalises_once _ _ (unaudited r h) (unaudited s k) = inl (refuses_same r s (unaudited_once text r s h k))
  generalises_once _ _ (unaudited r h) (unraised t is s k) = absurd (never_unaudited text t r is.is is.accepted h)
  generalises_once _ _ (unaudited r h) (generalised t is raised k p kept) = absurd (never_unaudited text t r is.is is.accepted h)
  generalises_once _ _ (unraised t is r h) (unaudited s k) = absurd (never_unaudited text t s is.is is.accepted k)
  generalises_once _ _ (unraised t is r h) (unraised u also s k) =
      elim (unraised_once t f r s h (subst (λ (x : Table). IsUnraised x f s) (one_audited text t u is also) k)) [
        | inl same ↦ inl (refuses_same r s same)
        | inr can ↦ inr (record { text = text; is_text = are; table = t; audited = is; entry = can.0; raisable = can.1; first = unraised t is r h; second = unraised u also s k })
      ]
  generalises_once _ _ (unraised t is r h) (generalised u also raised k p kept) =
      inr (record { text = text; is_text = are; table = u; audited = also; entry = k.entry; raisable = k.raisable; first = unraised t is r h; second = generalised u also raised k p kept })
  generalises_once _ p (generalised t is raised h o kept) k =
      inr (record { text = text; is_text = are; table = t; audited = is; entry = h.entry; raisable = h.raisable; first = generalised t is raised h o kept; second = k })

pub generalising_once : GeneralisingIsOneButForSearches
generalising_once out f texts o p (text, is, h) (other, are, k) =
    let same : other ≡ text = first_same other text [] [] (sym are ∙ is) in
    generalises_once out f texts text is o p h (subst (λ (t : List ℕ). Generalises out f t p) same k)
