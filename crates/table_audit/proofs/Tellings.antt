-- What trials tell is what the listed states tell from which they start.
use Rattle.std.proofs.Common.{◌≡◌, ℕ, ◌<◌, ◌↔◌, Bool, true, false, not, IsTrue, List, Some, length, get_or, slice_get, map, sym, ◌∙◌, ap, subst, inl, inr, refl, arith}
use Rattle.std.specs.List.{Any}
use Rattle.std.specs.Option.{option_map}
use Rattle.std.proofs.lemmas.Bool.{false≢true}
use Rattle.std.proofs.lemmas.List.{get_or_default, length-map}
use Rattle.std.proofs.Math.ListN.{get_or-map}
use Rattle.std.proofs.lemmas.Option.{slice_get_cases, slice_get-map}
use Rattle.thumb_instr.specs.declared.instr.Instr.{Instr}
use Rattle.thumb_model.specs.Effect.{after_all}
use Rattle.window_exec.specs.State.{values_of, seen, Seen, Differ, Tells}
use Rattle.fingerprints.specs.declared.trials.Trial.{Trial}
use Rattle.table_audit.specs.Shorter.{values_in, IsTold}
use Rattle.fingerprints.specs.Trials.{start_of, AreTrials}
use Rattle.common_lemmas.proofs.Lists.{get_of_or}

-- an element of a mapped list, by its place
pub listed : {X Y : Type 0} (f : X → Y) (xs : List X) (i : ℕ) (x : X) → i < length xs → x ≡ get_or xs i x → slice_get (map f xs) i ≡ Some (f x)
listed f xs i x low is = slice_get-map f xs i ∙ ap (option_map f) (get_of_or xs i x low is)

-- ---- trials ----

present : {X : Type 0} (xs : List X) (i : ℕ) → i < length xs → (x : X) × (get_or xs i x ≡ x)
present xs i low = elim (slice_get_cases xs i).1 [
  | inl p ↦ (p.0, p.3)
  | inr p ↦ absurd (omega (arith, low, p.0))
]

-- a sequence leaves another value than the left side in some trial exactly where some state tells it
pub told_is : (left : List Instr) (states : List Seen) (trials : List Trial) (seq : List Instr) (mask : ℕ) → AreTrials left states trials
    → Any (λ t. Differ (values_of t.end) (after_all seq (values_of t.start)) mask) trials ↔ IsTold states left seq mask
told_is left states trials seq mask are = (forth, back)
  where
    size : length states ≡ length trials
    size = sym (ap length are.starts) ∙ length-map trials start_of

    forth : Any (λ t. Differ (values_of t.end) (after_all seq (values_of t.start)) mask) trials → IsTold states left seq mask
    forth found =
        let k = found.0 in
        let t = found.1 in
        let end : values_of t.end ≡ after_all left (values_of t.start) = subst (λ (u : Trial). values_of u.end ≡ after_all left (values_of u.start)) found.3 (are.ends k t found.2) in
        let at : get_or states k (seen t.start) ≡ seen t.start = sym (ap (λ ss. get_or ss k (seen t.start)) are.starts) ∙ get_or-map start_of trials k t ∙ ap start_of found.3 in
        let tells : Tells (values_in (seen t.start)) left seq mask = subst (λ v. Differ v (after_all seq (values_of t.start)) mask) end found.4 in
        (k, seen t.start, omega (arith, size, found.2), at, tells)

    back : IsTold states left seq mask → Any (λ t. Differ (values_of t.end) (after_all seq (values_of t.start)) mask) trials
    back found =
        let k = found.0 in
        let low : k < length trials = omega (arith, size, found.2) in
        let here = present trials k low in
        let t = here.0 in
        let end : values_of t.end ≡ after_all left (values_of t.start) = subst (λ (u : Trial). values_of u.end ≡ after_all left (values_of u.start)) here.1 (are.ends k t low) in
        let listed : get_or states k (seen t.start) ≡ seen t.start = sym (ap (λ ss. get_or ss k (seen t.start)) are.starts) ∙ get_or-map start_of trials k t ∙ ap start_of here.1 in
        let same : found.1 ≡ seen t.start = sym found.3 ∙ get_or_default states k found.1 (seen t.start) found.2 ∙ listed in
        let tells : Tells (values_in (seen t.start)) left seq mask = subst (λ s. Tells (values_in s) left seq mask) same found.4 in
        (k, t, low, here.1, subst (λ v. Differ v (after_all seq (values_of t.start)) mask) (sym end) tells)

-- the code's test by trials finds just the sequences that are neither named open nor told by a state
pub untold_is : (left : List Instr) (states : List Seen) (trials : List Trial) (seq : List Instr) (mask : ℕ) (named told : Bool) → AreTrials left states trials
    → IsTrue told ↔ Any (λ t. Differ (values_of t.end) (after_all seq (values_of t.start)) mask) trials → named ≡ false → IsTrue (not told) ↔ (named ≡ false) × (IsTold states left seq mask → ⊥)
untold_is left states trials seq mask named true are t unnamed = (λ no. absurd (false≢true no), λ h. absurd (h.1 ((told_is left states trials seq mask are).0 (t.0 refl))))
untold_is left states trials seq mask named false are t unnamed = (λ yes. (unnamed, λ tells. false≢true (t.1 ((told_is left states trials seq mask are).1 tells))), λ h. refl)
