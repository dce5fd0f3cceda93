-- What is read through straight code, and its sets.
use Rattle.std.proofs.Common.{◌≡◌, ℕ, zero, suc, ◌+◌, ◌-◌, ◌&&◌, ◌||◌, not, Bool, true, false, List, [], ◌∷◌, ◌++◌, length, drop, Option, Some, None, refl, sym, ap, ◌∙◌, inl, inr, arith}
use Rattle.std.specs.Prelude.{slice_get}
use Rattle.std.proofs.lemmas.Bool.{cases_lt}
use Rattle.thumb_instr.specs.declared.instr.Instr.{Instr}
use Rattle.thumb_instr.specs.declared.items.Items.{Items}
use Rattle.thumb_instr.specs.Items.{one_of, has}
use Rattle.thumb_instr.specs.Shape.{uses_of, writes_of}
use Rattle.thumb_model.proofs.Lists.{get_back}
use Rattle.liveness.specs.declared.kept.NewSets.{NewSets}
use Rattle.liveness.specs.Through.{live_through, nothing, AreThrough}
use Rattle.liveness.proofs.Paths.{has_zero}
use Rattle.common_lemmas.proofs.Lists.{get_front}

-- an item is live before straight code by whether it is live after it
same_after : (is : List Instr) (x : ℕ) (a b : ℕ → Bool) → a x ≡ b x → live_through is a x ≡ live_through is b x
same_after [] x a b e = e
same_after (i ∷ is) x a b e = ap (λ t. one_of x (uses_of i) || (t && not (one_of x (writes_of i)))) (same_after is x a b e)

-- a set less another is empty only where the other has all of it
pub is_within : (a b left : ℕ) → ((x : ℕ) → has left x ≡ (has a x && not (has b x))) → left ≡ 0 → (x : ℕ) → has a x ≡ true → has b x ≡ true
is_within a b left e none x h = held (has a x) (has b x) (sym (e x) ∙ ap (λ w. has w x) none ∙ has_zero x) h
  where
    held : (a b : Bool) → (a && not b) ≡ false → a ≡ true → b ≡ true
    held true true e h = refl
    held true false e h = absurd (cc)
    held false b e h = absurd (cc)

-- what straight code doesn't read isn't live before it where nothing is after it
pub not_read : (is : List Instr) (m was : ℕ) → ((x : ℕ) → has m x ≡ false) → ((x : ℕ) → has was x ≡ live_through is (λ y. has m y) x) → (x : ℕ) → live_through is nothing x ≡ false → has was x ≡ false
not_read is m was em ew x h = ew x ∙ same_after is x (λ y. has m y) nothing (em x) ∙ h

-- the sets of one instruction more
pub push_through : (new : List Instr) (after : Items) (sets more : List NewSets) (n : NewSets) (k : ℕ) → AreThrough new after sets → length sets ≡ k → more ≡ sets ++ n ∷ []
    → ((x : ℕ) → has n.before.bits x ≡ live_through (drop k new) (λ y. has after.bits y) x) → ((x : ℕ) → has n.after.bits x ≡ live_through (drop (k + 1) new) (λ y. has after.bits y) x) → AreThrough new after more
push_through new after sets more n k h l e b a j m g x =
    elim (cases_lt j (length sets)) [
      | inl t ↦ h j m (sym (ap (λ ss. slice_get ss j) e ∙ get_front sets (n ∷ []) j t) ∙ g) x
      | inr t ↦
          let last : slice_get (n ∷ []) (j - length sets) ≡ Some m = sym (ap (λ ss. slice_get ss j) e ∙ get_back sets (n ∷ []) (j - length sets) j (omega arith)) ∙ g in
          let s = one_only (j - length sets) m last in
          let f : k ≡ j = omega (arith, s.0) in (
            ap (λ (o : NewSets). has o.before.bits x) (sym s.1) ∙ b x ∙ ap (λ i. live_through (drop i new) (λ y. has after.bits y) x) f,
            ap (λ (o : NewSets). has o.after.bits x) (sym s.1) ∙ a x ∙ ap (λ i. live_through (drop (i + 1) new) (λ y. has after.bits y) x) f,
          )
    ]
  where
    one_only : (i : ℕ) (m : NewSets) → slice_get (n ∷ []) i ≡ Some m → (i ≡ 0) × (n ≡ m)
    one_only zero m f = (refl, let o : (let a : Option NewSets = Some n in a) ≡ Some m = f in cc)
    one_only (suc i) m f = absurd (cc)

pub no_through : (new : List Instr) (after : Items) (sets : List NewSets) → sets ≡ [] → AreThrough new after sets
no_through new after sets e j n g x = absurd (let f : (let o : Option NewSets = None in o) ≡ Some n = ap (λ ss. slice_get ss j) (sym e) ∙ g in cc)
