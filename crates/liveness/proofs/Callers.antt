-- Following the linked list of jumps to a place.
use Rattle.std.proofs.Common.{◌≡◌, ℕ, zero, suc, ◌<◌, ◌≤◌, ◌==◌, true, false, List, [], ◌∷◌, length, take, get_or, ◌⊎◌, eq-eqb, eqb-true, Option, Some, refl, sym, ap, ◌∙◌, subst, inl, inr, arith}
use Rattle.std.specs.Prelude.{slice_get}
use Rattle.std.proofs.lemmas.Option.{same_Some}
use Rattle.std.proofs.lemmas.Bool.{cases_lt, or_cases, or_left, or_right}
use Rattle.thumb_instr.specs.Items.{one_of}
use Rattle.code_flow.specs.declared.way.Ways.{Ways}
use Rattle.liveness.specs.declared.graph.Jump.{Jump}
use Rattle.liveness.specs.declared.graph.Callers.{Callers}
use Rattle.liveness.specs.Graph.{JumpsTo, IsLast, AreCallers}

-- the jumps to t from places before some n are left, and the others are done
abbrev pub AreDone : List (Option Ways) → List Jump → ℕ → ℕ → (ℕ → Type 0) → Type 0
AreDone all jumps t rest D = (n : ℕ) × IsLast all jumps t n rest × ((q : ℕ) → n ≤ q → JumpsTo all t q → D q)

pub jump_done : (all : List (Option Ways)) (c : Callers) (t rest k : ℕ) (j : Jump) (D D' : ℕ → Type 0) → AreCallers all (length all) c → slice_get c.jumps.items k ≡ Some j → rest ≡ suc k → AreDone all c.jumps.items t rest D → ((q : ℕ) → JumpsTo all t q → D q → D' q) → (JumpsTo all t j.place → D' j.place)
    → AreDone all c.jumps.items t j.earlier D'
jump_done all c t rest k j D D' a g r done kept here = (j.place, (a.jumps k j g).earlier t (done.1.jump k j r g).1, more)
  where
    more : (q : ℕ) → j.place ≤ q → JumpsTo all t q → D' q
    more q l h = elim (cases_lt q done.0) [
      | inr b ↦ kept q h (done.2 q b h)
      | inl b ↦
          let o = done.1.others q b h in
          let same : k ≡ o.0 = omega (arith, r, o.2) in
          let is : j ≡ o.1 = same_Some j o.1 (sym g ∙ ap (slice_get c.jumps.items) same ∙ o.3) in
          let at : q ≡ j.place = omega (arith, l, o.4, ap (λ (y : Jump). y.place) is) in
          subst D' (sym at) (here (subst (JumpsTo all t) at h))
    ]

-- ---- places of a list, one after the other ----

pub among : (xs : List ℕ) (i : ℕ) → i < length xs → one_of (get_or xs i 0) xs ≡ true
among [] i h = absurd (omega arith)
among (x ∷ xs) zero h = or_left _ _ (eq-eqb x x refl)
among (x ∷ xs) (suc i) h = or_right (get_or xs i 0 == x) _ (among xs i (omega arith))

pub one_taken : (q : ℕ) (xs : List ℕ) (i : ℕ) → i < length xs → one_of q (take (suc i) xs) ≡ true → (one_of q (take i xs) ≡ true) ⊎ (q ≡ get_or xs i 0)
one_taken q [] i h o = absurd (omega arith)
one_taken q (x ∷ xs) zero h o = elim (or_cases (q == x) false o) [
  | inl e ↦ inr (eqb-true q x e)
  | inr e ↦ absurd (cc)
]
one_taken q (x ∷ xs) (suc i) h o = elim (or_cases (q == x) (one_of q (take (suc i) xs)) o) [
  | inl e ↦ inl (or_left _ _ e)
  | inr e ↦ elim (one_taken q xs i (omega arith) e) [
    | inl f ↦ inl (or_right (q == x) _ f)
    | inr f ↦ inr f
  ]
]
