-- The fewest first hints that suffice, as the loop over hints finds them.
use Rattle.std.proofs.Common.{◌≡◌, ℕ, zero, suc, ◌+◌, ◌<◌, ◌≤◌, ◌⊎◌, List, [], ◌∷◌, ◌++◌, length, get_or, take, drop, refl, sym, ◌∙◌, ap, inl, inr, arith, Option, Some, None, subst}
use Rattle.std.specs.Prelude.{Contains}
use Rattle.std.proofs.lemmas.List.{length-take, drop_more}
use Rattle.clause_model.specs.Clauses.{AllFalse, IsUnit, IsOpen, IsConsistent, Refutes, hint_lengths}
use Rattle.clause_model.proofs.Marks.{Consistent-push}
use Rattle.clause_model.proofs.Runs.{Unit-conflict, Unit-only, Unit-open}
use Rattle.lrat_check.specs.Costs.{LooksAt}
use Rattle.lrat_check.specs.Text.{Suffice}
use Rattle.lrat_check.proofs.Members.{head_in, tail_in, head_or_tail, none_in}

-- the n-th hint names the first clause that is false
abbrev pub EndsAt : (ℕ → Option (List ℕ)) → List ℕ → List ℕ → ℕ → Type 0
EndsAt live a [] n = ⊥
EndsAt live a (h ∷ hints) n =
    (clause : List ℕ) × (live h ≡ Some clause) × ((AllFalse a clause × (n ≡ 1)) ⊎ ((u : ℕ) × (m : ℕ) × IsUnit a clause u × EndsAt live (a ++ u ∷ []) hints m × (n ≡ suc m)))

pub ends : (live : ℕ → Option (List ℕ)) (a hints : List ℕ) → Refutes live a hints → (n : ℕ) × EndsAt live a hints n
ends live a [] r = absurd r
ends live a (h ∷ hints) (c, e, inl f) = (1, (c, e, inl (f, refl)))
ends live a (h ∷ hints) (c, e, inr (u, n, r)) = let k = ends live (a ++ u ∷ []) hints r in (suc k.0, (c, e, inr (u, k.0, n, k.1, refl)))

-- where the hints so far name the same clauses, they end alike
pub EndsAt-like : (live later : ℕ → Option (List ℕ)) (a hints : List ℕ) (n : ℕ) → ((q : ℕ) (clause : List ℕ) → Contains (take n hints) q → live q ≡ Some clause → later q ≡ Some clause) → EndsAt live a hints n → EndsAt later a hints n
EndsAt-like live later a [] n s r = absurd r
EndsAt-like live later a (h ∷ hints) n s (c, e, inl (f, k)) =
    (c, s h c (rw k (head_in h [])) e, inl (f, k))
EndsAt-like live later a (h ∷ hints) n s (c, e, inr (u, m, w, r, k)) =
    (c, s h c (rw k (head_in h (take m hints))) e, inr (u, m, w, EndsAt-like live later (a ++ u ∷ []) hints m (λ q d i f. s q d (rw k (tail_in h (take m hints) q i)) f) r, k))

-- hints beyond the last don't matter
pub EndsAt-take : (live : ℕ → Option (List ℕ)) (a hints : List ℕ) (n : ℕ) → EndsAt live a hints n → EndsAt live a (take n hints) n
EndsAt-take live a [] n r = absurd r
EndsAt-take live a (h ∷ hints) n (c, e, inl (f, k)) = rw k (c, e, inl (f, refl))
EndsAt-take live a (h ∷ hints) n (c, e, inr (u, m, w, r, k)) = rw k (c, e, inr (u, m, w, EndsAt-take live (a ++ u ∷ []) hints m r, refl))

pub EndsAt-within : (live : ℕ → Option (List ℕ)) (a hints : List ℕ) (n : ℕ) → EndsAt live a hints n → n ≤ length hints
EndsAt-within live a [] n r = absurd r
EndsAt-within live a (h ∷ hints) n (c, e, inl (f, k)) = omega arith
EndsAt-within live a (h ∷ hints) n (c, e, inr (u, m, w, r, k)) = let b : m ≤ length hints = EndsAt-within live (a ++ u ∷ []) hints m r in omega arith

pub EndsAt-refutes : (live : ℕ → Option (List ℕ)) (a hints : List ℕ) (n : ℕ) → EndsAt live a hints n → Refutes live a (take n hints)
EndsAt-refutes live a [] n r = absurd r
EndsAt-refutes live a (h ∷ hints) n (c, e, inl (f, k)) = rw k (c, e, inl f)
EndsAt-refutes live a (h ∷ hints) n (c, e, inr (u, m, w, r, k)) = rw k (c, e, inr (u, w, EndsAt-refutes live (a ++ u ∷ []) hints m r))

-- the clause that a hint so far names
pub EndsAt-live : (live : ℕ → Option (List ℕ)) (a hints : List ℕ) (n q : ℕ) → EndsAt live a hints n → Contains (take n hints) q → (clause : List ℕ) × (live q ≡ Some clause)
EndsAt-live live a [] n q r i = absurd r
EndsAt-live live a (h ∷ hints) n q (c, e, inl (f, k)) i = elim (head_or_tail h [] q (rw k at i)) [
  | inl s ↦ (c, rw (← s) e)
  | inr j ↦ absurd (none_in q j)
]
EndsAt-live live a (h ∷ hints) n q (c, e, inr (u, m, w, r, k)) i = elim (head_or_tail h (take m hints) q (rw k at i)) [
  | inl s ↦ (c, rw (← s) e)
  | inr j ↦ EndsAt-live live (a ++ u ∷ []) hints m q r j
]

pub EndsAt-fewest : (live : ℕ → Option (List ℕ)) (a hints : List ℕ) (n m : ℕ) → EndsAt live a hints n → Refutes live a (take m hints) → n ≤ m
EndsAt-fewest live a [] n m r s = absurd r
EndsAt-fewest live a (h ∷ hints) n zero r s = absurd s
EndsAt-fewest live a (h ∷ hints) n (suc m) (c, e, inl (f, k)) s = omega arith
EndsAt-fewest live a (h ∷ hints) n (suc m) (c, e, inr (u, i, w, r, k)) (d, g, inl f) =
    let same : c ≡ d = (let o : Some c ≡ Some d = sym e ∙ g in cc) in
    absurd (Unit-conflict a c u w (subst (AllFalse a) (sym same) f))
EndsAt-fewest live a (h ∷ hints) n (suc m) (c, e, inr (u, i, w, r, k)) (d, g, inr (v, x, s)) =
    let same : d ≡ c = (let o : Some d ≡ Some c = sym g ∙ e in cc) in
    let v' : v ≡ u = Unit-only a c v u (subst (λ (c : List ℕ). IsUnit a c v) same x) w in
    let b : i ≤ m = EndsAt-fewest live (a ++ u ∷ []) hints i m r (subst (λ (v : ℕ). Refutes live (a ++ v ∷ []) (take m hints)) v' s) in
    omega arith

EndsAt-untake : (live : ℕ → Option (List ℕ)) (a hints : List ℕ) (n m : ℕ) → EndsAt live a (take n hints) m → EndsAt live a hints m
EndsAt-untake live a hints zero m r = absurd r
EndsAt-untake live a [] (suc n) m r = absurd r
EndsAt-untake live a (h ∷ hints) (suc n) m (c, e, inl f) = (c, e, inl f)
EndsAt-untake live a (h ∷ hints) (suc n) m (c, e, inr (u, i, w, r, k)) = (c, e, inr (u, i, w, EndsAt-untake live (a ++ u ∷ []) hints n i r, k))

module _ (live : ℕ → Option (List ℕ)) (a hints : List ℕ) where
  pub Suffice-from_end : (n : ℕ) → EndsAt live a hints n → Suffice live a hints n
  Suffice-from_end n r = record { enough = EndsAt-refutes live a hints n r; fewest = λ m s. EndsAt-fewest live a hints n m r s }

  pub end_from_Suffice : (n : ℕ) → Suffice live a hints n → EndsAt live a hints n
  end_from_Suffice n s =
      let k = ends live a (take n hints) s.enough in
      let r : EndsAt live a hints k.0 = EndsAt-untake live a hints n k.0 k.1 in
      let low : n ≤ k.0 = s.fewest k.0 (EndsAt-refutes live a hints k.0 r) in
      let high : k.0 ≤ length (take n hints) = EndsAt-within live a (take n hints) k.0 k.1 in
      let same : k.0 ≡ n = omega (arith, length-take n hints) in
      subst (EndsAt live a hints) same r

  pub Suffice-within : (n : ℕ) → Suffice live a hints n → n ≤ length hints
  Suffice-within n s = EndsAt-within live a hints n (end_from_Suffice n s)

  pub Suffice-once : (m n : ℕ) → Suffice live a hints m → Suffice live a hints n → m ≡ n
  Suffice-once m n s t = let x : m ≤ n = s.fewest n t.enough in let y : n ≤ m = t.fewest m s.enough in omega arith

-- the literals looked at are those of the clauses that these hints name
pub looked_lengths : (live : ℕ → Option (List ℕ)) (a hints : List ℕ) (n m : ℕ) → IsConsistent a → EndsAt live a hints n → LooksAt live a hints m → m ≡ hint_lengths live (take n hints)
looked_lengths live a [] n m h r l = absurd r
looked_lengths live a (q ∷ hints) n m h (c, e, s) (inl d) = let o : None ≡ Some c = sym d.0 ∙ e in cc
looked_lengths live a (q ∷ hints) n m h (c, e, s) (inr (d, g, t)) = go (λ b i j x y z. looked_lengths live b hints i j x y z) s t
  where
    same : d ≡ c
    same = let o : Some d ≡ Some c = sym g ∙ e in cc

    go : ((b : List ℕ) (i j : ℕ) → IsConsistent b → EndsAt live b hints i → LooksAt live b hints j → j ≡ hint_lengths live (take i hints)) → (AllFalse a c × (n ≡ 1)) ⊎ ((u : ℕ) × (i : ℕ) × IsUnit a c u × EndsAt live (a ++ u ∷ []) hints i × (n ≡ suc i)) → ((AllFalse a d ⊎ IsOpen a d) × (m ≡ length d)) ⊎ ((u : ℕ) × (i : ℕ) × IsUnit a d u × LooksAt live (a ++ u ∷ []) hints i × (m ≡ length d + i)) → m ≡ hint_lengths live (take n (q ∷ hints))
    go again (inl (f, k)) (inl (x, z)) = rw (k, e) (let y : length d ≡ length c = ap length same in omega arith)
    go again (inl (f, k)) (inr (u, i, w, l, z)) = absurd (Unit-conflict a c u (subst (λ (c : List ℕ). IsUnit a c u) same w) f)
    go again (inr (u, i, w, r, k)) (inl (inl f, z)) = absurd (Unit-conflict a c u w (subst (AllFalse a) same f))
    go again (inr (u, i, w, r, k)) (inl (inr o, z)) = absurd (Unit-open a c u (subst (IsOpen a) same o) w h)
    go again (inr (u, i, w, r, k)) (inr (v, j, x, l, z)) =
        let v' : v ≡ u = Unit-only a c v u (subst (λ (c : List ℕ). IsUnit a c v) same x) w in
        let b : j ≡ hint_lengths live (take i hints) = again (a ++ u ∷ []) i j (Consistent-push a u w.unset h) r (subst (λ (v : ℕ). LooksAt live (a ++ v ∷ []) hints j) v' l) in
        let y : length d ≡ length c = ap length same in
        rw (k, e) (omega arith)

-- where hints name the same clauses, the lengths are the same
pub lengths_like : (live later : ℕ → Option (List ℕ)) (a hints : List ℕ) (n : ℕ) → ((q : ℕ) (clause : List ℕ) → live q ≡ Some clause → later q ≡ Some clause) → EndsAt live a hints n → hint_lengths live (take n hints) ≡ hint_lengths later (take n hints)
lengths_like live later a [] n s r = absurd r
lengths_like live later a (h ∷ hints) n s (c, e, inl (f, k)) = rw (k, e, s h c e) refl
lengths_like live later a (h ∷ hints) n s (c, e, inr (u, m, w, r, k)) =
    let more : hint_lengths live (take m hints) ≡ hint_lengths later (take m hints) = lengths_like live later (a ++ u ∷ []) hints m s r in
    rw (k, e, s h c e, more) refl

-- the hints from a place on end where all do
abbrev pub GoesOn : (ℕ → Option (List ℕ)) → List ℕ → List ℕ → List ℕ → ℕ → Type 0
GoesOn live from hints later i = (m : ℕ) → EndsAt live later (drop i hints) m → EndsAt live from hints (i + m)

module _ (live : ℕ → Option (List ℕ)) (from hints later : List ℕ) (i : ℕ) (b : i < length hints) (h : GoesOn live from hints later i) (clause : List ℕ) (e : live (get_or hints i 0) ≡ Some clause) where
  pub GoesOn-conflict : AllFalse later clause → Suffice live from hints (i + 1)
  GoesOn-conflict f = Suffice-from_end live from hints (i + 1) (h 1 (rw (drop_more hints i 0 b) (clause, e, inl (f, refl))))

  pub GoesOn-unit : (u : ℕ) → IsUnit later clause u → GoesOn live from hints (later ++ u ∷ []) (i + 1)
  GoesOn-unit u n m r =
      let s : i + suc m ≡ (i + 1) + m = omega arith in
      subst (EndsAt live from hints) s (h (suc m) (rw (drop_more hints i 0 b) (clause, e, inr (u, m, n, r, refl))))

-- the literals looked at, with those that the remaining hints need, are no more than those of the fewest sufficient hints
abbrev pub Spends : (ℕ → Option (List ℕ)) → List ℕ → List ℕ → List ℕ → List ℕ → ℕ → ℕ → Type 0
Spends live from hints later rest before now = (n : ℕ) → EndsAt live from hints n → (k : ℕ) × EndsAt live later rest k × (now + hint_lengths live (take k rest) ≤ before + hint_lengths live (take n hints))

pub Spends-all : (live : ℕ → Option (List ℕ)) (from hints later rest : List ℕ) (before now : ℕ) → Spends live from hints later rest before now → (n : ℕ) → EndsAt live from hints n → now ≤ before + hint_lengths live (take n hints)
Spends-all live from hints later rest before now h n r = let k = h n r in let b = k.2 in omega arith

module _ (live : ℕ → Option (List ℕ)) (from hints later : List ℕ) (i before now : ℕ) (b : i < length hints) (h : Spends live from hints later (drop i hints) before now) (clause : List ℕ) (e : live (get_or hints i 0) ≡ Some clause) (after : ℕ) (w : after ≤ now + length clause) where
  -- the first of the hints left names the clause
  here : (k : ℕ) → EndsAt live later (drop i hints) k → EndsAt live later (get_or hints i 0 ∷ drop (i + 1) hints) k
  here k r = subst (λ (xs : List ℕ). EndsAt live later xs k) (drop_more hints i 0 b) r

  length_here : (k : ℕ) → EndsAt live later (drop i hints) k → length clause ≤ hint_lengths live (take k (drop i hints))
  length_here k r = rw (drop_more hints i 0 b) (of_first (here k r))
    where
      of_first : EndsAt live later (get_or hints i 0 ∷ drop (i + 1) hints) k → length clause ≤ hint_lengths live (take k (get_or hints i 0 ∷ drop (i + 1) hints))
      of_first (c, f, inl (g, z)) = rw (z, e) (omega arith)
      of_first (c, f, inr (u, m, g, s, z)) = rw (z, e) (omega arith)

  pub Spends-looked : (n : ℕ) → EndsAt live from hints n → after ≤ before + hint_lengths live (take n hints)
  Spends-looked n r =
      let k = h n r in
      let x = k.2 in
      let y : length clause ≤ hint_lengths live (take k.0 (drop i hints)) = length_here k.0 k.1 in
      omega arith

  pub Spends-unit : (u : ℕ) → IsUnit later clause u → Spends live from hints (later ++ u ∷ []) (drop (i + 1) hints) before after
  Spends-unit u d n r =
      let k = h n r in
      go k.0 (here k.0 k.1) (subst (λ (xs : List ℕ). now + hint_lengths live (take k.0 xs) ≤ before + hint_lengths live (take n hints)) (drop_more hints i 0 b) k.2)
    where
      go : (k : ℕ) → EndsAt live later (get_or hints i 0 ∷ drop (i + 1) hints) k → now + hint_lengths live (take k (get_or hints i 0 ∷ drop (i + 1) hints)) ≤ before + hint_lengths live (take n hints) → (m : ℕ) × EndsAt live (later ++ u ∷ []) (drop (i + 1) hints) m × (after + hint_lengths live (take m (drop (i + 1) hints)) ≤ before + hint_lengths live (take n hints))
      go k (c, f, inl (g, z)) x =
          let same : clause ≡ c = (let o : Some clause ≡ Some c = sym e ∙ f in cc) in
          absurd (Unit-conflict later c u (subst (λ (c : List ℕ). IsUnit later c u) same d) g)
      go k (c, f, inr (v, m, g, s, z)) x =
          let same : c ≡ clause = (let o : Some c ≡ Some clause = sym f ∙ e in cc) in
          let v' : v ≡ u = Unit-only later clause v u (subst (λ (c : List ℕ). IsUnit later c v) same g) d in
          let y = rw (z, e) at x in
          (m, subst (λ (v : ℕ). EndsAt live (later ++ v ∷ []) (drop (i + 1) hints) m) v' s, omega arith)
