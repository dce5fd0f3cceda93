-- A window as a whole, and places of which each is greater than the one before.
use Rattle.std.proofs.Common.{◌≡◌, ◌≢◌, ℕ, zero, suc, ◌+◌, ◌-◌, ◌<◌, ◌≤◌, ◌&&◌, ◌||◌, not, Bool, true, false, List, [], ◌∷◌, length, get_or, Option, Some, None, refl, sym, ap, ◌∙◌, subst, inl, inr, arith}
use Rattle.std.specs.Prelude.{slice_get, slice_set}
use Rattle.std.proofs.lemmas.Bool.{cases_eq}
use Rattle.std.proofs.lemmas.List.{get_or_default}
use Rattle.shrinking_sets.specs.Straight.{nop}
use Rattle.std.proofs.lemmas.Option.{same_Some}
use Rattle.thumb_instr.specs.declared.instr.Instr.{Instr}
use Rattle.thumb_instr.specs.Items.{one_of}
use Rattle.thumb_model.specs.Flow.{ways_of}
use Rattle.code_flow.specs.declared.way.Ways.{Ways}
use Rattle.code_flow.specs.Flow.{way_list, AreWays}
use Rattle.liveness.specs.Graph.{ways_at}
use Rattle.liveness.specs.Through.{uses_among}
use Rattle.liveness.specs.Passing.{writes_among, reads_from, writes_from}
use Rattle.liveness.specs.Window.{nth_or_nop, AreAscending}
use Rattle.liveness.proofs.Callers.{among}

pub nothing_read : (all : List (Option Ways)) (p end x : ℕ) → p ≡ end → false ≡ reads_from all p (end - p) x
nothing_read all p end x e = sym (ap (λ n. reads_from all p n x) (let f : end - p ≡ 0 = omega arith in f))

pub nothing_written : (all : List (Option Ways)) (p end x : ℕ) → p ≡ end → false ≡ writes_from all p (end - p) x
nothing_written all p end x e = sym (ap (λ n. writes_from all p n x) (let f : end - p ≡ 0 = omega arith in f))

-- one place more
module _ (all : List (Option Ways)) (at end : ℕ) (some : 0 < at) (below : at ≤ end) (e : Option Ways) (here : ways_at all (at - 1) ≡ way_list e) (x : ℕ) where
  count : end - (at - 1) ≡ suc (end - at)
  count = omega arith

  next : at - 1 + 1 ≡ at
  next = omega arith

  pub reads_back : (r u w : Bool) → u ≡ uses_among (way_list e) x → w ≡ writes_among (way_list e) x → r ≡ reads_from all at (end - at) x → (u || (r && not w)) ≡ reads_from all (at - 1) (end - (at - 1)) x
  reads_back r u w hu hw hr =
      ap (λ b. b || (r && not w)) (hu ∙ ap (λ ws. uses_among ws x) (sym here)) ∙ ap (λ b. uses_among (ways_at all (at - 1)) x || (r && not b)) (hw ∙ ap (λ ws. writes_among ws x) (sym here))
      ∙ ap (λ b. uses_among (ways_at all (at - 1)) x || (b && not (writes_among (ways_at all (at - 1)) x))) (hr ∙ ap (λ p. reads_from all p (end - at) x) (sym next))
      ∙ sym (ap (λ n. reads_from all (at - 1) n x) count)

  pub writes_back : (r w : Bool) → w ≡ writes_among (way_list e) x → r ≡ writes_from all at (end - at) x → (w || r) ≡ writes_from all (at - 1) (end - (at - 1)) x
  writes_back r w hw hr =
      ap (λ b. b || r) (hw ∙ ap (λ ws. writes_among ws x) (sym here)) ∙ ap (λ b. writes_among (ways_at all (at - 1)) x || b) (hr ∙ ap (λ p. writes_from all p (end - at) x) (sym next))
      ∙ sym (ap (λ n. writes_from all (at - 1) n x) count)

pub at_least : (from k : ℕ) (ps : List ℕ) → AreAscending from ps → k < length ps → from ≤ get_or ps k 0
at_least from k [] a h = absurd (omega arith)
at_least from zero (p ∷ ps) a h = a.0
at_least from (suc k) (p ∷ ps) a h = let l = at_least (suc p) k ps a.1 (omega arith) in omega (arith, a.0, l)

pub ascends : (from j k : ℕ) (ps : List ℕ) → AreAscending from ps → j < k → k < length ps → get_or ps j 0 < get_or ps k 0
ascends from j k [] a h l = absurd (omega arith)
ascends from j zero (p ∷ ps) a h l = absurd (omega arith)
ascends from zero (suc k) (p ∷ ps) a h l = at_least (suc p) k ps a.1 (omega arith)
ascends from (suc j) (suc k) (p ∷ ps) a h l = ascends (suc p) j k ps a.1 (omega arith) (omega arith)

-- ---- ways that are put in ----

get_put : (all : List (Option Ways)) (p : ℕ) (e : Option Ways) (ws : Option Ways) → slice_get (slice_set all p e) p ≡ Some ws → e ≡ ws
get_put [] p e ws h = absurd (cc)
get_put (a ∷ all) zero e ws h = same_Some e ws h
get_put (a ∷ all) (suc p) e ws h = get_put all p e ws h

get_other : (all : List (Option Ways)) (p q : ℕ) (e : Option Ways) → q ≢ p → slice_get (slice_set all p e) q ≡ slice_get all q
get_other [] p q e d = refl
get_other (a ∷ all) zero zero e d = absurd (d refl)
get_other (a ∷ all) zero (suc q) e d = refl
get_other (a ∷ all) (suc p) zero e d = refl
get_other (a ∷ all) (suc p) (suc q) e d = get_other all p q e (λ h. d (ap suc h))

pub put_more : (ps : List ℕ) (is : List Instr) (all : List (Option Ways)) (n : ℕ) (i : Instr) (e : Ways) → AreAscending 0 ps → n < length ps → i ≡ nth_or_nop is n → AreWays (get_or ps n 0) (ways_of None i) (way_list (Some e))
    → ((k : ℕ) (ws : Option Ways) → k < n → slice_get all (get_or ps k 0) ≡ Some ws → AreWays (get_or ps k 0) (ways_of None (nth_or_nop is k)) (way_list ws))
    → (k : ℕ) (ws : Option Ways) → k < n + 1 → slice_get (slice_set all (get_or ps n 0) (Some e)) (get_or ps k 0) ≡ Some ws → AreWays (get_or ps k 0) (ways_of None (nth_or_nop is k)) (way_list ws)
put_more ps is all n i e a l s w old k ws h g = elim (cases_eq k n) [
  | inl t ↦
      let at : get_or ps k 0 ≡ get_or ps n 0 = ap (λ j. get_or ps j 0) t in
      let same : (let o : Option Ways = Some e in o) ≡ ws = get_put all (get_or ps n 0) (Some e) ws (ap (slice_get (slice_set all (get_or ps n 0) (Some e))) (sym at) ∙ g) in
      subst (λ (o : Option Ways). AreWays (get_or ps k 0) (ways_of None (nth_or_nop is k)) (way_list o)) same
      (subst (λ j. AreWays (get_or ps j 0) (ways_of None (nth_or_nop is j)) (way_list (Some e))) (sym t) (subst (λ (y : Instr). AreWays (get_or ps n 0) (ways_of None y) (way_list (Some e))) s w))
  | inr d ↦
      let less : k < n = omega (arith, h, d) in
      let before = ascends 0 k n ps a less l in
      old k ws less (sym (get_other all (get_or ps n 0) (get_or ps k 0) (Some e) (λ t. omega (arith, t, before))) ∙ g)
]

pub others_more : (ps : List ℕ) (was all : List (Option Ways)) (n : ℕ) (e : Ways) → n < length ps → ((q : ℕ) → one_of q ps ≡ false → slice_get all q ≡ slice_get was q) → (q : ℕ) → one_of q ps ≡ false → slice_get (slice_set all (get_or ps n 0) (Some e)) q ≡ slice_get was q
others_more ps was all n e l old q h = get_other all (get_or ps n 0) q (Some e) (λ t. absurd (let o : one_of q ps ≡ true = ap (λ y. one_of y ps) t ∙ among ps n l in cc)) ∙ old q h

-- ---- instructions by number ----

pub nth_get : (is : List Instr) (k : ℕ) → nth_or_nop is k ≡ get_or is k nop
nth_get [] k = refl
nth_get (i ∷ is) zero = refl
nth_get (i ∷ is) (suc k) = nth_get is k

pub nth_some : (is : List Instr) (k : ℕ) (i : Instr) → k < length is → i ≡ get_or is k i → i ≡ nth_or_nop is k
nth_some is k i l e = e ∙ get_or_default is k i nop l ∙ sym (nth_get is k)

pub nth_none : (is : List Instr) (k : ℕ) → length is ≤ k → nop ≡ nth_or_nop is k
nth_none [] k h = refl
nth_none (i ∷ is) zero h = absurd (omega arith)
nth_none (i ∷ is) (suc k) h = nth_none is k (omega arith)
