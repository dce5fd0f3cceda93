-- Ways and graph where instructions take the places of a window.
use Rattle.std.proofs.Common.{◌≡◌, ◌≢◌, ℕ, zero, suc, ◌+◌, ◌-◌, ◌<◌, ◌≤◌, ◌&&◌, ◌||◌, not, true, false, List, [], ◌∷◌, length, get_or, Option, Some, None, refl, sym, ap, ◌∙◌, subst, ◌⊎◌, inl, inr, arith, ne_eqb, length-append}
use Rattle.std.specs.Prelude.{slice_get}
use Rattle.std.proofs.lemmas.Bool.{cases_eq, cases_lt}
use Rattle.thumb_instr.specs.declared.instr.Instr.{Instr}
use Rattle.thumb_instr.specs.Shape.{uses_of, writes_of}
use Rattle.thumb_instr.specs.Items.{one_of, has}
use Rattle.thumb_model.specs.Listing.{Code}
use Rattle.thumb_model.specs.Flow.{Way as ModelWay, Onward, way, ways_of, ways}
use Rattle.thumb_model.proofs.Lists.{get_back}
use Rattle.shrinking_sets.specs.Straight.{is_straight, nop, nops, reads_first, writes_in, IsApart}
use Rattle.shrinking_sets.proofs.Exchange.{Runs, old_runs, new_runs, apart_or, runs_at, straight_at, ways_same, straight_way}
use Rattle.padded_code.specs.Spread.{first_of, others_of, spread}
use Rattle.code_flow.specs.declared.way.Way.{Way}
use Rattle.code_flow.specs.declared.way.Ways.{Ways}
use Rattle.code_flow.specs.Flow.{way_list, AreWays}
use Rattle.liveness.specs.Ways.{AreAllWays}
use Rattle.liveness.specs.Graph.{jump_from, ways_at, IsLast, AreCallers}
use Rattle.liveness.specs.declared.graph.Callers.{Callers}
use Rattle.liveness.specs.Through.{uses_among}
use Rattle.liveness.specs.Passing.{writes_among, reads_from, writes_from}
use Rattle.liveness.specs.Window.{nth_or_nop, AreAscending, ArePut, IsWindowExchange}
use Rattle.liveness.proofs.Callers.{among}
use Rattle.liveness.proofs.Passings.{ways_there}
use Rattle.padded_code.proofs.Spread.{length_nops as nops_length}
use Rattle.common_lemmas.proofs.Booleans.{or_false}
use Rattle.common_lemmas.proofs.Lists.{get_front}

-- ---- what a window reads and writes ----

one_uses : (p x : ℕ) (m : ModelWay) (es : List Way) → AreWays p (m ∷ []) es → (uses_among es x ≡ one_of x m.reads) × (writes_among es x ≡ one_of x m.writes)
one_uses p x m [] a = absurd a
one_uses p x m (e ∷ []) a = (or_false (has e.uses.bits x) ∙ a.0.uses x, or_false (has e.writes.bits x) ∙ a.0.writes x)
one_uses p x m (e ∷ f ∷ es) a = absurd a.1

pub one_here : (code : Code) (all : List (Option Ways)) → AreAllWays code all → length all ≡ length code.places → (q : ℕ) (i : Instr) → ways code q ≡ way (uses_of i) (writes_of i) Onward ∷ [] → AreWays q (way (uses_of i) (writes_of i) Onward ∷ []) (ways_at all q)
one_here code all a m q i e = subst (λ (ms : List ModelWay). AreWays q ms (ways_at all q)) e (ways_there code all a m q 0 (way (uses_of i) (writes_of i) Onward) (ap (λ ms. slice_get ms 0) e))

pub reads_are : (code : Code) (all : List (Option Ways)) → AreAllWays code all → length all ≡ length code.places → (q : ℕ) (is : List Instr) → Runs code q is → (x : ℕ) → reads_from all q (length is) x ≡ reads_first is x
reads_are code all a m q [] r x = refl
reads_are code all a m q (i ∷ is) r x =
    let u = one_uses q x (way (uses_of i) (writes_of i) Onward) (ways_at all q) (one_here code all a m q i r.0) in
    ap (λ b. b || (reads_from all (q + 1) (length is) x && not (writes_among (ways_at all q) x))) u.0
    ∙ ap (λ b. one_of x (uses_of i) || (reads_from all (q + 1) (length is) x && not b)) u.1
    ∙ ap (λ b. one_of x (uses_of i) || (b && not (one_of x (writes_of i)))) (reads_are code all a m (q + 1) is r.1 x)

pub writes_are : (code : Code) (all : List (Option Ways)) → AreAllWays code all → length all ≡ length code.places → (q : ℕ) (is : List Instr) → Runs code q is → (x : ℕ) → writes_from all q (length is) x ≡ writes_in is x
writes_are code all a m q [] r x = refl
writes_are code all a m q (i ∷ is) r x =
    let u = one_uses q x (way (uses_of i) (writes_of i) Onward) (ways_at all q) (one_here code all a m q i r.0) in
    ap (λ b. b || writes_from all (q + 1) (length is) x) u.1 ∙ ap (λ b. one_of x (writes_of i) || b) (writes_are code all a m (q + 1) is r.1 x)

-- ---- where the instructions stand ----

nops_at : (n k : ℕ) → k < n → slice_get (nops n) k ≡ Some nop
nops_at zero k h = absurd (omega arith)
nops_at (suc n) zero h = refl
nops_at (suc n) (suc k) h = nops_at n k (omega arith)

-- an ascending list has no place below its bound
pub none_below : (from q : ℕ) (ps : List ℕ) → AreAscending from ps → q < from → one_of q ps ≡ false
none_below from q [] a h = refl
none_below from q (p ∷ ps) a h = ap (λ b. b || one_of q ps) (ne_eqb q p (λ e. omega (arith, a.0, e, h))) ∙ none_below (suc p) q ps a.1 (omega (arith, a.0, h))

first_is : (is : List Instr) → first_of is ≡ nth_or_nop is 0
first_is [] = refl
first_is (i ∷ is) = refl

others_are : (is : List Instr) (k : ℕ) → nth_or_nop (others_of is) k ≡ nth_or_nop is (suc k)
others_are [] k = refl
others_are (i ∷ is) k = refl

-- what stands at a place of the window: an instruction at one of `ps`, and elsewhere nothing
abbrev pub StandsAt : List ℕ → List Instr → ℕ → Option Instr → Type 0
StandsAt ps is q o = ((k : ℕ) × (k < length ps) × (get_or ps k 0 ≡ q) × (o ≡ Some (nth_or_nop is k))) ⊎ ((one_of q ps ≡ false) × (o ≡ Some nop))

pub spread_at : (from : ℕ) (ps : List ℕ) (is : List Instr) → AreAscending from ps → (q : ℕ) → from ≤ q → q < from + length (spread from ps is) → StandsAt ps is q (slice_get (spread from ps is) (q - from))
spread_at from [] is a q f l = absurd (omega arith)
spread_at from (p ∷ ps) is a q f l = elim (cases_lt q p) [
  | inl b ↦ inr (none_below p q (p ∷ ps) (let e : p ≤ p = omega arith in (e, a.1)) b, get_front (nops (p - from)) (first_of is ∷ spread (suc p) ps (others_of is)) (q - from) (omega (arith, nops_length (p - from))) ∙ nops_at (p - from) (q - from) (omega arith))
  | inr b ↦ elim (cases_eq q p) [
    | inl e ↦ inl (0, omega arith, sym e, get_back (nops (p - from)) (first_of is ∷ spread (suc p) ps (others_of is)) 0 (q - from) (omega (arith, nops_length (p - from), e, a.0)) ∙ ap (λ (i : Instr). Some i) (first_is is))
    | inr d ↦ behind d b (spread_at (suc p) ps (others_of is) a.1 q (omega (arith, b, d)) (inside d))
  ]
]
  where
    back : q ≢ p → p ≤ q → slice_get (spread from (p ∷ ps) is) (q - from) ≡ slice_get (spread (suc p) ps (others_of is)) (q - suc p)
    back d b = get_back (nops (p - from)) (first_of is ∷ spread (suc p) ps (others_of is)) (suc (q - suc p)) (q - from) (omega (arith, nops_length (p - from), d, b, a.0))

    inside : q ≢ p → q < suc p + length (spread (suc p) ps (others_of is))
    inside d = omega (arith, l, a.0, length-append (nops (p - from)) (first_of is ∷ spread (suc p) ps (others_of is)), nops_length (p - from))

    behind : q ≢ p → p ≤ q → StandsAt ps (others_of is) q (slice_get (spread (suc p) ps (others_of is)) (q - suc p)) → StandsAt (p ∷ ps) is q (slice_get (spread from (p ∷ ps) is) (q - from))
    behind d b (inl r) = inl (suc r.0, omega (arith, r.1), r.2, back d b ∙ r.3 ∙ ap (λ (i : Instr). Some i) (others_are is r.0))
    behind d b (inr r) = inr (ap (λ t. t || one_of q ps) (ne_eqb q p d) ∙ r.0, back d b ∙ r.1)

last_cons : (p q : ℕ) (ps : List ℕ) → get_or (p ∷ q ∷ ps) (length (p ∷ q ∷ ps) - 1) 0 ≡ get_or (q ∷ ps) (length (q ∷ ps) - 1) 0
last_cons p q ps = ap (λ k. get_or (p ∷ q ∷ ps) k 0) (let e : length (p ∷ q ∷ ps) - 1 ≡ suc (length (q ∷ ps) - 1) = omega arith in e)

-- the window ends right after the last of the places
pub spread_end : (from : ℕ) (ps : List ℕ) (is : List Instr) → AreAscending from ps → 0 < length ps → from + length (spread from ps is) ≡ get_or ps (length ps - 1) 0 + 1
spread_end from [] is a h = absurd (omega arith)
spread_end from (p ∷ []) is a h = omega (arith, a.0, length-append (nops (p - from)) (first_of is ∷ []), nops_length (p - from))
spread_end from (p ∷ q ∷ ps) is a h =
    let r = spread_end (suc p) (q ∷ ps) (others_of is) a.1 (omega arith) in
    omega (arith, a.0, r, last_cons p q ps, length-append (nops (p - from)) (first_of is ∷ spread (suc p) (q ∷ ps) (others_of is)), nops_length (p - from))

-- no place of the list comes after the last
pub none_behind : (from q : ℕ) (ps : List ℕ) → AreAscending from ps → get_or ps (length ps - 1) 0 < q → one_of q ps ≡ false
none_behind from q [] a h = refl
none_behind from q (p ∷ []) a h = ap (λ b. b || false) (ne_eqb q p (λ e. omega arith))
none_behind from q (p ∷ r ∷ ps) a h = ap (λ b. b || one_of q (r ∷ ps)) (ne_eqb q p (λ e. let l = last_above p r ps a.1 in omega (arith, last_cons p r ps))) ∙ none_behind (suc p) q (r ∷ ps) a.1 (omega (arith, last_cons p r ps))
  where
    last_above : (p r : ℕ) (ps : List ℕ) → AreAscending (suc p) (r ∷ ps) → p < get_or (r ∷ ps) (length (r ∷ ps) - 1) 0
    last_above p r [] a = omega (arith, a.0)
    last_above p r (t ∷ ps) a = let l = last_above r t ps a.1 in omega (arith, a.0, l, last_cons r t ps)

-- ---- the new ways ----

pub from_first : (qs : List ℕ) → AreAscending 0 qs → AreAscending (get_or qs 0 0) qs
from_first [] a = tt
from_first (q ∷ qs) a = (let l : q ≤ q = omega arith in l, a.1)

module _ (code new : Code) (ps : List ℕ) (window is : List Instr) (gives : IsWindowExchange code new ps window is) (ascends : AreAscending 0 ps) (some : 0 < length ps) (all all' : List (Option Ways)) (ways_are : AreAllWays code all) (put : ArePut ps is all') (others : (q : ℕ) → one_of q ps ≡ false → slice_get all' q ≡ slice_get all q) where
  -- a place apart from the window is none of these
  pub apart_none : (q : ℕ) → IsApart (get_or ps 0 0) (length (spread (get_or ps 0 0) ps window)) q → one_of q ps ≡ false
  apart_none q (inl l) = none_below (get_or ps 0 0) q ps (from_first ps ascends) l
  apart_none q (inr l) = none_behind (get_or ps 0 0) q ps (from_first ps ascends) (let e = spread_end (get_or ps 0 0) ps window (from_first ps ascends) some in omega arith)

  kept_ways : (q : ℕ) (ws : Option Ways) → one_of q ps ≡ false → ways new q ≡ ways code q → slice_get all' q ≡ Some ws → AreWays q (ways new q) (way_list ws)
  kept_ways q ws n e g = subst (λ (ms : List ModelWay). AreWays q ms (way_list ws)) (sym e) (ways_are q ws (sym (others q n) ∙ g))

  stands_new : (q j : ℕ) (i : Instr) → q ≡ get_or ps 0 0 + j → slice_get (spread (get_or ps 0 0) ps is) j ≡ Some i → ways new q ≡ way (uses_of i) (writes_of i) Onward ∷ []
  stands_new q j i e g = ap (ways new) e ∙ runs_at new (get_or ps 0 0) (spread (get_or ps 0 0) ps is) j i (new_runs code new (get_or ps 0 0) (spread (get_or ps 0 0) ps window) (spread (get_or ps 0 0) ps is) gives.exchange) g

  stood_old : (q j : ℕ) (i : Instr) → q ≡ get_or ps 0 0 + j → slice_get (spread (get_or ps 0 0) ps window) j ≡ Some i → ways code q ≡ way (uses_of i) (writes_of i) Onward ∷ []
  stood_old q j i e g = ap (ways code) e ∙ runs_at code (get_or ps 0 0) (spread (get_or ps 0 0) ps window) j i (old_runs code new (get_or ps 0 0) (spread (get_or ps 0 0) ps window) (spread (get_or ps 0 0) ps is) gives.exchange) g

  within : (q j : ℕ) (ws : Option Ways) → q ≡ get_or ps 0 0 + j → j < length (spread (get_or ps 0 0) ps window) → slice_get all' q ≡ Some ws → AreWays q (ways new q) (way_list ws)
  within q j ws e l g =
      go (spread_at (get_or ps 0 0) ps is (from_first ps ascends) q (omega arith) (let n = gives.exchange.as_many in omega arith)) (spread_at (get_or ps 0 0) ps window (from_first ps ascends) q (omega arith) (omega arith))
    where
      at : q - get_or ps 0 0 ≡ j
      at = omega arith

      go : StandsAt ps is q (slice_get (spread (get_or ps 0 0) ps is) (q - get_or ps 0 0)) → StandsAt ps window q (slice_get (spread (get_or ps 0 0) ps window) (q - get_or ps 0 0)) → AreWays q (ways new q) (way_list ws)
      go (inl r) o =
          let i = nth_or_nop is r.0 in
          let stands : slice_get (spread (get_or ps 0 0) ps is) j ≡ Some i = ap (slice_get (spread (get_or ps 0 0) ps is)) (sym at) ∙ r.3 in
          let s : is_straight i ≡ true = straight_at (spread (get_or ps 0 0) ps is) j i gives.exchange.new_straight stands in
          let w : AreWays q (ways_of None i) (way_list ws) = subst (λ y. AreWays y (ways_of None i) (way_list ws)) r.2 (put r.0 ws r.1 (ap (slice_get all') r.2 ∙ g)) in
          subst (λ (ms : List ModelWay). AreWays q ms (way_list ws)) (straight_way None i s ∙ sym (stands_new q j i e stands)) w
      go (inr r) (inr o) =
          kept_ways q ws r.0 (stands_new q j nop e (ap (slice_get (spread (get_or ps 0 0) ps is)) (sym at) ∙ r.1) ∙ sym (stood_old q j nop e (ap (slice_get (spread (get_or ps 0 0) ps window)) (sym at) ∙ o.1))) g
      go (inr r) (inl o) = absurd (let t : one_of q ps ≡ true = ap (λ y. one_of y ps) (sym o.2) ∙ among ps o.0 o.1 in cc)

  pub ways_put : AreAllWays new all'
  ways_put q ws g = elim (apart_or code new (get_or ps 0 0) (spread (get_or ps 0 0) ps window) (spread (get_or ps 0 0) ps is) gives.exchange q) [
    | inl a ↦ kept_ways q ws (apart_none q a) (ways_same code new (get_or ps 0 0) (spread (get_or ps 0 0) ps window) (spread (get_or ps 0 0) ps is) gives.exchange q a) g
    | inr r ↦ within q r.0 ws r.1 r.2 g
  ]

-- ---- the graph ----

-- jumps are the same
pub callers_same : (all all' : List (Option Ways)) (n : ℕ) (c : Callers) → length all' ≡ length all → ((q : ℕ) → jump_from (q + 1) (ways_at all' q) ≡ jump_from (q + 1) (ways_at all q)) → AreCallers all n c → AreCallers all' n c
callers_same all all' n c many same a = record {
  as_many = a.as_many ∙ sym many;
  few = a.few;
  last = λ t number g. last t n number (a.last t number g);
  jumps = λ k j g. let i = a.jumps k j g in record { below = i.below; before = i.before; earlier = λ t h. last t j.place j.earlier (i.earlier t (sym (same j.place) ∙ h)) };
}
  where
    last : (t m number : ℕ) → IsLast all c.jumps.items t m number → IsLast all' c.jumps.items t m number
    last t m number l = record {
      within = l.within;
      jump = λ k j e g. let r = l.jump k j e g in (r.0, same j.place ∙ r.1);
      others = λ q b h. l.others q b (sym (same q) ∙ h);
    }
