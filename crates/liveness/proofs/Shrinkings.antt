-- Sets of live items from a window that gives way until they are exact again.
use Rattle.std.proofs.Common.{◌≡◌, ℕ, suc, ◌+◌, ◌-◌, ◌<◌, ◌≤◌, ◌==◌, Bool, true, false, List, [], ◌∷◌, length, get_or, Option, if◌then◌else◌, sym, ap, ◌∙◌, inl, inr, arith, ◌↔◌, eqb-true}
use Rattle.std.specs.Prelude.{slice_get}
use Rattle.std.proofs.lemmas.Bool.{cases_Bool, cases_lt, or_cases}
use Rattle.thumb_instr.specs.declared.items.Items.{Items}
use Rattle.thumb_instr.specs.Items.{one_of, has}
use Rattle.thumb_model.specs.Listing.{Code}
use Rattle.thumb_model.specs.Flow.{Reads}
use Rattle.shrinking_sets.specs.Straight.{IsApart}
use Rattle.shrinking_sets.specs.Marks.{IsClosedAt}
use Rattle.shrinking_sets.proofs.Exchange.{apart_or}
use Rattle.shrinking_sets.proofs.Closed.{others_stay_closed}
use Rattle.kept_places.specs.Marks.{marked}
use Rattle.code_flow.specs.declared.way.Ways.{Ways}
use Rattle.liveness.specs.declared.graph.Graph.{Graph}
use Rattle.liveness.specs.Live.{set_at}
use Rattle.liveness.specs.Graph.{ways_in}
use Rattle.liveness.specs.declared.walk.Walk.{Walk}
use Rattle.liveness.specs.declared.window.Window.{Window}
use Rattle.liveness.specs.Ahead.{gained_ahead, IsAhead, IsAheadBut}
use Rattle.liveness.specs.Clears.{in_sets, Change, IsChangeBy}
use Rattle.liveness.specs.Grows.{IsGrowing}
use Rattle.liveness.specs.Walk.{start_at, IsFitWalk}
use Rattle.liveness.specs.Window.{AreAscending}
use Rattle.liveness.proofs.Windows.{ascends}

-- where the sets were exact, a place that wasn't touched lacks nothing: growing may begin with the touched places alone
pub growing_begins : (t : Change) (all : List (Option Ways)) (g : Graph) (old : Window) (k k' : Walk) (marks : List Bool) (n : ℕ) → IsChangeBy t all g old → IsFitWalk marks n k' → ((p : ℕ) → start_at k' p ≡ set_at k.before.sets.items p) → ((p : ℕ) → old.first ≤ p → p < old.end → one_of p k'.touched.places ≡ true)
    → ((p x : ℕ) → (has (set_at k.before.sets.items p) x ≡ true) ↔ Reads t.code x p) → ((p x : ℕ) → has (set_at k'.before.sets.items p) x ≡ true → Reads t.new x p) → IsGrowing t.new k'.before.sets.items k'.touched.places
growing_begins t all g old k k' marks n by fit start touched exact read = record { read = read; closed = closed }
  where
    below : (x p : ℕ) → in_sets k'.before.sets.items x p ≡ true → Reads t.code x p
    below x p h = (exact p x).0 (sym (ap (λ y. has y x) (start p)) ∙ fit.below p x h)

    kept : (x p : ℕ) → one_of p k'.touched.places ≡ false → Reads t.code x p → in_sets k'.before.sets.items x p ≡ true
    kept x p off r = sym (ap (λ b. has (if b then set_at k'.was.items p else set_at k'.before.sets.items p) x) off) ∙ ap (λ y. has y x) (start p) ∙ (exact p x).1 r

    apart : (p : ℕ) → one_of p k'.touched.places ≡ false → IsApart t.place (length t.old) p
    apart p off = elim (apart_or t.code t.new t.place t.old t.is by.exchange p) [
      | inl a ↦ a
      | inr r ↦ absurd (let m = touched p (omega (arith, r.1, by.first)) (omega (arith, r.1, r.2, by.end)) in cc)
    ]

    closed : (x p : ℕ) → one_of p k'.touched.places ≡ false → IsClosedAt t.new x (in_sets k'.before.sets.items x) p
    closed x p off = others_stay_closed t.code t.new t.place t.old t.is x (in_sets k'.before.sets.items x) by.exchange (below x) p (apart p off) (kept x p off)

-- with more places on the stack too
pub growing_with : (code : Code) (sets : List Items) (stack stack' : List ℕ) → ((q : ℕ) → one_of q stack ≡ true → one_of q stack' ≡ true) → IsGrowing code sets stack → IsGrowing code sets stack'
growing_with code sets stack stack' more g = record {
  read = g.read;
  closed = λ x p off. g.closed x p (elim (cases_Bool (one_of p stack)) [
    | inl h ↦ absurd (let m = more p h in cc)
    | inr h ↦ h
  ]);
}

-- what was read ahead for sure still is, but from the places that are due
pub ahead_but : (all all' : List (Option Ways)) (sets : List Items) (due : List Bool) → ((q : ℕ) → marked due q ≡ false → slice_get all' q ≡ slice_get all q) → IsAhead all sets → IsAheadBut all' sets due
ahead_but all all' sets due same a q x off h = ap (λ o. gained_ahead q (ways_in o) sets x) (same q off) ∙ a q x h

-- ---- places in order ----

-- all are between the bounds
pub all_between : (f e q : ℕ) (ps : List ℕ) → AreAscending f ps → ((k : ℕ) → k < length ps → get_or ps k 0 < e) → one_of q ps ≡ true → (f ≤ q) × (q < e)
all_between f e q [] a w h = absurd (cc)
all_between f e q (p ∷ ps) a w h = elim (or_cases (q == p) (one_of q ps) h) [
  | inl t ↦ let s : q ≡ p = eqb-true q p t in let l : p < e = w 0 (omega arith) in (omega (arith, a.0, s), omega (arith, l, s))
  | inr t ↦ let r = all_between (suc p) e q ps a.1 (λ k l. w (suc k) (omega (arith, l))) t in (omega (arith, a.0, r.0), r.1)
]

-- none is past the last
pub up_to_last : (k : ℕ) (ps : List ℕ) → AreAscending 0 ps → k < length ps → get_or ps k 0 < get_or ps (length ps - 1) 0 + 1
up_to_last k ps a l = elim (cases_lt k (length ps - 1)) [
  | inl b ↦ let h = ascends 0 k (length ps - 1) ps a b (omega arith) in omega arith
  | inr b ↦ let e : k ≡ length ps - 1 = omega arith in let h = ap (λ j. get_or ps j 0) e in omega arith
]
