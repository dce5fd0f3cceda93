-- The walk that clears preserves the invariant of `shrinking_sets` on the marks of each item.
use Rattle.std.proofs.Common.{◌≡◌, ◌≢◌, ℕ, zero, suc, ◌+◌, ◌<◌, ◌≤◌, ◌==◌, ◌&&◌, ◌||◌, not, Bool, true, false, List, [], ◌∷◌, ◌++◌, length, Option, Some, refl, sym, ap, ◌∙◌, subst, ◌⊎◌, inl, inr, arith, ◌↔◌, eqb-true}
use Rattle.std.specs.Prelude.{slice_get}
use Rattle.std.proofs.lemmas.Bool.{or_cases, not-true, and_parts, and_from, not_from_false}
use Rattle.thumb_instr.specs.declared.items.Items.{Items}
use Rattle.thumb_instr.specs.Items.{one_of, has}
use Rattle.thumb_model.specs.Listing.{Code, IsPoint}
use Rattle.thumb_model.specs.Flow.{Way as ModelWay, AnyPoint, ways, Reads}
use Rattle.shrinking_sets.specs.Straight.{reads_first, writes_in, IsApart, IsUnlabelled}
use Rattle.shrinking_sets.specs.Marks.{some_reads, Passes, is_lost}
use Rattle.shrinking_sets.proofs.Exchange.{apart_or, ways_same, point_stays, point_was}
use Rattle.shrinking_sets.proofs.Steps.{steps_by_points}
use Rattle.shrinking_sets.proofs.Walk.{clearing_begins, goes_on, clearing_ends}
use Rattle.code_flow.specs.declared.way.Ways.{Ways}
use Rattle.code_flow.specs.Flow.{AreWays}
use Rattle.liveness.specs.declared.graph.Graph.{Graph}
use Rattle.liveness.specs.Live.{set_at}
use Rattle.kept_places.specs.Marks.{marked}
use Rattle.code_flow.specs.Points.{HasPoints}
use Rattle.code_flow.proofs.Marking.{marked_is, marked_there}
use Rattle.liveness.specs.Graph.{ways_at}
use Rattle.liveness.specs.declared.counted.PointSets.{PointSets}
use Rattle.liveness.specs.declared.walk.Walk.{Walk}
use Rattle.liveness.specs.declared.window.Window.{Window}
use Rattle.liveness.specs.Ahead.{IsAhead}
use Rattle.liveness.specs.Counted.{AreCounted}
use Rattle.liveness.specs.Passing.{Keeps}
use Rattle.liveness.specs.Walk.{start_at, cleared, ClearsOn}
use Rattle.liveness.specs.Within.{IsWired}
use Rattle.liveness.specs.Clears.{ReturnsClear, ClearsStep, lost_at, Begins, Change, IsChangeBy, in_sets, pending, IsClearingAt}
use Rattle.liveness.proofs.Stacks.{one_more}
use Rattle.liveness.proofs.Counts.{has_point}
use Rattle.liveness.proofs.Passings.{uses_read, ways_there, passes_by, passes_any_by}
use Rattle.liveness.proofs.Aheads.{ahead_forward}

-- ---- code points ----

pub point_marked : (code : Code) (marks : List Bool) (q : ℕ) → HasPoints code marks → q < length marks → IsPoint code q → marked marks q ≡ true
point_marked code marks q h l i = go (slice_get marks q) refl (there marks q l)
  where
    there : (ms : List Bool) (q : ℕ) → q < length ms → (b : Bool) × (slice_get ms q ≡ Some b)
    there [] q l = absurd (omega arith)
    there (m ∷ ms) zero l = (m, refl)
    there (m ∷ ms) (suc q) l = there ms q (omega arith)

    go : (o : Option Bool) → slice_get marks q ≡ o → (b : Bool) × (slice_get marks q ≡ Some b) → marked marks q ≡ true
    go o e t = marked_is marks q t.0 t.1 ∙ (h q t.0 t.1).1 i

pub marked_point : (code : Code) (marks : List Bool) (q : ℕ) → HasPoints code marks → marked marks q ≡ true → IsPoint code q
marked_point code marks q h m = (h q true (marked_there marks q m)).0 refl

-- ---- one step ----

module _ (t : Change) (all : List (Option Ways)) (g : Graph) (forward : PointSets) (window : Window) (by : IsChangeBy t all g window) (wired : IsWired all g.callers) where
  kept_by : (p x : ℕ) → IsApart t.place (length t.old) p → Keeps all forward.sets.items p x → (some_reads (ways t.code p) x ≡ true) ⊎ (in_sets forward.sets.items x p ≡ true)
  kept_by p x a (inl u) = inl (ap (λ ws. some_reads ws x) (sym (ways_same t.code t.new t.place t.old t.is by.exchange p a)) ∙ uses_read t.new all by.graph.ways p x u)
  kept_by p x a (inr f) = inr f

  apart_from : (p : ℕ) → IsApart t.place (length t.old) p → (p < window.first) ⊎ (window.end ≤ p)
  apart_from p (inl l) = inl (omega (arith, l, by.first))
  apart_from p (inr l) = inr (omega (arith, l, by.end))

  module _ (counted : AreCounted g.is_point.items forward) (q : ℕ) (inside : q < length all) (k k₁ k' : Walk) (gone gone' : Items) (before : k₁.before ≡ k.before) (start : (p : ℕ) → start_at k₁ p ≡ start_at k p)
      (stack : k.stack.places ≡ k₁.stack.places ++ q ∷ []) (below : (p x : ℕ) → has (set_at k.before.sets.items p) x ≡ true → has (start_at k p) x ≡ true) (on : ClearsOn k₁ k') (step : ClearsStep all g forward window q k₁ gone k' gone')
      (returns : (x : ℕ) → has gone'.bits x ≡ true → ReturnsClear all forward.sets.items k' x) (x : ℕ) where
    here : (p : ℕ) → has (set_at k.before.sets.items p) x ≡ has (set_at k₁.before.sets.items p) x
    here p = ap (λ (s : PointSets). has (set_at s.sets.items p) x) (sym before)

    began : (p : ℕ) → has (start_at k' p) x ≡ has (start_at k p) x
    began p = ap (λ y. has y x) (on.start p ∙ start p)

    fewer : (p : ℕ) → has (set_at k'.before.sets.items p) x ≡ true → has (set_at k.before.sets.items p) x ≡ true
    fewer p h = here p ∙ on.fewer p x h

    still : (p : ℕ) → has (set_at k.before.sets.items p) x ≡ false → has (set_at k'.before.sets.items p) x ≡ false
    still p n = go (has (set_at k'.before.sets.items p) x) refl
      where
        go : (b : Bool) → has (set_at k'.before.sets.items p) x ≡ b → has (set_at k'.before.sets.items p) x ≡ false
        go false e = e
        go true e = absurd (let f = fewer p e in cc)

    pushed : (p : ℕ) → in_sets k.before.sets.items x p ≡ true → in_sets k'.before.sets.items x p ≡ false → pending k' x p ≡ true
    pushed p h n = and_from _ _ (on.pushed p x (sym (here p) ∙ h) n) (and_from _ _ (began p ∙ below p x h) (not_from_false _ n))

    stays : (p : ℕ) → p ≢ q → pending k x p ≡ true → pending k' x p ≡ true
    stays p d h =
        let s = and_parts (one_of p k.stack.places) _ h in
        let c = and_parts (has (start_at k p) x) _ s.1 in
        and_from _ _ (on.kept p (other (or_cases (one_of p k₁.stack.places) (p == q) (sym (one_more p q k₁.stack.places) ∙ sym (ap (one_of p) stack) ∙ s.0)))) (and_from _ _ (began p ∙ c.0) (not_from_false _ (still p (not-true _ c.1))))
      where
        other : (one_of p k₁.stack.places ≡ true) ⊎ ((p == q) ≡ true) → one_of p k₁.stack.places ≡ true
        other (inl o) = o
        other (inr e) = absurd (d (eqb-true p q e))

    taken : pending k x q ≡ true → cleared k₁ q x ≡ true
    taken h =
        let s = and_parts (one_of q k.stack.places) _ h in
        let c = and_parts (has (start_at k q) x) _ s.1 in
        and_from _ _ (ap (λ y. has y x) (start q) ∙ c.0) (ap not (sym (here q)) ∙ c.1)

    ways_out : (p r : ℕ) → IsApart t.place (length t.old) p → Passes t.code x p r → AreWays p (ways t.code p) (ways_at all p)
    ways_out p r out a =
        let same = ways_same t.code t.new t.place t.old t.is by.exchange p out in
        subst (λ (ms : List ModelWay). AreWays p ms (ways_at all p)) same (ways_there t.new all by.graph.ways by.graph.as_many p a.number a.found (ap (λ (ms : List ModelWay). slice_get ms a.number) same ∙ a.is))

    led : pending k x q ≡ true → (p : ℕ) → IsApart t.place (length t.old) p → (a : Passes t.code x p q) → a.found.leads ≢ AnyPoint → in_sets k'.before.sets.items x p ≡ true → (some_reads (ways t.code p) x ≡ true) ⊎ (in_sets forward.sets.items x p ≡ true)
    led h p out a d c = kept_by p x out (step.before wired p x (apart_from p out) (taken h) (passes_by t.code x p q (ways_at all p) (ways_out p q out a) a d) c)

    through : pending k x q ≡ true → q ≡ t.place + length t.old → writes_in t.old x ≡ false → in_sets k'.before.sets.items x t.place ≡ true → (reads_first t.old x ≡ true) ⊎ (in_sets forward.sets.items x t.place ≡ true)
    through h e n c = go (step.through x (e ∙ sym by.end) (taken h) (by.writes x ∙ n) (ap (λ y. has (set_at k'.before.sets.items y) x) by.first ∙ c))
      where
        go : (has window.reads.bits x ≡ true) ⊎ (has (set_at forward.sets.items window.first) x ≡ true) → (reads_first t.old x ≡ true) ⊎ (in_sets forward.sets.items x t.place ≡ true)
        go (inl r) = inl (sym (by.reads x) ∙ r)
        go (inr f) = inr (ap (λ y. has (set_at forward.sets.items y) x) (sym by.first) ∙ f)

    point : pending k x q ≡ true → IsPoint t.code q → (has gone'.bits x ≡ true) ⊎ ((r : ℕ) × IsPoint t.code r × (in_sets forward.sets.items x r ≡ true))
    point h i = go (step.point x (point_marked t.new g.is_point.items q by.graph.points (omega (arith, inside, by.graph.marks)) (point_stays t.code t.new t.place t.old t.is by.exchange q i)) (taken h))
      where
        go : (has gone'.bits x ≡ true) ⊎ (has forward.points.bits x ≡ true) → (has gone'.bits x ≡ true) ⊎ ((r : ℕ) × IsPoint t.code r × (in_sets forward.sets.items x r ≡ true))
        go (inl e) = inl e
        go (inr e) = let r = has_point g.is_point.items forward counted x e in inr (r.0, point_was t.code t.new t.place t.old t.is by.exchange r.0 (marked_point t.new g.is_point.items r.0 by.graph.points r.1), r.2)

    any : has gone'.bits x ≡ true → (p r : ℕ) → IsApart t.place (length t.old) p → (a : Passes t.code x p r) → a.found.leads ≡ AnyPoint → in_sets k'.before.sets.items x p ≡ true → (some_reads (ways t.code p) x ≡ true) ⊎ (in_sets forward.sets.items x p ≡ true)
    any e p r out a l c = kept_by p x out (returns x e p (passes_any_by t.code x p r (ways_at all p) (ways_out p r out a) a l) c)

    pub step_on : IsClearingAt t forward.sets.items k x → IsClearingAt t forward.sets.items k' x
    step_on c =
        goes_on t.code t.place t.old t.is x (in_sets forward.sets.items x) (in_sets k.before.sets.items x) (pending k x) q (in_sets k'.before.sets.items x) (pending k' x) c
        (steps_by_points t.code t.place t.old x (in_sets forward.sets.items x) (in_sets k.before.sets.items x) (pending k x) q (in_sets k'.before.sets.items x) (pending k' x) (has gone'.bits x) (record {
          fewer = fewer;
          pushed = pushed;
          stays = stays;
          before = led;
          window = through;
          point = point;
          returns = any;
        }))

-- ---- where it begins and ends ----

module _ (t : Change) (all : List (Option Ways)) (g : Graph) (forward : List Items) (old fresh : Window) (by : IsChangeBy t all g old) (unlabelled : IsUnlabelled t.code t.place (length t.old)) (some : 0 < length t.old)
    (reads : (x : ℕ) → has fresh.reads.bits x ≡ reads_first t.is x) (writes : (x : ℕ) → has fresh.writes.bits x ≡ writes_in t.is x) (k k' : Walk) (b : Begins old fresh forward k k') (exact : (p x : ℕ) → (has (set_at k.before.sets.items p) x ≡ true) ↔ Reads t.code x p) (x : ℕ) where
  outside : (p : ℕ) → IsApart t.place (length t.old) p → set_at k'.before.sets.items p ≡ set_at k.before.sets.items p
  outside p (inl l) = b.apart p (inl (omega (arith, l, by.first)))
  outside p (inr l) = b.apart p (inr (omega (arith, l, by.end)))

  within : (j : ℕ) → 0 < j → j < length t.old → in_sets k'.before.sets.items x (t.place + j) ≡ false
  within j some l = b.inside (t.place + j) x (omega (arith, by.first, some)) (omega (arith, by.end, l))

  first : in_sets k'.before.sets.items x t.place ≡ (in_sets k.before.sets.items x t.place && not (lost_at old fresh forward x))
  first = ap (λ y. has (set_at k'.before.sets.items y) x) (sym by.first) ∙ b.first x ∙ ap (λ y. has (set_at k.before.sets.items y) x && not (lost_at old fresh forward x)) by.first

  below : (p : ℕ) → in_sets k'.before.sets.items x p ≡ true → Reads t.code x p
  below p h = elim (apart_or t.code t.new t.place t.old t.is by.exchange p) [
    | inl a ↦ (exact p x).0 (ap (λ y. has y x) (sym (outside p a)) ∙ h)
    | inr r ↦ go r.0 r.1 r.2
  ]
    where
      go : (j : ℕ) → p ≡ t.place + j → j < length t.old → Reads t.code x p
      go zero e l =
          let at : p ≡ t.place = omega (arith, e) in
          (exact p x).0 (ap (in_sets k.before.sets.items x) at ∙ (and_parts _ _ (sym first ∙ ap (in_sets k'.before.sets.items x) (sym at) ∙ h)).0)
      go (suc j) e l = absurd (let n = within (suc j) (omega arith) l in let m : in_sets k'.before.sets.items x (t.place + suc j) ≡ true = ap (in_sets k'.before.sets.items x) (sym e) ∙ h in cc)

  is_lost_there : lost_at old fresh forward x ≡ is_lost t.old t.is (in_sets forward x t.place) x
  is_lost_there =
      ap (λ y. ((has old.reads.bits x || (has fresh.writes.bits x && not (has old.writes.bits x))) && not (has fresh.reads.bits x)) && not (has (set_at forward y) x)) by.first
      ∙ ap (λ a. ((a || (has fresh.writes.bits x && not (has old.writes.bits x))) && not (has fresh.reads.bits x)) && not (in_sets forward x t.place)) (by.reads x)
      ∙ ap (λ a. ((reads_first t.old x || (a && not (has old.writes.bits x))) && not (has fresh.reads.bits x)) && not (in_sets forward x t.place)) (writes x)
      ∙ ap (λ a. ((reads_first t.old x || (writes_in t.is x && not a)) && not (has fresh.reads.bits x)) && not (in_sets forward x t.place)) (by.writes x)
      ∙ ap (λ a. ((reads_first t.old x || (writes_in t.is x && not (writes_in t.old x))) && not a) && not (in_sets forward x t.place)) (reads x)
      ∙ turned (reads_first t.old x || (writes_in t.is x && not (writes_in t.old x))) (reads_first t.is x) (in_sets forward x t.place)
    where
      turned : (a r f : Bool) → ((a && not r) && not f) ≡ (not r && (a && not f))
      turned true true f = refl
      turned true false f = refl
      turned false true f = refl
      turned false false f = refl

  pub begun : IsClearingAt t forward k' x
  begun = clearing_begins t.code t.new t.place t.old t.is x (in_sets forward x) (in_sets k'.before.sets.items x) (pending k' x) by.exchange unlabelled some (record {
    below = below;
    others = λ p a r. ap (λ y. has y x) (outside p a) ∙ (exact p x).1 r;
    inside = within;
    lost = λ h. first ∙ gone (in_sets k.before.sets.items x t.place) (lost_at old fresh forward x) (is_lost_there ∙ h);
    first = λ r n.
        let had : has (set_at k.before.sets.items t.place) x ≡ true = (exact t.place x).1 r in
        and_from _ _ (ap (λ y. one_of y k'.stack.places) (sym by.first) ∙ b.pushed x (ap (λ y. has (set_at k.before.sets.items y) x) by.first ∙ had) (ap (λ y. has (set_at k'.before.sets.items y) x) by.first ∙ n)) (and_from _ _ (ap (λ y. has y x) (b.start t.place) ∙ had) (not_from_false _ n));
  })
    where
      gone : (a l : Bool) → l ≡ true → (a && not l) ≡ false
      gone true true e = refl
      gone false l e = refl
      gone true false e = absurd (cc)

pub ended : (t : Change) (all : List (Option Ways)) (g : Graph) (forward : List Items) (window : Window) → IsChangeBy t all g window → IsAhead all forward → (k : Walk) → k.stack.places ≡ [] → (x : ℕ) → IsClearingAt t forward k x → (p : ℕ) → has (set_at k.before.sets.items p) x ≡ true → Reads t.new x p
ended t all g forward window by ahead k none x c p h =
    clearing_ends t.code t.new t.place t.old t.is x (in_sets forward x) (in_sets k.before.sets.items x) (pending k x) by.exchange (ahead_forward t.new all forward by.graph.ways ahead x) c
    (λ q. ap (λ (s : List ℕ). one_of q s && cleared k q x) none) p h
