-- Visits that let sets grow preserve the invariant of growing.
use Rattle.std.proofs.Common.{◌≡◌, ◌≢◌, ℕ, ◌+◌, ◌<◌, ◌==◌, ◌&&◌, ◌||◌, not, true, false, List, [], ◌∷◌, ◌++◌, length, length-append, Option, refl, sym, ap, ◌∙◌, subst, ◌⊎◌, inl, inr, arith, ◌↔◌, eqb-true}
use Rattle.std.specs.Prelude.{slice_set}
use Rattle.std.proofs.lemmas.Bool.{cases_eq, cases_Bool, or_cases, or_left, or_right}
use Rattle.thumb_instr.specs.declared.items.Items.{Items}
use Rattle.thumb_instr.specs.Items.{one_of, has}
use Rattle.thumb_model.specs.Listing.{Code, IsPoint}
use Rattle.thumb_model.specs.Flow.{Way as ModelWay, Leads, AnyPoint, ways, Follows, Reads}
use Rattle.shrinking_sets.specs.Marks.{some_reads, Passes}
use Rattle.shrinking_sets.proofs.Points.{to_points}
use Rattle.shrinking_sets.proofs.Growing.{visits_keep_closed, closed_have_all}
use Rattle.code_flow.specs.declared.way.Way.{Way}
use Rattle.code_flow.specs.declared.way.Ways.{Ways}
use Rattle.code_flow.specs.Flow.{way_list, AreWays}
use Rattle.liveness.specs.declared.graph.Graph.{Graph}
use Rattle.liveness.specs.Live.{set_at}
use Rattle.liveness.specs.Passes.{there, gained, weight_below, total, AreSound}
use Rattle.liveness.specs.Graph.{some_leads, some_return, ways_in, ways_at, JumpsTo, AreCallers, AreReturns, IsGraph}
use Rattle.liveness.proofs.Weights.{grows, total_set}
use Rattle.liveness.proofs.Paths.{way_gains, gained_reads, comes_from}
use Rattle.liveness.specs.declared.counted.PointSets.{PointSets}
use Rattle.liveness.specs.Stack.{Stack}
use Rattle.liveness.specs.Counted.{AreCounted}
use Rattle.liveness.specs.Clears.{in_sets}
use Rattle.liveness.specs.Grows.{GrowsAt, IsGrowing}
use Rattle.liveness.specs.Within.{IsWired}
use Rattle.liveness.proofs.Stacks.{one_more}
use Rattle.liveness.proofs.Counts.{point_has, has_point}
use Rattle.liveness.proofs.Passings.{passes_there, passes_any, passes_leads, passes_return}
use Rattle.liveness.proofs.Walks.{put_here, put_else}
use Rattle.liveness.proofs.Clearings.{point_marked, marked_point}
use Rattle.liveness.proofs.KeptSets.{set_within as has_within}
use Rattle.thumb_model.proofs.Lists.{present_at as found}

-- what a place's ways read is gained
gains_read : (p x : ℕ) (b : List Items) (w : ℕ) (ms : List ModelWay) (es : List Way) → AreWays p ms es → some_reads ms x ≡ true → gained es b w x ≡ true
gains_read p x b w [] es a h = absurd (cc)
gains_read p x b w (m ∷ ms) [] a h = absurd a
gains_read p x b w (m ∷ ms) (e ∷ es) a h = elim (or_cases _ _ h) [
  | inl u ↦ or_left _ _ (or_left _ _ (a.0.uses x ∙ u))
  | inr u ↦ or_right (has e.uses.bits x || (has (there e.next b w) x && not (has e.writes.bits x))) _ (gains_read p x b w ms es a.1 u)
]

-- the sets are sound
sound : (code : Code) (all : List (Option Ways)) (g : Graph) → IsGraph code all g → (s : PointSets) → length s.sets.items ≡ length all → AreCounted g.is_point.items s → ((p x : ℕ) → has (set_at s.sets.items p) x ≡ true → Reads code x p) → AreSound code s.sets.items s.points.bits
sound code all g graph s many counted read = record {
  read = read;
  point_read = λ x h. let r = has_point g.is_point.items s counted x h in (r.0, marked_point code g.is_point.items r.0 graph.points r.1, read r.0 x r.2);
  point_has = λ q x i h. point_has g.is_point.items s counted q x (point_marked code g.is_point.items q graph.points (let l = has_within s.sets.items q x h in let m = graph.marks in omega (arith, l, m, many)) i) h;
}

module _ (code : Code) (all : List (Option Ways)) (g : Graph) (graph : IsGraph code all g) (wired : IsWired all g.callers) (p : ℕ) (inside : p < length all) (s : PointSets) (k k₁ : Stack) (s' : PointSets) (k' : Stack) (many : length s.sets.items ≡ length all) (many' : length s'.sets.items ≡ length all)
    (counted : AreCounted g.is_point.items s) (counted' : AreCounted g.is_point.items s') (v : GrowsAt all g p s k₁ s' k') (stack : k.places ≡ k₁.places ++ p ∷ []) (growing : IsGrowing code s.sets.items k.places) where
  ways_here : AreWays p (ways code p) (ways_at all p)
  ways_here = let e = found all p inside in subst (λ (o : Option (Option Ways)). AreWays p (ways code p) (ways_in o)) (sym e.1) (graph.ways p e.0 e.1)

  are_sound : AreSound code s.sets.items s.points.bits
  are_sound = sound code all g graph s many counted growing.read

  read : (q x : ℕ) → has (set_at s'.sets.items q) x ≡ true → Reads code x q
  read q x h = elim (cases_eq q p) [
    | inr d ↦ growing.read q x (ap (λ y. has y x) (sym (v.elsewhere q d)) ∙ h)
    | inl e ↦ subst (Reads code x) (sym e) (elim (or_cases _ _ (sym (v.here x) ∙ ap (λ y. has (set_at s'.sets.items y) x) (sym e) ∙ h)) [
      | inl o ↦ growing.read p x o
      | inr r ↦ gained_reads code p s.sets.items s.points.bits x (ways_at all p) are_sound ways_here r
    ])
  ]

  more : (q x : ℕ) → in_sets s.sets.items x q ≡ true → in_sets s'.sets.items x q ≡ true
  more q x h = elim (cases_eq q p) [
    | inr d ↦ ap (λ y. has y x) (v.elsewhere q d) ∙ h
    | inl e ↦ ap (λ y. has (set_at s'.sets.items y) x) e ∙ v.here x ∙ or_left _ _ (ap (λ y. has (set_at s.sets.items y) x) (sym e) ∙ h)
  ]

  stays : (q : ℕ) → q ≢ p → one_of q k.places ≡ true → one_of q k'.places ≡ true
  stays q d h = go (or_cases (one_of q k₁.places) (q == p) (sym (one_more q p k₁.places) ∙ sym (ap (one_of q) stack) ∙ h))
    where
      go : (one_of q k₁.places ≡ true) ⊎ ((q == p) ≡ true) → one_of q k'.places ≡ true
      go (inl o) = v.kept q o
      go (inr e) = absurd (d (eqb-true q p e))

  gains : (x : ℕ) → gained (ways_at all p) s.sets.items s.points.bits x ≡ true → in_sets s'.sets.items x p ≡ true
  gains x h = v.here x ∙ or_right (has (set_at s.sets.items p) x) _ h

  passes : (x q : ℕ) → Passes code x p q → in_sets s.sets.items x q ≡ true → in_sets s'.sets.items x p ≡ true
  passes x q a h = gains x (way_gains p s.sets.items s.points.bits x (ways code p) (ways_at all p) ways_here a.number a.found a.is (inr (a.unwritten, comes_from code s.sets.items s.points.bits are_sound p x q a.found.leads a.leads h)))

  -- a predecessor of a place that gained the item has it, or is on the stack
  led : (x q : ℕ) → (a : Passes code x q p) → a.found.leads ≢ AnyPoint → in_sets s.sets.items x p ≡ false → in_sets s'.sets.items x p ≡ true → one_of q k'.places ≡ true
  led x q a d n h = elim (v.leading wired q (passes_leads p x (ways_at all q) (passes_there code all graph.ways graph.as_many x q p a d))) [
    | inr o ↦ o
    | inl same ↦ absurd (let t : in_sets s'.sets.items x p ≡ in_sets s.sets.items x p = ap (λ y. has y x) same in cc)
  ]

  -- a return has it, or is on the stack
  returned : (x q : ℕ) → (a : Passes code x q p) → a.found.leads ≡ AnyPoint → in_sets s'.sets.items x p ≡ true → (one_of q k'.places ≡ true) ⊎ (in_sets s'.sets.items x q ≡ true)
  returned x q a e h = elim (v.returns graph.returns q (passes_return x (ways_at all q) (passes_any code all graph.ways graph.as_many x q p a e))) [
    | inr o ↦ inl o
    | inl same ↦
        let i : IsPoint code p = subst (λ (l : Leads). Follows code q l p) e a.leads in
        let m = graph.marks in
        let w : has s.points.bits x ≡ true = ap (λ y. has y x) (sym same) ∙ point_has g.is_point.items s' counted' p x (point_marked code g.is_point.items p graph.points (omega (arith, inside, m)) i) h in
        let r = has_point g.is_point.items s counted x w in
        let b : Passes code x q r.0 = record { number = a.number; found = a.found; is = a.is; unwritten = a.unwritten; leads = subst (λ (l : Leads). Follows code q l r.0) (sym e) (marked_point code g.is_point.items r.0 graph.points r.1) } in
        elim (cases_eq q p) [
          | inl s ↦ inr (ap (in_sets s'.sets.items x) s ∙ h)
          | inr d ↦ elim (cases_Bool (one_of q k.places)) [
            | inl o ↦ inl (stays q d o)
            | inr o ↦ inr (more q x ((growing.closed x q o).passes r.0 b r.2))
          ]
        ]
  ]

  pushed : (x q : ℕ) → Passes code x q p → in_sets s.sets.items x p ≡ false → in_sets s'.sets.items x p ≡ true → (one_of q k'.places ≡ true) ⊎ (in_sets s'.sets.items x q ≡ true)
  pushed x q a n h = elim (to_points a.found.leads) [
    | inr d ↦ inl (led x q a d n h)
    | inl e ↦ returned x q a e h
  ]

  pub grown_on : IsGrowing code s'.sets.items k'.places
  grown_on = record {
    read = read;
    closed = λ x q off. visits_keep_closed code x (in_sets s.sets.items x) (λ r. one_of r k.places) p (in_sets s'.sets.items x) (λ r. one_of r k'.places) (growing.closed x) (record {
      more = more p x;
      elsewhere = λ r d. ap (λ y. has y x) (v.elsewhere r d);
      reads = λ h. gains x (gains_read p x s.sets.items s.points.bits (ways code p) (ways_at all p) ways_here h);
      passes = λ r a h. passes x r a h;
      stays = stays;
      pushed = λ r a n h. pushed x r a n h;
    }) q off;
  }

-- where no place is on the stack, nothing is lacking
pub all_grown : (code : Code) (sets : List Items) → IsGrowing code sets [] → (p x : ℕ) → (has (set_at sets p) x ≡ true) ↔ Reads code x p
all_grown code sets g p x = (g.read p x, λ r. closed_have_all code x (in_sets sets x) (λ q. g.closed x q refl) p r)

-- a visit takes nothing
pub grows_more : (all : List (Option Ways)) (g : Graph) (p : ℕ) (s : PointSets) (k : Stack) (s' : PointSets) (k' : Stack) → GrowsAt all g p s k s' k' → (q x : ℕ) → has (set_at s.sets.items q) x ≡ true → has (set_at s'.sets.items q) x ≡ true
grows_more all g p s k s' k' v q x h = elim (cases_eq q p) [
  | inr d ↦ ap (λ y. has y x) (v.elsewhere q d) ∙ h
  | inl e ↦ ap (λ y. has (set_at s'.sets.items y) x) e ∙ v.here x ∙ or_left _ _ (ap (λ y. has (set_at s.sets.items y) x) (sym e) ∙ h)
]

pub one_less : (ps qs : List ℕ) (p : ℕ) → ps ≡ qs ++ p ∷ [] → length qs + 1 ≡ length ps
one_less ps qs p e = omega (arith, ap length e, length-append qs (p ∷ []))

-- ---- one visit ----

module _ (all : List (Option Ways)) (g : Graph) (p : ℕ) (s : PointSets) (k : Stack) (old new seen : Items) (e : Option Ways) (at : set_at s.sets.items p ≡ old.bits) (is : (x : ℕ) → has new.bits x ≡ (has old.bits x || has seen.bits x)) (look : (x : ℕ) → has seen.bits x ≡ gained (way_list e) s.sets.items s.points.bits x) (here : ways_at all p ≡ way_list e) where
  gain : (x : ℕ) → has new.bits x ≡ (has (set_at s.sets.items p) x || gained (ways_at all p) s.sets.items s.points.bits x)
  gain x = is x ∙ ap (λ b. has old.bits x || b) (look x ∙ ap (λ (ws : List Way). gained ws s.sets.items s.points.bits x) (sym here)) ∙ ap (λ y. has y x || gained (ways_at all p) s.sets.items s.points.bits x) (sym at)

  -- nothing was gained
  pub grows_same : new.bits ≡ old.bits → GrowsAt all g p s k s k
  grows_same same = record {
    here = λ x. ap (λ y. has y x) (at ∙ sym same) ∙ gain x;
    elsewhere = λ q d. refl;
    kept = λ q h. h;
    leading = λ w q h. inl refl;
    returns = λ r q h. inl refl;
    advances = inr (refl, refl);
  }

  -- the set grew, and its predecessors are on the stack
  pub grows_put : (s' : PointSets) (k' : Stack) → p < length s.sets.items → s'.sets.items ≡ slice_set s.sets.items p new → new.bits ≢ old.bits → ((q : ℕ) → one_of q k.places ≡ true → one_of q k'.places ≡ true) → (IsWired all g.callers → (q : ℕ) → some_leads p (ways_at all q) ≡ true → one_of q k'.places ≡ true)
      → (AreReturns all (length all) g.returns.items → (q : ℕ) → some_return (ways_at all q) ≡ true → (s'.points.bits ≡ s.points.bits) ⊎ (one_of q k'.places ≡ true)) → GrowsAt all g p s k s' k'
  grows_put s' k' inside sets changed kept leading returns = record {
    here = λ x. ap (λ y. has y x) (put_here s.sets.items s'.sets.items p new inside sets) ∙ gain x;
    elsewhere = λ q d. put_else s.sets.items s'.sets.items p new sets q d;
    kept = kept;
    leading = λ w q h. inr (leading w q h);
    returns = returns;
    advances = inl (omega (arith, grows old.bits new.bits old.is_small new.is_small (λ x h. is x ∙ or_left _ _ h) changed, total_set s.sets.items p new inside, ap (weight_below 19) at, ap total sets));
  }

-- a way that leads to a place comes from right before it or is a jump: both were pushed
pub both_told : (all : List (Option Ways)) (g : Graph) (p : ℕ) (one two three : List ℕ) → ((q : ℕ) → q + 1 ≡ p → some_leads p (ways_at all q) ≡ true → one_of q one ≡ true) → ((q : ℕ) → one_of q one ≡ true → one_of q two ≡ true) → (AreCallers all (length all) g.callers → (q : ℕ) → JumpsTo all p q → one_of q two ≡ true) → ((q : ℕ) → one_of q two ≡ true → one_of q three ≡ true)
    → IsWired all g.callers → (q : ℕ) → some_leads p (ways_at all q) ≡ true → one_of q three ≡ true
both_told all g p one two three before on jumps kept w q h = elim (w.told p q h) [
  | inl e ↦ kept q (on q (before q e h))
  | inr j ↦ kept q (jumps w.callers q j)
]
