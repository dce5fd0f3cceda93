-- What is read for sure, worked out anew.
use Rattle.std.proofs.Common.{◌≡◌, ◌≢◌, ℕ, suc, ◌+◌, ◌<◌, ◌≤◌, ◌&&◌, ◌||◌, not, nat_lt, Bool, true, false, List, [], ◌∷◌, length, Option, Some, None, if◌then◌else◌, refl, sym, ap, ◌∙◌, subst, ◌⊎◌, inl, inr, arith, eq-eqb}
use Rattle.std.specs.Prelude.{slice_get, slice_set}
use Rattle.std.proofs.lemmas.Bool.{cases_eq, cases_lt, le-ltb, ltb-true, or_left, or_right, or_cases}
use Rattle.thumb_instr.specs.declared.items.Items.{Items}
use Rattle.thumb_instr.specs.Items.{one_of, has}
use Rattle.thumb_model.specs.Listing.{Code}
use Rattle.thumb_model.specs.Flow.{Way as ModelWay, Leads, Onward, ToPlace, AnyPoint, Out as Outside, ways, Follows}
use Rattle.shrinking_sets.specs.Marks.{some_reads, Passes, IsForward}
use Rattle.kept_places.specs.Marks.{marked, IsGreatest}
use Rattle.kept_places.proofs.Ranks.{marked_within, marked_set, marked_other}
use Rattle.code_flow.specs.declared.way.Next.{Next}
use Rattle.code_flow.specs.declared.way.Next.TheVariants.{Place, Points, Out}
use Rattle.code_flow.specs.declared.way.Way.{Way}
use Rattle.code_flow.specs.declared.way.Ways.{Ways}
use Rattle.code_flow.specs.Flow.{way_list, next_of, AreWays}
use Rattle.liveness.specs.Live.{word_of, set_at}
use Rattle.liveness.specs.Ways.{AreAllWays}
use Rattle.liveness.specs.Graph.{leads_to, some_leads, ways_in, ways_at}
use Rattle.liveness.proofs.Weights.{get_here, get_else}
use Rattle.liveness.proofs.Paths.{has_zero}
use Rattle.liveness.specs.Ahead.{ahead, gained_ahead, IsAheadBut, IsAhead}

-- ---- a set that changes ----

-- it isn't seen from places behind it, nor from those that no way leads from
ahead_same : (p q : ℕ) (s : Items) (sets : List Items) (n : Next) → (q < p → leads_to p n ≡ true → ⊥) → ahead q n (slice_set sets p s) ≡ ahead q n sets
ahead_same p q s sets (Place r) d = elim (cases_eq r p) [
  | inr e ↦ ap (λ y. if nat_lt q r then y else 0) (ap word_of (get_else sets p r s e))
  | inl e ↦ elim (cases_lt q r) [
    | inl l ↦ absurd (d (omega arith) (eq-eqb r p e))
    | inr l ↦ ap (λ b. if b then set_at (slice_set sets p s) r else 0) (le-ltb q r l) ∙ sym (ap (λ b. if b then set_at sets r else 0) (le-ltb q r l))
  ]
]
ahead_same p q s sets Points d = refl
ahead_same p q s sets Out d = refl

pub gained_same : (p q : ℕ) (s : Items) (sets : List Items) (ws : List Way) (x : ℕ) → (q < p → some_leads p ws ≡ true → ⊥) → gained_ahead q ws (slice_set sets p s) x ≡ gained_ahead q ws sets x
gained_same p q s sets [] x d = refl
gained_same p q s sets (w ∷ ws) x d =
    ap (λ y. (has w.uses.bits x || (has y x && not (has w.writes.bits x))) || gained_ahead q ws (slice_set sets p s) x) (ahead_same p q s sets w.next (λ l h. d l (or_left _ _ h)))
    ∙ ap (λ b. (has w.uses.bits x || (has (ahead q w.next sets) x && not (has w.writes.bits x))) || b) (gained_same p q s sets ws x (λ l h. d l (or_right (leads_to p w.next) _ h)))

-- a set put in, where none but those that are due lead there from before
pub put_ahead : (all : List (Option Ways)) (sets : List Items) (p : ℕ) (s : Items) (due due' : List Bool) → p < length sets → ((x : ℕ) → has s.bits x ≡ true → gained_ahead p (ways_at all p) sets x ≡ true) → ((q : ℕ) → q ≢ p → marked due q ≡ true → marked due' q ≡ true)
    → ((q : ℕ) → q < p → some_leads p (ways_at all q) ≡ true → marked due' q ≡ true) → IsAheadBut all sets due → IsAheadBut all (slice_set sets p s) due'
put_ahead all sets p s due due' l here kept told a q x off h = elim (cases_eq q p) [
  | inl e ↦
      let at : has s.bits x ≡ true = sym (ap (λ y. has y x) (get_here sets p s l)) ∙ ap (λ y. has (set_at (slice_set sets p s) y) x) (sym e) ∙ h in
      subst (λ y. gained_ahead y (ways_at all y) (slice_set sets p s) x ≡ true) (sym e) (gained_same p p s sets (ways_at all p) x (λ b. absurd (omega arith)) ∙ here x at)
  | inr d ↦
      let was : has (set_at sets q) x ≡ true = sym (ap (λ (o : Option Items). has (word_of o) x) (get_else sets p q s d)) ∙ h in
      gained_same p q s sets (ways_at all q) x (λ b t. absurd (let m = told q b t in cc)) ∙ a q x (was_off (marked due q) refl d) was
]
  where
    was_off : (b : Bool) → marked due q ≡ b → q ≢ p → marked due q ≡ false
    was_off false e d = e
    was_off true e d = absurd (let m = kept q d e in cc)

-- one set more, before all that have items
pub more_ahead : (all : List (Option Ways)) (sets : List Items) (p : ℕ) (s : Items) → p < length sets → ((x : ℕ) → has s.bits x ≡ true → gained_ahead p (ways_at all p) sets x ≡ true) → ((q x : ℕ) → q ≤ p → has (set_at sets q) x ≡ false) → IsAhead all sets → IsAhead all (slice_set sets p s)
more_ahead all sets p s l here none a q x h = elim (cases_eq q p) [
  | inl e ↦
      let at : has s.bits x ≡ true = sym (ap (λ y. has y x) (get_here sets p s l)) ∙ ap (λ y. has (set_at (slice_set sets p s) y) x) (sym e) ∙ h in
      subst (λ y. gained_ahead y (ways_at all y) (slice_set sets p s) x ≡ true) (sym e) (gained_same p p s sets (ways_at all p) x (λ b. absurd (omega arith)) ∙ here x at)
  | inr d ↦
      let was : has (set_at sets q) x ≡ true = sym (ap (λ (o : Option Items). has (word_of o) x) (get_else sets p q s d)) ∙ h in
      gained_same p q s sets (ways_at all q) x (λ b t. absurd (let m = none q x (omega arith) in cc)) ∙ a q x was
]

pub none_more : (sets : List Items) (p : ℕ) (s : Items) → ((q x : ℕ) → q ≤ p → has (set_at sets q) x ≡ false) → (q x : ℕ) → q < p → has (set_at (slice_set sets p s) q) x ≡ false
none_more sets p s n q x l = ap (λ (o : Option Items). has (word_of o) x) (get_else sets p q s (λ e. omega arith)) ∙ n q x (omega arith)

-- ---- what it says of paths ----

ahead_way : (code : Code) (p : ℕ) (sets : List Items) (x : ℕ) (ms : List ModelWay) (es : List Way) → AreWays p ms es → gained_ahead p es sets x ≡ true → (some_reads ms x ≡ true) ⊎ ((k : ℕ) × (v : ModelWay) × (q : ℕ) × (slice_get ms k ≡ Some v) × (one_of x v.writes ≡ false) × Follows code p v.leads q × (p < q) × (has (set_at sets q) x ≡ true))
ahead_way code p sets x [] [] a h = absurd (cc)
ahead_way code p sets x [] (e ∷ es) a h = absurd a
ahead_way code p sets x (m ∷ ms) [] a h = absurd a
ahead_way code p sets x (m ∷ ms) (e ∷ es) a h = elim (or_cases (has e.uses.bits x || (has (ahead p e.next sets) x && not (has e.writes.bits x))) (gained_ahead p es sets x) h) [
  | inr t ↦ elim (ahead_way code p sets x ms es a.1 t) [
    | inl u ↦ inl (or_right (one_of x m.reads) (some_reads ms x) u)
    | inr r ↦ inr (suc r.0, r.1, r.2, r.3, r.4, r.5, r.6, r.7)
  ]
  | inl t ↦ elim (or_cases (has e.uses.bits x) (has (ahead p e.next sets) x && not (has e.writes.bits x)) t) [
    | inl u ↦ inl (or_left (one_of x m.reads) (some_reads ms x) (sym (a.0.uses x) ∙ u))
    | inr u ↦
        let r = by m.leads (subst (λ (n : Next). has (ahead p n sets) x ≡ true) a.0.leads (left (has (ahead p e.next sets) x) (has e.writes.bits x) u)) in
        inr (0, m, r.0, refl, sym (a.0.writes x) ∙ right (has (ahead p e.next sets) x) (has e.writes.bits x) u, r.1, r.2, r.3)
  ]
]
  where
    left : (a b : Bool) → (a && not b) ≡ true → a ≡ true
    left true b e = refl
    left false b e = absurd (cc)

    right : (a b : Bool) → (a && not b) ≡ true → b ≡ false
    right true true e = absurd (cc)
    right true false e = refl
    right false b e = absurd (cc)

    nothing : (x : ℕ) → has 0 x ≡ false
    nothing x = has_zero x

    word : (q : ℕ) → has (if nat_lt p q then set_at sets q else 0) x ≡ true → (p < q) × (has (set_at sets q) x ≡ true)
    word q h = go (nat_lt p q) refl h
      where
        go : (b : Bool) → nat_lt p q ≡ b → has (if b then set_at sets q else 0) x ≡ true → (p < q) × (has (set_at sets q) x ≡ true)
        go true e h = (ltb-true p q e, h)
        go false e h = absurd (let z = nothing x in cc)

    by : (l : Leads) → has (ahead p (next_of p l) sets) x ≡ true → (q : ℕ) × Follows code p l q × (p < q) × (has (set_at sets q) x ≡ true)
    by Onward h = let w = word (p + 1) h in (p + 1, refl, w.0, w.1)
    by (ToPlace r) h = let w = word r h in (r, refl, w.0, w.1)
    by AnyPoint h = absurd (let z = nothing x in cc)
    by Outside h = absurd (let z = nothing x in cc)

pub ahead_forward : (code : Code) (all : List (Option Ways)) (sets : List Items) → AreAllWays code all → IsAhead all sets → (x : ℕ) → IsForward code x (λ p. has (set_at sets p) x)
ahead_forward code all sets w a x p h = go (slice_get all p) refl (a p x h)
  where
    go : (o : Option (Option Ways)) → slice_get all p ≡ o → gained_ahead p (ways_in o) sets x ≡ true → (some_reads (ways code p) x ≡ true) ⊎ ((q : ℕ) × Passes code x p q × (p < q) × (has (set_at sets q) x ≡ true))
    go None e g = absurd (cc)
    go (Some ws) e g = elim (ahead_way code p sets x (ways code p) (way_list ws) (w p ws e) g) [
      | inl u ↦ inl u
      | inr r ↦ inr (r.2, record { number = r.0; found = r.1; is = r.3; unwritten = r.4; leads = r.5 }, r.6, r.7)
    ]

-- ---- places that are due ----

pub mark_kept : (ms : List Bool) (p q : ℕ) → p < length ms → marked ms q ≡ true → marked (slice_set ms p true) q ≡ true
mark_kept ms p q l h = elim (cases_eq q p) [
  | inl e ↦ ap (marked (slice_set ms p true)) e ∙ marked_set ms p true l
  | inr d ↦ marked_other ms p q true d ∙ h
]

pub mark_back : (ms : List Bool) (p q : ℕ) → marked (slice_set ms p true) q ≡ true → (marked ms q ≡ true) ⊎ (q ≡ p)
mark_back ms p q h = elim (cases_eq q p) [
  | inl e ↦ inr e
  | inr d ↦ inl (sym (marked_other ms p q true d) ∙ h)
]

-- what is left is less than the greatest
pub greatest_less : (ms : List Bool) (p q : ℕ) → IsGreatest ms p → marked (slice_set ms p false) q ≡ true → q < p
greatest_less ms p q g h = elim (cases_lt q p) [
  | inl l ↦ l
  | inr l ↦ elim (cases_eq q p) [
    | inl e ↦ absurd (let t : marked (slice_set ms p false) q ≡ false = ap (marked (slice_set ms p false)) e ∙ marked_set ms p false (marked_within ms p g.here) in cc)
    | inr d ↦ absurd (let n = g.greatest q (omega (arith, l, d)) in let m = marked_other ms p q false d in cc)
  ]
]
