-- A visit preserves soundness, and closes its place.
use Rattle.std.proofs.Common.{◌≡◌, ◌≢◌, ℕ, ◌<◌, ◌&&◌, ◌||◌, not, Bool, true, false, List, [], ◌∷◌, length, Option, Some, refl, sym, ap, ◌∙◌, subst, ◌⊎◌, inl, inr, arith, ◌↔◌, eq-eqb}
use Rattle.std.specs.Prelude.{slice_get, slice_set}
use Rattle.std.proofs.lemmas.Bool.{cases_eq, or_cases}
use Rattle.thumb_instr.specs.declared.items.Items.{Items}
use Rattle.thumb_instr.specs.Items.{one_of, has}
use Rattle.thumb_model.specs.Listing.{Code, IsPoint}
use Rattle.thumb_model.specs.Flow.{ways, Reads}
use Rattle.code_flow.specs.declared.way.Next.{Next}
use Rattle.code_flow.specs.declared.way.Next.TheVariants.{Place, Points, Out}
use Rattle.code_flow.specs.declared.way.Way.{Way}
use Rattle.code_flow.specs.declared.way.Ways.{Ways}
use Rattle.code_flow.specs.Flow.{way_list, AreWays}
use Rattle.liveness.specs.Live.{word_of, set_at}
use Rattle.kept_places.specs.Marks.{marked}
use Rattle.liveness.specs.Graph.{leads_to, some_leads, is_return, some_return, ways_in, ways_at}
use Rattle.liveness.specs.Passes.{there, gained, led, weight_below, IsVisit, AreSound, IsClosed}
use Rattle.liveness.proofs.Weights.{grows, total_set, get_here, get_else}
use Rattle.liveness.proofs.Paths.{gained_reads, or_left, or_right}
use Rattle.liveness.proofs.Waits.{not_one}

-- a visit keeps the sets sound
pub visit_sound : (code : Code) (es : List Way) (m : Bool) (p : ℕ) (b a : List Items) (w : ℕ) (b' a' : List Items) (w' : ℕ) (changed : Bool) → AreWays p (ways code p) es → ((m ≡ true) ↔ IsPoint code p) → AreSound code b w → IsVisit es m p b a w b' a' w' changed → AreSound code b' w'
visit_sound code es m p b a w b' a' w' changed here point s v = record { read = read; point_read = point_read; point_has = point_has changed refl }
  where
    read : (q x : ℕ) → has (set_at b' q) x ≡ true → Reads code x q
    read q x h =
        elim (cases_eq q p) [
          | inr d ↦ s.read q x (subst (λ (o : Option Items). has (word_of o) x ≡ true) (v.elsewhere q d) h)
          | inl e ↦ subst (Reads code x) (sym e) (elim (or_cases _ _ (sym (v.here x) ∙ subst (λ y. has (set_at b' y) x ≡ true) e h)) [
            | inl o ↦ s.read p x o
            | inr g ↦ gained_reads code p b w x es s here g
          ])
        ]

    split : (c n h : Bool) → (c && (n && h)) ≡ true → (n ≡ true) × (h ≡ true)
    split true true true e = (refl, refl)
    split true true false e = absurd (cc)
    split true false h e = absurd (cc)
    split false n h e = absurd (cc)

    point_read : (x : ℕ) → has w' x ≡ true → (q : ℕ) × IsPoint code q × Reads code x q
    point_read x h =
        elim (or_cases _ _ (sym (v.points x) ∙ h)) [
          | inl o ↦ s.point_read x o
          | inr g ↦ let t = split _ _ _ g in (p, point.0 t.0, read p x t.1)
        ]

    point_has : (c : Bool) → changed ≡ c → (q x : ℕ) → IsPoint code q → has (set_at b' q) x ≡ true → has w' x ≡ true
    point_has false e q x i h =
        let same = v.idle e in
        subst (λ y. has y x ≡ true) (sym same.1) (s.point_has q x i (subst (λ (l : List Items). has (set_at l q) x ≡ true) same.0 h))
    point_has true e q x i h =
        v.points x ∙ elim (cases_eq q p) [
          | inr d ↦ or_left _ _ (s.point_has q x i (subst (λ (o : Option Items). has (word_of o) x ≡ true) (v.elsewhere q d) h))
          | inl f ↦ or_right (has w x) _ (all_true _ _ _ e (point.1 (subst (IsPoint code) f i)) (subst (λ y. has (set_at b' y) x ≡ true) f h))
        ]
      where
        all_true : (c n h : Bool) → c ≡ true → n ≡ true → h ≡ true → (c && (n && h)) ≡ true
        all_true true true true e f g = refl
        all_true true true false e f g = g
        all_true true false h e f g = f
        all_true false n h e f g = e

-- ---- what no visit would change ----

-- what is seen along a way stays where the set there does
there_same : (p : ℕ) (t : Next) (b b' : List Items) (w w' : ℕ) → ((q : ℕ) → q ≢ p → slice_get b' q ≡ slice_get b q) → (leads_to p t ≡ true → set_at b' p ≡ set_at b p) → (is_return t ≡ true → w' ≡ w) → there t b' w' ≡ there t b w
there_same p (Place q) b b' w w' else here point = elim (cases_eq q p) [
  | inl e ↦ subst (λ y. set_at b' y ≡ set_at b y) (sym e) (here (eq-eqb q p e))
  | inr d ↦ ap word_of (else q d)
]
there_same p Points b b' w w' else here point = point refl
there_same p Out b b' w w' else here point = refl

gained_same : (p : ℕ) (ws : List Way) (b b' : List Items) (w w' x : ℕ) → ((q : ℕ) → q ≢ p → slice_get b' q ≡ slice_get b q) → (some_leads p ws ≡ true → set_at b' p ≡ set_at b p) → (some_return ws ≡ true → w' ≡ w) → gained ws b' w' x ≡ gained ws b w x
gained_same p [] b b' w w' x else here point = refl
gained_same p (v ∷ vs) b b' w w' x else here point =
    ap (λ y. (has v.uses.bits x || (has y x && not (has v.writes.bits x))) || gained vs b' w' x) (there_same p v.next b b' w w' else (λ h. here (or_left _ _ h)) (λ h. point (or_left _ _ h)))
    ∙ ap (λ r. (has v.uses.bits x || (has (there v.next b w) x && not (has v.writes.bits x))) || r) (gained_same p vs b b' w w' x else (λ h. here (or_right (leads_to p v.next) _ h)) (λ h. point (or_right (is_return v.next) _ h)))

led_same : (p : ℕ) (ws : List Way) (b b' : List Items) (w w' x : ℕ) → ((q : ℕ) → q ≢ p → slice_get b' q ≡ slice_get b q) → (some_leads p ws ≡ true → set_at b' p ≡ set_at b p) → (some_return ws ≡ true → w' ≡ w) → led ws b' w' x ≡ led ws b w x
led_same p [] b b' w w' x else here point = refl
led_same p (v ∷ vs) b b' w w' x else here point =
    ap (λ y. has y x || led vs b' w' x) (there_same p v.next b b' w w' else (λ h. here (or_left _ _ h)) (λ h. point (or_left _ _ h)))
    ∙ ap (λ r. has (there v.next b w) x || r) (led_same p vs b b' w w' x else (λ h. here (or_right (leads_to p v.next) _ h)) (λ h. point (or_right (is_return v.next) _ h)))

same_ways : (e f : Option Ways) → (let o : Option (Option Ways) = Some e in o) ≡ Some f → e ≡ f
same_ways e f h = cc

-- a visit closes its place, and others stay closed, where neither the place's set nor the code points' grew or those wait again whose ways lead there
pub visit_keeps : (all : List (Option Ways)) (e : Option Ways) (m : Bool) (p : ℕ) (b a : List Items) (w : ℕ) (b' a' : List Items) (w' : ℕ) (grew : Bool) (ms ms' : List Bool) → slice_get all p ≡ Some e → IsVisit (way_list e) m p b a w b' a' w' grew
    → ((q : ℕ) (ws : Option Ways) → slice_get all q ≡ Some ws → marked ms q ≡ false → one_of q (p ∷ []) ≡ false → IsClosed (way_list ws) q b a w)
    → ((q : ℕ) → marked ms q ≡ true → marked ms' q ≡ true)
    → ((q : ℕ) → some_leads p (ways_at all q) ≡ true → (set_at b' p ≡ set_at b p) ⊎ (marked ms' q ≡ true))
    → ((q : ℕ) → some_return (ways_at all q) ≡ true → (w' ≡ w) ⊎ (marked ms' q ≡ true))
    → (q : ℕ) (ws : Option Ways) → slice_get all q ≡ Some ws → marked ms' q ≡ false → IsClosed (way_list ws) q b' a' w'
visit_keeps all e m p b a w b' a' w' grew ms ms' g v closed kept callers returns q ws at off =
    elim (cases_eq q p) [
      | inl s ↦
          let same : e ≡ ws = same_ways e ws (sym g ∙ ap (slice_get all) (sym s) ∙ at) in
          subst (λ y. IsClosed (way_list ws) y b' a' w') (sym s) (visited same)
      | inr d ↦ stays d
    ]
  where
    here : some_leads p (way_list ws) ≡ true → set_at b' p ≡ set_at b p
    here h = elim (callers q (ap (λ o. some_leads p (ways_in o)) at ∙ h)) [
      | inl s ↦ s
      | inr t ↦ absurd (cc)
    ]

    point : some_return (way_list ws) ≡ true → w' ≡ w
    point h = elim (returns q (ap (λ o. some_return (ways_in o)) at ∙ h)) [
      | inl s ↦ s
      | inr t ↦ absurd (cc)
    ]

    visited : e ≡ ws → IsClosed (way_list ws) p b' a' w'
    visited s = record {
      before = λ x r. v.here x ∙ or_right (has (set_at b p) x) _ (ap (λ o. gained (way_list o) b w x) s ∙ sym (gained_same p (way_list ws) b b' w w' x v.elsewhere here point) ∙ r);
      after = λ x. v.after_here x ∙ ap (λ o. led (way_list o) b w x) s ∙ sym (led_same p (way_list ws) b b' w w' x v.elsewhere here point);
    }

    was_off : (t : Bool) → marked ms q ≡ t → marked ms q ≡ false
    was_off false h = h
    was_off true h = absurd (let t = kept q h in cc)

    stays : q ≢ p → IsClosed (way_list ws) q b' a' w'
    stays d =
        let c = closed q ws at (was_off (marked ms q) refl) (not_one q p d) in
        record {
          before = λ x r. ap (λ (o : Option Items). has (word_of o) x) (v.elsewhere q d) ∙ c.before x (sym (gained_same p (way_list ws) b b' w w' x v.elsewhere here point) ∙ r);
          after = λ x. ap (λ (o : Option Items). has (word_of o) x) (v.after_else q d) ∙ c.after x ∙ sym (led_same p (way_list ws) b b' w w' x v.elsewhere here point);
        }

-- where the set at a place gains something
pub changes : (es : List Way) (m : Bool) (p : ℕ) (b a : List Items) (w : ℕ) (old s t : Items) (w' : ℕ) → p < length b → p < length a → set_at b p ≡ old.bits → s.bits ≢ old.bits → ((x : ℕ) → has s.bits x ≡ (has old.bits x || gained es b w x)) → ((x : ℕ) → has t.bits x ≡ led es b w x) → ((x : ℕ) → has w' x ≡ (has w x || (m && has s.bits x))) → IsVisit es m p b a w (slice_set b p s) (slice_set a p t) w' true
changes es m p b a w old s t w' lb la at d gain leads points =
    record {
      after_here = λ x. ap (λ y. has y x) (get_here a p t la) ∙ leads x;
      after_else = λ q d. get_else a p q t d;
      here = λ x. ap (λ y. has y x) (get_here b p s lb) ∙ gain x ∙ ap (λ y. has y x || gained es b w x) (sym at);
      elsewhere = λ q d. get_else b p q s d;
      points = λ x. points x ∙ ap (λ y. has w x || (m && has y x)) (sym (get_here b p s lb));
      idle = λ e. absurd (cc);
      more =
          let g = grows old.bits s.bits old.is_small s.is_small (λ x h. gain x ∙ or_left _ _ h) d in
          let t = total_set b p s lb in
          let f = ap (weight_below 19) at in
          omega arith;
    }
