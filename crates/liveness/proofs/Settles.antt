-- Working out live items from scratch: the invariant is preserved, and visits are bounded.
use Rattle.std.proofs.Common.{◌≡◌, ◌≢◌, ℕ, zero, suc, replicate, ◌+◌, ◌-◌, ◌*◌, ◌^◌, ◌<◌, ◌≤◌, min, Bool, true, false, List, [], ◌∷◌, length, mul-le-mul_right, Option, Some, refl, sym, ap, ◌∙◌, ◌⊎◌, inl, inr, arith}
use Rattle.std.specs.Prelude.{slice_get}
use Rattle.std.proofs.lemmas.Option.{slice_get_within}
use Rattle.thumb_instr.specs.declared.items.Items.{Items}
use Rattle.thumb_instr.specs.Items.{one_of, has}
use Rattle.thumb_model.specs.Listing.{Code}
use Rattle.code_flow.specs.declared.way.Ways.{Ways}
use Rattle.code_flow.specs.Flow.{way_list}
use Rattle.liveness.specs.declared.visiting.Found.{Found}
use Rattle.liveness.specs.declared.waiting.Waiting.{Waiting}
use Rattle.liveness.specs.Live.{set_at}
use Rattle.kept_places.specs.Marks.{marked}
use Rattle.liveness.specs.Passes.{total, IsVisit, AreSound, AreClosed}
use Rattle.liveness.specs.Graph.{some_leads, some_return, ways_at, IsGraph}
use Rattle.liveness.specs.declared.graph.Graph.{Graph}
use Rattle.liveness.specs.Waiting.{left, AreWaiting, WaitMore, IsTaken}
use Rattle.liveness.specs.Settling.{IsSettling}
use Rattle.liveness.proofs.Weights.{total_bound}
use Rattle.liveness.proofs.Paths.{has_zero}
use Rattle.liveness.proofs.Visits.{visit_sound, visit_keeps}
use Rattle.liveness.proofs.Waits.{is_one, few_left}

-- at first no set has an item
pub nothing_at : (n p x : ℕ) (s : Items) → has s.bits x ≡ false → has (set_at (replicate n s) p) x ≡ false
nothing_at zero p x s h = has_zero x
nothing_at (suc n) zero x s h = h
nothing_at (suc n) (suc p) x s h = nothing_at n p x s h

pub nothing_sound : (code : Code) (n : ℕ) (s : Items) (b : List Items) (w : ℕ) → b ≡ replicate n s → ((x : ℕ) → has s.bits x ≡ false) → ((x : ℕ) → has w x ≡ false) → AreSound code b w
nothing_sound code n s b w e none points = record {
  read = λ p x h. absurd (not_there p x h);
  point_read = λ x h. absurd (let t = points x in cc);
  point_has = λ q x i h. absurd (not_there q x h);
}
  where
    not_there : (p x : ℕ) → has (set_at b p) x ≡ true → ⊥
    not_there p x h = let t : has (set_at b p) x ≡ false = ap (λ (ss : List Items). has (set_at ss p) x) e ∙ nothing_at n p x s (none x) in cc

-- where all places wait, none need be closed
pub begun : (code : Code) (all : List (Option Ways)) (f : Found) (w : Waiting) → length f.before.items ≡ length all → length f.after.items ≡ length all → AreSound code f.before.items f.points.bits → AreWaiting w → length w.marks.items ≡ length all → ((q : ℕ) → q < length all → marked w.marks.items q ≡ true) → IsSettling code all [] f w
begun code all f w before after sound waiting many marks = record {
  before_len = before;
  after_len = after;
  sound = sound;
  waiting = waiting;
  as_many = many;
  closed = λ q ws at off none. absurd (let t = marks q (slice_get_within all q ws at) in cc);
}

-- a place that was taken is pending
pub taken_settling : (code : Code) (all : List (Option Ways)) (f : Found) (p : ℕ) (w w' : Waiting) → IsSettling code all [] f w → IsTaken p w w' → IsSettling code all (p ∷ []) f w'
taken_settling code all f p w w' s t = record {
  before_len = s.before_len;
  after_len = s.after_len;
  sound = s.sound;
  waiting = t.waiting;
  as_many = t.as_many ∙ s.as_many;
  closed = λ q ws at off other. s.closed q ws at (sym (t.others q (apart q other)) ∙ off) refl;
}
  where
    apart : (q : ℕ) → one_of q (p ∷ []) ≡ false → q ≢ p
    apart q o e = let t = is_one q p e in cc

-- a visit, and what waits by it
pub visited : (code : Code) (all : List (Option Ways)) (g : Graph) (e : Option Ways) (m : Bool) (p : ℕ) (f f' : Found) (w w' : Waiting) (grew : Bool) → IsGraph code all g → slice_get all p ≡ Some e → slice_get g.is_point.items p ≡ Some m → IsSettling code all (p ∷ []) f w
    → IsVisit (way_list e) m p f.before.items f.after.items f.points.bits f'.before.items f'.after.items f'.points.bits grew → length f'.before.items ≡ length f.before.items → length f'.after.items ≡ length f.after.items → WaitMore w w'
    → ((q : ℕ) → some_leads p (ways_at all q) ≡ true → (set_at f'.before.items p ≡ set_at f.before.items p) ⊎ (marked w'.marks.items q ≡ true))
    → ((q : ℕ) → some_return (ways_at all q) ≡ true → (f'.points.bits ≡ f.points.bits) ⊎ (marked w'.marks.items q ≡ true)) → IsSettling code all [] f' w'
visited code all g e m p f f' w w' grew graph at point s v bl al more callers returns = record {
  before_len = bl ∙ s.before_len;
  after_len = al ∙ s.after_len;
  sound = visit_sound code (way_list e) m p f.before.items f.after.items f.points.bits f'.before.items f'.after.items f'.points.bits grew (graph.ways p e at) (graph.points p m point) s.sound v;
  waiting = more.waiting;
  as_many = more.as_many ∙ s.as_many;
  closed = λ q ws h off none.
      visit_keeps all e m p f.before.items f.after.items f.points.bits f'.before.items f'.after.items f'.points.bits grew w.marks.items w'.marks.items at v s.closed more.kept callers returns q ws h off;
}

-- where nothing waits, nothing would change
pub settled : (code : Code) (all : List (Option Ways)) (f : Found) (w : Waiting) → IsSettling code all [] f w → ((q : ℕ) → marked w.marks.items q ≡ false) → AreClosed all f.before.items f.after.items f.points.bits
settled code all f w s none q ws at = s.closed q ws at (none q) refl

pub few_wait : (code : Code) (all : List (Option Ways)) (pending : List ℕ) (f : Found) (w : Waiting) → IsSettling code all pending f w → left w ≤ length all
few_wait code all pending f w s = let l = few_left w s.waiting in omega (arith, l, s.as_many)

pub few_found : (code : Code) (all : List (Option Ways)) (pending : List ℕ) (f : Found) (w : Waiting) → IsSettling code all pending f w → total f.before.items ≤ 19 * length all
few_found code all pending f w s = let l = total_bound f.before.items in omega (arith, l, s.before_len)

-- ---- visits ----

-- the first visit of each place, and one of each place for each item
pub first_visits : (start left q t : ℕ) → left ≡ q → start + left ≤ start + (t + 1) * q
first_visits start left q t e = let c : 1 * q ≤ (t + 1) * q = mul-le-mul_right q (omega arith) in omega arith

pub advanced : (start steps now left before more q t u : ℕ) → steps + left ≤ start + (t + 1) * q → now ≤ steps + 1 → before + 1 ≡ left → more ≤ q → (t + 1 ≤ u) ⊎ ((u ≡ t) × (more ≡ before)) → now + more ≤ start + (u + 1) * q
advanced start steps now left before more q t u h a b m (inl l) = let c : (t + 2) * q ≤ (u + 1) * q = mul-le-mul_right q (omega arith) in omega arith
advanced start steps now left before more q t u h a b m (inr e) = let c : (u + 1) * q ≡ (t + 1) * q = ap (λ y. (y + 1) * q) e.0 in omega (arith, e.1)

-- with each visit some set has more items, or fewer places wait
pub falls : (left before more q t u : ℕ) → before + 1 ≡ left → more ≤ q → u ≤ 19 * q → (t + 1 ≤ u) ⊎ ((u ≡ t) × (more ≡ before)) → (19 * q - u) * (q + 1) + more < (19 * q - t) * (q + 1) + left
falls left before more q t u b m few (inl l) = let c : (19 * q - u + 1) * (q + 1) ≤ (19 * q - t) * (q + 1) = mul-le-mul_right (q + 1) (omega arith) in omega arith
falls left before more q t u b m few (inr e) = let c : (19 * q - u) * (q + 1) ≡ (19 * q - t) * (q + 1) = ap (λ y. (19 * q - y) * (q + 1)) e.0 in omega (arith, e.1)

pub in_all : (start now q t : ℕ) → now ≤ start + (t + 1) * q → t ≤ 19 * q → now ≤ start + (19 * q + 1) * q
in_all start now q t h few = let c : (t + 1) * q ≤ (19 * q + 1) * q = mul-le-mul_right q (omega arith) in omega arith

-- each visit counts, up to the greatest count
pub counts : (all steps now left before more : ℕ) → min all (2 ^ 64 - 1) ≤ steps + left → now ≡ min (steps + 1) (2 ^ 64 - 1) → before + 1 ≡ left → before ≤ more → min all (2 ^ 64 - 1) ≤ now + more
counts all steps now left before more h a b m = omega arith

pub at_most_one : (steps now : ℕ) → now ≡ min (steps + 1) (2 ^ 64 - 1) → now ≤ steps + 1
at_most_one steps now e = omega arith
