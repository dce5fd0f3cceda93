-- What `KeptLive` begins with meets its invariant.
use Rattle.std.proofs.Common.{◌≡◌, ℕ, zero, suc, ◌+◌, ◌<◌, ◌≤◌, ◌^◌, ◌==◌, Bool, true, false, List, [], ◌∷◌, length, take, replicate, Option, if◌then◌else◌, sym, ap, ◌∙◌, inl, inr, arith, ◌↔◌}
use Rattle.std.specs.Prelude.{slice_set}
use Rattle.std.proofs.lemmas.Bool.{cases_eq, cases_lt, or_cases, or_left, or_right}
use Rattle.std.proofs.lemmas.List.{length-replicate}
use Rattle.std.proofs.lemmas.Option.{slice_get_past}
use Rattle.thumb_instr.specs.declared.items.Items.{Items}
use Rattle.thumb_instr.specs.Items.{one_of, has}
use Rattle.thumb_model.specs.Listing.{Code}
use Rattle.thumb_model.specs.Flow.{Reads, now, later}
use Rattle.kept_places.specs.Marks.{marked}
use Rattle.kept_places.proofs.Ranks.{marked_set, unmarked}
use Rattle.code_flow.specs.declared.way.Ways.{Ways}
use Rattle.liveness.specs.Live.{word_of, set_at}
use Rattle.liveness.specs.Graph.{IsGraph}
use Rattle.liveness.specs.declared.graph.Graph.{Graph}
use Rattle.liveness.proofs.Paths.{AreFinished, finished_live}
use Rattle.liveness.specs.declared.kept_live.KeptFlow.{KeptFlow}
use Rattle.liveness.specs.declared.walk.Walk.{Walk}
use Rattle.liveness.specs.Ahead.{IsAhead}
use Rattle.liveness.specs.Counted.{AreCounted}
use Rattle.liveness.specs.KeptLive.{IsKeptLive, IsIdle}
use Rattle.liveness.specs.Parts.{Parts}
use Rattle.liveness.specs.Walk.{IsFitWalk}
use Rattle.liveness.specs.Within.{IsInside}
use Rattle.liveness.proofs.Aheads.{mark_kept}
use Rattle.liveness.proofs.Walks.{put_here, put_else}
use Rattle.thumb_model.proofs.Shared.{within}

-- nothing is read from past the end
reads_inside : (code : Code) (x p : ℕ) → Reads code x p → p < length code.places
reads_inside code x p (now _ k w g r) = within code p k w g
reads_inside code x p (later _ k w q g n f r) = within code p k w g

-- finished sets are exact, past the end too
pub exact_before : (code : Code) (all : List (Option Ways)) (b a : List Items) (w : ℕ) → AreFinished code all b a w → length b ≡ length code.places → length a ≡ length code.places → (p x : ℕ) → (has (set_at b p) x ≡ true) ↔ Reads code x p
exact_before code all b a w f m n p x = (f.sound.read p x, λ r. ((finished_live code all b a w f m n).before p x (reads_inside code x p r)).1 r)

-- sets that are put in one after the other
pub put_same : (b b' ss : List Items) (p : ℕ) (s : Items) → p < length b → b' ≡ slice_set b p s → set_at ss p ≡ s.bits → ((q : ℕ) → q < p → set_at b q ≡ set_at ss q) → (q : ℕ) → q < p + 1 → set_at b' q ≡ set_at ss q
put_same b b' ss p s l e at before q h = elim (cases_eq q p) [
  | inl t ↦ ap (set_at b') t ∙ put_here b b' p s l e ∙ sym at ∙ ap (set_at ss) (sym t)
  | inr d ↦ put_else b b' p s e q d ∙ before q (omega (arith, h, d))
]

pub all_same : (b ss : List Items) → length b ≡ length ss → ((q : ℕ) → q < length ss → set_at b q ≡ set_at ss q) → (q : ℕ) → set_at b q ≡ set_at ss q
all_same b ss m h q = elim (cases_lt q (length ss)) [
  | inl l ↦ h q l
  | inr l ↦ ap word_of (slice_get_past b q (omega (arith, l, m))) ∙ sym (ap word_of (slice_get_past ss q l))
]

-- where no place waits, sets and counts are enough
pub fit_idle : (marks : List Bool) (n : ℕ) (k : Walk) → n ≤ length marks → n < 2 ^ 32 → AreCounted marks k.before → length k.before.sets.items ≡ n → length k.was.items ≡ n → k.stack.room ≡ n → k.touched.room ≡ n → k.stack.places ≡ [] → k.touched.places ≡ [] → IsFitWalk marks n k
fit_idle marks n k enough few counted before was stack touched none_waits none_touched = record {
  enough = enough;
  few = few;
  counted = counted;
  before_many = before;
  was_many = was;
  stack_room = stack;
  touched_room = touched;
  below = λ p x h. ap (λ ps. has (if one_of p ps then set_at k.was.items p else set_at k.before.sets.items p) x) none_touched ∙ h;
  stacked = λ p h. absurd (let f : one_of p k.stack.places ≡ false = ap (one_of p) none_waits in cc);
}

-- a graph of a code is one of as many places
pub inside_graph : (code : Code) (all : List (Option Ways)) (g : Graph) → IsGraph code all g → IsInside (length all) g
inside_graph code all g graph = record {
  marks = graph.marks;
  callers = record {
    as_many = graph.callers.as_many;
    last = λ t number e. (graph.callers.last t number e).within;
    places = λ k j e. (graph.callers.jumps k j e).below;
    earlier = λ k j e. (graph.callers.jumps k j e).before;
  };
  returns = graph.returns.within;
}

pub idle_first : (code : Code) (k : KeptFlow) (n : ℕ) → IsGraph code k.ways.items k.graph → AreCounted k.graph.is_point.items k.forward → length k.forward.sets.items ≡ length k.ways.items → k.due ≡ replicate n false → n ≡ length k.ways.items → IsFitWalk k.graph.is_point.items (length k.ways.items) k.walk → k.walk.stack.places ≡ [] → k.walk.touched.places ≡ [] → IsIdle k
idle_first code k n graph counted many due as_many walk stack touched = record {
  fit = record {
    inside = inside_graph code k.ways.items k.graph graph;
    forward_many = many;
    forward_counted = counted;
    due_many = ap length due ∙ length-replicate n false ∙ as_many;
    due_none = λ q. ap (λ ms. marked ms q) due ∙ unmarked n q;
    walk = walk;
  };
  stack = stack;
  touched = touched;
}

pub kept_first : (code : Code) (k : Parts) (sets : List Items) → IsGraph code k.ways k.graph → length k.before ≡ length k.ways → ((p : ℕ) → set_at k.before p ≡ set_at sets p) → ((p x : ℕ) → (has (set_at sets p) x ≡ true) ↔ Reads code x p) → IsAhead k.ways k.forward → IsKeptLive code k
kept_first code k sets graph many same exact ahead = record {
  graph = graph;
  before_len = many ∙ graph.as_many;
  live = λ p x. (λ h. (exact p x).0 (ap (λ y. has y x) (sym (same p)) ∙ h), λ r. ap (λ y. has y x) (same p) ∙ (exact p x).1 r);
  ahead = ahead;
}

-- ---- places, one after the other ----

pub mark_next : (ms ms' : List Bool) (f p : ℕ) → p < length ms → ms' ≡ slice_set ms p true → ((q : ℕ) → f ≤ q → q < p → marked ms q ≡ true) → (q : ℕ) → f ≤ q → q < p + 1 → marked ms' q ≡ true
mark_next ms ms' f p l e h q a b = ap (λ y. marked y q) e ∙ elim (cases_eq q p) [
  | inl t ↦ ap (marked (slice_set ms p true)) t ∙ marked_set ms p true l
  | inr d ↦ mark_kept ms p q l (h q a (omega (arith, b, d)))
]

pub one_all : (q : ℕ) (xs : List ℕ) (n : ℕ) → length xs ≤ n → one_of q xs ≡ true → one_of q (take n xs) ≡ true
one_all q [] zero l h = h
one_all q [] (suc n) l h = h
one_all q (x ∷ xs) zero l h = absurd (omega arith)
one_all q (x ∷ xs) (suc n) l h = elim (or_cases (q == x) (one_of q xs) h) [
  | inl e ↦ or_left (q == x) _ e
  | inr e ↦ or_right (q == x) _ (one_all q xs n (omega arith) e)
]
