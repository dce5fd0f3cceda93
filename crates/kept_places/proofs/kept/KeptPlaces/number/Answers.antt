use Rattle.std.proofs.Common.{◌≡◌, ◌+◌, ◌*◌, ◌/◌, ◌≤◌, ap, ◌∙◌, Bool, ℕ, List, length, arith}
use Rattle.std.specs.List.{count_by, slice_range, sum}
use Rattle.kept_places.specs.Marks.{rank}
use Rattle.kept_places.specs.Kept.{AreCounts}
use Rattle.kept_places.proofs.Counts.{first_small, second_small, number_is}
use Rattle.kept_places.proofs.kept.KeptPlaces.number.Goals as goal

-- what is taken from a place leaves its number
module _ (gone : List Bool) (small large : List ℕ) (p a b d : ℕ) (l s : List ℕ) (marks view : List Bool) (cs : AreCounts 64 gone small) (cl : AreCounts 4096 gone large) (v : gone ≡ view) (h : p ≤ length view)
    (le : l ≡ large) (se : s ≡ small) (ge : marks ≡ gone) (x : a ≡ sum (slice_range l 0 (p / 4096))) (y : b ≡ sum (slice_range s (p / 4096 * 64) (p / 64))) (z : d ≡ count_by (λ m. m) (slice_range marks (p / 64 * 64) p)) where
  all : rank view p + a + b + d ≡ p
  all =
      let n = number_is gone small large p a b d cs cl (omega (arith, h, ap length v))
      (x ∙ ap (λ (k : List ℕ). sum (slice_range k 0 (p / 4096))) le) (y ∙ ap (λ (k : List ℕ). sum (slice_range k (p / 4096 * 64) (p / 64))) se)
      (z ∙ ap (λ (k : List Bool). count_by (λ m. m) (slice_range k (p / 64 * 64) p)) ge) in
      omega (arith, n, ap (λ (k : List Bool). rank k p) v)

pub total-before-requires-clause-small : goal.total-before-requires-clause-small
total-before-requires-clause-small c = omega (arith, ap (λ (l : List ℕ). sum (slice_range l 0 (c.args.place / 4096))) c.deref.ensures.value, first_small c.self.inside.gone.items c.self.inside.large.items c.args.place c.self.invariant.large (omega (arith, c.requires, ap length c.self.view_is)), c.ranges.place.fits)

pub total-between-requires-clause-small : goal.total-between-requires-clause-small
total-between-requires-clause-small c = omega (arith, ap (λ (l : List ℕ). sum (slice_range l (c.args.place / 4096 * 64) (c.args.place / 64))) c.deref-2.ensures.value, second_small c.self.inside.gone.items c.self.inside.small.items c.args.place c.self.invariant.small (omega (arith, c.requires, ap length c.self.view_is)), c.ranges.place.fits)

pub overflow_sub-result : goal.overflow_sub-result
overflow_sub-result c = let n = all c.self.inside.gone.items c.self.inside.small.items c.self.inside.large.items c.args.place c.total-before.result c.total-between.result c.gone_among-last.result c.deref.result.now c.deref-2.result.now c.deref-3.result.now c.args.self.now c.self.invariant.small c.self.invariant.large c.self.view_is c.requires c.deref.ensures.value c.deref-2.ensures.value c.deref-3.ensures.value c.total-before.ensures c.total-between.ensures c.gone_among-last.ensures in omega (arith, n)

pub overflow_sub-result-2 : goal.overflow_sub-result-2
overflow_sub-result-2 c = let n = all c.self.inside.gone.items c.self.inside.small.items c.self.inside.large.items c.args.place c.total-before.result c.total-between.result c.gone_among-last.result c.deref.result.now c.deref-2.result.now c.deref-3.result.now c.args.self.now c.self.invariant.small c.self.invariant.large c.self.view_is c.requires c.deref.ensures.value c.deref-2.ensures.value c.deref-3.ensures.value c.total-before.ensures c.total-between.ensures c.gone_among-last.ensures in omega (arith, n)

pub overflow_sub-result-3 : goal.overflow_sub-result-3
overflow_sub-result-3 c = let n = all c.self.inside.gone.items c.self.inside.small.items c.self.inside.large.items c.args.place c.total-before.result c.total-between.result c.gone_among-last.result c.deref.result.now c.deref-2.result.now c.deref-3.result.now c.args.self.now c.self.invariant.small c.self.invariant.large c.self.view_is c.requires c.deref.ensures.value c.deref-2.ensures.value c.deref-3.ensures.value c.total-before.ensures c.total-between.ensures c.gone_among-last.ensures in omega (arith, n)

pub returns : goal.returns
returns c = let n = all c.self.inside.gone.items c.self.inside.small.items c.self.inside.large.items c.args.place c.total-before.result c.total-between.result c.gone_among-last.result c.deref.result.now c.deref-2.result.now c.deref-3.result.now c.args.self.now c.self.invariant.small c.self.invariant.large c.self.view_is c.requires c.deref.ensures.value c.deref-2.ensures.value c.deref-3.ensures.value c.total-before.ensures c.total-between.ensures c.gone_among-last.ensures in omega (arith, n)
