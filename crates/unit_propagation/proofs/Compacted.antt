-- Compaction keeps the rule of watches, since the rule doesn't depend on the order of a chain.
use Rattle.std.proofs.Common.{◌≡◌, ℕ, ◌-◌, ◌<◌, List, length, get_or, sym, ◌∙◌, subst, arith}
use Rattle.std.specs.Prelude.{Contains}
use Rattle.std.proofs.lemmas.List.{get_or_default}
use Rattle.clause_arena.specs.Contents.{Content, HasClause, Watches, IsWhole}
use Rattle.clause_arena.specs.Compaction.{IsCompacted}
use Rattle.unit_propagation.specs.Watching.{IsWatched, IsAttached, IsOtherTrue, RuleUpTo}

module _ (earlier later : Content) (held moved : List ℕ) (whole : IsWhole later) (h : IsCompacted earlier held later moved) where
  -- the place of a clause among those that are held
  place : (at : ℕ) → HasClause later at → (k : ℕ) × ((k < length held) × (get_or moved k 0 ≡ at))
  place at c =
      let d : Contains moved at = subst (λ (xs : List ℕ). Contains xs at) h.references c in
      let b : d.0 < length moved = d.1 in
      (d.0, (omega (arith, h.as_many), get_or_default moved d.0 0 at b ∙ d.2))

  pub compacted_rule : (p a : List ℕ) → RuleUpTo earlier p a → RuleUpTo later p a
  compacted_rule p a rule at slot l w c =
      let s : HasClause later at × (slot < 2) = whole.slots l (at, slot) w.0 w.1 in
      let q : (k : ℕ) × ((k < length held) × (get_or moved k 0 ≡ at)) = place at s.0 in
      let old : Watches earlier (get_or held q.0 0) slot l = (h.watches q.0 slot l q.1.0 s.1).0 (subst (λ (r : ℕ). Watches later r slot l) (sym q.1.1) w) in
      let o : IsOtherTrue earlier a (get_or held q.0 0) slot = rule (get_or held q.0 0) slot l old c in
      (o.0, (subst (λ (r : ℕ). Watches later r (1 - slot) o.0) q.1.1 ((h.watches q.0 (1 - slot) o.0 q.1.0 (omega arith)).1 o.1.0), o.1.1))

  pub compacted_attached : IsAttached earlier → IsAttached later
  compacted_attached attached at slot l w =
      let s : HasClause later at × (slot < 2) = whole.slots l (at, slot) w.0 w.1 in
      let q : (k : ℕ) × ((k < length held) × (get_or moved k 0 ≡ at)) = place at s.0 in
      let old : Watches earlier (get_or held q.0 0) slot l = (h.watches q.0 slot l q.1.0 s.1).0 (subst (λ (r : ℕ). Watches later r slot l) (sym q.1.1) w) in
      let d : IsWatched earlier (get_or held q.0 0) = attached (get_or held q.0 0) slot l old in
      subst (IsWatched later) q.1.1 record {
        first = d.first;
        second = d.second;
        watches_first = (h.watches q.0 0 d.first q.1.0 (omega arith)).1 d.watches_first;
        watches_second = (h.watches q.0 1 d.second q.1.0 (omega arith)).1 d.watches_second;
        different = d.different;
        first_in = subst (λ (xs : List ℕ). Contains xs d.first) (sym (h.literals q.0 q.1.0)) d.first_in;
        second_in = subst (λ (xs : List ℕ). Contains xs d.second) (sym (h.literals q.0 q.1.0)) d.second_in;
      }
