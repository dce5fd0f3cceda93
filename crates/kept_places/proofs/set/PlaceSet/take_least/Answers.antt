use Rattle.std.proofs.Common.{◌∙◌, ◌+◌, ◌*◌, ℕ, Bool, List, false, ap, sym, subst, arith}
use Rattle.std.specs.Prelude.{slice_set, slice_index}
use Rattle.std.proofs.lemmas.List.{get_or_default}
use Rattle.kept_places.specs.Marks.{IsLeast}
use Rattle.kept_places.proofs.Bits.{none_before}
use Rattle.kept_places.proofs.Members.{found_least, is_least, is_place, marks_put, none_marked, none_up_to, still_unset}
use Rattle.kept_places.proofs.set.PlaceSet.take_least.Goals as goal

pub invariant_of-self : goal.invariant_of-self
invariant_of-self c =
    let none = none_up_to c.self.inside.words.items c.deref.result.now c.self.inside.least c.self.inside.past c.first_used-self-inside.result c.deref.ensures.value c.self.invariant.before c.self.invariant.behind c.first_used-self-inside.ensures.before c.if-self.true in
    record {
      as_many = c.self.invariant.as_many;
      clean = c.self.invariant.clean;
      before = λ p h. none p;
      past_within = omega arith;
      behind = λ p h. none p;
    }

pub returns-then-self-clause-none : goal.returns-then-self-clause-none
returns-then-self-clause-none c = none_marked c.self.inside.count c.self.inside.words.items c.args.self.now c.self.view_is c.self.invariant.clean
    (none_up_to c.self.inside.words.items c.deref.result.now c.self.inside.least c.self.inside.past c.first_used-self-inside.result c.deref.ensures.value c.self.invariant.before c.self.invariant.behind c.first_used-self-inside.ensures.before c.if-self.true)

pub invariant_of-self-2 : goal.invariant_of-self-2
invariant_of-self-2 c = record {
  as_many = c.clear.ensures.as_many ∙ c.self.invariant.as_many;
  clean = λ p h. still_unset _ _ (c.first_used-self-inside.result * 64 + c.lowest-bit.result) p c.clear.ensures.here c.clear.ensures.others (c.self.invariant.clean p h);
  before = λ p h. still_unset _ _ (c.first_used-self-inside.result * 64 + c.lowest-bit.result) p c.clear.ensures.here c.clear.ensures.others (none_before c.self.inside.words.items c.self.inside.least c.first_used-self-inside.result c.self.invariant.before (λ k x y. ap (λ (ws : List ℕ). slice_index ws k) (sym c.deref.ensures.value) ∙ c.first_used-self-inside.ensures.before k x y) p h);
  past_within = omega (arith, c.self.invariant.past_within, c.clear.ensures.as_many);
  behind = λ p h. still_unset _ _ (c.first_used-self-inside.result * 64 + c.lowest-bit.result) p c.clear.ensures.here c.clear.ensures.others (c.self.invariant.behind p h);
}

pub returns-clause-least : goal.returns-clause-least
returns-clause-least c =
    let found = found_least c.self.inside.words.items c.deref.result.now c.self.inside.least c.first_used-self-inside.result c.lowest-bit.result c.index.result.now c.deref.ensures.value c.self.invariant.before c.first_used-self-inside.ensures.before (c.index.ensures ∙ get_or_default c.self.inside.words.items c.first_used-self-inside.result c.index.result.now 0 (omega (arith, c.first_used-self-inside.ensures.within, c.if-self.false, c.self.invariant.past_within))) c.lowest-bit.ensures.within c.lowest-bit.ensures.here c.lowest-bit.ensures.lowest in
    subst (λ (ms : List Bool). IsLeast ms (c.first_used-self-inside.result * 64 + c.lowest-bit.result)) c.self.view_is (is_least c.self.inside.count c.self.inside.words.items (c.first_used-self-inside.result * 64 + c.lowest-bit.result) c.self.invariant.clean found.0 found.1)

pub returns-clause-taken : goal.returns-clause-taken
returns-clause-taken c =
    let found = found_least c.self.inside.words.items c.deref.result.now c.self.inside.least c.first_used-self-inside.result c.lowest-bit.result c.index.result.now c.deref.ensures.value c.self.invariant.before c.first_used-self-inside.ensures.before (c.index.ensures ∙ get_or_default c.self.inside.words.items c.first_used-self-inside.result c.index.result.now 0 (omega (arith, c.first_used-self-inside.ensures.within, c.if-self.false, c.self.invariant.past_within))) c.lowest-bit.ensures.within c.lowest-bit.ensures.here c.lowest-bit.ensures.lowest in
    marks_put c.self.inside.count c.self.inside.words.items c.clear.new.words.items (c.first_used-self-inside.result * 64 + c.lowest-bit.result) false (is_place c.self.inside.count c.self.inside.words.items (c.first_used-self-inside.result * 64 + c.lowest-bit.result) c.self.invariant.clean found.0) c.clear.ensures.here c.clear.ensures.others
    ∙ ap (λ (ms : List Bool). slice_set ms (c.first_used-self-inside.result * 64 + c.lowest-bit.result) false) c.self.view_is
