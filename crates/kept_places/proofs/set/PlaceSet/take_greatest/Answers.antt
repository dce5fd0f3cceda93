use Rattle.std.proofs.Common.{◌∙◌, ◌+◌, ◌-◌, ◌*◌, ℕ, Bool, List, false, ap, sym, subst, arith}
use Rattle.std.specs.Prelude.{slice_set, slice_index}
use Rattle.std.proofs.lemmas.List.{get_or_default}
use Rattle.kept_places.specs.Marks.{IsGreatest}
use Rattle.kept_places.proofs.Bits.{none_behind}
use Rattle.kept_places.proofs.Members.{found_greatest, is_greatest, is_place, marks_put, none_down_to, none_marked, still_unset}
use Rattle.kept_places.proofs.set.PlaceSet.take_greatest.Goals as goal

pub invariant_of-self : goal.invariant_of-self
invariant_of-self c =
    let none = none_down_to c.self.inside.words.items c.deref.result.now c.self.inside.least c.self.inside.past c.past_used-self-inside.result c.deref.ensures.value c.self.invariant.before c.self.invariant.behind c.past_used-self-inside.ensures.behind c.if-self.true in
    record {
      as_many = c.self.invariant.as_many;
      clean = c.self.invariant.clean;
      before = λ p h. none p;
      past_within = omega arith;
      behind = λ p h. none p;
    }

pub returns-then-self-clause-none : goal.returns-then-self-clause-none
returns-then-self-clause-none c = none_marked c.self.inside.count c.self.inside.words.items c.args.self.now c.self.view_is c.self.invariant.clean
    (none_down_to c.self.inside.words.items c.deref.result.now c.self.inside.least c.self.inside.past c.past_used-self-inside.result c.deref.ensures.value c.self.invariant.before c.self.invariant.behind c.past_used-self-inside.ensures.behind c.if-self.true)

pub invariant_of-self-2 : goal.invariant_of-self-2
invariant_of-self-2 c = record {
  as_many = c.clear.ensures.as_many ∙ c.self.invariant.as_many;
  clean = λ p h. still_unset _ _ ((c.past_used-self-inside.result - 1) * 64 + c.highest-bit.result) p c.clear.ensures.here c.clear.ensures.others (c.self.invariant.clean p h);
  before = λ p h. still_unset _ _ ((c.past_used-self-inside.result - 1) * 64 + c.highest-bit.result) p c.clear.ensures.here c.clear.ensures.others (c.self.invariant.before p h);
  past_within = omega (arith, c.past_used-self-inside.ensures.within, c.self.invariant.past_within, c.clear.ensures.as_many);
  behind = λ p h. still_unset _ _ ((c.past_used-self-inside.result - 1) * 64 + c.highest-bit.result) p c.clear.ensures.here c.clear.ensures.others (none_behind c.self.inside.words.items c.past_used-self-inside.result c.self.inside.past c.self.invariant.behind (λ k x y. ap (λ (ws : List ℕ). slice_index ws k) (sym c.deref.ensures.value) ∙ c.past_used-self-inside.ensures.behind k x y) p h);
}

pub returns-clause-greatest : goal.returns-clause-greatest
returns-clause-greatest c =
    let found = found_greatest c.self.inside.words.items c.deref.result.now c.self.inside.past c.past_used-self-inside.result (c.past_used-self-inside.result - 1) c.highest-bit.result c.index.result.now c.deref.ensures.value c.self.invariant.behind c.past_used-self-inside.ensures.behind (omega (arith, c.if-self.false)) (c.index.ensures ∙ get_or_default c.self.inside.words.items (c.past_used-self-inside.result - 1) c.index.result.now 0 (omega (arith, c.past_used-self-inside.ensures.within, c.if-self.false, c.self.invariant.past_within))) c.highest-bit.ensures.within c.highest-bit.ensures.here c.highest-bit.ensures.highest in
    subst (λ (ms : List Bool). IsGreatest ms ((c.past_used-self-inside.result - 1) * 64 + c.highest-bit.result)) c.self.view_is (is_greatest c.self.inside.count c.self.inside.words.items ((c.past_used-self-inside.result - 1) * 64 + c.highest-bit.result) c.self.invariant.clean found.0 found.1)

pub returns-clause-taken : goal.returns-clause-taken
returns-clause-taken c =
    let found = found_greatest c.self.inside.words.items c.deref.result.now c.self.inside.past c.past_used-self-inside.result (c.past_used-self-inside.result - 1) c.highest-bit.result c.index.result.now c.deref.ensures.value c.self.invariant.behind c.past_used-self-inside.ensures.behind (omega (arith, c.if-self.false)) (c.index.ensures ∙ get_or_default c.self.inside.words.items (c.past_used-self-inside.result - 1) c.index.result.now 0 (omega (arith, c.past_used-self-inside.ensures.within, c.if-self.false, c.self.invariant.past_within))) c.highest-bit.ensures.within c.highest-bit.ensures.here c.highest-bit.ensures.highest in
    marks_put c.self.inside.count c.self.inside.words.items c.clear.new.words.items ((c.past_used-self-inside.result - 1) * 64 + c.highest-bit.result) false (is_place c.self.inside.count c.self.inside.words.items ((c.past_used-self-inside.result - 1) * 64 + c.highest-bit.result) c.self.invariant.clean found.0) c.clear.ensures.here c.clear.ensures.others
    ∙ ap (λ (ms : List Bool). slice_set ms ((c.past_used-self-inside.result - 1) * 64 + c.highest-bit.result) false) c.self.view_is
