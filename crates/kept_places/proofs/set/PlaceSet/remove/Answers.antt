use Rattle.std.proofs.Common.{◌∙◌, Bool, List, false, ap, arith}
use Rattle.std.specs.Prelude.{slice_set}
use Rattle.kept_places.proofs.Members.{bit_within, place_within, marks_put, still_unset}
use Rattle.kept_places.proofs.set.PlaceSet.remove.Goals as goal

pub clear-requires : goal.clear-requires
clear-requires c = bit_within c.self.inside.count c.self.inside.words.items c.args.self.now c.args.place c.self.invariant.as_many c.self.view_is c.requires

pub invariant_of-self : goal.invariant_of-self
invariant_of-self c = record {
  as_many = c.clear.ensures.as_many ∙ c.self.invariant.as_many;
  clean = λ p h. still_unset _ _ c.args.place p c.clear.ensures.here c.clear.ensures.others (c.self.invariant.clean p h);
  before = λ p h. still_unset _ _ c.args.place p c.clear.ensures.here c.clear.ensures.others (c.self.invariant.before p h);
  past_within = omega (arith, c.self.invariant.past_within, c.clear.ensures.as_many);
  behind = λ p h. still_unset _ _ c.args.place p c.clear.ensures.here c.clear.ensures.others (c.self.invariant.behind p h);
}

pub returns : goal.returns
returns c =
    marks_put c.self.inside.count c.self.inside.words.items c.clear.new.words.items c.args.place false (place_within c.self.inside.count c.self.inside.words.items c.args.self.now c.args.place c.self.view_is c.requires) c.clear.ensures.here c.clear.ensures.others
    ∙ ap (λ (ms : List Bool). slice_set ms c.args.place false) c.self.view_is
