use Rattle.std.proofs.Common.{◌∙◌, ◌<◌, Bool, List, true, ap, arith}
use Rattle.std.specs.Prelude.{slice_set}
use Rattle.kept_places.proofs.Members.{bit_within, place_within, marks_put}
use Rattle.kept_places.proofs.set.PlaceSet.insert.Goals as goal

pub set-requires : goal.set-requires
set-requires c = bit_within c.self.inside.count c.self.inside.words.items c.args.self.now c.args.place c.self.invariant.as_many c.self.view_is c.requires

pub invariant_of-self : goal.invariant_of-self
invariant_of-self c =
    let w : c.args.place < c.self.inside.count = place_within c.self.inside.count c.self.inside.words.items c.args.self.now c.args.place c.self.view_is c.requires in
    record {
      as_many = c.set.ensures.as_many ∙ c.self.invariant.as_many;
      clean = λ p h. c.set.ensures.others p (λ e. absurd (omega (arith, w, h, e))) ∙ c.self.invariant.clean p h;
      before = λ p h. c.set.ensures.others p (λ e. absurd (omega (arith, h, e, c.min-self-inside.ensures))) ∙ c.self.invariant.before p (omega (arith, h, c.min-self-inside.ensures));
      past_within = omega (arith, w, c.max-self-inside.ensures, c.self.invariant.past_within, c.self.invariant.as_many, c.set.ensures.as_many);
      behind = λ p h. c.set.ensures.others p (λ e. absurd (omega (arith, h, e, c.max-self-inside.ensures))) ∙ c.self.invariant.behind p (omega (arith, h, c.max-self-inside.ensures));
    }

pub returns : goal.returns
returns c =
    marks_put c.self.inside.count c.self.inside.words.items c.set.new.words.items c.args.place true (place_within c.self.inside.count c.self.inside.words.items c.args.self.now c.args.place c.self.view_is c.requires) c.set.ensures.here c.set.ensures.others
    ∙ ap (λ (ms : List Bool). slice_set ms c.args.place true) c.self.view_is
