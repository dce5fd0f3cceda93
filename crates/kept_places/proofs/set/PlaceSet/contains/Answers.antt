use Rattle.std.proofs.Common.{◌∙◌, ap, sym, ℕ, List, Bool, length, arith}
use Rattle.kept_places.specs.Marks.{marked}
use Rattle.kept_places.specs.Members.{has}
use Rattle.kept_places.proofs.Members.{bit_within, marked_has}
use Rattle.kept_places.proofs.set.PlaceSet.contains.Goals as goal

pub has-requires : goal.has-requires
has-requires c = omega (arith, bit_within c.self.inside.count c.self.inside.words.items c.args.self.now c.args.place c.self.invariant.as_many c.self.view_is c.requires, ap length c.deref.ensures.value)

pub returns : goal.returns
returns c =
    c.has.ensures ∙ ap (λ (words : List ℕ). has words c.args.place) c.deref.ensures.value
    ∙ sym (marked_has c.self.inside.count c.self.inside.words.items c.self.invariant.clean c.args.place) ∙ ap (λ (ms : List Bool). marked ms c.args.place) c.self.view_is
