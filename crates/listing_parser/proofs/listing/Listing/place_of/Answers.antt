use Rattle.std.proofs.Common.{◌≡◌, ◌∙◌, Bool, true, false, ℕ, List, [], Option, Some, None, sym, ap, refl, subst}
use Rattle.std.specs.Prelude.{slice_get}
use Rattle.thumb_model.specs.Listing.{Name, ListingLine, Place, code_of, place_of, places_of, labels_from, is_op_place}
use Rattle.thumb_model.specs.Steps.{label_place}
use Rattle.listing_parser.specs.Targets.{DefineOnce}
use Rattle.listing_parser.proofs.TwiceLemmas.{once_none}
use Rattle.listing_parser.proofs.LabelLemmas.{one_label, code_place}
use Rattle.listing_parser.proofs.listing.Listing.place_of.Goals as goal

told : (name : Name) (ls all : List ListingLine) (o : Option ℕ) → ls ≡ all → DefineOnce ls → o ≡ label_place name (labels_from 0 all) → code_place (places_of all) o ≡ place_of (code_of all) name
told name ls all o same once e =
    ap (code_place (places_of all)) e ∙ sym (one_label name (places_of all) 1 0 [] all (once_none all (subst DefineOnce same once)))

pub returns-in-None : goal.returns-in-None
unfolding code_place
returns-in-None c = told c.args.name.now _ c.args.self.now None c.self.view_is c.self.invariant.once (sym c.in-None.is ∙ c.label_place.ensures)

op : (places : List Place) (p : ℕ) (b : Bool) → b ≡ is_op_place (slice_get places p) → b ≡ true → Some p ≡ code_place places (Some p)
unfolding code_place
op places p b e h = rw (sym e ∙ h) refl

no_op : (places : List Place) (p : ℕ) (b : Bool) → b ≡ is_op_place (slice_get places p) → b ≡ false → None ≡ code_place places (Some p)
unfolding code_place
no_op places p b e h = rw (sym e ∙ h) refl

pub returns-then-is_op : goal.returns-then-is_op
returns-then-is_op c = op (places_of c.args.self.now) c.in-Some.place _ c.is_op.ensures c.if-is_op.true ∙ told c.args.name.now _ c.args.self.now (Some c.in-Some.place) c.self.view_is c.self.invariant.once (sym c.in-Some.is ∙ c.label_place.ensures)

pub returns-else-is_op : goal.returns-else-is_op
returns-else-is_op c = no_op (places_of c.args.self.now) c.in-Some.place _ c.is_op.ensures c.if-is_op.false ∙ told c.args.name.now _ c.args.self.now (Some c.in-Some.place) c.self.view_is c.self.invariant.once (sym c.in-Some.is ∙ c.label_place.ensures)
