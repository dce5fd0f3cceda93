use Rattle.std.proofs.Common.{◌∙◌, ◌<◌, Bool, List, [], ap, arith, length, refl}
use Rattle.std.specs.Prelude.{slice_get}
use Rattle.edited_listing.specs.declared.standing.Standing.{Standing}
use Rattle.edited_listing.specs.Edited.{Edited}
use Rattle.edited_listing.proofs.Held.{labels_within, lines_few, label_small, after_counted}
use Rattle.edited_listing.proofs.listing.EditedListing.lines_after.Goals as goal

pub label_lines-labels-requires-clause-labels : goal.label_lines-labels-requires-clause-labels
label_lines-labels-requires-clause-labels c =
    let within : c.args.place < length c.self.inside.stands.items = omega (arith, c.requires.within, ap (λ (e : Edited). length e.stands) c.self.view_is) in
    let labels = labels_within c.self.inside.listing c.self.inside.stands.items c.self.inside.kept c.self.inside.is_changed c.self.inside.labelled.items c.self.inside.line_count c.args.place c.self.invariant within in
    omega (arith, labels, ap (λ (bs : List Bool). length bs) c.deref.ensures.value)

pub overflow_add-result : goal.overflow_add-result
overflow_add-result c =
    let lines = lines_few c.self.inside.listing c.self.inside.stands.items c.self.inside.kept c.self.inside.is_changed c.self.inside.labelled.items c.self.inside.line_count c.self.invariant in
    omega (arith, lines, c.requires.few, c.ranges.count.fits)

pub overflow_add-result-2 : goal.overflow_add-result-2
overflow_add-result-2 c =
    let within : c.args.place < length c.self.inside.stands.items = omega (arith, c.requires.within, ap (λ (e : Edited). length e.stands) c.self.view_is) in
    let lines = lines_few c.self.inside.listing c.self.inside.stands.items c.self.inside.kept c.self.inside.is_changed c.self.inside.labelled.items c.self.inside.line_count c.self.invariant in
    let label = label_small c.self.inside.listing c.self.inside.stands.items c.self.inside.kept c.self.inside.is_changed c.self.inside.labelled.items c.self.inside.line_count c.args.place c.label_lines-labels.result c.self.invariant within
    (λ b s x y. c.label_lines-labels.ensures b s (ap (λ (bs : List Bool). slice_get bs c.args.place) c.deref.ensures.value ∙ x) (ap (λ (ss : List Standing). slice_get ss c.args.place) c.deref-2.ensures.value ∙ y)) in
    omega (arith, lines, label, c.requires.few, c.ranges.count.fits)

pub overflow_sub-result : goal.overflow_sub-result
overflow_sub-result c =
    let within : c.args.place < length c.self.inside.stands.items = omega (arith, c.requires.within, ap (λ (e : Edited). length e.stands) c.self.view_is) in
    let counted = after_counted c.self.inside.listing c.self.inside.stands.items c.self.inside.kept c.self.inside.is_changed c.self.inside.labelled.items c.self.inside.line_count c.args.place c.args.count 0 [] c.label_lines-labels.result c.args.self.now c.self.invariant c.self.view_is within c.requires.kept c.requires.some refl (omega arith) c.requires.window c.requires.unlabelled
    (λ b s x y. c.label_lines-labels.ensures b s (ap (λ (bs : List Bool). slice_get bs c.args.place) c.deref.ensures.value ∙ x) (ap (λ (ss : List Standing). slice_get ss c.args.place) c.deref-2.ensures.value ∙ y)) in
    omega (arith, counted)

pub returns : goal.returns
returns c = λ new n.
    let within : c.args.place < length c.self.inside.stands.items = omega (arith, c.requires.within, ap (λ (e : Edited). length e.stands) c.self.view_is) in
    let counted = after_counted c.self.inside.listing c.self.inside.stands.items c.self.inside.kept c.self.inside.is_changed c.self.inside.labelled.items c.self.inside.line_count c.args.place c.args.count c.args.new_count new c.label_lines-labels.result c.args.self.now c.self.invariant c.self.view_is within c.requires.kept c.requires.some n c.requires.few c.requires.window c.requires.unlabelled
    (λ b s x y. c.label_lines-labels.ensures b s (ap (λ (bs : List Bool). slice_get bs c.args.place) c.deref.ensures.value ∙ x) (ap (λ (ss : List Standing). slice_get ss c.args.place) c.deref-2.ensures.value ∙ y)) in
    omega (arith, counted)
