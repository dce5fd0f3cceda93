use Rattle.std.proofs.Common.{◌<◌, ◌∙◌, ap, refl, length, arith, sym, List, ℕ}
use Rattle.thumb_model.specs.Listing.{ListingLine}
use Rattle.std.proofs.lemmas.Option.{slice_get_read}
use Rattle.edited_listing.specs.Changes.{giving_from}
use Rattle.edited_listing.specs.Edited.{Edited}
use Rattle.edited_listing.proofs.Held.{window_at, items_enough, holds_after, lines_after, exchange_after}
use Rattle.edited_listing.proofs.listing.EditedListing.replace.Goals as goal

pub give_way-requires-clause-many : goal.give_way-requires-clause-many
give_way-requires-clause-many c =
    let within : c.args.place < length c.self.inside.stands.items = omega (arith, c.requires.within, ap (λ (e : Edited). length e.stands) c.self.view_is) in
    let at = slice_get_read c.self.inside.stands.items (length c.self.inside.stands.items) c.args.place c.index.result.now refl within c.index.ensures in
    let w = window_at (record { given = c.self.inside.listing; stands = c.self.inside.stands.items }) c.args.self.now c.args.place c.args.count c.args.new.now c.index.result.now c.self.view_is at c.requires.kept c.requires.some c.requires.few c.requires.window c.requires.unlabelled in
    items_enough c.self.inside.listing c.self.inside.stands.items c.self.inside.kept c.self.inside.is_changed c.self.inside.labelled.items c.self.inside.line_count c.args.place c.args.count c.args.new.now c.index.result.now c.self.invariant w

pub invariant_of-self : goal.invariant_of-self
invariant_of-self c =
    let within : c.args.place < length c.self.inside.stands.items = omega (arith, c.requires.within, ap (λ (e : Edited). length e.stands) c.self.view_is) in
    let at = slice_get_read c.self.inside.stands.items (length c.self.inside.stands.items) c.args.place c.index.result.now refl within c.index.ensures in
    let w = window_at (record { given = c.self.inside.listing; stands = c.self.inside.stands.items }) c.args.self.now c.args.place c.args.count c.args.new.now c.index.result.now c.self.view_is at c.requires.kept c.requires.some c.requires.few c.requires.window c.requires.unlabelled in
    holds_after c.self.inside.listing c.self.inside.stands.items c.self.inside.kept c.self.inside.is_changed c.self.inside.labelled.items c.self.inside.line_count c.args.place c.args.count c.args.new.now c.index.result.now c.give_way.new.stands.items c.give_way.new.kept c.lines_after-line_count.result c.self.invariant w
    (c.give_way.ensures.stands ∙ ap (λ (h : ℕ). giving_from c.args.place c.args.count c.args.new.now h c.self.inside.stands.items) c.home-home.ensures) c.give_way.ensures.marks
    (c.lines_after-line_count.ensures c.args.new.now refl ∙ ap (λ (ls : List ListingLine). length ls) (sym (lines_after c.self.inside.listing c.self.inside.stands.items c.self.inside.kept c.self.inside.is_changed c.self.inside.labelled.items c.self.inside.line_count c.args.place c.args.count c.args.new.now c.index.result.now c.give_way.new.stands.items c.args.self.now c.self.invariant w
    (c.give_way.ensures.stands ∙ ap (λ (h : ℕ). giving_from c.args.place c.args.count c.args.new.now h c.self.inside.stands.items) c.home-home.ensures) c.self.view_is)))

pub returns-clause-lines : goal.returns-clause-lines
returns-clause-lines c =
    let within : c.args.place < length c.self.inside.stands.items = omega (arith, c.requires.within, ap (λ (e : Edited). length e.stands) c.self.view_is) in
    let at = slice_get_read c.self.inside.stands.items (length c.self.inside.stands.items) c.args.place c.index.result.now refl within c.index.ensures in
    let w = window_at (record { given = c.self.inside.listing; stands = c.self.inside.stands.items }) c.args.self.now c.args.place c.args.count c.args.new.now c.index.result.now c.self.view_is at c.requires.kept c.requires.some c.requires.few c.requires.window c.requires.unlabelled in
    lines_after c.self.inside.listing c.self.inside.stands.items c.self.inside.kept c.self.inside.is_changed c.self.inside.labelled.items c.self.inside.line_count c.args.place c.args.count c.args.new.now c.index.result.now c.give_way.new.stands.items c.args.self.now c.self.invariant w
    (c.give_way.ensures.stands ∙ ap (λ (h : ℕ). giving_from c.args.place c.args.count c.args.new.now h c.self.inside.stands.items) c.home-home.ensures) c.self.view_is

pub returns-clause-gone : goal.returns-clause-gone
returns-clause-gone c = λ ps n a.
    (exchange_after c.self.inside.listing c.self.inside.stands.items c.args.place c.args.count c.args.new.now c.index.result.now c.give_way.new.stands.items c.args.self.now
    (c.give_way.ensures.stands ∙ ap (λ (h : ℕ). giving_from c.args.place c.args.count c.args.new.now h c.self.inside.stands.items) c.home-home.ensures) c.self.view_is ps n a).0

pub returns-clause-padded : goal.returns-clause-padded
returns-clause-padded c = λ ps n a.
    (exchange_after c.self.inside.listing c.self.inside.stands.items c.args.place c.args.count c.args.new.now c.index.result.now c.give_way.new.stands.items c.args.self.now
    (c.give_way.ensures.stands ∙ ap (λ (h : ℕ). giving_from c.args.place c.args.count c.args.new.now h c.self.inside.stands.items) c.home-home.ensures) c.self.view_is ps n a).1
