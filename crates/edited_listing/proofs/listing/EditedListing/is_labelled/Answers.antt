use Rattle.std.proofs.Common.{◌<◌, ◌∙◌, List, ap, arith, length}
use Rattle.kept_places.specs.Marks.{is_gone}
use Rattle.edited_listing.specs.declared.standing.Standing.{Standing}
use Rattle.edited_listing.specs.Edited.{Edited, marks}
use Rattle.edited_listing.specs.Looks.{home_of_place}
use Rattle.edited_listing.proofs.Looking.{IsBehind, behind_none, behind_some, home_within, labelled_now}
use Rattle.edited_listing.proofs.listing.EditedListing.is_labelled.Goals.{in-None, in-Some}
use Rattle.edited_listing.proofs.listing.EditedListing.is_labelled.Goals as goal

pub overflow_add-from : goal.overflow_add-from
overflow_add-from c =
    let e : Edited = record { given = c.self.inside.listing; stands = c.self.inside.stands.items } in
    let within : c.args.place < length c.self.inside.stands.items = omega (arith, c.requires.within, ap (λ (x : Edited). length x.stands) c.self.view_is) in
    let home = home_within e c.in-Some.before c.self.invariant.edited (omega (arith, c.in-Some.ensures.some.0)) (ap (λ (x : Edited). is_gone (marks x) c.in-Some.before) c.self.view_is ∙ c.in-Some.ensures.some.1) in
    let is = c.home.ensures ∙ ap (λ (ss : List Standing). home_of_place ss c.in-Some.before) c.deref.ensures.value in
    omega (arith, home, is, c.self.invariant.few, c.self.invariant.edited.as_many)

pub has_label-requires : goal.has_label-requires
has_label-requires c =
    let e : Edited = record { given = c.self.inside.listing; stands = c.self.inside.stands.items } in
    let within : c.args.place < length c.self.inside.stands.items = omega (arith, c.requires.within, ap (λ (x : Edited). length x.stands) c.self.view_is) in
    let home = home_within e c.args.place c.self.invariant.edited within (ap (λ (x : Edited). is_gone (marks x) c.args.place) c.self.view_is ∙ c.requires.kept) in
    let is = c.home-2.ensures ∙ ap (λ (ss : List Standing). home_of_place ss c.args.place) c.deref-2.ensures.value in
    omega (arith, home, is)

pub returns : goal.returns
returns c =
    let e : Edited = record { given = c.self.inside.listing; stands = c.self.inside.stands.items } in
    let within : c.args.place < length c.self.inside.stands.items = omega (arith, c.requires.within, ap (λ (x : Edited). length x.stands) c.self.view_is) in
    let behind : IsBehind e c.match-previous.from c.args.place = elim c.match-previous.branch [
      | in-None w ↦ behind_none e c.args.self.now c.args.place c.match-previous.from c.self.view_is w.from-is w.in-None.ensures.none
      | in-Some w ↦ behind_some e c.args.self.now c.args.place c.match-previous.from w.in-Some.before w.home.result c.self.view_is within w.from-is (w.home.ensures ∙ ap (λ (ss : List Standing). home_of_place ss w.in-Some.before) w.deref.ensures.value) w.in-Some.ensures.some
    ] in
    labelled_now e c.args.self.now c.args.place c.match-previous.from c.home-2.result c.has_label.result c.self.view_is c.self.invariant.edited within c.requires.kept behind (c.home-2.ensures ∙ ap (λ (ss : List Standing). home_of_place ss c.args.place) c.deref-2.ensures.value) c.has_label.ensures
