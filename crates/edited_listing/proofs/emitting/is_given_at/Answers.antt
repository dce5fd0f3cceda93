use Rattle.std.proofs.Common.{◌<◌, ◌≤◌, ◌∙◌, List, Bool, length, refl, subst, sym}
use Rattle.std.proofs.lemmas.Bool.{ltb-true, ltb-false}
use Rattle.std.proofs.lemmas.Option.{slice_get_read}
use Rattle.kept_places.specs.Marks.{IsNode}
use Rattle.edited_listing.proofs.Emits.{given_same, given_other, given_none}
use Rattle.edited_listing.proofs.emitting.is_given_at.Goals as goal

pub returns-then-next-place-clause-given : goal.returns-then-next-place-clause-given
returns-then-next-place-clause-given c =
    let node = subst (λ (ms : List Bool). IsNode ms c.args.from c.node-next.result) c.requires.marks c.node-next.ensures.node in
    let low : c.node-next.result < length c.args.stands.now = ltb-true _ _ (sym c.in-Some.ensures.lookup.0) in
    let at = slice_get_read c.args.stands.now (length c.args.stands.now) c.node-next.result c.in-Some.standing.now refl low c.in-Some.ensures.lookup.1 in
    c.is_given.ensures ∙ given_same c.args.place c.args.from c.node-next.result c.args.stands.now c.in-Some.standing.now node at c.if-next-place.true

pub returns-else-next-place-clause-given : goal.returns-else-next-place-clause-given
returns-else-next-place-clause-given c =
    let node = subst (λ (ms : List Bool). IsNode ms c.args.from c.node-next.result) c.requires.marks c.node-next.ensures.node in
    let low : c.node-next.result < length c.args.stands.now = ltb-true _ _ (sym c.in-Some.ensures.lookup.0) in
    let at = slice_get_read c.args.stands.now (length c.args.stands.now) c.node-next.result c.in-Some.standing.now refl low c.in-Some.ensures.lookup.1 in
    given_other c.args.place c.args.from c.node-next.result c.args.stands.now c.in-Some.standing.now node at c.if-next-place.false

pub returns-in-None-clause-given : goal.returns-in-None-clause-given
returns-in-None-clause-given c =
    let node = subst (λ (ms : List Bool). IsNode ms c.args.from c.node-next.result) c.requires.marks c.node-next.ensures.node in
    let past : length c.args.stands.now ≤ c.node-next.result = ltb-false _ _ (sym c.in-None.ensures.lookup.0) in
    given_none c.args.place c.args.from c.node-next.result c.args.stands.now node past
