use Rattle.std.proofs.Common.{◌<◌, ◌≤◌, ◌∙◌, List, Bool, length, refl, subst, sym}
use Rattle.std.proofs.lemmas.Bool.{ltb-true, ltb-false}
use Rattle.std.proofs.lemmas.Option.{slice_get_read}
use Rattle.kept_places.specs.Marks.{IsNode}
use Rattle.edited_listing.specs.Edited.{Edited}
use Rattle.edited_listing.proofs.Ops.{op_found, op_none}
use Rattle.edited_listing.proofs.passing.is_op_behind.Goals as goal

pub returns-in-None-clause-op : goal.returns-in-None-clause-op
returns-in-None-clause-op c =
    let node = subst (λ (ms : List Bool). IsNode ms c.pass-at.result c.node-next.result) (c.pass-at.ensures.same ∙ c.requires.marks) c.node-next.ensures.node in
    let past : length c.args.stands.now ≤ c.node-next.result = ltb-false _ _ (sym c.in-None.ensures.lookup.0) in
    let e : Edited = record { given = c.args.listing.now; stands = c.args.stands.now } in
    op_none e e c.args.from c.args.count c.pass-at.result c.node-next.result c.requires.edited refl c.requires.within c.pass-at.ensures.rest node past

pub returns-in-Some-clause-op : goal.returns-in-Some-clause-op
returns-in-Some-clause-op c =
    let node = subst (λ (ms : List Bool). IsNode ms c.pass-at.result c.node-next.result) (c.pass-at.ensures.same ∙ c.requires.marks) c.node-next.ensures.node in
    let low : c.node-next.result < length c.args.stands.now = ltb-true _ _ (sym c.in-Some.ensures.lookup.0) in
    let at = slice_get_read c.args.stands.now (length c.args.stands.now) c.node-next.result c.in-Some.standing.now refl low c.in-Some.ensures.lookup.1 in
    let e : Edited = record { given = c.args.listing.now; stands = c.args.stands.now } in
    c.is_op_at.ensures ∙ op_found e e c.args.from c.args.count c.pass-at.result c.node-next.result c.in-Some.standing.now c.requires.edited refl c.requires.within c.pass-at.ensures.rest node at
