use Rattle.std.proofs.Common.{◌∙◌, List, Bool, length, ap, subst, arith, set}
use Rattle.kept_places.specs.Marks.{is_gone, IsNode}
use Rattle.thumb_model.proofs.Lists.{length_map}
use Rattle.edited_listing.specs.Changes.{is_none, marks_of}
use Rattle.edited_listing.proofs.Steps.{marks_set, node_within, some_within}
use Rattle.edited_listing.proofs.giving.put.Goals as goal

pub node-place-requires : goal.node-place-requires
node-place-requires c =
    let within = some_within c.args.from 0 c.args.stands.now.items c.requires.some in
    let same = ap length c.requires.marks ∙ length_map is_none c.args.stands.now.items in
    omega arith

pub note-requires-clause-within : goal.note-requires-clause-within
note-requires-clause-within c =
    let node : IsNode (marks_of c.args.stands.now.items) c.args.from c.node-place.result = subst (λ (ms : List Bool). IsNode ms c.args.from c.node-place.result) c.requires.marks c.node-place.ensures.node in
    let within = node_within c.args.from c.node-place.result c.args.stands.now.items c.requires.some node in
    let same = ap length (c.node-place.ensures.same ∙ c.requires.marks) ∙ length_map is_none c.args.stands.now.items in
    omega arith

pub note-requires-clause-kept : goal.note-requires-clause-kept
note-requires-clause-kept c = ap (λ ms. is_gone ms c.node-place.result) c.node-place.ensures.same ∙ c.node-place.ensures.node.kept

pub index_mut-requires : goal.index_mut-requires
index_mut-requires c =
    let within = node_within c.args.from c.node-place.result c.args.stands.now.items c.requires.some (subst (λ (ms : List Bool). IsNode ms c.args.from c.node-place.result) c.requires.marks c.node-place.ensures.node) in
    omega (arith, c.args.stands.now.ok)

pub returns-clause-next : goal.returns-clause-next
returns-clause-next c = subst (λ (ms : List Bool). IsNode ms c.args.from c.node-place.result) c.requires.marks c.node-place.ensures.node

pub returns-clause-within : goal.returns-clause-within
returns-clause-within c =
    node_within c.args.from c.node-place.result c.args.stands.now.items c.requires.some (subst (λ (ms : List Bool). IsNode ms c.args.from c.node-place.result) c.requires.marks c.node-place.ensures.node)

pub returns-clause-marks : goal.returns-clause-marks
returns-clause-marks c =
    c.note.ensures ∙ ap (λ ms. set ms c.node-place.result (is_none c.args.standing)) (c.node-place.ensures.same ∙ c.requires.marks) ∙ marks_set c.args.stands.now.items c.node-place.result c.args.standing
