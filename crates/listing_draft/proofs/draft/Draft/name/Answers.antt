use Rattle.std.proofs.Common.{◌∙◌, ◌<◌, ℕ, List, Some, length, ap, refl, sym, arith}
use Rattle.std.proofs.lemmas.Option.{slice_get_read}
use Rattle.listing_draft.specs.Drafted.{name_in, Drafted}
use Rattle.listing_draft.proofs.Drafts.{given_name, names_length, no_name, own_name}
use Rattle.listing_draft.proofs.draft.Draft.name.Goals as goal

pub returns-then-is_op : goal.returns-then-is_op
returns-then-is_op c =
    let within : c.args.place < length c.self.inside.aims.items = omega (arith, c.requires.within, ap (λ (d : Drafted). length d.gone) c.self.view_is, c.self.invariant.draft.marks, c.self.invariant.draft.labels, names_length c.self.inside.aims.items) in
    let at = slice_get_read c.self.inside.aims.items (length c.self.inside.aims.items) c.args.place c.index.result.now refl within c.index.ensures ∙ ap (λ s. Some s) c.in-Some.is in
    ap (λ (xs : List ℕ). Some xs) c.as_slice.ensures.value
    ∙ own_name c.self.inside.listing c.self.inside.kept c.self.inside.aims.items c.args.self.now c.args.place c.self.view_is c.self.invariant.draft c.requires.kept c.in-Some.name at (sym c.is_op.ensures ∙ c.if-is_op.true)

pub returns-else-is_op : goal.returns-else-is_op
returns-else-is_op c =
    let within : c.args.place < length c.self.inside.aims.items = omega (arith, c.requires.within, ap (λ (d : Drafted). length d.gone) c.self.view_is, c.self.invariant.draft.marks, c.self.invariant.draft.labels, names_length c.self.inside.aims.items) in
    let at = slice_get_read c.self.inside.aims.items (length c.self.inside.aims.items) c.args.place c.index.result.now refl within c.index.ensures ∙ ap (λ s. Some s) c.in-Some.is in
    no_name c.self.inside.listing c.self.inside.kept c.self.inside.aims.items c.args.self.now c.args.place c.self.view_is c.self.invariant.draft c.requires.kept c.in-Some.name at (sym c.is_op.ensures ∙ c.if-is_op.false)

pub returns-in-None : goal.returns-in-None
returns-in-None c =
    let within : c.args.place < length c.self.inside.aims.items = omega (arith, c.requires.within, ap (λ (d : Drafted). length d.gone) c.self.view_is, c.self.invariant.draft.marks, c.self.invariant.draft.labels, names_length c.self.inside.aims.items) in
    let at = slice_get_read c.self.inside.aims.items (length c.self.inside.aims.items) c.args.place c.index.result.now refl within c.index.ensures ∙ ap (λ s. Some s) c.in-None.is in
    c.name_of.ensures ∙ ap name_in c.place.ensures
    ∙ given_name c.self.inside.listing c.self.inside.kept c.self.inside.aims.items c.args.self.now c.args.place c.self.view_is c.self.invariant.draft c.requires.kept at
