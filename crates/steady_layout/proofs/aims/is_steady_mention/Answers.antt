use Rattle.std.proofs.Common.{◌≡◌, ◌∙◌, ◌<◌, false, List, ℕ, Option, Some, None, length, get_or, ap, sym, arith}
use Rattle.thumb_model.specs.Listing.{Name, ListingLine}
use Rattle.thumb_model.specs.Layout.{cleared, set_address}
use Rattle.listing_parser.specs.TableWords.{label_line}
use Rattle.listing_parser.proofs.LabelLemmas.{label_within}
use Rattle.steady_layout.specs.declared.starts.Start.{Start}
use Rattle.steady_layout.specs.Steady.{first, steady_aim, labels_in, sets_in}
use Rattle.steady_layout.specs.Starts.{AreStarts}
use Rattle.steady_layout.proofs.Lines.{as_many, label_at, no_label, aim_at_label}
use Rattle.steady_layout.proofs.aims.is_steady_mention.Goals as goal

within : (base : ℕ) (name : Name) (ls : List ListingLine) (starts : List Start) (m : ℕ) → AreStarts base ls starts → Some m ≡ label_line name 0 ls → m < length starts
within base name ls starts m h e =
    let below = label_within name ls m (sym e) in
    let many = as_many (first base) ls in
    omega (arith, below, many, ap length h.each)

found : (base : ℕ) (name : Name) (ls : List ListingLine) (starts : List Start) (m : ℕ) (other : Start) → AreStarts base ls starts → Some m ≡ label_line name 0 ls → Some (get_or starts m other) ≡ labels_in base ls name
found base name ls starts m other h e =
    ap (λ (ss : List Start). Some (get_or ss m other)) h.each ∙ sym (label_at name 0 m m (first base) other ls (sym e) (omega arith))

pub bounds-starts-line : goal.bounds-starts-line
bounds-starts-line c = within c.args.base c.deref.result.now c.args.listing.now c.args.starts.now c.in-Some.line c.requires c.in-Some.ensures

pub offset_bounds-starts-line : goal.offset_bounds-starts-line
offset_bounds-starts-line c = let below = within c.args.base c.deref.result.now c.args.listing.now c.args.starts.now c.in-Some.line c.requires c.in-Some.ensures in omega arith

pub returns-in-Some : goal.returns-in-Some
returns-in-Some c =
    let name = c.args.mention.now.name.items in
    let other : Start = record { at = 0; aligned = false } in
    let start = get_or c.args.starts.now c.in-Some.line other in
    let set = sets_in c.args.listing.now name in
    let label : Some start ≡ labels_in c.args.base c.args.listing.now name =
    found c.args.base name c.args.listing.now c.args.starts.now c.in-Some.line other c.requires (c.in-Some.ensures ∙ ap (λ (q : Name). label_line q 0 c.args.listing.now) c.deref.ensures.value) in
    c.steady_aim.ensures
    ∙ aim_at_label c.args.base c.args.here c.args.instr.now start None set c.args.mention.now.plus
    ∙ ap (λ (o : Option Start). steady_aim c.args.base c.args.here c.args.instr.now o set c.args.mention.now.plus) label

pub returns-in-None : goal.returns-in-None
returns-in-None c =
    let name = c.args.mention.now.name.items in
    let label : labels_in c.args.base c.args.listing.now name ≡ None =
    no_label name 0 (first c.args.base) c.args.listing.now (sym (c.in-None.ensures ∙ ap (λ (q : Name). label_line q 0 c.args.listing.now) c.deref.ensures.value)) in
    c.steady_aim-in-None.ensures
    ∙ ap (λ (o : Option ℕ). steady_aim c.args.base c.args.here c.args.instr.now None o c.args.mention.now.plus) (c.cleared-set.ensures ∙ ap cleared (c.set_address.ensures ∙ ap (λ (q : Name). set_address q c.args.listing.now) c.deref-in-None.ensures.value))
    ∙ ap (λ (o : Option Start). steady_aim c.args.base c.args.here c.args.instr.now o (sets_in c.args.listing.now name) c.args.mention.now.plus) (sym label)
