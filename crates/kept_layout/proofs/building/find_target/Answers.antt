use Rattle.std.proofs.Common.{◌≡◌, ◌∙◌, ◌<◌, ℕ, List, Some, None, length, get_or, ap, sym, arith}
use Rattle.thumb_model.specs.Listing.{Name, ListingLine}
use Rattle.thumb_model.specs.Layout.{cleared}
use Rattle.listing_parser.specs.TableWords.{label_line}
use Rattle.listing_parser.proofs.LabelLemmas.{label_within}
use Rattle.kept_layout.specs.declared.block.NameLocation.TheVariants as location
use Rattle.kept_layout.specs.Kept.{target_at}
use Rattle.kept_layout.specs.Cutting.{numbers_from}
use Rattle.kept_layout.proofs.BuildingParts.{as_many_numbers, lies_at_label, lies_at_set}
use Rattle.kept_layout.proofs.building.find_target.Goals as goal

within : (name : Name) (ls : List ListingLine) (numbers : List ℕ) (m : ℕ) → numbers ≡ numbers_from 0 ls → Some m ≡ label_line name 0 ls → m < length numbers
within name ls numbers m h e =
    let below = label_within name ls m (sym e) in
    let many = as_many_numbers 0 ls in
    omega (arith, ap (λ (ns : List ℕ). length ns) h)

pub offset_bounds-numbers-line : goal.offset_bounds-numbers-line
offset_bounds-numbers-line c = let below = within c.args.name.now c.args.listing.now c.args.numbers.now c.in-Some.line c.requires c.in-Some.ensures in omega arith

pub bounds-numbers-line : goal.bounds-numbers-line
bounds-numbers-line c = within c.args.name.now c.args.listing.now c.args.numbers.now c.in-Some.line c.requires c.in-Some.ensures

pub returns-in-Some : goal.returns-in-Some
returns-in-Some c = ap (λ (ns : List ℕ). Some (location.Block (get_or ns c.in-Some.line 0))) c.requires ∙ sym (lies_at_label c.args.name.now c.in-Some.line 0 c.args.listing.now (sym c.in-Some.ensures))

pub returns-in-Some-cleared : goal.returns-in-Some-cleared
returns-in-Some-cleared c = sym (lies_at_set c.args.name.now c.args.listing.now (sym c.in-None.ensures) ∙ ap (target_at None) (sym (c.in-Some-cleared.ensures ∙ ap cleared c.set_address.ensures)))

pub returns-in-None-cleared : goal.returns-in-None-cleared
returns-in-None-cleared c = sym (lies_at_set c.args.name.now c.args.listing.now (sym c.in-None.ensures) ∙ ap (target_at None) (sym (c.in-None-cleared.ensures ∙ ap cleared c.set_address.ensures)))
