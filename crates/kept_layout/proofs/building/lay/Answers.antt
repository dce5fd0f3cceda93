use Rattle.std.proofs.Common.{◌∙◌, ◌+◌, List, map, drop, sym, subst, refl, arith}
use Rattle.std.proofs.Math.ListN.{drop_of_length-le}
use Rattle.thumb_model.specs.Listing.{ListingLine}
use Rattle.listing_parser.specs.declared.line.ListingLine.{ListingLine as Lines}
use Rattle.listing_parser.specs.Views.{line_view}
use Rattle.kept_layout.specs.declared.block.Head.TheVariants as head
use Rattle.kept_layout.specs.declared.block.Block.{Block}
use Rattle.kept_layout.specs.Cutting.{lies_at, part_footprints}
use Rattle.kept_layout.proofs.BuildingSteps.{IsBuilding, building_begun, building_more, building_next, building_last}
use Rattle.kept_layout.proofs.building.lay.Goals as goal
use Rattle.listing_parser.proofs.Shared.{next_line}

pub loop-line-init : goal.loop-line-init
loop-line-init c =
    let first : Block = record { at = c.args.base; head = head.Plain; bytes = 0; places = 0; callers = c.new.result; alignment = 0 } in
    building_begun (lies_at c.args.listing.now) c.args.base c.new-blocks.result.items first c.args.listing.now (map line_view c.lines-line-items.result.now)
    (omega (arith, c.if-base-gt-CODE_END.false)) refl refl refl refl c.new.ensures.items c.new-blocks.ensures.items c.lines-line-items.ensures

pub loop-line-preserved-then-not-begins : goal.loop-line-preserved-then-not-begins
loop-line-preserved-then-not-begins c =
    let find = lies_at c.args.listing.now in
    let footprints = part_footprints c.args.listing.now in
    let lines = c.lines-line-items.result.now in
    let line = c.line-item.result in
    let last = c.loop-line.last in
    let rest = map line_view (drop (c.loop-line.line-index + 1) lines) in
    let split = next_line lines c.loop-line.line-index line c.loop-line-test.true c.line-item.is in
    building_more find c.args.base footprints c.loop-line.blocks.items last c.add_line.new.block (line_view line) rest
    (subst (λ (ls : List ListingLine). IsBuilding find c.args.base footprints c.loop-line.blocks.items last ls) split c.loop-line.invariant)
    (sym c.begins.ensures ∙ c.if-not-begins.true)
    (record {
      at = c.add_line.ensures.at;
      head = c.add_line.ensures.head;
      bytes = c.in_ok-add_line.ensures.bytes;
      in_code = c.in_ok-add_line.ensures.in_code;
      places = c.in_ok-add_line.ensures.places;
      callers = c.add_line.ensures.callers;
    })

pub loop-line-preserved : goal.loop-line-preserved
loop-line-preserved c =
    let find = lies_at c.args.listing.now in
    let footprints = part_footprints c.args.listing.now in
    let lines = c.lines-line-items.result.now in
    let line = c.line-item.result in
    let last = c.loop-line.last in
    let rest = map line_view (drop (c.loop-line.line-index + 1) lines) in
    let split = next_line lines c.loop-line.line-index line c.loop-line-test.true c.line-item.is in
    building_next find c.args.base footprints c.loop-line.blocks.items c.push.new.self.items last c.in_ok-last.last (line_view line) rest
    (subst (λ (ls : List ListingLine). IsBuilding find c.args.base footprints c.loop-line.blocks.items last ls) split c.loop-line.invariant)
    (sym c.begins.ensures ∙ c.if-not-begins.false) c.in_ok-push.ensures.items
    (record {
      at = c.in_ok-last.ensures.at ∙ c.in_ok-at.ensures.value;
      low = omega (arith, c.in_ok-last.ensures.at, c.in_ok-at.ensures.in_code);
      head = c.in_ok-last.ensures.head;
      bytes = c.in_ok-last.ensures.bytes;
      in_code = c.in_ok-last.ensures.in_code;
      places = c.in_ok-last.ensures.places;
      callers = c.in_ok-last.ensures.callers;
    })

pub returns : goal.returns
returns c =
    let find = lies_at c.args.listing.now in
    let footprints = part_footprints c.args.listing.now in
    let none = drop_of_length-le c.lines-line-items.result.now c.loop-line-test.false in
    let building =
    subst (λ (ls : List Lines). IsBuilding find c.args.base footprints c.loop-line.blocks.items c.loop-line.last (map line_view ls)) none c.loop-line.invariant in
    let built =
    building_last find c.args.base c.in_ok-behind.field-0 footprints c.loop-line.blocks.items c.push-2.new.self.items c.loop-line.last building c.in_ok-push-2.ensures.items c.in_ok-behind.ensures.value c.in_ok-behind.ensures.in_code in
    record { footprints = built.are; starts = built.starts; in_code = built.end; callers = built.callers }
