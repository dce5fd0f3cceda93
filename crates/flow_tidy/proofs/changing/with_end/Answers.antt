use Rattle.std.proofs.Common.{◌≡◌, ◌∙◌, true, false, List, sym, ap, subst}
use Rattle.thumb_model.specs.Listing.{ListingLine, code_of, is_op_place}
use Rattle.flow_tidy.specs.Tidying.{ToEnd, setting}
use Rattle.flow_tidy.specs.Made.{IsWithin}
use Rattle.listing_parser.specs.Grammar.{longest_line, most_lines}
use Rattle.flow_tidy.proofs.Making.{end_is_found, made_within, no_end_none, not_end, not_layable}
use Rattle.flow_tidy.proofs.changing.with_end.Goals as goal

pub returns-in_default-chain_end : goal.returns-in_default-chain_end
returns-in_default-chain_end c =
    let code = code_of c.args.listing.now in
    not_end (setting c.args.laid.now.base) c.args.place c.args.listing.now (no_end_none code c.args.place c.in-Some.label.now (sym c.in-Some.ensures) c.in_default-chain_end.ensures)

pub reaches-requires-clause-op : goal.reaches-requires-clause-op
reaches-requires-clause-op c =
    let end = end_is_found (code_of c.args.listing.now) c.args.place c.in-Some.label.now c.in-Some-chain_end.end.now (sym c.in-Some.ensures) c.in-Some-chain_end.ensures in
    ap is_op_place end.stands

pub returns-then-not-reaches : goal.returns-then-not-reaches
returns-then-not-reaches c =
    let s = setting c.args.laid.now.base in
    let end = end_is_found (code_of c.args.listing.now) c.args.place c.in-Some.label.now c.in-Some-chain_end.end.now (sym c.in-Some.ensures) c.in-Some-chain_end.ensures in
    not_layable s c.args.place (ToEnd c.in-Some-chain_end.end.now) c.args.listing.now end (λ l. let no : true ≡ false = sym (c.reaches.ensures.1 l) ∙ c.if-not-reaches.true in absurd (cc))

pub returns : goal.returns
returns c =
    let s = setting c.args.laid.now.base in
    let end = end_is_found (code_of c.args.listing.now) c.args.place c.in-Some.label.now c.in-Some-chain_end.end.now (sym c.in-Some.ensures) c.in-Some-chain_end.ensures in
    made_within s c.args.place (ToEnd c.in-Some-chain_end.end.now) c.args.listing.now c.within_limits.result end (c.reaches.ensures.0 c.if-not-reaches.false)
    (subst (λ (ls : List ListingLine). IsWithin most_lines longest_line ls c.within_limits.result) c.in_ok-new.ensures c.within_limits.ensures)
