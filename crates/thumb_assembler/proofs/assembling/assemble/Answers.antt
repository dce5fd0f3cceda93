use Rattle.std.proofs.Common.{◌≡◌, ◌∙◌, ◌+◌, ◌≤◌, ℕ, List, length, map, sym, ap, subst, arith, None}
use Rattle.thumb_model.specs.Listing.{ListingLine}
use Rattle.thumb_model.specs.Layout.{fault_at, lies_in, end_of}
use Rattle.listing_parser.specs.Parsing.{text_of_lines}
use Rattle.listing_parser.specs.Views.{line_view, statement_view}
use Rattle.label_layout.proofs.Sums.{at_end}
use Rattle.thumb_model.proofs.Lists.{length_map}
use Rattle.thumb_assembler.specs.Bytes.{AreImage, first_flaw}
use Rattle.thumb_assembler.specs.Pushes.{PushedLaid}
use Rattle.thumb_assembler.proofs.Fairness.{listed_fair, few_lines}
use Rattle.thumb_assembler.proofs.Assembled.{progress_first, next_here, progress_next, progress_ends, ends_here}
use Rattle.thumb_assembler.proofs.assembling.assemble.Goals as goal

pub overflow_sub-end : goal.overflow_sub-end
overflow_sub-end c =
    let least = at_end c.args.layout.now.base c.args.listing.now in
    let end = c.requires.laid.end in
    omega arith

pub loop-line-init : goal.loop-line-init
loop-line-init c = record {
  number = omega arith;
  progress =
      progress_first c.args.layout.now.base c.base-base.result c.args.listing.now (map line_view c.lines-line-items.result.now) c.in-Ok.bytes.items c.base-base.ensures c.lines-line-items.ensures (c.in-Ok.ensures {u = tt}).items c.requires.layable
      (listed_fair (text_of_lines c.args.listing.now) c.args.listing.now c.requires.listed) c.requires.even;
}

pub overflow_cast-at : goal.overflow_cast-at
overflow_cast-at c =
    let next =
    next_here c.base-base.result c.args.listing.now c.loop-line.number (c.base-base.result + length c.loop-line.bytes.items) c.lines-line-items.result.now c.loop-line.line-index c.line-item.result c.loop-line.bytes.items c.loop-line-test.true c.line-item.is
    c.loop-line.invariant.progress in
    let within : c.base-base.result + length c.loop-line.bytes.items ≤ end_of c.base-base.result c.args.listing.now = next.within in
    let base = ap (λ (b : ℕ). end_of b c.args.listing.now) c.base-base.ensures in
    let end = c.requires.laid.end in
    let long = c.loop-line.bytes.ok.0 in
    omega arith

pub overflow_add-at : goal.overflow_add-at
overflow_add-at c =
    let next =
    next_here c.base-base.result c.args.listing.now c.loop-line.number (c.base-base.result + length c.loop-line.bytes.items) c.lines-line-items.result.now c.loop-line.line-index c.line-item.result c.loop-line.bytes.items c.loop-line-test.true c.line-item.is
    c.loop-line.invariant.progress in
    let within : c.base-base.result + length c.loop-line.bytes.items ≤ end_of c.base-base.result c.args.listing.now = next.within in
    let base = ap (λ (b : ℕ). end_of b c.args.listing.now) c.base-base.ensures in
    let end = c.requires.laid.end in
    let long = c.loop-line.bytes.ok.0 in
    omega arith

pub overflow_add-number : goal.overflow_add-number
overflow_add-number c =
    let few = few_lines (text_of_lines c.args.listing.now) c.args.listing.now c.requires.listed in
    let same = ap (λ (ls : List ListingLine). length ls) c.lines-line-items.ensures in
    let views = length_map line_view c.lines-line-items.result.now in
    omega arith

pub push_statement-requires-clause-ready : goal.push_statement-requires-clause-ready
push_statement-requires-clause-ready c = record { addresses = c.requires.laid; even = c.requires.even; fair = listed_fair (text_of_lines c.args.listing.now) c.args.listing.now c.requires.listed }

pub push_statement-requires-clause-fair : goal.push_statement-requires-clause-fair
push_statement-requires-clause-fair c =
    (next_here c.base-base.result c.args.listing.now c.loop-line.number (c.base-base.result + length c.loop-line.bytes.items) c.lines-line-items.result.now c.loop-line.line-index c.line-item.result c.loop-line.bytes.items c.loop-line-test.true c.line-item.is
    c.loop-line.invariant.progress).fair

pub push_statement-requires-clause-reached : goal.push_statement-requires-clause-reached
push_statement-requires-clause-reached c =
    let long : length c.loop-line.bytes.items ≡ c.len.result = sym (c.len.ensures ∙ c.loop-line.bytes.ok.0) in
    subst (λ (n : ℕ). fault_at (lies_in c.args.layout.now.base c.args.listing.now) (c.base-base.result + n) (statement_view c.line-item.result.statement) ≡ None) long
    (subst (λ (b : ℕ). fault_at (lies_in b c.args.listing.now) (c.base-base.result + length c.loop-line.bytes.items) (statement_view c.line-item.result.statement) ≡ None) c.base-base.ensures
    (next_here c.base-base.result c.args.listing.now c.loop-line.number (c.base-base.result + length c.loop-line.bytes.items) c.lines-line-items.result.now c.loop-line.line-index c.line-item.result c.loop-line.bytes.items c.loop-line-test.true c.line-item.is
    c.loop-line.invariant.progress).fault)

pub push_statement-requires-clause-in_code : goal.push_statement-requires-clause-in_code
push_statement-requires-clause-in_code c =
    let next =
    next_here c.base-base.result c.args.listing.now c.loop-line.number (c.base-base.result + length c.loop-line.bytes.items) c.lines-line-items.result.now c.loop-line.line-index c.line-item.result c.loop-line.bytes.items c.loop-line-test.true c.line-item.is
    c.loop-line.invariant.progress in
    let within : c.base-base.result + length c.loop-line.bytes.items ≤ end_of c.base-base.result c.args.listing.now = next.within in
    let base = ap (λ (b : ℕ). end_of b c.args.listing.now) c.base-base.ensures in
    let end = c.requires.laid.end in
    let long = c.loop-line.bytes.ok.0 in
    omega arith

pub loop-line-preserved : goal.loop-line-preserved
loop-line-preserved c = record {
  number = omega arith;
  progress =
      progress_next c.base-base.result c.args.listing.now c.loop-line.number (c.base-base.result + c.len.result) c.lines-line-items.result.now c.loop-line.line-index c.line-item.result c.loop-line.bytes.items c.push_statement.new.bytes.items c.loop-line-test.true
      c.line-item.is (ap (λ (n : ℕ). c.base-base.result + n) (c.len.ensures ∙ c.loop-line.bytes.ok.0)) c.loop-line.invariant.progress
      (subst (λ (b : ℕ). PushedLaid b c.args.listing.now (c.base-base.result + c.len.result) (statement_view c.line-item.result.statement) c.loop-line.bytes.items c.push_statement.new.bytes.items) (sym c.base-base.ensures) (c.in_default-push_statement.ensures {u = tt}));
}

pub returns-clause-image : goal.returns-clause-image
returns-clause-image c =
    subst (λ (b : ℕ). AreImage b c.args.listing.now c.loop-line.bytes.items) c.base-base.ensures
    (progress_ends c.base-base.result c.args.listing.now c.loop-line.number (c.base-base.result + length c.loop-line.bytes.items) c.loop-line.bytes.items
    (ends_here c.base-base.result c.args.listing.now c.loop-line.number (c.base-base.result + length c.loop-line.bytes.items) c.lines-line-items.result.now c.loop-line.line-index c.loop-line.bytes.items c.loop-line-test.false c.loop-line.invariant.progress))

pub returns-clause-assembled : goal.returns-clause-assembled
returns-clause-assembled c = record {
  listed = c.requires.listed;
  layable = c.requires.layable;
  even = c.requires.even;
  low = (let end = c.requires.laid.end in omega arith);
  sound =
      subst (λ (b : ℕ). first_flaw b c.args.listing.now ≡ None) c.base-base.ensures
      (sym (ends_here c.base-base.result c.args.listing.now c.loop-line.number (c.base-base.result + length c.loop-line.bytes.items) c.lines-line-items.result.now c.loop-line.line-index c.loop-line.bytes.items c.loop-line-test.false c.loop-line.invariant.progress).flaws);
  image =
      subst (λ (b : ℕ). AreImage b c.args.listing.now c.loop-line.bytes.items) c.base-base.ensures
      (progress_ends c.base-base.result c.args.listing.now c.loop-line.number (c.base-base.result + length c.loop-line.bytes.items) c.loop-line.bytes.items
      (ends_here c.base-base.result c.args.listing.now c.loop-line.number (c.base-base.result + length c.loop-line.bytes.items) c.lines-line-items.result.now c.loop-line.line-index c.loop-line.bytes.items c.loop-line-test.false c.loop-line.invariant.progress));
}
