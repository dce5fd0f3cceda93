use Rattle.std.proofs.Common.{◌≡◌, ◌∙◌, ◌+◌, ◌&&◌, ℕ, Bool, false, List, length, map, drop, ap, sym, arith}
use Rattle.thumb_model.specs.Listing.{ListingLine}
use Rattle.thumb_model.proofs.Lists.{length_map}
use Rattle.listing_parser.specs.declared.line.ListingLine.{ListingLine as Lines}
use Rattle.listing_parser.specs.Views.{line_view}
use Rattle.steady_layout.specs.declared.starts.Start.{Start}
use Rattle.steady_layout.specs.Steady.{first, all_steady, labels_in, sets_in}
use Rattle.steady_layout.specs.Starts.{AreStarts}
use Rattle.steady_layout.proofs.Lines.{as_many, each_at_start, each_next, each_end, steady_each}
use Rattle.steady_layout.proofs.judging.all_steady.Goals as goal

same_length : (base : ℕ) (ls : List ListingLine) (starts : List Start) (lines : List Lines) → AreStarts base ls starts → map line_view lines ≡ ls → length starts ≡ length lines
same_length base ls starts lines h e =
    let many = as_many (first base) ls in
    let mapped = length_map line_view lines in
    omega (arith, many, mapped, ap length h.each, ap length e)

whole : (base : ℕ) (ls : List ListingLine) (starts : List Start) → AreStarts base ls starts → steady_each (labels_in base ls) (sets_in ls) base starts ls ≡ all_steady (labels_in base ls) (sets_in ls) base (first base) ls
whole base ls starts h = ap (λ (ss : List Start). steady_each (labels_in base ls) (sets_in ls) base ss ls) h.each ∙ each_at_start (labels_in base ls) (sets_in ls) base (first base) ls

pub bounds-starts-n : goal.bounds-starts-n
bounds-starts-n c = let same = same_length c.args.base c.args.listing.now c.args.starts.now c.lines-line-items.result.now c.requires c.lines-line-items.ensures in omega (arith, same, c.loop-n-test.true)

pub returns-then-not-is_steady_at : goal.returns-then-not-is_steady_at
returns-then-not-is_steady_at c =
    let ls = c.args.listing.now in
    let starts = c.args.starts.now in
    let lines = c.lines-line-items.result.now in
    let n = c.loop-n.n in
    let same = same_length c.args.base ls starts lines c.requires c.lines-line-items.ensures in
    let rest = steady_each (labels_in c.args.base ls) (sets_in ls) c.args.base (drop (n + 1) starts) (map line_view (drop (n + 1) lines)) in
    let next = each_next (labels_in c.args.base ls) (sets_in ls) c.args.base starts lines n (record { at = 0; aligned = false }) c.line-item.result (omega (arith, same, c.loop-n-test.true)) c.loop-n-test.true c.line-item.is in
    ap (λ (b : Bool). b && rest) (sym c.if-not-is_steady_at.true ∙ c.is_steady_at.ensures) ∙ sym next ∙ c.loop-n.invariant ∙ whole c.args.base ls starts c.requires

pub loop-n-preserved : goal.loop-n-preserved
loop-n-preserved c =
    let ls = c.args.listing.now in
    let starts = c.args.starts.now in
    let lines = c.lines-line-items.result.now in
    let n = c.loop-n.n in
    let same = same_length c.args.base ls starts lines c.requires c.lines-line-items.ensures in
    let rest = steady_each (labels_in c.args.base ls) (sets_in ls) c.args.base (drop (n + 1) starts) (map line_view (drop (n + 1) lines)) in
    let next = each_next (labels_in c.args.base ls) (sets_in ls) c.args.base starts lines n (record { at = 0; aligned = false }) c.line-item.result (omega (arith, same, c.loop-n-test.true)) c.loop-n-test.true c.line-item.is in
    ap (λ (b : Bool). b && rest) (sym c.if-not-is_steady_at.false ∙ c.is_steady_at.ensures) ∙ sym next ∙ c.loop-n.invariant

pub returns : goal.returns
returns c =
    let ls = c.args.listing.now in
    let starts = c.args.starts.now in
    let lines = c.lines-line-items.result.now in
    let same = same_length c.args.base ls starts lines c.requires c.lines-line-items.ensures in
    let end = each_end (labels_in c.args.base ls) (sets_in ls) c.args.base starts (map line_view (drop c.loop-n.n lines)) c.loop-n.n (omega (arith, same, c.loop-n-test.false)) in
    sym end ∙ c.loop-n.invariant ∙ whole c.args.base ls starts c.requires
