use Rattle.std.proofs.Common.{◌≡◌, ◌+◌, ◌≤◌, ℕ, suc, List, map, take, ap, arith, subst}
use Rattle.listing_parser.specs.Grammar.{longest_line}
use Rattle.listing_parser.specs.Views.{line_view}
use Rattle.flow_tidy.specs.Tidying.{line_length}
use Rattle.flow_tidy.specs.Quick.{room_taken}
use Rattle.flow_tidy.proofs.Lines.{all_short, as_many_lines, one_more_short, read_line}
use Rattle.flow_tidy.proofs.Rooms.{counts_few, room_all, room_more, short_lines}
use Rattle.flow_tidy.proofs.limits.leave_room.Goals as goal

pub overflow_add-taken : goal.overflow_add-taken
overflow_add-taken c =
    let few = counts_few (line_view c.line-item.result) in
    let taken = c.loop-line.invariant.few in
    omega (arith, c.counts_for-taken.ensures, few, taken)

pub loop-line-preserved : goal.loop-line-preserved
loop-line-preserved c =
    let lines = map line_view c.args.lines.now in
    let here = read_line c.args.lines.now c.loop-line.line-index c.line-item.result c.loop-line-test.true c.line-item.is in
    let short : line_length c.line-item.result.text.items ≤ longest_line = subst (λ (bs : List ℕ). line_length bs ≤ longest_line) c.deref.ensures.value (c.is_short.ensures.0 c.if-not-is_short.false) in
    let more = room_more lines c.loop-line.line-index (line_view c.line-item.result) here in
    let e : suc c.loop-line.line-index ≡ c.loop-line.line-index + 1 = omega arith in
    let next : room_taken (take (suc c.loop-line.line-index) lines) ≡ room_taken (take (c.loop-line.line-index + 1) lines) = ap (λ n. room_taken (take n lines)) e in
    record {
      taken = omega (arith, more, next, c.counts_for-taken.ensures, c.loop-line.invariant.taken);
      few = omega arith;
      short = one_more_short longest_line lines c.loop-line.line-index (line_view c.line-item.result) c.loop-line.invariant.short here short;
    }

pub returns : goal.returns
returns c = λ e.
    let lines = map line_view c.args.lines.now in
    let many = as_many_lines c.args.lines.now in
    let all = room_all lines c.loop-line.line-index (omega arith) in
    record {
      few = omega (arith, all, c.loop-line.invariant.taken, c.loop-line.invariant.few);
      short = short_lines longest_line c.args.lines.now (all_short longest_line lines c.loop-line.line-index (omega arith) c.loop-line.invariant.short);
    }
