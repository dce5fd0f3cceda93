use Rattle.std.proofs.Common.{◌≡◌, ◌∙◌, List, ℕ, map, ap, arith, length, rules}
use Rattle.std.proofs.lemmas.List.{map-append}
use Rattle.listing_parser.specs.Grammar.{labels_at_front}
use Rattle.listing_parser.proofs.ReadingLemmas.{labels_step, labels_end, after_shorter}
use Rattle.listing_parser.proofs.reading.labels.Goals as goal

pub loop-name-smaller : goal.loop-name-smaller
loop-name-smaller c =
    let next = after_shorter c.loop-name.rest.now c.in-Some.ensures.label.0 in
    let after = ap (λ (bs : List ℕ). length bs) c.in-Some.ensures.label.2 in
    omega (arith, after, next)

pub loop-name-preserved : goal.loop-name-preserved
loop-name-preserved c =
    let name : c.in_ok-name.name.items ≡ c.in-Some.name.now = search rules in
    let step = labels_step (map (λ n. n.items) c.loop-name.names.items) c.in_ok-name.name.items c.loop-name.rest.now c.in-Some.after.now (labels_at_front c.args.bytes.now)
    c.in-Some.ensures.label.0 (name ∙ c.in-Some.ensures.label.1) c.in-Some.ensures.label.2 c.loop-name.invariant.names c.loop-name.invariant.after in
    record {
      names = rw (c.in_ok-push.ensures.items, map-append) step.0;
      after = step.1;
      within = omega (arith, step.2, c.loop-name.invariant.within);
    }

pub returns-clause-labels : goal.returns-clause-labels
returns-clause-labels c = labels_end _ c.loop-name.rest.now (labels_at_front c.args.bytes.now) c.in_default.ensures.label c.loop-name.invariant.names c.loop-name.invariant.after
