use Rattle.std.proofs.Common.{◌≡◌, ◌∙◌, ◌<◌, List, arith, ap, length, sym}
use Rattle.std.proofs.lemmas.List.{length-map}
use Rattle.flow_tidy.specs.declared.chain_ends.Known.{Known}
use Rattle.flow_tidy.specs.ChainEnds.{known_in}
use Rattle.flow_tidy.proofs.Ending.{counts_from}
use Rattle.flow_tidy.proofs.chain_ends.Ends.forget.Goals as goal

pub returns-in-Some : goal.returns-in-Some
returns-in-Some c =
    let e = c.self.inside in
    let next = c.in-Some.ensures.1 in
    let late : e.latest < c.in-Some.latest = omega arith in
    let many : length e.found.items ≡ length c.args.self.now = sym (length-map e.found.items (known_in e.since e.latest)) ∙ ap (λ (ks : List Known). length ks) c.self.view_is in
    counts_from c.in-Some.latest c.in-Some.latest (length c.args.self.now) e.found.items (sym many) (λ p f k. let few = c.self.invariant.stamps p f k in omega arith)
