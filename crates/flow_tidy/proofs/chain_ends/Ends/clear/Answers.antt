use Rattle.std.proofs.Common.{◌≡◌, ◌∙◌, List, ap, length, replicate, sym}
use Rattle.std.proofs.lemmas.List.{length-map}
use Rattle.flow_tidy.specs.declared.chain_ends.Known.{Known}
use Rattle.flow_tidy.specs.declared.chain_ends.Known.TheVariants.{Nothing}
use Rattle.flow_tidy.specs.ChainEnds.{known_in}
use Rattle.flow_tidy.proofs.Ending.{nothing_counts}
use Rattle.flow_tidy.proofs.chain_ends.Ends.clear.Goals as goal

pub returns : goal.returns
returns c =
    let e = c.self.inside in
    let many : length e.found.items ≡ length c.args.self.now = sym (length-map e.found.items (known_in e.since e.latest)) ∙ ap (λ (ks : List Known). length ks) c.self.view_is in
    nothing_counts 0 0 e.found.len c.fill.new.self.items (c.fill.ensures.items (λ y k. k)) ∙ ap (λ n. replicate n Nothing) (e.found.ok.0 ∙ many)
