use Rattle.std.proofs.Common.{◌∙◌, List, ap}
use Rattle.std.specs.Prelude.{slice_set}
use Rattle.flow_tidy.specs.declared.chain_ends.Known.{Known}
use Rattle.flow_tidy.proofs.Ending.{noted}
use Rattle.flow_tidy.proofs.chain_ends.Ends.note.Goals as goal

pub returns : goal.returns
returns c =
    let e = c.self.inside in
    noted e.since e.latest c.args.place e.found.items c.args.known c.self.invariant.since_then ∙ ap (λ (ks : List Known). slice_set ks c.args.place c.args.known) c.self.view_is
