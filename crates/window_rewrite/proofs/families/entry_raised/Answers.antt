use Rattle.std.proofs.Common.{refl}
use Rattle.std.proofs.lemmas.Option.{slice_get_read}
use Rattle.window_rewrite.proofs.Raised.{entry_read, entry_within}
use Rattle.window_rewrite.proofs.families.entry_raised.Goals as goal

pub returns : goal.returns
returns c =
    let w = entry_within c.args.entries.now c.args.family.now c.requires in
    entry_read c.args.entries.now c.args.family.now c.index-entries-family.result c.requires (slice_get_read c.args.entries.now _ _ c.index-entries-family.result refl w.1 c.index-entries-family.is)
