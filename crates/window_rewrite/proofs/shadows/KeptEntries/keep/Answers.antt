use Rattle.std.proofs.Common.{◌≡◌, ◌∙◌, ℕ, Some, slice_index_or, ap, arith, refl}
use Rattle.std.specs.Prelude.{slice_get}
use Rattle.std.proofs.lemmas.Option.{slice_get_read}
use Rattle.rule_table.specs.declared.table.Entry.{Entry}
use Rattle.window_rewrite.specs.Rules.{rules_in, entry_rule}
use Rattle.window_rewrite.proofs.Accepted.{entry_at, rules_length}
use Rattle.window_rewrite.proofs.Keeping.{more_kept}
use Rattle.window_rewrite.proofs.shadows.KeptEntries.keep.Goals as goal

pub returns : goal.returns
returns c =
    let n : ℕ = c.args.number in
    let many = rules_length c.args.entries.now in
    let within = c.requires.within in
    let e : Entry = slice_index_or c.args.entries.now n c.index-entries-number.result in
    let at : slice_get c.args.entries.now n ≡ Some e = slice_get_read c.args.entries.now _ _ c.index-entries-number.result refl within c.index-entries-number.is ∙ ap Some c.index-entries-number.is in
    let own = entry_at c.args.entries.now n e at in
    more_kept c.args.costs.now (rules_in c.args.entries.now) n c.shared-shared.result (entry_rule e) c.args.self.now _ c.index-before.result.now own (omega arith) (omega (arith, c.shared-shared.ensures, c.requires.kept.many_lasts)) (c.requires.lighter (entry_rule e) own) c.requires.kept
    (slice_get_read c.args.self.now.lasts.items _ _ c.index-before.result.now refl c.shared-shared.ensures c.index-before.ensures)
    refl refl refl
