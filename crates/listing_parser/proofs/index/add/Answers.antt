use Rattle.std.proofs.Common.{◌≡◌, ◌∙◌, sym, None, rules}
use Rattle.std.specs.Map.{lookup}
use Rattle.indexmap.proofs.CallerLemmas.{insert_entry-new}
use Rattle.listing_parser.specs.TableWords.{is_key}
use Rattle.listing_parser.proofs.MapLemmas.{added_new, is_none}
use Rattle.listing_parser.proofs.index.add.Goals as goal

pub returns : goal.returns
returns g c = λ q.
    let name : c.in_ok-key.key.items ≡ c.args.name.now = search rules in
    let absent : lookup (is_key c.args.name.now) c.args.table.now.entries ≡ None = is_none _ (sym c.contains_key.ensures ∙ c.if-contains_key.false) in
    let at_key : lookup (is_key c.in_ok-key.key.items) c.args.table.now.entries ≡ None = rw name absent in
    added_new q c.args.name.now c.args.table.now.entries c.insert.new.self.entries c.in_ok-key.key c.args.value
    (c.in_ok-insert.ensures.entries ∙ insert_entry-new _ c.args.table.now c.in_ok-key.key c.args.value at_key) name
