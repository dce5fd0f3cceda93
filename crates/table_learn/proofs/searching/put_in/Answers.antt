use Rattle.std.proofs.Common.{rules, ◌≡◌, ◌∙◌, ap, subst, sym, map, nat_lt, true, List}
use Rattle.std.proofs.lemmas.List.Sorted.{IsPartitionPoint-from_clause, IsPartitionedBy-ltb}
use Rattle.std.specs.List.{insert}
use Rattle.seq_enum.specs.Alphabet.{ascends_from}
use Rattle.rule_table.specs.declared.table.Open as code
use Rattle.rule_table.specs.Views.{opened_of}
use Rattle.rule_table.specs.Table.{numbers_of}
use Rattle.table_audit.proofs.Upcoming.{rising}
use Rattle.table_learn.specs.Searching.{put_in}
use Rattle.table_learn.proofs.Steps.{put_in_place}
use Rattle.table_learn.proofs.searching.put_in.Goals as goal

pub returns : goal.returns
returns c =
    let name = c.args.name in
    let es : List code.Open = c.deref.result.now in
    let place = c.partition_point-place.result in
    let ascending : ascends_from 0 (numbers_of (map opened_of es)) ≡ true = subst (λ (os : List code.Open). ascends_from 0 (numbers_of (map opened_of os)) ≡ true) (sym c.deref.ensures.value) c.requires in
    let point = IsPartitionPoint-from_clause (λ (e : code.Open). nat_lt e.number name.number) es place c.partition_point-place.ensures.partitioned (IsPartitionedBy-ltb (λ (e : code.Open). e.number) es name.number (rising es ascending)) (λ a r q k. search rules) in
    let there : map opened_of (insert es place name) ≡ put_in (opened_of name) (map opened_of es) = put_in_place name es place c.partition_point-place.ensures.bound point.0 point.1 in
    ap (λ (os : List code.Open). map opened_of os) (c.in_ok-insert.ensures.items ∙ ap (λ (os : List code.Open). insert os place name) (sym c.deref.ensures.value)) ∙ there ∙ ap (λ (os : List code.Open). put_in (opened_of name) (map opened_of os)) c.deref.ensures.value
