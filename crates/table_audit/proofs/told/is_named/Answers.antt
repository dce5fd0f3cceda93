use Rattle.std.proofs.Common.{rules, ◌<◌, ◌≤◌, ◌∙◌, sym, nat_lt, length}
use Rattle.std.proofs.lemmas.Bool.{ltb-true, ltb-false}
use Rattle.std.proofs.lemmas.List.Sorted.{IsPartitionPoint-from_clause, IsPartitionedBy-ltb}
use Rattle.table_audit.proofs.Upcoming.{rising, named_in_code, number_here, number_past}
use Rattle.table_audit.proofs.told.is_named.Goals as goal

pub returns-in-None : goal.returns-in-None
returns-in-None c =
    let n = c.args.number in
    let es = c.args.opens.now in
    let place = c.partition_point-place.result in
    let point = IsPartitionPoint-from_clause (λ e. nat_lt e.number n) es place c.partition_point-place.ensures.partitioned (IsPartitionedBy-ltb (λ e. e.number) es n (rising es c.requires)) (λ a r q k. search rules) in
    let past : length es ≤ place = ltb-false place (length es) (sym c.in-None.ensures.lookup.0) in
    sym (named_in_code es place n c.requires point.0 point.1 ∙ number_past es place n past)

pub returns-in-Some : goal.returns-in-Some
returns-in-Some c =
    let n = c.args.number in
    let es = c.args.opens.now in
    let place = c.partition_point-place.result in
    let point = IsPartitionPoint-from_clause (λ e. nat_lt e.number n) es place c.partition_point-place.ensures.partitioned (IsPartitionedBy-ltb (λ e. e.number) es n (rising es c.requires)) (λ a r q k. search rules) in
    let low : place < length es = ltb-true place (length es) (sym c.in-Some.ensures.lookup.0) in
    sym (named_in_code es place n c.requires point.0 point.1 ∙ number_here es place n _ c.in-Some.open.now low c.in-Some.ensures.lookup.1)
