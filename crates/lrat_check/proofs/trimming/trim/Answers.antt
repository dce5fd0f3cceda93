use Rattle.std.proofs.Common.{inr}
use Rattle.clause_model.specs.Clauses.{codes_of}
use Rattle.lrat_check.specs.Runs.{contents_of}
use Rattle.lrat_check.proofs.Parts.{trimmed_refutes, trimmed_named}
use Rattle.lrat_check.proofs.Showing.{additions_ordered, additions_above, is_meant}
use Rattle.lrat_check.proofs.trimming.trim.Goals as goal

pub new-requires-2-clause-in_order : goal.new-requires-2-clause-in_order
new-requires-2-clause-in_order g c = additions_ordered (codes_of c.args.formula.now.clauses) (contents_of c.args.lines.now) c.requires c.in_ok-additions.additions.items c.in_ok-additions.ensures

pub new-requires-2-clause-above : goal.new-requires-2-clause-above
new-requires-2-clause-above g c = additions_above (codes_of c.args.formula.now.clauses) (contents_of c.args.lines.now) c.requires c.in_ok-additions.additions.items c.in_ok-additions.ensures c.in_ok-given.given.items c.in_ok-given.ensures

pub returns-clause-trimmed : goal.returns-clause-trimmed
returns-clause-trimmed g c =
    let meant = is_meant (codes_of c.args.formula.now.clauses) (contents_of c.args.lines.now) c.in_ok-meanings.meanings c.in_ok-given.given c.in_ok-additions.additions c.requires c.has_empty.result c.deref.result.now c.deref.ensures.value c.has_empty.ensures c.if-has_empty.false
    c.in_ok-given.ensures c.in_ok-additions.ensures c.in_ok-meanings.ensures.given c.in_ok-meanings.ensures.additions in
    inr (meant.open', c.in_ok-keep_used.ensures.part (codes_of c.args.formula.now.clauses) (contents_of c.args.lines.now) meant)

pub returns-clause-refutes : goal.returns-clause-refutes
returns-clause-refutes g c = trimmed_refutes (codes_of c.args.formula.now.clauses) (contents_of c.args.lines.now) (contents_of c.in_ok-keep_used.field-0.items) c.requires (returns-clause-trimmed g c)

pub returns-clause-named : goal.returns-clause-named
returns-clause-named g c = trimmed_named (codes_of c.args.formula.now.clauses) (contents_of c.args.lines.now) (contents_of c.in_ok-keep_used.field-0.items) c.requires (returns-clause-trimmed g c)

pub returns-clause-cost : goal.returns-clause-cost
returns-clause-cost g c = λ first n s k.
    let meant = is_meant (codes_of c.args.formula.now.clauses) (contents_of c.args.lines.now) c.in_ok-meanings.meanings c.in_ok-given.given c.in_ok-additions.additions c.requires c.has_empty.result c.deref.result.now c.deref.ensures.value c.has_empty.ensures c.if-has_empty.false
    c.in_ok-given.ensures c.in_ok-additions.ensures c.in_ok-meanings.ensures.given c.in_ok-meanings.ensures.additions in
    c.keep_used.ensures.cost (codes_of c.args.formula.now.clauses) (contents_of c.args.lines.now) first n meant s k

pub returns-in_err-keep_used-clause-cost : goal.returns-in_err-keep_used-clause-cost
returns-in_err-keep_used-clause-cost g c = λ first n s k.
    let meant = is_meant (codes_of c.args.formula.now.clauses) (contents_of c.args.lines.now) c.in_ok-meanings.meanings c.in_ok-given.given c.in_ok-additions.additions c.requires c.has_empty.result c.deref.result.now c.deref.ensures.value c.has_empty.ensures c.if-has_empty.false
    c.in_ok-given.ensures c.in_ok-additions.ensures c.in_ok-meanings.ensures.given c.in_ok-meanings.ensures.additions in
    c.keep_used.ensures.cost (codes_of c.args.formula.now.clauses) (contents_of c.args.lines.now) first n meant s k
