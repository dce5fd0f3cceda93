use Rattle.std.proofs.Common.{◌∙◌, ap, sym, arith, List, ℕ, length}
use Rattle.std.proofs.lemmas.List.{nil_from_length}
use Rattle.ascii_scan.proofs.LineLemmas.{content_first, open_line, ended_line, length_first}
use Rattle.ascii_scan.proofs.source.first_line.Goals as goal

pub returns-in-None-clause-text : goal.returns-in-None-clause-text
returns-in-None-clause-text c = c.split_line.ensures.line ∙ sym (content_first c.args.bytes.now)

pub returns-in-None-clause-ended : goal.returns-in-None-clause-ended
returns-in-None-clause-ended c = sym (open_line c.args.bytes.now (sym c.split_line.ensures.rest ∙ nil_from_length _ c.in-None.ensures.cases)).0

pub returns-in-None-clause-after : goal.returns-in-None-clause-after
returns-in-None-clause-after c =
    let none = nil_from_length _ c.in-None.ensures.cases in
    none ∙ sym (open_line c.args.bytes.now (sym c.split_line.ensures.rest ∙ none)).1

pub returns-in-None-clause-size : goal.returns-in-None-clause-size
returns-in-None-clause-size c =
    let last = (open_line c.args.bytes.now (sym c.split_line.ensures.rest ∙ nil_from_length _ c.in-None.ensures.cases)).1 in
    omega (arith, length_first c.args.bytes.now, ap (λ (w : List ℕ). length w) last)

pub returns-in-Some-clause-text : goal.returns-in-Some-clause-text
returns-in-Some-clause-text c = c.split_line.ensures.line ∙ sym (content_first c.args.bytes.now)

pub returns-in-Some-clause-ended : goal.returns-in-Some-clause-ended
returns-in-Some-clause-ended c = sym (ended_line c.args.bytes.now _ _ (sym c.split_line.ensures.rest ∙ c.in-Some.ensures.cases.0)).0

pub returns-in-Some-clause-after : goal.returns-in-Some-clause-after
returns-in-Some-clause-after c = sym (ended_line c.args.bytes.now _ _ (sym c.split_line.ensures.rest ∙ c.in-Some.ensures.cases.0)).1

pub overflow_sub-result : goal.overflow_sub-result
overflow_sub-result c =
    let next = (ended_line c.args.bytes.now _ _ (sym c.split_line.ensures.rest ∙ c.in-Some.ensures.cases.0)).1 in
    omega (arith, length_first c.args.bytes.now, ap (λ (w : List ℕ). length w) next)

pub returns-in-Some-clause-size : goal.returns-in-Some-clause-size
returns-in-Some-clause-size c =
    let next = (ended_line c.args.bytes.now _ _ (sym c.split_line.ensures.rest ∙ c.in-Some.ensures.cases.0)).1 in
    omega (arith, length_first c.args.bytes.now, ap (λ (w : List ℕ). length w) next)
