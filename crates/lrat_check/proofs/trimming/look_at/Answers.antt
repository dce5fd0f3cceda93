use Rattle.std.proofs.Common.{◌≡◌, ℤ, ◌≤◌, List, length, map, sym, ap, arith, subst, take}
use Rattle.std.specs.Prelude.{unsigned_abs}
use Rattle.std.proofs.lemmas.List.{length-map}
use Rattle.step_ledger.specs.Counts.{RisesBy}
use Rattle.clause_model.specs.Clauses.{HasDistinctVariables, hint_lengths}
use Rattle.lrat_check.specs.Meant.{meant_by}
use Rattle.lrat_check.proofs.Shortened.{lits}
use Rattle.lrat_check.proofs.Sufficing.{Suffice-within}
use Rattle.lrat_check.proofs.Showing.{counted}
use Rattle.lrat_check.proofs.trimming.look_at.Goals as goal

pub invariant_of-result : goal.invariant_of-result
invariant_of-result g c =
    let a = c.index-addition.result.now.now in
    let w : c.in-Ok.hints ≤ length (map unsigned_abs c.deref-2.result.now) = Suffice-within (meant_by c.args.meanings.now) (lits c.deref.result.now) (map unsigned_abs c.deref-2.result.now) c.in-Ok.hints c.in-Ok.ensures.used in
    let x = length-map c.deref-2.result.now unsigned_abs in
    let y : length c.deref-2.result.now ≡ length a.hints.items = ap length c.deref-2.ensures.value in
    let v : c.in-Ok.hints ≤ length a.hints.items = omega arith in
    record { within = v }

pub returns-in-Ok-clause-count : goal.returns-in-Ok-clause-count
returns-in-Ok-clause-count g c =
    let a = c.index-addition.result.now.now in
    let distinct : HasDistinctVariables c.deref.result.now = subst HasDistinctVariables (sym c.deref.ensures.value) a.distinct in
    subst (λ (hints : List ℤ). RisesBy c.args.steps.now c.check-outcome.new.steps (hint_lengths (meant_by c.args.meanings.now) (map unsigned_abs (take c.in-Ok.hints hints)))) c.deref-2.ensures.value
    (counted (meant_by c.args.meanings.now) c.deref.result.now c.deref-2.result.now c.in-Ok.hints c.args.steps.now c.check-outcome.new.steps distinct c.in-Ok.ensures.used c.in-Ok.ensures.count)
