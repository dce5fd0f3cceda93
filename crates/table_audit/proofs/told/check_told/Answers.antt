use Rattle.std.proofs.Common.{◌≡◌, ◌∙◌, ap, subst}
use Rattle.std.proofs.lemmas.Option.{MatchOption-at_none}
use Rattle.window_exec.specs.declared.state.WState.{WState}
use Rattle.seq_enum.specs.Alphabet.{alphabet}
use Rattle.fingerprints.specs.Tables.{AreTables}
use Rattle.table_audit.specs.Naming.{first_of}
use Rattle.table_audit.proofs.Settling.{is_for_own}
use Rattle.table_audit.proofs.told.check_told.Goals as goal

pub first_untold-untold-requires-clause-alphabet : goal.first_untold-untold-requires-clause-alphabet
first_untold-untold-requires-clause-alphabet g c =
    let now = c.in_ok-numbers.ensures.same c.alphabet_registers-k.result c.args.table.now.pool c.first_of-start.result c.in_ok-outcomes.ensures.taken in
    now.alphabet ∙ ap (λ j. alphabet j c.args.table.now.pool) c.alphabet_registers-k.ensures.value

pub returns-in-None-clause-kept : goal.returns-in-None-clause-kept
returns-in-None-clause-kept g c =
    let start : c.first_of-start.result ≡ first_of c.args.table.now.states = c.first_of-start.ensures ∙ ap (λ ss. first_of ss) c.as_slice.ensures in
    let now = c.in_ok-numbers.ensures.same c.alphabet_registers-k.result c.args.table.now.pool c.first_of-start.result c.in_ok-outcomes.ensures.taken in
    subst (λ (s : WState). AreTables c.args.table.now.pool s c.put.new.self) start
    (c.put.ensures c.args.table.now.pool c.first_of-start.result c.take.ensures.kept (is_for_own c.alphabet_registers-k.result c.args.table.now.pool c.first_of-start.result c.numbers_to_try.new.outcomes now))

pub returns-in-None-clause-answers : goal.returns-in-None-clause-answers
returns-in-None-clause-answers g c = MatchOption-at_none _ _ c.in-None.is (c.first_untold-untold.ensures.verdict c.args.number)

pub returns-clause-kept : goal.returns-clause-kept
returns-clause-kept g c =
    let start : c.first_of-start.result ≡ first_of c.args.table.now.states = c.first_of-start.ensures ∙ ap (λ ss. first_of ss) c.as_slice.ensures in
    let now = c.in_ok-numbers.ensures.same c.alphabet_registers-k.result c.args.table.now.pool c.first_of-start.result c.in_ok-outcomes.ensures.taken in
    subst (λ (s : WState). AreTables c.args.table.now.pool s c.put.new.self) start
    (c.put.ensures c.args.table.now.pool c.first_of-start.result c.take.ensures.kept (is_for_own c.alphabet_registers-k.result c.args.table.now.pool c.first_of-start.result c.numbers_to_try.new.outcomes now))
