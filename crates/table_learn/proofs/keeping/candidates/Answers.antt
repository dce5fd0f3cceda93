use Rattle.std.proofs.Common.{ℕ, List, ◌≡◌, ◌+◌, ◌≤◌, ◌<◌, ◌∙◌, [], ◌∷◌, ap, sym, refl, subst, arith, length, map, get_or, slice_get, Some}
use Rattle.std.proofs.lemmas.Option.{slice_get-get_or, slice_get-map, same_Some}
use Rattle.std.specs.Option.{option_map}
use Rattle.window_exec.specs.declared.state.WState.{WState}
use Rattle.window_exec.specs.State.{seen}
use Rattle.fingerprints.specs.declared.trials.Trial.{Trial}
use Rattle.fingerprints.specs.Outcomes as table
use Rattle.fingerprints.specs.Outcomes.{Extent}
use Rattle.fingerprints.specs.Tables.{AreTables, IsFor}
use Rattle.fingerprints.proofs.Choosing.{few_added, grown_for_same}
use Rattle.table_learn.specs.Given.{settings_of}
use Rattle.table_learn.specs.Found.{window_in}
use Rattle.table_audit.specs.Acceptance.{lengths_below}
use Rattle.table_learn.proofs.Below.{longest_short, table_within}
use Rattle.table_learn.proofs.Candidates.{table_below, are_left, all_there, candidates_are}
use Rattle.table_learn.proofs.keeping.candidates.Goals as goal
use Rattle.table_audit.proofs.Settling.{same_state}

first_seen : (states : List WState) (d : WState) → 0 < length states → slice_get (map seen states) 0 ≡ Some (seen (get_or states 0 d))
first_seen states d some = slice_get-map seen states 0 ∙ ap (option_map seen) (slice_get-get_or states 0 d some)

abbrev zeros : WState
zeros = record { r = []; nzcv = 0 }

pub returns-in_err-found-clause-cost : goal.returns-in_err-found-clause-cost
returns-in_err-found-clause-cost g c =
    let w = c.args.window.now in
    let e = c.in_ok-outcomes.outcomes in
    let taken = c.in_ok-outcomes.ensures.taken in
    let n : ℕ = c.longest_below-longest.result + 1 in
    let seqs = table_below (settings_of c.args.settings.now) (window_in w) w.k n e.alphabet c.requires.counted taken.alphabet in
    let short : n ≤ lengths_below c.args.settings.now.costs (length w.left) = (let l = longest_short c.args.settings.now.costs w.left c.requires.window.canonical.renamable.some in let is = c.longest_below-longest.ensures in omega (arith, l, is)) in
    let within = table_within (settings_of c.args.settings.now) (window_in w) n c.requires.window short in
    omega (arith, c.candidates.ensures.most, few_added e c.longest_below-longest.result, ap length seqs, within)

pub returns-in_err-numbers-clause-cost : goal.returns-in_err-numbers-clause-cost
returns-in_err-numbers-clause-cost g c =
    let w = c.args.window.now in
    let e = c.in_ok-outcomes.outcomes in
    let taken = c.in_ok-outcomes.ensures.taken in
    let n : ℕ = c.longest_below-longest.result + 1 in
    let seqs = table_below (settings_of c.args.settings.now) (window_in w) w.k n e.alphabet c.requires.counted taken.alphabet in
    let short : n ≤ lengths_below c.args.settings.now.costs (length w.left) = (let l = longest_short c.args.settings.now.costs w.left c.requires.window.canonical.renamable.some in let is = c.longest_below-longest.ensures in omega (arith, l, is)) in
    let within = table_within (settings_of c.args.settings.now) (window_in w) n c.requires.window short in
    omega (arith, c.candidates.ensures.most, few_added e c.longest_below-longest.result, ap length seqs, within)

pub returns-clause-kept : goal.returns-clause-kept
returns-clause-kept g c = λ start at.
    let here : WState = get_or c.args.states.now 0 zeros in
    let same : here ≡ start = same_state here start (same_Some (seen here) (seen start) (sym (first_seen c.args.states.now zeros c.requires.states) ∙ at)) in
    subst (λ (s : WState). AreTables c.args.settings.now.pool s c.take.new.self) same c.take.ensures.kept

pub returns-clause-outcomes : goal.returns-clause-outcomes
returns-clause-outcomes g c = λ start at.
    let here : WState = get_or c.args.states.now 0 zeros in
    let same : here ≡ start = same_state here start (same_Some (seen here) (seen start) (sym (first_seen c.args.states.now zeros c.requires.states) ∙ at)) in
    let registers : c.candidates.new.outcomes.registers ≡ c.args.window.now.k = ap (λ (e : Extent). e.registers) c.in_ok-found.ensures.grown ∙ c.in_ok-outcomes.ensures.taken.registers in
    subst (λ (s : WState). IsFor c.args.window.now.k c.args.settings.now.pool s c.candidates.new.outcomes) same
    (subst (λ j. IsFor j c.args.settings.now.pool here c.candidates.new.outcomes) registers (grown_for_same c.args.window.now.k c.args.settings.now.pool here (record { start = here; end = c.run_seq.result } ∷ []) c.longest_below-longest.result c.in_ok-outcomes.outcomes c.candidates.new.outcomes c.in_ok-outcomes.ensures.taken c.in_ok-found.ensures.grown))

pub in_order-requires : goal.in_order-requires
in_order-requires g c =
    let s = settings_of c.args.settings.now in
    let w = window_in c.args.window.now in
    let e = c.in_ok-outcomes.outcomes in
    let trial : Trial = record { start = get_or c.args.states.now 0 zeros; end = c.run_seq.result } in
    all_there s w (table.sequences_below e.alphabet (c.longest_below-longest.result + 1)) c.candidates.new.outcomes.alphabet trial c.in_ok-found.found.items
    (are_left s w c.args.window.now.k c.longest_below-longest.result e c.candidates.new.outcomes trial c.in_ok-found.found.items c.requires.window c.hold.ensures c.requires.short c.requires.counted c.in_ok-outcomes.ensures.taken.alphabet c.longest_below-longest.ensures c.in_ok-found.ensures.grown c.in_ok-found.ensures.candidates)

pub returns-clause-candidates : goal.returns-clause-candidates
returns-clause-candidates g c =
    let s = settings_of c.args.settings.now in
    let w = window_in c.args.window.now in
    let e = c.in_ok-outcomes.outcomes in
    let here : WState = get_or c.args.states.now 0 zeros in
    let trial : Trial = record { start = here; end = c.run_seq.result } in
    let left = are_left s w c.args.window.now.k c.longest_below-longest.result e c.candidates.new.outcomes trial c.in_ok-found.found.items c.requires.window c.hold.ensures c.requires.short c.requires.counted c.in_ok-outcomes.ensures.taken.alphabet c.longest_below-longest.ensures c.in_ok-found.ensures.grown c.in_ok-found.ensures.candidates in
    candidates_are s c.args.states.now w (table.sequences_below e.alphabet (c.longest_below-longest.result + 1)) c.candidates.new.outcomes.alphabet here trial c.in_ok-found.found.items c.in_ok-numbers.numbers.items c.args.window.now.mask.in_masks left
    (first_seen c.args.states.now zeros c.requires.states) refl c.run_seq.ensures.values c.in_ok-numbers.ensures

pub returns-clause-cost : goal.returns-clause-cost
returns-clause-cost g c =
    let w = c.args.window.now in
    let e = c.in_ok-outcomes.outcomes in
    let taken = c.in_ok-outcomes.ensures.taken in
    let n : ℕ = c.longest_below-longest.result + 1 in
    let seqs = table_below (settings_of c.args.settings.now) (window_in w) w.k n e.alphabet c.requires.counted taken.alphabet in
    let short : n ≤ lengths_below c.args.settings.now.costs (length w.left) = (let l = longest_short c.args.settings.now.costs w.left c.requires.window.canonical.renamable.some in let is = c.longest_below-longest.ensures in omega (arith, l, is)) in
    let within = table_within (settings_of c.args.settings.now) (window_in w) n c.requires.window short in
    omega (arith, c.candidates.ensures.most, few_added e c.longest_below-longest.result, ap length seqs, within)
