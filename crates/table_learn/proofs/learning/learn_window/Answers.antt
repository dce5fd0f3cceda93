use Rattle.std.proofs.Common.{ℕ, ◌≡◌, ◌+◌, ◌-◌, ◌*◌, ◌∙◌, ◌∷◌, ◌++◌, [], rules, sym, ap, subst, arith, map, length, length-drop, drop, List, Vec, Global}
use Rattle.std.specs.Prelude.{All}
use Rattle.std.proofs.lemmas.List.{map_push, length-map}
use Rattle.rule_table.specs.declared.table.Entry.{Entry}
use Rattle.window_exec.specs.declared.state.WState.{WState}
use Rattle.window_exec.specs.State.{seen}
use Rattle.rule_table.specs.declared.header.Field.TheVariants.{Left}
use Rattle.rule_table.specs.Text.{rule_items}
use Rattle.rule_table.specs.Views.{rule_of}
use Rattle.table_learn.specs.Given.{settings_of}
use Rattle.table_learn.specs.Found.{window_in}
use Rattle.table_learn.specs.Dropping.{IsSided}
use Rattle.table_learn.specs.Lengths.{lines_length}
use Rattle.table_learn.specs.Searching.{AreCandidates}
use Rattle.table_learn.specs.Keeping.{AreKept, IsOfFirst}
use Rattle.table_learn.proofs.Below.{narrow_lengths}
use Rattle.table_learn.proofs.Rounds.{side_over, grown_length, all_sided, after_window, kept_later, table_alphabet, put_back, window_cost}
use Rattle.table_learn.proofs.learning.learn_window.Goals as goal

pub candidates-requires-clause-left : goal.candidates-requires-clause-left
candidates-requires-clause-left g c = (side_over (settings_of c.args.settings.now) (window_in c.args.window) c.requires.window).2

pub candidates-requires-clause-short : goal.candidates-requires-clause-short
candidates-requires-clause-short g c = narrow_lengths (settings_of c.args.settings.now) (window_in c.args.window) c.requires.window (c.requires.limits.header.numbers Left).1 c.requires.narrow

pub candidates-requires-clause-states : goal.candidates-requires-clause-states
candidates-requires-clause-states g c =
    let known = c.requires.before.1.progress.long in
    let many = length-map c.args.learner.now.states.items seen in
    let listed = ap (λ (ss : List WState). length ss) c.deref.ensures.value in
    omega (arith, known, many, listed)

pub search-requires-clause-alphabet : goal.search-requires-clause-alphabet
search-requires-clause-alphabet g c =
    let known = c.requires.before.1.progress.long in
    let many = length-map c.args.learner.now.states.items seen in
    let of_first : IsOfFirst c.args.window.k c.args.settings.now.pool (map seen c.args.learner.now.states.items) c.in_ok-list.list.outcomes = subst (λ (ss : List WState). IsOfFirst c.args.window.k c.args.settings.now.pool (map seen ss) c.in_ok-list.list.outcomes) c.deref.ensures.value c.in_ok-list.ensures.outcomes in
    table_alphabet c.args.window.k c.args.settings.now.pool c.args.learner.now.states.items c.in_ok-list.list.outcomes (omega (arith, known, many)) of_first

pub behind-found-requires : goal.behind-found-requires
behind-found-requires g c =
    let before : c.len-before.result ≡ length c.args.learner.now.states.items = search rules in
    let many : length c.deref-2.result.now ≡ length c.search.new.states.items = ap (λ (ss : List WState). length ss) c.deref-2.ensures.value in
    let grown = grown_length c.args.learner.now.states.items c.search.new.states.items c.in_ok-entry.ensures.grown in
    omega (arith, before, many, grown)

pub drop_all_told-requires : goal.drop_all_told-requires
drop_all_told-requires g c =
    let pushed : c.replace-entries.result.items ≡ c.args.learner.now.entries.items ++ c.in_ok-entry.entry ∷ [] = ap (λ (v : Vec Entry Global). v.items) c.replace-entries.ensures.value ∙ c.in_ok-push.ensures.items in
    let rules : map rule_of c.replace-entries.result.items ≡ map rule_of c.args.learner.now.entries.items ++ rule_of c.in_ok-entry.entry ∷ [] = ap (map rule_of) pushed ∙ map_push rule_of c.args.learner.now.entries.items c.in_ok-entry.entry in
    subst (All IsSided) (sym rules)
    (all_sided (settings_of c.args.settings.now) c.requires.before.0 (map seen c.args.learner.now.states.items) (map seen c.search.new.states.items) (map rule_of c.args.learner.now.entries.items) (rule_of c.in_ok-entry.entry) c.requires.before.1.progress c.in_ok-entry.ensures.fits)

pub overflow_sub-learner : goal.overflow_sub-learner
overflow_sub-learner g c =
    let pushed : c.replace-entries.result.items ≡ c.args.learner.now.entries.items ++ c.in_ok-entry.entry ∷ [] = ap (λ (v : Vec Entry Global). v.items) c.replace-entries.ensures.value ∙ c.in_ok-push.ensures.items in
    let before : c.len-before.result ≡ length c.args.learner.now.states.items = search rules in
    let found : c.behind-found.result.now ≡ drop (length c.args.learner.now.states.items) c.search.new.states.items =
    c.behind-found.ensures ∙ ap (λ (j : ℕ). drop j c.deref-2.result.now) before ∙ ap (λ (ss : List WState). drop (length c.args.learner.now.states.items) ss) c.deref-2.ensures.value in
    let lines : c.in_ok-lines.lines ≡ lines_length (rule_items (rule_of c.in_ok-entry.entry)) + length c.behind-found.result.now * 44 = c.in_ok-lines.ensures in
    let after = after_window (settings_of c.args.settings.now) c.requires.before.0 (window_in c.args.window) c.args.learner.now c.search.new.states.items c.behind-found.result.now c.replace-entries.result.items c.in_ok-entries.entries.items c.in_ok-entry.entry c.in_ok-lines.lines c.in_ok-whole.whole c.in_ok-entries.freed c.requires.before.1
    c.in_ok-entry.ensures.grown c.in_ok-entry.ensures.earned c.in_ok-entry.ensures.window c.in_ok-entry.ensures.fits found pushed c.in_ok-entries.ensures.kept c.in_ok-entries.ensures.freed lines c.in_ok-whole.ensures in
    let text = after.1 in
    omega (arith, text)

pub returns-clause-learnt : goal.returns-clause-learnt
returns-clause-learnt g c = λ windows h.
    let pushed : c.replace-entries.result.items ≡ c.args.learner.now.entries.items ++ c.in_ok-entry.entry ∷ [] = ap (λ (v : Vec Entry Global). v.items) c.replace-entries.ensures.value ∙ c.in_ok-push.ensures.items in
    let before : c.len-before.result ≡ length c.args.learner.now.states.items = search rules in
    let found : c.behind-found.result.now ≡ drop (length c.args.learner.now.states.items) c.search.new.states.items =
    c.behind-found.ensures ∙ ap (λ (j : ℕ). drop j c.deref-2.result.now) before ∙ ap (λ (ss : List WState). drop (length c.args.learner.now.states.items) ss) c.deref-2.ensures.value in
    let lines : c.in_ok-lines.lines ≡ lines_length (rule_items (rule_of c.in_ok-entry.entry)) + length c.behind-found.result.now * 44 = c.in_ok-lines.ensures in
    let after = after_window (settings_of c.args.settings.now) windows (window_in c.args.window) c.args.learner.now c.search.new.states.items c.behind-found.result.now c.replace-entries.result.items c.in_ok-entries.entries.items c.in_ok-entry.entry c.in_ok-lines.lines c.in_ok-whole.whole c.in_ok-entries.freed h
    c.in_ok-entry.ensures.grown c.in_ok-entry.ensures.earned c.in_ok-entry.ensures.window c.in_ok-entry.ensures.fits found pushed c.in_ok-entries.ensures.kept c.in_ok-entries.ensures.freed lines c.in_ok-whole.ensures in
    let text = after.1 in
    let kept : AreKept c.args.settings.now.pool (map seen c.args.learner.now.states.items) c.candidates.new.tables = subst (λ (ss : List WState). AreKept c.args.settings.now.pool (map seen ss) c.candidates.new.tables) c.deref.ensures.value c.candidates.ensures.kept in
    let of_first : IsOfFirst c.args.window.k c.args.settings.now.pool (map seen c.args.learner.now.states.items) c.in_ok-list.list.outcomes = subst (λ (ss : List WState). IsOfFirst c.args.window.k c.args.settings.now.pool (map seen ss) c.in_ok-list.list.outcomes) c.deref.ensures.value c.in_ok-list.ensures.outcomes in
    let back : AreKept c.args.settings.now.pool (map seen c.args.learner.now.states.items) c.put.new.self = put_back c.args.window.k c.args.settings.now.pool (map seen c.args.learner.now.states.items) c.in_ok-list.list.outcomes c.candidates.new.tables c.put.new.self kept of_first c.put.ensures in
    let many : length (map seen c.args.learner.now.states.items) ≡ length c.args.learner.now.states.items = length-map c.args.learner.now.states.items seen in
    record {
      progress = after.0;
      bytes = omega (arith, text);
      kept = kept_later c.args.settings.now.pool (map seen c.args.learner.now.states.items) (map seen c.search.new.states.items) c.put.new.self c.in_ok-entry.ensures.grown (let known = h.progress.long in omega (arith, known)) back;
    }

pub returns-clause-grown : goal.returns-clause-grown
returns-clause-grown g c = grown_length c.args.learner.now.states.items c.search.new.states.items c.in_ok-entry.ensures.grown

pub returns-clause-cost : goal.returns-clause-cost
returns-clause-cost g c =
    let pushed : c.replace-entries.result.items ≡ c.args.learner.now.entries.items ++ c.in_ok-entry.entry ∷ [] = ap (λ (v : Vec Entry Global). v.items) c.replace-entries.ensures.value ∙ c.in_ok-push.ensures.items in
    let before : c.len-before.result ≡ length c.args.learner.now.states.items = search rules in
    let found : c.behind-found.result.now ≡ drop (length c.args.learner.now.states.items) c.search.new.states.items =
    c.behind-found.ensures ∙ ap (λ (j : ℕ). drop j c.deref-2.result.now) before ∙ ap (λ (ss : List WState). drop (length c.args.learner.now.states.items) ss) c.deref-2.ensures.value in
    let are : AreCandidates (settings_of c.args.settings.now) (map seen c.args.learner.now.states.items) (window_in c.args.window) c.in_ok-list.list.numbers.items = subst (λ (ss : List WState). AreCandidates (settings_of c.args.settings.now) (map seen ss) (window_in c.args.window) c.in_ok-list.list.numbers.items) c.deref.ensures.value c.in_ok-list.ensures.candidates in
    let size : length c.behind-found.result.now ≡ length c.search.new.states.items - length c.args.learner.now.states.items = ap (λ (ss : List WState). length ss) found ∙ length-drop (length c.args.learner.now.states.items) c.search.new.states.items in
    window_cost (settings_of c.args.settings.now) c.requires.before.0 (window_in c.args.window) c.args.learner.now c.search.new.states.items c.behind-found.result.now c.replace-entries.result.items c.in_ok-entries.entries.items c.in_ok-entry.entry c.in_ok-list.list.numbers.items c.args.steps.now c.candidates.new.steps c.search.new.steps c.drop_all_told.new.steps
    c.requires.before.1 c.requires.window are c.in_ok-entry.ensures.fits pushed c.in_ok-entries.ensures.kept size c.candidates.ensures.cost c.in_ok-entry.ensures.cost (grown_length c.args.learner.now.states.items c.search.new.states.items c.in_ok-entry.ensures.grown) c.in_ok-entries.ensures.cost
