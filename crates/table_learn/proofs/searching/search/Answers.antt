use Rattle.std.proofs.Common.{ℕ, ◌≡◌, ◌<◌, ◌≤◌, ◌+◌, ◌∙◌, Some, None, sym, ap, subst, arith, refl, map, length, get_or, List, Option, slice_get}
use Rattle.std.proofs.lemmas.List.{length-map}
use Rattle.std.proofs.lemmas.Option.{same_Some}
use Rattle.thumb_instr.specs.declared.instr.Instr.{Instr}
use Rattle.window_exec.specs.State.{seen, Seen}
use Rattle.seq_enum.specs.Alphabet.{alphabet, sequences_of}
use Rattle.rule_table.specs.Views.{opened_of}
use Rattle.table_audit.specs.Shorter.{alphabet_registers, IsBelow}
use Rattle.table_learn.specs.Learnt.{Settings, Window}
use Rattle.table_learn.specs.Given.{settings_of}
use Rattle.table_learn.specs.Found.{window_in}
use Rattle.table_learn.specs.Searching.{IsCandidate, AreCandidates, EarnedFrom}
use Rattle.table_learn.specs.Tried.{Tried}
use Rattle.table_learn.proofs.Costs.{query_more, query_within}
use Rattle.table_learn.proofs.Searched.{search_next, right_found, none_found}
use Rattle.table_learn.proofs.Steps.{search_begins}
use Rattle.table_learn.proofs.searching.search.Goals as goal

-- the alphabet is that of the window's registers
alphabet_of : (s : Settings) (w : Window) (k : ℕ) (instrs : List Instr) → k ≡ alphabet_registers s w.seq → instrs ≡ alphabet k s.pool → instrs ≡ alphabet (alphabet_registers s w.seq) s.pool
alphabet_of s w k instrs named is = is ∙ ap (λ j. alphabet j s.pool) named

none_there : {X : Type 0} (o : Option X) (x : X) → o ≡ Some x → o ≡ None → ⊥
none_there o x some none = let e : Some x ≡ None = sym some ∙ none in cc

-- a number of the list is that of a sequence below the window
candidate_at : (s : Settings) (states : List Seen) (w : Window) (numbers these : List ℕ) (i : ℕ) → AreCandidates s states w numbers → these ≡ numbers → i < length these → IsCandidate s w (get_or these i 0)
candidate_at s states w numbers these i are same low = (subst (AreCandidates s states w) (sym same) are).each i 0 low

pub loop-number-init : goal.loop-number-init
loop-number-init g c = record {
  search = rw c.new-opens.ensures.items (search_begins (settings_of c.args.settings.now) (window_in c.args.window) (map seen c.args.states.now.items) c.args.list.now.numbers.items c.requires.candidates.ordered);
  cost = omega arith;
}

pub unreachable-requires : goal.unreachable-requires
unreachable-requires g c =
    let s = settings_of c.args.settings.now in
    let w = window_in c.args.window in
    let instrs = alphabet_of s w c.args.window.k c.args.list.now.outcomes.alphabet c.requires.counted c.requires.alphabet in
    let candidate = candidate_at s (map seen c.args.states.now.items) w c.args.list.now.numbers.items c.deref-number-items.result.now c.loop-number.number-index c.requires.candidates c.deref-number-items.ensures.value c.loop-number-test.true in
    let there : c.sequence_at.result ≡ Some candidate.0 = c.sequence_at.ensures ∙ ap (λ ls. slice_get (sequences_of ls) (get_or c.deref-number-items.result.now c.loop-number.number-index 0)) instrs ∙ candidate.1.at in
    none_there c.sequence_at.result candidate.0 there c.in_default.is

pub try_candidate-requires-clause-candidate : goal.try_candidate-requires-clause-candidate
try_candidate-requires-clause-candidate g c =
    let s = settings_of c.args.settings.now in
    let w = window_in c.args.window in
    let instrs = alphabet_of s w c.args.window.k c.args.list.now.outcomes.alphabet c.requires.counted c.requires.alphabet in
    let candidate = candidate_at s (map seen c.args.states.now.items) w c.args.list.now.numbers.items c.deref-number-items.result.now c.loop-number.number-index c.requires.candidates c.deref-number-items.ensures.value c.loop-number-test.true in
    let there : c.sequence_at.result ≡ Some candidate.0 = c.sequence_at.ensures ∙ ap (λ ls. slice_get (sequences_of ls) (get_or c.deref-number-items.result.now c.loop-number.number-index 0)) instrs ∙ candidate.1.at in
    let same : candidate.0 ≡ c.in-Some.seq = same_Some candidate.0 c.in-Some.seq (sym there ∙ c.in-Some.is) in
    subst (λ z. IsBelow s w.seq w.seq (get_or c.deref-number-items.result.now c.loop-number.number-index 0) z) same candidate.1

pub returns-in-Some-2-clause-earned : goal.returns-in-Some-2-clause-earned
returns-in-Some-2-clause-earned g c =
    let tried = subst (Tried (settings_of c.args.settings.now) (window_in c.args.window) (map seen c.loop-number.states.items) (map opened_of c.loop-number.opens.items) (map seen c.try_candidate.new.states.items) (map opened_of c.try_candidate.new.opens.items) _) c.in-Some-2.is c.in_ok-right.ensures.tried in
    let l = length-map c.args.states.now.items seen in
    subst (λ (ss : List Seen). EarnedFrom (settings_of c.args.settings.now) (length c.args.states.now.items) ss (window_in c.args.window)) (sym tried.0)
    (λ i x from at. c.loop-number.invariant.search.earned i x (omega (arith, from, l)) at)

pub returns-in-Some-2-clause-fits : goal.returns-in-Some-2-clause-fits
returns-in-Some-2-clause-fits g c =
    let low : c.loop-number.number-index < length c.args.list.now.numbers.items = subst (λ (ns : List ℕ). c.loop-number.number-index < length ns) c.deref-number-items.ensures.value c.loop-number-test.true in
    let there = subst (Tried (settings_of c.args.settings.now) (window_in c.args.window) (map seen c.loop-number.states.items) (map opened_of c.loop-number.opens.items) (map seen c.try_candidate.new.states.items) (map opened_of c.try_candidate.new.opens.items) _) c.in-Some-2.is c.in_ok-right.ensures.tried in
    let tried = subst (λ (ns : List ℕ). Tried (settings_of c.args.settings.now) (window_in c.args.window) (map seen c.loop-number.states.items) (map opened_of c.loop-number.opens.items) (map seen c.try_candidate.new.states.items) (map opened_of c.try_candidate.new.opens.items) (get_or ns c.loop-number.number-index 0) (Some (c.in-Some-2.right, c.in-Some-2.proof))) c.deref-number-items.ensures.value there in
    right_found (settings_of c.args.settings.now) (window_in c.args.window) _ (map seen c.args.states.now.items) (map seen c.loop-number.states.items) (map seen c.try_candidate.new.states.items) (map opened_of c.loop-number.opens.items) (map opened_of c.try_candidate.new.opens.items) c.args.list.now.numbers.items c.loop-number.number-index 0 (c.in-Some-2.right, c.in-Some-2.proof)
    refl c.requires.window c.args.window.mask.in_masks low c.loop-number.invariant.search c.requires.candidates tried refl refl c.in_ok-opens.ensures

pub returns-in-Some-2-clause-cost : goal.returns-in-Some-2-clause-cost
returns-in-Some-2-clause-cost g c =
    let low : c.loop-number.number-index < length c.args.list.now.numbers.items = subst (λ (ns : List ℕ). c.loop-number.number-index < length ns) c.deref-number-items.ensures.value c.loop-number-test.true in
    let more = query_more c.loop-number.steps c.try_candidate.new.steps c.args.steps.now c.loop-number.number-index (length c.loop-number.states.items) (length c.try_candidate.new.states.items) c.args.settings.now.budget (length c.args.window.left) c.loop-number.invariant.cost c.in_ok-right.ensures.cost c.in_ok-right.ensures.more in
    query_within c.try_candidate.new.steps c.args.steps.now (c.loop-number.number-index + 1) (length c.args.list.now.numbers.items) _ more (omega (arith, low))

pub loop-number-preserved : goal.loop-number-preserved
loop-number-preserved g c =
    let low : c.loop-number.number-index < length c.args.list.now.numbers.items = subst (λ (ns : List ℕ). c.loop-number.number-index < length ns) c.deref-number-items.ensures.value c.loop-number-test.true in
    let there = subst (Tried (settings_of c.args.settings.now) (window_in c.args.window) (map seen c.loop-number.states.items) (map opened_of c.loop-number.opens.items) (map seen c.try_candidate.new.states.items) (map opened_of c.try_candidate.new.opens.items) _) c.in_default-2.is c.in_ok-right.ensures.tried in
    let tried = subst (λ (ns : List ℕ). Tried (settings_of c.args.settings.now) (window_in c.args.window) (map seen c.loop-number.states.items) (map opened_of c.loop-number.opens.items) (map seen c.try_candidate.new.states.items) (map opened_of c.try_candidate.new.opens.items) (get_or ns c.loop-number.number-index 0) None) c.deref-number-items.ensures.value there in
    record {
      search = search_next (settings_of c.args.settings.now) (window_in c.args.window) (map seen c.args.states.now.items) (map seen c.loop-number.states.items) (map seen c.try_candidate.new.states.items) (map opened_of c.loop-number.opens.items) (map opened_of c.try_candidate.new.opens.items) c.args.list.now.numbers.items c.loop-number.number-index 0 low tried c.loop-number.invariant.search;
      cost = query_more c.loop-number.steps c.try_candidate.new.steps c.args.steps.now c.loop-number.number-index (length c.loop-number.states.items) (length c.try_candidate.new.states.items) c.args.settings.now.budget (length c.args.window.left) c.loop-number.invariant.cost c.in_ok-right.ensures.cost c.in_ok-right.ensures.more;
    }

pub returns-clause-earned : goal.returns-clause-earned
returns-clause-earned g c =
    let l = length-map c.args.states.now.items seen in
    λ i x from at. c.loop-number.invariant.search.earned i x (omega (arith, from, l)) at

pub returns-clause-fits : goal.returns-clause-fits
returns-clause-fits g c =
    let past : length c.args.list.now.numbers.items ≤ c.loop-number.number-index = subst (λ (ns : List ℕ). length ns ≤ c.loop-number.number-index) c.deref-number-items.ensures.value c.loop-number-test.false in
    none_found (settings_of c.args.settings.now) (window_in c.args.window) _ (map seen c.args.states.now.items) (map seen c.loop-number.states.items) (map opened_of c.loop-number.opens.items) c.args.list.now.numbers.items c.loop-number.number-index c.new.result
    refl c.requires.window c.args.window.mask.in_masks past c.loop-number.invariant.search c.requires.candidates c.copied.ensures refl c.new.ensures.items refl
