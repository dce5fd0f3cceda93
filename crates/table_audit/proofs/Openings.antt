-- Numbers that are rightly named open, and what their tests cost.
use Rattle.std.proofs.Common.{◌≡◌, ℕ, ◌+◌, ◌*◌, ◌≤◌, ◌↔◌, Bool, true, IsTrue, List, [], ◌∷◌, sum_by, Option, Some, None, length, refl, sym, ◌∙◌, ap, subst, arith, Result, Ok, Err, IfOk}
use Rattle.std.proofs.lemmas.Option.{same_Some}
use Rattle.std.proofs.lemmas.List.Sums.{sum_by-cons}
use Rattle.std.proofs.lemmas.List.{length-map}
use Rattle.thumb_instr.specs.declared.instr.Instr.{Instr}
use Rattle.clause_model.specs.Clauses.{codes_of}
use Rattle.lrat_check.specs.Text.{Content}
use Rattle.window_exec.specs.State.{Seen}
use Rattle.seq_enum.specs.Alphabet.{ascends_from}
use Rattle.rule_table.specs.Table.{Opened, Rule, Table, numbers_of}
use Rattle.lrat_check.specs.Proofs.{IsSpentLog}
use Rattle.lrat_check.specs.ProofCosts.{spent_cost}
use Rattle.table_audit.specs.Shorter.{alphabet_registers, formula_against, IsTold, below, lighter_at, below_at}
use Rattle.fingerprints.specs.Trials.{start_of, AreTrials}
use Rattle.fingerprints.specs.declared.trials.Trial.{Trial}
use Rattle.table_audit.specs.Naming.{told_cost}
use Rattle.table_audit.specs.Acceptance.{IsRightlyOpen}
use Rattle.table_audit.specs.Costs.{log_cost, open_cost}
use Rattle.table_audit.proofs.Below.{below_found, below_is, run_within, told_most}

-- the sequence of a number, as the test finds it
pub found : (t : Table) (e : Rule) (number k : ℕ) (o : Option (List Instr)) → k ≡ alphabet_registers t.header e.left → o ≡ lighter_at t.header.costs k t.header.pool e.left e.right number → below_at t.header e.left e.right number ≡ o
found t e number k o f is = sym (is ∙ ap (λ j. lighter_at t.header.costs j t.header.pool e.left e.right number) f)

pub none_open : (t : Table) (e : Rule) (o : Opened) → below_at t.header e.left e.right o.number ≡ None → IsRightlyOpen t e o → ⊥
none_open t e o at r = let no : None ≡ Some r.seq = sym at ∙ below_is t.header e.left e.right o.number r.seq r.below in absurd (cc)

pub told_open : (t : Table) (e : Rule) (o : Opened) (seq : List Instr) → below_at t.header e.left e.right o.number ≡ Some seq → IsTold t.states e.left seq e.mask → IsRightlyOpen t e o → ⊥
told_open t e o seq at told r =
    let same : seq ≡ r.seq = same_Some _ _ (sym at ∙ below_is t.header e.left e.right o.number r.seq r.below) in
    r.untold (subst (λ s. IsTold t.states e.left s e.mask) same told)

pub spent_open : (t : Table) (e : Rule) (o : Opened) (seq : List Instr) (r : Bool) → below_at t.header e.left e.right o.number ≡ Some seq → (IsTold t.states e.left seq e.mask → ⊥)
    → IsTrue r ↔ IsSpentLog t.header.budget (codes_of (formula_against t.header e seq).clauses) o.log → IsTrue r ↔ IsRightlyOpen t e o
spent_open t e o seq r at untold spent = (
  λ h. record { seq = seq; below = below_found t.header e.left e.right o.number seq at; untold = untold; spent = spent.0 h },
  λ right. (
      let same : right.seq ≡ seq = same_Some _ _ (sym (below_is t.header e.left e.right o.number right.seq right.below) ∙ at) in
      spent.1 (subst (λ s. IsSpentLog t.header.budget (codes_of (formula_against t.header e s).clauses) o.log) same right.spent)
      ),
)

-- ---- steps ----

pub as_many : (left : List Instr) (states : List Seen) (trials : List Trial) → AreTrials left states trials → length trials ≡ length states
as_many left states trials a = sym (length-map trials start_of) ∙ ap length a.starts

-- where no state tells it, the steps of its log are added
pub spent_within : (t : Table) (e : Rule) (o : Opened) (seq : List Instr) (start before after u s log : ℕ) → below_at t.header e.left e.right o.number ≡ Some seq → u ≡ length t.states → s ≤ length e.left
    → before ≤ start + u * s → after ≤ before + log → log ≡ spent_cost (codes_of (formula_against t.header e seq).clauses) o.log → after ≤ start + (told_cost t e o.number + open_cost t e o)
spent_within t e o seq start before after u s log at is short h k f =
    let logs : open_cost t e o ≡ spent_cost (codes_of (formula_against t.header e seq).clauses) o.log = ap (log_cost t e o) at in
    omega (arith, run_within t e o.number seq start before u s at is short h, k, f, logs)

-- ---- the answer ----

pub spent_answers : {E : Type 0} (t : Table) (e : Rule) (o : Opened) (seq : List Instr) (budget : ℕ) (clauses : List (List ℕ)) (log : List Content) (r : Result Bool E)
    → below_at t.header e.left e.right o.number ≡ Some seq → (IsTold t.states e.left seq e.mask → ⊥) → budget ≡ t.header.budget → clauses ≡ codes_of (formula_against t.header e seq).clauses → log ≡ o.log
    → IfOk r (λ spent. IsTrue spent ↔ IsSpentLog budget clauses log) → IfOk r (λ right. IsTrue right ↔ IsRightlyOpen t e o)
spent_answers t e o seq budget clauses log (Ok b) at untold f g h spent =
    spent_open t e o seq b at untold
    (subst (λ ls. IsTrue b ↔ IsSpentLog t.header.budget (codes_of (formula_against t.header e seq).clauses) ls) h
    (subst (λ cs. IsTrue b ↔ IsSpentLog t.header.budget cs log) g
    (subst (λ n. IsTrue b ↔ IsSpentLog n clauses log) f spent)))
spent_answers t e o seq budget clauses log (Err x) at untold f g h spent = tt

-- ---- all numbers named open ----

-- the runs and the log for one
abbrev pub both_costs : Table → Rule → Opened → ℕ
both_costs t e o = told_cost t e o.number + open_cost t e o

-- for all of them the runs are within those of all sequences below the right side
pub within_opens : (t : Table) (e : Rule) (before after : ℕ) → length e.left ≤ 5 → ascends_from 0 (numbers_of e.opens) ≡ true → after ≤ before + sum_by (both_costs t e) e.opens
    → after ≤ before + (length (below t.header e.left e.right) * (length t.states * length e.left) + sum_by (open_cost t e) e.opens)
within_opens t e before after few a h = omega (arith, h, told_most t e (numbers_of e.opens) few a, parts e.opens)
  where
    parts : (opens : List Opened) → sum_by (both_costs t e) opens ≡ sum_by (told_cost t e) (numbers_of opens) + sum_by (open_cost t e) opens
    parts [] = refl
    parts (o ∷ opens) =
        omega (arith, sum_by-cons (both_costs t e) o opens, sum_by-cons (told_cost t e) o.number (numbers_of opens), sum_by-cons (open_cost t e) o opens, parts opens)
