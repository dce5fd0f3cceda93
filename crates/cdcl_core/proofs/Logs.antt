-- The loop of searches: the invariant of solver and log.
use Rattle.std.proofs.Common.{◌≡◌, ℕ, ◌+◌, ◌*◌, ◌<◌, ◌≤◌, List, [], ◌∷◌, ◌++◌, length, get_or, take, map, length-append, append-nil, append_assoc, refl, sym, ◌∙◌, ap, inl, inr, arith, subst}
use Rattle.std.specs.Prelude.{All, Any, Contains}
use Rattle.std.proofs.lemmas.Bool.{cases_lt}
use Rattle.std.proofs.lemmas.List.{length-map, map_push, take-append-le, take_at, get_or_push, get_or_append_left}
use Rattle.std.proofs.Math.Nat.{mul-le-mul_left, mul-le-mul_right}
use Rattle.clause_model.specs.Clauses.{IsAsserting}
use Rattle.clause_arena.specs.Contents.{Clause}
use Rattle.lrat_check.specs.declared.line.Line.{Line}
use Rattle.lrat_check.specs.declared.line.Line.TheVariants.{Addition as Adding}
use Rattle.lrat_check.specs.declared.line.Addition.{Addition}
use Rattle.cdcl_core.specs.declared.solver.Solver.{Solver}
use Rattle.cdcl_core.specs.Implied.{clauses_of}
use Rattle.cdcl_core.specs.Held.{Covers}
use Rattle.cdcl_core.specs.Searched.{HasBase, IsModelOf}
use Rattle.cdcl_core.specs.Solved.{Adds, literals_in, with_log, Teaches, IsLog, IsRefutation}
use Rattle.cdcl_core.proofs.Lists.{All-left}
use Rattle.cdcl_core.proofs.Adopted.{base_here}
use Rattle.cdcl_core.proofs.Covered.{covers_more}
use Rattle.common_lemmas.proofs.Numbers.{one_more_times}

-- what holds after `round` lines
pub record Running (formula : List (List ℕ)) (solver : Solver) (log : List Line) (round : ℕ) : Type 0 where
  pub base : HasBase (clauses_of solver.arena) solver solver.conflict
  pub covers : Covers (with_log formula log) (clauses_of solver.arena) solver.ids.items solver.trail
  pub each : IsLog formula log
  pub count : length log ≡ round

pub running_begun : (formula : List (List ℕ)) (solver : Solver) (log : List Line) → HasBase (clauses_of solver.arena) solver solver.conflict → Covers formula (clauses_of solver.arena) solver.ids.items solver.trail → log ≡ [] → Running formula solver log 0
running_begun formula solver log b v e = rw e record {
  base = b;
  covers = subst (λ (cs : List (List ℕ)). Covers cs (clauses_of solver.arena) solver.ids.items solver.trail) (sym (append-nil formula)) v;
  each = λ k d c. absurd (omega (arith, c));
  count = refl;
}

pub with_more : (formula : List (List ℕ)) (log : List Line) (line : Line) → with_log formula (log ++ line ∷ []) ≡ with_log formula log ++ literals_in line ∷ []
with_more formula log line = ap (λ (cs : List (List ℕ)). formula ++ cs) (map_push literals_in log line) ∙ sym (append_assoc formula (map literals_in log) (literals_in line ∷ []))

pub log_more : (formula : List (List ℕ)) (log : List Line) (line : Line) → IsLog formula log → Teaches (with_log formula log) line → IsLog formula (log ++ line ∷ [])
log_more formula log line h t k d b = elim (cases_lt k (length log)) [
  | inl c ↦
      let m : k ≤ length log = omega arith in
      let p : take k (log ++ line ∷ []) ≡ take k log = take-append-le k log (line ∷ []) m in
      let q : get_or (log ++ line ∷ []) k d ≡ get_or log k d = get_or_append_left log (line ∷ []) d k c in
      rw (p, q) (h k d c)
  | inr c ↦
      let m : k ≡ length log = omega (arith, b, c, length-append log (line ∷ [])) in
      let p : take k (log ++ line ∷ []) ≡ log = take_at log (line ∷ []) k (sym m) in
      let q : get_or (log ++ line ∷ []) k d ≡ line = get_or_push log line d k (sym m) in
      rw (p, q) t
]

module _ (formula : List (List ℕ)) (solver : Solver) (log : List Line) (round : ℕ) (h : Running formula solver log round) where
  -- there are as many ids as references
  pub running_aligned : length solver.ids.items ≡ length solver.refs.items
  running_aligned = h.covers.aligned ∙ (length-map solver.arena.clauses (λ (c : Clause). c.literals) ∙ (sym (length-map solver.arena.clauses (λ (c : Clause). c.at)) ∙ sym (ap length h.base.numbered_by)))

  -- how many clauses there are
  pub clause_count : length (with_log formula log) ≡ length formula + round
  clause_count = length-append formula (map literals_in log) ∙ ap (λ (n : ℕ). length formula + n) (length-map log literals_in ∙ h.count)

  pub next_id : (id : ℕ) → id ≡ length formula + round + 1 → id ≡ length (with_log formula log) + 1
  next_id id e = e ∙ ap (λ (n : ℕ). n + 1) (sym clause_count)

  pub formula_holds : (a : List ℕ) → IsModelOf (with_log formula log) a → All (λ clause. Any (Contains a) clause) formula
  formula_holds a m = All-left (λ clause. Any (Contains a) clause) formula (map literals_in log) m.holds

  pub refuted : (line : Addition) (log' : List Line) → log' ≡ log ++ Adding line ∷ [] → Adds (with_log formula log) line × (line.literals.items ≡ []) → IsRefutation formula log'
  refuted line log' e r = (log, Adding line, e, h.each, r)

  pub running_more : (line : Addition) (literals : List ℕ) (log' : List Line) (id : ℕ) → log' ≡ log ++ Adding line ∷ [] → literals ≡ line.literals.items → id ≡ length formula + round + 1
      → Adds (with_log formula log) line × IsAsserting (with_log formula log) line.literals.items
      → (held : List (List ℕ)) (names base : List ℕ) → Covers (with_log formula log) held names base
      → (solver' : Solver) → solver'.ids.items ≡ names ++ id ∷ [] → All (Contains solver'.trail) base → HasBase (held ++ literals ∷ []) solver' solver'.conflict → Running formula solver' log' (round + 1)
  running_more line literals log' id e f n t held names base v solver' i w b = rw e record {
    base = base_here b;
    covers =
        let p : with_log formula log ++ literals ∷ [] ≡ with_log formula (log ++ Adding line ∷ []) = ap (λ (ls : List ℕ). with_log formula log ++ ls ∷ []) f ∙ sym (with_more formula log (Adding line)) in
        subst (λ (cs : List (List ℕ)). Covers (with_log formula (log ++ Adding line ∷ [])) cs solver'.ids.items solver'.trail) (sym b.clauses_are)
        (subst (λ (ns : List ℕ). Covers (with_log formula (log ++ Adding line ∷ [])) (held ++ literals ∷ []) ns solver'.trail) (sym i)
        (subst (λ (cs : List (List ℕ)). Covers cs (held ++ literals ∷ []) (names ++ id ∷ []) solver'.trail) p (covers_more (with_log formula log) held names base v solver'.trail w literals id (next_id id n))));
    each = log_more formula log (Adding line) h.each t;
    count = omega (arith, h.count, length-append log (Adding line ∷ []));
  }

-- an asserting clause isn't empty
pub asserting_some : (clauses : List (List ℕ)) (literals codes : List ℕ) → codes ≡ literals → IsAsserting clauses literals → 0 < length codes
asserting_some clauses literals codes e s = let b : s.1.2.0 < length literals = s.1.2.1 in omega (arith, b, ap length e)

pub rounds_within : (r b w : ℕ) → r + 1 ≤ b → r * w + w ≤ b * w
rounds_within r b w h = omega (arith, one_more_times r w, mul-le-mul_right {m = r + 1} {n = b} w h)

-- the steps after one more search
pub cost_after : (steps old new round budget width used : ℕ) → new ≤ steps + used + 1 → used ≡ width → steps ≤ old + round * (width + 1) → round < budget → new ≤ old + budget * (width + 1)
cost_after steps old new round budget width used more e before low = omega (arith, e, rounds_within round budget (width + 1) (omega arith))

pub budget_within : (b w n : ℕ) → w ≤ n → b * (w + 1) ≤ (b + 1) * (n + 1)
budget_within b w n h =
    let p : b * (w + 1) ≤ b * (n + 1) = mul-le-mul_left {m = w + 1} {n = n + 1} b (omega arith) in
    let q : b * (n + 1) ≤ (b + 1) * (n + 1) = mul-le-mul_right {m = b} {n = b + 1} (n + 1) (omega arith) in
    omega (arith, p, q)
