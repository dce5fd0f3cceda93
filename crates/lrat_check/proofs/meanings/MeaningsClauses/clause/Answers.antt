use Rattle.std.proofs.Common.{◌≡◌, ℕ, ◌<◌, ◌≤◌, List, [], Option, Some, None, sym, ◌∙◌, ap, arith, subst, length, get_or, Vec, vec_len}
use Rattle.std.specs.Prelude.{All, AllPairs, MatchOption}
use Rattle.std.specs.Borrow.{Bor}
use Rattle.std.specs.Global.{Global}
use Rattle.std.proofs.lemmas.List.{get_or-map, length-map}
use Rattle.clause_model.specs.Clauses.{numbered}
use Rattle.lrat_check.specs.declared.meanings.Meanings.{Meanings}
use Rattle.lrat_check.specs.declared.line.Addition.{Addition}
use Rattle.lrat_check.specs.Text.{id_of}
use Rattle.lrat_check.specs.Ending.{add_of, clause_of, literals_in, slices_in}
use Rattle.lrat_check.specs.Meant.{meant_by}
use Rattle.lrat_check.proofs.Meant.{means_given, means_none, means_added}
use Rattle.lrat_check.proofs.meanings.MeaningsClauses.clause.Goals as goal

vec_long : (v : Vec (Vec ℕ Global) Global) → vec_len v ≡ length v.items
vec_long v = omega arith

module _ (m : Meanings) where
  above : All (λ id. length (literals_in m.given.items) < id) m.ids.items
  above k d b = rw length-map (m.above k d b)

  given_long : (n : ℕ) → n ≡ length m.given.items → n ≡ length (literals_in m.given.items)
  given_long n e = e ∙ sym (length-map m.given.items (λ (c : Vec ℕ Global). c.items))

  places : length m.ids.items ≡ length m.clauses.items
  places =
      ap length m.ids_are ∙ length-map m.additions.items (λ (a : Bor Addition). id_of (add_of a))
      ∙ sym (length-map m.additions.items clause_of) ∙ sym (ap length m.clauses_are) ∙ length-map m.clauses.items (λ (s : Bor (List ℕ)). s.now)

  clause_at : (k : ℕ) (s : Bor (List ℕ)) → k < length m.clauses.items → s ≡ get_or m.clauses.items k s → get_or (slices_in m.clauses.items) k [] ≡ s.now
  clause_at k s b is = get_or-map (λ (s : Bor (List ℕ)). s.now) m.clauses.items k s [] b ∙ ap (λ (s : Bor (List ℕ)). s.now) (sym is)

pub returns-then-id-len : goal.returns-then-id-len
returns-then-id-len c =
    let m : Meanings = c.args.self.now in
    let long = given_long m c.len.result (c.len.ensures ∙ vec_long m.given) in
    let b : c.args.id ≤ length (literals_in m.given.items) = omega arith in
    let e : meant_by m c.args.id ≡ numbered (literals_in m.given.items) c.args.id = means_given (literals_in m.given.items) m.additions.items m.ids.items m.ids_are (above m) m.in_order c.args.id b in
    subst (λ (o : Option (List ℕ)). MatchOption c.given_at.result (o ≡ None) (λ (clause : Bor (List ℕ)). o ≡ Some clause.now)) (sym e)
    (subst (λ (xs : List (Vec ℕ Global)). MatchOption c.given_at.result (numbered (literals_in xs) c.args.id ≡ None) (λ (clause : Bor (List ℕ)). numbered (literals_in xs) c.args.id ≡ Some clause.now)) c.deref.ensures.value c.given_at.ensures)

pub returns-in-None : goal.returns-in-None
returns-in-None c =
    let m : Meanings = c.args.self.now in
    let long = given_long m c.len.result (c.len.ensures ∙ vec_long m.given) in
    let b : length (literals_in m.given.items) < c.args.id = omega arith in
    let up : AllPairs (λ id later. id < later) c.deref-2.result.now = subst (λ (xs : List ℕ). AllPairs (λ id later. id < later) xs) (sym c.deref-2.ensures.value) m.in_order in
    means_none (literals_in m.given.items) m.additions.items m.ids.items m.ids_are (above m) m.in_order c.args.id b
    (subst (λ (xs : List ℕ). (k : ℕ) → k < length xs → get_or xs k 0 ≡ c.args.id → ⊥) c.deref-2.ensures.value (c.in-None.ensures.place up))

pub returns-in-Some : goal.returns-in-Some
returns-in-Some c =
    let m : Meanings = c.args.self.now in
    let up : AllPairs (λ id later. id < later) c.deref-2.result.now = subst (λ (xs : List ℕ). AllPairs (λ id later. id < later) xs) (sym c.deref-2.ensures.value) m.in_order in
    let at = subst (λ (xs : List ℕ). (c.in-Some.place < length xs) × (get_or xs c.in-Some.place 0 ≡ c.args.id)) c.deref-2.ensures.value (c.in-Some.ensures.place up) in
    means_added (literals_in m.given.items) m.additions.items m.ids.items m.ids_are (above m) m.in_order (slices_in m.clauses.items) m.clauses_are c.args.id c.in-Some.place at.0 at.1
    ∙ ap (λ (x : List ℕ). Some x) (clause_at m c.in-Some.place c.index.result.now (subst (λ (n : ℕ). c.in-Some.place < n) (places m) at.0) c.index.ensures)
