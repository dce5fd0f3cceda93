use Rattle.std.proofs.Common.{◌≡◌, ◌*◌, ◌++◌, Some, None, map, ap, sym, ◌∙◌, rules, arith, ℤ, Vec, Global, refl}
use Rattle.std.proofs.lemmas.List.{map-append}
use Rattle.std.specs.Map.{lookup}
use Rattle.indexmap.proofs.CallerLemmas.{insert_entry-new}
use Rattle.indexmap.specs.IndexMap.{insert_entry, get}
use Rattle.cnf_gates.specs.contracts.bit.GatePartialEq.TheImpl.{eq-value}
use Rattle.cnf_gates.specs.Gates.{clauses_of, gate_eq}
use Rattle.cnf_gates.proofs.Literals.{AreClausesOf-append}
use Rattle.cnf_gates.proofs.Building.{lookup_alike, gate_made, found_not_past}
use Rattle.cnf_gates.proofs.builder.Builder.gate.Goals as goal

pub returns-clause-ok : goal.returns-clause-ok
returns-clause-ok c =
    let none : lookup (gate_eq c.args.gate) c.self.inside.gates.entries ≡ None = sym (c.in_default.ensures.value ∙ lookup_alike c.args.gate c.self.inside.gates.entries) in
    let absent : get eq-value.it c.self.inside.gates c.args.gate ≡ None = search rules in
    let kept : c.reserve.new.self.items ≡ c.self.inside.clauses.items = c.in_ok-reserve.ensures.items in
    let appended : c.append.new.self.items ≡ c.reserve.new.self.items ++ c.in_ok-added.added.items = c.in_ok-append.ensures.items in
    let made : map (λ (v : Vec ℤ Global). v.items) c.in_ok-added.added.items ≡ clauses_of c.args.gate c.new-output.result = c.in_ok-added.ensures.clauses in
    let put : c.insert.new.self.entries ≡ insert_entry eq-value.it c.self.inside.gates.entries c.args.gate c.new-output.result = c.in_ok-insert.ensures.entries in
    let place : c.new-output.result ≡ c.self.inside.variables = c.new-output.ensures in
    let clauses : map (λ (v : Vec ℤ Global). v.items) c.append.new.self.items ≡ map (λ (v : Vec ℤ Global). v.items) c.self.inside.clauses.items ++ clauses_of c.args.gate c.self.inside.variables =
    rw (appended, kept) (map-append (λ (v : Vec ℤ Global). v.items) c.self.inside.clauses.items c.in_ok-added.added.items ∙ rw (made, place) refl) in
    rw (← c.self.view_is)
    (gate_made _ c.args.gate _ _ _ _ none (omega arith) clauses
    (put ∙ insert_entry-new eq-value.it c.self.inside.gates c.args.gate c.new-output.result absent ∙ rw place refl)
    (c.positive-2.ensures ∙ ap (λ v. 2 * v) place))

pub returns-in-Some-clause-limit : goal.returns-in-Some-clause-limit
returns-in-Some-clause-limit c =
    let found : lookup (gate_eq c.args.gate) c.args.self.now.gates ≡ Some c.in-Some.found.now = search rules in
    (λ (e : _). cc, λ (p : _). absurd (found_not_past c.args.self.now c.args.gate c.in-Some.found.now found p))

pub invariant_of-self-2 : goal.invariant_of-self-2
invariant_of-self-2 c =
    let kept : c.reserve.new.self.items ≡ c.self.inside.clauses.items = c.in_ok-reserve.ensures.items in
    let appended : c.append.new.self.items ≡ c.reserve.new.self.items ++ c.in_ok-added.added.items = c.in_ok-append.ensures.items in (
      omega arith,
      rw (appended, kept, map-append (λ (v : Vec ℤ Global). v.items) c.self.inside.clauses.items c.in_ok-added.added.items)
          (AreClausesOf-append 200000 _ _ c.self.invariant.1 c.in_ok-added.ensures.literals),
    )
