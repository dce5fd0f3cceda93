use Rattle.std.proofs.Common.{◌≡◌, ◌∙◌, refl, ap, sym, subst, map, List, Some}
use Rattle.std.specs.Option.{option_map}
use Rattle.std.proofs.lemmas.Option.{same_Some}
use Rattle.clause_model.specs.Clauses.{codes_of}
use Rattle.cnf_gates.specs.Cnf.{Cnf}
use Rattle.lrat_check.specs.Text.{content_of, IsTrimmed}
use Rattle.lrat_check.specs.declared.line.Line.{Line}
use Rattle.lrat_check.specs.Runs.{IsRefutation}
use Rattle.rule_table.specs.Table.{Rule}
use Rattle.rule_table.specs.Views.{rule_of, family_of, header_in, table_of}
use Rattle.table_audit.specs.Families.{entry_of, raised_formula}
use Rattle.audit_cli.proofs.trim.trimmed_family.Goals as goal

pub trim-requires : goal.trim-requires
trim-requires g c =
    let h = header_in c.args.table.now in
    let f = family_of c.args.family in
    let at : entry_of (table_of c.args.table.now) f ≡ Some (rule_of c.in-Some.raised.now) = sym c.entry_of.ensures ∙ ap (option_map (λ e. rule_of e.now)) c.in-Some.is in
    let same : c.requires.entry ≡ rule_of c.in-Some.raised.now = same_Some c.requires.entry (rule_of c.in-Some.raised.now) (sym c.requires.is_entry ∙ at) in
    let formula : raised_formula h f c.requires.entry ≡ c.in_ok-formula.formula = ap (λ (e : Rule). raised_formula h f e) same ∙ sym c.in_ok-formula.ensures in
    subst (λ (lines : List Line). IsRefutation (codes_of c.in_ok-formula.formula.clauses) (map content_of lines)) (sym c.deref.ensures.value)
    (subst (λ (x : Cnf). IsRefutation (codes_of x.clauses) (map content_of c.args.family.proof.items)) formula c.requires.refutes)

pub returns : goal.returns
returns g c = record {
  same = refl;
  entry = rule_of c.in-Some.raised.now;
  is_entry = sym c.entry_of.ensures ∙ ap (option_map (λ e. rule_of e.now)) c.in-Some.is;
  proof =
      subst (λ (f : Cnf). IsTrimmed (codes_of f.clauses) (map content_of c.args.family.proof.items) (map content_of c.in_ok-trimmed.trimmed.items)) c.in_ok-formula.ensures
      (subst (λ (lines : List Line). IsTrimmed (codes_of c.in_ok-formula.formula.clauses) (map content_of lines) (map content_of c.in_ok-trimmed.trimmed.items)) c.deref.ensures.value c.in_ok-trimmed.ensures.trimmed);
}
