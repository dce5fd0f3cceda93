use Rattle.std.proofs.Common.{refl, subst, map, List}
use Rattle.clause_model.specs.Clauses.{codes_of}
use Rattle.cnf_gates.specs.Cnf.{Cnf}
use Rattle.lrat_check.specs.Text.{content_of, IsTrimmed}
use Rattle.lrat_check.specs.declared.line.Line.{Line}
use Rattle.audit_cli.proofs.trim.trimmed_entry.Goals as goal

pub returns : goal.returns
returns g c = record {
  same = refl;
  proof =
      subst (λ (f : Cnf). IsTrimmed (codes_of f.clauses) (map content_of c.args.entry.proof.items) (map content_of c.in_ok-trimmed.trimmed.items)) c.in_ok-formula.ensures
      (subst (λ (lines : List Line). IsTrimmed (codes_of c.in_ok-formula.formula.clauses) (map content_of lines) (map content_of c.in_ok-trimmed.trimmed.items)) c.deref.ensures.value c.in_ok-trimmed.ensures.trimmed);
}
