use Rattle.std.proofs.Common.{◌≡◌, ◌++◌, [], ◌∷◌, rules, refl, ap, sym, subst, map, List}
use Rattle.std.specs.Prelude.{All}
use Rattle.std.specs.List.{AllZip}
use Rattle.std.proofs.lemmas.List.{map_push}
use Rattle.std.proofs.lemmas.List.Elements.{All-head, All-tail, AllZip-push}
use Rattle.clause_model.specs.Clauses.{codes_of}
use Rattle.lrat_check.specs.Runs.{IsRefutation}
use Rattle.rule_table.specs.declared.table.Entry.{Entry}
use Rattle.rule_table.specs.declared.table.Family.{Family}
use Rattle.rule_table.specs.Header.{Header}
use Rattle.rule_table.specs.Table.{Rule}
use Rattle.rule_table.specs.Views.{family_of, header_in, rule_of, table_of}
use Rattle.table_audit.specs.Canonical.{HasFormula}
use Rattle.table_audit.specs.Shorter.{formula_of}
use Rattle.audit_cli.specs.Ready.{IsRaised}
use Rattle.audit_cli.specs.Trim.{IsTrimmedRule}
use Rattle.audit_cli.proofs.TrimLemmas.{IsReady, all_ready, all_raised}
use Rattle.audit_cli.proofs.trim.trimmed_table.Goals as goal

pub loop-entry-init : goal.loop-entry-init
loop-entry-init g c =
    let given : c.into_iter-entry-iterator.result.rest.items ≡ c.args.table.entries.items = search rules in
    let none : c.replace-entries.new.dest.items ≡ [] = search rules in
    record {
      ready = subst (λ (es : List Entry). All (IsReady (header_in c.args.table)) (map rule_of es)) (sym given) (all_ready (table_of c.args.table) c.requires);
      header = refl;
      states = refl;
      trimmed = subst (λ (es : List Entry). AllZip (IsTrimmedRule (header_in c.args.table)) [] (map rule_of es)) (sym none) tt;
    }

pub trimmed_entry-requires-clause-formula : goal.trimmed_entry-requires-clause-formula
trimmed_entry-requires-clause-formula g c =
    let h = header_in c.args.table in
    let ready = All-head (IsReady h) (rule_of c.in-Some.entry) (map rule_of c.next.new.self.rest.items) (subst (λ (es : List Entry). All (IsReady h) (map rule_of es)) c.in-Some.ensures.steps.0 c.loop-entry.invariant.ready) in
    subst (λ (x : Header). HasFormula x (rule_of c.in-Some.entry)) (sym c.loop-entry.invariant.header) ready.formula

pub trimmed_entry-requires-clause-refutes : goal.trimmed_entry-requires-clause-refutes
trimmed_entry-requires-clause-refutes g c =
    let h = header_in c.args.table in
    let ready = All-head (IsReady h) (rule_of c.in-Some.entry) (map rule_of c.next.new.self.rest.items) (subst (λ (es : List Entry). All (IsReady h) (map rule_of es)) c.in-Some.ensures.steps.0 c.loop-entry.invariant.ready) in
    subst (λ (x : Header). IsRefutation (codes_of (formula_of x (rule_of c.in-Some.entry)).clauses) (rule_of c.in-Some.entry).proof) (sym c.loop-entry.invariant.header) ready.refutes

pub loop-entry-preserved : goal.loop-entry-preserved
loop-entry-preserved g c =
    let h = header_in c.args.table in
    let entry = c.in-Some.entry in
    let one = subst (λ (x : Header). IsTrimmedRule x (rule_of entry) (rule_of c.in_ok-trimmed.trimmed)) c.loop-entry.invariant.header c.in_ok-trimmed.ensures in
    let both = AllZip-push (IsTrimmedRule h) (map rule_of c.loop-entry.yielded) (map rule_of c.loop-entry.table.entries.items) (rule_of entry) (rule_of c.in_ok-trimmed.trimmed) c.loop-entry.invariant.trimmed one in
    let passed : map rule_of (c.loop-entry.yielded ++ entry ∷ []) ≡ map rule_of c.loop-entry.yielded ++ rule_of entry ∷ [] = map_push rule_of c.loop-entry.yielded entry in
    let pushed : map rule_of (c.loop-entry.table.entries.items ++ c.in_ok-trimmed.trimmed ∷ []) ≡ map rule_of c.loop-entry.table.entries.items ++ rule_of c.in_ok-trimmed.trimmed ∷ [] =
    map_push rule_of c.loop-entry.table.entries.items c.in_ok-trimmed.trimmed in
    record {
      ready = All-tail (IsReady h) (rule_of entry) (map rule_of c.next.new.self.rest.items) (subst (λ (es : List Entry). All (IsReady h) (map rule_of es)) c.in-Some.ensures.steps.0 c.loop-entry.invariant.ready);
      header = c.loop-entry.invariant.header;
      states = c.loop-entry.invariant.states;
      trimmed =
          subst (λ (es : List Entry). AllZip (IsTrimmedRule h) (map rule_of (c.loop-entry.yielded ++ entry ∷ [])) (map rule_of es)) (sym c.in_ok-push.ensures.items)
          (subst (λ (rs : List Rule). AllZip (IsTrimmedRule h) (map rule_of (c.loop-entry.yielded ++ entry ∷ [])) rs) (sym pushed)
          (subst (λ (rs : List Rule). AllZip (IsTrimmedRule h) rs (map rule_of c.loop-entry.table.entries.items ++ rule_of c.in_ok-trimmed.trimmed ∷ [])) (sym passed) both));
    }

pub trimmed_families-requires : goal.trimmed_families-requires
trimmed_families-requires g c =
    subst (λ (fs : List Family). All (IsRaised (header_in c.args.table) (table_of c.args.table).rules) (map family_of fs)) (sym (ap (λ v. v.items) c.replace-families.ensures.value)) (all_raised (table_of c.args.table) c.requires)
