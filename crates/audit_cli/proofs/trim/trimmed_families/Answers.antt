use Rattle.std.proofs.Common.{◌≡◌, ◌++◌, [], ◌∷◌, rules, sym, subst, map, List}
use Rattle.std.specs.Prelude.{All}
use Rattle.std.specs.List.{AllZip}
use Rattle.std.proofs.lemmas.List.{map_push}
use Rattle.std.proofs.lemmas.List.Elements.{All-head, All-tail, AllZip-push}
use Rattle.rule_table.specs.declared.table.Family.{Family}
use Rattle.rule_table.specs.Table.{Family as Raised}
use Rattle.rule_table.specs.Views.{family_of, header_in, table_of}
use Rattle.audit_cli.specs.Ready.{IsRaised}
use Rattle.audit_cli.specs.Trim.{IsTrimmedFamily}
use Rattle.audit_cli.proofs.trim.trimmed_families.Goals as goal

pub loop-family-init : goal.loop-family-init
loop-family-init g c =
    let given : c.into_iter-family-iterator.result.rest.items ≡ c.args.families.items = search rules in
    let none : c.new-all.result.items ≡ [] = search rules in
    record {
      ready = subst (λ (fs : List Family). All (IsRaised (header_in c.args.table.now) (table_of c.args.table.now).rules) (map family_of fs)) (sym given) c.requires;
      trimmed = subst (λ (fs : List Family). AllZip (IsTrimmedFamily (header_in c.args.table.now) (table_of c.args.table.now).rules) [] (map family_of fs)) (sym none) tt;
    }

pub trimmed_family-requires : goal.trimmed_family-requires
trimmed_family-requires g c =
    let P = IsRaised (header_in c.args.table.now) (table_of c.args.table.now).rules in
    All-head P (family_of c.in-Some.family) (map family_of c.next.new.self.rest.items) (subst (λ (fs : List Family). All P (map family_of fs)) c.in-Some.ensures.steps.0 c.loop-family.invariant.ready)

pub loop-family-preserved : goal.loop-family-preserved
loop-family-preserved g c =
    let P = IsRaised (header_in c.args.table.now) (table_of c.args.table.now).rules in
    let R = IsTrimmedFamily (header_in c.args.table.now) (table_of c.args.table.now).rules in
    let family = c.in-Some.family in
    let both = AllZip-push R (map family_of c.loop-family.yielded) (map family_of c.loop-family.all.items) (family_of family) (family_of c.in_ok-trimmed.trimmed) c.loop-family.invariant.trimmed c.in_ok-trimmed.ensures in
    let passed : map family_of (c.loop-family.yielded ++ family ∷ []) ≡ map family_of c.loop-family.yielded ++ family_of family ∷ [] = map_push family_of c.loop-family.yielded family in
    let pushed : map family_of (c.loop-family.all.items ++ c.in_ok-trimmed.trimmed ∷ []) ≡ map family_of c.loop-family.all.items ++ family_of c.in_ok-trimmed.trimmed ∷ [] =
    map_push family_of c.loop-family.all.items c.in_ok-trimmed.trimmed in
    record {
      ready = All-tail P (family_of family) (map family_of c.next.new.self.rest.items) (subst (λ (fs : List Family). All P (map family_of fs)) c.in-Some.ensures.steps.0 c.loop-family.invariant.ready);
      trimmed =
          subst (λ (fs : List Family). AllZip R (map family_of (c.loop-family.yielded ++ family ∷ [])) (map family_of fs)) (sym c.in_ok-push.ensures.items)
          (subst (λ (gs : List Raised). AllZip R (map family_of (c.loop-family.yielded ++ family ∷ [])) gs) (sym pushed)
          (subst (λ (fs : List Raised). AllZip R fs (map family_of c.loop-family.all.items ++ family_of c.in_ok-trimmed.trimmed ∷ [])) (sym passed) both));
    }
