use Rattle.std.proofs.Common.{◌≡◌, ◌∙◌, rules, subst, sym, Option}
use Rattle.std.specs.Prelude.{IfOk, option_map}
use Rattle.clap.specs.Words.{found_of}
use Rattle.command_line.specs.CommandLine.{Request, rewrites, audits, learns, exports, traces, demos, upgrades, trims, tidies, generalises, name_of}
use Rattle.command_line.specs.Request.{request_of}
use Rattle.command_line.proofs.Usage.{asked_met}
use Rattle.command_line.proofs.values.command_of.Goals as goal

pub returns-in-Some-rewrite-default : goal.returns-in-Some-rewrite-default
returns-in-Some-rewrite-default c =
    let name : c.in-Some-rewrite-default.field-0-0.now ≡ name_of rewrites = search rules in
    let asks = asked_met rewrites c.args.matches.now (found_of c.in-Some-rewrite-default.given.now) c.in-Some-rewrite-default.field-0-0.now c.in-Some-rewrite-default.ensures.name c.in-Some-rewrite-default.ensures.rows name in
    subst (λ (v : Option Request). IfOk c.rewrite.result (λ o. option_map request_of o ≡ v)) (sym asks) c.rewrite.ensures

pub returns-in-Some-audit-default : goal.returns-in-Some-audit-default
returns-in-Some-audit-default c =
    let name : c.in-Some-audit-default.field-0-0.now ≡ name_of audits = search rules in
    let asks = asked_met audits c.args.matches.now (found_of c.in-Some-audit-default.given.now) c.in-Some-audit-default.field-0-0.now c.in-Some-audit-default.ensures.name c.in-Some-audit-default.ensures.rows name in
    subst (λ (v : Option Request). IfOk c.audit.result (λ o. option_map request_of o ≡ v)) (sym asks) c.audit.ensures

pub returns-in-Some-learn-default : goal.returns-in-Some-learn-default
returns-in-Some-learn-default c =
    let name : c.in-Some-learn-default.field-0-0.now ≡ name_of learns = search rules in
    let asks = asked_met learns c.args.matches.now (found_of c.in-Some-learn-default.given.now) c.in-Some-learn-default.field-0-0.now c.in-Some-learn-default.ensures.name c.in-Some-learn-default.ensures.rows name in
    subst (λ (v : Option Request). IfOk c.learn.result (λ o. option_map request_of o ≡ v)) (sym asks) c.learn.ensures

pub returns-in-Some-export-default : goal.returns-in-Some-export-default
returns-in-Some-export-default c =
    let name : c.in-Some-export-default.field-0-0.now ≡ name_of exports = search rules in
    let asks = asked_met exports c.args.matches.now (found_of c.in-Some-export-default.given.now) c.in-Some-export-default.field-0-0.now c.in-Some-export-default.ensures.name c.in-Some-export-default.ensures.rows name in
    subst (λ (v : Option Request). IfOk c.export.result (λ o. option_map request_of o ≡ v)) (sym asks) c.export.ensures

pub returns-in-Some-trace-default : goal.returns-in-Some-trace-default
returns-in-Some-trace-default c =
    let name : c.in-Some-trace-default.field-0-0.now ≡ name_of traces = search rules in
    let asks = asked_met traces c.args.matches.now (found_of c.in-Some-trace-default.given.now) c.in-Some-trace-default.field-0-0.now c.in-Some-trace-default.ensures.name c.in-Some-trace-default.ensures.rows name in
    subst (λ (v : Option Request). IfOk c.trace.result (λ o. option_map request_of o ≡ v)) (sym asks) c.trace.ensures

pub returns-in-Some-demo-default : goal.returns-in-Some-demo-default
returns-in-Some-demo-default c =
    let name : c.in-Some-demo-default.field-0-0.now ≡ name_of demos = search rules in
    let asks = asked_met demos c.args.matches.now (found_of c.in-Some-demo-default.given.now) c.in-Some-demo-default.field-0-0.now c.in-Some-demo-default.ensures.name c.in-Some-demo-default.ensures.rows name in
    c.demo.ensures ∙ sym asks

pub returns-in-Some-upgrade-default : goal.returns-in-Some-upgrade-default
returns-in-Some-upgrade-default c =
    let name : c.in-Some-upgrade-default.field-0-0.now ≡ name_of upgrades = search rules in
    let asks = asked_met upgrades c.args.matches.now (found_of c.in-Some-upgrade-default.given.now) c.in-Some-upgrade-default.field-0-0.now c.in-Some-upgrade-default.ensures.name c.in-Some-upgrade-default.ensures.rows name in
    subst (λ (v : Option Request). IfOk c.upgrade.result (λ o. option_map request_of o ≡ v)) (sym asks) c.upgrade.ensures

pub returns-in-Some-trim-default : goal.returns-in-Some-trim-default
returns-in-Some-trim-default c =
    let name : c.in-Some-trim-default.field-0-0.now ≡ name_of trims = search rules in
    let asks = asked_met trims c.args.matches.now (found_of c.in-Some-trim-default.given.now) c.in-Some-trim-default.field-0-0.now c.in-Some-trim-default.ensures.name c.in-Some-trim-default.ensures.rows name in
    subst (λ (v : Option Request). IfOk c.trim.result (λ o. option_map request_of o ≡ v)) (sym asks) c.trim.ensures

pub returns-in-Some-tidy-default : goal.returns-in-Some-tidy-default
returns-in-Some-tidy-default c =
    let name : c.in-Some-tidy-default.field-0-0.now ≡ name_of tidies = search rules in
    let asks = asked_met tidies c.args.matches.now (found_of c.in-Some-tidy-default.given.now) c.in-Some-tidy-default.field-0-0.now c.in-Some-tidy-default.ensures.name c.in-Some-tidy-default.ensures.rows name in
    subst (λ (v : Option Request). IfOk c.tidy.result (λ o. option_map request_of o ≡ v)) (sym asks) c.tidy.ensures

pub returns-in-Some-generalise-default : goal.returns-in-Some-generalise-default
returns-in-Some-generalise-default c =
    let name : c.in-Some-generalise-default.field-0-0.now ≡ name_of generalises = search rules in
    let asks = asked_met generalises c.args.matches.now (found_of c.in-Some-generalise-default.given.now) c.in-Some-generalise-default.field-0-0.now c.in-Some-generalise-default.ensures.name c.in-Some-generalise-default.ensures.rows name in
    subst (λ (v : Option Request). IfOk c.generalise.result (λ o. option_map request_of o ≡ v)) (sym asks) c.generalise.ensures
