use Rattle.std.proofs.Common.{◌≡◌, ◌∙◌, rules, ap, length}
use Rattle.std.specs.Option.{option_copied}
use Rattle.audit_cli.proofs.GeneraliseLemmas.{last_proof, none_last}
use Rattle.audit_cli.proofs.generalising.last_lines.Goals as goal

pub returns-in-None : goal.returns-in-None
returns-in-None c = λ front f is. absurd (none_last c.args.families.now (option_copied c.last.result) front f is c.last.ensures.value (ap option_copied c.in-None.is))

pub returns-in-Some : goal.returns-in-Some
returns-in-Some c = λ front f is.
    let size : c.len.result ≡ length c.in-Some.family.now.proof.items = search rules in
    size ∙ last_proof c.args.families.now (option_copied c.last.result) front f c.in-Some.family.now is c.last.ensures.value (ap option_copied c.in-Some.is)
