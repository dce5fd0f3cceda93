use Rattle.std.proofs.Common.{◌∙◌, List, ℕ, subst}
use Rattle.audit_cli.specs.Printed.{IsUnread}
use Rattle.audit_cli.proofs.StepLemmas.{not_read}
use Rattle.audit_cli.proofs.DemoLemmas.{never_unread}
use Rattle.audit_cli.proofs.demo.demo_listing.Goals as goal

pub unreachable-requires : goal.unreachable-requires
unreachable-requires c =
    never_unread c.args.windows c.in-Err.field-0 c.requires
    (subst (λ (t : List ℕ). IsUnread t c.in-Err.field-0) (c.deref.ensures.value ∙ c.in_ok-text.ensures) (not_read c.deref.result.now c.in_ok-read_listing.field-0 c.in-Err.field-0 c.in_ok-read_listing.ensures c.in-Err.is))
