use Rattle.std.proofs.Common.{Vec, ℕ}
use Rattle.std.specs.Global.{Global}
use Rattle.audit_cli.proofs.StepLemmas.{is_made, not_made}
use Rattle.audit_cli.proofs.DemoLemmas.{never_without_image}
use Rattle.audit_cli.proofs.demo.image.Goals as goal

pub unreachable-requires : goal.unreachable-requires
unreachable-requires c =
    never_without_image 0 c.args.listing.now c.in-Err.field-0 c.requires.flawless
    (not_made (λ (b : Vec ℕ Global). b.items) 0 c.args.listing.now c.in_ok-image_of.field-0 c.in-Err.field-0 c.in_ok-image_of.ensures c.in-Err.is)

pub returns : goal.returns
returns c = is_made (λ (b : Vec ℕ Global). b.items) 0 c.args.listing.now c.in_ok-image_of.field-0 c.in-Ok.bytes c.in_ok-image_of.ensures c.in-Ok.is
