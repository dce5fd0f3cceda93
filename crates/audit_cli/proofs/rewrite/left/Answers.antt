use Rattle.std.proofs.Common.{◌≡◌, ℕ, Vec, codes, refl, sym, true≢false}
use Rattle.std.specs.Global.{Global}
use Rattle.command_runs.specs.Outcomes.{outcome_view}
use Rattle.audit_cli.specs.Commands.{counts_of, destination_of}
use Rattle.audit_cli.proofs.StepLemmas.{is_made, not_made, ok_so}
use Rattle.audit_cli.proofs.RewriteLemmas.{kept_alone, kept_none, kept_pair}
use Rattle.audit_cli.proofs.rewrite.left.Goals as goal

pub returns-then-is_no_image : goal.returns-then-is_no_image
returns-then-is_no_image c =
    ok_so c.keeps_listing.result _ _ c.keeps_listing.ensures (λ o is. kept_alone (destination_of c.args.to.now) c.args.listing.now (counts_of c.args.counts) (outcome_view o) (c.if-is_no_image.ensures.0 refl) is)

pub returns-in-Err : goal.returns-in-Err
returns-in-Err c =
    let some : c.args.to.now.image.now ≡ codes "-" → ⊥ = λ e. true≢false (sym (c.if-is_no_image.ensures.1 e)) in
    ok_so c.refused.result _ _ c.refused.ensures (λ o is. kept_none (destination_of c.args.to.now) c.args.listing.now (counts_of c.args.counts) c.in-Err.refusal (outcome_view o) some
    (not_made (λ (b : Vec ℕ Global). b.items) c.args.to.now.base.address c.args.listing.now c.in_ok-refusal.field-0 c.in-Err.refusal c.in_ok-refusal.ensures c.in-Err.is) is)

pub returns-in-Ok : goal.returns-in-Ok
returns-in-Ok c =
    let some : c.args.to.now.image.now ≡ codes "-" → ⊥ = λ e. true≢false (sym (c.if-is_no_image.ensures.1 e)) in
    ok_so c.keeps_both.result _ _ c.keeps_both.ensures (λ o is. kept_pair (destination_of c.args.to.now) c.args.listing.now (counts_of c.args.counts) c.in-Ok.image.items (outcome_view o) some
    (is_made (λ (b : Vec ℕ Global). b.items) c.args.to.now.base.address c.args.listing.now c.in_ok-refusal.field-0 c.in-Ok.image c.in_ok-refusal.ensures c.in-Ok.is) is)
