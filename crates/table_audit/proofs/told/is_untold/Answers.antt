use Rattle.std.proofs.Common.{◌≡◌, ◌∙◌, ◌↔◌, IsTrue, Any, ap, false, map, subst, sym}
use Rattle.thumb_model.specs.Effect.{after_all}
use Rattle.window_exec.specs.State.{values_of, Differ}
use Rattle.rule_table.specs.Views.{opened_of}
use Rattle.table_audit.specs.Shorter.{is_named}
use Rattle.table_audit.proofs.Tellings.{untold_is}
use Rattle.table_audit.proofs.told.is_untold.Goals as goal

pub returns-then-not-is_named-clause-untold : goal.returns-then-not-is_named-clause-untold
returns-then-not-is_named-clause-untold g c = λ states are.
    let unnamed : is_named (map opened_of c.args.entry.now.opens.items) c.args.number ≡ false =
    ap (λ os. is_named (map opened_of os) c.args.number) (sym c.deref.ensures.value) ∙ sym c.is_named.ensures ∙ c.if-not-is_named.true in
    let told : IsTrue c.is_told.result ↔ Any (λ t. Differ (values_of t.end) (after_all c.args.seq.now (values_of t.start)) c.args.entry.now.mask.items.bits) c.args.trials.now =
    subst (λ s. IsTrue c.is_told.result ↔ Any (λ t. Differ (values_of t.end) (after_all s (values_of t.start)) c.args.entry.now.mask.items.bits) c.args.trials.now) c.as_slice.ensures.value c.is_told.ensures.told in
    untold_is c.args.entry.now.left states c.args.trials.now c.args.seq.now c.args.entry.now.mask.items.bits (is_named (map opened_of c.args.entry.now.opens.items) c.args.number) c.is_told.result are told unnamed
