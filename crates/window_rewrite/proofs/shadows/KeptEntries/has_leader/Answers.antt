use Rattle.std.proofs.Common.{◌∙◌, Some, ap, arith, refl}
use Rattle.std.proofs.lemmas.Option.{slice_get_read}
use Rattle.window_rewrite.specs.Rules.{rules_in}
use Rattle.window_rewrite.proofs.Accepted.{rules_length}
use Rattle.window_rewrite.proofs.Keeping.{is_there, up_to_less}
use Rattle.window_rewrite.proofs.shadows.KeptEntries.has_leader.Goals as goal

pub loop-at-init : goal.loop-at-init
loop-at-init c = λ j e. c.requires.kept.lasts c.shared.result j (slice_get_read c.args.self.now.lasts.items _ _ c.index-at.result.now refl c.shared.ensures c.index-at.ensures ∙ ap Some e)

pub leads-requires-clause-earlier : goal.leads-requires-clause-earlier
leads-requires-clause-earlier c =
    let before = (c.loop-at.invariant c.in-Some.earlier c.in-Some.is).0 in
    let within = c.requires.within in
    omega arith

pub returns-then-leads : goal.returns-then-leads
returns-then-leads c = λ _ rule at.
    let h = c.loop-at.invariant c.in-Some.earlier c.in-Some.is in
    let before = h.0 in
    let many = rules_length c.args.entries.now in
    let within = c.requires.within in
    let there = is_there (rules_in c.args.entries.now) c.in-Some.earlier (omega arith) in
    record { leader = c.in-Some.earlier; no_later = omega arith; is_kept = h.1; other = there.rule; at = there.at; lighter = c.requires.kept.lighter c.in-Some.earlier there.rule there.at h.1; alike = c.leads.ensures c.if-leads.true there.rule rule there.at at }

pub index-at-requires-in-Some : goal.index-at-requires-in-Some
index-at-requires-in-Some c =
    let before = (c.loop-at.invariant c.in-Some.earlier c.in-Some.is).0 in
    let within = c.requires.within in
    let many = c.requires.kept.many_earlier in
    omega (arith, rules_length c.args.entries.now)

pub loop-at-preserved : goal.loop-at-preserved
loop-at-preserved c = λ j e.
    let before = (c.loop-at.invariant c.in-Some.earlier c.in-Some.is).0 in
    let within = c.requires.within in
    let many = c.requires.kept.many_earlier in
    let w = c.requires.kept.earlier c.in-Some.earlier j (slice_get_read c.args.self.now.earlier.items _ _ c.index-at-in-Some.result.now refl (omega (arith, rules_length c.args.entries.now)) c.index-at-in-Some.ensures ∙ ap Some e) in
    let less = w.0 in
    (omega arith, w.1)

pub loop-at-smaller : goal.loop-at-smaller
loop-at-smaller c =
    let before = (c.loop-at.invariant c.in-Some.earlier c.in-Some.is).0 in
    let within = c.requires.within in
    let many = c.requires.kept.many_earlier in
    up_to_less c.loop-at.at c.index-at-in-Some.result.now c.in-Some.earlier c.in-Some.is
    (λ j e. (c.requires.kept.earlier c.in-Some.earlier j (slice_get_read c.args.self.now.earlier.items _ _ c.index-at-in-Some.result.now refl (omega (arith, rules_length c.args.entries.now)) c.index-at-in-Some.ensures ∙ ap Some e)).0)
