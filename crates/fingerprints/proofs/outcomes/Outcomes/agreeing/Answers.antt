use Rattle.std.proofs.Common.{◌≡◌, ◌∙◌, ap, subst, min, length}
use Rattle.std.proofs.lemmas.Result.{IfOk-weaker}
use Rattle.window_exec.specs.State.{values_of}
use Rattle.fingerprints.specs.Outcomes.{Extent, AreAgreeing}
use Rattle.fingerprints.proofs.Growing.{agreeing_are}
use Rattle.fingerprints.proofs.outcomes.Outcomes.agreeing.Goals as goal

pub returns : goal.returns
returns c =
    let e : Extent = record { registers = c.self.inside.k; alphabet = c.self.inside.alphabet.items; start = c.self.inside.start; longest = c.self.inside.longest } in
    let least : c.min-limit.result ≡ min c.args.limit (length c.self.inside.columns.flags.items) = c.min-limit.ensures ∙ ap (min c.args.limit) c.len.ensures in
    IfOk-weaker c.alike.result _ _ (λ v those.
    subst (λ (x : Extent). AreAgreeing x (values_of c.args.end.now) c.args.mask.items.bits c.args.limit v.items) c.self.view_is
    (agreeing_are e c.self.inside.columns c.args.end.now c.args.mask.items.bits c.args.limit c.min-limit.result v.items c.self.invariant.holds least those)) c.alike.ensures
