use Rattle.std.proofs.Common.{◌≡◌, ◌∙◌, ap, arith, length, refl, sym}
use Rattle.std.specs.Prelude.{◌%◌, slice_get}
use Rattle.std.proofs.lemmas.Nat.{mod_below}
use Rattle.std.proofs.lemmas.Option.{slice_get_read}
use Rattle.window_rewrite.proofs.chains.Chains.first.Goals as goal

pub returns : goal.returns
returns c =
    let count : c.len.result ≡ length c.args.self.now.firsts.items = c.len.ensures ∙ c.args.self.now.firsts.ok.0 in
    let some = c.requires in
    ap (λ n. slice_get c.args.self.now.firsts.items (c.args.form % n)) (sym count)
    ∙ slice_get_read c.args.self.now.firsts.items _ (c.args.form % c.len.result) c.index.result.now refl (omega (arith, count, mod_below c.args.form c.len.result (omega (arith, count, some)))) c.index.ensures
