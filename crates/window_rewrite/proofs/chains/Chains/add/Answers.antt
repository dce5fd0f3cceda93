use Rattle.std.proofs.Common.{◌≡◌, ℕ, Some, ◌∙◌, ap, arith, length, refl, slice_index_or, sym}
use Rattle.std.specs.Prelude.{◌%◌, slice_get}
use Rattle.std.proofs.lemmas.Nat.{mod_below}
use Rattle.std.proofs.lemmas.Option.{slice_get-get_or, slice_get_read}
use Rattle.window_rewrite.specs.Rules.{chain_of, chains_of}
use Rattle.window_rewrite.proofs.Keys.{chain_at, more_chains}
use Rattle.window_rewrite.proofs.chains.Chains.add.Goals as goal

pub returns-clause-chains : goal.returns-clause-chains
returns-clause-chains c =
    let form : ℕ = slice_index_or c.args.forms.now c.args.number 0 in
    let many = c.requires.chains.many_firsts in
    let count : c.len.result ≡ length c.args.self.now.firsts.items = c.len.ensures ∙ c.args.self.now.firsts.ok.0 in
    let at : slice_get (chains_of c.args.forms.now) c.args.number ≡ Some (chain_of c.args.forms.now form) = chain_at c.args.forms.now c.args.number form (slice_get-get_or c.args.forms.now c.args.number 0 c.requires.number) in
    let same : chain_of c.args.forms.now form ≡ form % c.len.result = ap (λ m. form % m) (sym (count ∙ many)) in
    let first : slice_get c.args.self.now.firsts.items (form % c.len.result) ≡ Some c.index-next.result.now =
    slice_get_read c.args.self.now.firsts.items _ (form % c.len.result) c.index-next.result.now refl (omega (arith, count, mod_below form c.len.result (omega (arith, count, many)))) c.index-next.ensures in
    more_chains c.args.forms.now c.args.number (form % c.len.result) c.args.self.now _ c.index-next.result.now (at ∙ ap Some same) c.requires.kept c.requires.chains first refl refl refl
