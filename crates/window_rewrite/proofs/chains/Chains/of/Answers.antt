use Rattle.std.proofs.Common.{◌≡◌, ◌∙◌, ◌+◌, ◌-◌, ℕ, false, List, Option, Some, length, ap, arith, refl, sym, subst}
use Rattle.std.specs.Prelude.{slice_get}
use Rattle.std.proofs.lemmas.Option.{slice_get_read}
use Rattle.window_rewrite.specs.declared.chains.Chains.{Chains}
use Rattle.window_rewrite.specs.Rules.{chain_count, chains_of, is_marked, is_true, AreChains}
use Rattle.window_rewrite.proofs.Keys.{as_many_chains, empty_chains, form_there, none_alone, none_of, same_chains}
use Rattle.window_rewrite.proofs.chains.Chains.of.Goals as goal

pub loop-number-init : goal.loop-number-init
loop-number-init c = record {
  within = omega arith;
  kept = refl;
  chains =
      let chains : Chains = record { kept = c.args.kept; firsts = c.in_ok-vec.field-0; nexts = c.in_ok-vec-2.field-0 } in
      empty_chains c.args.forms.now (length c.args.forms.now) chains (omega arith)
      c.requires
      (sym c.in_ok-vec.field-0.ok.0 ∙ c.in_ok-vec.ensures.len) (λ q first at. none_of (chain_count (length c.args.forms.now)) q first (subst (λ (l : List (Option ℕ)). slice_get l q ≡ Some first) (c.in_ok-vec.ensures.items_if_clones_equal (none_alone _ (λ x e. absurd e))) at)) (sym c.in_ok-vec-2.field-0.ok.0 ∙ c.in_ok-vec-2.ensures.len);
}

pub add-requires-clause-chains : goal.add-requires-clause-chains
add-requires-clause-chains c =
    let positive = c.loop-number-test.true in
    let number : c.loop-number.number ≡ c.loop-number.number - 1 + 1 = omega arith in
    subst (λ k. AreChains c.args.forms.now k c.loop-number.chains) number c.loop-number.invariant.chains

pub loop-number-preserved : goal.loop-number-preserved
loop-number-preserved c =
    let forms : List ℕ = c.args.forms.now in
    let n = c.loop-number.number - 1 in
    let positive = c.loop-number-test.true in
    let within = c.loop-number.invariant.within in
    let x = c.loop-number.invariant.chains in
    let many = x.many_kept in
    let number : c.loop-number.number ≡ n + 1 = omega arith in
    let there = form_there (chains_of forms) n (omega (arith, as_many_chains forms)) in
    let kept : is_marked c.loop-number.chains.kept.items n ≡ false = ap is_true (slice_get_read c.loop-number.chains.kept.items _ _ c.index.result.now refl (omega arith) c.index.ensures) ∙ c.if-index.false in
    record {
      within = omega arith;
      kept = c.loop-number.invariant.kept;
      chains = same_chains forms n there.0 c.loop-number.chains there.1 kept (subst (λ k. AreChains forms k c.loop-number.chains) number x);
    }

pub loop-number-preserved-then-index : goal.loop-number-preserved-then-index
loop-number-preserved-then-index c = record {
  within = let w = c.loop-number.invariant.within in omega arith;
  kept = c.add.ensures.kept ∙ c.loop-number.invariant.kept;
  chains = c.add.ensures.chains;
}

pub returns-clause-chains : goal.returns-clause-chains
returns-clause-chains c =
    let end = c.loop-number-test.false in
    let zero_now : c.loop-number.number ≡ 0 = omega arith in
    subst (λ k. AreChains c.args.forms.now k c.loop-number.chains) zero_now c.loop-number.invariant.chains
