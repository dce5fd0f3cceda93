use Rattle.std.proofs.Common.{◌≡◌, ◌∙◌, sym, ap, arith, rules, ℕ, ◌-◌, ◌+◌, ◌++◌, ◌∷◌, [], ◌<◌, length, true, false}
use Rattle.std.proofs.lemmas.List.{get_or_default}
use Rattle.std.proofs.lemmas.Nat.Bits.{shr_and_one}
use Rattle.std.proofs.lemmas.Bool.{eq-eqb, ne_eqb}
use Rattle.std.specs.Int.{bit_at}
use Rattle.cnf_gates.specs.declared.bit.Bit.TheVariants.{Constant}
use Rattle.cnf_gates.specs.Gates.{or_clause_of}
use Rattle.thumb_instr.specs.Items.{has}
use Rattle.bit_blast.specs.Words.{bit_of}
use Rattle.bit_blast.specs.Differences.{at_least, at_least_from}
use Rattle.bit_blast.proofs.Ranges.{set_step, clear_step}
use Rattle.bit_blast.proofs.sides.at_least.Goals.{then-least-j-eq1+in_ok-clause+in_ok-extend_from_slice+in_ok-or_clause, else-least-j-eq1+in_ok-push}
use Rattle.bit_blast.proofs.sides.at_least.Goals as goal

pub loop-i-init : goal.loop-i-init
unfolding at_least
loop-i-init c = ap (λ l. at_least_from c.args.bits.now c.args.least 8 l c.args.builder.now) c.new-higher.ensures.items

pub loop-i-preserved : goal.loop-i-preserved
loop-i-preserved c =
    let i : ℕ = c.loop-i.i in
    let xs = c.args.bits.now in
    let least : ℕ = c.args.least in
    let inside : 7 - i < length xs = omega (arith, c.requires) in
    elim c.if-least-j-eq1.branch [
      | then-least-j-eq1+in_ok-clause+in_ok-extend_from_slice+in_ok-or_clause w ↦
          let bit : w.index-bits-j.result ≡ bit_of xs (7 - i) = w.index-bits-j.is ∙ get_or_default xs (7 - i) w.index-bits-j.result (Constant false) inside in
          let clause : w.deref-then-least-j-eq1.result.now ≡ w.index-bits-j.result ∷ c.loop-i.higher.items = search rules in
          let on : has least (7 - i) ≡ true = eq-eqb (bit_at least (7 - i)) 1 (sym (shr_and_one least (7 - i)) ∙ w.if-least-j-eq1.true) in
          ap (λ h. at_least_from xs least (8 - (i + 1)) h.items c.if-least-j-eq1.builder) w.higher-is
          ∙ set_step xs least i c.loop-i.higher.items c.loop-i.builder c.if-least-j-eq1.builder _ (omega arith) on
          (w.builder-is ∙ w.in_ok-or_clause.ensures.ok ∙ ap (or_clause_of c.loop-i.builder) (clause ∙ ap (λ b. b ∷ c.loop-i.higher.items) bit)) c.loop-i.invariant
      | else-least-j-eq1+in_ok-push w ↦
          let bit : w.index-bits-j-else-least-j-eq1.result ≡ bit_of xs (7 - i) = w.index-bits-j-else-least-j-eq1.is ∙ get_or_default xs (7 - i) w.index-bits-j-else-least-j-eq1.result (Constant false) inside in
          let off : has least (7 - i) ≡ false = ne_eqb (bit_at least (7 - i)) 1 (λ e. w.if-least-j-eq1.false (shr_and_one least (7 - i) ∙ e)) in
          ap (λ b. at_least_from xs least (8 - (i + 1)) c.if-least-j-eq1.higher.items b) w.builder-is
          ∙ clear_step xs least i c.loop-i.higher.items c.if-least-j-eq1.higher.items c.loop-i.builder _ (omega arith) off
          (ap (λ h. h.items) w.higher-is ∙ w.in_ok-push.ensures.items ∙ ap (λ b. c.loop-i.higher.items ++ b ∷ []) bit) c.loop-i.invariant
    ]

pub returns : goal.returns
returns c =
    let none : 8 - c.loop-i.i ≡ 0 = omega arith in
    sym (ap (λ k. at_least_from c.args.bits.now c.args.least k c.loop-i.higher.items c.loop-i.builder) none) ∙ c.loop-i.invariant
