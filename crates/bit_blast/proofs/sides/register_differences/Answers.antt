use Rattle.std.proofs.Common.{◌≡◌, ◌∙◌, ap, rules, ℕ, ◌+◌, ◌<◌, get_or, min, length, take, drop, true, false}
use Rattle.thumb_instr.specs.Items.{has}
use Rattle.bit_blast.specs.Circuits.{before_word}
use Rattle.bit_blast.specs.Differences.{register_differences}
use Rattle.bit_blast.proofs.Inputs.{register_taken, register_passed}
use Rattle.bit_blast.proofs.sides.register_differences.Goals.{then-has+in_ok-push_word, else-has}
use Rattle.bit_blast.proofs.sides.register_differences.Goals as goal

pub loop-register-preserved : goal.loop-register-preserved
loop-register-preserved c =
    let i : ℕ = c.loop-register.register in
    let mask : ℕ = c.args.mask.items.bits in
    let h : i < min (length c.args.x.now.r) 4 = search rules in
    elim c.if-has.branch [
      | then-has+in_ok-push_word w ↦
          let on : has mask i ≡ true = search rules in
          let left : get_or c.args.x.now.r i w.index.result.now ≡ w.index.result.now = search rules in
          let right : get_or c.args.y.now.r i w.index-then-has.result.now ≡ w.index-then-has.result.now = search rules in
          register_taken c.loop-register.builder c.if-has.builder mask i w.index.result.now w.index-then-has.result.now c.args.x.now.r c.args.y.now.r c.loop-register.found.items c.if-has.found.items _ h c.requires left right on
          (ap (λ b. (b, c.if-has.found.items)) w.builder-is ∙ ap (λ f. (w.push_word.new.builder, f.items)) w.found-is ∙ w.in_ok-push_word.ensures) c.loop-register.invariant
      | else-has w ↦
          let off : has mask i ≡ false = search rules in
          ap (λ b. before_word c.if-has.found.items (register_differences b mask (i + 1) (drop (i + 1) (take 4 c.args.x.now.r)) (drop (i + 1) (take 4 c.args.y.now.r)))) w.builder-is
          ∙ ap (λ f. before_word f.items (register_differences c.loop-register.builder mask (i + 1) (drop (i + 1) (take 4 c.args.x.now.r)) (drop (i + 1) (take 4 c.args.y.now.r)))) w.found-is
          ∙ register_passed c.loop-register.builder mask i c.args.x.now.r c.args.y.now.r c.loop-register.found.items _ h c.requires off c.loop-register.invariant
    ]
