use Rattle.std.proofs.Common.{◌≡◌, ◌∙◌, ◌<◌, ◌++◌, ◌∷◌, [], ap, arith, length, take, List, Some, sym}
use Rattle.std.specs.Prelude.{slice_set}
use Rattle.std.proofs.lemmas.List.{length-take-le, take_more}
use Rattle.thumb_instr.specs.Window.{Low}
use Rattle.window_rewrite.specs.TableRewriting.{map_of}
use Rattle.window_rewrite.proofs.Maps.{map_more}
use Rattle.window_rewrite.proofs.registers.map_to.Goals as goal

pub loop-canonical-preserved : goal.loop-canonical-preserved
loop-canonical-preserved c =
    let k = c.loop-canonical.canonical in
    let own : List Low = c.args.registers.now in
    let r : Low = c.index-registers-canonical.result in
    let within : k < length own = c.loop-canonical-test.true in
    let many : length (take k own) ≡ k = length-take-le k own (omega arith) in
    ap (λ os. slice_set os k (Some r)) c.loop-canonical.invariant
    ∙ ap (λ n. slice_set (map_of 8 (take k own)) n (Some r)) (sym many)
    ∙ map_more 8 (take k own) r (omega (arith, c.requires))
    ∙ ap (map_of 8) (ap (λ (x : Low). take k own ++ x ∷ []) c.index-registers-canonical.is ∙ sym (take_more own k r within))
