use Rattle.std.proofs.Common.{◌≡◌, ◌∙◌, ◌+◌, Some, refl, take}
use Rattle.std.specs.Prelude.{slice_get}
use Rattle.std.proofs.lemmas.Option.{slice_get_read}
use Rattle.window_rewrite.specs.Hashes.{hash_of}
use Rattle.window_rewrite.proofs.Heads.{front_more, mark_more}
use Rattle.window_rewrite.proofs.left_side_hashes.mark_fronts.Goals as goal

pub loop-instr-preserved : goal.loop-instr-preserved
loop-instr-preserved c =
    let was = c.loop-instr.invariant in
    let n = c.loop-instr.instr-index in
    let at : slice_get c.args.left.now n ≡ Some c.instr-item.result = slice_get_read c.args.left.now _ _ c.instr-item.result refl c.loop-instr-test.true c.instr-item.is in
    let hash : c.next_hash-hash.result ≡ hash_of (take (n + 1) c.args.left.now) = c.next_hash-hash.ensures.value ∙ front_more c.loop-instr.hash n c.args.left.now c.instr-item.result at was.hash in
    record {
      many = c.mark.ensures.many;
      kept = λ q h. c.mark.ensures.kept q (was.kept q h);
      fronts = mark_more c.loop-instr.marks.items _ c.args.left.now n c.next_hash-hash.result c.mark.ensures.kept c.mark.ensures.here hash was.fronts;
      hash = hash;
      small = c.next_hash-hash.ensures.small;
    }
