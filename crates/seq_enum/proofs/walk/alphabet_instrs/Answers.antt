use Rattle.std.proofs.Common.{◌≡◌, ◌<◌, ◌+◌, ◌++◌, ◌∷◌, [], suc, ap, sym, ◌∙◌, arith, length, take, Some, slice_get}
use Rattle.std.proofs.Math.Seq.{take-suc}
use Rattle.std.proofs.lemmas.Option.{slice_get_within, get_or_from_slice_get}
use Rattle.seq_enum.specs.Alphabet.{alphabet}
use Rattle.seq_enum.proofs.walk.alphabet_instrs.Goals as goal

pub loop-place-preserved : goal.loop-place-preserved
loop-place-preserved c =
    let xs = alphabet c.args.k c.args.pool.now in
    let i = c.loop-place.place in
    let x = c.in-Some.instr in
    let at : slice_get xs i ≡ Some x = sym c.instr_at.ensures ∙ c.in-Some.is in
    let within : i < length xs = slice_get_within xs i x at in
    let next : suc i ≡ i + 1 = omega arith in
    c.in_ok-push-in-Some.ensures.items
    ∙ ap (λ ys. ys ++ x ∷ []) c.loop-place.invariant
    ∙ ap (λ y. take i xs ++ y ∷ []) (sym (get_or_from_slice_get xs i x x at))
    ∙ sym (take-suc xs i x within)
    ∙ ap (λ n. take n xs) next
