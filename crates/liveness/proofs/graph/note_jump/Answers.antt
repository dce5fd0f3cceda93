use Rattle.std.proofs.Common.{◌≡◌, ◌∙◌, ◌<◌, ◌+◌, ℕ, length, slice_set, ap, refl, sym, arith}
use Rattle.std.proofs.lemmas.Option.{slice_get_read}
use Rattle.liveness.proofs.Jumps.{jump_noted, callers_on, target_is}
use Rattle.liveness.proofs.graph.note_jump.Goals as goal

pub returns-then-target-len : goal.returns-then-target-len
returns-then-target-len c = record {
  callers = callers_on c.args._ways.now c.args.place c.args.callers.now c.requires.callers
      (λ t l h. omega (arith, l, target_is t c.in-Some.target c.args.target (sym c.in-Some.is) (sym h ∙ sym c.requires.target), c.if-target-len.true, c.len.ensures, c.requires.callers.as_many));
}

pub returns : goal.returns
returns c =
    let last = c.args.callers.now.last.items in
    let within : c.in-Some.target < length last = omega (arith, c.if-target-len.false, c.len.ensures) in
    let many : c.len-2.result ≡ length c.args.callers.now.jumps.items + 1 = omega (arith, c.len-2.ensures, c.in_ok-push.ensures.len) in
    record {
      callers = jump_noted c.args._ways.now c.args.place c.in-Some.target c.index-earlier.result.now _ c.args.callers.now _ c.requires.callers (sym c.requires.target ∙ c.in-Some.is) (slice_get_read last _ c.in-Some.target c.index-earlier.result.now refl within c.index-earlier.ensures)
          refl refl c.in_ok-push.ensures.items (ap (λ (n : ℕ). slice_set last c.in-Some.target n) many);
    }
