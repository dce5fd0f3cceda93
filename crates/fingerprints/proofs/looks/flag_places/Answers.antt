use Rattle.std.proofs.Common.{ℕ, Bool, not, ap, sym, ◌∙◌, get_or, filter}
use Rattle.fingerprints.specs.Looks.{flags_differ}
use Rattle.fingerprints.proofs.Looking.{numbers_none, kept_more, kept_less}
use Rattle.fingerprints.proofs.looks.flag_places.Goals as goal
use Rattle.fingerprints.proofs.looks.flag_places.Goals.{then-not-flags_differ+in_ok-push, else-not-flags_differ}

pub loop-place-init : goal.loop-place-init
loop-place-init c = c.new-places.ensures.items ∙ ap (filter (λ q. not (flags_differ c.args.mask.items.bits (get_or c.args.flags.now q 0) c.args.nzcv))) (sym numbers_none)

pub loop-place-preserved : goal.loop-place-preserved
loop-place-preserved c =
    let p : ℕ → Bool = λ q. not (flags_differ c.args.mask.items.bits (get_or c.args.flags.now q 0) c.args.nzcv) in
    elim c.if-not-flags_differ.branch [
      | then-not-flags_differ+in_ok-push w ↦
          rw w.places-is (kept_more p c.loop-place.place c.loop-place.places.items w.push.new.self.items c.loop-place.invariant (ap (λ b. not b) (sym c.flags_differ.ensures ∙ w.if-not-flags_differ.true)) w.in_ok-push.ensures.items)
      | else-not-flags_differ w ↦ rw w.places-is (kept_less p c.loop-place.place c.loop-place.places.items c.loop-place.invariant (ap (λ b. not b) (sym c.flags_differ.ensures ∙ w.if-not-flags_differ.false)))
    ]
