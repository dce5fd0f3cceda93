use Rattle.std.proofs.Common.{◌∙◌, List, Bool, length, ap, sym, refl, arith, false, inl, inr}
use Rattle.std.proofs.lemmas.List.{length-set}
use Rattle.kept_places.specs.Marks.{marked}
use Rattle.kept_places.proofs.Ranks.{marked_within, marked_other}
use Rattle.liveness.proofs.Aheads.{greatest_less}
use Rattle.liveness.proofs.forward.renew.Goals as goal

pub loop-place-init : goal.loop-place-init
loop-place-init c = record {
  counted = c.requires.counted;
  many = c.requires.many;
  due = refl;
  below = λ q h. let l = marked_within c.args.due.now q h in omega (arith, l, c.requires.due);
  ahead = λ w a. a;
}

pub renew_at-requires-clause-place : goal.renew_at-requires-clause-place
renew_at-requires-clause-place c = let l = marked_within c.loop-place.due c.in-Some.place c.in-Some.ensures.greatest.here in omega (arith, l, c.loop-place.invariant.due, c.requires.due)

pub loop-place-preserved : goal.loop-place-preserved
loop-place-preserved c =
    let p = c.in-Some.place in
    record {
      counted = c.renew_at.ensures.counted;
      many = c.renew_at.ensures.many;
      due = c.renew_at.ensures.due ∙ ap length c.in-Some.ensures.taken ∙ length-set c.loop-place.due p false ∙ c.loop-place.invariant.due;
      below = λ q h. elim (c.renew_at.ensures.below q h) [
        | inl m ↦ greatest_less c.loop-place.due p q c.in-Some.ensures.greatest (sym (ap (λ (ms : List Bool). marked ms q) c.in-Some.ensures.taken) ∙ m)
        | inr l ↦ l
      ];
      ahead = λ w a. c.renew_at.ensures.ahead w c.loop-place.due (λ q d m. ap (λ (ms : List Bool). marked ms q) c.in-Some.ensures.taken ∙ marked_other c.loop-place.due p q false d ∙ m) (c.loop-place.invariant.ahead w a);
    }
