use Rattle.std.proofs.Common.{◌+◌, ℕ, subst, sym, take}
use Rattle.std.specs.declared.alloc.Global.{Global}
use Rattle.std.specs.declared.vec.Vec.{Vec}
use Rattle.thumb_model.specs.Listing.{call_count, places_of}
use Rattle.thumb_machine.specs.Returns.{AreReturns}
use Rattle.thumb_machine.proofs.ReturnLemmas.{returns_more, returns_same}
use Rattle.thumb_machine.proofs.laying.returns.Goals as goal
use Rattle.thumb_machine.proofs.laying.returns.Goals.{in-None, in-Some+in_ok-push-in-Some}

pub loop-place-preserved : goal.loop-place-preserved
loop-place-preserved c = elim c.match-return_word.branch [
  | in-None w ↦ subst (λ (v : Vec ℕ Global). AreReturns c.args.layout.now.base c.args.listing.now (call_count (take (c.loop-place.place + 1) (places_of c.args.listing.now))) v.items) (sym w.words-is)
      (returns_same c.args.layout.now.base c.args.listing.now c.loop-place.place c.loop-place.words.items w.in-None.ensures c.loop-place.invariant)
  | in-Some+in_ok-push-in-Some w ↦ subst (λ (v : Vec ℕ Global). AreReturns c.args.layout.now.base c.args.listing.now (call_count (take (c.loop-place.place + 1) (places_of c.args.listing.now))) v.items) (sym w.words-is)
      (returns_more c.args.layout.now.base c.args.listing.now c.loop-place.place c.loop-place.words.items w.push.new.self.items w.in-Some.word w.in-Some.ensures.0 w.in-Some.ensures.1 w.in_ok-push-in-Some.ensures.items c.loop-place.invariant)
]
