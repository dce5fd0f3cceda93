use Rattle.std.proofs.Common.{◌∙◌, append-nil, refl, sym, arith}
use Rattle.liveness.proofs.Waits.{last_taken, last_within, fresh_taken}
use Rattle.liveness.proofs.waiting.Waiting.pop.Goals as goal

pub index_mut-requires : goal.index_mut-requires
index_mut-requires c = omega (arith, last_within c.args.self.now c.pop.new.self.items c.in-Some.place c.requires.waiting c.in-Some.ensures.items, c.args.self.now.marks.ok.0)

pub returns-in-Some-clause-some : goal.returns-in-Some-clause-some
returns-in-Some-clause-some c = last_taken c.args.self.now _ c.in-Some.place c.requires.waiting c.in-Some.ensures.items refl refl

pub returns-clause-some : goal.returns-clause-some
returns-clause-some c = fresh_taken c.args.self.now _ _ c.requires.waiting (sym (c.in_default.ensures.items ∙ append-nil c.pop.new.self.items)) (omega (arith, c.if-self-eq0.false)) refl refl
