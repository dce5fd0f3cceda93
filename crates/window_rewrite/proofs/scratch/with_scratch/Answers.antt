use Rattle.std.proofs.Common.{◌≡◌, ◌∙◌, ◌++◌, ◌∷◌, [], ap, List, sym}
use Rattle.std.proofs.lemmas.List.{take_all}
use Rattle.thumb_instr.specs.Window.{Low}
use Rattle.window_rewrite.specs.Rules.{entry_rule}
use Rattle.window_rewrite.proofs.Whole.{none_whole, whole_more, whole_own}
use Rattle.window_rewrite.proofs.scratch.with_scratch.Goals as goal

pub returns-then-not-needs_scratch : goal.returns-then-not-needs_scratch
returns-then-not-needs_scratch c =
    let all : c.loop-register.registers.items ≡ c.args.own.now = c.loop-register.invariant ∙ take_all c.loop-register.register-index c.args.own.now c.loop-register-test.false in
    whole_own (entry_rule c.args.entry.now) c.args.own.now c.loop-register.registers.items c.args.live.bits c.requires.sound (sym c.needs_scratch.ensures ∙ c.if-not-needs_scratch.true) c.requires.own all

pub returns-in-None : goal.returns-in-None
returns-in-None c = λ registers own w.
    none_whole (entry_rule c.args.entry.now) c.args.own.now registers c.args.live.bits c.requires.sound (sym c.needs_scratch.ensures ∙ c.if-not-needs_scratch.false) c.requires.own
    (λ x l. rw (← c.map_to.ensures) (c.in-None.ensures x l)) own w

pub returns-in-Some : goal.returns-in-Some
returns-in-Some c =
    let all : c.loop-register.registers.items ≡ c.args.own.now = c.loop-register.invariant ∙ take_all c.loop-register.register-index c.args.own.now c.loop-register-test.false in
    whole_more (entry_rule c.args.entry.now) c.args.own.now c.push-in-Some.new.self.items c.args.live.bits c.in-Some.scratch c.requires.sound (sym c.needs_scratch.ensures ∙ c.if-not-needs_scratch.false) c.requires.own
    (rw (← c.map_to.ensures) c.in-Some.ensures) (c.push-in-Some.ensures.items ∙ ap (λ (rs : List Low). rs ++ c.in-Some.scratch ∷ []) all)
