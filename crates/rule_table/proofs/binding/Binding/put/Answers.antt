use Rattle.std.proofs.Common.{◌≡◌, ◌∙◌, refl, sym, ap, subst, arith, List, Option, Some, None, ◌||◌, length}
use Rattle.std.specs.Prelude.{slice_set}
use Rattle.thumb_instr.specs.Items.{has as has_item}
use Rattle.thumb_instr.specs.Window.{Low}
use Rattle.rule_table.specs.Binding.{given_at, IsOneToOne}
use Rattle.rule_table.proofs.BindingLemmas.{puts, put_binds, put_one_to_one, taken_clashes}
use Rattle.rule_table.proofs.binding.Binding.put.Goals as goal

pub returns-then-has : goal.returns-then-has
returns-then-has c =
    taken_clashes c.args.self.now c.self.inside.taken.bits c.args.own c.args.other c.requires.free (sym c.has.ensures ∙ c.if-has.true)
    (subst (λ (given : List (Option Low)). IsOneToOne given c.self.inside.taken.bits) c.self.view_is c.self.invariant)

pub invariant_of-self : goal.invariant_of-self
invariant_of-self c =
    let given = c.self.inside.given in
    let put = puts given (slice_set given c.args.own (Some c.of.result)) c.args.own c.of.result (omega arith) refl in
    put_one_to_one given (slice_set given c.args.own (Some c.of.result)) c.self.inside.taken.bits c.union-self-inside.result.bits c.args.own c.args.other c.of.result put c.of.ensures
    (ap (λ (l : List (Option Low)). given_at l c.args.own) c.self.view_is ∙ c.requires.free)
    (sym c.has.ensures ∙ c.if-has.false)
    (λ n. c.union-self-inside.ensures n ∙ ap (λ b. has_item c.self.inside.taken.bits n || b) (c.one.ensures n))
    c.self.invariant

pub returns : goal.returns
returns c =
    let now = c.args.self.now in
    let new = slice_set c.self.inside.given c.args.own (Some c.of.result) in
    put_binds now new c.args.own c.args.other c.of.result
    (puts now new c.args.own c.of.result (omega (arith, ap (λ (l : List (Option Low)). length l) c.self.view_is)) (ap (λ (l : List (Option Low)). slice_set l c.args.own (Some c.of.result)) c.self.view_is))
    c.of.ensures (λ s e. (let none : None ≡ Some s = sym c.requires.free ∙ e in cc))
