use Rattle.std.proofs.Common.{◌≡◌, sym, subst}
use Rattle.thumb_instr.specs.declared.role.Role.{Role}
use Rattle.thumb_instr.specs.Window.{named_by}
use Rattle.rule_table.specs.Binding.{IsBound, number_under}
use Rattle.rule_table.proofs.binding.Binding.bind_role.Goals as goal

pub returns-in-Register : goal.returns-in-Register
returns-in-Register c =
    let bound = λ (role : Role). IsBound c.bind.result c.args.self.now c.bind.new.self (named_by role c.args.own) (λ registers. number_under registers role c.args.own ≡ c.args.other) in
    subst bound (sym c.in-Register.is) c.bind.ensures
