use Rattle.std.proofs.Common.{sym, ap, ◌∙◌, length}
use Rattle.seq_enum.specs.Places.{values}
use Rattle.seq_enum.proofs.Mnemonics.{seconds_are}
use Rattle.seq_enum.proofs.values.count_of_second.Goals as goal

pub returns-in_default : goal.returns-in_default
returns-in_default c = record {
  value = c.count_of.ensures.value ∙ ap (λ r. length (values c.args.k c.args.pool.now r.second)) c.roles.ensures
      ∙ ap length (sym (seconds_are c.args.k c.args.pool.now c.args.kind 0 c.in_default.not-ThreeNumber));
  small = c.count_of.ensures.small;
}
