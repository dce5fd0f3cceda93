use Rattle.cnf_gates.specs.Meaning.{assigned}
use Rattle.bit_blast.proofs.Read.{state_given}
use Rattle.bit_blast.proofs.state.state_of.Goals as goal

pub returns-clause-items : goal.returns-clause-items
returns-clause-items c =
    state_given (assigned c.args.model.now) c.args.k _ _ _ _ _ c.flags.result c.from.ensures c.register.ensures c.register-2.ensures c.register-3.ensures c.register-4.ensures c.flags.ensures.n c.flags.ensures.z c.flags.ensures.c c.flags.ensures.v
