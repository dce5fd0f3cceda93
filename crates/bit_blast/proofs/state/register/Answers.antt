use Rattle.std.proofs.Common.{◌≡◌, ◌*◌, rules}
use Rattle.cnf_gates.specs.Meaning.{assigned}
use Rattle.bit_blast.specs.Differences.{variables_from}
use Rattle.bit_blast.specs.Exactness.{number_of}
use Rattle.bit_blast.proofs.Read.{register_given, register_absent}
use Rattle.bit_blast.proofs.state.register.Goals as goal

pub returns-then-register-k : goal.returns-then-register-k
returns-then-register-k c =
    let read : c.number.result ≡ number_of (assigned c.args.model.now) (variables_from (32 * c.args.register) 32) = search rules in
    register_given (assigned c.args.model.now) c.args.k c.args.register c.number.result c.requires c.if-register-k.true read

pub returns-else-register-k : goal.returns-else-register-k
returns-else-register-k c = register_absent (assigned c.args.model.now) c.args.k c.args.register c.requires c.if-register-k.false
