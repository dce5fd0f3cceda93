use Rattle.std.proofs.Common.{sym}
use Rattle.ascii_scan.proofs.RegisterLemmas.{no_long_register}
use Rattle.ascii_scan.proofs.naming.is_register.Goals as goal

pub returns-then-word-gt-LONGEST_REGISTER : goal.returns-then-word-gt-LONGEST_REGISTER
returns-then-word-gt-LONGEST_REGISTER c = sym (no_long_register c.args.word.now c.if-word-gt-LONGEST_REGISTER.true)
