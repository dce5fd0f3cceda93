-- What the program writes to standard error, by its status.
use Rattle.std.specs.Prelude.{ℕ, List, Option, Some, None, codes}
use Rattle.command_runs.specs.declared.status.Status.{Status}
use Rattle.command_runs.specs.declared.status.Status.TheVariants as status

-- the word for a status, if there is one
abbrev pub word_of : Status → Option (List ℕ)
word_of status.Done = None
word_of status.Refused = None
word_of status.Usage = Some (codes "usage")
word_of status.StoreFault = Some (codes "store")
word_of status.SinkFault = Some (codes "sink")
word_of status.Memory = Some (codes "memory")
word_of status.TooBig = Some (codes "big")
word_of status.Missing = Some (codes "missing")
