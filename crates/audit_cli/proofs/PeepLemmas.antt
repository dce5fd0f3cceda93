-- The run of the command that the words ask for is what the contract of the top call says.
use Rattle.std.proofs.Common.{ℕ, List, refl, inr}
use Rattle.command_line.specs.CommandLine.{Request, AskFor}
use Rattle.outer_store.specs.Outside.{Seen, Sunk}
use Rattle.command_runs.specs.declared.status.Status.{Status}
use Rattle.command_runs.specs.declared.status.Status.TheVariants as status
use Rattle.command_runs.specs.Runs.{Runs}
use Rattle.audit_cli.specs.Peep.{plan_of, IsUntouched, Peeps}

pub untouched : (seen : Seen) (sunk : Sunk) → IsUntouched seen seen sunk sunk
untouched seen sunk = record { calls = refl; put = refl; same = λ n. refl; wrote = λ t. refl }

pub ran : (words : List (List ℕ)) (r : Request) (old new : Seen) (before after : Sunk) (s : Status) → AskFor words r → Runs (plan_of r) old new before after s → Peeps words old new before after s
ran words r old new before after status.Done a h = (r, a, h)
ran words r old new before after status.Refused a h = (r, a, h)
ran words r old new before after status.Usage a h = absurd (usage r h)
  where
    usage : (r : Request) → Runs (plan_of r) old new before after status.Usage → ⊥
    usage r h = h
ran words r old new before after status.StoreFault a h = (r, a, h)
ran words r old new before after status.SinkFault a h = (r, a, h)
ran words r old new before after status.Memory a h = inr (r, a, h)
ran words r old new before after status.TooBig a h = (r, a, h)
ran words r old new before after status.Missing a h = (r, a, h)
