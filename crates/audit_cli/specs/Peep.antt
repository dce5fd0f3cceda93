-- The whole contract of the top call: what the words ask for, and what the run of it has done.
use Rattle.std.specs.Prelude.{◌≡◌, ℕ, ◌⊎◌, List, [], ◌∷◌, Some, None}
use Rattle.command_line.specs.CommandLine.{Request, rewrite, audit, learn, export, trace, demo, upgrade, trim, tidy, generalise, AskFor}
use Rattle.outer_store.specs.Outside.{Seen, SameHeld, Sunk, WroteNone}
use Rattle.command_runs.specs.declared.status.Status.{Status}
use Rattle.command_runs.specs.declared.status.Status.TheVariants as status
use Rattle.command_runs.specs.Plans.{Plan}
use Rattle.command_runs.specs.Runs.{Runs}
use Rattle.audit_cli.specs.Rewrite.{RewriteComesTo}
use Rattle.audit_cli.specs.Tables.{AuditComesTo, ExportComesTo}
use Rattle.audit_cli.specs.Learn.{LearnComesTo, LearnByCostsComesTo}
use Rattle.audit_cli.specs.Trace.{TraceComesTo}
use Rattle.audit_cli.specs.Demo.{DemoComesTo}
use Rattle.audit_cli.specs.Upgrade.{UpgradeComesTo}
use Rattle.audit_cli.specs.Trim.{TrimComesTo}
use Rattle.audit_cli.specs.Tidy.{TidyComesTo}
use Rattle.audit_cli.specs.Generalise.{wanted, GeneraliseComesTo}

-- the plan of a request: the names that it fetches, and the outcome of their texts
abbrev pub plan_of : Request → Plan
plan_of (rewrite table listing out image base) = record { names = table ∷ listing ∷ []; comes = RewriteComesTo (record { out = out; image = image; base = base }) }
plan_of (audit table) = record { names = table ∷ []; comes = AuditComesTo }
plan_of (learn listing out None settings) = record { names = listing ∷ []; comes = LearnComesTo (record { out = out; settings = settings }) }
plan_of (learn listing out (Some costs) settings) = record { names = listing ∷ costs ∷ []; comes = LearnByCostsComesTo (record { out = out; settings = settings }) }
plan_of (export table entry cnf lrat) = record { names = table ∷ []; comes = ExportComesTo (record { entry = entry; cnf = cnf; lrat = lrat }) }
plan_of (trace listing label steps) = record { names = listing ∷ []; comes = TraceComesTo (record { label = label; most = steps }) }
plan_of (demo windows) = record { names = []; comes = λ texts. DemoComesTo windows }
plan_of (upgrade table out) = record { names = table ∷ []; comes = UpgradeComesTo out }
plan_of (trim table out) = record { names = table ∷ []; comes = TrimComesTo out }
plan_of (tidy listing out base) = record { names = listing ∷ []; comes = TidyComesTo base out }
plan_of (generalise table entry number low high out) = record { names = table ∷ []; comes = GeneraliseComesTo out (wanted entry number low high) }

-- nothing was asked of the store or the sink, and nothing was kept or printed
pub record IsUntouched (old new : Seen) (before after : Sunk) : Type 0 where
  pub calls : new.events ≡ old.events
  pub put : after.events ≡ before.events
  pub same : SameHeld old.held new.held
  pub wrote : WroteNone before after

-- the words ask for a command, and its plan was run
abbrev pub Ran : List (List ℕ) → Seen → Seen → Sunk → Sunk → Status → Type 0
Ran words old new before after s = (r : Request) × AskFor words r × Runs (plan_of r) old new before after s

-- what a call with these words has done, by its status
abbrev pub Peeps : List (List ℕ) → Seen → Seen → Sunk → Sunk → Status → Type 0
Peeps words old new before after status.Usage = ((r : Request) → AskFor words r → ⊥) × IsUntouched old new before after
Peeps words old new before after status.Memory = IsUntouched old new before after ⊎ Ran words old new before after status.Memory
Peeps words old new before after status.Done = Ran words old new before after status.Done
Peeps words old new before after status.Refused = Ran words old new before after status.Refused
Peeps words old new before after status.StoreFault = Ran words old new before after status.StoreFault
Peeps words old new before after status.SinkFault = Ran words old new before after status.SinkFault
Peeps words old new before after status.TooBig = Ran words old new before after status.TooBig
Peeps words old new before after status.Missing = Ran words old new before after status.Missing
