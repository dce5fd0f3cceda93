-- If nothing hinders a command, it is carried out, unless memory runs out.
use Rattle.std.specs.Prelude.{◌≡◌, ◌≤◌, ◌⊎◌, ℕ, All, List, [], ◌∷◌, Option, Some, None, length}
use Rattle.std.specs.Str.{IsUtf8}
use Rattle.ascii_scan.specs.Lines.{text_limit}
use Rattle.command_line.specs.CommandLine.{Request, AskFor}
use Rattle.outer_store.specs.Outside.{Seen, Sunk, Rose, Shows, Wrote}
use Rattle.command_runs.specs.declared.status.Status.{Status}
use Rattle.command_runs.specs.declared.status.Status.TheVariants as status
use Rattle.command_runs.specs.Plans.{Plan, Refuses}
use Rattle.command_runs.specs.Runs.{ComesTo}
use Rattle.audit_cli.specs.declared.refusal.Refusal.TheVariants as refusal
use Rattle.audit_cli.specs.Printed.{refusal_line}
use Rattle.audit_cli.specs.Peep.{plan_of, Peeps}

-- ---- what may hinder a command ----

-- there is a text, and it is within the limit
abbrev pub IsWithin : Option (List ℕ) → Type 0
IsWithin None = ⊥
IsWithin (Some text) = length text ≤ text_limit

-- the name can be fetched: a store that shows its content holds such a text; of any other, the counts of missing names and of too long texts didn't rise
abbrev pub CanBeFetched : Seen → Seen → List ℕ → Type 0
CanBeFetched old new name = Shows old.tells (IsWithin (old.held name)) ((Rose old.missing new.missing → ⊥) × (Rose old.oversize new.oversize → ⊥))

-- each of the names can be fetched
abbrev pub CanAllBeFetched : Seen → Seen → List (List ℕ) → Type 0
CanAllBeFetched old new [] = Unit {0}
CanAllBeFetched old new (n ∷ ns) = CanBeFetched old new n × CanAllBeFetched old new ns

-- neither the store nor the sink failed, and each name of the plan can be fetched
pub record IsUnhindered (plan : Plan) (old new : Seen) (before after : Sunk) : Type 0 where
  pub store : Rose old.faults new.faults → ⊥
  pub sink : Rose before.faults after.faults → ⊥
  pub names : CanAllBeFetched old new plan.names

-- no refusal is an outcome of the texts
abbrev pub IsUnrefused : Plan → Seen → Type 0
IsUnrefused plan old = (line : List ℕ) → ComesTo plan old (Refuses line) → ⊥

-- the line reports that a table's text is too long
abbrev pub TellsFull : List ℕ → Type 0
TellsFull line = (bytes : ℕ) × (line ≡ refusal_line (refusal.Full bytes))

-- the texts have no other refusal as an outcome
abbrev pub IsRefusedByFull : Plan → Seen → Type 0
IsRefusedByFull plan old = (line : List ℕ) → ComesTo plan old (Refuses line) → TellsFull line

-- ---- how the call then ends ----

-- it ends as Done, or memory ran out
abbrev pub IsCarriedOut : Status → Type 0
IsCarriedOut s = (s ≡ status.Done) ⊎ (s ≡ status.Memory)

-- or only the line `refused full` was printed
abbrev pub IsCarriedOutOrFull : Sunk → Sunk → Status → Type 0
IsCarriedOutOrFull before after s = IsCarriedOut s ⊎ ((s ≡ status.Refused) × (line : List ℕ) × TellsFull line × Wrote before after line)

-- what the words ask for is carried out if nothing hinders it
abbrev pub IsComplete : Type 0
IsComplete = (words : List (List ℕ)) (r : Request) (old new : Seen) (before after : Sunk) (s : Status) → All IsUtf8 words → AskFor words r → Peeps words old new before after s
    → IsUnhindered (plan_of r) old new before after → IsUnrefused (plan_of r) old → IsCarriedOut s

-- if the only possible refusal is that of a table whose text is too long, it is carried out or refused in this way
abbrev pub IsCompleteButForFull : Type 0
IsCompleteButForFull = (words : List (List ℕ)) (r : Request) (old new : Seen) (before after : Sunk) (s : Status) → All IsUtf8 words → AskFor words r → Peeps words old new before after s
    → IsUnhindered (plan_of r) old new before after → IsRefusedByFull (plan_of r) old → IsCarriedOutOrFull before after s
