-- What a whole run of a plan has done, by the status that it ends with.
use Rattle.std.specs.Prelude.{◌≡◌, ◌⊎◌, ℕ, List, [], ◌∷◌, ◌++◌, Ok, Err}
use Rattle.command_runs.specs.declared.status.Status.{Status}
use Rattle.command_runs.specs.declared.status.Status.TheVariants as status
use Rattle.outer_store.specs.declared.StoreError.{StoreError}
use Rattle.outer_store.specs.declared.StoreError.TheVariants as store
use Rattle.outer_store.specs.declared.SinkError.TheVariants as sink
use Rattle.outer_store.specs.Outside.{Event, Putting, Seen, SameHeld, SameCounts, Rose, MissedAt, TooBigAt, Sunk, Wrote, WrotePart, WroteNone}
use Rattle.command_runs.specs.Plans.{Outcome, Refuses, Does, Plan, Keep, keeps_of, due, fetchings, AreTexts, StopsAt, ReadsSome, ReadsUpTo, keepings, Kept, FailsAfter, ShortAfter}

-- the run used the texts of its names, and they have this outcome
pub record ComesTo (plan : Plan) (old : Seen) (outcome : Outcome) : Type 0 where
  pub texts : List (List ℕ)
  pub read : AreTexts old plan.names texts
  pub comes : plan.comes texts outcome

-- the calls by which the run fetched its texts
abbrev pub fetches_of : {plan : Plan} {old : Seen} {o : Outcome} → ComesTo plan old o → List Event
fetches_of {plan} c = fetchings plan.names c.texts

-- the store was asked for exactly the texts of the plan's names, in order, and then to keep exactly what is due, in order, and it did
abbrev pub DoesAll : {plan : Plan} {old : Seen} {o : Outcome} → ComesTo plan old o → Seen → Type 0
DoesAll {plan} {old} {o} c new = new.events ≡ old.events ++ (fetches_of c ++ keepings (keeps_of o))

-- all was kept, and the lines were printed, by one put; no count rose
pub record IsDone (plan : Plan) (old new : Seen) (before after : Sunk) : Type 0 where
  pub counts : SameCounts old new
  pub faults : after.faults ≡ before.faults
  pub keeps : List Keep
  pub lines : List ℕ
  pub outcome : ComesTo plan old (Does keeps lines)
  pub kept : Kept keeps old new
  pub wrote : Wrote before after lines
  pub calls : DoesAll outcome new
  pub put : after.events ≡ before.events ++ Putting lines (Ok tt) ∷ []

-- nothing was kept, and one line was printed, by one put; no count rose
pub record IsRefused (plan : Plan) (old new : Seen) (before after : Sunk) : Type 0 where
  pub counts : SameCounts old new
  pub faults : after.faults ≡ before.faults
  pub line : List ℕ
  pub outcome : ComesTo plan old (Refuses line)
  pub same : SameHeld old.held new.held
  pub wrote : Wrote before after line
  pub calls : DoesAll outcome new
  pub put : after.events ≡ before.events ++ Putting line (Ok tt) ∷ []

-- the store failed, at a fetch or at a keep, and nothing was put
pub record IsStoreFault (plan : Plan) (old new : Seen) (before after : Sunk) : Type 0 where
  pub rose : Rose old.faults new.faults
  pub kept : (SameHeld old.held new.held × ReadsUpTo store.Failed plan.names old new) ⊎ ((o : Outcome) × (c : ComesTo plan old o) × FailsAfter (fetches_of c) (keeps_of o) old new)
  pub wrote : WroteNone before after
  pub put : after.events ≡ before.events

-- the sink failed at the one put: all was kept, and a prefix of what was to be printed was printed
pub record IsSinkFault (plan : Plan) (old new : Seen) (before after : Sunk) : Type 0 where
  pub rose : Rose before.faults after.faults
  pub due_outcome : Outcome
  pub outcome : ComesTo plan old due_outcome
  pub kept : Kept (keeps_of due_outcome) old new
  pub wrote : WrotePart before after (due due_outcome)
  pub calls : DoesAll outcome new
  pub put : after.events ≡ before.events ++ Putting (due due_outcome) (Err sink.Failed) ∷ []

-- where memory ran out: at a fetch or after some of them, at a keep, or at the one put
pub data ShortAt (plan : Plan) (old new : Seen) (before after : Sunk) : Type 0 where
  at_fetch : SameHeld old.held new.held → ReadsUpTo store.Memory plan.names old new ⊎ ReadsSome plan.names old new → after.events ≡ before.events → ShortAt plan old new before after
  at_keep : (o : Outcome) (c : ComesTo plan old o) → ShortAfter (fetches_of c) (keeps_of o) old new → after.events ≡ before.events → ShortAt plan old new before after
  at_put : (o : Outcome) (c : ComesTo plan old o) → Kept (keeps_of o) old new → DoesAll c new → after.events ≡ before.events ++ Putting (due o) (Err sink.Memory) ∷ [] → ShortAt plan old new before after

-- memory was refused, and nothing was printed
pub record IsShort (plan : Plan) (old new : Seen) (before after : Sunk) : Type 0 where
  pub short : ShortAt plan old new before after
  pub wrote : WroteNone before after

-- a name of the plan had no usable text, for this cause, and its fetch returned this error; nothing was kept or put
pub record IsStopped (plan : Plan) (error : StoreError) (reason : List ℕ → Type 0) (old new : Seen) (before after : Sunk) : Type 0 where
  pub stops : StopsAt reason old plan.names
  pub calls : ReadsUpTo error plan.names old new
  pub same : SameHeld old.held new.held
  pub wrote : WroteNone before after
  pub put : after.events ≡ before.events

-- what a run of the plan has done, by its status
abbrev pub Runs : Plan → Seen → Seen → Sunk → Sunk → Status → Type 0
Runs plan old new before after status.Done = IsDone plan old new before after
Runs plan old new before after status.Refused = IsRefused plan old new before after
Runs plan old new before after status.Usage = ⊥
Runs plan old new before after status.StoreFault = IsStoreFault plan old new before after
Runs plan old new before after status.SinkFault = IsSinkFault plan old new before after
Runs plan old new before after status.Memory = IsShort plan old new before after
Runs plan old new before after status.TooBig = IsStopped plan store.TooBig (λ n. TooBigAt old new n) old new before after
Runs plan old new before after status.Missing = IsStopped plan store.Missing (λ n. MissedAt old new n) old new before after
