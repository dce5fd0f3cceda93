-- What each answer of a store or a sink says about its content and its counts before and after the call.
use Rattle.std.specs.Prelude.{◌≡◌, ◌≢◌, ◌≤◌, ℕ, false, List, Some, Result, Ok, Err, length}
use Rattle.outer_store.specs.declared.StoreError.{StoreError}
use Rattle.outer_store.specs.declared.StoreError.TheVariants as store
use Rattle.outer_store.specs.declared.SinkError.{SinkError}
use Rattle.outer_store.specs.declared.SinkError.TheVariants as sink
use Rattle.ascii_scan.specs.Lines.{text_limit}
use Rattle.outer_store.specs.Outside.{Rose, WhereTold, Held, SameHeld, Seen, SameCounts, MissedAt, TooBigAt, Gave, Sunk, Wrote, WrotePart, WroteNone}

-- ---- stores ----

-- each name but this one has what it had
abbrev pub OthersStay : List ℕ → Held → Held → Type 0
OthersStay name old new = (n : List ℕ) → n ≢ name → new n ≡ old n

-- no count falls, a store shows its content as before, and a store that can't fail has no new faults
pub record Grows (old new : Seen) : Type 0 where
  pub tells : new.tells ≡ old.tells
  pub may_fail : new.may_fail ≡ old.may_fail
  pub faults : old.faults ≤ new.faults
  pub missing : old.missing ≤ new.missing
  pub oversize : old.oversize ≤ new.oversize
  pub steady : old.may_fail ≡ false → new.faults ≡ old.faults

-- what each answer of a fetch says
abbrev pub Fetches : Seen → Seen → List ℕ → Result (List ℕ) StoreError → Type 0
Fetches old new name (Ok bytes) = SameCounts old new × (length bytes ≤ text_limit) × Gave old name bytes
Fetches old new name (Err store.Failed) = Rose old.faults new.faults
Fetches old new name (Err store.Missing) = (new.faults ≡ old.faults) × MissedAt old new name
Fetches old new name (Err store.TooBig) = (new.faults ≡ old.faults) × TooBigAt old new name
Fetches old new name (Err store.Memory) = Unit {0}

-- what each answer of a keep says
abbrev pub Keeps : Seen → Seen → List ℕ → List ℕ → Result (Unit {0}) StoreError → Type 0
Keeps old new name bytes (Ok u) = SameCounts old new × WhereTold old.tells (new.held name ≡ Some bytes)
Keeps old new name bytes (Err store.Failed) = Rose old.faults new.faults
Keeps old new name bytes (Err store.Missing) = ⊥
Keeps old new name bytes (Err store.TooBig) = ⊥
Keeps old new name bytes (Err store.Memory) = SameHeld old.held new.held

-- ---- sinks ----

-- the count doesn't fall, a sink shows its content as before, and a sink that can't fail has no new faults
pub record SinkGrows (old new : Sunk) : Type 0 where
  pub tells : new.tells ≡ old.tells
  pub may_fail : new.may_fail ≡ old.may_fail
  pub faults : old.faults ≤ new.faults
  pub steady : old.may_fail ≡ false → new.faults ≡ old.faults

-- what each answer of a put says
abbrev pub Puts : Sunk → Sunk → List ℕ → Result (Unit {0}) SinkError → Type 0
Puts old new bytes (Ok u) = (new.faults ≡ old.faults) × Wrote old new bytes
Puts old new bytes (Err sink.Failed) = Rose old.faults new.faults × WrotePart old new bytes
Puts old new bytes (Err sink.Memory) = WroteNone old new
