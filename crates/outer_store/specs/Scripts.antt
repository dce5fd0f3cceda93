-- The four kinds of stores and sinks: those in memory, which show their content and fail at calls chosen beforehand, and the real ones, which show nothing.
use Rattle.std.specs.Prelude.{◌≡◌, ℕ, Bool, true, false, List, [], ◌∷◌, None, Contains, Result, Ok, Err}
use Rattle.outer_store.specs.declared.StoreError.{StoreError}
use Rattle.outer_store.specs.declared.StoreError.TheVariants as store
use Rattle.outer_store.specs.declared.SinkError.{SinkError}
use Rattle.outer_store.specs.declared.SinkError.TheVariants as sink
use Rattle.outer_store.specs.Entries.{NamedText, text_in}
use Rattle.outer_store.specs.Outside.{Event, Seen, Sunk, counted}

-- there is at least one number
abbrev pub is_some_number : List ℕ → Bool
is_some_number [] = false
is_some_number (n ∷ ns) = true

-- the numbers, from 1, of the calls that are to fail, the number of calls so far, and how many failed
pub record Script : Type 0 where
  pub failing : List ℕ
  pub calls : ℕ
  pub faults : ℕ

-- one call later
pub record IsCalled (old new : Script) : Type 0 where
  pub failing : new.failing ≡ old.failing
  pub calls : new.calls ≡ counted old.calls

-- the next call is to fail
abbrev pub FailsNext : Script → Type 0
FailsNext s = Contains s.failing (counted s.calls)

-- a store in memory
pub record Texts : Type 0 where
  pub entries : List NamedText
  pub script : Script
  pub missing : ℕ
  pub oversize : ℕ
  pub events : List Event

-- it shows what it holds
abbrev pub seen_texts : Texts → Seen
seen_texts s = record { tells = true; held = text_in s.entries; may_fail = is_some_number s.script.failing; faults = s.script.faults; missing = s.missing; oversize = s.oversize; events = s.events }

-- each error raises only the count that belongs to it
abbrev pub RaisesTexts : {X : Type 0} → Texts → Texts → Result X StoreError → Type 0
RaisesTexts old new (Ok x) = (new.script.faults ≡ old.script.faults) × (new.missing ≡ old.missing) × (new.oversize ≡ old.oversize)
RaisesTexts old new (Err store.Failed) = (new.script.faults ≡ counted old.script.faults) × (new.missing ≡ old.missing) × (new.oversize ≡ old.oversize)
RaisesTexts old new (Err store.Missing) = (new.script.faults ≡ old.script.faults) × (new.missing ≡ counted old.missing) × (new.oversize ≡ old.oversize)
RaisesTexts old new (Err store.TooBig) = (new.script.faults ≡ old.script.faults) × (new.missing ≡ old.missing) × (new.oversize ≡ counted old.oversize)
RaisesTexts old new (Err store.Memory) = (new.script.faults ≡ old.script.faults) × (new.missing ≡ old.missing) × (new.oversize ≡ old.oversize)

-- a sink in memory
pub record Bytes : Type 0 where
  pub written : List ℕ
  pub script : Script
  pub events : List Event

-- it shows what was written
abbrev pub seen_bytes : Bytes → Sunk
seen_bytes s = record { tells = true; written = s.written; may_fail = is_some_number s.script.failing; faults = s.script.faults; events = s.events }

-- only a call that fails raises the count of faults
abbrev pub RaisesBytes : {X : Type 0} → Bytes → Bytes → Result X SinkError → Type 0
RaisesBytes old new (Ok x) = new.script.faults ≡ old.script.faults
RaisesBytes old new (Err sink.Failed) = new.script.faults ≡ counted old.script.faults
RaisesBytes old new (Err sink.Memory) = new.script.faults ≡ old.script.faults

-- a real store
pub record RealFiles : Type 0 where
  pub faults : ℕ
  pub missing : ℕ
  pub oversize : ℕ
  pub events : List Event

-- it shows nothing of what it holds
abbrev pub seen_files : RealFiles → Seen
seen_files s = record { tells = false; held = λ _. None; may_fail = true; faults = s.faults; missing = s.missing; oversize = s.oversize; events = s.events }

-- a real sink
pub record RealOutput : Type 0 where
  pub faults : ℕ
  pub events : List Event

-- it shows nothing of what was written
abbrev pub seen_output : RealOutput → Sunk
seen_output s = record { tells = false; written = []; may_fail = true; faults = s.faults; events = s.events }
