-- What each stage of a run has done: the fetches, the keeps, the put, and all that follows once the outcome is known.
use Rattle.std.specs.Prelude.{◌≡◌, ℕ, ◌⊎◌, List, [], ◌∷◌, ◌++◌, Result, Ok, Err}
use Rattle.command_runs.specs.declared.status.Status.{Status}
use Rattle.command_runs.specs.declared.status.Status.TheVariants as status
use Rattle.outer_store.specs.declared.StoreError.TheVariants as store
use Rattle.outer_store.specs.declared.SinkError.TheVariants as sink
use Rattle.outer_store.specs.Outside.{Fetching, Keeping, Putting, Seen, SameHeld, SameCounts, Rose, MissedAt, TooBigAt, Sunk, Wrote, WrotePart, WroteNone}
use Rattle.command_runs.specs.Plans.{Keep, Outcome, Refuses, Does, keeps_of, due, IsText, AreTexts, StopsAt, ReadsSome, ReadsUpTo, Kept, KeptBut, FailsAfter, ShortAfter, fetchings, keepings}

-- one text was fetched, or why not
abbrev pub Reads : List ℕ → Seen → Seen → Result (List ℕ) Status → Type 0
Reads name old new (Ok text) = SameCounts old new × IsText old name text × (new.events ≡ old.events ++ Fetching name (Ok text) ∷ [])
Reads name old new (Err status.StoreFault) = Rose old.faults new.faults × (new.events ≡ old.events ++ Fetching name (Err store.Failed) ∷ [])
Reads name old new (Err status.Missing) = MissedAt old new name × (new.events ≡ old.events ++ Fetching name (Err store.Missing) ∷ [])
Reads name old new (Err status.TooBig) = TooBigAt old new name × (new.events ≡ old.events ++ Fetching name (Err store.TooBig) ∷ [])
Reads name old new (Err status.Memory) = new.events ≡ old.events ++ Fetching name (Err store.Memory) ∷ []
Reads name old new (Err status.Done) = ⊥
Reads name old new (Err status.Refused) = ⊥
Reads name old new (Err status.Usage) = ⊥
Reads name old new (Err status.SinkFault) = ⊥

-- the texts of some names were fetched, or why not
abbrev pub Gathers : List (List ℕ) → Seen → Seen → Result (List (List ℕ)) Status → Type 0
Gathers names old new (Ok texts) = SameCounts old new × AreTexts old names texts × (new.events ≡ old.events ++ fetchings names texts)
Gathers names old new (Err status.StoreFault) = Rose old.faults new.faults × ReadsUpTo store.Failed names old new
Gathers names old new (Err status.Missing) = StopsAt (λ n. MissedAt old new n) old names × ReadsUpTo store.Missing names old new
Gathers names old new (Err status.TooBig) = StopsAt (λ n. TooBigAt old new n) old names × ReadsUpTo store.TooBig names old new
Gathers names old new (Err status.Memory) = ReadsUpTo store.Memory names old new ⊎ ReadsSome names old new
Gathers names old new (Err status.Done) = ⊥
Gathers names old new (Err status.Refused) = ⊥
Gathers names old new (Err status.Usage) = ⊥
Gathers names old new (Err status.SinkFault) = ⊥

-- one text was kept, or why it wasn't
abbrev pub StoresOne : Keep → Seen → Seen → Result (Unit {0}) Status → Type 0
StoresOne k old new (Ok u) = SameCounts old new × Kept (k ∷ []) old new × (new.events ≡ old.events ++ Keeping k.0 k.1 (Ok tt) ∷ [])
StoresOne k old new (Err status.StoreFault) = Rose old.faults new.faults × KeptBut k.0 [] old new × (new.events ≡ old.events ++ Keeping k.0 k.1 (Err store.Failed) ∷ [])
StoresOne k old new (Err status.Memory) = SameHeld old.held new.held × (new.events ≡ old.events ++ Keeping k.0 k.1 (Err store.Memory) ∷ [])
StoresOne k old new (Err status.Done) = ⊥
StoresOne k old new (Err status.Refused) = ⊥
StoresOne k old new (Err status.Usage) = ⊥
StoresOne k old new (Err status.SinkFault) = ⊥
StoresOne k old new (Err status.TooBig) = ⊥
StoresOne k old new (Err status.Missing) = ⊥

-- texts were kept in order, or only the first of them, and why no more
abbrev pub Stores : List Keep → Seen → Seen → Result (Unit {0}) Status → Type 0
Stores ks old new (Ok u) = SameCounts old new × Kept ks old new × (new.events ≡ old.events ++ keepings ks)
Stores ks old new (Err status.StoreFault) = Rose old.faults new.faults × FailsAfter [] ks old new
Stores ks old new (Err status.Memory) = ShortAfter [] ks old new
Stores ks old new (Err status.Done) = ⊥
Stores ks old new (Err status.Refused) = ⊥
Stores ks old new (Err status.Usage) = ⊥
Stores ks old new (Err status.SinkFault) = ⊥
Stores ks old new (Err status.TooBig) = ⊥
Stores ks old new (Err status.Missing) = ⊥

-- the bytes were put, so that the run ends as `good`, or why they weren't
abbrev pub Prints : Status → List ℕ → Sunk → Sunk → Status → Type 0
Prints good bytes before after status.Done = (good ≡ status.Done) × (after.faults ≡ before.faults) × Wrote before after bytes × (after.events ≡ before.events ++ Putting bytes (Ok tt) ∷ [])
Prints good bytes before after status.Refused = (good ≡ status.Refused) × (after.faults ≡ before.faults) × Wrote before after bytes × (after.events ≡ before.events ++ Putting bytes (Ok tt) ∷ [])
Prints good bytes before after status.SinkFault = Rose before.faults after.faults × WrotePart before after bytes × (after.events ≡ before.events ++ Putting bytes (Err sink.Failed) ∷ [])
Prints good bytes before after status.Memory = WroteNone before after × (after.events ≡ before.events ++ Putting bytes (Err sink.Memory) ∷ [])
Prints good bytes before after status.Usage = ⊥
Prints good bytes before after status.StoreFault = ⊥
Prints good bytes before after status.TooBig = ⊥
Prints good bytes before after status.Missing = ⊥

-- the status of a run that went well
abbrev pub good_of : Outcome → Status
good_of (Refuses line) = status.Refused
good_of (Does keeps lines) = status.Done

-- what the run does once the outcome is known
abbrev pub Finishes : Outcome → Seen → Seen → Sunk → Sunk → Status → Type 0
Finishes o old new before after status.Done = (good_of o ≡ status.Done) × SameCounts old new × Kept (keeps_of o) old new × (new.events ≡ old.events ++ keepings (keeps_of o)) × Prints status.Done (due o) before after status.Done
Finishes o old new before after status.Refused = (good_of o ≡ status.Refused) × SameCounts old new × SameHeld old.held new.held × (new.events ≡ old.events ++ keepings (keeps_of o)) × Prints status.Refused (due o) before after status.Refused
Finishes o old new before after status.StoreFault = Rose old.faults new.faults × FailsAfter [] (keeps_of o) old new × WroteNone before after × (after.events ≡ before.events)
Finishes o old new before after status.SinkFault = Kept (keeps_of o) old new × (new.events ≡ old.events ++ keepings (keeps_of o)) × Prints (good_of o) (due o) before after status.SinkFault
Finishes o old new before after status.Memory = (ShortAfter [] (keeps_of o) old new × WroteNone before after × (after.events ≡ before.events)) ⊎ (Kept (keeps_of o) old new × (new.events ≡ old.events ++ keepings (keeps_of o)) × Prints (good_of o) (due o) before after status.Memory)
Finishes o old new before after status.Usage = ⊥
Finishes o old new before after status.TooBig = ⊥
Finishes o old new before after status.Missing = ⊥
