-- The notes by which the code adds a call to a history, as calls of the definitions.
use Rattle.std.specs.Prelude.{Ok, Err}
use Rattle.outer_store.specs.declared.history.Note.{Note}
use Rattle.outer_store.specs.declared.history.Note.TheVariants as note
use Rattle.outer_store.specs.Outside.{Event, Fetching, Keeping, Putting}

-- the call that a note describes
abbrev pub event_of : Note → Event
event_of (note.Fetched name text) = Fetching name.now (Ok text.now)
event_of (note.Unfetched name error) = Fetching name.now (Err error)
event_of (note.Kept name bytes) = Keeping name.now bytes.now (Ok tt)
event_of (note.Unkept name bytes error) = Keeping name.now bytes.now (Err error)
event_of (note.Put bytes) = Putting bytes.now (Ok tt)
event_of (note.Unput bytes error) = Putting bytes.now (Err error)
