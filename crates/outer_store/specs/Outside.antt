-- What contracts know of a store and a sink: their content, if they show it (`tells`), their counts of failures, and the calls that were made so far.
use Rattle.std.specs.Prelude.{◌≡◌, ◌≤◌, ◌<◌, ◌+◌, ◌-◌, ◌^◌, ℕ, Bool, true, false, List, ◌++◌, take, Option, Some, None, Result, min, length}
use Rattle.ascii_scan.specs.Lines.{text_limit}
use Rattle.outer_store.specs.declared.StoreError.{StoreError}
use Rattle.outer_store.specs.declared.SinkError.{SinkError}

-- ---- calls ----

-- one call with its answer: a name was fetched, bytes were kept under a name, or bytes were put
pub data Event : Type 0 where
  Fetching : (name : List ℕ) (answer : Result (List ℕ) StoreError) → Event
  Keeping : (name bytes : List ℕ) (answer : Result (Unit {0}) StoreError) → Event
  Putting : (bytes : List ℕ) (answer : Result (Unit {0}) SinkError) → Event

-- ---- counts ----

-- a count increased by one, saturating at the greatest u64
abbrev pub counted : ℕ → ℕ
counted n = min (n + 1) (2 ^ 64 - 1)

-- a count rose, or is saturated
abbrev pub Rose : ℕ → ℕ → Type 0
Rose before now = counted before ≤ now

-- a statement on the content of a store or a sink, made only if it shows its content
abbrev pub WhereTold : Bool → Type 0 → Type 0
WhereTold tells told = tells ≡ true → told

-- ---- stores ----

-- the text under each name
abbrev pub Held : Type 0
Held = List ℕ → Option (List ℕ)

-- each name has what it had
abbrev pub SameHeld : Held → Held → Type 0
SameHeld old new = (n : List ℕ) → new n ≡ old n

-- a store: whether it shows its content to contracts; what it holds, which means nothing if it doesn't; whether it may fail; its counts
-- of faults, of names not found and of texts over the limit; and the calls so far, in order, each with its answer
pub record Seen : Type 0 where
  pub tells : Bool
  pub held : Held
  pub may_fail : Bool
  pub faults : ℕ
  pub missing : ℕ
  pub oversize : ℕ
  pub events : List Event

-- each count is as it was
pub record SameCounts (old new : Seen) : Type 0 where
  pub faults : new.faults ≡ old.faults
  pub missing : new.missing ≡ old.missing
  pub oversize : new.oversize ≡ old.oversize

-- a cause that shows in the content of a store that shows it, and in a count of any other store
abbrev pub Shows : Bool → Type 0 → Type 0 → Type 0
Shows true told risen = told
Shows false told risen = risen

-- there is a text, and it is over the limit
abbrev pub IsTooBig : Option (List ℕ) → Type 0
IsTooBig None = ⊥
IsTooBig (Some bytes) = text_limit < length bytes

-- a name was not found
abbrev pub MissedAt : Seen → Seen → List ℕ → Type 0
MissedAt old new name = Shows old.tells (old.held name ≡ None) (Rose old.missing new.missing)

-- the text under a name was over the limit
abbrev pub TooBigAt : Seen → Seen → List ℕ → Type 0
TooBigAt old new name = Shows old.tells (IsTooBig (old.held name)) (Rose old.oversize new.oversize)

-- the bytes are those held, if the store shows its content
abbrev pub Gave : Seen → List ℕ → List ℕ → Type 0
Gave old name bytes = WhereTold old.tells (old.held name ≡ Some bytes)

-- ---- sinks ----

-- a sink: whether it shows its content to contracts; what was written to it, which means nothing if it doesn't; whether it may fail; its
-- count of faults; and the calls so far, in order, each with its answer
pub record Sunk : Type 0 where
  pub tells : Bool
  pub written : List ℕ
  pub may_fail : Bool
  pub faults : ℕ
  pub events : List Event

-- the bytes were written after what was there
abbrev pub Wrote : Sunk → Sunk → List ℕ → Type 0
Wrote old new bytes = WhereTold old.tells (new.written ≡ old.written ++ bytes)

-- a prefix of the bytes was written
abbrev pub WrotePart : Sunk → Sunk → List ℕ → Type 0
WrotePart old new bytes = (k : ℕ) × Wrote old new (take k bytes)

-- nothing was written
abbrev pub WroteNone : Sunk → Sunk → Type 0
WroteNone old new = WhereTold old.tells (new.written ≡ old.written)
