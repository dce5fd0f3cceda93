-- What appending the bytes of a statement ensures: the contracts of the functions that push.
use Rattle.std.specs.Prelude.{◌≡◌, ℕ, ◌+◌, ◌*◌, true, false, List, ◌++◌, length, Result, Ok, Err, None, Some}
use Rattle.thumb_instr.specs.declared.instr.Instr.{Instr}
use Rattle.thumb_model.specs.Listing.{Name, Value, Statement, ListingLine}
use Rattle.thumb_model.specs.Layout.{instr_size, size_at}
use Rattle.thumb_model.specs.Steps.{word_of_value}
use Rattle.thumb_model.specs.Naming.{laid}
use Rattle.thumb_assembler.specs.Bytes.{Laid, word_bytes, words_bytes, IsInstrBytes, IsStatementBytes, IsSetBy, flaw_of, value_lost, values_lost}
use Rattle.thumb_assembler.specs.declared.errors.Flaw.{Flaw}
use Rattle.thumb_assembler.specs.declared.errors.Flaw.TheVariants as flaw
use Rattle.thumb_assembler.specs.declared.errors.ImageError.{ImageError}
use Rattle.thumb_assembler.specs.declared.errors.ImageError.TheVariants as error

-- lines laid out at a base, with what external names stand for
abbrev pub placed : ℕ → (Name → ℕ) → List ListingLine → Laid
placed base set all = record { base = base; names = laid base set all; lines = all }

-- the bytes of an instruction's code were appended
pub record PushedCode (i : Instr) (old new : List ℕ) : Type 0 where
  pub here : List ℕ
  pub are : IsInstrBytes i here
  pub pushed : new ≡ old ++ here
  pub long : length here ≡ instr_size i

-- the bytes of a statement at an address were appended
pub record Pushed (l : Laid) (at : ℕ) (s : Statement) (old new : List ℕ) : Type 0 where
  pub here : List ℕ
  pub are : IsStatementBytes l at s here
  pub pushed : new ≡ old ++ here

-- so it is for every choice of what external names stand for that agrees with the addresses that the lines set
pub record PushedLaid (base : ℕ) (all : List ListingLine) (at : ℕ) (s : Statement) (old new : List ℕ) : Type 0 where
  pub sound : flaw_of base all s ≡ None
  pub pushed : (set : Name → ℕ) → IsSetBy all set → Pushed (placed base set all) at s old new
  pub long : length new ≡ length old + size_at s at

-- a statement's bytes were appended, or it has this flaw
abbrev pub Pushes : {T : Type 0} → ℕ → List ListingLine → ℕ → Statement → List ℕ → List ℕ → Result T Flaw → Type 0
Pushes base all at s old new (Ok t) = PushedLaid base all at s old new
Pushes base all at s old new (Err flaw.NoAddress) = flaw_of base all s ≡ Some flaw.NoAddress
Pushes base all at s old new (Err flaw.Inside) = flaw_of base all s ≡ Some flaw.Inside
Pushes base all at s old new (Err flaw.Memory) = Unit {0}

-- the word of a value was appended
pub record PushedValue (base : ℕ) (all : List ListingLine) (v : Value) (old new : List ℕ) : Type 0 where
  pub found : value_lost base all v ≡ false
  pub pushed : (set : Name → ℕ) → IsSetBy all set → new ≡ old ++ word_bytes (word_of_value (laid base set all) v)
  pub long : length new ≡ length old + 4

abbrev pub PushesValue : {T : Type 0} → ℕ → List ListingLine → Value → List ℕ → List ℕ → Result T Flaw → Type 0
PushesValue base all v old new (Ok t) = PushedValue base all v old new
PushesValue base all v old new (Err flaw.NoAddress) = value_lost base all v ≡ true
PushesValue base all v old new (Err flaw.Inside) = ⊥
PushesValue base all v old new (Err flaw.Memory) = Unit {0}

pub record PushedValues (base : ℕ) (all : List ListingLine) (vs : List Value) (old new : List ℕ) : Type 0 where
  pub found : values_lost base all vs ≡ false
  pub pushed : (set : Name → ℕ) → IsSetBy all set → new ≡ old ++ words_bytes (laid base set all) vs
  pub long : length new ≡ length old + 4 * length vs

abbrev pub PushesValues : {T : Type 0} → ℕ → List ListingLine → List Value → List ℕ → List ℕ → Result T Flaw → Type 0
PushesValues base all vs old new (Ok t) = PushedValues base all vs old new
PushesValues base all vs old new (Err flaw.NoAddress) = values_lost base all vs ≡ true
PushesValues base all vs old new (Err flaw.Inside) = ⊥
PushesValues base all vs old new (Err flaw.Memory) = Unit {0}

-- the error that reports a flaw of a line
abbrev pub told_at : Flaw → ℕ → ImageError
told_at flaw.NoAddress line = error.NoAddress line
told_at flaw.Inside line = error.Inside line
told_at flaw.Memory line = error.Memory
