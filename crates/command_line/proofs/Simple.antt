-- The program is a simple command, for which clap's contract says exactly what is accepted and found.
use Rattle.std.proofs.Common.{◌≡◌, ◌≢◌, inl, inr, true, List, [], refl, subst, Result, Ok, Err}
use Rattle.clap.specs.Words.{App, Text, fault_of, is_simple_and_free, subcommand_of, subcommand_rows_of}
use Rattle.clap.specs.Simple.{HasMatchesOf, is_simple}
use Rattle.clap.specs.Values.{kind_of}
use Rattle.clap.specs.Kinds.{FailsBy, IsAmong, Kinds}
use Rattle.clap.specs.declared.error.Error.{Error}
use Rattle.clap.specs.declared.error.kind.ErrorKind.TheVariants as kind
use Rattle.clap.specs.declared.parser.matches.ArgMatches.{ArgMatches}
use Rattle.command_line.specs.App.{peep_app}

peep_is_simple : is_simple peep_app ≡ true
peep_is_simple = refl

peep_is_free : is_simple_and_free peep_app ≡ true
peep_is_free = refl

-- what clap finds in the words
pub found_by : (a : App) (words : List Text) (m : ArgMatches) → a ≡ peep_app → HasMatchesOf a words m → subcommand_rows_of m ≡ subcommand_of peep_app words
found_by a words m e has = (subst (λ (b : App). HasMatchesOf b words m) e has peep_is_simple).1

fails_by : (a : App) (words : List Text) (r : Result ArgMatches Error) → a ≡ peep_app → (is_simple_and_free a ≡ true → FailsBy (fault_of a words) r) → FailsBy (fault_of peep_app words) r
fails_by a words r e fails = subst (λ (b : App). is_simple_and_free b ≡ true → FailsBy (fault_of b words) r) e fails peep_is_free

-- the words that it accepts
pub taken_by : (a : App) (words : List Text) (m : ArgMatches) → a ≡ peep_app → (is_simple_and_free a ≡ true → FailsBy (fault_of a words) (Ok m)) → fault_of peep_app words ≡ []
taken_by a words m e fails = fails_by a words (Ok m) e fails

-- the words that it refuses
pub refused_by : (a : App) (words : List Text) (error : Error) → a ≡ peep_app → (is_simple_and_free a ≡ true → FailsBy {T = ArgMatches} (fault_of a words) (Err error)) → kind_of error ≢ kind.OutOfMemory
    → fault_of peep_app words ≢ []
refused_by a words error e fails other none = elim (fails_by a words (Err error) e fails) [
  | inl memory ↦ other memory
  | inr among ↦ let bad : IsAmong (kind_of error) [] = subst (λ (k : Kinds). IsAmong (kind_of error) k) none among in bad
]
