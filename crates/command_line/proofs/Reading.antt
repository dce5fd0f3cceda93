-- A reading of the words after a command as positional words and options: the common ground of our definition and clap's.
use Rattle.std.specs.Prelude.{ℕ, ◌+◌, ◌++◌, ◌&&◌, Bool, true, not, List, [], ◌∷◌, Option, Some, None, if◌then◌else◌, option_map, option_and_then}
use Rattle.std.specs.Str.{bytes_eq}
use Rattle.clap.specs.Lexer.{long_of, short_of}
use Rattle.command_line.specs.Words.{Text, Given, is_named}

-- what a word is: `--`, `--name=value`, `--name`, a word that is no option, or none of these
pub data WordKind : Type 0 where
  dashes : WordKind
  joined : Text → Text → WordKind
  apart : Text → WordKind
  plain : WordKind
  stray : WordKind

abbrev pub option_word : Text → Option Text → WordKind
option_word n (Some v) = joined n v
option_word n None = apart n

abbrev pub word_by : (Text → Bool) → Option (Text × Option Text) → Option Text → WordKind
word_by is_option (Some p) s = if is_option p.0 then option_word p.0 p.1 else stray
word_by is_option None (Some s) = stray
word_by is_option None None = plain

abbrev pub word_of : (Text → Bool) → Text → WordKind
word_of is_option x = if bytes_eq x (45 ∷ 45 ∷ []) then dashes else word_by is_option (long_of x) (short_of x)

-- no option is waiting; an option is waiting for its value; only positional words follow
pub data Mode : Type 0 where
  free : Mode
  opened : Text → Mode
  tail : Mode

abbrev pub more : Given → Option (List Given) → Option (List Given)
more u us = option_map (λ xs. u ∷ xs) us

abbrev pub to_positional : Option Text → Text → Option (List Given) → Option (List Given)
to_positional id x next = option_and_then (λ n. more (n, x) next) id

abbrev pub use_word : WordKind → Mode → ℕ → Text → Option Text → (Mode → ℕ → Option (List Given)) → Option (List Given)
use_word w tail i x id next = to_positional id x (next tail (i + 1))
use_word plain (opened n) i x id next = more (n, x) (next free i)
use_word w (opened n) i x id next = None
use_word dashes free i x id next = next tail i
use_word (joined n v) free i x id next = more (n, v) (next free i)
use_word (apart n) free i x id next = next (opened n) i
use_word plain free i x id next = to_positional id x (next free (i + 1))
use_word stray free i x id next = None

abbrev pub at_end : Mode → Option (List Given)
at_end free = Some []
at_end (opened n) = None
at_end tail = Some []

-- the uses in order, by the names of the positional words and the test for options
unfoldable pub uses : (ℕ → Option Text) → (Text → Bool) → List Text → Mode → ℕ → Option (List Given)
uses at is_option [] m i = at_end m
uses at is_option (x ∷ xs) m i = use_word (word_of is_option x) m i x (at i) (uses at is_option xs)

-- each name is used once
abbrev pub once_after : List Given → List Given → Bool
once_after before [] = true
once_after before (u ∷ us) = not (is_named u.0 before) && once_after (before ++ u ∷ []) us
