-- The prints of all sequences of an alphabet, in the order of the sequences' numbers.
use Rattle.std.specs.Prelude.{ℕ, ◌+◌, List, map}
use Rattle.std.specs.List.{flat_map}
use Rattle.thumb_instr.specs.declared.instr.Instr.{Instr}
use Rattle.thumb_model.specs.Effect.{Values}
use Rattle.seq_enum.specs.Alphabet.{numbers_from, words}
use Rattle.fingerprints.specs.Print.{print_after}

-- the sequences of at most `longest` instructions of an alphabet, by number
unfoldable pub sequences_within : ℕ → List Instr → List (List Instr)
sequences_within longest alphabet = flat_map (words alphabet) (numbers_from 0 (longest + 1))

-- the prints of all sequences of n instructions
abbrev pub prints_of : ℕ → List Values → List Instr → ℕ → List ℕ
prints_of mask states alphabet n = map (print_after mask states) (words alphabet n)

-- the prints of the sequences of at most `longest` instructions, by number
abbrev pub prints_within : ℕ → List Values → List Instr → ℕ → List ℕ
prints_within mask states alphabet longest = map (print_after mask states) (sequences_within longest alphabet)
