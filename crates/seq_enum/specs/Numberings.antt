-- The invariant of a numbering: it knows how many instructions of the alphabet come before each kind.
use Rattle.std.specs.Prelude.{◌≡◌, ◌≤◌, ◌<◌, ℕ, List, length, take, slice_get, Some}
use Rattle.std.specs.List.{flat_map}
use Rattle.seq_enum.specs.Alphabet.{rows, members, alphabet}
use Rattle.thumb_instr.specs.declared.kind.Kind.{Kind}
use Rattle.seq_enum.specs.declared.numbering.Numbering.{Numbering}

-- the starts are how many instructions come before those of each kind in a list
pub record AreStarts (k : ℕ) (pool : List ℕ) (rows : List Kind) (starts : List ℕ) : Type 0 where
  pub as_many : length starts ≡ length rows
  pub each : (i : ℕ) → i < length rows → slice_get starts i ≡ Some (length (flat_map (members k pool) (take i rows)))

pub record IsNumbering (n : Numbering) : Type 0 where
  pub some : 0 < n.registers
  pub few : n.registers ≤ 4
  pub starts : AreStarts n.registers n.pool.now rows n.starts.items
  pub size : n.size ≡ length (alphabet n.registers n.pool.now)
  pub small : n.size ≤ 1952
