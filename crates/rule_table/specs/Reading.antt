-- The result of reading a text as a table, and the laws of reading and writing.
use Rattle.std.specs.Prelude.{◌≡◌, ℕ, List, Result, Ok, Err}
use Rattle.rule_table.specs.declared.table.Table.{Table as Code}
use Rattle.rule_table.specs.declared.errors.TableError.{TableError}
use Rattle.rule_table.specs.declared.errors.TableError.TheVariants as error
use Rattle.rule_table.specs.Table.{Table, IsTable}
use Rattle.rule_table.specs.Text.{text_of}
use Rattle.rule_table.specs.Views.{table_of}
use Rattle.rule_table.specs.Refused.{IsText, IsRefused}

-- the result is the table that the bytes are the text of, or the line that is refused, or an error for lack of memory
abbrev pub Reads : List ℕ → Result Code TableError → Type 0
Reads bytes (Ok t) = IsText bytes (table_of t)
Reads bytes (Err (error.Line n)) = IsRefused bytes n
Reads bytes (Err error.Memory) = Unit {0}

-- no text is the text of two tables
abbrev pub OneTable : Type 0
OneTable = (bytes : List ℕ) (t u : Table) → IsText bytes t → IsText bytes u → t ≡ u

-- no text is both a table and refused, and a text is refused at no more than one line
abbrev pub NotBoth : Type 0
NotBoth = (bytes : List ℕ) (t : Table) (n : ℕ) → IsText bytes t → IsRefused bytes n → ⊥

abbrev pub RefusedOnce : Type 0
RefusedOnce = (bytes : List ℕ) (n m : ℕ) → IsRefused bytes n → IsRefused bytes m → n ≡ m

-- a written table is read back as itself, unless memory runs out
abbrev pub IsAnswer : Table → Result Code TableError → Type 0
IsAnswer t (Ok u) = table_of u ≡ t
IsAnswer t (Err (error.Line n)) = ⊥
IsAnswer t (Err error.Memory) = Unit {0}

abbrev pub WrittenReadsBack : Type 0
WrittenReadsBack = (t : Table) (answer : Result Code TableError) → IsTable t → Reads (text_of t) answer → IsAnswer t answer

-- a table that was read is written as the text that it was read from, byte for byte
abbrev pub ReadWritesBack : Type 0
ReadWritesBack = (bytes : List ℕ) (t : Code) → Reads bytes (Ok t) → text_of (table_of t) ≡ bytes
