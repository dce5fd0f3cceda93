-- How long rows and runs are.
use Rattle.std.proofs.Common.{◌≡◌, ℕ, zero, suc, ◌+◌, ◌<◌, ◌≤◌, ◌&&◌, Bool, true, false, List, [], ◌∷◌, length, drop, Option, Some, None, refl, sym, ap, ◌∙◌, arith, length-append}
use Rattle.thumb_instr.specs.declared.instr.Instr.{Instr}
use Rattle.thumb_model.specs.Listing.{Statement, Nothing, Instruction, Words, Aligns, Sets, ListingLine, Word, places_in, places_of}
use Rattle.window_runs.specs.declared.rows.WindowPlace.{WindowPlace}
use Rattle.window_runs.specs.Rows.{is_unlabelled, rows_of, stays_joined, rows_from}
use Rattle.window_runs.specs.Runs.{instr_at, before, run}
use Rattle.thumb_model.proofs.Lists.{length_drop as length-drop, length_map as map_length}

-- a run is no longer than the rows
run_less : (begins : Bool) (n : ℕ) (rows : List WindowPlace) → length (run begins n rows) ≤ length rows
run_less begins zero rows = omega arith
run_less begins (suc n) [] = omega arith
run_less begins (suc n) (r ∷ rs) = go (instr_at begins (r ∷ rs)) (run_less false n rs)
  where
    go : (o : Option Instr) → length (run false n rs) ≤ length rs → length (before o (run false n rs)) ≤ suc (length rs)
    go None h = omega arith
    go (Some i) h = omega arith

-- nor longer than asked for
pub run_short : (begins : Bool) (n : ℕ) (rows : List WindowPlace) → length (run begins n rows) ≤ n
run_short begins zero rows = omega arith
run_short begins (suc n) [] = omega arith
run_short begins (suc n) (r ∷ rs) = go (instr_at begins (r ∷ rs)) (run_short false n rs)
  where
    go : (o : Option Instr) → length (run false n rs) ≤ n → length (before o (run false n rs)) ≤ suc n
    go None h = omega arith
    go (Some i) h = omega arith

pub run_within : (most place last : ℕ) (rows : List WindowPlace) (is : List Instr) → is ≡ run true most (drop place rows) → place < length rows → last < length is → place + last < length rows
run_within most place last rows is e h k = omega (arith, ap (λ (l : List Instr). length l) e, run_less true most (drop place rows), length-drop place rows)

-- a row for each place
statement_length : (b : Bool) (s : Statement) → length (rows_of b s) ≡ length (places_in s)
statement_length b Nothing = refl
statement_length b (Instruction i m) = refl
statement_length b (Words vs) = map_length _ vs ∙ sym (map_length Word vs)
statement_length b (Aligns size most) = refl
statement_length b (Sets name address) = refl

pub rows_length : (b : Bool) (lines : List ListingLine) → length (rows_from b lines) ≡ length (places_of lines)
rows_length b [] = refl
rows_length b (l ∷ ls) =
    omega (
      arith,
      length-append (rows_of (b && is_unlabelled l.names) l.statement) (rows_from (stays_joined (b && is_unlabelled l.names) l.statement) ls),
      length-append (places_in l.statement) (places_of ls),
      statement_length (b && is_unlabelled l.names) l.statement,
      rows_length (stays_joined (b && is_unlabelled l.names) l.statement) ls,
    )
