-- The nops at places that are gone read and write nothing, and are straight.
use Rattle.std.proofs.Common.{◌≡◌, ℕ, zero, suc, ◌&&◌, ◌||◌, not, true, false, List, [], ◌∷◌, ◌++◌, refl, ap}
use Rattle.std.specs.List.{list_all}
use Rattle.thumb_instr.specs.declared.instr.Instr.{Instr}
use Rattle.thumb_instr.specs.Shape.{uses_of, writes_of}
use Rattle.thumb_model.specs.Effect.{one_of}
use Rattle.shrinking_sets.specs.Straight.{is_straight, reads_first, writes_in, nops}

none_read : (n x : ℕ) → reads_first (nops n) x ≡ false
none_read zero x = refl
none_read (suc n) x = ap (λ b. b && true) (none_read n x)

none_written : (n x : ℕ) → writes_in (nops n) x ≡ false
none_written zero x = refl
none_written (suc n) x = none_written n x

all_straight : (n : ℕ) → list_all is_straight (nops n) ≡ true
all_straight zero = refl
all_straight (suc n) = all_straight n

reads : (is : List Instr) (n x : ℕ) → reads_first (is ++ nops n) x ≡ reads_first is x
reads [] n x = none_read n x
reads (i ∷ is) n x = ap (λ b. one_of x (uses_of i) || (b && not (one_of x (writes_of i)))) (reads is n x)

writes : (is : List Instr) (n x : ℕ) → writes_in (is ++ nops n) x ≡ writes_in is x
writes [] n x = none_written n x
writes (i ∷ is) n x = ap (λ b. one_of x (writes_of i) || b) (writes is n x)

straight : (is : List Instr) (n : ℕ) → list_all is_straight (is ++ nops n) ≡ list_all is_straight is
straight [] n = all_straight n
straight (i ∷ is) n = ap (λ b. is_straight i && b) (straight is n)

pub padding_is_nothing : (is : List Instr) (n x : ℕ) → (reads_first (is ++ nops n) x ≡ reads_first is x) × (writes_in (is ++ nops n) x ≡ writes_in is x) × (list_all is_straight (is ++ nops n) ≡ list_all is_straight is)
padding_is_nothing is n x = (reads is n x, writes is n x, straight is n)
