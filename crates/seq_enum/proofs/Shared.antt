-- Lemmas that crates above share.
use Rattle.std.proofs.Common.{◌≡◌, ℕ, zero, suc, List, [], subst, sym, arith, Some, slice_get, All, Contains}
use Rattle.std.proofs.lemmas.List.Elements.{All-push}
use Rattle.std.proofs.lemmas.Option.{slice_get_within, same_Some, get_or_from_slice_get}
use Rattle.thumb_instr.specs.declared.instr.Instr.{Instr}
use Rattle.seq_enum.specs.Alphabet.{numbers_from, alphabet, words, sequences, sequences_of, IsOver}
use Rattle.seq_enum.proofs.Numbered.{flat_map_from}
use Rattle.seq_enum.proofs.Words.{words_parts}

-- each instruction of a numbered sequence is one of those that are listed
over_words : (instrs : List Instr) (n i : ℕ) (w : List Instr) → slice_get (words instrs n) i ≡ Some w → All (Contains instrs) w
unfolding words
over_words instrs zero zero w e = subst (All (Contains instrs)) (same_Some [] w e) (λ k d low. absurd (omega arith))
over_words instrs zero (suc i) w e = absurd cc
over_words instrs (suc n) i w e =
    words_parts instrs n i w e (λ h j v x front at is.
    subst (All (Contains instrs)) (sym is) (All-push (Contains instrs) v x (over_words instrs n h v front) (j, slice_get_within instrs j x at, get_or_from_slice_get instrs j x x at)))

pub over_sequences : (k : ℕ) (pool : List ℕ) (q : ℕ) (s : List Instr) → slice_get (sequences k pool) q ≡ Some s → IsOver k pool s
unfolding sequences_of
over_sequences k pool q s e = flat_map_from (words (alphabet k pool)) (numbers_from 0 6) q s e (λ m j at. over_words (alphabet k pool) m j s at)
