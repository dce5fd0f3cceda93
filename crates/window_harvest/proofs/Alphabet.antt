-- Windows over an alphabet have numbers in it, so that keys exist.
use Rattle.std.proofs.Common.{◌≡◌, ℕ, suc, ◌+◌, ◌<◌, ◌≤◌, List, [], ◌∷◌, ◌++◌, length, Some, refl, sym, ap, ◌∙◌, subst, arith, append-nil, append_assoc}
use Rattle.std.specs.Prelude.{map, Contains}
use Rattle.thumb_instr.specs.declared.instr.Instr.{Instr}
use Rattle.seq_enum.specs.Alphabet.{numbers_from, those_within, grid2, grid3, rows, members, alphabet, words, sequences_of, sequences, IsOver}
use Rattle.seq_enum.proofs.Numbered.{numbers_at}
use Rattle.window_harvest.proofs.Lists.{In, contains_in, in_map, in_lists, Each, all_each}

one_more : (instrs : List Instr) (n : ℕ) (v : List Instr) (x : Instr) → In (words instrs n) v → In instrs x → In (words instrs (suc n)) (v ++ x ∷ [])
unfolding words
one_more instrs n v x a b = in_lists (λ w. map (λ y. w ++ y ∷ []) instrs) (words instrs n) v (v ++ x ∷ []) a (in_map (λ y. v ++ y ∷ []) instrs x b)

longer : (instrs : List Instr) (n m : ℕ) (v w : List Instr) → m ≡ n + length w → In (words instrs n) v → Each (Contains instrs) w → In (words instrs m) (v ++ w)
longer instrs n m v [] e a b =
    let f : n ≡ m = omega arith in
    subst (λ (u : List Instr). In (words instrs m) u) (sym (append-nil v)) (subst (λ k. In (words instrs k) v) f a)
longer instrs n m v (x ∷ xs) e a b =
    subst (λ (u : List Instr). In (words instrs m) u) (append_assoc v (x ∷ []) xs) (longer instrs (suc n) m (v ++ x ∷ []) xs (omega arith) (one_more instrs n v x a (contains_in instrs x b.0)) b.1)

first_word : (instrs : List Instr) → In (words instrs 0) []
unfolding words
first_word instrs = (0, refl)

-- a sequence of at most five instructions of the alphabet has a number
pub over_number : (k : ℕ) (pool : List ℕ) (w : List Instr) → length w ≤ 5 → IsOver k pool w → In (sequences k pool) w
unfolding sequences_of
over_number k pool w h o =
    let instrs = alphabet k pool in
    in_lists (words instrs) (numbers_from 0 6) (length w) w
    (length w, numbers_at 0 6 (length w) (omega arith) ∙ ap Some (let f : 0 + length w ≡ length w = omega arith in f))
    (longer instrs 0 (length w) [] w (omega arith) (first_word instrs) (all_each (Contains instrs) w o))

-- no instruction names no register
pub no_alphabet : (pool : List ℕ) → alphabet 0 pool ≡ []
unfolding alphabet rows members grid2 grid3 those_within numbers_from
no_alphabet pool = refl

pub over_none : (pool : List ℕ) (w : List Instr) → 0 < length w → IsOver 0 pool w → ⊥
over_none pool [] h o = omega arith
over_none pool (x ∷ xs) h o = let c = subst (λ (l : List Instr). Contains l x) (no_alphabet pool) (o 0 x h) in omega (arith, c.1)
