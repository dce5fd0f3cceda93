-- The registers of a start state, r0 to r12, sp and lr, in the one list that the machine keeps.
use Rattle.std.proofs.Common.{◌≡◌, ℕ, suc, ◌==◌, nat_lt, false, List, [], ◌∷◌, get_or, refl, arith, if◌then◌else◌, ne_eqb}
use Rattle.std.specs.Prelude.{slice_index}
use Rattle.std.proofs.lemmas.Bool.{le-ltb}
use Rattle.thumb_model.specs.Effect.{sp, lr}

pub fifteen : (r : List ℕ) (s l : ℕ) (x : ℕ) → slice_index (get_or r 0 0 ∷ get_or r 1 0 ∷ get_or r 2 0 ∷ get_or r 3 0 ∷ get_or r 4 0 ∷ get_or r 5 0 ∷ get_or r 6 0 ∷ get_or r 7 0 ∷ get_or r 8 0 ∷ get_or r 9 0 ∷ get_or r 10 0 ∷ get_or r 11 0 ∷ get_or r 12 0 ∷ s ∷ l ∷ []) x ≡ (if x == sp then s else if x == lr then l else if nat_lt x 13 then slice_index r x else 0)
fifteen r s l (suc (suc (suc (suc (suc (suc (suc (suc (suc (suc (suc (suc (suc (suc (suc k))))))))))))))) =
    let n : ℕ = (suc (suc (suc (suc (suc (suc (suc (suc (suc (suc (suc (suc (suc (suc (suc k))))))))))))))) in
    let a : (n == sp) ≡ false = ne_eqb n sp (omega arith) in
    let b : (n == lr) ≡ false = ne_eqb n lr (omega arith) in
    let d : nat_lt n 13 ≡ false = le-ltb n 13 (omega arith) in
    rw (a, b, d) refl
fifteen r s l x = refl
