-- The loops that mix prints, state by state and column by column.
use Rattle.std.proofs.Common.{◌≡◌, ℕ, Bool, suc, ◌+◌, ◌-◌, ◌<◌, ◌≤◌, List, [], ◌∷◌, ◌++◌, fold, bit_and, slice_index, refl, sym, ap, ◌∙◌, arith}
use Rattle.std.proofs.lemmas.List.Sums.{fold-append}
use Rattle.thumb_instr.specs.Items.{has}
use Rattle.fingerprints.specs.declared.lanes.Lanes.{Lanes}
use Rattle.fingerprints.specs.declared.columns.Column.{Column}
use Rattle.fingerprints.specs.declared.print.Words.{Words}
use Rattle.fingerprints.specs.Lanes.{values_at, flags_at}
use Rattle.fingerprints.specs.Print.{mixed, one_if, masked, nzcv_of, in_mask, words_of, with_words, print_from}
use Rattle.fingerprints.specs.Words.{AreWordsAt}
use Rattle.fingerprints.specs.Columns.{lanes_from, states_of, states_in}

-- one more lane
pub one_lane : (m h i count : ℕ) (l : Lanes) (a b c d f g r : ℕ) → i < count
    → a ≡ values_at l i 0 → b ≡ values_at l i 1 → c ≡ values_at l i 2 → d ≡ values_at l i 3 → f ≡ flags_at l i → g ≡ nzcv_of (in_mask m)
    → r ≡ fold mixed h (masked m a b c d (bit_and f g)) → print_from m r (lanes_from l (i + 1) (count - (i + 1))) ≡ print_from m h (lanes_from l i (count - i))
unfolding lanes_from with_words words_of
one_lane m h i count l a b c d f g r below p0 p1 p2 p3 pf pg e =
    let next : count - i ≡ suc (count - (i + 1)) = omega arith in
    rw (next, e, p0, p1, p2, p3, pf, pg) refl

pub no_lane : (m h i count : ℕ) (l : Lanes) → count ≤ i → print_from m h (lanes_from l i (count - i)) ≡ h
unfolding lanes_from
no_lane m h i count l e = let none : count - i ≡ 0 = omega arith in rw none refl

-- one more column
pub one_column : (m h : ℕ) (c : Column) (cs : List Column) → print_from m (print_from m h (states_of c)) (states_in cs) ≡ print_from m h (states_in (c ∷ cs))
unfolding states_in
one_column m h c cs = sym (fold-append (with_words m) h (states_of c) (states_in cs))

-- the words of a state, one after the other, each where its test succeeds
pub by_words : (m h a b c d g : ℕ) (h1 h2 h3 h4 h5 : ℕ) (t0 t1 t2 t3 : Bool) → t0 ≡ has m 0 → t1 ≡ has m 1 → t2 ≡ has m 2 → t3 ≡ has m 3
    → h1 ≡ fold mixed h (one_if t0 a) → h2 ≡ fold mixed h1 (one_if t1 b) → h3 ≡ fold mixed h2 (one_if t2 c) → h4 ≡ fold mixed h3 (one_if t3 d) → h5 ≡ mixed h4 g
    → h5 ≡ fold mixed h (masked m a b c d g)
by_words m h a b c d g h1 h2 h3 h4 h5 t0 t1 t2 t3 s0 s1 s2 s3 e1 e2 e3 e4 e5 =
    let fourth : List ℕ = one_if t3 d ++ g ∷ [] in
    let third : List ℕ = one_if t2 c ++ fourth in
    let second : List ℕ = one_if t1 b ++ third in
    rw (← s0, ← s1, ← s2, ← s3)
    (sym (fold-append mixed h (one_if t0 a) second
    ∙ ap (λ n. fold mixed n second) (sym e1) ∙ fold-append mixed h1 (one_if t1 b) third
    ∙ ap (λ n. fold mixed n third) (sym e2) ∙ fold-append mixed h2 (one_if t2 c) fourth
    ∙ ap (λ n. fold mixed n fourth) (sym e3) ∙ fold-append mixed h3 (one_if t3 d) (g ∷ [])
    ∙ ap (λ n. mixed n g) (sym e4) ∙ sym e5))

-- one more lane, by its words
pub one_lane_on : (m h i count : ℕ) (l : Lanes) (words : Words) (flags r whole : ℕ) → i < count → AreWordsAt l words i → flags ≡ nzcv_of (in_mask m)
    → r ≡ fold mixed h (masked m (slice_index words.r0 i) (slice_index words.r1 i) (slice_index words.r2 i) (slice_index words.r3 i) (bit_and (slice_index words.nzcv i) flags))
    → print_from m h (lanes_from l i (count - i)) ≡ whole → print_from m r (lanes_from l (i + 1) (count - (i + 1))) ≡ whole
one_lane_on m h i count l words flags r whole below are f e so = one_lane m h i count l _ _ _ _ _ _ r below are.r0 are.r1 are.r2 are.r3 are.nzcv f e ∙ so
