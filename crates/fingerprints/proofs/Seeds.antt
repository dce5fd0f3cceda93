-- The loop that generates states yields the seed's.
use Rattle.std.proofs.Common.{◌≡◌, ℕ, suc, ◌+◌, ◌-◌, ◌<◌, ◌%◌, List, [], ◌∷◌, ◌++◌, refl, sym, ◌∙◌, ap, arith, map, append_assoc}
use Rattle.rand_pcg.specs.Lcg.{Lcg}
use Rattle.rand_pcg.specs.Pcg.{pcg32}
use Rattle.std.proofs.lemmas.List.{map-append}
use Rattle.window_exec.specs.declared.state.WState.{WState}
use Rattle.window_exec.specs.State.{seen}
use Rattle.fingerprints.specs.Seeded.{states_from, next_state}
use Rattle.fingerprints.specs.Laws.{FirstOf42}

pub states_from-more : (n i : ℕ) (g : Lcg) → i < n → states_from (n - i) g ≡ (next_state g).0 ∷ states_from (n - (i + 1)) (next_state g).1
unfolding states_from
states_from-more n i g h =
    let is : n - i ≡ suc (n - (i + 1)) = omega arith in
    rw is refl

pub states_from-none : (n : ℕ) (g : Lcg) → states_from (n - n) g ≡ []
unfolding states_from
states_from-none n g = let is : n - n ≡ 0 = omega arith in rw is refl

-- one more state
pub grown : (done : List WState) (s : WState) (turn : ℕ) (g h : Lcg) → turn < 64 → seen s ≡ (next_state g).0 → h ≡ (next_state g).1
    → map seen (done ++ s ∷ []) ++ states_from (64 - (turn + 1)) h ≡ map seen done ++ states_from (64 - turn) g
grown done s turn g h low value after =
    ap (λ us. us ++ states_from (64 - (turn + 1)) h) (map-append seen done (s ∷ []))
    ∙ append_assoc (map seen done) (seen s ∷ []) (states_from (64 - (turn + 1)) h)
    ∙ ap (λ us. map seen done ++ us) (ap (λ v. v ∷ states_from (64 - (turn + 1)) h) value
    ∙ ap (λ k. (next_state g).0 ∷ states_from (64 - (turn + 1)) k) after ∙ sym (states_from-more 64 turn g low))

-- the first state of seed 42, as it is published for the generator
pub first_of_42 : FirstOf42
unfolding states_from
first_of_42 = refl

-- five words in turn are the next state, and the generator behind them
pub five_words : (g g1 g2 g3 g4 g5 : Lcg) (a b c d f : ℕ) → (a, g1) ≡ pcg32 g → (b, g2) ≡ pcg32 g1 → (c, g3) ≡ pcg32 g2 → (d, g4) ≡ pcg32 g3 → (f, g5) ≡ pcg32 g4
    → (record { r = a ∷ b ∷ c ∷ d ∷ []; nzcv = f % 16 } ≡ (next_state g).0) × (g5 ≡ (next_state g).1)
five_words g g1 g2 g3 g4 g5 a b c d f ha hb hc hd hf =
    let a_is : a ≡ (pcg32 g).0 = ap (λ (p : ℕ × Lcg). p.0) ha in
    let g1_is : g1 ≡ (pcg32 g).1 = ap (λ (p : ℕ × Lcg). p.1) ha in
    let b_is : b ≡ (pcg32 (pcg32 g).1).0 = ap (λ (p : ℕ × Lcg). p.0) hb ∙ ap (λ x. (pcg32 x).0) g1_is in
    let g2_is : g2 ≡ (pcg32 (pcg32 g).1).1 = ap (λ (p : ℕ × Lcg). p.1) hb ∙ ap (λ x. (pcg32 x).1) g1_is in
    let c_is : c ≡ (pcg32 (pcg32 (pcg32 g).1).1).0 = ap (λ (p : ℕ × Lcg). p.0) hc ∙ ap (λ x. (pcg32 x).0) g2_is in
    let g3_is : g3 ≡ (pcg32 (pcg32 (pcg32 g).1).1).1 = ap (λ (p : ℕ × Lcg). p.1) hc ∙ ap (λ x. (pcg32 x).1) g2_is in
    let d_is : d ≡ (pcg32 (pcg32 (pcg32 (pcg32 g).1).1).1).0 = ap (λ (p : ℕ × Lcg). p.0) hd ∙ ap (λ x. (pcg32 x).0) g3_is in
    let g4_is : g4 ≡ (pcg32 (pcg32 (pcg32 (pcg32 g).1).1).1).1 = ap (λ (p : ℕ × Lcg). p.1) hd ∙ ap (λ x. (pcg32 x).1) g3_is in
    let f_is : f ≡ (pcg32 (pcg32 (pcg32 (pcg32 (pcg32 g).1).1).1).1).0 = ap (λ (p : ℕ × Lcg). p.0) hf ∙ ap (λ x. (pcg32 x).0) g4_is in
    (rw a_is (rw b_is (rw c_is (rw d_is (rw f_is refl)))), ap (λ (p : ℕ × Lcg). p.1) hf ∙ ap (λ x. (pcg32 x).1) g4_is)
