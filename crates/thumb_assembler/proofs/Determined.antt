-- An image has exactly one run from each state.
use Rattle.std.proofs.Common.{◌≡◌, ℕ, ◌+◌, ◌<◌, ap, subst, refl, arith}
use Rattle.thumb_instr.specs.declared.instr.Instr.{Instr}
use Rattle.thumb_table.proofs.Codes.{one_instr}
use Rattle.thumb_model.specs.States.{Continuation, Here, Ended, State}
use Rattle.thumb_model.specs.Steps.{does}
use Rattle.thumb_assembler.specs.Runs.{Loaded, half_at, IsFetched, ImageStep, stays, acts, falls_out, ImageSteps, none, more, act_in, following}
use Rattle.thumb_assembler.specs.Promises.{HasBytes, RunsAreDetermined}

half_small : (m : Loaded) → HasBytes m → (a : ℕ) → half_at m a < 65536
half_small m h a = let low = h a in let high = h (a + 1) in omega arith

one_fetched : (m : Loaded) → HasBytes m → (a : ℕ) (i j : Instr) → IsFetched m a i → IsFetched m a j → i ≡ j
one_fetched m h a i j f g = one_instr i j (half_at m a) (half_at m (a + 2)) (half_small m h a) (half_small m h (a + 2)) f.encoded g.encoded

never_both : (s : State) (a : ℕ) → s.at ≡ Ended → s.at ≡ Here a → ⊥
never_both s a e f = let bad : Ended ≡ Here a = cc in cc

one_step : (m : Loaded) → HasBytes m → (s t u : State) (n k : Continuation) → ImageStep m s n t → ImageStep m s k u → t ≡ u
one_step m h s _ _ _ _ (stays e) (stays f) = refl
one_step m h s _ _ _ _ (stays e) (acts b j f g) = absurd (never_both s b e f)
one_step m h s _ _ _ _ (stays e) (falls_out b f g) = absurd (never_both s b e f)
one_step m h s _ _ _ _ (acts a i e f) (stays g) = absurd (never_both s a g e)
one_step m h s _ _ _ _ (acts a i e f) (acts b j g k) =
    let place : a ≡ b = cc in
    let same : i ≡ j = one_fetched m h b i j (subst (λ (x : ℕ). IsFetched m x i) place f) k in
    subst (λ (x : ℕ). does a (following a i) (act_in m a i s) s ≡ does x (following x j) (act_in m x j s) s) place (ap (λ (x : Instr). does a (following a x) (act_in m a x s) s) same)
one_step m h s _ _ _ _ (acts a i e f) (falls_out b g k) = let place : a ≡ b = cc in absurd (k i (subst (λ (x : ℕ). IsFetched m x i) place f))
one_step m h s _ _ _ _ (falls_out a e f) (stays g) = absurd (never_both s a g e)
one_step m h s _ _ _ _ (falls_out a e f) (acts b j g k) = let place : b ≡ a = cc in absurd (f j (subst (λ (x : ℕ). IsFetched m x j) place k))
one_step m h s _ _ _ _ (falls_out a e f) (falls_out b g k) = refl

pub determined : RunsAreDetermined
determined m _ s _ _ h (none _) (none _) = refl
determined m _ s t u h (more n x _ r _ a first) (more _ y _ q _ b second) = determined m n q t u h (subst (λ (z : State). ImageSteps m n z t) (one_step m h s r q x y a b) first) second
