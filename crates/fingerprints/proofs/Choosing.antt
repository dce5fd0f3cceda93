-- The candidates are just the sequences that the first trial doesn't tell, also where there is no trial.
use Rattle.std.proofs.Common.{◌≡◌, ℕ, ◌+◌, ◌<◌, ◌≤◌, ◌⊎◌, inl, inr, true, List, [], ◌∷◌, Contains, Some, length, max, get_or, slice_get, refl, sym, ◌∙◌, ap, subst, arith}
use Rattle.std.specs.List.{Any}
use Rattle.std.proofs.lemmas.Bool.{cases_Bool, cases_lt, false≢true}
use Rattle.std.proofs.lemmas.Option.{slice_get_within, same_Some}
use Rattle.thumb_instr.specs.declared.instr.Instr.{Instr}
use Rattle.thumb_instr.specs.Items.{has, is_in_masks}
use Rattle.thumb_model.specs.Effect.{Values, after_all}
use Rattle.window_exec.specs.declared.state.WState.{WState}
use Rattle.window_exec.specs.State.{values_of, Differ}
use Rattle.window_exec.proofs.Differences.{differs_anywhere, differs_is}
use Rattle.seq_enum.specs.Alphabet.{numbers_from, alphabet}
use Rattle.fingerprints.specs.declared.trials.Trial.{Trial}
use Rattle.fingerprints.specs.Outcomes.{Extent, sequences_below, AreAgreeing, grown_to, added}
use Rattle.fingerprints.specs.Tables.{IsFor}
use Rattle.fingerprints.specs.Candidates.{TellsFrom, AreCandidates, BeginsAt, grown_for}
use Rattle.fingerprints.proofs.Looking.{number_here}
use Rattle.fingerprints.proofs.Growing.{below_longest}
use Rattle.seq_enum.proofs.Ascending.{ascends_numbers as numbers_ascend}
use Rattle.seq_enum.proofs.CostLines.{length-from as length-numbers}

flipped : (v w : Values) (mask : ℕ) → Differ v w mask → Differ w v mask
flipped v w mask d = (d.0, d.1, λ e. d.2 (sym e))

-- ---- the candidates ----

pub all_are : (seqs : List (List Instr)) (trials : List Trial) (mask count : ℕ) (numbers : List ℕ) → length trials ≤ 0 → count ≡ length seqs → numbers ≡ numbers_from 0 count → AreCandidates seqs trials mask numbers
all_are seqs (t ∷ ts) mask count numbers none e n = absurd (omega (arith, none))
all_are seqs [] mask count numbers none e n = subst (AreCandidates seqs [] mask) (sym n) (record {
  ascending = numbers_ascend 0 count;
  within = λ q c.
      let size = length-numbers 0 count in
      let low : c.0 < count = omega (arith, c.1, size) in
      let is : c.0 ≡ q = sym (number_here count c.0 q low) ∙ c.2 in
      omega (arith, is, low, e);
  each = λ q seq at. (
    λ there never. never,
    λ h.
        let low : q < count = (let l = slice_get_within seqs q seq at in omega (arith, l, e)) in
        let size = length-numbers 0 count in
        (q, omega (arith, size, low), number_here count q q low),
  );
})

agreeing_candidates : (e : Extent) (t : Trial) (ts : List Trial) (longest mask count : ℕ) (numbers : List ℕ) → e.start ≡ t.start → count ≡ length (sequences_below e.alphabet (longest + 1))
    → AreAgreeing (grown_to longest e) (values_of t.end) mask count numbers → AreCandidates (sequences_below e.alphabet (longest + 1)) (t ∷ ts) mask numbers
agreeing_candidates e t ts longest mask count numbers begins c agree = record {
  ascending = agree.ascending;
  within = λ q there. let h = (agree.agreeing q).0 there in omega (arith, h.0, c);
  each = λ q seq at.
      let long : slice_get (sequences_below e.alphabet (max e.longest longest + 1)) q ≡ Some seq = below_longest e.alphabet (longest + 1) (max e.longest longest + 1) q seq (omega arith) at in
      let start : values_of e.start ≡ values_of t.start = ap (λ (s : WState). values_of s) begins in (
        λ there tells.
            let h = ((agree.agreeing q).0 there).1 in
            let same : h.seq ≡ seq = same_Some h.seq seq (sym h.at ∙ long) in
            let differ : Differ (after_all seq (values_of t.start)) (values_of t.end) mask = flipped (values_of t.end) (after_all seq (values_of t.start)) mask tells in
            h.same (subst (λ v. Differ v (values_of t.end) mask) (ap (λ v. after_all seq v) (sym start) ∙ ap (λ w. after_all w (values_of e.start)) (sym same)) differ),
        λ never.
            let low : q < count = (let l = slice_get_within (sequences_below e.alphabet (longest + 1)) q seq at in omega (arith, l, c)) in
            (agree.agreeing q).1 (
              low,
              record {
                seq = seq;
                at = long;
                same = λ d. never (flipped (after_all seq (values_of t.start)) (values_of t.end) mask (subst (λ v. Differ (after_all seq v) (values_of t.end) mask) start d));
              },
            ),
      );
}

pub candidates_are : (e later : Extent) (trials : List Trial) (d : Trial) (longest mask count : ℕ) (numbers : List ℕ) → 0 < length trials → BeginsAt e.start trials → count ≡ length (sequences_below e.alphabet (longest + 1)) → later ≡ grown_to longest e
    → AreAgreeing later (values_of (get_or trials 0 d).end) mask count numbers → AreCandidates (sequences_below e.alphabet (longest + 1)) trials mask numbers
candidates_are e later [] d longest mask count numbers some begins c grown agree = absurd (omega (arith, some))
candidates_are e later (t ∷ ts) d longest mask count numbers some begins c grown agree =
    agreeing_candidates e t ts longest mask count numbers begins c (subst (λ (x : Extent). AreAgreeing x (values_of t.end) mask count numbers) grown agree)

-- ---- the table ----

-- the table gets no more sequences than there are shorter ones
pub few_added : (e : Extent) (longest : ℕ) → added longest e ≤ length (sequences_below e.alphabet (longest + 1))
few_added e longest = elim (cases_lt e.longest longest) [
  | inl more ↦ (
      let most : max e.longest longest + 1 ≡ longest + 1 = omega arith in
      let size : length (sequences_below e.alphabet (max e.longest longest + 1)) ≡ length (sequences_below e.alphabet (longest + 1)) = ap (λ n. length (sequences_below e.alphabet n)) most in
      omega (arith, size)
      )
  | inr enough ↦ (
      let most : max e.longest longest + 1 ≡ e.longest + 1 = omega arith in
      let size : length (sequences_below e.alphabet (max e.longest longest + 1)) ≡ length (sequences_below e.alphabet (e.longest + 1)) = ap (λ n. length (sequences_below e.alphabet n)) most in
      omega (arith, size)
      )
]

-- a table that has grown is of the same registers
pub grown_for_same : (k : ℕ) (pool : List ℕ) (start : WState) (trials : List Trial) (longest : ℕ) (old new : Extent) → IsFor k pool start old → new ≡ grown_for trials longest old → IsFor new.registers pool start new
grown_for_same k pool start trials longest old new is e = subst (λ (x : Extent). IsFor x.registers pool start x) (sym e) (grown trials)
  where
    grown : (trials : List Trial) → IsFor (grown_for trials longest old).registers pool start (grown_for trials longest old)
    grown [] = record { registers = refl; alphabet = is.alphabet ∙ ap (λ j. alphabet j pool) (sym is.registers); state = is.state }
    grown (t ∷ ts) = record { registers = refl; alphabet = is.alphabet ∙ ap (λ j. alphabet j pool) (sym is.registers); state = is.state }

-- ---- each other sequence is told ----

pub told_or_candidate : (seqs : List (List Instr)) (trials : List Trial) (mask : ℕ) (numbers : List ℕ) → ((x : ℕ) → has mask x ≡ true → is_in_masks x ≡ true) → AreCandidates seqs trials mask numbers
    → (q : ℕ) (seq : List Instr) → slice_get seqs q ≡ Some seq → Contains numbers q ⊎ Any (TellsFrom seq mask) trials
told_or_candidate seqs [] mask numbers in_masks are q seq at = inl ((are.each q seq at).1 (λ h. h))
told_or_candidate seqs (t ∷ ts) mask numbers in_masks are q seq at = elim (cases_Bool (differs_anywhere mask (values_of t.end) (after_all seq (values_of t.start)))) [
  | inl does ↦ inr (0, t, omega arith, refl, (differs_is mask (values_of t.end) (after_all seq (values_of t.start)) in_masks).0 does)
  | inr never ↦ inl ((are.each q seq at).1 (λ tells. false≢true (sym never ∙ (differs_is mask (values_of t.end) (after_all seq (values_of t.start)) in_masks).1 tells)))
]
