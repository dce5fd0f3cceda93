-- The candidates of a print are the numbers of the sequences that have it.
use Rattle.std.proofs.Common.{◌≡◌, ℕ, zero, suc, ◌+◌, ◌-◌, ◌<◌, ◌≤◌, ◌==◌, inl, inr, List, [], ◌∷◌, ◌++◌, length, slice_get, Option, Some, None, refl, sym, ◌∙◌, ap, subst, arith, eq-eqb, true}
use Rattle.std.specs.Prelude.{Contains}
use Rattle.std.specs.List.{flat_map}
use Rattle.std.specs.Option.{option_map}
use Rattle.std.proofs.lemmas.Bool.{cases_lt}
use Rattle.std.proofs.lemmas.Bool.Decides.{eqb_tells}
use Rattle.std.proofs.lemmas.List.Concat.{flat_map-append}
use Rattle.std.proofs.lemmas.Option.{slice_get-map, slice_get_within, get_or_from_slice_get, slice_get-get_or, same_Some}
use Rattle.thumb_instr.specs.declared.instr.Instr.{Instr}
use Rattle.thumb_model.specs.Effect.{Values}
use Rattle.seq_enum.specs.Alphabet.{numbers_from, words, sequences_of}
use Rattle.seq_enum.proofs.Numbered.{numbers_at, get_back, flat_map_at}
use Rattle.seq_enum.proofs.Words.{word_length}
use Rattle.fingerprints.specs.Print.{print_after}
use Rattle.fingerprints.specs.Sequences.{sequences_within, prints_within}
use Rattle.fingerprints.specs.Index.{scanned}
use Rattle.common_lemmas.proofs.Lists.{get_front}
use Rattle.seq_enum.proofs.CostLines.{length-from}
use Rattle.seq_enum.proofs.Weighing.{numbers_split}

-- ---- a scan finds the places of a print

found_place : (print n : ℕ) (ps : List ℕ) (k q : ℕ) → slice_get (scanned print n ps) k ≡ Some q → (i : ℕ) × (q ≡ n + i) × (slice_get ps i ≡ Some print)
unfolding scanned
found_place print n [] k q e = absurd cc
found_place print n (p ∷ ps) k q e =
    elim (eqb_tells p print) [
      | inl h ↦ first k (rw h.0 at e) (ap (λ x. Some x) h.1) (λ j f. later (found_place print (n + 1) ps j q f))
      | inr h ↦ later (found_place print (n + 1) ps k q (rw h.0 at e))
    ]
  where
    later : (i : ℕ) × (q ≡ n + 1 + i) × (slice_get ps i ≡ Some print) → (i : ℕ) × (q ≡ n + i) × (slice_get (p ∷ ps) i ≡ Some print)
    later r = (suc r.0, omega (arith, r.1), r.2)

    first : (k : ℕ) → slice_get (n ∷ scanned print (n + 1) ps) k ≡ Some q → Some p ≡ Some print
        → ((j : ℕ) → slice_get (scanned print (n + 1) ps) j ≡ Some q → (i : ℕ) × (q ≡ n + i) × (slice_get (p ∷ ps) i ≡ Some print))
        → (i : ℕ) × (q ≡ n + i) × (slice_get (p ∷ ps) i ≡ Some print)
    first zero f same rest = (0, omega (arith, same_Some n q f), same)
    first (suc j) f same rest = rest j f

-- ---- an element of a list, by its place
some_place : (xs : List ℕ) (q : ℕ) → Contains xs q → (k : ℕ) × (slice_get xs k ≡ Some q)
some_place xs q c = (c.0, slice_get-get_or xs c.0 q c.1 ∙ ap (λ x. Some x) c.2)

contains_at : (xs : List ℕ) (q k : ℕ) → slice_get xs k ≡ Some q → Contains xs q
contains_at xs q k e = (k, slice_get_within xs k q e, get_or_from_slice_get xs k q q e)

place_found : (print n : ℕ) (ps : List ℕ) (i : ℕ) → slice_get ps i ≡ Some print → (k : ℕ) × (slice_get (scanned print n ps) k ≡ Some (n + i))
unfolding scanned
place_found print n [] i e = absurd cc
place_found print n (p ∷ ps) zero e =
    let t : (p == print) ≡ true = eq-eqb p print (same_Some p print e) in
    rw t (0, ap (λ x. Some x) (omega arith))
place_found print n (p ∷ ps) (suc i) e =
    let r = place_found print (n + 1) ps i e in
    let q : n + 1 + i ≡ n + suc i = omega arith in
    elim (eqb_tells p print) [
      | inl h ↦ rw h.0 (suc r.0, r.1 ∙ ap (λ x. Some x) q)
      | inr h ↦ rw h.0 (r.0, r.1 ∙ ap (λ x. Some x) q)
    ]

-- ---- the sequences of at most `longest` instructions come first

-- the sequences of more instructions
longer : ℕ → List Instr → List (List Instr)
longer longest alphabet = flat_map (words alphabet) (numbers_from (longest + 1) (5 - longest))

sequences_split : (longest : ℕ) (alphabet : List Instr) → longest ≤ 5 → sequences_of alphabet ≡ sequences_within longest alphabet ++ longer longest alphabet
unfolding sequences_of sequences_within longer
sequences_split longest alphabet h =
    let six : 6 ≡ longest + 1 + (5 - longest) = omega arith in
    let base : 0 + (longest + 1) ≡ longest + 1 = omega arith in
    ap (λ n. flat_map (words alphabet) (numbers_from 0 n)) six
    ∙ ap (flat_map (words alphabet)) (numbers_split 0 (longest + 1) (5 - longest) ∙ ap (λ b. numbers_from 0 (longest + 1) ++ numbers_from b (5 - longest)) base)
    ∙ flat_map-append (words alphabet) (numbers_from 0 (longest + 1)) (numbers_from (longest + 1) (5 - longest))

-- each word among those of some lengths has one of these lengths
pub length_within : (alphabet : List Instr) (first count i : ℕ) (seq : List Instr) → slice_get (flat_map (words alphabet) (numbers_from first count)) i ≡ Some seq → (first ≤ length seq) × (length seq < first + count)
length_within alphabet first count i seq e =
    flat_map_at (words alphabet) (numbers_from first count) i seq e (λ h n j at there.
    let low : h < count = omega (arith, slice_get_within (numbers_from first count) h n at, length-from first count) in
    let is : first + h ≡ n = same_Some (first + h) n (sym (numbers_at first count h low) ∙ at) in
    let size : length seq ≡ n = word_length alphabet n j seq there in
    (omega (arith, is, size), omega (arith, low, is, size)))

pub within_is_sequence : (longest : ℕ) (alphabet : List Instr) (q : ℕ) (seq : List Instr) → longest ≤ 5 → slice_get (sequences_within longest alphabet) q ≡ Some seq → (slice_get (sequences_of alphabet) q ≡ Some seq) × (length seq ≤ longest)
unfolding sequences_within
within_is_sequence longest alphabet q seq h e = (
  ap (λ xs. slice_get xs q) (sequences_split longest alphabet h) ∙ get_front (flat_map (words alphabet) (numbers_from 0 (longest + 1))) (longer longest alphabet) q (slice_get_within (flat_map (words alphabet) (numbers_from 0 (longest + 1))) q seq e) ∙ e,
  omega (arith, (length_within alphabet 0 (longest + 1) q seq e).1),
)

pub sequence_is_within : (longest : ℕ) (alphabet : List Instr) (q : ℕ) (seq : List Instr) → longest ≤ 5 → slice_get (sequences_of alphabet) q ≡ Some seq → length seq ≤ longest → slice_get (sequences_within longest alphabet) q ≡ Some seq
unfolding longer
sequence_is_within longest alphabet q seq h e l =
    let split : slice_get (sequences_within longest alphabet ++ longer longest alphabet) q ≡ Some seq = ap (λ xs. slice_get xs q) (sym (sequences_split longest alphabet h)) ∙ e in
    elim (cases_lt q (length (sequences_within longest alphabet))) [
      | inl low ↦ sym (get_front (sequences_within longest alphabet) (longer longest alphabet) q low) ∙ split
      | inr past ↦
          let behind = length_within alphabet (longest + 1) (5 - longest) (q - length (sequences_within longest alphabet)) seq (sym (get_back (sequences_within longest alphabet) (longer longest alphabet) q past) ∙ split) in
          absurd (omega (arith, behind.0, l))
    ]

-- ---- candidates

module _ (mask longest print number : ℕ) (states : List Values) (alphabet : List Instr) (h : longest ≤ 5) where
  printed : (seq : Option (List Instr)) → slice_get (sequences_within longest alphabet) number ≡ seq → option_map (print_after mask states) seq ≡ Some print
      → (seq : List Instr) × (slice_get (sequences_of alphabet) number ≡ Some seq) × (length seq ≤ longest) × (print_after mask states seq ≡ print)
  printed None at e = absurd cc
  printed (Some seq) at e = let w = within_is_sequence longest alphabet number seq h at in (seq, w.0, w.1, same_Some _ _ e)

  pub candidate_is_sequence : Contains (scanned print 0 (prints_within mask states alphabet longest)) number
      → (seq : List Instr) × (slice_get (sequences_of alphabet) number ≡ Some seq) × (length seq ≤ longest) × (print_after mask states seq ≡ print)
  candidate_is_sequence c =
      let k = some_place _ number c in
      let f = found_place print 0 (prints_within mask states alphabet longest) k.0 number k.1 in
      let same : f.0 ≡ number = omega (arith, f.1) in
      printed (slice_get (sequences_within longest alphabet) number) refl
      (sym (slice_get-map (print_after mask states) (sequences_within longest alphabet) number) ∙ subst (λ i. slice_get (prints_within mask states alphabet longest) i ≡ Some print) same f.2)

  pub sequence_is_candidate : ((seq : List Instr) × (slice_get (sequences_of alphabet) number ≡ Some seq) × (length seq ≤ longest) × (print_after mask states seq ≡ print))
      → Contains (scanned print 0 (prints_within mask states alphabet longest)) number
  sequence_is_candidate s =
      let at : slice_get (prints_within mask states alphabet longest) number ≡ Some print =
      slice_get-map (print_after mask states) (sequences_within longest alphabet) number ∙ ap (option_map (print_after mask states)) (sequence_is_within longest alphabet number s.0 h s.1 s.2) ∙ ap (λ x. Some x) s.3 in
      let k = place_found print 0 (prints_within mask states alphabet longest) number at in
      let same : 0 + number ≡ number = omega arith in
      contains_at _ number k.0 (k.1 ∙ ap (λ x. Some x) same)
