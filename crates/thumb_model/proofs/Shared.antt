-- Lemmas about the model that several crates which depend on it use.
use Rattle.std.proofs.Common.{List, None, Option, Some, [], ap, eq-eqb, eqb-true, false, inl, inr, length, map, refl, suc, sym, true, true≢false, ℕ, ◌<◌, ◌==◌, ◌||◌, ◌∙◌, ◌∷◌, ◌≡◌}
use Rattle.std.proofs.lemmas.Bool.{cases_lt, or_right}
use Rattle.std.proofs.lemmas.Option.{slice_get_past, slice_get_within}
use Rattle.std.specs.Prelude.{slice_get}
use Rattle.thumb_instr.specs.Window.{is_in_window}
use Rattle.thumb_instr.specs.declared.instr.Instr.{Instr}
use Rattle.thumb_model.specs.Effect.{one_of}
use Rattle.thumb_model.specs.Flow.{Way, ways, ways_on}
use Rattle.thumb_model.specs.Layout.{aim_fault, fault_at, instr_size, or_first}
use Rattle.thumb_model.specs.Listing.{Aligns, Code, Instruction, Name, Nothing, Place, Sets, Statement, Value, Word, Words, is_op_place}
use Rattle.thumb_instr.specs.declared.instr.Instr.TheVariants as instr

pub two_bytes : (i : Instr) → is_in_window i ≡ true → instr_size i ≡ 2
two_bytes (instr.Mov d m) h = refl
two_bytes i h = cc

pub within : (code : Code) (p k : ℕ) (w : Way) → slice_get (ways code p) k ≡ Some w → p < length code.places
within code p k w e =
    elim (cases_lt p (length code.places)) [
      | inl l ↦ l
      | inr l ↦ absurd (let f : slice_get (ways_on code None) k ≡ Some w = ap (λ (o : Option Place). slice_get (ways_on code o) k) (sym (slice_get_past code.places p l)) ∙ e in cc)
    ]

pub op_within : (places : List Place) (q : ℕ) → is_op_place (slice_get places q) ≡ true → q < length places
op_within places q t = go (slice_get places q) refl where
  go : (o : Option Place) → slice_get places q ≡ o → q < length places
  go None e = absurd (true≢false (sym t ∙ ap is_op_place e))
  go (Some x) e = slice_get_within places q x e

pub words_length : (vs : List Value) → length (map Word vs) ≡ length vs
words_length [] = refl
words_length (v ∷ vs) = ap suc (words_length vs)

pub one_of_map : (to : ℕ → ℕ) (q : ℕ) (xs : List ℕ) → one_of q xs ≡ true → one_of (to q) (map to xs) ≡ true
one_of_map to q [] h = absurd (cc)
one_of_map to q (x ∷ xs) h =
    elim (q == x) as (λ b. (q == x) ≡ b → (b || one_of q xs) ≡ true → ((to q == to x) || one_of (to q) (map to xs)) ≡ true) [
      | true ↦ λ t g. ap (λ b. b || one_of (to q) (map to xs)) (eq-eqb (to q) (to x) (ap to (eqb-true q x t)))
      | false ↦ λ t g. or_right (to q == to x) _ (one_of_map to q xs g)
    ] refl h

pub one_of_unmap : (to : ℕ → ℕ) (r : ℕ) (xs : List ℕ) → one_of r (map to xs) ≡ true → (q : ℕ) × (one_of q xs ≡ true) × (to q ≡ r)
one_of_unmap to r [] h = absurd (cc)
one_of_unmap to r (x ∷ xs) h =
    elim (r == to x) as (λ b. (r == to x) ≡ b → (b || one_of r (map to xs)) ≡ true → (q : ℕ) × (one_of q (x ∷ xs) ≡ true) × (to q ≡ r)) [
      | true ↦ λ t g. (x, ap (λ b. b || one_of x xs) (eq-eqb x x refl), sym (eqb-true r (to x) t))
      | false ↦ λ t g. (let f = one_of_unmap to r xs g in (f.0, or_right (f.0 == x) _ f.1, f.2))
    ] refl h

pub first_none : {A : Type 0} (n : ℕ) (o : Option A) (rest : Option (ℕ × A)) → or_first n o rest ≡ None → (o ≡ None) × (rest ≡ None)
first_none n None rest e = (refl, e)
first_none n (Some f) rest e = absurd (cc)

pub same_fault : (lies other : Name → Option ℕ) → ((name : Name) → lies name ≡ other name) → (at : ℕ) (s : Statement) → fault_at lies at s ≡ fault_at other at s
same_fault lies other e at Nothing = refl
same_fault lies other e at (Instruction i None) = refl
same_fault lies other e at (Instruction i (Some m)) = ap (λ o. aim_fault at i o m.plus) (e m.name)
same_fault lies other e at (Words vs) = refl
same_fault lies other e at (Aligns size most) = refl
same_fault lies other e at (Sets name address) = refl
