-- Searching only the registers with a word's second byte finds what a search of all registers finds.
use Rattle.std.proofs.Common.{◌≡◌, ◌∙◌, inl, inr, ℕ, zero, suc, ◌%◌, ◌<◌, ◌==◌, true, List, [], ◌∷◌, map, Option, ◌+◌, get_or, slice_index_or, arith, refl, sym, ap, eq-eqb}
use Rattle.std.specs.Borrow.{Bor}
use Rattle.std.specs.List.{filter}
use Rattle.std.specs.Char.{to_ascii_lowercase}
use Rattle.std.proofs.lemmas.Bool.{cases_Bool}
use Rattle.std.proofs.lemmas.List.FromFn.{get_or-map-range_with_len}
use Rattle.ascii_scan.specs.Names.{is_spelled, registers}
use Rattle.thumb_syntax.specs.declared.registers.Register.{Register}
use Rattle.thumb_syntax.specs.Operands.{register_named, register_in}
use Rattle.thumb_syntax.specs.RegisterView.{named}
use Rattle.thumb_syntax.specs.RegisterPlaces.{named_at, registers_at, registers_by_place, second_place}
use Rattle.thumb_syntax.proofs.Spelled.{lowered_alike, lowered_place}

same_second : (w n : List ℕ) → map to_ascii_lowercase w ≡ map to_ascii_lowercase n → second_place w ≡ second_place n
same_second [] [] e = refl
same_second [] (c ∷ cs) e = absurd (cc)
same_second (b ∷ bs) [] e = absurd (cc)
same_second (a ∷ []) (c ∷ []) e = refl
same_second (a ∷ []) (c ∷ d ∷ ds) e = absurd (cc)
same_second (a ∷ b ∷ bs) (c ∷ []) e = absurd (cc)
same_second (a ∷ b ∷ bs) (c ∷ d ∷ ds) e =
    let second : to_ascii_lowercase b ≡ to_ascii_lowercase d = cc in
    sym (lowered_place b) ∙ ap (λ (x : ℕ). x % 32) second ∙ lowered_place d

found_at_place : (w : List ℕ) (rs : List (List ℕ × ℕ)) → register_in (filter (λ r. second_place r.0 == second_place w) rs) w ≡ register_in rs w
found_at_place w [] = refl
found_at_place w (r ∷ rs) = elim (cases_Bool (is_spelled w r.0)) [
  | inl spelled ↦ (
      let at : (second_place r.0 == second_place w) ≡ true = eq-eqb _ _ (sym (same_second w r.0 (lowered_alike w r.0 spelled))) in
      rw (at, spelled) refl)
  | inr other ↦ elim (cases_Bool (second_place r.0 == second_place w)) [
    | inl at ↦ rw (at, other) (found_at_place w rs)
    | inr away ↦ rw (away, other) (found_at_place w rs)
  ]
]

named_there : (ms : List (Bor (List Register))) (i : ℕ) → map named (slice_index_or ms i (record { ref_ptr = (0, 0); now = [] })).now ≡ get_or (named_at ms) i []
named_there [] i = refl
named_there (m ∷ ms) zero = refl
named_there (m ∷ ms) (suc i) = named_there ms i

pub found_there : (w : List ℕ) (found : Option ℕ) (ms : List (Bor (List Register))) (i : ℕ) → named_at ms ≡ registers_by_place → i ≡ second_place w → i < 32
    → found ≡ register_in (map named (slice_index_or ms i (record { ref_ptr = (0, 0); now = [] })).now) w
    → found ≡ register_named w
unfolding register_named
found_there w found ms i all at within by =
    let same : 0 + i ≡ i = omega arith in
    let there : map named (slice_index_or ms i (record { ref_ptr = (0, 0); now = [] })).now ≡ registers_at (second_place w) =
    named_there ms i ∙ ap (λ (rs : List (List (List ℕ × ℕ))). get_or rs i []) all ∙ get_or-map-range_with_len registers_at 0 32 i (second_place w) [] within (same ∙ at) in
    by ∙ ap (λ (rs : List (List ℕ × ℕ)). register_in rs w) there ∙ found_at_place w registers
