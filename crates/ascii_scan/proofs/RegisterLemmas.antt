-- A register's name has at most three bytes, so that longer words needn't be compared with the names.
use Rattle.std.proofs.Common.{◌≡◌, ◌∙◌, inl, inr, ℕ, ◌<◌, true, false, List, [], ◌∷◌, map, length, refl, sym, ap, true≢false}
use Rattle.std.specs.Prelude.{nat_le}
use Rattle.std.specs.List.{list_all, list_any}
use Rattle.std.specs.Char.{to_ascii_lowercase}
use Rattle.std.proofs.lemmas.Bool.{cases_Bool, lt-leb}
use Rattle.std.proofs.lemmas.List.{length-map}
use Rattle.std.proofs.lemmas.Slice.Eq.{bytes_eq-Decides}
use Rattle.ascii_scan.specs.Names.{is_register, is_spelled, register_names}

same_length : (w n : List ℕ) → is_spelled w n ≡ true → length w ≡ length n
same_length w n e =
    sym (length-map w to_ascii_lowercase) ∙ ap (λ (x : List ℕ). length x) ((bytes_eq-Decides (map to_ascii_lowercase w) (map to_ascii_lowercase n)).0 e) ∙ length-map n to_ascii_lowercase

none_longer : (w : List ℕ) (ns : List (List ℕ)) → list_all (λ n. nat_le (length n) 3) ns ≡ true → nat_le (length w) 3 ≡ false → list_any (is_spelled w) ns ≡ false
none_longer w [] all long = refl
none_longer w (n ∷ ns) all long = elim (cases_Bool (is_spelled w n)) [
  | inl spelled ↦ (
      let longer : nat_le (length n) 3 ≡ false = rw (same_length w n spelled) at long in
      absurd (true≢false (sym (rw longer at all))))
  | inr other ↦ elim (cases_Bool (nat_le (length n) 3)) [
    | inl short ↦ rw other (none_longer w ns (rw short at all) long)
    | inr longer ↦ absurd (true≢false (sym (rw longer at all)))
  ]
]

all_short : list_all (λ n. nat_le (length n) 3) register_names ≡ true
unfolding register_names
all_short = refl

pub no_long_register : (w : List ℕ) → 3 < length w → is_register w ≡ false
no_long_register w long = none_longer w register_names all_short (lt-leb (length w) 3 long)
