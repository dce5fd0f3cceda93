-- Decimal numerals as they are read.
use Rattle.std.proofs.Common.{◌≡◌, ℕ, ◌<◌, ◌^◌, true, false, List, sym, ◌∙◌, ap, subst, Result, Ok, Err}
use Rattle.std.specs.Prelude.{decimal}
use Rattle.std.specs.Str.{IsUtf8}
use Rattle.std.specs.Str.Parse.{ParsesUnsigned}
use Rattle.std.proofs.lemmas.Bool.{false≢true}
use Rattle.std.proofs.lemmas.Str.{IsUtf8-from_ascii}
use Rattle.std.proofs.lemmas.Fmt.{IsAscii-decimal, parse-decimal, decimal_injective}

module _ (n : ℕ) (h : n < 2 ^ 64) (bs : List ℕ) (e : decimal n ≡ bs) where
  pub numeral_is_text : IsUtf8 bs
  numeral_is_text = subst IsUtf8 e (IsUtf8-from_ascii (decimal n) (IsAscii-decimal n h))

  pub numeral_parses : {E : Type 0} (r : Result ℕ E) → ParsesUnsigned 64 10 bs r → r ≡ Ok n
  numeral_parses {E} r p = parse-decimal 64 n bs r h h (sym e) p

pub numeral_unread : {E : Type 0} (r : Result ℕ E) (x : E) (n : ℕ) → r ≡ Err x → r ≡ Ok n → ⊥
numeral_unread r x n d e = cc

-- bytes that are parsed as a number whose numeral they aren't are no numeral
pub numeral_misread : {E : Type 0} (r : Result ℕ E) (m n : ℕ) (bs : List ℕ) → r ≡ Ok m → r ≡ Ok n → decimal n ≡ bs → (decimal m ≡ bs → false ≡ true) → ⊥
numeral_misread r m n bs d e f g =
    let same : n ≡ m = cc in
    false≢true (g (ap decimal (sym same) ∙ f))

pub same_numeral : (m n : ℕ) (bs : List ℕ) → m < 2 ^ 64 → n < 2 ^ 64 → decimal m ≡ bs → decimal n ≡ bs → m ≡ n
same_numeral m n bs h k d e = decimal_injective m n h k (d ∙ sym e)
