-- A text that is refused as one of a kind isn't of that kind, and it is refused at one line only.
use Rattle.std.proofs.Common.{◌≡◌, ◌∙◌, ℕ, ◌≤◌, List, [], ◌∷◌, ◌++◌, length, sym, ap, subst, arith, append_assoc, append-nil}
use Rattle.ascii_scan.specs.Lines.{lines_of}
use Rattle.ascii_scan.specs.Refused.{Begins, Stops, IsRefused}

module _ (IsOf : List ℕ → Type 0) where
  pub not_both : (bytes : List ℕ) (n : ℕ) → IsOf bytes → IsRefused IsOf bytes n → ⊥
  not_both bytes n text r = by r.rest r.split r.stops
    where
      by : (rest : List (List ℕ)) → lines_of bytes ≡ r.before ++ rest → Stops IsOf r.before rest → ⊥
      by [] e stops = stops bytes text (e ∙ append-nil r.before)
      by (l ∷ rest) e stops = stops (record { bytes = bytes; text = text; rest = rest; whole = e ∙ sym (append_assoc r.before (l ∷ []) rest) })

  -- if a text of the kind begins with some lines, it begins with any prefix of them
  fewer : (xs ys : List (List ℕ)) → Begins IsOf (xs ++ ys) → Begins IsOf xs
  fewer xs ys b = record { bytes = b.bytes; text = b.text; rest = ys ++ b.rest; whole = b.whole ∙ append_assoc xs ys b.rest }

  -- no text of the kind begins with more lines than those before a stop
  no_longer : (seen xs ys us vs : List (List ℕ)) → xs ++ us ≡ ys ++ vs → Stops IsOf (seen ++ xs) us → Begins IsOf (seen ++ ys) → length ys ≤ length xs
  no_longer seen [] [] us vs e stops b = omega arith
  no_longer seen [] (y ∷ ys) us vs e stops b =
      let S : List (List ℕ) → Type 0 = λ w. Stops IsOf (seen ++ []) w in
      let never : Begins IsOf ((seen ++ []) ++ y ∷ []) → ⊥ = subst S e stops in
      let one : Begins IsOf (seen ++ y ∷ []) = fewer (seen ++ y ∷ []) ys (subst (Begins IsOf) (sym (append_assoc seen (y ∷ []) ys)) b) in
      absurd (never (subst (Begins IsOf) (ap (λ w. w ++ y ∷ []) (sym (append-nil seen))) one))
  no_longer seen (x ∷ xs) [] us vs e stops b = omega arith
  no_longer seen (x ∷ xs) (y ∷ ys) us vs e stops b =
      let first : y ≡ x = cc in
      let tail : xs ++ us ≡ ys ++ vs = cc in
      let S : List (List ℕ) → Type 0 = λ w. Stops IsOf w us in
      let next = no_longer (seen ++ x ∷ []) xs ys us vs tail (subst S (sym (append_assoc seen (x ∷ []) xs)) stops)
      (subst (Begins IsOf) (ap (λ w. seen ++ w ∷ ys) first ∙ sym (append_assoc seen (x ∷ []) ys)) b) in
      omega (arith, next)

  pub refused_once : (bytes : List ℕ) (n m : ℕ) → IsRefused IsOf bytes n → IsRefused IsOf bytes m → n ≡ m
  refused_once bytes n m a b =
      let e = sym a.split ∙ b.split in
      let less = no_longer [] a.before b.before a.rest b.rest e a.stops b.begins in
      let more = no_longer [] b.before a.before b.rest a.rest (sym e) b.stops a.begins in
      omega (arith, less, more, a.count, b.count)
