-- Reading by the first form that reads a text is the same as reading by any form that does.
use Rattle.std.proofs.Common.{◌≡◌, ◌∙◌, ◌⊎◌, inl, inr, ℕ, zero, suc, List, [], ◌∷◌, ◌++◌, map, Option, Some, None, refl, sym, ap}
use Rattle.std.specs.Prelude.{slice_get}
use Rattle.ascii_scan.specs.Tokens.{Token, word, mark, tokens}
use Rattle.thumb_syntax.specs.Operands.{first_some, or_else, Operand, operand}
use Rattle.thumb_syntax.specs.Rows.{Row, Shown, read_as, read_in, read_all, reading_of, data_rows, memory_rows, control_rows}
use Rattle.thumb_syntax.specs.RowLaws.{rows, by_row, ReadsBySomeRow, RowsAgree}
use Rattle.thumb_syntax.proofs.Overlap.{rows_alike}

pub some_or_none : {B : Type 0} → (o : Option B) → (o ≡ None) ⊎ ((y : B) × (o ≡ Some y))
some_or_none None = inl refl
some_or_none (Some y) = inr (y, refl)

-- the first result is that of some member
first_from : {A B : Type 0} → (f : A → Option B) (xs : List A) (y : B) → first_some f xs ≡ Some y → (k : ℕ) × (x : A) × (slice_get xs k ≡ Some x) × (f x ≡ Some y)
first_from f [] y e = absurd (cc)
first_from f (x ∷ xs) y e = elim (some_or_none (f x)) [
  | inl none ↦ (let r = first_from f xs y (rw none at e) in (suc r.0, r.1, r.2, r.3))
  | inr some ↦ (zero, x, refl, some.1 ∙ (rw some.1 at e))
]

-- where some member has a result, there is a first result
first_any : {A B : Type 0} → (f : A → Option B) (xs : List A) (k : ℕ) (x : A) (y : B) → slice_get xs k ≡ Some x → f x ≡ Some y → (z : B) × (first_some f xs ≡ Some z)
first_any f [] k x y p q = absurd (cc)
first_any f (a ∷ as') zero x y p q = let s : a ≡ x = cc in (y, rw (ap f s ∙ q) refl)
first_any f (a ∷ as') (suc k) x y p q = elim (some_or_none (f a)) [
  | inl none ↦ (let r = first_any f as' k x y p q in (r.0, rw none r.1))
  | inr some ↦ (some.0, rw some.1 refl)
]

first_append : {A B : Type 0} → (f : A → Option B) (xs ys : List A) → first_some f (xs ++ ys) ≡ or_else (first_some f xs) (first_some f ys)
first_append f [] ys = refl
first_append f (x ∷ xs) ys = elim (some_or_none (f x)) [
  | inl none ↦ rw none (first_append f xs ys)
  | inr some ↦ rw some.1 refl
]

pub all_rows : (w : List ℕ) (os : List Operand) → read_all w os ≡ first_some (read_as w os) rows
unfolding rows
all_rows w os =
    ap (or_else (read_in data_rows w os)) (sym (first_append (read_as w os) memory_rows control_rows))
    ∙ sym (first_append (read_as w os) data_rows (memory_rows ++ control_rows))

some_row : (ts : List Token) (s : Shown) → reading_of ts ≡ Some s → (k : ℕ) × (r : Row) × (slice_get rows k ≡ Some r) × (by_row r ts ≡ Some s)
some_row [] s e = absurd (cc)
some_row (mark m ∷ ts) s e = absurd (cc)
some_row (word w ∷ ts) s e = first_from (read_as w (map operand ts)) rows s (sym (all_rows w (map operand ts)) ∙ e)

row_reads : (ts : List Token) (s : Shown) (k : ℕ) (r : Row) → slice_get rows k ≡ Some r → by_row r ts ≡ Some s → reading_of ts ≡ Some s
row_reads [] s k r there e = absurd (cc)
row_reads (mark m ∷ ts) s k r there e = absurd (cc)
row_reads (word w ∷ ts) s k r there e =
    let any = first_any (read_as w (map operand ts)) rows k r s there e in
    let found = first_from (read_as w (map operand ts)) rows any.0 any.1 in
    let same : any.0 ≡ s = rows_alike w (map operand ts) found.0 k found.1 r any.0 s found.2 there found.3 e in
    all_rows w (map operand ts) ∙ any.1 ∙ ap (λ (x : Shown). Some x) same

pub reads_some_row : ReadsBySomeRow
reads_some_row bytes s = (
  (λ e. let r = some_row (tokens bytes) s e in record { place = r.0; row = r.1; is_there = r.2; reads = r.3 }),
  (λ r. row_reads (tokens bytes) s r.place r.row r.is_there r.reads),
)

pub rows_do_agree : RowsAgree
rows_do_agree bytes s t a b =
    let one = row_reads (tokens bytes) s a.place a.row a.is_there a.reads in
    let two = row_reads (tokens bytes) t b.place b.row b.is_there b.reads in
    cc
