-- Lines that are joined are split again, and each is read as it was.
use Rattle.std.proofs.Common.{◌≡◌, ◌∙◌, ◌⊎◌, inl, inr, ℕ, ◌+◌, ◌≤◌, ◌==◌, ◌||◌, true, false, List, [], ◌∷◌, ◌++◌, length, map, refl, sym, ap, arith, true≢false, Some, Result, Ok, Err, append-nil, subst}
use Rattle.std.specs.Prelude.{nat_lt}
use Rattle.std.specs.List.{list_all}
use Rattle.std.proofs.lemmas.Bool.{cases_Bool, ltb-false, or_parts}
use Rattle.ascii_scan.specs.Lines.{Placed, lines_of, onto_first, placed, placed_from}
use Rattle.ascii_scan.specs.FirstLine.{is_inside}
use Rattle.ascii_scan.proofs.LineLemmas.{lines_nil, lines_newline, lines_other}
use Rattle.thumb_model.specs.Listing.{ListingLine}
use Rattle.listing_parser.specs.declared.errors.ListingFault.{ListingFault}
use Rattle.listing_parser.specs.declared.errors.ListingFault.TheVariants as kind
use Rattle.listing_parser.specs.Grammar.{Bare, Read, read_line, checked_line, with_first, read_lines, bare, most_lines}
use Rattle.listing_parser.specs.Parsing.{text_of_lines}
use Rattle.listing_parser.proofs.PrintLemmas.{shaped_ok}
use Rattle.listing_parser.proofs.CanonicalLines.{read_checked}

-- ---- splitting ----

-- a line whose last byte is its only newline, and one without a newline
pub record Ends (t : List ℕ) : Type 0 where
  pub next : (bs : List ℕ) → lines_of (t ++ bs) ≡ t ∷ lines_of bs

pub record IsOpen (t : List ℕ) : Type 0 where
  pub alone : lines_of t ≡ t ∷ []

-- each line but the last is closed
unfoldable pub AreEnded : List (List ℕ) → Type 0
AreEnded [] = Unit {0}
AreEnded (t ∷ ts) = (Ends t ⊎ ((ts ≡ []) × IsOpen t)) × AreEnded ts

newline_ends : (b : ℕ) → (b == 10) ≡ true → Ends (b ∷ [])
newline_ends b e = record { next = λ bs. lines_newline b bs e }

other_ends : (b : ℕ) (t : List ℕ) → (b == 10) ≡ false → Ends t → Ends (b ∷ t)
other_ends b t e c = record { next = λ bs. lines_other b (t ++ bs) e ∙ ap (onto_first b) (c.next bs) }

pub inside_ends : (t : List ℕ) → list_all is_inside t ≡ true → Ends (t ++ 10 ∷ [])
inside_ends [] all = newline_ends 10 refl
inside_ends (b ∷ bs) all = elim (cases_Bool (b == 10)) [
  | inl h ↦ absurd (true≢false (sym (rw h at all)))
  | inr h ↦ other_ends b (bs ++ 10 ∷ []) h (inside_ends bs (rw h at all))
]

ended_onto : (b : ℕ) (ts : List (List ℕ)) → (b == 10) ≡ false → AreEnded ts → AreEnded (onto_first b ts)
unfolding AreEnded
ended_onto b [] e h = (inr (refl, record { alone = lines_other b [] e ∙ ap (onto_first b) lines_nil }), tt)
ended_onto b (t ∷ ts) e (inl c, more) = (inl (other_ends b t e c), more)
ended_onto b (t ∷ ts) e (inr o, more) = (inr (o.0, record { alone = lines_other b t e ∙ ap (onto_first b) o.1.alone }), more)

pub text_ended : (bytes : List ℕ) → AreEnded (lines_of bytes)
unfolding AreEnded
text_ended [] = subst AreEnded (sym lines_nil) tt
text_ended (b ∷ bs) = elim (cases_Bool (b == 10)) [
  | inl h ↦ subst AreEnded (sym (lines_newline b bs h)) (inl (newline_ends b h), text_ended bs)
  | inr h ↦ subst AreEnded (sym (lines_other b bs h)) (ended_onto b (lines_of bs) h (text_ended bs))
]

-- the texts of lines
abbrev pub text : ListingLine → List ℕ
text l = l.text

pub joined_split : (ls : List ListingLine) → AreEnded (map text ls) → lines_of (text_of_lines ls) ≡ map text ls
unfolding AreEnded
joined_split [] h = lines_nil
joined_split (l ∷ ls) (inl c, more) = c.next (text_of_lines ls) ∙ ap (λ (ts : List (List ℕ)). l.text ∷ ts) (joined_split ls more)
joined_split (l ∷ []) (inr o, more) = ap lines_of (append-nil l.text) ∙ o.1.alone
joined_split (l ∷ m ∷ ls) (inr o, more) = absurd (let bad : map text (m ∷ ls) ≡ [] = o.0 in cc)

-- ---- lines by their texts alone ----

pub checked_parts : (l : Placed) (r : Read) → checked_line l ≡ Ok r → (length l.text ≤ 1024) × (read_line l ≡ Some r)
unfolding checked_line
checked_parts l r e = elim (cases_Bool (nat_lt most_lines l.number || nat_lt 1024 (length l.text))) [
  | inl h ↦ absurd (let bad : Err (l.number, kind.Limit) ≡ Ok r = rw h at e in cc)
  | inr h ↦ (ltb-false 1024 (length l.text) (or_parts (nat_lt most_lines l.number) (nat_lt 1024 (length l.text)) h).1, shaped_ok l.number (read_line l) r (rw h at e))
]

-- where a line stands doesn't matter
anywhere : (t : List ℕ) (n start m begin : ℕ) → read_line (placed n start t) ≡ read_line (placed m begin t)
unfolding read_line
anywhere t n start m begin = refl

-- the text is read as this at each place, with few enough lines before it
unfoldable pub ReadsAs : List ℕ → Read → Type 0
ReadsAs t r = (n start : ℕ) → n ≤ most_lines → checked_line (placed n start t) ≡ Ok r

pub reads_anywhere : (t : List ℕ) (r : Read) (n start : ℕ) → checked_line (placed n start t) ≡ Ok r → ReadsAs t r
unfolding ReadsAs
reads_anywhere t r n start e m begin few =
    let parts = checked_parts (placed n start t) r e in
    read_checked (placed m begin t) r few parts.0 (anywhere t m begin n start ∙ parts.1)

-- ---- all lines ----

-- the line is read as this
pub record IsRead (l : ListingLine) (r : Read) : Type 0 where
  pub same : r.line ≡ bare l
  pub reads : ReadsAs l.text r

unfoldable pub AreRead : List ListingLine → List Read → Type 0
AreRead [] [] = Unit {0}
AreRead [] (r ∷ rs) = ⊥
AreRead (l ∷ ls) [] = ⊥
AreRead (l ∷ ls) (r ∷ rs) = IsRead l r × AreRead ls rs

pub all_same : (ls : List ListingLine) (rs : List Read) → AreRead ls rs → map (λ (r : Read). r.line) rs ≡ map bare ls
unfolding AreRead
all_same [] [] h = refl
all_same [] (r ∷ rs) h = absurd h
all_same (l ∷ ls) [] h = absurd h
all_same (l ∷ ls) (r ∷ rs) h = cons_same r.line (bare l) _ _ h.0.same (all_same ls rs h.1) where
  cons_same : (a b : Bare) (xs ys : List Bare) → a ≡ b → xs ≡ ys → a ∷ xs ≡ b ∷ ys
  cons_same a b xs ys e f = cc

read_more : (l : Placed) (ls : List Placed) (r : Read) (rs : List Read) → checked_line l ≡ Ok r → read_lines ls ≡ Ok rs → read_lines (l ∷ ls) ≡ Ok (r ∷ rs)
unfolding read_lines
read_more l ls r rs e f = ap (λ (x : Result Read (ℕ × ListingFault)). with_first x (read_lines ls)) e ∙ ap (with_first (Ok r)) f

read_nothing : read_lines [] ≡ Ok []
unfolding read_lines
read_nothing = refl

pub all_read : (ls : List ListingLine) (rs : List Read) (n start : ℕ) → AreRead ls rs → n + length ls ≤ most_lines + 1 → read_lines (placed_from n start (map text ls)) ≡ Ok rs
unfolding AreRead ReadsAs
all_read [] [] n start h few = read_nothing
all_read [] (r ∷ rs) n start h few = absurd h
all_read (l ∷ ls) [] n start h few = absurd h
all_read (l ∷ ls) (r ∷ rs) n start h few =
    read_more (placed n start l.text) (placed_from (n + 1) (start + length l.text) (map text ls)) r rs
    (h.0.reads n start (omega arith))
    (all_read ls rs (n + 1) (start + length l.text) h.1 (omega arith))
