-- Printing the lines that were read gives the text that was read.
use Rattle.std.proofs.Common.{◌≡◌, ◌∙◌, inl, inr, ℕ, ◌-◌, ◌||◌, false, List, [], ◌∷◌, ◌++◌, map, length, refl, sym, ap, Option, Some, None, Result, Ok, Err, option_map}
use Rattle.std.specs.Prelude.{nat_lt}
use Rattle.std.specs.List.{flat_map}
use Rattle.std.proofs.lemmas.Bool.{cases_Bool}
use Rattle.ascii_scan.specs.Lines.{Placed, lines_in, whole}
use Rattle.ascii_scan.proofs.LineLemmas.{lines_join_whole}
use Rattle.thumb_model.specs.Listing.{Name, ListingLine}
use Rattle.listing_parser.specs.declared.errors.ListingFault.{ListingFault}
use Rattle.listing_parser.specs.declared.errors.ListingFault.TheVariants as kind
use Rattle.listing_parser.specs.Grammar.{front_of, Bare, Read, body, code, labels_at_front, read_line, shaped, checked_line, with_first, read_lines, bare, most_lines}
use Rattle.listing_parser.specs.Directives.{Told, statement}
use Rattle.listing_parser.specs.Parsing.{text_of_lines}
use Rattle.listing_parser.specs.Verdicts.{PrintsBack}

-- what is known of a line that was read
pub record OfLine (l : Placed) (r : Read) : Type 0 where
  pub told : Told
  pub is_told : statement (labels_at_front (code (body l))).1 ≡ Some told
  pub said : r.line.said ≡ told.said
  pub mark : r.mark ≡ told.mark
  pub text : r.line.text ≡ whole l

labelled_by : (l : Placed) (n : ℕ) (labelled : List Name × List ℕ) (o : Option Told) (r : Read) → labelled ≡ labels_at_front (code (body l)) → statement labelled.1 ≡ o
    → option_map (λ (t : Told). (let x : Read = record { line = record { names = labelled.0; said = t.said; text = whole l; front = front_of labelled.0 (n - length labelled.1) (whole l) }; mark = t.mark } in x)) o ≡ Some r
    → OfLine l r
labelled_by l n labelled None r same e f = absurd (let bad : None ≡ Some r = f in cc)
labelled_by l n labelled (Some t) r same e f =
    let read : Read = record { line = record { names = labelled.0; said = t.said; text = whole l; front = front_of labelled.0 (n - length labelled.1) (whole l) }; mark = t.mark } in
    let both : Some read ≡ Some r = f in
    let is : read ≡ r = cc in
    record {
      told = t;
      is_told = ap (λ (x : List Name × List ℕ). statement x.1) (sym same) ∙ e;
      said = sym (ap (λ (x : Read). x.line.said) is);
      mark = sym (ap (λ (x : Read). x.mark) is);
      text = sym (ap (λ (x : Read). x.line.text) is);
    }

pub of_read : (l : Placed) (r : Read) → read_line l ≡ Some r → OfLine l r
unfolding read_line
of_read l r e = labelled_by l (length (code (body l))) (labels_at_front (code (body l))) (statement (labels_at_front (code (body l))).1) r refl refl e

pub shaped_ok : (n : ℕ) (o : Option Read) (r : Read) → shaped n o ≡ Ok r → o ≡ Some r
shaped_ok n None r e = absurd (let bad : Err (n, kind.Shape) ≡ Ok r = e in cc)
shaped_ok n (Some x) r e = let same : Ok x ≡ Ok r = e in let is : x ≡ r = cc in ap (λ y. Some y) is

pub record OfChecked (l : Placed) (r : Read) : Type 0 where
  pub within : (nat_lt most_lines l.number || nat_lt 1024 (length l.text)) ≡ false
  pub line : OfLine l r

pub of_checked : (l : Placed) (r : Read) → checked_line l ≡ Ok r → OfChecked l r
unfolding checked_line
of_checked l r e = elim (cases_Bool (nat_lt most_lines l.number || nat_lt 1024 (length l.text))) [
  | inl h ↦ absurd (let bad : Err (l.number, kind.Limit) ≡ Ok r = rw h at e in cc)
  | inr h ↦ record { within = h; line = of_read l r (shaped_ok l.number (read_line l) r (rw h at e)) }
]

-- the first of lines that were read, and the others
pub record Cut (l : Placed) (ls : List Placed) (rs : List Read) : Type 0 where
  pub first : Read
  pub others : List Read
  pub is : rs ≡ first ∷ others
  pub checked : checked_line l ≡ Ok first
  pub read : read_lines ls ≡ Ok others

cut_by : (l : Placed) (ls : List Placed) (rs : List Read) (a : Result Read (ℕ × ListingFault)) (b : Result (List Read) (ℕ × ListingFault)) → checked_line l ≡ a → read_lines ls ≡ b → with_first a b ≡ Ok rs → Cut l ls rs
cut_by l ls rs (Err x) b e f g = absurd (let bad : Err x ≡ Ok rs = g in cc)
cut_by l ls rs (Ok r) (Err x) e f g = absurd (let bad : Err x ≡ Ok rs = g in cc)
cut_by l ls rs (Ok r) (Ok xs) e f g =
    let both : Ok (r ∷ xs) ≡ Ok rs = g in
    let is : r ∷ xs ≡ rs = cc in
    record { first = r; others = xs; is = sym is; checked = e; read = f }

pub cut : (l : Placed) (ls : List Placed) (rs : List Read) → read_lines (l ∷ ls) ≡ Ok rs → Cut l ls rs
unfolding read_lines
cut l ls rs e = cut_by l ls rs (checked_line l) (read_lines ls) refl refl e

pub none_read : (rs : List Read) → read_lines [] ≡ Ok rs → rs ≡ []
unfolding read_lines
none_read rs e = let same : Ok [] ≡ Ok rs = e in let is : [] ≡ rs = cc in sym is

texts_read : (ls : List Placed) (rs : List Read) → read_lines ls ≡ Ok rs → flat_map (λ (r : Read). r.line.text) rs ≡ flat_map whole ls
texts_read [] rs e = ap (flat_map (λ (r : Read). r.line.text)) (none_read rs e)
texts_read (l ∷ ls) rs e =
    let c = cut l ls rs e in
    ap (flat_map (λ (r : Read). r.line.text)) c.is
    ∙ ap (λ (w : List ℕ). w ++ flat_map (λ (r : Read). r.line.text) c.others) (of_checked l c.first c.checked).line.text
    ∙ ap (λ (w : List ℕ). whole l ++ w) (texts_read ls c.others c.read)

texts_of : (rs : List Read) (bs : List Bare) → map (λ (r : Read). r.line) rs ≡ bs → flat_map (λ (r : Read). r.line.text) rs ≡ flat_map (λ (b : Bare). b.text) bs
texts_of [] bs e = ap (flat_map (λ (b : Bare). b.text)) e
texts_of (r ∷ rs) bs e = ap (λ (w : List ℕ). r.line.text ++ w) (texts_of rs (map (λ (r : Read). r.line) rs) refl) ∙ ap (flat_map (λ (b : Bare). b.text)) e

texts_bare : (ls : List ListingLine) → flat_map (λ (b : Bare). b.text) (map bare ls) ≡ text_of_lines ls
texts_bare [] = refl
texts_bare (l ∷ ls) = ap (λ (w : List ℕ). l.text ++ w) (texts_bare ls)

pub prints_back : PrintsBack
prints_back bytes lines h =
    sym (texts_bare lines)
    ∙ sym (texts_of h.reads (map bare lines) h.are.same)
    ∙ texts_read (lines_in bytes) h.reads h.are.read
    ∙ (lines_join_whole bytes).1
