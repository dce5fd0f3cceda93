-- How long lines are, and which are left without an instruction.
use Rattle.std.proofs.Common.{◌≡◌, ℕ, ◌+◌, ◌-◌, ◌<◌, ◌≤◌, ◌==◌, ◌&&◌, true, false, not, List, [], ◌∷◌, length, map, get_or, Some, None, refl, sym, ap, ◌∙◌, subst, inl, inr, arith, if◌then◌else◌}
use Rattle.std.specs.Prelude.{option_map, slice_get}
use Rattle.std.specs.List.{prefix_len}
use Rattle.std.proofs.lemmas.Bool.{cases_eq}
use Rattle.std.proofs.lemmas.List.{length-map}
use Rattle.std.proofs.lemmas.Option.{same_Some, slice_get-map, slice_get_read, slice_get_within}
use Rattle.thumb_model.specs.Listing.{ListingLine, places_in}
use Rattle.thumb_model.specs.Replaced.{is_op, are_joined, are_joined_from, replaced_lines}
use Rattle.listing_parser.specs.declared.line.ListingLine.{ListingLine as Lines}
use Rattle.listing_parser.specs.Parsing.{line_mentioning, own_line}
use Rattle.listing_parser.specs.Views.{line_view}
use Rattle.flow_tidy.specs.Tidying.{line_length, lines_without, setting}
use Rattle.flow_tidy.specs.Made.{is_no_newline, AreShort}

-- as many bytes as there are before the first newline
pub length_is : (bs : List ℕ) → prefix_len is_no_newline bs ≡ line_length bs
length_is [] = refl
length_is (b ∷ bs) =
    let rest = length_is bs in
    elim (b == 10) as (λ t. (if not t then 1 + prefix_len is_no_newline bs else 0) ≡ (if t then 0 else line_length bs + 1)) [ true ↦ refl | false ↦ omega arith ]

-- ---- lines as they are read ----

-- what is read of lines at an index
pub read_line : (ls : List Lines) (i : ℕ) (l : Lines) → i < length ls → l ≡ get_or ls i l → slice_get (map line_view ls) i ≡ Some (line_view l)
read_line ls i l h e = slice_get-map line_view ls i ∙ ap (option_map line_view) (slice_get_read ls (length ls) i l refl h e)

-- one more line is short
pub one_more_short : (longest : ℕ) (ls : List ListingLine) (i : ℕ) (l : ListingLine) → ((k : ℕ) (m : ListingLine) → k < i → slice_get ls k ≡ Some m → line_length m.text ≤ longest)
    → slice_get ls i ≡ Some l → line_length l.text ≤ longest → (k : ℕ) (m : ListingLine) → k < i + 1 → slice_get ls k ≡ Some m → line_length m.text ≤ longest
one_more_short longest ls i l h e s k m b f = elim (cases_eq k i) [
  | inl same ↦ (
      let g : Some l ≡ Some m = sym e ∙ ap (slice_get ls) (sym same) ∙ f in
      let is : l ≡ m = same_Some l m g in
      subst (λ (x : ListingLine). line_length x.text ≤ longest) is s)
  | inr ne ↦ h k m (omega arith) f
]

-- all lines are short
pub all_short : (longest : ℕ) (ls : List ListingLine) (i : ℕ) → length ls ≤ i → ((k : ℕ) (m : ListingLine) → k < i → slice_get ls k ≡ Some m → line_length m.text ≤ longest) → AreShort longest ls
all_short longest ls i b h k m e = let w = slice_get_within ls k m e in h k m (omega arith) e

pub as_many_lines : (ls : List Lines) → length (map line_view ls) ≡ length ls
as_many_lines ls = length-map ls line_view

-- ---- the lines without one instruction ----

pub joined_one : (p : ℕ) (ls : List ListingLine) → are_joined_from p 1 ls ≡ true
joined_one p [] = refl
joined_one p (l ∷ ls) =
    let rest = joined_one (p - length (places_in l.statement)) ls in
    elim (is_op l.statement && (p == 0)) as (λ b. (if b then are_joined (1 - 1) ls else are_joined_from (p - length (places_in l.statement)) 1 ls) ≡ true) [ true ↦ refl | false ↦ rest ]

-- without new instructions nothing is written
same_write : own_line ≡ (λ i. line_mentioning i None)
unfolding own_line line_mentioning
same_write = refl

pub without_one : (base p : ℕ) (ls : List ListingLine) → replaced_lines own_line p 1 [] ls ≡ lines_without (setting base) p ls
without_one base p ls = ap (λ write. replaced_lines write p 1 [] ls) same_write
