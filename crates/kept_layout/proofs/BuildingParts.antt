-- Lines cut into parts: joined they are the lines, and the part of a label is that in which its line stands.
use Rattle.std.proofs.Common.{◌≡◌, ◌∙◌, inl, inr, ℕ, zero, suc, ◌+◌, ◌<◌, ◌||◌, true, false, List, [], ◌∷◌, ◌++◌, length, map, get_or, Option, Some, None, refl, sym, ap, arith, true≢false}
use Rattle.std.specs.Prelude.{not}
use Rattle.std.proofs.lemmas.Bool.{cases_Bool, not-false}
use Rattle.thumb_model.specs.Listing.{Name, Statement, Nothing, Instruction, Words, Aligns, Sets, ListingLine}
use Rattle.thumb_model.specs.Layout.{cleared, is_among, set_address}
use Rattle.window_runs.specs.Rows.{is_unlabelled}
use Rattle.listing_parser.specs.TableWords.{label_line}
use Rattle.listing_parser.proofs.LabelLemmas.{labelled}
use Rattle.kept_layout.specs.declared.block.NameLocation.{NameLocation}
use Rattle.kept_layout.specs.declared.block.NameLocation.TheVariants as location
use Rattle.kept_layout.specs.declared.block.Head.TheVariants as head
use Rattle.kept_layout.specs.Kept.{is_fixed, begins, AreBare, AllBegin, AreCut, AreFootprintsOf, first_head, first_names, behind_first, head_of, joined, part_of, target_at}
use Rattle.kept_layout.specs.Cutting.{front_part, later_parts, parts_of, number_at, numbers_from, lies_at, part_footprint, part_footprints}

-- ---- the lines of parts ----

pub bare_line : (names : List Name) (s : Statement) → (not (is_unlabelled names) || not (is_fixed s)) ≡ false → (names ≡ []) × (is_fixed s ≡ true)
bare_line [] s e = (refl, not-false (is_fixed s) e)
bare_line (n ∷ ns) s e = absurd (true≢false e)

pub parts_joined : (ls : List ListingLine) → front_part ls ++ joined (later_parts ls) ≡ ls
parts_joined [] = refl
parts_joined (l ∷ ls) = elim (cases_Bool (begins l)) [
  | inl h ↦ rw h (ap (λ x. l ∷ x) (parts_joined ls))
  | inr h ↦ rw h (ap (λ x. l ∷ x) (parts_joined ls))
]

pub front_bare : (ls : List ListingLine) → AreBare (front_part ls)
front_bare [] = tt
front_bare (l ∷ ls) = elim (cases_Bool (begins l)) [
  | inl h ↦ rw h tt
  | inr h ↦ let b = bare_line l.names l.statement h in rw h (b.0, b.1, front_bare ls)
]

later_begin : (ls : List ListingLine) → AllBegin (later_parts ls)
later_begin [] = tt
later_begin (l ∷ ls) = elim (cases_Bool (begins l)) [
  | inl h ↦ rw h (h, later_begin ls)
  | inr h ↦ rw h (later_begin ls)
]

pub bare_behind : (ls : List ListingLine) → AreBare ls → AreBare (behind_first ls)
bare_behind [] b = tt
bare_behind (l ∷ ls) b = b.2

later_footprints : (find : Name → Option NameLocation) (ls : List ListingLine) → AreFootprintsOf find (later_parts ls) (map (part_footprint find) (later_parts ls))
later_footprints find [] = tt
later_footprints find (l ∷ ls) = elim (cases_Bool (begins l)) [
  | inl h ↦ rw h (record { head = refl; bare = front_bare ls; bytes = refl; places = refl }, later_footprints find ls)
  | inr h ↦ rw h (later_footprints find ls)
]

-- the parts have these footprints
pub are_cut : (ls : List ListingLine) → AreCut ls (part_footprints ls)
are_cut ls = record {
  parts = parts_of ls;
  is = sym (parts_joined ls);
  footprints_are = (record { head = refl; bare = bare_behind (front_part ls) (front_bare ls); bytes = refl; places = refl }, later_footprints (lies_at ls) ls);
  begin = later_begin ls;
}

-- ---- what lines without labels begin with ----

pub fixed_plain : (find : Name → Option NameLocation) (s : Statement) → is_fixed s ≡ true → head_of find s ≡ head.Plain
fixed_plain find Nothing e = refl
fixed_plain find (Instruction i None) e = refl
fixed_plain find (Instruction i (Some m)) e = absurd (true≢false (sym e))
fixed_plain find (Words vs) e = refl
fixed_plain find (Aligns size most) e = absurd (true≢false (sym e))
fixed_plain find (Sets name address) e = refl

pub bare_plain : (find : Name → Option NameLocation) (p : List ListingLine) → AreBare p → first_head find p ≡ head.Plain
bare_plain find [] b = refl
bare_plain find (l ∷ ls) b = fixed_plain find l.statement b.1

no_first_names : (name : Name) (p : List ListingLine) → AreBare p → is_among name (first_names p) ≡ false
no_first_names name [] b = refl
no_first_names name (l ∷ ls) b = rw b.0 refl

-- ---- the parts of labels ----

no_names : (name : Name) (l : ListingLine) → begins l ≡ false → is_among name l.names ≡ false
no_names name l h = rw (bare_line l.names l.statement h).0 refl

-- the number of a label's part is that of its line
part_at : (name : Name) (n i m k other : ℕ) (ls : List ListingLine) → label_line name i ls ≡ Some m → i + k ≡ m → part_of name (n + 1) (later_parts ls) ≡ Some (get_or (numbers_from n ls) k other)
part_at name n i m k other [] e h = absurd (let bad : None ≡ Some m = e in cc)
part_at name n i m zero other (l ∷ ls) e h = elim (cases_Bool (is_among name l.names)) [
  | inl a ↦ elim (cases_Bool (begins l)) [
    | inl b ↦ rw (b, a) refl
    | inr b ↦ absurd (true≢false (sym a ∙ no_names name l b))
  ]
  | inr a ↦ absurd (let next = labelled name (i + 1) m 0 ls (rw a at e) in omega (arith, next.at))
]
part_at name n i m (suc k) other (l ∷ ls) e h = elim (cases_Bool (is_among name l.names)) [
  | inl a ↦ absurd (let same : Some i ≡ Some m = rw a at e in let is : i ≡ m = cc in omega arith)
  | inr a ↦ elim (cases_Bool (begins l)) [
    | inl b ↦ rw (b, a) (part_at name (n + 1) (i + 1) m k other ls (rw a at e) (omega arith))
    | inr b ↦ rw b (part_at name n (i + 1) m k other ls (rw a at e) (omega arith))
  ]
]

no_part : (name : Name) (n i : ℕ) (ls : List ListingLine) → label_line name i ls ≡ None → part_of name n (later_parts ls) ≡ None
no_part name n i [] e = refl
no_part name n i (l ∷ ls) e = elim (cases_Bool (is_among name l.names)) [
  | inl a ↦ absurd (let bad : Some i ≡ None = rw a at e in cc)
  | inr a ↦ elim (cases_Bool (begins l)) [
    | inl b ↦ rw (b, a) (no_part name (n + 1) (i + 1) ls (rw a at e))
    | inr b ↦ rw b (no_part name n (i + 1) ls (rw a at e))
  ]
]

pub lies_at_label : (name : Name) (m other : ℕ) (ls : List ListingLine) → label_line name 0 ls ≡ Some m → lies_at ls name ≡ Some (location.Block (get_or (numbers_from 0 ls) m other))
lies_at_label name m other ls e = rw (no_first_names name (front_part ls) (front_bare ls), part_at name 0 0 m m other ls e (omega arith)) refl

pub lies_at_set : (name : Name) (ls : List ListingLine) → label_line name 0 ls ≡ None → lies_at ls name ≡ target_at None (cleared (set_address name ls))
lies_at_set name ls e = rw (no_first_names name (front_part ls) (front_bare ls), no_part name 1 0 ls e, parts_joined ls) refl

pub as_many_numbers : (n : ℕ) (ls : List ListingLine) → length (numbers_from n ls) ≡ length ls
as_many_numbers n [] = refl
as_many_numbers n (l ∷ ls) = ap suc (as_many_numbers (number_at n l) ls)

pub part_within : (name : Name) (n t : ℕ) (ps : List (List ListingLine)) → part_of name n ps ≡ Some t → t < n + length ps
part_within name n t [] e = absurd (let bad : None ≡ Some t = e in cc)
part_within name n t (p ∷ ps) e = elim (cases_Bool (is_among name (first_names p))) [
  | inl h ↦ let same : Some n ≡ Some t = rw h at e in let is : n ≡ t = cc in omega arith
  | inr h ↦ let r = part_within name (n + 1) t ps (rw h at e) in omega arith
]
