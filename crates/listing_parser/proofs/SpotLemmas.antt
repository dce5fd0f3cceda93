-- Where the places of lines stand.
use Rattle.std.proofs.Common.{◌≡◌, ◌∙◌, inl, inr, ℕ, zero, suc, ◌+◌, ◌-◌, ◌<◌, ◌≤◌, List, [], ◌∷◌, length, take, drop, map, get_or, refl, sym, ap, arith, Some, None, option_map}
use Rattle.std.specs.Prelude.{slice_get}
use Rattle.std.proofs.lemmas.Bool.{cases_lt}
use Rattle.std.proofs.lemmas.List.{length-append}
use Rattle.std.proofs.lemmas.Option.{slice_get_past, slice_get_read, slice_get-map}
use Rattle.listing_parser.specs.declared.line.Value.{Value as Values}
use Rattle.listing_parser.specs.Views.{value_view}
use Rattle.thumb_model.specs.Listing.{ListingLine, Place, Word, places_in, places_of}
use Rattle.thumb_model.proofs.Lists.{get_back}
use Rattle.listing_parser.specs.TableWords.{spots_at, spots_from, passed_from}
use Rattle.listing_parser.specs.declared.index.Spot.{Spot}
use Rattle.listing_parser.specs.declared.index.Passed.{Passed}
use Rattle.common_lemmas.proofs.Lists.{get_front}

spots_at_length : (line item : ℕ) (ps : List Place) → length (spots_at line item ps) ≡ length ps
spots_at_length line item [] = refl
spots_at_length line item (p ∷ ps) = ap suc (spots_at_length line (item + 1) ps)

pub spots_length : (n : ℕ) (ls : List ListingLine) → length (spots_from n ls) ≡ length (places_of ls)
spots_length n [] = refl
spots_length n (l ∷ ls) =
    let rest = spots_length (n + 1) ls in
    let here = spots_at_length n 0 (places_in l.statement) in
    length-append (spots_at n 0 (places_in l.statement)) (spots_from (n + 1) ls)
    ∙ (let h : length (spots_at n 0 (places_in l.statement)) + length (spots_from (n + 1) ls) ≡ length (places_in l.statement) + length (places_of ls) = omega arith in h)
    ∙ sym (length-append (places_in l.statement) (places_of ls))

spots_at_get : (line item p : ℕ) (ps : List Place) (s : Spot) → slice_get (spots_at line item ps) p ≡ Some s → (s.line ≡ line) × (s.item ≡ item + p)
spots_at_get line item p [] s e = absurd (let bad : None ≡ Some s = e in cc)
spots_at_get line item zero (x ∷ ps) s e =
    let same : Some (let t : Spot = record { line = line; item = item } in t) ≡ Some s = e in
    let is : (let t : Spot = record { line = line; item = item } in t) ≡ s = cc in
    (sym (ap (λ (t : Spot). t.line) is), sym (ap (λ (t : Spot). t.item) is) ∙ (let h : item ≡ item + 0 = omega arith in h))
spots_at_get line item (suc p) (x ∷ ps) s e = let next = spots_at_get line (item + 1) p ps s e in (next.0, omega (arith, next.1))

-- where the p-th place of lines stands, whose first is line n
pub record Stands (n : ℕ) (ls : List ListingLine) (p : ℕ) (s : Spot) : Type 0 where
  pub line : ListingLine
  pub index : ℕ
  pub at : s.line ≡ n + index
  pub is_line : slice_get ls index ≡ Some line
  pub same : slice_get (places_of ls) p ≡ slice_get (places_in line.statement) s.item

pub stands : (n : ℕ) (ls : List ListingLine) (p : ℕ) (s : Spot) → slice_get (spots_from n ls) p ≡ Some s → Stands n ls p s
stands n [] p s e = absurd (let bad : None ≡ Some s = e in cc)
stands n (l ∷ ls) p s e = elim (cases_lt p (length (places_in l.statement))) [
  | inl h ↦
      let size = spots_at_length n 0 (places_in l.statement) in
      let here = spots_at_get n 0 p (places_in l.statement) s (sym (get_front (spots_at n 0 (places_in l.statement)) (spots_from (n + 1) ls) p (omega arith)) ∙ e) in
      record {
        line = l;
        index = 0;
        at = omega (arith, here.0);
        is_line = refl;
        same = get_front (places_in l.statement) (places_of ls) p h ∙ ap (slice_get (places_in l.statement)) (let i : p ≡ s.item = omega (arith, here.1) in i);
      }
  | inr h ↦
      let size = spots_at_length n 0 (places_in l.statement) in
      let next = stands (n + 1) ls (p - length (places_in l.statement)) s (sym (get_back (spots_at n 0 (places_in l.statement)) (spots_from (n + 1) ls) (p - length (places_in l.statement)) p (omega arith)) ∙ e) in
      record {
        line = next.line;
        index = suc next.index;
        at = omega (arith, next.at);
        is_line = next.is_line;
        same = get_back (places_in l.statement) (places_of ls) (p - length (places_in l.statement)) p (omega arith) ∙ next.same;
      }
]

-- ---- before a line ----

pub passed_get : (p : ℕ) (ls : List ListingLine) (i : ℕ) (x : Passed) → slice_get (passed_from p ls) i ≡ Some x → x.places ≡ p + length (places_of (take i ls))
passed_get p [] i x e = absurd (let bad : None ≡ Some x = e in cc)
passed_get p (l ∷ ls) zero x e =
    let same : Some (let t : Passed = record { places = p } in t) ≡ Some x = e in
    let is : (let t : Passed = record { places = p } in t) ≡ x = cc in
    sym (ap (λ (t : Passed). t.places) is) ∙ (let h : p ≡ p + 0 = omega arith in h)
passed_get p (l ∷ ls) (suc i) x e =
    let next = passed_get (p + length (places_in l.statement)) ls i x e in
    let size = length-append (places_in l.statement) (places_of (take i ls)) in
    omega (arith, next)

pub passed_length : (p : ℕ) (ls : List ListingLine) → length (passed_from p ls) ≡ length ls
passed_length p [] = refl
passed_length p (l ∷ ls) = ap suc (passed_length (p + length (places_in l.statement)) ls)

-- the places of the first lines are no more than all
pub places_take : (i : ℕ) (ls : List ListingLine) → length (places_of (take i ls)) ≤ length (places_of ls)
places_take zero ls = omega arith
places_take (suc i) [] = omega arith
places_take (suc i) (l ∷ ls) =
    omega (arith, places_take i ls, length-append (places_in l.statement) (places_of (take i ls)), length-append (places_in l.statement) (places_of ls))

-- the table of how many places precede each line is right for line i
pub before_line : (ls : List ListingLine) (xs : List Passed) (i : ℕ) (x : Passed) → i < length ls → xs ≡ passed_from 0 ls → x ≡ get_or xs i x
    → (x.places ≡ length (places_of (take i ls))) × (x.places ≤ length (places_of ls))
before_line ls xs i x h all at =
    let size : length xs ≡ length ls = ap length all ∙ passed_length 0 ls in
    let found : slice_get (passed_from 0 ls) i ≡ Some x = ap (λ (ys : List Passed). slice_get ys i) (sym all) ∙ slice_get_read xs (length xs) i x refl (omega arith) at in
    let is = passed_get 0 ls i x found in
    (omega (arith, is), omega (arith, is, places_take i ls))

-- the element that is read
pub read_word : (vs : List Values) (i : ℕ) (v : Values) → i < length vs → v ≡ get_or vs i v → Some (Word (value_view v)) ≡ slice_get (map Word (map value_view vs)) i
read_word vs i v h at =
    sym (slice_get-map Word (map value_view vs) i ∙ ap (option_map Word) (slice_get-map value_view vs i ∙ ap (option_map value_view) (slice_get_read vs (length vs) i v refl h at)))

pub no_word : (vs : List Values) (i : ℕ) → length vs ≤ i → None ≡ slice_get (map Word (map value_view vs)) i
no_word vs i h =
    sym (slice_get-map Word (map value_view vs) i ∙ ap (option_map Word) (slice_get-map value_view vs i ∙ ap (option_map value_view) (slice_get_past vs i h)))

-- the spots from a place on
pub spots_step : (line item k j : ℕ) (ps : List Place) → k < length ps → j ≡ k + 1 → spots_at line item (drop k ps) ≡ record { line = line; item = item } ∷ spots_at line (item + 1) (drop j ps)
spots_step line item k j [] h e = absurd (omega arith)
spots_step line item k zero (p ∷ ps) h e = absurd (omega arith)
spots_step line item zero (suc j) (p ∷ ps) h e = ap (λ (n : ℕ). (let s : Spot = record { line = line; item = item } in s) ∷ spots_at line (item + 1) (drop n ps)) (let z : 0 ≡ j = omega arith in z)
spots_step line item (suc k) (suc j) (p ∷ ps) h e = spots_step line item k j ps (omega arith) (omega arith)
