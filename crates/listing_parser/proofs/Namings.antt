-- Some naming fits each listing that was read: a code point's word is one more than twice its place.
use Rattle.std.proofs.Common.{◌≡◌, ◌∙◌, ◌⊎◌, inl, inr, ℕ, zero, suc, ◌+◌, ◌-◌, ◌*◌, ◌%◌, ◌^◌, ◌<◌, ◌≤◌, ◌==◌, ◌&&◌, ◌||◌, Bool, true, false, List, [], ◌∷◌, ◌++◌, length, get_or, refl, sym, ap, arith, true≢false, eq-eqb, subst, Option, Some, None}
use Rattle.std.specs.Prelude.{nat_lt, nat_le, slice_get}
use Rattle.std.specs.Str.{bytes_eq}
use Rattle.std.proofs.lemmas.Bool.Decides.{nat_tests}
use Rattle.std.proofs.lemmas.Bool.{cases_Bool, or_parts}
use Rattle.std.proofs.lemmas.List.{length-append}
use Rattle.ascii_scan.specs.Lines.{lines_of}
use Rattle.thumb_model.specs.Listing.{Name, ListingLine, Place, Label, Code, places_in, places_of, labels_at, labels_from, code_of, has_label, is_call, is_code, place_of, return_places}
use Rattle.thumb_model.specs.Layout.{is_among}
use Rattle.thumb_model.specs.Naming.{Naming, Fits, is_in_range, is_odd, points, points_of, returns_from}
use Rattle.thumb_model.specs.Steps.{label_place}
use Rattle.thumb_model.proofs.Shared.{op_within}
use Rattle.listing_parser.specs.Parsing.{IsListing}
use Rattle.listing_parser.specs.Namings.{if_op}
use Rattle.listing_parser.specs.Targets.{defined_in, set_names}
use Rattle.listing_parser.proofs.FirstTwice.{first_twice, is_again}
use Rattle.listing_parser.proofs.TwiceLemmas.{once_none, same_name as bytes_same}
use Rattle.listing_parser.proofs.FewLemmas.{all_few, counts_bare}
use Rattle.listing_parser.proofs.LabelLemmas.{again_front, among_append, code_place, label_at, not_again, one_label}
use Rattle.listing_parser.proofs.Literals.{first_label, later_label}
use Rattle.listing_parser.specs.Grammar.{most_lines}

-- ---- no name is defined twice, so each label is its name's ----

-- what is in two lists, one behind the other, is in one of them
pub either_part : {A : Type 0} (xs ys : List A) (k : ℕ) (x : A) → slice_get (xs ++ ys) k ≡ Some x → (slice_get xs k ≡ Some x) ⊎ ((j : ℕ) × (slice_get ys j ≡ Some x))
either_part [] ys k x e = inr (k, e)
either_part (z ∷ xs) ys zero x e = inl e
either_part (z ∷ xs) ys (suc k) x e = either_part xs ys k x e

-- a label at this place has one of these names
pub record IsThere (p : ℕ) (ns : List Name) (l : Label) : Type 0 where
  pub place : l.place ≡ p
  pub named : is_among l.name ns ≡ true

there : (p : ℕ) (ns : List Name) (k : ℕ) (l : Label) → slice_get (labels_at p ns) k ≡ Some l → IsThere p ns l
there p [] k l e = absurd (let bad : None ≡ Some l = e in cc)
there p (n ∷ ns) zero l e =
    let first : Label = record { name = n; place = p } in
    let same : Some first ≡ Some l = e in
    let is : first ≡ l = cc in
    subst (IsThere p (n ∷ ns)) is (record { place = refl; named = rw (bytes_same n) refl })
there p (n ∷ ns) (suc k) l e =
    let next = there p ns k l e in
    record { place = next.place; named = or_more (bytes_eq l.name n) _ next.named }
  where
    or_more : (a b : Bool) → b ≡ true → (a || b) ≡ true
    or_more true b h = refl
    or_more false b h = h

-- a label of these lines has none of the names that were known before
pub fresh : (n p : ℕ) (known : List Name) (ls : List ListingLine) → first_twice n known ls ≡ None → (k : ℕ) (l : Label) → slice_get (labels_from p ls) k ≡ Some l → is_among l.name known ≡ false
fresh n p known [] e k l at = absurd (let bad : None ≡ Some l = at in cc)
fresh n p known (x ∷ ls) e k l at = elim (cases_Bool (is_again known (defined_in x))) [
  | inl h ↦ absurd (let bad : Some n ≡ None = rw h at e in cc)
  | inr h ↦ elim (either_part (labels_at p x.names) _ k l at) [
    | inl a ↦ elim (cases_Bool (is_among l.name known)) [
      | inl b ↦ absurd (true≢false (sym (there p x.names k l a).named ∙ not_again l.name known x.names (again_front known x.names (set_names x.statement) h) b))
      | inr b ↦ b
    ]
    | inr a ↦
        let later = fresh (n + 1) (p + length (places_in x.statement)) (known ++ defined_in x) ls (rw h at e) a.0 l a.1 in
        (or_parts (is_among l.name known) _ (sym (among_append l.name known (defined_in x)) ∙ later)).0
  ]
]

-- where no name is defined twice, a label stands at its name's place
pub own : (n p : ℕ) (known : List Name) (ls : List ListingLine) → first_twice n known ls ≡ None → (k : ℕ) (l : Label) → slice_get (labels_from p ls) k ≡ Some l → label_place l.name (labels_from p ls) ≡ Some l.place
own n p known [] e k l at = absurd (let bad : None ≡ Some l = at in cc)
own n p known (x ∷ ls) e k l at = elim (cases_Bool (is_again known (defined_in x))) [
  | inl h ↦ absurd (let bad : Some n ≡ None = rw h at e in cc)
  | inr h ↦ elim (either_part (labels_at p x.names) _ k l at) [
    | inl a ↦ let t = there p x.names k l a in label_at l.name p x.names _ ∙ rw t.named (ap (λ (q : ℕ). Some q) (sym t.place))
    | inr a ↦
        let later = fresh (n + 1) (p + length (places_in x.statement)) (known ++ defined_in x) ls (rw h at e) a.0 l a.1 in
        let defined = (or_parts (is_among l.name known) _ (sym (among_append l.name known (defined_in x)) ∙ later)).1 in
        let other = (or_parts (is_among l.name x.names) _ (sym (among_append l.name x.names (set_names x.statement)) ∙ defined)).0 in
        label_at l.name p x.names _ ∙ rw other (own (n + 1) (p + length (places_in x.statement)) (known ++ defined_in x) ls (rw h at e) a.0 l a.1)
  ]
]

op_same : (places : List Place) (o : Option ℕ) → code_place places o ≡ if_op places o
unfolding code_place
op_same places None = refl
op_same places (Some p) = refl

pub code_labels_are_labels : (bytes : List ℕ) (lines : List ListingLine) → IsListing bytes lines → (name : Name) → place_of (code_of lines) name ≡ if_op (places_of lines) (label_place name (labels_from 0 lines))
code_labels_are_labels bytes lines is name = one_label name (places_of lines) 1 0 [] lines (once_none lines is.once) ∙ op_same (places_of lines) (label_place name (labels_from 0 lines))

-- ---- the naming ----

-- an external name's word is the greatest
abbrev word_at : Option ℕ → ℕ
word_at None = 2 ^ 32 - 1
word_at (Some p) = 2 * p + 1

abbrev by_place : Code → Naming
by_place code = record {
  word_of = λ n. word_at (label_place n code.labels);
  return_word = λ k. 2 * get_or (return_places 0 code.places) k 0 + 1;
  low = 0;
  high = 2 * length code.places + 2;
}

-- a code point's word and place
pub record IsWord (count w p : ℕ) : Type 0 where
  pub word : w ≡ 2 * p + 1
  pub few : p ≤ count

word_same : (count v w p q : ℕ) → ◌≡◌ {A = Option (ℕ × ℕ)} (Some (v, p)) (Some (w, q)) → IsWord count v p → IsWord count w q
word_same count v w p q e h =
    let same : ◌≡◌ {A = ℕ × ℕ} (v, p) (w, q) = cc in
    let first : v ≡ w = ap (λ (x : ℕ × ℕ). x.0) same in
    let second : p ≡ q = ap (λ (x : ℕ × ℕ). x.1) same in
    record { word = omega (arith, first, second, h.word); few = omega (arith, second, h.few) }

-- the first pair has its word, and so have the others
AreWorded : (count : ℕ) (xs : List (ℕ × ℕ)) → Type 0
AreWorded count xs = (k w p : ℕ) → slice_get xs k ≡ Some (w, p) → IsWord count w p

more_worded : (count v q : ℕ) (xs : List (ℕ × ℕ)) → IsWord count v q → AreWorded count xs → AreWorded count ((v, q) ∷ xs)
unfolding AreWorded
more_worded count v q xs h each zero w p e = word_same count v w q p e h
more_worded count v q xs h each (suc k) w p e = each k w p e

labels_worded : (names : Naming) (places : List Place) (ls : List Label) → ((k : ℕ) (l : Label) → slice_get ls k ≡ Some l → names.word_of l.name ≡ 2 * l.place + 1) → AreWorded (length places) (points_of names places ls)
unfolding AreWorded
labels_worded names places [] each = λ k w p e. absurd (let bad : None ≡ Some (w, p) = e in cc)
labels_worded names places (l ∷ ls) each =
    let others = labels_worded names places ls (λ k x e. each (suc k) x e) in
    elim (cases_Bool (is_code places l)) [
      | inl h ↦ rw h (more_worded (length places) (names.word_of l.name) l.place (points_of names places ls) (record { word = each 0 l refl; few = (let within = op_within places l.place h in omega arith) }) others)
      | inr h ↦ rw h others
    ]

-- the words of return points from a call on, whose list of places is this
AreReturns : (names : Naming) (n : ℕ) (places : List ℕ) → Type 0
AreReturns names n places = (i k : ℕ) → k ≡ n + i → names.return_word k ≡ 2 * get_or places i 0 + 1

returns_worded : (names : Naming) (count n p : ℕ) (xs : List Place) → p + length xs ≡ count → AreReturns names n (return_places p xs) → AreWorded count (returns_from names n p xs)
unfolding AreReturns AreWorded
returns_worded names count n p [] size each = λ k w q e. absurd (let bad : None ≡ Some (w, q) = e in cc)
returns_worded names count n p (x ∷ xs) size each = elim (cases_Bool (is_call x)) [
  | inl h ↦
      let all : AreReturns names n ((p + 1) ∷ return_places (p + 1) xs) = rw h at each in
      rw h (more_worded count (names.return_word n) (p + 1) (returns_from names (n + 1) (p + 1) xs) (record { word = all 0 n (omega arith); few = omega arith })
      (returns_worded names count (n + 1) (p + 1) xs (omega arith) (λ i k e. all (suc i) k (omega arith))))
  | inr h ↦ rw h (returns_worded names count n (p + 1) xs (omega arith) (rw h at each))
]

first_or : (b k : ℕ) (p : ℕ) (ps : List ℕ) → p ≤ b → get_or ps (k - 1) 0 ≤ b → get_or (p ∷ ps) k 0 ≤ b
first_or b zero p ps h g = h
first_or b (suc k) p ps h g = (let same : suc k - 1 ≡ k = omega arith in rw same at g)

none_within : (b k : ℕ) → get_or [] k 0 ≤ b
none_within b zero = omega arith
none_within b (suc k) = omega arith

return_within : (p k : ℕ) (xs : List Place) → get_or (return_places p xs) k 0 ≤ p + length xs
return_within p k [] = none_within (p + 0) k
return_within p k (x ∷ xs) = elim (cases_Bool (is_call x)) [
  | inl h ↦ rw h (first_or (p + suc (length xs)) k (p + 1) (return_places (p + 1) xs) (omega arith) (let g = return_within (p + 1) (k - 1) xs in omega arith))
  | inr h ↦ rw h (let g = return_within (p + 1) k xs in omega arith)
]

label_within : (name : Name) (p q : ℕ) (ls : List ListingLine) → label_place name (labels_from p ls) ≡ Some q → q ≤ p + length (places_of ls)
label_within name p q [] e = absurd (let bad : None ≡ Some q = e in cc)
label_within name p q (l ∷ ls) e = elim (cases_Bool (is_among name l.names)) [
  | inl h ↦ let is = first_label name p q l ls h e in omega arith
  | inr h ↦
      let next = label_within name (p + length (places_in l.statement)) q ls (later_label name p q l ls h e) in
      let size = length-append (places_in l.statement) (places_of ls) in
      omega arith
]

no_label : (name : Name) (ls : List Label) → has_label name ls ≡ false → label_place name ls ≡ None
no_label name [] e = refl
no_label name (l ∷ ls) e = let h = or_parts (bytes_eq name l.name) _ e in rw h.0 (no_label name ls h.1)

-- ---- all together ----

few_of : (bytes : List ℕ) (lines : List ListingLine) → IsListing bytes lines → length (places_of lines) ≤ 1025 * most_lines
few_of bytes lines is =
    let few = all_few 1 0 (lines_of bytes) is.reads is.are.read (omega arith) in
    let sum = counts_bare is.reads lines is.are.same in
    omega (arith, few.0, few.1)

module _ (bytes : List ℕ) (lines : List ListingLine) (is : IsListing bytes lines) where
  point : (k w p : ℕ) → slice_get (points (by_place (code_of lines)) (code_of lines)) k ≡ Some (w, p) → IsWord (length (places_of lines)) w p
  unfolding AreWorded AreReturns
  point k w p e = elim (either_part (points_of (by_place (code_of lines)) (places_of lines) (labels_from 0 lines)) _ k (w, p) e) [
    | inl a ↦ labels_worded (by_place (code_of lines)) (places_of lines) (labels_from 0 lines) (λ j l t. ap word_at (own 1 0 [] lines (once_none lines is.once) j l t)) k w p a
    | inr a ↦ returns_worded (by_place (code_of lines)) (length (places_of lines)) 0 0 (places_of lines) (omega arith) (λ i j t. ap (λ (n : ℕ). 2 * get_or (return_places 0 (places_of lines)) n 0 + 1) (let same : j ≡ i = omega arith in same)) a.0 w p a.1
  ]

  small : (o : Option ℕ) → ((q : ℕ) → o ≡ Some q → q ≤ length (places_of lines)) → word_at o < 2 ^ 32
  small None f = omega arith
  small (Some q) f = let few = few_of bytes lines is in let within = f q refl in omega arith

  in_range : (w p : ℕ) → IsWord (length (places_of lines)) w p → (is_odd w && is_in_range (by_place (code_of lines)) w) ≡ true
  in_range w p h =
      let odd : (w % 2 == 1) ≡ true = eq-eqb (w % 2) 1 (omega (arith, h.word)) in
      let above : nat_le 0 w ≡ true = grind (arith, nat_tests) in
      let below : nat_lt w (2 * length (places_of lines) + 2) ≡ true = (let few = h.few in let word = h.word in let lt : w < 2 * length (places_of lines) + 2 = omega arith in grind (arith, nat_tests)) in
      rw (odd, above, below) refl

  pub some_naming_fits : (names : Naming) × Fits names (code_of lines)
  some_naming_fits = (
    by_place (code_of lines),
    record {
      words = λ n. small (label_place n (labels_from 0 lines)) (λ q e. let h = label_within n 0 q lines e in omega arith);
      return_words = λ k. let few = few_of bytes lines is in let within = return_within 0 k (places_of lines) in omega arith;
      low_even = refl;
      high_even = (let h : (2 * length (places_of lines) + 2) % 2 ≡ 0 = omega arith in h);
      are_code = λ k w p e. in_range w p (point k w p e);
      distinct = λ j k v w p q e f ne same. (let a = point j v p e in let b = point k w q f in ne (let h : p ≡ q = omega (arith, a.word, b.word) in h));
      outside = λ n h none.
          let few = few_of bytes lines is in
          let past : nat_lt (2 ^ 32 - 1) (2 * length (places_of lines) + 2) ≡ false = grind (arith, nat_tests) in
          rw (no_label n (labels_from 0 lines) none, past) refl;
    },
  )
