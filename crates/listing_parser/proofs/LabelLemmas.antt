-- Labels by name: the tables find a name's first label, which is its only one.
use Rattle.std.proofs.Common.{◌≡◌, ◌∙◌, inl, inr, ℕ, zero, suc, ◌+◌, ◌<◌, ◌||◌, Bool, true, false, List, [], ◌∷◌, ◌++◌, length, take, drop, get_or, is_some, refl, sym, ap, arith, true≢false, subst, Option, Some, None, if◌then◌else◌}
use Rattle.std.specs.Prelude.{slice_get}
use Rattle.std.specs.Str.{bytes_eq}
use Rattle.std.proofs.lemmas.Bool.{cases_Bool, or_parts}
use Rattle.std.proofs.lemmas.List.{length-append}
use Rattle.std.proofs.lemmas.Slice.Eq.{bytes_eq-Decides}
use Rattle.thumb_model.specs.Listing.{Name, ListingLine, Place, Label, places_in, places_of, labels_at, labels_from, is_op_place, place_among, has_label}
use Rattle.thumb_model.specs.Layout.{is_among}
use Rattle.thumb_model.specs.Steps.{label_place}
use Rattle.listing_parser.specs.TableWords.{label_line, passed_from}
use Rattle.listing_parser.specs.Targets.{set_names, defined_in, from_label}
use Rattle.listing_parser.proofs.FirstTwice.{first_twice, is_again}
use Rattle.listing_parser.specs.declared.index.Passed.{Passed}
use Rattle.listing_parser.proofs.SpotLemmas.{before_line}

-- ---- the first label of a name ----

pub label_at : (name : Name) (p : ℕ) (ns : List Name) (rest : List Label) → label_place name (labels_at p ns ++ rest) ≡ (if is_among name ns then Some p else label_place name rest)
label_at name p [] rest = refl
label_at name p (n ∷ ns) rest = elim (cases_Bool (bytes_eq name n)) [
  | inl e ↦ rw e refl
  | inr e ↦ rw e (label_at name p ns rest)
]

-- the line of the name's first label, counted from n, and its place
pub record Labelled (name : Name) (n m p : ℕ) (ls : List ListingLine) : Type 0 where
  pub index : ℕ
  pub at : m ≡ n + index
  pub within : index < length ls
  pub place : label_place name (labels_from p ls) ≡ Some (p + length (places_of (take index ls)))

pub labelled : (name : Name) (n m p : ℕ) (ls : List ListingLine) → label_line name n ls ≡ Some m → Labelled name n m p ls
labelled name n m p [] e = absurd (let bad : None ≡ Some m = e in cc)
labelled name n m p (l ∷ ls) e = elim (cases_Bool (is_among name l.names)) [
  | inl h ↦
      let same : Some n ≡ Some m = rw h at e in
      record {
        index = 0;
        at = (let k : n ≡ m = cc in omega arith);
        within = omega arith;
        place = label_at name p l.names _ ∙ rw h (ap (λ x. Some x) (let k : p ≡ p + 0 = omega arith in k));
      }
  | inr h ↦
      let next = labelled name (n + 1) m (p + length (places_in l.statement)) ls (rw h at e) in
      let size = length-append (places_in l.statement) (places_of (take next.index ls)) in
      record {
        index = suc next.index;
        at = omega (arith, next.at);
        within = omega (arith, next.within);
        place = label_at name p l.names _ ∙ rw h (next.place ∙ ap (λ x. Some x)
            (let k : p + length (places_in l.statement) + length (places_of (take next.index ls)) ≡ p + length (places_in l.statement ++ places_of (take next.index ls)) = omega arith in k));
      }
]

pub unlabelled : (name : Name) (n p : ℕ) (ls : List ListingLine) → label_line name n ls ≡ None → label_place name (labels_from p ls) ≡ None
unlabelled name n p [] e = refl
unlabelled name n p (l ∷ ls) e = elim (cases_Bool (is_among name l.names)) [
  | inl h ↦ absurd (let bad : Some n ≡ None = rw h at e in cc)
  | inr h ↦ label_at name p l.names _ ∙ rw h (unlabelled name (n + 1) (p + length (places_in l.statement)) ls (rw h at e))
]

-- ---- no name twice ----

pub among_append : (name : Name) (ms ns : List Name) → is_among name (ms ++ ns) ≡ (is_among name ms || is_among name ns)
among_append name [] ns = refl
among_append name (m ∷ ms) ns = elim (cases_Bool (bytes_eq name m)) [
  | inl e ↦ rw e refl
  | inr e ↦ rw e (among_append name ms ns)
]

pub among_front : (name : Name) (ms ns : List Name) → is_among name ms ≡ true → is_among name (ms ++ ns) ≡ true
among_front name ms ns e = among_append name ms ns ∙ rw e refl

pub among_last : (name n : Name) (ms : List Name) → bytes_eq name n ≡ true → is_among name (ms ++ n ∷ []) ≡ true
among_last name n ms e = among_append name ms (n ∷ []) ∙ rw e (by (is_among name ms)) where
  by : (b : Bool) → (b || true) ≡ true
  by true = refl
  by false = refl

pub not_again : (name : Name) (known ns : List Name) → is_again known ns ≡ false → is_among name known ≡ true → is_among name ns ≡ false
not_again name known [] e k = refl
not_again name known (n ∷ ns) e k = elim (cases_Bool (bytes_eq name n)) [
  | inl h ↦
      let same : name ≡ n = (bytes_eq-Decides name n).0 h in
      absurd (true≢false (sym (subst (λ (x : Name). is_among x known ≡ true) same k) ∙ (or_parts (is_among n known) _ e).0))
  | inr h ↦ rw h (not_again name (known ++ n ∷ []) ns (or_parts (is_among n known) _ e).1 (among_front name known (n ∷ []) k))
]

pub again_front : (known ns ms : List Name) → is_again known (ns ++ ms) ≡ false → is_again known ns ≡ false
again_front known [] ms e = refl
again_front known (n ∷ ns) ms e = rw (or_parts (is_among n known) _ e).0 (again_front (known ++ n ∷ []) ns ms (or_parts (is_among n known) _ e).1)

pub passed_by : (name : Name) (places : List Place) (p : ℕ) (ns : List Name) (rest : List Label) → is_among name ns ≡ false → place_among name places (labels_at p ns ++ rest) ≡ place_among name places rest
passed_by name places p [] rest e = refl
passed_by name places p (n ∷ ns) rest e = rw (or_parts (bytes_eq name n) _ e).0 (passed_by name places p ns rest (or_parts (bytes_eq name n) _ e).1)

-- the place, where an instruction stands there
unfoldable pub code_place : List Place → Option ℕ → Option ℕ
code_place places None = None
code_place places (Some p) = if is_op_place (slice_get places p) then Some p else None

known_once : (name : Name) (places : List Place) (n p : ℕ) (known : List Name) (ls : List ListingLine) → first_twice n known ls ≡ None → is_among name known ≡ true → place_among name places (labels_from p ls) ≡ None
known_once name places n p known [] e k = refl
known_once name places n p known (l ∷ ls) e k = elim (cases_Bool (is_again known (defined_in l))) [
  | inl h ↦ absurd (let bad : Some n ≡ None = rw h at e in cc)
  | inr h ↦
      passed_by name places p l.names _ (not_again name known l.names (again_front known l.names (set_names l.statement) h) k)
      ∙ known_once name places (n + 1) (p + length (places_in l.statement)) (known ++ defined_in l) ls (rw h at e) (among_front name known (defined_in l) k)
]

code_at : (name : Name) (places : List Place) (p : ℕ) (known ns : List Name) (rest : List Label) → is_again known ns ≡ false → is_among name ns ≡ true → place_among name places rest ≡ None
    → place_among name places (labels_at p ns ++ rest) ≡ code_place places (Some p)
unfolding code_place
code_at name places p known [] rest e k none = absurd (true≢false (sym k))
code_at name places p known (n ∷ ns) rest e k none = elim (cases_Bool (bytes_eq name n)) [
  | inl h ↦
      let later = not_again name (known ++ n ∷ []) ns (or_parts (is_among n known) _ e).1 (among_last name n known h) in
      let gone : place_among name places (labels_at p ns ++ rest) ≡ None = passed_by name places p ns rest later ∙ none in
      rw h (ap (λ (o : Option ℕ). if is_op_place (slice_get places p) then Some p else o) gone)
  | inr h ↦ rw h (code_at name places p (known ++ n ∷ []) ns rest (or_parts (is_among n known) _ e).1 (rw h at k) none)
]

-- where no name is defined twice, the code label of a name is its label, if it is code
pub one_label : (name : Name) (places : List Place) (n p : ℕ) (known : List Name) (ls : List ListingLine) → first_twice n known ls ≡ None → place_among name places (labels_from p ls) ≡ code_place places (label_place name (labels_from p ls))
unfolding code_place
one_label name places n p known [] e = refl
one_label name places n p known (l ∷ ls) e = elim (cases_Bool (is_again known (defined_in l))) [
  | inl h ↦ absurd (let bad : Some n ≡ None = rw h at e in cc)
  | inr h ↦ elim (cases_Bool (is_among name l.names)) [
    | inl k ↦
        code_at name places p known l.names _ (again_front known l.names (set_names l.statement) h) k
        (known_once name places (n + 1) (p + length (places_in l.statement)) (known ++ defined_in l) ls (rw h at e) (among_append name known (defined_in l) ∙ last (is_among name known) (among_front name l.names (set_names l.statement) k)))
        ∙ ap (code_place places) (sym (label_at name p l.names (labels_from (p + length (places_in l.statement)) ls) ∙ picked _ _ k))
    | inr k ↦
        passed_by name places p l.names _ k
        ∙ one_label name places (n + 1) (p + length (places_in l.statement)) (known ++ defined_in l) ls (rw h at e)
        ∙ ap (code_place places) (sym (label_at name p l.names (labels_from (p + length (places_in l.statement)) ls) ∙ left _ _ k))
  ]
] where
  picked : (b : Bool) (o : Option ℕ) → b ≡ true → (if b then Some p else o) ≡ Some p
  picked b o e = rw e refl

  left : (b : Bool) (o : Option ℕ) → b ≡ false → (if b then Some p else o) ≡ o
  left b o e = rw e refl

  last : {b : Bool} (a : Bool) → b ≡ true → (a || b) ≡ true
  last true e = refl
  last false e = e

-- the table gives the label's line, and the count of places before that line the label's place
pub label_found : (name : Name) (ls : List ListingLine) (xs : List Passed) (m : ℕ) (x : Passed) → label_line name 0 ls ≡ Some m → xs ≡ passed_from 0 ls → x ≡ get_or xs m x
    → Some x.places ≡ label_place name (labels_from 0 ls)
label_found name ls xs m x e all at =
    let l = labelled name 0 m 0 ls e in
    let same : m ≡ l.index = omega (arith, l.at) in
    let told = before_line ls xs m x (omega (arith, l.within)) all at in
    sym (l.place ∙ ap (λ (n : ℕ). Some n) (let h : 0 + length (places_of (take l.index ls)) ≡ x.places = omega (arith, told.0, ap (λ (k : ℕ). length (places_of (take k ls))) same) in h))

pub label_within : (name : Name) (ls : List ListingLine) (m : ℕ) → label_line name 0 ls ≡ Some m → m < length ls
label_within name ls m e = let l = labelled name 0 m 0 ls e in omega (arith, l.at, l.within)

-- a name is a label where some line has it
pub label_among : (name : Name) (p : ℕ) (ns : List Name) (rest : List Label) → has_label name (labels_at p ns ++ rest) ≡ (is_among name ns || has_label name rest)
label_among name p [] rest = refl
label_among name p (n ∷ ns) rest = elim (cases_Bool (bytes_eq name n)) [
  | inl e ↦ rw e refl
  | inr e ↦ rw e (label_among name p ns rest)
]

pub label_is : (name : Name) (n p : ℕ) (ls : List ListingLine) → has_label name (labels_from p ls) ≡ is_some (label_line name n ls)
label_is name n p [] = refl
label_is name n p (l ∷ ls) = elim (cases_Bool (is_among name l.names)) [
  | inl e ↦ label_among name p l.names _ ∙ rw e refl
  | inr e ↦ label_among name p l.names _ ∙ rw e (label_is name (n + 1) (p + length (places_in l.statement)) ls)
]

pub no_label_from : (name : Name) (n : ℕ) (ls : List ListingLine) → label_line name n ls ≡ None → from_label name ls ≡ []
no_label_from name n [] e = refl
no_label_from name n (l ∷ ls) e = elim (cases_Bool (is_among name l.names)) [
  | inl h ↦ absurd (let bad : Some n ≡ None = rw h at e in cc)
  | inr h ↦ rw h (no_label_from name (n + 1) ls (rw h at e))
]

pub label_from_line : (name : Name) (n m k : ℕ) (ls : List ListingLine) → label_line name n ls ≡ Some m → n + k ≡ m → from_label name ls ≡ drop k ls
label_from_line name n m k [] e h = absurd (let bad : None ≡ Some m = e in cc)
label_from_line name n m zero (l ∷ ls) e h = elim (cases_Bool (is_among name l.names)) [
  | inl a ↦ rw a refl
  | inr a ↦ absurd (let next = labelled name (n + 1) m 0 ls (rw a at e) in omega (arith, next.at))
]
label_from_line name n m (suc k) (l ∷ ls) e h = elim (cases_Bool (is_among name l.names)) [
  | inl a ↦ absurd (let same : Some n ≡ Some m = rw a at e in let is : n ≡ m = cc in omega arith)
  | inr a ↦ rw a (label_from_line name (n + 1) m k ls (rw a at e) (omega arith))
]
