-- `Fits` holds exactly where the tests of `specs/Fitting` do.
use Rattle.std.proofs.Common.{◌≡◌, ◌≢◌, ◌∙◌, inl, inr, ℕ, zero, suc, ◌+◌, ◌%◌, ◌^◌, ◌<◌, ◌==◌, ◌&&◌, ◌||◌, Bool, true, false, List, [], ◌∷◌, Option, Some, None, refl, sym, ap, add-one, arith, drop, get_or, map, true≢false, eqb-true}
use Rattle.std.specs.Prelude.{is_some, not, slice_get, unwrap_or}
use Rattle.std.specs.List.{list_all}
use Rattle.std.specs.Map.{lookup}
use Rattle.std.specs.Str.{bytes_eq}
use Rattle.std.specs.declared.alloc.Global.{Global}
use Rattle.std.specs.declared.vec.Vec.{Vec}
use Rattle.std.proofs.lemmas.Bool.{cases_Bool, and_parts, or_cases, or_right}
use Rattle.std.proofs.lemmas.Slice.Eq.{bytes_eq-Decides}
use Rattle.thumb_model.specs.Listing.{Name, Number, OfName, Place, Op, Word, Label, Code, has_label, is_mentioned, place_mentions}
use Rattle.thumb_model.specs.Naming.{Naming, Fits, is_in_range, points}
use Rattle.thumb_model.specs.Steps.{label_place}
use Rattle.thumb_machine.specs.Fitting.{all_apart, apart, is_code_word, is_outside}
use Rattle.thumb_machine.specs.Laid.{place_name}
use Rattle.common_lemmas.proofs.Lists.{drop_at}

-- ---- lists ----

all_at : {X : Type 0} (f : X → Bool) (xs : List X) → list_all f xs ≡ true → (k : ℕ) (x : X) → slice_get xs k ≡ Some x → f x ≡ true
all_at f [] all k x e = absurd (let bad : None ≡ Some x = e in cc)
all_at f (y ∷ ys) all zero x e = let some : Some y ≡ Some x = e in let same : y ≡ x = cc in ap f (sym same) ∙ (and_parts (f y) (list_all f ys) all).0
all_at f (y ∷ ys) all (suc k) x e = all_at f ys (and_parts (f y) (list_all f ys) all).1 k x e

all_from : {X : Type 0} (f : X → Bool) (xs : List X) → ((k : ℕ) (x : X) → slice_get xs k ≡ Some x → f x ≡ true) → list_all f xs ≡ true
all_from f [] each = refl
all_from f (y ∷ ys) each = rw (each zero y refl) (all_from f ys (λ k x e. each (suc k) x e))

-- ---- code points ----

apart_is : (v p w q : ℕ) → apart (v, p) (w, q) ≡ true → p ≢ q → v ≢ w
apart_is v p w q e differ same = differ (eqb-true p q (left (p == q) (v == w) e (grind (arith, same)))) where
  left : (a b : Bool) → (a || not b) ≡ true → b ≡ true → a ≡ true
  left true b e h = refl
  left false b e h = absurd (true≢false (sym e ∙ ap not h))

is_apart : (v p w q : ℕ) → (p ≢ q → v ≢ w) → apart (v, p) (w, q) ≡ true
is_apart v p w q differ = elim (cases_Bool (p == q)) [
  | inl e ↦ rw e refl
  | inr e ↦ rw e (elim (cases_Bool (v == w)) [
    | inl h ↦ absurd (differ (λ same. true≢false (sym (grind (arith, same)) ∙ e)) (eqb-true v w h))
    | inr h ↦ rw h refl
  ])
]

-- ---- external names ----

abbrev AreOutside : Naming → List Place → List Label → Type 0
AreOutside names places labels = (n : Name) → is_mentioned n places ≡ true → has_label n labels ≡ false → is_in_range names (names.word_of n) ≡ false

abbrev is_name : Name → Option Name → Bool
is_name n None = false
is_name n (Some m) = bytes_eq n m

names_place : (n : Name) (x : Place) → place_mentions n x ≡ is_name n (place_name x)
names_place n (Op i None) = refl
names_place n (Op i (Some m)) = refl
names_place n (Word (Number v)) = refl
names_place n (Word (OfName m)) = refl

named_outside : (names : Naming) (labels : List Label) (n : Name) (o : Option Name) → is_name n o ≡ true → is_outside names labels o ≡ true → has_label n labels ≡ false → is_in_range names (names.word_of n) ≡ false
named_outside names labels n None is out none = absurd (true≢false (sym is))
named_outside names labels n (Some m) is out none =
    let same : n ≡ m = (bytes_eq-Decides n m).0 is in
    denied (has_label n labels) (is_in_range names (names.word_of n)) (ap (λ (k : Name). is_outside names labels (Some k)) same ∙ out) none where
      denied : (a b : Bool) → (a || not b) ≡ true → a ≡ false → b ≡ false
      denied true b e h = absurd (true≢false h)
      denied false true e h = absurd (true≢false (sym e))
      denied false false e h = refl

are_outside : (names : Naming) (labels : List Label) (xs : List Place) → list_all (λ x. is_outside names labels (place_name x)) xs ≡ true → AreOutside names xs labels
are_outside names labels [] all = λ n e none. absurd (true≢false (sym e))
are_outside names labels (x ∷ xs) all = λ n e none.
    let alls = and_parts (is_outside names labels (place_name x)) (list_all (λ y. is_outside names labels (place_name y)) xs) all in
    elim (or_cases (place_mentions n x) (is_mentioned n xs) e) [
      | inl here ↦ named_outside names labels n (place_name x) (sym (names_place n x) ∙ here) alls.0 none
      | inr there ↦ are_outside names labels xs alls.1 n there none
    ]

one_outside : (names : Naming) (labels : List Label) (o : Option Name) → ((n : Name) → is_name n o ≡ true → has_label n labels ≡ false → is_in_range names (names.word_of n) ≡ false) → is_outside names labels o ≡ true
one_outside names labels None each = refl
one_outside names labels (Some m) each = elim (cases_Bool (has_label m labels)) [
  | inl h ↦ rw h refl
  | inr h ↦ rw (h, each m ((bytes_eq-Decides m m).1 refl) h) refl
]

all_outside : (names : Naming) (labels : List Label) (xs : List Place) → AreOutside names xs labels → list_all (λ x. is_outside names labels (place_name x)) xs ≡ true
all_outside names labels [] out = refl
all_outside names labels (x ∷ xs) out =
    let here : is_outside names labels (place_name x) ≡ true = one_outside names labels (place_name x) (λ n is none. out n (let h : place_mentions n x ≡ true = names_place n x ∙ is in rw h refl) none) in
    rw here (all_outside names labels xs (λ n e none. out n (or_right (place_mentions n x) (is_mentioned n xs) e) none))

pub labelled : (n : Name) (ls : List Label) → is_some (label_place n ls) ≡ has_label n ls
labelled n [] = refl
labelled n (l ∷ ls) = elim (cases_Bool (bytes_eq n l.name)) [ inl h ↦ rw h refl | inr h ↦ rw h (labelled n ls) ]

-- ---- one place after another ----

pub tests_more : {X : Type 0} (f : X → Bool) (xs : List X) (p : ℕ) (x : X) → slice_get xs p ≡ Some x → list_all f (drop p xs) ≡ (f x && list_all f (drop (p + 1) xs))
tests_more f xs p x e = rw add-one (ap (list_all f) (drop_at xs p x e))

-- ---- words ----

-- a word that is found in a table is among its words
pub word_fits : (t : Vec ℕ Global → Bool) (es : List (Vec ℕ Global × ℕ)) → ((k : ℕ) → get_or (map (λ (e : Vec ℕ Global × ℕ). e.1) es) k 0 < 2 ^ 32) → unwrap_or (lookup t es) 0 < 2 ^ 32
word_fits t [] small = omega arith
word_fits t (e ∷ es) small = elim (cases_Bool (t e.0)) [
  | inl h ↦ rw h (small 0)
  | inr h ↦ rw h (word_fits t es (λ k. small (suc k)))
]

-- ---- all together ----

pub fits : (names : Naming) (code : Code) → ((n : Name) → names.word_of n < 2 ^ 32) → ((k : ℕ) → names.return_word k < 2 ^ 32) → names.low % 2 ≡ 0 → names.high % 2 ≡ 0 → list_all (λ x. is_code_word names x.0) (points names code) ≡ true → all_apart (points names code) ≡ true → list_all (λ x. is_outside names code.labels (place_name x)) code.places ≡ true → Fits names code
fits names code words returns low high code_words distinct outside = record {
  words = words;
  return_words = returns;
  low_even = low;
  high_even = high;
  are_code = λ k w p e. all_at (λ x. is_code_word names x.0) (points names code) code_words k (w, p) e;
  distinct = λ j k v w p q e h. apart_is v p w q (all_at (apart (v, p)) (points names code) (all_at (λ x. list_all (apart x) (points names code)) (points names code) distinct j (v, p) e) k (w, q) h);
  outside = are_outside names code.labels code.places outside;
}

pub fit_code : (names : Naming) (code : Code) → Fits names code → list_all (λ x. is_code_word names x.0) (points names code) ≡ true
fit_code names code fit = all_from (λ x. is_code_word names x.0) (points names code) (λ k x e. fit.are_code k x.0 x.1 e)

pub fit_apart : (names : Naming) (code : Code) → Fits names code → all_apart (points names code) ≡ true
fit_apart names code fit = all_from (λ x. list_all (apart x) (points names code)) (points names code)
    (λ j x e. all_from (apart x) (points names code) (λ k y h. is_apart x.0 x.1 y.0 y.1 (fit.distinct j k x.0 y.0 x.1 y.1 e h)))

pub fit_outside : (names : Naming) (code : Code) → Fits names code → list_all (λ x. is_outside names code.labels (place_name x)) code.places ≡ true
fit_outside names code fit = all_outside names code.labels code.places fit.outside
