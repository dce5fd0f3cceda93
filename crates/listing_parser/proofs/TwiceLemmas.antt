-- That the search by known names finds the first line that defines a name again.
use Rattle.std.proofs.Common.{◌≡◌, ◌∙◌, inl, inr, ℕ, ◌+◌, ◌||◌, Bool, true, false, List, [], ◌∷◌, ◌++◌, length, map, refl, sym, ap, subst, arith, append_assoc, append-nil, Vec, Some, None}
use Rattle.std.specs.Prelude.{not, Decides}
use Rattle.std.specs.Bool.{one_answer}
use Rattle.std.specs.List.{flat_map, list_any}
use Rattle.std.proofs.lemmas.Bool.{cases_Bool, or_cases, false_from_ne_true}
use Rattle.std.specs.Str.{bytes_eq}
use Rattle.std.specs.declared.alloc.Global.{Global}
use Rattle.std.proofs.lemmas.Slice.Eq.{bytes_eq-Decides}
use Rattle.thumb_model.specs.Listing.{Name, ListingLine}
use Rattle.listing_parser.proofs.LabelLemmas.{among_append, among_front, among_last}
use Rattle.thumb_model.specs.Layout.{is_among}
use Rattle.listing_parser.specs.Targets.{defined_in, DefineOnce, IsAgain, Known, Twice, IsFirstAgain}
use Rattle.listing_parser.proofs.FirstTwice.{first_twice, is_again}
use Rattle.common_lemmas.proofs.Booleans.{or_false}

pub among_keys : (name : Name) (ks : List (Vec ℕ Global)) → list_any (λ (k : Vec ℕ Global). bytes_eq name k.items) ks ≡ is_among name (map (λ (k : Vec ℕ Global). k.items) ks)
among_keys name [] = refl
among_keys name (k ∷ ks) = ap (λ b. bytes_eq name k.items || b) (among_keys name ks)

pub not_not : (b : Bool) → not (not b) ≡ b
not_not true = refl
not_not false = refl

again_step : (known ns ms : List Name) (n : Name) (b : Bool) → is_again (known ++ n ∷ []) (ns ++ ms) ≡ (is_again (known ++ n ∷ []) ns || is_again (known ++ n ∷ ns) ms)
    → (b || is_again (known ++ n ∷ []) (ns ++ ms)) ≡ ((b || is_again (known ++ n ∷ []) ns) || is_again (known ++ n ∷ ns) ms)
again_step known ns ms n true step = refl
again_step known ns ms n false step = step

again_append : (known ns ms : List Name) → is_again known (ns ++ ms) ≡ (is_again known ns || is_again (known ++ ns) ms)
again_append known [] ms = ap (λ (k : List Name). is_again k ms) (sym (append-nil known))
again_append known (n ∷ ns) ms = again_step known ns ms n (is_among n known)
    (again_append (known ++ n ∷ []) ns ms ∙ ap (λ (k : List Name). is_again (known ++ n ∷ []) ns || is_again k ms) (append_assoc known (n ∷ []) ns))

-- the names of a line in two parts
pub again_then : (known ns ms : List Name) (b : Bool) → b ≡ is_again known ns → b ≡ true → true ≡ is_again known (ns ++ ms)
again_then known ns ms b e h = sym (again_append known ns ms ∙ ap (λ (x : Bool). x || is_again (known ++ ns) ms) (sym e ∙ h))

pub again_else : (known more ns ms : List Name) (a b : Bool) → b ≡ is_again known ns → b ≡ false → more ≡ known ++ ns → a ≡ is_again more ms → a ≡ is_again known (ns ++ ms)
again_else known more ns ms a b e h all f = f ∙ ap (λ (k : List Name). is_again k ms) all ∙ sym (again_append known ns ms ∙ ap (λ (x : Bool). x || is_again (known ++ ns) ms) (sym e ∙ h))

-- a name that was added, or was there
pub added_among : (q name : Name) (old new : List Name) (b : Bool) → b ≡ is_among name old → (b ≡ false → new ≡ old ++ name ∷ []) → (b ≡ true → new ≡ old) → is_among q new ≡ (is_among q old || bytes_eq q name)
added_among q name old new true e added kept = ap (is_among q) (kept refl) ∙ there (bytes_eq q name) refl where
  there : (c : Bool) → bytes_eq q name ≡ c → is_among q old ≡ (is_among q old || c)
  there true h = let same : q ≡ name = (bytes_eq-Decides q name).0 h in let known : is_among q old ≡ true = rw same (sym e) in rw known refl
  there false h = sym (or_false (is_among q old))
added_among q name old new false e added kept = ap (is_among q) (added refl) ∙ among_append q old (name ∷ []) ∙ ap (λ c. is_among q old || c) (last (bytes_eq q name)) where
  last : (c : Bool) → (c || false) ≡ c
  last true = refl
  last false = refl

-- ---- names that are defined again ----

pub same_name : (n : Name) → bytes_eq n n ≡ true
same_name n = (bytes_eq-Decides n n).1 refl

pub among_first : (n : Name) (ns : List Name) → is_among n (n ∷ ns) ≡ true
among_first n ns = ap (λ b. b || is_among n ns) (same_name n)

among_behind : (name n : Name) (ns : List Name) → is_among name ns ≡ true → is_among name (n ∷ ns) ≡ true
among_behind name n ns h = by (bytes_eq name n) h where
  by : (b : Bool) → is_among name ns ≡ true → (b || is_among name ns) ≡ true
  by true e = refl
  by false e = e

-- a cut at a name
record IsCut (name : Name) (names : List Name) : Type 0 where
  front : List Name
  back : List Name
  is : names ≡ front ++ name ∷ back

cut_at : (name : Name) (names : List Name) → is_among name names ≡ true → IsCut name names
cut_at name [] h = absurd (cc)
cut_at name (n ∷ ns) h = elim (or_cases (bytes_eq name n) (is_among name ns) h) [
  | inl e ↦ record { front = []; back = ns; is = ap (λ k. k ∷ ns) (sym ((bytes_eq-Decides name n).0 e)) }
  | inr e ↦ (let r = cut_at name ns e in record { front = n ∷ r.front; back = r.back; is = ap (λ (ks : List Name). n ∷ ks) r.is })
]

is_told : (known names : List Name) → is_again known names ≡ true → IsAgain known names
is_told known [] h = absurd (cc)
is_told known (n ∷ ns) h = elim (or_cases (is_among n known) (is_again (known ++ n ∷ []) ns) h) [
  | inl e ↦ Known n (among_first n ns) e
  | inr e ↦ by (is_told (known ++ n ∷ []) ns e)
] where
  by : IsAgain (known ++ n ∷ []) ns → IsAgain known (n ∷ ns)
  by (Known name a k) = elim (or_cases (is_among name known) (is_among name (n ∷ [])) (sym (among_append name known (n ∷ [])) ∙ k)) [
    | inl e ↦ Known name (among_behind name n ns a) e
    | inr e ↦ (let cut = cut_at name ns a in Twice (n ∷ cut.front) name cut.back (ap (λ (ks : List Name). n ∷ ks) cut.is) (twice name cut.front e))
  ] where
    twice : (name : Name) (front : List Name) → is_among name (n ∷ []) ≡ true → is_among name (n ∷ front) ≡ true
    twice name front e = elim (or_cases (bytes_eq name n) false e) [ inl t ↦ ap (λ b. b || is_among name front) t | inr t ↦ absurd (cc) ]
  by (Twice front name back e h) = Twice (n ∷ front) name back (ap (λ (ks : List Name). n ∷ ks) e) (among_behind name n front h)

known_again : (known names : List Name) (name : Name) → is_among name names ≡ true → is_among name known ≡ true → is_again known names ≡ true
known_again known [] name h k = absurd (cc)
known_again known (n ∷ ns) name h k = elim (or_cases (bytes_eq name n) (is_among name ns) h) [
  | inl e ↦ ap (λ b. b || is_again (known ++ n ∷ []) ns) (subst (λ (m : Name). is_among m known ≡ true) ((bytes_eq-Decides name n).0 e) k)
  | inr e ↦ by (is_among n known) (known_again (known ++ n ∷ []) ns name e (among_front name known (n ∷ []) k))
] where
  by : (b : Bool) → is_again (known ++ n ∷ []) ns ≡ true → (b || is_again (known ++ n ∷ []) ns) ≡ true
  by true e = refl
  by false e = e

twice_again : (known front back : List Name) (name : Name) → is_among name front ≡ true → is_again known (front ++ name ∷ back) ≡ true
twice_again known [] back name h = absurd (cc)
twice_again known (n ∷ ns) back name h = by (is_among n known) (elim (or_cases (bytes_eq name n) (is_among name ns) h) [
  | inl e ↦ known_again (known ++ n ∷ []) (ns ++ name ∷ back) name
      (among_append name ns (name ∷ back) ∙ last (is_among name ns) (among_first name back))
      (among_last name n known e)
  | inr e ↦ twice_again (known ++ n ∷ []) ns back name e
]) where
  by : (b : Bool) → is_again (known ++ n ∷ []) (ns ++ name ∷ back) ≡ true → (b || is_again (known ++ n ∷ []) (ns ++ name ∷ back)) ≡ true
  by true e = refl
  by false e = e

  last : (a : Bool) → {b : Bool} → b ≡ true → (a || b) ≡ true
  last true e = refl
  last false e = e

told_is : (known names : List Name) → IsAgain known names → is_again known names ≡ true
told_is known names (Known name a k) = known_again known names name a k
told_is known names (Twice front name back e h) = ap (is_again known) e ∙ twice_again known front back name h

pub again_decides : (known names : List Name) (b : Bool) → b ≡ is_again known names → Decides b (IsAgain known names)
again_decides known names b e = (λ t. is_told known names (sym e ∙ t), λ a. e ∙ told_is known names a)

pub one_again : (name : Name) (known : List Name) → is_among name known ≡ is_again known (name ∷ [])
one_again name known = sym (or_false (is_among name known))

pub again_is : (known names : List Name) (b : Bool) → Decides b (IsAgain known names) → b ≡ is_again known names
again_is known names b d = one_answer b (is_again known names) d (again_decides known names (is_again known names) refl)

-- ---- the first line that defines a name again ----

-- where these names are known, no line defines a name again
abbrev OnceBehind : List Name → List ListingLine → Type 0
OnceBehind known lines = (before : List ListingLine) (l : ListingLine) (after : List ListingLine) → lines ≡ before ++ l ∷ after → IsAgain (known ++ flat_map defined_in before) (defined_in l) → ⊥

once_tail : (known : List Name) (x : ListingLine) (xs : List ListingLine) → OnceBehind known (x ∷ xs) → OnceBehind (known ++ defined_in x) xs
once_tail known x xs once before l after e a =
    once (x ∷ before) l after (ap (λ (ls : List ListingLine). x ∷ ls) e)
    (subst (λ (ns : List Name). IsAgain ns (defined_in l)) (append_assoc known (defined_in x) (flat_map defined_in before)) a)

none_from : (n : ℕ) (known : List Name) (ls : List ListingLine) → OnceBehind known ls → first_twice n known ls ≡ None
none_from n known [] once = refl
none_from n known (x ∷ xs) once =
    let new : is_again known (defined_in x) ≡ false =
    false_from_ne_true (is_again known (defined_in x)) (λ h. once [] x xs refl (subst (λ (ns : List Name). IsAgain ns (defined_in x)) (sym (append-nil known)) (is_told known (defined_in x) h))) in
    rw new (none_from (n + 1) (known ++ defined_in x) xs (once_tail known x xs once))

first_line : (known : List Name) (x : ListingLine) (n : ℕ) (xs : List ListingLine) → first_twice n known (x ∷ xs) ≡ None → (is_again known (defined_in x) ≡ false) × (first_twice (n + 1) (known ++ defined_in x) xs ≡ None)
first_line known x n xs e = elim (cases_Bool (is_again known (defined_in x))) [
  | inl h ↦ absurd (let bad : Some n ≡ None = rw h at e in cc)
  | inr h ↦ (h, rw h at e)
]

from_none : (n : ℕ) (known : List Name) (ls : List ListingLine) → first_twice n known ls ≡ None → OnceBehind known ls
from_none n known [] e [] l after cut a = absurd (cc)
from_none n known [] e (b ∷ bs) l after cut a = absurd (cc)
from_none n known (x ∷ xs) e [] l after cut a =
    let same : x ≡ l = cc in
    let new = (first_line known x n xs e).0 in
    let again : is_again known (defined_in x) ≡ true =
    told_is known (defined_in x) (subst (λ (y : ListingLine). IsAgain known (defined_in y)) (sym same) (subst (λ (ns : List Name). IsAgain ns (defined_in l)) (append-nil known) a)) in
    cc
from_none n known (x ∷ xs) e (b ∷ bs) l after cut a =
    let same : x ≡ b = cc in
    let rest : xs ≡ bs ++ l ∷ after = cc in
    from_none (n + 1) (known ++ defined_in x) xs (first_line known x n xs e).1 bs l after rest
    (subst (λ (ns : List Name). IsAgain ns (defined_in l)) (sym (append_assoc known (defined_in x) (flat_map defined_in bs)))
    (subst (λ (y : ListingLine). IsAgain (known ++ (defined_in y ++ flat_map defined_in bs)) (defined_in l)) (sym same) a))

pub once_none : (ls : List ListingLine) → DefineOnce ls → first_twice 1 [] ls ≡ None
once_none ls once = none_from 1 [] ls once

pub none_once : (ls : List ListingLine) → first_twice 1 [] ls ≡ None → DefineOnce ls
none_once ls e = from_none 1 [] ls e

-- the first line that defines a name again where these names are known
record IsFirst (n m : ℕ) (known : List Name) (lines : List ListingLine) : Type 0 where
  before : List ListingLine
  line : ListingLine
  after : List ListingLine
  cut : lines ≡ before ++ line ∷ after
  number : m ≡ n + length before
  again : IsAgain (known ++ flat_map defined_in before) (defined_in line)
  once : first_twice n known before ≡ None

first_from : (n m : ℕ) (known : List Name) (ls : List ListingLine) → first_twice n known ls ≡ Some m → IsFirst n m known ls
first_from n m known [] e = absurd (cc)
first_from n m known (x ∷ xs) e = elim (cases_Bool (is_again known (defined_in x))) [
  | inl h ↦
      let here : Some n ≡ Some m = rw h at e in
      record {
        before = [];
        line = x;
        after = xs;
        cut = refl;
        number = (let same : n ≡ m = cc in omega arith);
        again = subst (λ (ns : List Name). IsAgain ns (defined_in x)) (sym (append-nil known)) (is_told known (defined_in x) h);
        once = refl;
      }
  | inr h ↦
      let r = first_from (n + 1) m (known ++ defined_in x) xs (rw h at e) in
      record {
        before = x ∷ r.before;
        line = r.line;
        after = r.after;
        cut = ap (λ (ls : List ListingLine). x ∷ ls) r.cut;
        number = omega (arith, r.number);
        again = subst (λ (ns : List Name). IsAgain ns (defined_in r.line)) (append_assoc known (defined_in x) (flat_map defined_in r.before)) r.again;
        once = rw h r.once;
      }
]

pub some_first : (ls : List ListingLine) (m : ℕ) → first_twice 1 [] ls ≡ Some m → IsFirstAgain ls m
some_first ls m e =
    let r = first_from 1 m [] ls e in
    record { before = r.before; line = r.line; after = r.after; cut = r.cut; number = omega (arith, r.number); again = r.again; once = none_once r.before r.once }

some_from : (n m : ℕ) (known : List Name) (before after : List ListingLine) (l : ListingLine) → first_twice n known before ≡ None → is_again (known ++ flat_map defined_in before) (defined_in l) ≡ true → m ≡ n + length before
    → first_twice n known (before ++ l ∷ after) ≡ Some m
some_from n m known [] after l once again at =
    let here : is_again known (defined_in l) ≡ true = ap (λ (ns : List Name). is_again ns (defined_in l)) (sym (append-nil known)) ∙ again in
    rw here (ap (λ k. Some k) (let e : n ≡ m = omega arith in e))
some_from n m known (b ∷ bs) after l once again at =
    let parts = first_line known b n bs once in
    let new = parts.0 in
    rw new (some_from (n + 1) m (known ++ defined_in b) bs after l parts.1
    (ap (λ (ns : List Name). is_again ns (defined_in l)) (append_assoc known (defined_in b) (flat_map defined_in bs)) ∙ again) (omega arith))

pub first_some : (ls : List ListingLine) (m : ℕ) → IsFirstAgain ls m → first_twice 1 [] ls ≡ Some m
first_some ls m f = ap (first_twice 1 []) f.cut ∙ some_from 1 m [] f.before f.after f.line (once_none f.before f.once) (told_is (flat_map defined_in f.before) (defined_in f.line) f.again) (omega (arith, f.number))
