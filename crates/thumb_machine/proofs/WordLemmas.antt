-- The loop invariants of the table of a naming's words, and that the finished table is the layout's naming.
use Rattle.std.proofs.Common.{◌≡◌, ◌∙◌, inl, inr, ℕ, zero, suc, ◌+◌, ◌≤◌, ◌*◌, ◌%◌, ◌^◌, ◌||◌, ◌&&◌, Bool, true, false, List, [], ◌∷◌, ◌++◌, length, take, Option, Some, None, refl, sym, ap, ap₂, append_assoc, append-nil, subst, arith, true≢false, Bor, if◌then◌else◌}
use Rattle.std.specs.Prelude.{fold, is_some, not, slice_get, unwrap_or}
use Rattle.std.specs.List.{cons_option, filter, filter_map, flat_map}
use Rattle.std.specs.Option.{option_copied}
use Rattle.std.specs.Str.{bytes_eq}
use Rattle.std.specs.declared.alloc.Global.{Global}
use Rattle.std.specs.declared.vec.Vec.{Vec}
use Rattle.std.proofs.lemmas.Bool.{cases_Bool, or_parts}
use Rattle.std.proofs.Math.Bool.{or-false, or-true}
use Rattle.std.proofs.lemmas.List.{take_all}
use Rattle.indexmap.specs.IndexMap.{insert_entry}
use Rattle.thumb_model.specs.Listing.{Name, Statement, Sets, ListingLine, Place, code_of, place_of, places_of}
use Rattle.thumb_model.specs.Layout.{cleared, is_among, label_address, lies_in, or_else, set_address, set_in, size_at}
use Rattle.thumb_model.specs.Naming.{word_by}
use Rattle.listing_parser.proofs.LabelLemmas.{among_append}
use Rattle.label_layout.proofs.Labels.{or_none}
use Rattle.listing_parser.specs.Targets.{defined_in, set_names}
use Rattle.thumb_machine.specs.Laid.{firsts, lies_nowhere, outside_word, own_word, nowhere, place_name}
use Rattle.thumb_machine.specs.Words.{AreFixed, AreOwn, Entries, fixed_by, fixed_word, with_name, word_in}
use Rattle.common_lemmas.proofs.Lists.{same_bytes}

-- ---- tables ----

-- a name that is put in, new or not
pub put_in : (q : Name) (es : Entries) (k : Vec ℕ Global) (w : ℕ) → word_in (insert_entry (λ x y. bytes_eq x.items y.items) es k w) q ≡ (if bytes_eq q k.items then Some w else word_in es q)
put_in q [] k w = refl
put_in q (x ∷ es) k w = elim (cases_Bool (bytes_eq k.items x.0.items)) [
  | inl same ↦ rw same (elim (cases_Bool (bytes_eq q x.0.items)) [
    | inl here ↦ rw (here, ap (bytes_eq q) (same_bytes k.items x.0.items same) ∙ here) refl
    | inr there ↦ rw (there, ap (bytes_eq q) (same_bytes k.items x.0.items same) ∙ there) refl
  ])
  | inr other ↦ rw other (elim (cases_Bool (bytes_eq q x.0.items)) [
    | inl here ↦ rw (here, apart q k.items x.0.items here other) refl
    | inr there ↦ rw there (put_in q es k w)
  ])
] where
  apart : (q k x : Name) → bytes_eq q x ≡ true → bytes_eq k x ≡ false → bytes_eq q k ≡ false
  apart q k x here other = elim (cases_Bool (bytes_eq q k)) [
    | inl same ↦ absurd (true≢false (sym here ∙ ap (λ (n : Name). bytes_eq n x) (same_bytes q k same) ∙ other))
    | inr differs ↦ differs
  ]

-- ---- lists of names ----

among_last : (n k : Name) (xs : List Name) → is_among n (xs ++ k ∷ []) ≡ (is_among n xs || bytes_eq n k)
among_last n k xs = among_append n xs (k ∷ []) ∙ ap (λ b. is_among n xs || b) (or-false (bytes_eq n k))

-- ---- fixed words ----

-- one more name has its word
pub fixed_more : (base : ℕ) (lines : List ListingLine) (known : List Name) (k : Vec ℕ Global) (w : ℕ) (old new : Entries) → fixed_word base lines k.items ≡ Some w
    → new ≡ insert_entry (λ x y. bytes_eq x.items y.items) old k w → AreFixed base lines known old → AreFixed base lines (known ++ k.items ∷ []) new
fixed_more base lines known k w old new is put are = record {
  words = λ n. ap (λ (es : Entries). word_in es n) put ∙ put_in n old k w ∙ elim (cases_Bool (bytes_eq n k.items)) [
    | inl same ↦ rw (same, among_last n k.items known, same, or-true (is_among n known)) (sym (ap (fixed_word base lines) (same_bytes n k.items same) ∙ is))
    | inr other ↦ rw (other, among_last n k.items known, other, or-false (is_among n known)) (are.words n)
  ];
}

-- a name without a word changes nothing
pub fixed_none : (base : ℕ) (lines : List ListingLine) (known : List Name) (k : Name) (old : Entries) → fixed_word base lines k ≡ None → AreFixed base lines known old → AreFixed base lines (known ++ k ∷ []) old
fixed_none base lines known k old none are = record {
  words = λ n. are.words n ∙ elim (cases_Bool (bytes_eq n k)) [
    | inl same ↦ rw (among_last n k known, same, or-true (is_among n known)) (elim (cases_Bool (is_among n known)) [
      | inl h ↦ rw h refl
      | inr h ↦ rw h (sym (ap (fixed_word base lines) (same_bytes n k same) ∙ none))
    ])
    | inr other ↦ rw (among_last n k known, other, or-false (is_among n known)) refl
  ];
}

-- a name that no line defines has no word
undefined : (n : Name) (base : ℕ) (ls : List ListingLine) → is_among n (flat_map defined_in ls) ≡ false → (label_address n base ls ≡ None) × (set_address n ls ≡ None)
undefined n base [] e = (refl, refl)
undefined n base (l ∷ ls) e =
    let p = or_parts (is_among n (defined_in l)) (is_among n (flat_map defined_in ls)) (sym (among_append n (defined_in l) (flat_map defined_in ls)) ∙ e) in
    let q = or_parts (is_among n l.names) (is_among n (set_names l.statement)) (sym (among_append n l.names (set_names l.statement)) ∙ p.0) in
    let rest = undefined n (base + size_at l.statement base) ls p.1 in
    (rw q.0 rest.0, unset l.statement (set_address n ls) q.1 rest.1) where
      unset : (s : Statement) (rest : Option ℕ) → is_among n (set_names s) ≡ false → rest ≡ None → set_in n s rest ≡ None
      unset (Sets name address) rest e none = rw (sym (or-false (bytes_eq n name)) ∙ e) none
      unset s rest e none = none

-- after all lines, each label and set name has its word
pub all_fixed : (base : ℕ) (lines : List ListingLine) (es : Entries) → AreFixed base lines (flat_map defined_in lines) es → AreOwn base lines [] es
all_fixed base lines es are = record {
  words = λ n. are.words n ∙ elim (cases_Bool (is_among n (flat_map defined_in lines))) [
    | inl h ↦ rw h (sym (or_none (fixed_word base lines n)))
    | inr h ↦ let none = undefined n base lines h in rw (h, none.0, none.1) refl
  ];
}

-- ---- own words ----

own_more : (i : ℕ) (n k : Name) (known : List Name) → own_word i n (known ++ k ∷ []) ≡ or_else (own_word i n known) (if bytes_eq n k then Some ((805306368 + 256 * (i + length known)) % 2 ^ 32) else None)
own_more i n k [] = let e : i ≡ i + 0 = omega arith in ap (λ (j : ℕ). if bytes_eq n k then Some ((805306368 + 256 * j) % 2 ^ 32) else None) e
own_more i n k (x ∷ known) = elim (cases_Bool (bytes_eq n x)) [
  | inl h ↦ rw h refl
  | inr h ↦ let e : i + 1 + length known ≡ i + length (x ∷ known) = omega arith in
      rw h (own_more (i + 1) n k known ∙ ap (λ (j : ℕ). or_else (own_word (i + 1) n known) (if bytes_eq n k then Some ((805306368 + 256 * j) % 2 ^ 32) else None)) e)
]

own_among : (i : ℕ) (n : Name) (known : List Name) → is_some (own_word i n known) ≡ is_among n known
own_among i n [] = refl
own_among i n (x ∷ known) = elim (cases_Bool (bytes_eq n x)) [ inl h ↦ rw h refl | inr h ↦ rw h (own_among (i + 1) n known) ]

-- a name has a fixed word exactly where it lies somewhere
lies_fixed : (l c s : Option ℕ) → is_some (fixed_by l c s) ≡ is_some (or_else l (cleared s))
lies_fixed None c None = refl
lies_fixed None c (Some a) = refl
lies_fixed (Some a) None s = refl
lies_fixed (Some a) (Some p) s = refl

pub some_or : (a b : Option ℕ) → is_some (or_else a b) ≡ (is_some a || is_some b)
some_or None b = refl
some_or (Some a) b = refl

is_there : (base : ℕ) (lines : List ListingLine) (n : Name) (known : List Name) → is_some (or_else (fixed_word base lines n) (own_word 0 n known)) ≡ (is_some (lies_in base lines n) || is_among n known)
is_there base lines n known = some_or (fixed_word base lines n) (own_word 0 n known)
    ∙ ap₂ (λ a b. a || b) (lies_fixed (label_address n base lines) (place_of (code_of lines) n) (set_address n lines)) (own_among 0 n known)

-- a name that has a word already adds none
pub own_same : (base : ℕ) (lines : List ListingLine) (n : Name) (known : List Name) (es : Entries) → AreOwn base lines known es → is_some (word_in es n) ≡ true → with_name base lines known (Some n) ≡ known
own_same base lines n known es are there = let e = sym (is_there base lines n known) ∙ ap is_some (sym (are.words n)) ∙ there in rw e refl

-- a name that has none gets one of its own
pub own_next : (base : ℕ) (lines : List ListingLine) (n : Name) (known : List Name) (es : Entries) → AreOwn base lines known es → is_some (word_in es n) ≡ false → with_name base lines known (Some n) ≡ known ++ n ∷ []
own_next base lines n known es are none = let e = sym (is_there base lines n known) ∙ ap is_some (sym (are.words n)) ∙ none in rw e refl

nothing_there : (o : Option ℕ) → is_some o ≡ false → o ≡ None
nothing_there None e = refl
nothing_there (Some a) e = absurd (true≢false e)

pub own_put : (base : ℕ) (lines : List ListingLine) (known : List Name) (k : Vec ℕ Global) (w : ℕ) (old new : Entries) → AreOwn base lines known old → is_some (word_in old k.items) ≡ false
    → w ≡ (805306368 + 256 * length known) % 2 ^ 32 → new ≡ insert_entry (λ x y. bytes_eq x.items y.items) old k w → AreOwn base lines (known ++ k.items ∷ []) new
own_put base lines known k w old new are none is put = record {
  words = λ n. ap (λ (es : Entries). word_in es n) put ∙ put_in n old k w ∙ elim (cases_Bool (bytes_eq n k.items)) [
    | inl same ↦
        let gone : or_else (fixed_word base lines n) (own_word 0 n known) ≡ None = sym (are.words n) ∙ nothing_there (word_in old n) (ap (λ (m : Name). is_some (word_in old m)) (same_bytes n k.items same) ∙ none) in
        let here : (if bytes_eq n k.items then Some w else word_in old n) ≡ Some w = rw same refl in
        let z : 0 + length known ≡ length known = omega arith in
        let mine : (if bytes_eq n k.items then Some ((805306368 + 256 * (0 + length known)) % 2 ^ 32) else None) ≡ Some w =
        rw same (ap (λ (j : ℕ). Some j) (ap (λ (m : ℕ). (805306368 + 256 * m) % 2 ^ 32) z ∙ sym is)) in
        here ∙ sym (ap (or_else (fixed_word base lines n)) (own_more 0 n k.items known) ∙ last (fixed_word base lines n) (own_word 0 n known) _ gone ∙ mine)
    | inr other ↦ rw (other, own_more 0 n k.items known, other) (are.words n ∙ ap (or_else (fixed_word base lines n)) (sym (or_none (own_word 0 n known))))
  ];
} where
  last : (a b c : Option ℕ) → or_else a b ≡ None → or_else a (or_else b c) ≡ c
  last None None c e = refl
  last None (Some b) c e = absurd (let bad : Some b ≡ None = e in cc)
  last (Some a) b c e = absurd (let bad : Some a ≡ None = e in cc)

-- ---- the words of a naming ----

word_is : (l c s o : Option ℕ) → unwrap_or (or_else (fixed_by l c s) o) 0 ≡ word_by (unwrap_or (or_else s o) 0) l c
word_is None c s o = refl
word_is (Some a) None s o = refl
word_is (Some a) (Some p) s o = refl

pub laid_word : (base : ℕ) (lines : List ListingLine) (es : Entries) → AreOwn base lines (nowhere base lines) es → (n : Name) → unwrap_or (word_in es n) 0
    ≡ word_by (outside_word base lines n) (label_address n base lines) (place_of (code_of lines) n)
laid_word base lines es are n = ap (λ (o : Option ℕ). unwrap_or o 0) (are.words n) ∙ word_is (label_address n base lines) (place_of (code_of lines) n) (set_address n lines) (own_word 0 n (nowhere base lines))

-- a look-up by a name's bytes
pub found : (n m : Name) (es : Entries) (o : Option (Bor ℕ)) → m ≡ n → option_copied o ≡ word_in es m → is_some (word_in es n) ≡ is_some o
found n m es o same e = ap (λ (k : Name). is_some (word_in es k)) (sym same) ∙ ap is_some (sym e) ∙ copied o where
  copied : (o : Option (Bor ℕ)) → is_some (option_copied o) ≡ is_some o
  copied None = refl
  copied (Some x) = refl

-- ---- places, one after another ----

fold_suc : {X Y : Type 0} (f : Y → X → Y) (a : Y) (xs : List X) (i : ℕ) (x : X) → slice_get xs i ≡ Some x → fold f a (take (suc i) xs) ≡ f (fold f a (take i xs)) x
fold_suc f a [] i x e = absurd (let bad : None ≡ Some x = e in cc)
fold_suc f a (y ∷ ys) zero x e = let some : Some y ≡ Some x = e in let same : y ≡ x = cc in ap (f a) same
fold_suc f a (y ∷ ys) (suc i) x e = fold_suc f (f a y) ys i x e

abbrev pub known_before : ℕ → List ListingLine → ℕ → List Name
known_before base lines p = fold (λ known x. with_name base lines known (place_name x)) [] (take p (places_of lines))

pub known_more : (base : ℕ) (lines : List ListingLine) (p : ℕ) (x : Place) → slice_get (places_of lines) p ≡ Some x → known_before base lines (p + 1) ≡ with_name base lines (known_before base lines p) (place_name x)
known_more base lines p x e = let n : p + 1 ≡ suc p = omega arith in ap (known_before base lines) n ∙ fold_suc (λ known y. with_name base lines known (place_name y)) [] (places_of lines) p x e

filter_both : (a b c : Name → Bool) → ((m : Name) → (b m && a m) ≡ c m) → (xs : List Name) → filter a (filter b xs) ≡ filter c xs
filter_both a b c both [] = refl
filter_both a b c both (x ∷ xs) = elim (cases_Bool (b x)) [
  | inl e ↦
      let same : a x ≡ c x = sym (ap (λ t. t && a x) e) ∙ both x in
      elim (cases_Bool (a x)) [
        | inl t ↦ (let there : c x ≡ true = sym same ∙ t in rw (e, t, there) (ap (λ (ys : List Name). x ∷ ys) (filter_both a b c both xs)))
        | inr f ↦ (let there : c x ≡ false = sym same ∙ f in rw (e, f, there) (filter_both a b c both xs))
      ]
  | inr e ↦ (let there : c x ≡ false = sym (both x) ∙ ap (λ t. t && a x) e in rw (e, there) (filter_both a b c both xs))
]

filter_none : (a : Name → Bool) → ((m : Name) → a m ≡ true) → (xs : List Name) → filter a xs ≡ xs
filter_none a each [] = refl
filter_none a each (x ∷ xs) = let here = each x in rw here (ap (λ (ys : List Name). x ∷ ys) (filter_none a each xs))

abbrev is_other : List Name → Name → Bool
is_other known m = not (is_among m known)

-- the known names, and after them the new ones among further names
abbrev behind_known : ℕ → List ListingLine → List Name → List Name → List Name
behind_known base lines known names = known ++ filter (is_other known) (firsts (filter (lies_nowhere base lines) names))

-- one further name, and those after it
known_step : (base : ℕ) (lines : List ListingLine) (known names : List Name) (o : Option Name) → behind_known base lines (with_name base lines known o) names ≡ behind_known base lines known (cons_option o names)
known_step base lines known names None = refl
known_step base lines known names (Some n) = elim (cases_Bool (is_some (lies_in base lines n))) [
  | inl lies ↦ rw lies refl
  | inr lost ↦ elim (cases_Bool (is_among n known)) [
    | inl old ↦ rw (lost, old) (ap (λ (ms : List Name). known ++ ms) (sym (filter_both (is_other known) (λ m. not (bytes_eq m n)) (is_other known) (skipped old) rest)))
    | inr new ↦ rw (lost, new)
        (append_assoc known (n ∷ []) (filter (is_other (known ++ n ∷ [])) rest)
        ∙ ap (λ (ms : List Name). known ++ n ∷ ms) (sym (filter_both (is_other known) (λ m. not (bytes_eq m n)) (is_other (known ++ n ∷ [])) apart rest)))
  ]
] where
  rest : List Name
  rest = firsts (filter (lies_nowhere base lines) names)

  skipped : is_among n known ≡ true → (m : Name) → (not (bytes_eq m n) && is_other known m) ≡ is_other known m
  skipped old m = elim (cases_Bool (bytes_eq m n)) [
    | inl e ↦ (let known_too : is_among m known ≡ true = ap (λ (k : Name). is_among k known) (same_bytes m n e) ∙ old in rw (e, known_too) refl)
    | inr e ↦ rw e refl
  ]

  apart : (m : Name) → (not (bytes_eq m n) && is_other known m) ≡ is_other (known ++ n ∷ []) m
  apart m = neither (bytes_eq m n) (is_among m known) ∙ ap not (sym (among_last m n known)) where
    neither : (a b : Bool) → (not a && not b) ≡ not (b || a)
    neither true true = refl
    neither true false = refl
    neither false true = refl
    neither false false = refl

known_names : (base : ℕ) (lines : List ListingLine) (known : List Name) (ps : List Place) → fold (λ ns x. with_name base lines ns (place_name x)) known ps ≡ behind_known base lines known (filter_map place_name ps)
known_names base lines known [] = sym (append-nil known)
known_names base lines known (p ∷ ps) = known_names base lines (with_name base lines known (place_name p)) ps ∙ known_step base lines known (filter_map place_name ps) (place_name p)

pub known_all : (base : ℕ) (lines : List ListingLine) (p : ℕ) → length (places_of lines) ≤ p → known_before base lines p ≡ nowhere base lines
known_all base lines p le =
    ap (fold (λ known x. with_name base lines known (place_name x)) []) (take_all p (places_of lines) le)
    ∙ known_names base lines [] (places_of lines) ∙ filter_none (is_other []) (λ m. refl) (nowhere base lines)

-- the invariant after p places: `count` external names have words of their own
pub record SoManyOwn (base : ℕ) (lines : List ListingLine) (p count : ℕ) (es : Entries) : Type 0 where
  pub own : AreOwn base lines (known_before base lines p) es
  pub counted : count ≡ length (known_before base lines p)
  pub few : count ≤ p

-- a place that mentions nothing
pub own_nothing : (base : ℕ) (lines : List ListingLine) (p count : ℕ) (es : Entries) (x : Place) → Some x ≡ slice_get (places_of lines) p → None ≡ place_name x → SoManyOwn base lines p count es → SoManyOwn base lines (p + 1) count es
own_nothing base lines p count es x here none far =
    let e : known_before base lines (p + 1) ≡ known_before base lines p = known_more base lines p x (sym here) ∙ ap (with_name base lines (known_before base lines p)) (sym none) in
    record { own = rw e far.own; counted = rw e far.counted; few = let f = far.few in omega arith }

-- a place that mentions a name
pub own_name : (base : ℕ) (lines : List ListingLine) (p count next : ℕ) (new : Entries) (x : Place) (n : Name) → Some x ≡ slice_get (places_of lines) p → Some n ≡ place_name x
    → AreOwn base lines (with_name base lines (known_before base lines p) (Some n)) new → next ≡ length (with_name base lines (known_before base lines p) (Some n)) → next ≤ p + 1 → SoManyOwn base lines (p + 1) next new
own_name base lines p count next new x n here some own counted few =
    let e : known_before base lines (p + 1) ≡ with_name base lines (known_before base lines p) (Some n) = known_more base lines p x (sym here) ∙ ap (with_name base lines (known_before base lines p)) (sym some) in
    record { own = subst (λ (k : List Name). AreOwn base lines k new) (sym e) own; counted = counted ∙ ap length (sym e); few = few }
