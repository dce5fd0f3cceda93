-- The values that the uses of items give each name: the positional words in order, and the options.
use Rattle.std.proofs.Common.{◌≡◌, ◌∙◌, inl, inr, ◌≤◌, ◌++◌, ◌&&◌, ◌||◌, Bool, true, false, not, List, [], ◌∷◌, length, map, Option, Some, None, refl, sym, ap, ap₂, arith, cond, true≢false, is_some, option_map}
use Rattle.std.specs.Prelude.{find, unwrap_or}
use Rattle.std.specs.List.{flat_map, list_all, list_any}
use Rattle.std.specs.Str.{bytes_eq}
use Rattle.std.proofs.lemmas.List.Folds.{list_any-append}
use Rattle.clap.specs.Words.{first_of}
use Rattle.command_line.specs.Words.{Text, Given, Item, word, joined, apart, are_distinct, is_allowed, is_dashed, is_named, is_one_of, options_in, value_of, words_in}
use Rattle.command_line.proofs.Reading.{more, once_after}
use Rattle.command_line.proofs.Law.{rows}
use Rattle.command_line.proofs.Lookup.{lacks}
use Rattle.command_line.proofs.Bytes.{same_text, text_self, text_sym}
use Rattle.command_line.proofs.Items.{item_uses, tail_uses}
use Rattle.std.proofs.lemmas.Bool.{and_parts, cases_Bool, not-true, or_parts}
use Rattle.common_lemmas.proofs.Booleans.{or_false}

-- the names of the positional words are different from each other and from every option
abbrev pub are_apart : List Text → List Text → Bool
are_apart [] opts = true
are_apart (id ∷ ids) opts = not (is_one_of (ids ++ opts) id) && are_apart ids opts

pub first_row : (id : Text) (us : List Given) → first_of id (rows us) ≡ value_of id us
first_row id [] = refl
first_row id (u ∷ us) = elim (cases_Bool (bytes_eq u.0 id)) [ inl same ↦ rw same refl | inr other ↦ rw other (first_row id us) ]

named_value : (id : Text) (us : List Given) → is_named id us ≡ is_some (value_of id us)
named_value id [] = refl
named_value id (u ∷ us) = elim (cases_Bool (bytes_eq u.0 id)) [ inl same ↦ rw same refl | inr other ↦ rw other (named_value id us) ]

-- the words in order, and none for the names after them
abbrev pub padded : List Text → List Text → List (Option Text)
padded [] ps = []
padded (id ∷ ids) [] = None ∷ padded ids []
padded (id ∷ ids) (p ∷ ps) = Some p ∷ padded ids ps

abbrev pub values : List Text → List Given → List (Option Text)
values ids us = map (λ id. value_of id us) ids

-- a use under another name changes no value
values_after : (ids : List Text) (n v : Text) (us : List Given) → is_one_of ids n ≡ false → values ids ((n, v) ∷ us) ≡ values ids us
values_after [] n v us e = refl
values_after (id ∷ ids) n v us e = let p = or_parts (bytes_eq id n) (is_one_of ids n) e in
    rw (text_sym id n p.0) (ap (λ l. value_of id us ∷ l) (values_after ids n v us p.1))

one_of_front : (xs ys : List Text) (n : Text) → is_one_of (xs ++ ys) n ≡ false → (is_one_of xs n ≡ false) × (is_one_of ys n ≡ false)
one_of_front xs ys n e = or_parts (is_one_of xs n) (is_one_of ys n) (sym (list_any-append (λ o. bytes_eq o n) xs ys) ∙ e)

-- an option is none of the positional words
option_apart : (ids opts : List Text) (n : Text) → are_apart ids opts ≡ true → is_one_of opts n ≡ true → is_one_of ids n ≡ false
option_apart [] opts n ap_ e = refl
option_apart (id ∷ ids) opts n apart_ e = let p = and_parts (not (is_one_of (ids ++ opts) id)) (are_apart ids opts) apart_ in
    elim (cases_Bool (bytes_eq id n)) [
      | inl same ↦ absurd (true≢false (sym e ∙ ap (is_one_of opts) (sym (same_text id n same)) ∙ (one_of_front ids opts id (not-true _ p.0)).1))
      | inr other ↦ rw other (option_apart ids opts n p.1 e)
    ]

abbrev pub words_of : List Item → Option (List Text) → List Text
words_of items rest = flat_map words_in items ++ unwrap_or rest []

abbrev pub options_of : List Item → List Given
options_of items = flat_map options_in items

more_is : (u : Given) (us : List Given) (o : Option (List Given)) → more u o ≡ Some us → (vs : List Given) × (o ≡ Some vs) × (us ≡ u ∷ vs)
more_is u us None e = absurd (let bad : None ≡ Some us = e in cc)
more_is u us (Some vs) e = (vs, refl, let same : Some (u ∷ vs) ≡ Some us = e in cc)

nothing : (us : List Given) → Some [] ≡ Some us → us ≡ []
nothing us e = cc

value_more : (m v n : Text) (us vs : List Given) → value_of n us ≡ value_of n vs → value_of n ((m, v) ∷ us) ≡ value_of n ((m, v) ∷ vs)
value_more m v n us vs e = elim (cases_Bool (bytes_eq m n)) [ inl same ↦ rw same refl | inr other ↦ rw other e ]

module _ (opts : List Text) where
  -- ---- the positional words

  tail_values : (ids ws : List Text) (us : List Given) → are_apart ids opts ≡ true → tail_uses ids ws ≡ Some us → values ids us ≡ padded ids ws
  tail_values [] ws us e made = refl
  tail_values (id ∷ ids) [] us e made = ap (values (id ∷ ids)) (nothing us made) ∙ ap (λ l. None ∷ l) (none_left ids) where
    none_left : (ks : List Text) → values ks [] ≡ padded ks []
    none_left [] = refl
    none_left (k ∷ ks) = ap (λ l. None ∷ l) (none_left ks)
  tail_values (id ∷ ids) (w ∷ ws) us e made =
      let p = and_parts (not (is_one_of (ids ++ opts) id)) (are_apart ids opts) e in
      let q = more_is (id, w) us (tail_uses ids ws) made in
      ap (values (id ∷ ids)) q.2 ∙ ap₂ (λ (b : Bool) l. option_map (λ (g : Given). g.1) (cond b (Some (id, w)) (find (λ (g : Given). bytes_eq g.0 id) q.0)) ∷ l)
      (text_self id) (values_after ids id w q.0 (one_of_front ids opts id (not-true _ p.0)).0 ∙ tail_values ids ws q.0 p.1 q.1)

  pub item_values : (items : List Item) (rest : Option (List Text)) (ids : List Text) (us : List Given) → are_apart ids opts ≡ true → list_all (is_allowed opts) items ≡ true
      → item_uses ids items rest ≡ Some us → values ids us ≡ padded ids (words_of items rest)
  item_values [] None ids us e fine made = tail_values ids [] us e made
  item_values [] (Some ws) ids us e fine made = tail_values ids ws us e made
  item_values (word w ∷ is) rest [] us e fine made = refl
  item_values (word w ∷ is) rest (id ∷ ids) us e fine made =
      let p = and_parts (not (is_one_of (ids ++ opts) id)) (are_apart ids opts) e in
      let f = and_parts (not (is_dashed w)) (list_all (is_allowed opts) is) fine in
      let q = more_is (id, w) us (item_uses ids is rest) made in
      ap (values (id ∷ ids)) q.2 ∙ ap₂ (λ (b : Bool) l. option_map (λ (g : Given). g.1) (cond b (Some (id, w)) (find (λ (g : Given). bytes_eq g.0 id) q.0)) ∷ l)
      (text_self id) (values_after ids id w q.0 (one_of_front ids opts id (not-true _ p.0)).0 ∙ item_values is rest ids q.0 p.1 f.1 q.1)
  item_values (joined n v ∷ is) rest ids us e fine made =
      let f = and_parts (is_one_of opts n) (list_all (is_allowed opts) is) fine in
      let q = more_is (n, v) us (item_uses ids is rest) made in
      ap (values ids) q.2 ∙ values_after ids n v q.0 (option_apart ids opts n e f.0) ∙ item_values is rest ids q.0 e f.1 q.1
  item_values (apart n v ∷ is) rest ids us e fine made =
      let f = and_parts (is_one_of opts n && not (is_dashed v)) (list_all (is_allowed opts) is) fine in
      let g = and_parts (is_one_of opts n) (not (is_dashed v)) f.0 in
      let q = more_is (n, v) us (item_uses ids is rest) made in
      ap (values ids) q.2 ∙ values_after ids n v q.0 (option_apart ids opts n e g.0) ∙ item_values is rest ids q.0 e f.1 q.1

  -- ---- the options

  one_of_more : (id : Text) (ids : List Text) (n : Text) → is_one_of ((id ∷ ids) ++ opts) n ≡ false → (bytes_eq id n ≡ false) × (is_one_of (ids ++ opts) n ≡ false)
  one_of_more id ids n e = or_parts (bytes_eq id n) (is_one_of (ids ++ opts) n) e

  other_name : (ids : List Text) (n id : Text) → is_one_of (ids ++ opts) id ≡ false → is_one_of opts n ≡ true → bytes_eq n id ≡ false
  other_name ids n id e ours = elim (cases_Bool (bytes_eq n id)) [
    | inl same ↦ absurd (true≢false (sym ours ∙ ap (is_one_of opts) (same_text n id same) ∙ (one_of_front ids opts id e).1))
    | inr other ↦ other
  ]

  -- a name that is none of these isn't used
  tail_unnamed : (ids ws : List Text) (us : List Given) (n : Text) → is_one_of (ids ++ opts) n ≡ false → tail_uses ids ws ≡ Some us → is_named n us ≡ false
  tail_unnamed ids [] us n e made = rw (nothing us made) refl
  tail_unnamed [] (w ∷ ws) us n e made = absurd (let bad : None ≡ Some us = made in cc)
  tail_unnamed (id ∷ ids) (w ∷ ws) us n e made =
      let p = one_of_more id ids n e in
      let q = more_is (id, w) us (tail_uses ids ws) made in
      rw (q.2, p.0) (tail_unnamed ids ws q.0 n p.1 q.1)

  unnamed : (items : List Item) (rest : Option (List Text)) (ids : List Text) (us : List Given) (n : Text) → list_all (is_allowed opts) items ≡ true
      → is_one_of (ids ++ opts) n ≡ false → item_uses ids items rest ≡ Some us → is_named n us ≡ false
  unnamed [] None ids us n fine e made = rw (nothing us made) refl
  unnamed [] (Some ws) ids us n fine e made = tail_unnamed ids ws us n e made
  unnamed (word w ∷ is) rest [] us n fine e made = absurd (let bad : None ≡ Some us = made in cc)
  unnamed (word w ∷ is) rest (id ∷ ids) us n fine e made =
      let p = one_of_more id ids n e in
      let f = and_parts (not (is_dashed w)) (list_all (is_allowed opts) is) fine in
      let q = more_is (id, w) us (item_uses ids is rest) made in
      rw (q.2, p.0) (unnamed is rest ids q.0 n f.1 p.1 q.1)
  unnamed (joined m v ∷ is) rest ids us n fine e made =
      let f = and_parts (is_one_of opts m) (list_all (is_allowed opts) is) fine in
      let q = more_is (m, v) us (item_uses ids is rest) made in
      rw (q.2, other_name ids m n e f.0) (unnamed is rest ids q.0 n f.1 e q.1)
  unnamed (apart m v ∷ is) rest ids us n fine e made =
      let f = and_parts (is_one_of opts m && not (is_dashed v)) (list_all (is_allowed opts) is) fine in
      let g = and_parts (is_one_of opts m) (not (is_dashed v)) f.0 in
      let q = more_is (m, v) us (item_uses ids is rest) made in
      rw (q.2, other_name ids m n e g.0) (unnamed is rest ids q.0 n f.1 e q.1)

  -- the values of the options are those that the items give
  tail_options : (ids ws : List Text) (us : List Given) (n : Text) → are_apart ids opts ≡ true → is_one_of opts n ≡ true → tail_uses ids ws ≡ Some us → value_of n us ≡ None
  tail_options ids [] us n e ours made = rw (nothing us made) refl
  tail_options [] (w ∷ ws) us n e ours made = absurd (let bad : None ≡ Some us = made in cc)
  tail_options (id ∷ ids) (w ∷ ws) us n e ours made =
      let p = and_parts (not (is_one_of (ids ++ opts) id)) (are_apart ids opts) e in
      let q = more_is (id, w) us (tail_uses ids ws) made in
      let other = (or_parts (bytes_eq id n) (is_one_of ids n) (option_apart (id ∷ ids) opts n e ours)).0 in
      rw (q.2, other) (tail_options ids ws q.0 n p.1 ours q.1)

  pub option_values : (items : List Item) (rest : Option (List Text)) (ids : List Text) (us : List Given) (n : Text) → are_apart ids opts ≡ true → is_one_of opts n ≡ true
      → item_uses ids items rest ≡ Some us → value_of n us ≡ value_of n (options_of items)
  option_values [] None ids us n e ours made = rw (nothing us made) refl
  option_values [] (Some ws) ids us n e ours made = tail_options ids ws us n e ours made
  option_values (word w ∷ is) rest [] us n e ours made = absurd (let bad : None ≡ Some us = made in cc)
  option_values (word w ∷ is) rest (id ∷ ids) us n e ours made =
      let p = and_parts (not (is_one_of (ids ++ opts) id)) (are_apart ids opts) e in
      let q = more_is (id, w) us (item_uses ids is rest) made in
      let other = (or_parts (bytes_eq id n) (is_one_of ids n) (option_apart (id ∷ ids) opts n e ours)).0 in
      rw (q.2, other) (option_values is rest ids q.0 n p.1 ours q.1)
  option_values (joined m v ∷ is) rest ids us n e ours made =
      let q = more_is (m, v) us (item_uses ids is rest) made in
      ap (value_of n) q.2 ∙ value_more m v n q.0 (options_of is) (option_values is rest ids q.0 n e ours q.1)
  option_values (apart m v ∷ is) rest ids us n e ours made =
      let q = more_is (m, v) us (item_uses ids is rest) made in
      ap (value_of n) q.2 ∙ value_more m v n q.0 (options_of is) (option_values is rest ids q.0 n e ours q.1)

  -- if each option is used once, each name is
  tail_distinct : (ids ws : List Text) (us : List Given) → are_apart ids opts ≡ true → tail_uses ids ws ≡ Some us → are_distinct us ≡ true
  tail_distinct ids [] us e made = rw (nothing us made) refl
  tail_distinct [] (w ∷ ws) us e made = absurd (let bad : None ≡ Some us = made in cc)
  tail_distinct (id ∷ ids) (w ∷ ws) us e made =
      let p = and_parts (not (is_one_of (ids ++ opts) id)) (are_apart ids opts) e in
      let q = more_is (id, w) us (tail_uses ids ws) made in
      rw (q.2, tail_unnamed ids ws q.0 id (not-true _ p.0) q.1) (tail_distinct ids ws q.0 p.1 q.1)

  same_named : (n : Text) (us vs : List Given) → value_of n us ≡ value_of n vs → is_named n us ≡ is_named n vs
  same_named n us vs e = named_value n us ∙ ap is_some e ∙ sym (named_value n vs)

  pub distinct_uses : (items : List Item) (rest : Option (List Text)) (ids : List Text) (us : List Given) → are_apart ids opts ≡ true → list_all (is_allowed opts) items ≡ true
      → item_uses ids items rest ≡ Some us → are_distinct us ≡ are_distinct (options_of items)
  distinct_uses [] None ids us e fine made = rw (nothing us made) refl
  distinct_uses [] (Some ws) ids us e fine made = tail_distinct ids ws us e made
  distinct_uses (word w ∷ is) rest [] us e fine made = absurd (let bad : None ≡ Some us = made in cc)
  distinct_uses (word w ∷ is) rest (id ∷ ids) us e fine made =
      let p = and_parts (not (is_one_of (ids ++ opts) id)) (are_apart ids opts) e in
      let f = and_parts (not (is_dashed w)) (list_all (is_allowed opts) is) fine in
      let q = more_is (id, w) us (item_uses ids is rest) made in
      rw (q.2, unnamed is rest ids q.0 id f.1 (not-true _ p.0) q.1) (distinct_uses is rest ids q.0 p.1 f.1 q.1)
  distinct_uses (joined m v ∷ is) rest ids us e fine made =
      let f = and_parts (is_one_of opts m) (list_all (is_allowed opts) is) fine in
      let q = more_is (m, v) us (item_uses ids is rest) made in
      ap are_distinct q.2 ∙ ap₂ (λ a b. not a && b) (same_named m q.0 (options_of is) (option_values is rest ids q.0 m e f.0 q.1)) (distinct_uses is rest ids q.0 e f.1 q.1)
  distinct_uses (apart m v ∷ is) rest ids us e fine made =
      let f = and_parts (is_one_of opts m && not (is_dashed v)) (list_all (is_allowed opts) is) fine in
      let g = and_parts (is_one_of opts m) (not (is_dashed v)) f.0 in
      let q = more_is (m, v) us (item_uses ids is rest) made in
      ap are_distinct q.2 ∙ ap₂ (λ a b. not a && b) (same_named m q.0 (options_of is) (option_values is rest ids q.0 m e g.0 q.1)) (distinct_uses is rest ids q.0 e f.1 q.1)

-- ---- how many words there are

pub words_fit : (items : List Item) (rest : Option (List Text)) (ids : List Text) (us : List Given) → item_uses ids items rest ≡ Some us → length (words_of items rest) ≤ length ids
words_fit [] None ids us made = omega arith
words_fit [] (Some ws) ids us made = tail_fit ids ws us made where
  tail_fit : (ks vs : List Text) (us : List Given) → tail_uses ks vs ≡ Some us → length vs ≤ length ks
  tail_fit ks [] us made = omega arith
  tail_fit [] (v ∷ vs) us made = absurd (let bad : None ≡ Some us = made in cc)
  tail_fit (k ∷ ks) (v ∷ vs) us made = let q = more_is (k, v) us (tail_uses ks vs) made in let ih = tail_fit ks vs q.0 q.1 in omega arith
words_fit (word w ∷ is) rest [] us made = absurd (let bad : None ≡ Some us = made in cc)
words_fit (word w ∷ is) rest (id ∷ ids) us made = let q = more_is (id, w) us (item_uses ids is rest) made in let ih = words_fit is rest ids q.0 q.1 in omega arith
words_fit (joined n v ∷ is) rest ids us made = let q = more_is (n, v) us (item_uses ids is rest) made in words_fit is rest ids q.0 q.1
words_fit (apart n v ∷ is) rest ids us made = let q = more_is (n, v) us (item_uses ids is rest) made in words_fit is rest ids q.0 q.1

some_more : (u : Given) (o : Option (List Given)) → (vs : List Given) × (o ≡ Some vs) → (us : List Given) × (more u o ≡ Some us)
some_more u o (vs, e) = (u ∷ vs, ap (more u) e)

pub uses_fit : (items : List Item) (rest : Option (List Text)) (ids : List Text) → length (words_of items rest) ≤ length ids → (us : List Given) × (item_uses ids items rest ≡ Some us)
uses_fit [] None ids le = ([], refl)
uses_fit [] (Some ws) ids le = tail_fit ids ws le where
  tail_fit : (ks vs : List Text) → length vs ≤ length ks → (us : List Given) × (tail_uses ks vs ≡ Some us)
  tail_fit ks [] le = ([], refl)
  tail_fit [] (v ∷ vs) le = absurd (omega arith)
  tail_fit (k ∷ ks) (v ∷ vs) le = some_more (k, v) (tail_uses ks vs) (tail_fit ks vs (omega arith))
uses_fit (word w ∷ is) rest [] le = absurd (omega arith)
uses_fit (word w ∷ is) rest (id ∷ ids) le = some_more (id, w) (item_uses ids is rest) (uses_fit is rest ids (omega arith))
uses_fit (joined n v ∷ is) rest ids le = some_more (n, v) (item_uses ids is rest) (uses_fit is rest ids le)
uses_fit (apart n v ∷ is) rest ids le = some_more (n, v) (item_uses ids is rest) (uses_fit is rest ids le)

pub padded_full : (ids ps : List Text) → length ps ≡ length ids → padded ids ps ≡ map (λ p. Some p) ps
padded_full [] [] e = refl
padded_full [] (p ∷ ps) e = absurd (omega arith)
padded_full (id ∷ ids) [] e = absurd (omega arith)
padded_full (id ∷ ids) (p ∷ ps) e = ap (λ l. Some p ∷ l) (padded_full ids ps (omega arith))

abbrev pub has_none : List (Option Text) → Bool
has_none vs = list_any (λ v. not (is_some v)) vs

pub lacks_values : (ids : List Text) (us : List Given) → lacks ids us ≡ has_none (values ids us)
lacks_values [] us = refl
lacks_values (id ∷ ids) us = ap₂ (λ a b. not a || b) (named_value id us) (lacks_values ids us)

pub full_has_none : (ps : List Text) → has_none (map (λ p. Some p) ps) ≡ false
full_has_none [] = refl
full_has_none (p ∷ ps) = full_has_none ps

-- if each name has a word, there are at least as many words as names
pub padded_length : (ids ps : List Text) → has_none (padded ids ps) ≡ false → length ids ≤ length ps
padded_length [] ps e = omega arith
padded_length (id ∷ ids) [] e = absurd (true≢false e)
padded_length (id ∷ ids) (p ∷ ps) e = let ih = padded_length ids ps e in omega arith

-- ---- each name once, from the left and from the right

abbrev all_new : List Given → List Given → Bool
all_new before us = list_all (λ (u : Given). not (is_named u.0 before)) us

text_sym_eq : (a b : Text) → bytes_eq a b ≡ bytes_eq b a
text_sym_eq a b = elim (cases_Bool (bytes_eq a b)) [
  | inl same ↦ ap₂ bytes_eq (same_text a b same) (sym (same_text a b same))
  | inr other ↦ other ∙ sym (text_sym a b other)
]

new_more : (before : List Given) (u : Given) (us : List Given) → all_new (before ++ u ∷ []) us ≡ (all_new before us && not (is_named u.0 us))
new_more before u [] = refl
new_more before u (w ∷ ws) =
    ap₂ (λ a b. not a && b) (list_any-append (λ (g : Given). bytes_eq g.0 w.0) before (u ∷ []) ∙ ap (λ b. is_named w.0 before || b) (or_false (bytes_eq u.0 w.0) ∙ text_sym_eq u.0 w.0)) (new_more before u ws)
    ∙ shuffle (is_named w.0 before) (bytes_eq w.0 u.0) (all_new before ws) (is_named u.0 ws) where
      shuffle : (a b c d : Bool) → (not (a || b) && (c && not d)) ≡ ((not a && c) && not (b || d))
      shuffle true b c d = refl
      shuffle false true true d = refl
      shuffle false true false d = refl
      shuffle false false c d = refl

once_is : (before us : List Given) → once_after before us ≡ (all_new before us && are_distinct us)
once_is before [] = refl
once_is before (u ∷ us) =
    ap (λ b. not (is_named u.0 before) && b) (once_is (before ++ u ∷ []) us ∙ ap (λ b. b && are_distinct us) (new_more before u us))
    ∙ shuffle (is_named u.0 before) (all_new before us) (is_named u.0 us) (are_distinct us) where
      shuffle : (a b c d : Bool) → (not a && ((b && not c) && d)) ≡ ((not a && b) && (not c && d))
      shuffle true b c d = refl
      shuffle false true c d = refl
      shuffle false false c d = refl

pub once_distinct : (us : List Given) → once_after [] us ≡ are_distinct us
once_distinct us = once_is [] us ∙ ap (λ b. b && are_distinct us) (none_before us) where
  none_before : (us : List Given) → all_new [] us ≡ true
  none_before [] = refl
  none_before (u ∷ us) = none_before us
