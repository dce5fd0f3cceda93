-- The reading of words finds the items that they spell.
use Rattle.std.proofs.Common.{◌≡◌, ◌∙◌, ◌⊎◌, inl, inr, ◌+◌, ◌++◌, ◌&&◌, ℕ, suc, Bool, true, false, not, List, [], ◌∷◌, Option, Some, None, refl, sym, ap, ap₂, arith, subst, true≢false, append_assoc, codes}
use Rattle.std.specs.Prelude.{slice_get}
use Rattle.std.specs.List.{flat_map, list_all}
use Rattle.std.specs.Str.{bytes_eq}
use Rattle.clap.specs.Lexer.{has_byte}
use Rattle.command_line.specs.Words.{Text, Given, Item, word, joined, apart, spelled, is_allowed, is_dashed, is_one_of, ending}
use Rattle.command_line.proofs.Reading.{Mode, free, opened, tail, plain, word_of, use_word, uses, more, to_positional, at_end}
use Rattle.command_line.proofs.Law.{is_dashes, is_joined, is_apart, is_unknown, is_short, is_plain, Each}
use Rattle.command_line.proofs.Bytes.{same_text, joined_text, joined_word, apart_word, plain_word, joined_is, apart_is, dashes_is, plain_is}
use Rattle.std.proofs.lemmas.Bool.{and_parts, cases_Bool, not-true}

-- the uses by which each of these words goes to the next name
abbrev pub tail_uses : List Text → List Text → Option (List Given)
tail_uses ids [] = Some []
tail_uses [] (w ∷ ws) = None
tail_uses (id ∷ ids) (w ∷ ws) = more (id, w) (tail_uses ids ws)

abbrev pub ending_uses : List Text → Option (List Text) → Option (List Given)
ending_uses ids None = Some []
ending_uses ids (Some ws) = tail_uses ids ws

-- the uses that items make, where the positional words have these names
abbrev pub item_uses : List Text → List Item → Option (List Text) → Option (List Given)
item_uses ids [] rest = ending_uses ids rest
item_uses [] (word w ∷ is) rest = None
item_uses (id ∷ ids) (word w ∷ is) rest = more (id, w) (item_uses ids is rest)
item_uses ids (joined n v ∷ is) rest = more (n, v) (item_uses ids is rest)
item_uses ids (apart n v ∷ is) rest = more (n, v) (item_uses ids is rest)

-- a name that can be an option's: some bytes, none of them `=` (61)
abbrev pub is_name : Text → Bool
is_name n = not (bytes_eq n []) && not (has_byte 61 n)

name_of : (opts : List Text) → list_all is_name opts ≡ true → (n : Text) → is_one_of opts n ≡ true → (bytes_eq n [] ≡ false) × (has_byte 61 n ≡ false)
name_of [] names n e = absurd (true≢false (sym e))
name_of (o ∷ os) names n e = let p = and_parts (is_name o) (list_all is_name os) names in elim (cases_Bool (bytes_eq o n)) [
  | inl same ↦ let q = and_parts (not (bytes_eq o [])) (not (has_byte 61 o)) p.0 in
      subst (λ (t : Text). (bytes_eq t [] ≡ false) × (has_byte 61 t ≡ false)) (same_text o n same) (not-true _ q.0, not-true _ q.1)
  | inr other ↦ name_of os p.1 n (rw other at e)
]

-- the words that these items and the rest spell
abbrev pub line_of : List Item → Option (List Text) → List Text
line_of items rest = flat_map spelled items ++ ending rest

module _ (opts : List Text) (names : list_all is_name opts ≡ true) (at : ℕ → Option Text) where
  -- the names that are left at this place
  abbrev pub Left : ℕ → List Text → Type 0
  Left i ids = (j : ℕ) → at (i + j) ≡ slice_get ids j

  here : (i : ℕ) (ids : List Text) → Left i ids → at i ≡ slice_get ids 0
  here i ids left = let e : i + 0 ≡ i = omega arith in subst (λ (k : ℕ). at k ≡ slice_get ids 0) e (left 0)

  after : (i : ℕ) (id : Text) (ids : List Text) → Left i (id ∷ ids) → Left (i + 1) ids
  after i id ids left j = let e : i + suc j ≡ (i + 1) + j = omega arith in subst (λ (k : ℕ). at k ≡ slice_get ids j) e (left (suc j))

  use_at : (x : Text) (xs : List Text) (m : Mode) (i : ℕ) → uses at (is_one_of opts) (x ∷ xs) m i ≡ use_word (word_of (is_one_of opts) x) m i x (at i) (uses at (is_one_of opts) xs)
  unfolding uses
  use_at x xs m i = refl

  use_end : (m : Mode) (i : ℕ) → uses at (is_one_of opts) [] m i ≡ at_end m
  unfolding uses
  use_end m i = refl

  tail_is : (ws ids : List Text) (i : ℕ) → Left i ids → uses at (is_one_of opts) ws tail i ≡ tail_uses ids ws
  tail_is [] ids i left = use_end tail i
  tail_is (w ∷ ws) [] i left = use_at w ws tail i ∙ ap (λ o. to_positional o w (uses at (is_one_of opts) ws tail (i + 1))) (here i [] left)
  tail_is (w ∷ ws) (id ∷ ids) i left = use_at w ws tail i ∙ ap₂ (λ o u. to_positional o w u) (here i (id ∷ ids) left) (tail_is ws ids (i + 1) (after i id ids left))

  -- reading the words of items gives the uses that the items make
  pub line_uses : (items : List Item) (rest : Option (List Text)) (ids : List Text) (i : ℕ) → Left i ids → list_all (is_allowed opts) items ≡ true
      → uses at (is_one_of opts) (line_of items rest) free i ≡ item_uses ids items rest
  line_uses [] None ids i left fine = use_end free i
  line_uses [] (Some ws) ids i left fine = use_at (codes "--") ws free i ∙ tail_is ws ids i left
  line_uses (word w ∷ is) rest [] i left fine = let p = and_parts (not (is_dashed w)) (list_all (is_allowed opts) is) fine in
      use_at w (line_of is rest) free i
      ∙ ap₂ (λ k o. use_word k free i w o (uses at (is_one_of opts) (line_of is rest))) (plain_word (is_one_of opts) w (not-true _ p.0)) (here i [] left)
  line_uses (word w ∷ is) rest (id ∷ ids) i left fine = let p = and_parts (not (is_dashed w)) (list_all (is_allowed opts) is) fine in
      use_at w (line_of is rest) free i
      ∙ ap₂ (λ k o. use_word k free i w o (uses at (is_one_of opts) (line_of is rest))) (plain_word (is_one_of opts) w (not-true _ p.0)) (here i (id ∷ ids) left)
      ∙ ap (more (id, w)) (line_uses is rest ids (i + 1) (after i id ids left) p.1)
  line_uses (joined n v ∷ is) rest ids i left fine = let p = and_parts (is_one_of opts n) (list_all (is_allowed opts) is) fine in
      use_at (joined_text n v) (line_of is rest) free i
      ∙ ap (λ k. use_word k free i (joined_text n v) (at i) (uses at (is_one_of opts) (line_of is rest))) (joined_word (is_one_of opts) n v (name_of opts names n p.0).1 p.0)
      ∙ ap (more (n, v)) (line_uses is rest ids i left p.1)
  line_uses (apart n v ∷ is) rest ids i left fine =
      let p = and_parts (is_one_of opts n && not (is_dashed v)) (list_all (is_allowed opts) is) fine in
      let q = and_parts (is_one_of opts n) (not (is_dashed v)) p.0 in
      let name = name_of opts names n q.0 in
      use_at (codes "--" ++ n) (v ∷ line_of is rest) free i
      ∙ ap (λ k. use_word k free i (codes "--" ++ n) (at i) (uses at (is_one_of opts) (v ∷ line_of is rest))) (apart_word (is_one_of opts) n name.1 name.0 q.0)
      ∙ use_at v (line_of is rest) (opened n) i
      ∙ ap (λ k. use_word k (opened n) i v (at i) (uses at (is_one_of opts) (line_of is rest))) (plain_word (is_one_of opts) v (not-true _ q.1))
      ∙ ap (more (n, v)) (line_uses is rest ids i left p.1)

  -- ---- and back: what is read has items

  pub record Itemised (ids ws : List Text) (us : List Given) : Type 0 where
    pub items : List Item
    pub rest : Option (List Text)
    pub spelling : ws ≡ line_of items rest
    pub allowed : list_all (is_allowed opts) items ≡ true
    pub made : item_uses ids items rest ≡ Some us

  -- what accepted words are, for each mode of the reading
  abbrev Sound : Mode → List Text → List Text → List Given → Type 0
  Sound free ids ws us = Itemised ids ws us
  Sound (opened n) ids ws us = (y : Text) × (ys : List Text) × (vs : List Given) × (ws ≡ y ∷ ys) × (is_dashed y ≡ false) × (us ≡ (n, y) ∷ vs) × Itemised ids ys vs
  Sound tail ids ws us = tail_uses ids ws ≡ Some us

  no_use : {X : Type 0} (us : List Given) (o : Option (List Given)) → o ≡ Some us → o ≡ None → X
  no_use {X} us o some none = absurd (let both : None ≡ Some us = sym none ∙ some in cc)

  taken : (u : Given) (us : List Given) (o : Option (List Given)) → more u o ≡ Some us → (vs : List Given) × (o ≡ Some vs) × (us ≡ u ∷ vs)
  taken u us None e = absurd (let bad : None ≡ Some us = e in cc)
  taken u us (Some vs) e = (vs, refl, let same : Some (u ∷ vs) ≡ Some us = e in cc)

  one_more : (x : Item) (ids ids' ws xs : List Text) (u : Given) (us vs : List Given) → Itemised ids' ws vs → is_allowed opts x ≡ true → xs ≡ spelled x ++ ws → us ≡ u ∷ vs
      → ((is : List Item) (rest : Option (List Text)) → item_uses ids (x ∷ is) rest ≡ more u (item_uses ids' is rest)) → Itemised ids xs us
  one_more x ids ids' ws xs u us vs r fine spelling same step = record {
    items = x ∷ r.items;
    rest = r.rest;
    spelling = spelling ∙ ap (λ l. spelled x ++ l) r.spelling ∙ sym (append_assoc (spelled x) (flat_map spelled r.items) (ending r.rest));
    allowed = rw fine r.allowed;
    made = step r.items r.rest ∙ ap (more u) r.made ∙ ap (λ l. Some l) (sym same);
  }

  abbrev pub Fits : Mode → Type 0
  Fits (opened n) = is_one_of opts n ≡ true
  Fits free = Unit {0}
  Fits tail = Unit {0}

  any_left : (ids : List Text) → (ids ≡ []) ⊎ ((id : Text) × (rest : List Text) × (ids ≡ id ∷ rest))
  any_left [] = inl refl
  any_left (id ∷ ids) = inr (id, ids, refl)

  pub sound : (ws : List Text) → Each (is_one_of opts) ws → (m : Mode) (ids : List Text) (i : ℕ) → Left i ids → (us : List Given) → uses at (is_one_of opts) ws m i ≡ Some us → Sound m ids ws us
  sound [] each free ids i left us e = record { items = []; rest = None; spelling = refl; allowed = refl; made = sym (use_end free i) ∙ e }
  sound [] each (opened n) ids i left us e = no_use us _ e (use_end (opened n) i)
  sound ws each tail ids i left us e = sym (tail_is ws ids i left) ∙ e
  sound (x ∷ xs) each (opened n) ids i left us e = elim each.0 [
    | is_dashes dd ↦ no_use us _ e (use_at x xs (opened n) i ∙ rw dd refl)
    | is_joined m v dd long ours ↦ no_use us _ e (use_at x xs (opened n) i ∙ rw (dd, long, ours) refl)
    | is_apart m dd long ours ↦ no_use us _ e (use_at x xs (opened n) i ∙ rw (dd, long, ours) refl)
    | is_unknown m v dd long other ↦ no_use us _ e (use_at x xs (opened n) i ∙ rw (dd, long, other) refl)
    | is_short b b' cs dd long short first ↦ no_use us _ e (use_at x xs (opened n) i ∙ rw (dd, long, short) refl)
    | is_plain dd long short ↦
        let q = taken (n, x) us (uses at (is_one_of opts) xs free i) (sym (use_at x xs (opened n) i ∙ rw (dd, long, short) refl) ∙ e) in
        (x, xs, q.0, refl, plain_is x dd long short, q.2, sound xs each.1 free ids i left q.0 q.1)
  ]
  sound (x ∷ xs) each free ids i left us e = elim each.0 [
    | is_dashes dd ↦ record {
      items = [];
      rest = Some xs;
      spelling = ap (λ (t : Text). t ∷ xs) (dashes_is x dd);
      allowed = refl;
      made = sym (tail_is xs ids i left) ∙ sym (use_at x xs free i ∙ rw dd refl) ∙ e;
    }
    | is_joined n v dd long ours ↦
        let q = taken (n, v) us (uses at (is_one_of opts) xs free i) (sym (use_at x xs free i ∙ rw (dd, long, ours) refl) ∙ e) in
        one_more (joined n v) ids ids xs (x ∷ xs) (n, v) us q.0 (sound xs each.1 free ids i left q.0 q.1) ours (ap (λ (t : Text). t ∷ xs) (joined_is x n v long)) q.2 (λ is rest. refl)
    | is_apart n dd long ours ↦
        let q = sound xs each.1 (opened n) ids i left us (sym (use_at x xs free i ∙ rw (dd, long, ours) refl) ∙ e) in
        one_more (apart n q.0) ids ids q.1 (x ∷ xs) (n, q.0) us q.2 q.6 (rw (ours, q.4) refl) (ap₂ (λ (t : Text) (l : List Text). t ∷ l) (apart_is x n long) q.3) q.5 (λ is rest. refl)
    | is_unknown n v dd long other ↦ no_use us _ e (use_at x xs free i ∙ rw (dd, long, other) refl)
    | is_short b b' cs dd long short first ↦ no_use us _ e (use_at x xs free i ∙ rw (dd, long, short) refl)
    | is_plain dd long short ↦ let kind : word_of (is_one_of opts) x ≡ plain = rw (dd, long, short) refl in elim (any_left ids) [
      | inl none ↦ no_use us _ e (use_at x xs free i ∙ ap₂ (λ k o. use_word k free i x o (uses at (is_one_of opts) xs)) kind
          (here i ids left ∙ ap (λ (l : List Text). slice_get l 0) none))
      | inr l ↦
          let first : at i ≡ Some l.0 = here i ids left ∙ ap (λ (l : List Text). slice_get l 0) l.2 in
          let q = taken (l.0, x) us (uses at (is_one_of opts) xs free (i + 1))
          (sym (use_at x xs free i ∙ ap₂ (λ k o. use_word k free i x o (uses at (is_one_of opts) xs)) kind first) ∙ e) in
          one_more (word x) ids l.1 xs (x ∷ xs) (l.0, x) us q.0
          (sound xs each.1 free l.1 (i + 1) (after i l.0 l.1 (subst (λ (k : List Text). Left i k) l.2 left)) q.0 q.1)
          (rw (plain_is x dd long short) refl) refl q.2 (λ is rest. ap (λ (k : List Text). item_uses k (word x ∷ is) rest) l.2)
    ]
  ]
