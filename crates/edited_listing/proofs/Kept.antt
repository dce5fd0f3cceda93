-- `IsEdited`, the invariant on what stands at each place, is preserved when a window gives way.
use Rattle.std.proofs.Common.{◌≡◌, ℕ, zero, suc, ◌+◌, ◌-◌, ◌<◌, ◌≤◌, ◌==◌, Bool, true, false, List, [], ◌∷◌, ◌++◌, length, map, drop, Some, refl, sym, ap, ◌∙◌, subst, ◌⊎◌, inl, inr, arith, true≢false}
use Rattle.std.specs.Prelude.{slice_get, Option, None}
use Rattle.std.proofs.lemmas.Bool.{cases_lt, eq-eqb, or_right}
use Rattle.std.proofs.lemmas.Option.{same_Some}
use Rattle.thumb_instr.specs.declared.instr.Instr.{Instr}
use Rattle.kept_places.specs.Marks.{rank}
use Rattle.kept_places.proofs.Ranks.{rank_zero, ranks_grow}
use Rattle.thumb_model.specs.Listing.{Place, Op, Word, ListingLine, Label, places_of, labels_from, is_op_place}
use Rattle.thumb_model.specs.Replaced.{replaced_lines}
use Rattle.thumb_model.proofs.Lists.{length_map}
use Rattle.edited_listing.specs.declared.standing.Standing.{Standing}
use Rattle.edited_listing.specs.declared.standing.Standing.TheVariants as standing
use Rattle.edited_listing.specs.Items.{Item, AsGiven, New, home_of, items_from, has_given, AreSorted, spliced}
use Rattle.edited_listing.specs.Emitting.{lines_from}
use Rattle.edited_listing.specs.Giving.{is_word, WordsStand}
use Rattle.edited_listing.specs.Places.{item_place, has_home, AreHome, item_of}
use Rattle.edited_listing.specs.Changes.{is_none, marks_of, home_at, giving, giving_from}
use Rattle.edited_listing.specs.Edited.{Edited, IsEdited}
use Rattle.edited_listing.proofs.Sorted.{sorted_spliced}
use Rattle.edited_listing.proofs.Emitted.{lines_give_way}
use Rattle.edited_listing.proofs.Changes.{items_behind, items_change}
use Rattle.edited_listing.proofs.Places.{home_drop, places_now, some_places}
use Rattle.edited_listing.proofs.Free.{window_free}
use Rattle.thumb_model.proofs.Shared.{op_within as place_within}

-- ---- the item at a place ----

pub item_at : (p q : ℕ) (ss : List Standing) (s : Standing) → slice_get ss p ≡ Some s → is_none s ≡ false → slice_get (items_from q ss) (rank (marks_of ss) p) ≡ Some (item_of (q + p) s)
item_at zero q [] s e k = absurd (cc)
item_at (suc p) q [] s e k = absurd (cc)
item_at zero q (standing.Given ∷ ss) s e k = ap (λ j. Some (AsGiven j)) (let z : q ≡ q + 0 = omega arith in z) ∙ ap (λ t. Some (item_of (q + 0) t)) (same_Some standing.Given s e)
item_at zero q (standing.Gone ∷ ss) s e k = absurd (true≢false (ap is_none (same_Some standing.Gone s e) ∙ k))
item_at zero q (standing.New i h ∷ ss) s e k = ap (λ t. Some (item_of (q + 0) t)) (same_Some (standing.New i h) s e)
item_at (suc p) q (standing.Given ∷ ss) s e k = item_at p (suc q) ss s e k ∙ ap (λ j. Some (item_of j s)) (let z : suc q + p ≡ q + suc p = omega arith in z)
item_at (suc p) q (standing.Gone ∷ ss) s e k = item_at p (suc q) ss s e k ∙ ap (λ j. Some (item_of j s)) (let z : suc q + p ≡ q + suc p = omega arith in z)
item_at (suc p) q (standing.New i h ∷ ss) s e k = item_at p (suc q) ss s e k ∙ ap (λ j. Some (item_of j s)) (let z : suc q + p ≡ q + suc p = omega arith in z)

-- a place that stands as given is among the items
has_item : (p q : ℕ) (ss : List Standing) → slice_get ss p ≡ Some standing.Given → has_given (q + p) (items_from q ss) ≡ true
has_item zero q [] e = absurd (cc)
has_item (suc p) q [] e = absurd (cc)
has_item zero q (standing.Given ∷ ss) e = let here : (q == q + 0) ≡ true = eq-eqb q (q + 0) (omega arith) in rw here refl
has_item zero q (standing.Gone ∷ ss) e = absurd (true≢false (ap is_none (same_Some standing.Gone standing.Given e)))
has_item zero q (standing.New i h ∷ ss) e = absurd (is_new (same_Some (standing.New i h) standing.Given e))
  where
    is_as : Standing → Bool
    is_as standing.Given = true
    is_as s = false

    is_new : standing.New i h ≡ standing.Given → ⊥
    is_new f = true≢false (sym (ap is_as f))
has_item (suc p) q (standing.Given ∷ ss) e = or_right (q == q + suc p) (has_given (q + suc p) (items_from (suc q) ss)) (ap (λ j. has_given j (items_from (suc q) ss)) (let z : q + suc p ≡ suc q + p = omega arith in z) ∙ has_item p (suc q) ss e)
has_item (suc p) q (standing.Gone ∷ ss) e = ap (λ j. has_given j (items_from (suc q) ss)) (let z : q + suc p ≡ suc q + p = omega arith in z) ∙ has_item p (suc q) ss e
has_item (suc p) q (standing.New i h ∷ ss) e = ap (λ j. has_given j (items_from (suc q) ss)) (let z : q + suc p ≡ suc q + p = omega arith in z) ∙ has_item p (suc q) ss e

pub words_stand : (e : Edited) → IsEdited e → WordsStand 0 (items_from 0 e.stands) e.given
words_stand e s = λ k h. has_item k 0 e.stands (s.words k h)

-- ---- the place of an item ----

abbrev flat : {A : Type 0} → Option (Option A) → Option A
flat None = None
flat (Some x) = x

flat_some : (ps : List Place) (r : ℕ) → flat (slice_get (map (λ x. Some x) ps) r) ≡ slice_get ps r
flat_some [] r = refl
flat_some (x ∷ ps) zero = refl
flat_some (x ∷ ps) (suc r) = flat_some ps r

flat_items : (at : ℕ → Option Place) (xs : List Item) (r : ℕ) (x : Item) → slice_get xs r ≡ Some x → flat (slice_get (map (item_place at) xs) r) ≡ item_place at x
flat_items at [] r x e = absurd (cc)
flat_items at (y ∷ xs) zero x e = ap (item_place at) (same_Some y x e)
flat_items at (y ∷ xs) (suc r) x e = flat_items at xs r x e

pub place_of_item : (at : ℕ → Option Place) (xs : List Item) (ls : List ListingLine) (r : ℕ) (x : Item) → some_places ls ≡ map (item_place at) xs → slice_get xs r ≡ Some x → slice_get (places_of ls) r ≡ item_place at x
place_of_item at xs ls r x e f = sym (flat_some (places_of ls) r) ∙ ap (λ ps. flat (slice_get ps r)) e ∙ flat_items at xs r x f

-- ---- a window gives way ----

pub home_get : (at : ℕ → Option Place) (xs : List Item) (r : ℕ) (x : Item) → slice_get xs r ≡ Some x → AreHome at xs → has_home at x ≡ true
home_get at [] r x e h = absurd (cc)
home_get at (y ∷ xs) zero x e h = ap (has_home at) (sym (same_Some y x e)) ∙ h.0
home_get at (y ∷ xs) (suc r) x e h = home_get at xs r x e h.1

home_new : (at : ℕ → Option Place) (is : List Instr) (home : ℕ) (xs : List Item) → is_op_place (at home) ≡ true → AreHome at xs → AreHome at (map (λ i. New i home) is ++ xs)
home_new at [] home xs o h = h
home_new at (i ∷ is) home xs o h = (o, home_new at is home xs o h)

home_spliced : (at : ℕ → Option Place) (write : Instr → List ℕ) (r n : ℕ) (is : List Instr) (xs : List Item) → AreHome at xs → ((x : Item) → slice_get xs r ≡ Some x → is_op_place (at (home_of x)) ≡ true) → AreHome at (spliced r (suc n) is xs)
home_spliced at write r n is [] h o = tt
home_spliced at write zero n is (x ∷ xs) h o = home_new at is (home_of x) (drop n xs) (o x refl) (home_drop write at n xs h.1)
home_spliced at write (suc r) n is (x ∷ xs) h o = (h.0, home_spliced at write r n is xs h.1 (λ y e. o y e))

length_giving : (n : ℕ) (is : List Instr) (home : ℕ) (ss : List Standing) → length (giving n is home ss) ≡ length ss
length_giving n is home [] = refl
length_giving zero is home (s ∷ ss) = refl
length_giving (suc n) is home (standing.Gone ∷ ss) = ap suc (length_giving (suc n) is home ss)
length_giving (suc n) [] home (standing.Given ∷ ss) = ap suc (length_giving n [] home ss)
length_giving (suc n) (i ∷ is) home (standing.Given ∷ ss) = ap suc (length_giving n is home ss)
length_giving (suc n) [] home (standing.New j k ∷ ss) = ap suc (length_giving n [] home ss)
length_giving (suc n) (i ∷ is) home (standing.New j k ∷ ss) = ap suc (length_giving n is home ss)

pub length_giving_from : (p n : ℕ) (is : List Instr) (home : ℕ) (ss : List Standing) → length (giving_from p n is home ss) ≡ length ss
length_giving_from p n is home [] = refl
length_giving_from zero n is home (s ∷ ss) = length_giving n is home (s ∷ ss)
length_giving_from (suc p) n is home (s ∷ ss) = ap suc (length_giving_from p n is home ss)

-- behind the window
behind_giving : (n q : ℕ) (is : List Instr) (home : ℕ) (ss : List Standing) → n ≤ rank (marks_of ss) q → slice_get (giving n is home ss) q ≡ slice_get ss q
behind_giving n q is home [] h = refl
behind_giving zero q is home (s ∷ ss) h = refl
behind_giving (suc n) zero is home (s ∷ ss) h = absurd (let z = rank_zero (marks_of (s ∷ ss)) in omega arith)
behind_giving (suc n) (suc q) is home (standing.Gone ∷ ss) h = behind_giving (suc n) q is home ss h
behind_giving (suc n) (suc q) [] home (standing.Given ∷ ss) h = behind_giving n q [] home ss (omega arith)
behind_giving (suc n) (suc q) (i ∷ is) home (standing.Given ∷ ss) h = behind_giving n q is home ss (omega arith)
behind_giving (suc n) (suc q) [] home (standing.New j k ∷ ss) h = behind_giving n q [] home ss (omega arith)
behind_giving (suc n) (suc q) (i ∷ is) home (standing.New j k ∷ ss) h = behind_giving n q is home ss (omega arith)

-- before it and behind it
outside_giving : (p n q : ℕ) (is : List Instr) (home : ℕ) (ss : List Standing) → (q < p) ⊎ (rank (marks_of ss) p + n ≤ rank (marks_of ss) q) → slice_get (giving_from p n is home ss) q ≡ slice_get ss q
outside_giving p n q is home [] h = refl
outside_giving zero n q is home (s ∷ ss) (inl h) = absurd (omega arith)
outside_giving zero n q is home (s ∷ ss) (inr h) = behind_giving n q is home (s ∷ ss) (let z = rank_zero (marks_of (s ∷ ss)) in omega arith)
outside_giving (suc p) n zero is home (s ∷ ss) h = refl
outside_giving (suc p) n (suc q) is home (s ∷ ss) (inl h) = outside_giving p n q is home ss (inl (omega arith))
outside_giving (suc p) n (suc q) is home (standing.Given ∷ ss) (inr h) = outside_giving p n q is home ss (inr (omega arith))
outside_giving (suc p) n (suc q) is home (standing.Gone ∷ ss) (inr h) = outside_giving p n q is home ss (inr h)
outside_giving (suc p) n (suc q) is home (standing.New j k ∷ ss) (inr h) = outside_giving p n q is home ss (inr (omega arith))

word_or_op : (x : Option Place) → is_word x ≡ true → is_op_place x ≡ true → ⊥
word_or_op None w o = true≢false (sym w)
word_or_op (Some (Op i m)) w o = true≢false (sym w)
word_or_op (Some (Word v)) w o = true≢false (sym o)

stand_within : (ss : List Standing) (p : ℕ) (s : Standing) → slice_get ss p ≡ Some s → p < length ss
stand_within [] p s e = absurd (cc)
stand_within (x ∷ ss) zero s e = omega arith
stand_within (x ∷ ss) (suc p) s e = let h = stand_within ss p s e in omega arith

module _ (write : Instr → List ℕ) (e : Edited) (is : IsEdited e) (p n home : ℕ) (new : List Instr) (s : Standing) (here : slice_get e.stands p ≡ Some s) (kept : is_none s ≡ false) (home_is : home ≡ home_at p s)
    (few : length new ≤ suc n) (ops : (k : ℕ) → k < suc n → is_op_place (slice_get (places_of (lines_from write 0 (items_from 0 e.stands) e.given)) (rank (marks_of e.stands) p + k)) ≡ true) where
  now_places : some_places (lines_from write 0 (items_from 0 e.stands) e.given) ≡ map (item_place (slice_get (places_of e.given))) (items_from 0 e.stands)
  now_places = places_now write (slice_get (places_of e.given)) e.given 0 (items_from 0 e.stands) is.sorted (words_stand e is) is.home (λ k. ap (slice_get (places_of e.given)) (let z : 0 + k ≡ k = omega arith in z))

  -- as many items as places
  as_many : length (places_of (lines_from write 0 (items_from 0 e.stands) e.given)) ≡ length (items_from 0 e.stands)
  as_many =
      sym (length_map (λ x. Some x) (places_of (lines_from write 0 (items_from 0 e.stands) e.given))) ∙ ap (λ xs. length xs) now_places ∙ length_map (item_place (slice_get (places_of e.given))) (items_from 0 e.stands)

  pub enough : suc n ≤ length (items_from (0 + p) (drop p e.stands))
  enough =
      let last = place_within (places_of (lines_from write 0 (items_from 0 e.stands) e.given)) (rank (marks_of e.stands) p + n) (ops n (omega arith)) in
      let all = as_many in
      let within = stand_within e.stands p s here in
      let behind = items_behind p 0 (0 + p) e.stands (omega arith) in
      omega arith

  items_now : items_from 0 (giving_from p (suc n) new home e.stands) ≡ spliced (rank (marks_of e.stands) p) (suc n) new (items_from 0 e.stands)
  items_now = items_change p n 0 new home e.stands s here kept (home_is ∙ ap (λ j. home_at j s) (let z : p ≡ 0 + p = omega arith in z)) few enough

  -- the place of an item of the window
  window_op : (k : ℕ) (x : Item) → k < suc n → slice_get (items_from 0 e.stands) (rank (marks_of e.stands) p + k) ≡ Some x → is_op_place (item_place (slice_get (places_of e.given)) x) ≡ true
  window_op k x h f =
      ap is_op_place (sym (place_of_item (slice_get (places_of e.given)) (items_from 0 e.stands) (lines_from write 0 (items_from 0 e.stands) e.given) (rank (marks_of e.stands) p + k) x now_places f)) ∙ ops k h

  pub home_op : (x : Item) → slice_get (items_from 0 e.stands) (rank (marks_of e.stands) p) ≡ Some x → is_op_place (slice_get (places_of e.given) (home_of x)) ≡ true
  home_op (AsGiven q) f = window_op 0 (AsGiven q) (omega arith) (ap (slice_get (items_from 0 e.stands)) (let z : rank (marks_of e.stands) p + 0 ≡ rank (marks_of e.stands) p = omega arith in z) ∙ f)
  home_op (New i q) f = home_get (slice_get (places_of e.given)) (items_from 0 e.stands) (rank (marks_of e.stands) p) (New i q) f is.home

  -- no data word gives way
  word_outside : (q : ℕ) → is_word (slice_get (places_of e.given) q) ≡ true → (q < p) ⊎ (rank (marks_of e.stands) p + suc n ≤ rank (marks_of e.stands) q)
  word_outside q w = elim (cases_lt q p) [
    | inl h ↦ inl h
    | inr h ↦ elim (cases_lt (rank (marks_of e.stands) q) (rank (marks_of e.stands) p + suc n)) [
      | inl l ↦
          let grows = ranks_grow (marks_of e.stands) p q h in
          let k : ℕ = rank (marks_of e.stands) q - rank (marks_of e.stands) p in
          let found : slice_get (items_from 0 e.stands) (rank (marks_of e.stands) p + k) ≡ Some (AsGiven q) =
          ap (slice_get (items_from 0 e.stands)) (let z : rank (marks_of e.stands) p + k ≡ rank (marks_of e.stands) q = omega arith in z) ∙ item_at q 0 e.stands standing.Given (is.words q w) refl ∙ ap (λ j. Some (AsGiven j)) (let z : 0 + q ≡ q = omega arith in z) in
          absurd (word_or_op (slice_get (places_of e.given) q) w (window_op k (AsGiven q) (omega arith) found))
      | inr l ↦ inr l
    ]
  ]

  pub stays_edited : IsEdited (record { given = e.given; stands = giving_from p (suc n) new home e.stands })
  stays_edited = record {
    as_many = length_giving_from p (suc n) new home e.stands ∙ is.as_many;
    sorted = subst (AreSorted 0 0) (sym items_now) (sorted_spliced (rank (marks_of e.stands) p) n 0 0 new (items_from 0 e.stands) (omega arith) (omega arith) is.sorted);
    home = subst (AreHome (slice_get (places_of e.given))) (sym items_now) (home_spliced (slice_get (places_of e.given)) write (rank (marks_of e.stands) p) n new (items_from 0 e.stands) is.home home_op);
    words = λ q w. outside_giving p (suc n) q new home e.stands (word_outside q w) ∙ is.words q w;
  }

  -- the lines are those in which the window gave way
  pub lines_replaced : ((k : ℕ) (l : Label) → slice_get (labels_from 0 (lines_from write 0 (items_from 0 e.stands) e.given)) k ≡ Some l → (l.place ≤ rank (marks_of e.stands) p) ⊎ (rank (marks_of e.stands) p + suc n ≤ l.place)) →
      lines_from write 0 (items_from 0 (giving_from p (suc n) new home e.stands)) e.given ≡ replaced_lines write (rank (marks_of e.stands) p) (suc n) new (lines_from write 0 (items_from 0 e.stands) e.given)
  lines_replaced free =
      ap (λ xs. lines_from write 0 xs e.given) items_now
      ∙ lines_give_way write e.given (rank (marks_of e.stands) p) n 0 new (items_from 0 e.stands) is.sorted (words_stand e is) (window_free (rank (marks_of e.stands) p) n (lines_from write 0 (items_from 0 e.stands) e.given) ops free)
