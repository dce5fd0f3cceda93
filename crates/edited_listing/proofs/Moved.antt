-- Where the labels of the given lines stand in the lines now.
use Rattle.std.proofs.Common.{◌≡◌, ◌≢◌, ◌↔◌, ℕ, zero, suc, ◌+◌, ◌<◌, ◌≤◌, ◌==◌, true, false, List, [], ◌∷◌, ◌++◌, length, map, drop, Some, refl, sym, ap, ◌∙◌, subst, inl, inr, arith, true≢false, if◌then◌else◌}
use Rattle.std.specs.Prelude.{◌⊎◌, slice_get, nat_lt}
use Rattle.std.proofs.lemmas.Bool.{cases_Bool, cases_lt, eqb-true, eqb-false, lt-ltb, le-ltb}
use Rattle.std.proofs.lemmas.List.{map-append}
use Rattle.std.proofs.lemmas.Option.{same_Some}
use Rattle.thumb_instr.specs.declared.instr.Instr.{Instr}
use Rattle.thumb_model.specs.Listing.{Name, ListingLine, Label, places_in, labels_at, labels_from}
use Rattle.thumb_model.specs.Replaced.{is_op}
use Rattle.edited_listing.specs.Items.{Item, AsGiven, New, home_of, has_given, AreSorted}
use Rattle.edited_listing.specs.Emitting.{is_given_at, emit_at, line_at, lines_from}
use Rattle.edited_listing.specs.Giving.{WordsStand}
use Rattle.edited_listing.specs.Known.{HasLabelAt, HasLabelIn}
use Rattle.edited_listing.proofs.Sorted.{sorted_less, not_given, is_first}
use Rattle.edited_listing.proofs.Emitted.{words_behind, words_past, all_words, op_takes, stand_behind, has_behind, other_line}
use Rattle.thumb_model.proofs.LinesReplaced.{kept_labels as names_kept}
use Rattle.common_lemmas.proofs.Lists.{get_map, map_back}

-- how many items have their home before a place
abbrev before : ℕ → List Item → ℕ
before m [] = 0
before m (x ∷ xs) = if nat_lt (home_of x) m then suc (before m xs) else before m xs

-- none, where all have it at that place or later
before_none : (m c g : ℕ) (xs : List Item) → m ≤ c → m ≤ g → AreSorted c g xs → before m xs ≡ 0
before_none m c g [] h k s = refl
before_none m c g (AsGiven p ∷ xs) h k s =
    let past = s.0 in let no : nat_lt p m ≡ false = le-ltb p m (omega arith) in rw no (before_none m (suc p) (suc p) xs (omega arith) (omega arith) s.1)
before_none m c g (New i p ∷ xs) h k s =
    let past = s.0 in let no : nat_lt p m ≡ false = le-ltb p m (omega arith) in rw no (before_none m p (suc p) xs (omega arith) (omega arith) s.1)

before_more : (m : ℕ) (x : Item) (xs : List Item) → home_of x < m → before m (x ∷ xs) ≡ suc (before m xs)
before_more m x xs h = let yes : nat_lt (home_of x) m ≡ true = lt-ltb (home_of x) m h in rw yes refl

before_same : (m : ℕ) (x : Item) (xs : List Item) → m ≤ home_of x → before m (x ∷ xs) ≡ before m xs
before_same m x xs h = let no : nat_lt (home_of x) m ≡ false = le-ltb (home_of x) m h in rw no refl

-- after an item whose home is at that place or later, there is none
none_behind : (m c g : ℕ) (x : Item) (xs : List Item) → m ≤ home_of x → AreSorted c g (x ∷ xs) → before m xs ≡ 0
none_behind m c g (AsGiven p) xs h s = before_none m (suc p) (suc p) xs (omega arith) (omega arith) s.1
none_behind m c g (New i p) xs h s = before_none m p (suc p) xs (omega arith) (omega arith) s.1

-- one item more raises the count by one at most, and by one where its home is before the place
few_step : (m c g r : ℕ) (x : Item) (xs : List Item) → AreSorted c g (x ∷ xs) → before m xs ≤ r → before m (x ∷ xs) ≤ suc r
few_step m c g r x xs s h = elim (cases_lt (home_of x) m) [
  | inl l ↦ (let more = before_more m x xs l in omega arith)
  | inr l ↦ (let same = before_same m x xs l in let none = none_behind m c g x xs l s in omega arith)
]

before_few : (m c g r : ℕ) (xs : List Item) (y : Item) → AreSorted c g xs → slice_get xs r ≡ Some y → m ≤ home_of y → before m xs ≤ r
before_few m c g r [] y s e h = absurd (cc)
before_few m c g zero (x ∷ xs) y s e h =
    let here : m ≤ home_of x = subst (λ z. m ≤ home_of z) (sym (same_Some x y e)) h in
    let none = before_same m x xs here in
    let rest = none_behind m c g x xs here s in
    omega arith
before_few m c g (suc r) (AsGiven p ∷ xs) y s e h = few_step m c g r (AsGiven p) xs s (before_few m (suc p) (suc p) r xs y s.1 e h)
before_few m c g (suc r) (New i p ∷ xs) y s e h = few_step m c g r (New i p) xs s (before_few m p (suc p) r xs y s.1 e h)

many_step : (m c g r : ℕ) (x : Item) (xs : List Item) → AreSorted c g (x ∷ xs) → r < before m xs → suc r < before m (x ∷ xs)
many_step m c g r x xs s h = elim (cases_lt (home_of x) m) [
  | inl l ↦ (let more = before_more m x xs l in omega arith)
  | inr l ↦ absurd (let none = none_behind m c g x xs l s in omega arith)
]

before_many : (m c g r : ℕ) (xs : List Item) (y : Item) → AreSorted c g xs → slice_get xs r ≡ Some y → home_of y < m → r < before m xs
before_many m c g r [] y s e h = absurd (cc)
before_many m c g zero (x ∷ xs) y s e h =
    let here : home_of x < m = subst (λ z. home_of z < m) (sym (same_Some x y e)) h in
    let more = before_more m x xs here in
    omega arith
before_many m c g (suc r) (AsGiven p ∷ xs) y s e h = many_step m c g r (AsGiven p) xs s (before_many m (suc p) (suc p) r xs y s.1 e h)
before_many m c g (suc r) (New i p ∷ xs) y s e h = many_step m c g r (New i p) xs s (before_many m p (suc p) r xs y s.1 e h)

-- past data words
before_words : (k p m : ℕ) (xs : List Item) → AreSorted p p xs → ((j : ℕ) → j < k → has_given (p + j) xs ≡ true) → p + k ≤ m → before m xs ≡ k + before m (drop k xs)
before_words zero p m xs s v h = omega arith
before_words (suc k) p m [] s v h = absurd (true≢false (sym (v 0 (omega arith))))
before_words (suc k) p m (New i q ∷ xs) s v h = absurd (true≢false (sym (is_first p (New i q ∷ xs) s (ap (λ j. has_given j xs) (let z : p ≡ p + 0 = omega arith in z) ∙ v 0 (omega arith)))))
before_words (suc k) p m (AsGiven q ∷ xs) s v h =
    let first : has_given p (AsGiven q ∷ xs) ≡ true = ap (λ j. has_given j (AsGiven q ∷ xs)) (let z : p ≡ p + 0 = omega arith in z) ∙ v 0 (omega arith) in
    let e = eqb-true q p (is_first p (AsGiven q ∷ xs) s first) in
    let more = before_more m (AsGiven q) xs (omega arith) in
    let rest = before_words k (suc p) m xs (sorted_less (suc q) (suc q) (suc p) (suc p) xs (omega arith) (omega arith) s.1)
    (λ j l. has_behind p q (suc p + j) xs e (omega arith) (ap (λ r. has_given r (AsGiven q ∷ xs)) (let z : suc p + j ≡ p + suc j = omega arith in z) ∙ v (suc j) (omega arith))) (omega arith) in
    omega arith

-- ---- the labels now ----

-- a label at another place
abbrev at : (ℕ → ℕ) → Label → Label
at f l = record { name = l.name; place = f l.place }

labels_here : (f : ℕ → ℕ) (c p : ℕ) (ns : List Name) → f p ≡ c → labels_at c ns ≡ map (at f) (labels_at p ns)
labels_here f c p [] e = refl
labels_here f c p (n ∷ ns) e = ap (λ k. record { name = n; place = k } ∷ labels_at c ns) (sym e) ∙ ap (λ ls. record { name = n; place = f p } ∷ ls) (labels_here f c p ns e)

least_home : (p : ℕ) (xs : List Item) → AreSorted p p xs → before p xs ≡ 0
least_home p xs s = before_none p p p xs (omega arith) (omega arith) s

module _ (write : Instr → List ℕ) (f : ℕ → ℕ) where
  -- each label stands after as many places as items have their home before it
  Stands : ℕ → List ListingLine → (List Item → List ListingLine) → Type 0
  Stands p ls behind = (c : ℕ) (xs : List Item) → AreSorted p p xs → WordsStand p xs ls → ((m : ℕ) → p ≤ m → f m ≡ c + before m xs) → labels_from c (behind xs) ≡ map (at f) (labels_from p ls)

  emit_stands : (p c : ℕ) (xs : List Item) (ls : List ListingLine) (behind : List Item → List ListingLine) → Stands (suc p) ls behind → AreSorted p (suc p) xs → WordsStand (suc p) xs ls → ((m : ℕ) → suc p ≤ m → f m ≡ c + before m xs) →
      labels_from c (emit_at write p xs behind) ≡ map (at f) (labels_from (suc p) ls)
  unfolding Stands
  emit_stands p c [] ls behind rec s v h = rec c [] tt v h
  emit_stands p c (AsGiven q ∷ xs) ls behind rec s v h = rec c (AsGiven q ∷ xs) s v h
  emit_stands p c (New i q ∷ xs) ls behind rec s v h = elim (cases_Bool (q == p)) [
    | inl e ↦
        let here = eqb-true q p e in
        rw e (emit_stands p (c + 1) xs ls behind rec (sorted_less q (suc q) p (suc p) xs (omega arith) (omega arith) s.1) v
        (λ m l. h m l ∙ ap (λ k. c + k) (before_more m (New i q) xs (omega arith)) ∙ (let z : c + suc (before m xs) ≡ c + 1 + before m xs = omega arith in z)))
    | inr e ↦
        let near = s.0 in
        let other : q ≢ p = eqb-false q p e in
        let far : suc p ≤ q = omega arith in
        rw e (rec c (New i q ∷ xs) (far, s.1) v h)
  ]

  other_stands : (p c : ℕ) (l : ListingLine) (xs : List Item) (ls : List ListingLine) (behind : List Item → List ListingLine) → Stands (suc p) ls behind → AreSorted p (suc p) xs → WordsStand (suc p) xs ls → ((m : ℕ) → p ≤ m → f m ≡ c + before m xs) → is_op l.statement ≡ true → is_given_at p xs ≡ false →
      labels_from c (line_at write p l xs behind) ≡ map (at f) (labels_from p (l ∷ ls))
  other_stands p c l xs ls behind rec s v h op g =
      let here : f p ≡ c = h p (omega arith) ∙ ap (λ k. c + k) (before_none p p (suc p) xs (omega arith) (omega arith) s) ∙ (let z : c + 0 ≡ c = omega arith in z) in
      let one = op_takes l.statement op in
      ap (labels_from c) (other_line write p l xs behind g)
      ∙ names_kept l l.names c (emit_at write p xs behind)
      ∙ ap (λ ms. ms ++ labels_from c (emit_at write p xs behind)) (labels_here f c p l.names here)
      ∙ ap (λ ms. map (at f) (labels_at p l.names) ++ ms) (emit_stands p c xs ls behind rec s v (λ m k. h m (omega arith)) ∙ ap (λ k. map (at f) (labels_from k ls)) (let z : suc p ≡ p + length (places_in l.statement) = omega arith in z))
      ∙ sym (map-append (at f) (labels_at p l.names) (labels_from (p + length (places_in l.statement)) ls))

  given_stands : (p q c : ℕ) (l : ListingLine) (xs : List Item) (ls : List ListingLine) (behind : List Item → List ListingLine) → Stands (suc p) ls behind → q ≡ p → AreSorted q q (AsGiven q ∷ xs) → WordsStand (suc p) xs ls → ((m : ℕ) → p ≤ m → f m ≡ c + before m (AsGiven q ∷ xs)) → is_op l.statement ≡ true →
      labels_from c (l ∷ behind xs) ≡ map (at f) (labels_from p (l ∷ ls))
  unfolding Stands
  given_stands p q c l xs ls behind rec e s v h op =
      let here : f p ≡ c = h p (omega arith) ∙ ap (λ k. c + k) (before_none p q q (AsGiven q ∷ xs) (omega arith) (omega arith) s) ∙ (let z : c + 0 ≡ c = omega arith in z) in
      let one = op_takes l.statement op in
      let rest = rec (c + 1) xs (sorted_less (suc q) (suc q) (suc p) (suc p) xs (omega arith) (omega arith) s.1) v
      (λ m k. h m (omega arith) ∙ ap (λ j. c + j) (before_more m (AsGiven q) xs (omega arith)) ∙ (let z : c + suc (before m xs) ≡ c + 1 + before m xs = omega arith in z)) in
      ap (λ ms. ms ++ labels_from (c + length (places_in l.statement)) (behind xs)) (labels_here f c p l.names here)
      ∙ ap (λ ms. map (at f) (labels_at p l.names) ++ ms) (ap (λ k. labels_from k (behind xs)) (let z : c + length (places_in l.statement) ≡ c + 1 = omega arith in z) ∙ rest ∙ ap (λ k. map (at f) (labels_from k ls)) (let z : suc p ≡ p + length (places_in l.statement) = omega arith in z))
      ∙ sym (map-append (at f) (labels_at p l.names) (labels_from (p + length (places_in l.statement)) ls))

  line_stands : (p c : ℕ) (l : ListingLine) (xs : List Item) (ls : List ListingLine) (behind : List Item → List ListingLine) → Stands (suc p) ls behind → AreSorted p p xs → WordsStand (suc p) xs ls → ((m : ℕ) → p ≤ m → f m ≡ c + before m xs) → is_op l.statement ≡ true →
      labels_from c (line_at write p l xs behind) ≡ map (at f) (labels_from p (l ∷ ls))
  line_stands p c l [] ls behind rec s v h op = other_stands p c l [] ls behind rec tt v h op refl
  line_stands p c l (New i q ∷ xs) ls behind rec s v h op = other_stands p c l (New i q ∷ xs) ls behind rec s v h op refl
  line_stands p c l (AsGiven q ∷ xs) ls behind rec s v h op = elim (cases_Bool (q == p)) [
    | inl g ↦
        let e = eqb-true q p g in
        rw g (given_stands p q c l xs ls behind rec e (let same : q ≤ q = omega arith in same, s.1) (stand_behind p q xs ls e v) h op)
    | inr g ↦ other_stands p c l (AsGiven q ∷ xs) ls behind rec (not_given p (AsGiven q ∷ xs) g s) v h op g
  ]

  stands_now : (ls : List ListingLine) (p : ℕ) → Stands p ls (λ ys. lines_from write p ys ls)
  unfolding Stands
  stands_now [] p c xs s v h = refl
  stands_now (l ∷ ls) p c xs s v h = elim (cases_Bool (is_op l.statement)) [
    | inl op ↦ rw op (line_stands p c l xs ls (λ ys. lines_from write (suc p) ys ls) (stands_now ls (suc p)) s (words_behind p xs l ls op v) h op)
    | inr op ↦
        let k : ℕ = length (places_in l.statement) in
        let words = words_past p xs l ls op s v in
        let here : f p ≡ c = h p (omega arith) ∙ ap (λ j. c + j) (least_home p xs s) ∙ (let z : c + 0 ≡ c = omega arith in z) in
        let rest = stands_now ls (p + k) (c + k) (drop k xs) words.0 words.1
        (λ m j. h m (omega arith) ∙ ap (λ n. c + n) (before_words k p m xs s (λ n g. v n (all_words l.statement ls n op g)) j) ∙ (let z : c + (k + before m (drop k xs)) ≡ c + k + before m (drop k xs) = omega arith in z)) in
        rw op (ap (λ ms. ms ++ labels_from (c + k) (lines_from write (p + k) (drop k xs) ls)) (labels_here f c p l.names here)
        ∙ ap (λ ms. map (at f) (labels_at p l.names) ++ ms) rest
        ∙ sym (map-append (at f) (labels_at p l.names) (labels_from (p + k) ls)))
  ]

labels_stand : (write : Instr → List ℕ) (ls : List ListingLine) (xs : List Item) → AreSorted 0 0 xs → WordsStand 0 xs ls → labels_from 0 (lines_from write 0 xs ls) ≡ map (at (λ m. before m xs)) (labels_from 0 ls)
unfolding Stands
labels_stand write ls xs s v = stands_now write (λ m. before m xs) ls 0 0 xs s v (λ m h. let z : before m xs ≡ 0 + before m xs = omega arith in z)

-- ---- the labels right before an item ----

-- one past the home of the item before the r-th, or the first place
abbrev pub IsFrom : ℕ → ℕ → List Item → Type 0
IsFrom from r xs = ((from ≡ 0) × (r ≡ 0)) ⊎ ((k : ℕ) × (x : Item) × (r ≡ suc k) × (slice_get xs k ≡ Some x) × (from ≡ suc (home_of x)))

-- r items have their home before each place from there up to the r-th item's home
count_within : (m r from : ℕ) (xs : List Item) (y : Item) → AreSorted 0 0 xs → slice_get xs r ≡ Some y → IsFrom from r xs → before m xs ≡ r → (from ≤ m) × (m ≤ home_of y)
count_within m r from xs y s e (inl h) b = (omega (arith, h.0), up)
  where
    up : m ≤ home_of y
    up = elim (cases_lt (home_of y) m) [ inl l ↦ absurd (let more = before_many m 0 0 r xs y s e l in omega arith) | inr l ↦ l ]
count_within m r from xs y s e (inr h) b = (down, up)
  where
    up : m ≤ home_of y
    up = elim (cases_lt (home_of y) m) [ inl l ↦ absurd (let more = before_many m 0 0 r xs y s e l in omega arith) | inr l ↦ l ]

    down : from ≤ m
    down = elim (cases_lt m from) [ inl l ↦ absurd (let few = before_few m 0 0 h.0 xs h.1 s h.3 (omega (arith, h.4)) in omega (arith, h.2)) | inr l ↦ l ]

within_count : (m r from : ℕ) (xs : List Item) (y : Item) → AreSorted 0 0 xs → slice_get xs r ≡ Some y → IsFrom from r xs → from ≤ m → m ≤ home_of y → before m xs ≡ r
within_count m r from xs y s e (inl h) l g = let few = before_few m 0 0 r xs y s e g in omega (arith, h.1)
within_count m r from xs y s e (inr h) l g =
    let few = before_few m 0 0 r xs y s e g in
    let many = before_many m 0 0 h.0 xs h.1 s h.3 (omega (arith, h.4)) in
    omega (arith, h.2)

-- a label stands right before the r-th item in the lines now, where one stands from there up to its home in the given lines
pub labels_between : (write : Instr → List ℕ) (ls : List ListingLine) (xs : List Item) (r from : ℕ) (y : Item) → AreSorted 0 0 xs → WordsStand 0 xs ls → slice_get xs r ≡ Some y → IsFrom from r xs →
    HasLabelIn (labels_from 0 ls) from (home_of y) ↔ HasLabelAt (labels_from 0 (lines_from write 0 xs ls)) r
labels_between write ls xs r from y s v e i = (forth, back)
  where
    now : labels_from 0 (lines_from write 0 xs ls) ≡ map (at (λ m. before m xs)) (labels_from 0 ls)
    now = labels_stand write ls xs s v

    forth : HasLabelIn (labels_from 0 ls) from (home_of y) → HasLabelAt (labels_from 0 (lines_from write 0 xs ls)) r
    forth h = record {
      number = h.number;
      label = at (λ m. before m xs) h.label;
      is = ap (λ ms. slice_get ms h.number) now ∙ get_map (at (λ m. before m xs)) (labels_from 0 ls) h.number h.label h.is;
      at = within_count h.label.place r from xs y s e i h.from h.to;
    }

    back : HasLabelAt (labels_from 0 (lines_from write 0 xs ls)) r → HasLabelIn (labels_from 0 ls) from (home_of y)
    back h =
        let found = map_back (at (λ m. before m xs)) (labels_from 0 ls) h.number h.label (ap (λ ms. slice_get ms h.number) (sym now) ∙ h.is) in
        let here : before found.0.place xs ≡ r = ap (λ (l : Label). l.place) (sym found.2) ∙ h.at in
        let within = count_within found.0.place r from xs y s e i here in
        record { number = h.number; label = found.0; is = found.1; from = within.0; to = within.1 }
