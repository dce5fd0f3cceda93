-- The places of the lines now are the items, in order.
use Rattle.std.proofs.Common.{◌≡◌, ◌≢◌, ℕ, zero, suc, ◌+◌, ◌-◌, ◌<◌, ◌≤◌, ◌==◌, true, false, List, [], ◌∷◌, ◌++◌, length, map, drop, Some, refl, sym, ap, ◌∙◌, inl, inr, arith, true≢false}
use Rattle.std.specs.Prelude.{slice_get, Option, None, is_some}
use Rattle.std.proofs.lemmas.Bool.{cases_Bool, eqb-true, eqb-false}
use Rattle.std.proofs.lemmas.List.{map-append}
use Rattle.thumb_instr.specs.declared.instr.Instr.{Instr}
use Rattle.thumb_model.specs.Listing.{Statement, Nothing, Instruction, Words, Aligns, Sets, ListingLine, Place, Op, plain, places_in, places_of, is_op_place}
use Rattle.thumb_model.specs.Replaced.{is_op}
use Rattle.thumb_model.proofs.Lists.{get_back}
use Rattle.edited_listing.specs.Items.{Item, AsGiven, New, has_given, AreSorted}
use Rattle.edited_listing.specs.Emitting.{is_given_at, emit_at, line_at, lines_from}
use Rattle.edited_listing.specs.Giving.{WordsStand}
use Rattle.edited_listing.specs.Places.{item_place, AreHome}
use Rattle.edited_listing.proofs.Sorted.{sorted_less, not_given, is_first}
use Rattle.edited_listing.proofs.Emitted.{words_behind, words_past, all_words, stand_behind, has_behind, other_line}
use Rattle.thumb_model.proofs.LinesReplaced.{kept_places as labels_place}
use Rattle.common_lemmas.proofs.Lists.{get_front}

abbrev pub some_places : List ListingLine → List (Option Place)
some_places ls = map (λ x. Some x) (places_of ls)

op_one : (s : Statement) → is_op s ≡ true → (x : Place) × (places_in s ≡ x ∷ [])
op_one Nothing e = absurd (true≢false (sym e))
op_one (Instruction i mention) e = (Op i mention, refl)
op_one (Words vs) e = absurd (true≢false (sym e))
op_one (Aligns size most) e = absurd (true≢false (sym e))
op_one (Sets name address) e = absurd (true≢false (sym e))

module _ (write : Instr → List ℕ) (at : ℕ → Option Place) where
  pub home_drop : (n : ℕ) (xs : List Item) → AreHome at xs → AreHome at (drop n xs)
  home_drop zero xs h = h
  home_drop (suc n) [] h = tt
  home_drop (suc n) (x ∷ xs) h = home_drop n xs h.1

  -- items that are emitted as places
  Emits : ℕ → List ListingLine → (List Item → List ListingLine) → Type 0
  Emits p ls behind = (xs : List Item) → AreSorted p p xs → WordsStand p xs ls → AreHome at xs → some_places (behind xs) ≡ map (item_place at) xs

  emit_places : (p : ℕ) (xs : List Item) (ls : List ListingLine) (behind : List Item → List ListingLine) → Emits (suc p) ls behind → AreSorted p (suc p) xs → WordsStand (suc p) xs ls → AreHome at xs → some_places (emit_at write p xs behind) ≡ map (item_place at) xs
  unfolding Emits
  emit_places p [] ls behind rec s v h = rec [] tt v tt
  emit_places p (AsGiven q ∷ xs) ls behind rec s v h = rec (AsGiven q ∷ xs) s v h
  emit_places p (New i q ∷ xs) ls behind rec s v h = elim (cases_Bool (q == p)) [
    | inl e ↦
        let f = eqb-true q p e in
        rw e (ap (λ ys. Some (plain i) ∷ ys) (emit_places p xs ls behind rec (sorted_less q (suc q) p (suc p) xs (omega arith) (omega arith) s.1) v h.1))
    | inr e ↦
        let a = s.0 in
        let other : q ≢ p = eqb-false q p e in
        rw e (rec (New i q ∷ xs) (let b : suc p ≤ q = omega arith in b, s.1) v h)
  ]

  given_places : (p q : ℕ) (l : ListingLine) (xs : List Item) (ls : List ListingLine) (behind : List Item → List ListingLine) → Emits (suc p) ls behind → q ≡ p → AreSorted (suc q) (suc q) xs → WordsStand (suc p) xs ls → AreHome at xs → is_op l.statement ≡ true →
      at p ≡ slice_get (places_of (l ∷ ls)) 0 → some_places (l ∷ behind xs) ≡ map (item_place at) (AsGiven q ∷ xs)
  unfolding Emits
  given_places p q l xs ls behind rec e s v h op here =
      let one = op_one l.statement op in
      let x = one.0 in
      let now : at q ≡ Some x = ap at e ∙ here ∙ ap (λ ps. slice_get (ps ++ places_of ls) 0) one.1 in
      ap (λ ps. map (λ y. Some y) (ps ++ places_of (behind xs))) one.1
      ∙ ap (λ ys. Some x ∷ ys) (rec xs (sorted_less (suc q) (suc q) (suc p) (suc p) xs (omega arith) (omega arith) s) v h)
      ∙ ap (λ y. y ∷ map (item_place at) xs) (sym now)

  other_places : (p : ℕ) (l : ListingLine) (xs : List Item) (ls : List ListingLine) (behind : List Item → List ListingLine) → Emits (suc p) ls behind → AreSorted p (suc p) xs → WordsStand (suc p) xs ls → AreHome at xs → is_given_at p xs ≡ false →
      some_places (line_at write p l xs behind) ≡ map (item_place at) xs
  other_places p l xs ls behind rec s v h e =
      ap some_places (other_line write p l xs behind e) ∙ ap (λ ps. map (λ y. Some y) ps) (labels_place l l.names (emit_at write p xs behind)) ∙ emit_places p xs ls behind rec s v h

  line_places : (p : ℕ) (l : ListingLine) (xs : List Item) (ls : List ListingLine) (behind : List Item → List ListingLine) → Emits (suc p) ls behind → AreSorted p p xs → WordsStand (suc p) xs ls → AreHome at xs → is_op l.statement ≡ true →
      at p ≡ slice_get (places_of (l ∷ ls)) 0 → some_places (line_at write p l xs behind) ≡ map (item_place at) xs
  line_places p l [] ls behind rec s v h op here = other_places p l [] ls behind rec tt v h refl
  line_places p l (New i q ∷ xs) ls behind rec s v h op here = other_places p l (New i q ∷ xs) ls behind rec s v h refl
  line_places p l (AsGiven q ∷ xs) ls behind rec s v h op here = elim (cases_Bool (q == p)) [
    | inl e ↦ rw e (given_places p q l xs ls behind rec (eqb-true q p e) s.1 (stand_behind p q xs ls (eqb-true q p e) v) h.1 op here)
    | inr e ↦ other_places p l (AsGiven q ∷ xs) ls behind rec (not_given p (AsGiven q ∷ xs) e s) v h e
  ]

  -- data words
  word_items : (ws : List Place) (p : ℕ) (xs : List Item) → AreSorted p p xs → ((j : ℕ) → j < length ws → has_given (p + j) xs ≡ true) → ((j : ℕ) → j < length ws → at (p + j) ≡ slice_get ws j) → map (λ y. Some y) ws ++ map (item_place at) (drop (length ws) xs) ≡ map (item_place at) xs
  word_items [] p xs s v a = refl
  word_items (w ∷ ws) p [] s v a = absurd (true≢false (sym (v 0 (omega arith))))
  word_items (w ∷ ws) p (New i q ∷ xs) s v a = absurd (true≢false (sym (is_first p (New i q ∷ xs) s (ap (λ j. has_given j xs) (let z : p ≡ p + 0 = omega arith in z) ∙ v 0 (omega arith)))))
  word_items (w ∷ ws) p (AsGiven q ∷ xs) s v a =
      let first : has_given p (AsGiven q ∷ xs) ≡ true = ap (λ j. has_given j (AsGiven q ∷ xs)) (let z : p ≡ p + 0 = omega arith in z) ∙ v 0 (omega arith) in
      let e = eqb-true q p (is_first p (AsGiven q ∷ xs) s first) in
      let here : Some w ≡ at q = sym (a 0 (omega arith)) ∙ ap at (let z : p + 0 ≡ q = omega arith in z) in
      ap (λ ys. Some w ∷ ys) (word_items ws (suc p) xs (sorted_less (suc q) (suc q) (suc p) (suc p) xs (omega arith) (omega arith) s.1)
      (λ j h. has_behind p q (suc p + j) xs e (omega arith) (ap (λ r. has_given r (AsGiven q ∷ xs)) (let z : suc p + j ≡ p + suc j = omega arith in z) ∙ v (suc j) (omega arith)))
      (λ j h. ap at (let z : suc p + j ≡ p + suc j = omega arith in z) ∙ a (suc j) (omega arith)))
      ∙ ap (λ y. y ∷ map (item_place at) xs) here

  pub places_now : (ls : List ListingLine) (p : ℕ) (xs : List Item) → AreSorted p p xs → WordsStand p xs ls → AreHome at xs → ((k : ℕ) → at (p + k) ≡ slice_get (places_of ls) k) → some_places (lines_from write p xs ls) ≡ map (item_place at) xs
  unfolding Emits
  places_now [] p [] s v h a = refl
  places_now [] p (AsGiven q ∷ xs) s v h a =
      absurd (let b = s.0 in let none : at q ≡ None = ap at (let z : q ≡ p + (q - p) = omega arith in z) ∙ a (q - p) in true≢false (sym h.0 ∙ ap is_some none))
  places_now [] p (New i q ∷ xs) s v h a =
      absurd (let b = s.0 in let none : at q ≡ None = ap at (let z : q ≡ p + (q - p) = omega arith in z) ∙ a (q - p) in true≢false (sym h.0 ∙ ap is_op_place none))
  places_now (l ∷ ls) p xs s v h a = elim (cases_Bool (is_op l.statement)) [
    | inl op ↦
        let one = op_one l.statement op in
        rw op (line_places p l xs ls (λ ys. lines_from write (suc p) ys ls) (λ ys t u g. places_now ls (suc p) ys t u g (λ k. ap at (let z : suc p + k ≡ p + suc k = omega arith in z) ∙ a (suc k) ∙ ap (λ ps. slice_get (ps ++ places_of ls) (suc k)) one.1))
        s (words_behind p xs l ls op v) h op (ap at (let z : p ≡ p + 0 = omega arith in z) ∙ a 0))
    | inr op ↦
        let k : ℕ = length (places_in l.statement) in
        let words = words_past p xs l ls op s v in
        let rest = places_now ls (p + k) (drop k xs) words.0 words.1 (home_drop k xs h) (λ j. ap at (let z : p + k + j ≡ p + (k + j) = omega arith in z) ∙ a (k + j) ∙ get_back (places_in l.statement) (places_of ls) j (k + j) refl) in
        rw op (map-append (λ y. Some y) (places_in l.statement) (places_of (lines_from write (p + k) (drop k xs) ls))
        ∙ ap (λ ys. map (λ y. Some y) (places_in l.statement) ++ ys) rest
        ∙ word_items (places_in l.statement) p xs s (λ j g. v j (all_words l.statement ls j op g)) (λ j g. a j ∙ get_front (places_in l.statement) (places_of ls) j g))
  ]
