-- Which rows of the lines now are joined to the row before, by the table of the given lines.
use Rattle.std.proofs.Common.{◌≡◌, ◌≢◌, ℕ, zero, suc, ◌+◌, ◌-◌, ◌<◌, ◌≤◌, ◌==◌, ◌&&◌, Bool, true, false, List, [], ◌∷◌, ◌++◌, length, length-append, map, drop, Some, refl, sym, ap, ◌∙◌, subst, inl, inr, arith, true≢false}
use Rattle.std.specs.Prelude.{slice_get}
use Rattle.std.proofs.lemmas.Bool.{cases_Bool, eqb-true, eqb-false}
use Rattle.std.proofs.lemmas.Option.{same_Some}
use Rattle.thumb_instr.specs.declared.instr.Instr.{Instr}
use Rattle.thumb_model.specs.Listing.{Name, Value, Statement, Nothing, Instruction, Words, Aligns, Sets, ListingLine, Word, Place, places_in, places_of, is_op_place}
use Rattle.thumb_model.specs.Replaced.{is_op, labels_kept}
use Rattle.thumb_model.proofs.Lists.{get_back, get_drop, length_map}
use Rattle.window_runs.specs.declared.rows.WindowPlace.{WindowPlace}
use Rattle.window_runs.specs.Rows.{is_unlabelled, window_instr, word_row, rows_of, stays_joined, rows_from}
use Rattle.edited_listing.specs.Items.{Item, AsGiven, New, home_of, AreSorted}
use Rattle.edited_listing.specs.Emitting.{is_given_at, emit_at, line_at, lines_from}
use Rattle.edited_listing.specs.Giving.{WordsStand}
use Rattle.edited_listing.specs.Edited.{instr_in}
use Rattle.edited_listing.specs.Known.{row_joined, joined_at, all_from}
use Rattle.edited_listing.proofs.Sorted.{sorted_less, not_given}
use Rattle.edited_listing.proofs.Emits.{and_true}
use Rattle.edited_listing.proofs.Emitted.{words_behind, words_past, stand_behind, other_line}
use Rattle.thumb_model.proofs.LinesReplaced.{kept_places as labels_places}
use Rattle.edited_listing.proofs.Counted.{not_word as no_word}
use Rattle.common_lemmas.proofs.Booleans.{and_assoc}

-- ---- truth values ----

and_none : (a b c : Bool) → b ≡ false → false ≡ (a && (b && c))
and_none true b c e = rw e refl
and_none false b c e = refl

-- ---- rows of lines ----

-- a row's instruction is that of its place
abbrev IsOfPlace : List ListingLine → WindowPlace → Type 0
IsOfPlace ls r = (a : Bool) (j : ℕ) → slice_get (rows_from a ls) j ≡ Some r → r.instr ≡ instr_in (slice_get (places_of ls) j)

word_instr : (ls : List ListingLine) (r : WindowPlace) → IsOfPlace ls r → (c : Bool) (vs : List Value) (j : ℕ) → slice_get (map word_row vs ++ rows_from c ls) j ≡ Some r → r.instr ≡ instr_in (slice_get (map Word vs ++ places_of ls) j)
word_instr ls r rec c [] j h = rec c j h
word_instr ls r rec c (v ∷ vs) zero h = ap (λ (x : WindowPlace). x.instr) (sym (same_Some (word_row v) r h))
word_instr ls r rec c (v ∷ vs) (suc j) h = word_instr ls r rec c vs j h

statement_instr : (ls : List ListingLine) (r : WindowPlace) → IsOfPlace ls r → (c : Bool) (s : Statement) (j : ℕ) → slice_get (rows_of c s ++ rows_from (stays_joined c s) ls) j ≡ Some r → r.instr ≡ instr_in (slice_get (places_in s ++ places_of ls) j)
statement_instr ls r rec c Nothing j h = rec c j h
statement_instr ls r rec c (Instruction i m) zero h = ap (λ (x : WindowPlace). x.instr) (sym (same_Some (record { instr = window_instr i m; is_joined = c }) r h))
statement_instr ls r rec c (Instruction i m) (suc j) h = rec true j h
statement_instr ls r rec c (Words vs) j h = word_instr ls r rec c vs j h
statement_instr ls r rec c (Aligns size most) j h = rec false j h
statement_instr ls r rec c (Sets name address) j h = rec c j h

pub row_instr : (ls : List ListingLine) (r : WindowPlace) → IsOfPlace ls r
row_instr [] r b k e = absurd (cc)
row_instr (l ∷ ls) r b k e = statement_instr ls r (row_instr ls r) (b && is_unlabelled l.names) l.statement k e

-- the row of an instruction, and those behind it
op_row : (c : Bool) (s : Statement) (rs : List WindowPlace) → is_op s ≡ true → joined_at (rows_of c s ++ rs) 0 ≡ c
op_row c Nothing rs e = absurd (true≢false (sym e))
op_row c (Instruction i m) rs e = refl
op_row c (Words vs) rs e = absurd (true≢false (sym e))
op_row c (Aligns size most) rs e = absurd (true≢false (sym e))
op_row c (Sets name address) rs e = absurd (true≢false (sym e))

op_rows : (c : Bool) (s : Statement) (ls : List ListingLine) (k : ℕ) → is_op s ≡ true → joined_at (rows_of c s ++ rows_from (stays_joined c s) ls) (suc k) ≡ joined_at (rows_from true ls) k
op_rows c Nothing ls k e = absurd (true≢false (sym e))
op_rows c (Instruction i m) ls k e = refl
op_rows c (Words vs) ls k e = absurd (true≢false (sym e))
op_rows c (Aligns size most) ls k e = absurd (true≢false (sym e))
op_rows c (Sets name address) ls k e = absurd (true≢false (sym e))

-- the places behind an instruction
op_places : (s : Statement) (ps : List Place) (k : ℕ) → is_op s ≡ true → slice_get (places_in s ++ ps) (suc k) ≡ slice_get ps k
op_places Nothing ps k e = absurd (true≢false (sym e))
op_places (Instruction i m) ps k e = refl
op_places (Words vs) ps k e = absurd (true≢false (sym e))
op_places (Aligns size most) ps k e = absurd (true≢false (sym e))
op_places (Sets name address) ps k e = absurd (true≢false (sym e))

op_length : (s : Statement) (ps : List Place) → is_op s ≡ true → length (places_in s ++ ps) ≡ suc (length ps)
op_length Nothing ps e = absurd (true≢false (sym e))
op_length (Instruction i m) ps e = refl
op_length (Words vs) ps e = absurd (true≢false (sym e))
op_length (Aligns size most) ps e = absurd (true≢false (sym e))
op_length (Sets name address) ps e = absurd (true≢false (sym e))

word_rows : (vs : List Value) (rs : List WindowPlace) (k : ℕ) → joined_at (map word_row vs ++ rs) (length vs + k) ≡ joined_at rs k
word_rows vs rs k = ap row_joined (get_back (map word_row vs) rs k (length vs + k) (let z = length_map word_row vs in omega arith))

-- labels that stay
labels_rows : (l : ListingLine) (ns : List Name) (b : Bool) (ls : List ListingLine) → rows_from b (labels_kept l ns ++ ls) ≡ rows_from (b && is_unlabelled ns) ls
labels_rows l [] b ls = ap (λ c. rows_from c ls) (sym (and_true b))
labels_rows l (n ∷ ns) b ls = refl

module _ (write : Instr → List ℕ) (at : ℕ → Bool) where
  -- the rows of lines from place p on tell which places are joined
  abbrev Agrees : ℕ → Bool → List ListingLine → Type 0
  Agrees p b ls = (j : ℕ) → joined_at (rows_from b ls) j ≡ at (p + j)

  agrees_op : (p : ℕ) (b : Bool) (l : ListingLine) (ls : List ListingLine) → is_op l.statement ≡ true → Agrees p b (l ∷ ls) → Agrees (suc p) true ls
  agrees_op p b l ls op h = λ j. sym (op_rows (b && is_unlabelled l.names) l.statement ls j op) ∙ h (suc j) ∙ ap at (let z : p + suc j ≡ suc p + j = omega arith in z)

  agrees_here : (p : ℕ) (b : Bool) (l : ListingLine) (ls : List ListingLine) → is_op l.statement ≡ true → Agrees p b (l ∷ ls) → (b && is_unlabelled l.names) ≡ at p
  agrees_here p b l ls op h = sym (op_row (b && is_unlabelled l.names) l.statement (rows_from (stays_joined (b && is_unlabelled l.names) l.statement) ls) op) ∙ h 0 ∙ ap at (let z : p + 0 ≡ p = omega arith in z)

  -- ---- the first row ----

  -- the first row is joined where all places up to its home are, and what stands before is
  First : ℕ → List ListingLine → (List Item → List ListingLine) → Type 0
  First p ls behind = (b carried before : Bool) (y : Item) (xs : List Item) → b ≡ (before && carried) → Agrees p carried ls → AreSorted p p (y ∷ xs) → WordsStand p (y ∷ xs) ls → home_of y < p + length (places_of ls) →
      joined_at (rows_from b (behind (y ∷ xs))) 0 ≡ (before && all_from at p (suc (home_of y - p)))

  emit_first : (p : ℕ) (b : Bool) (y : Item) (xs : List Item) (ls : List ListingLine) (behind : List Item → List ListingLine) → First (suc p) ls behind → Agrees (suc p) true ls → AreSorted p (suc p) (y ∷ xs) → WordsStand (suc p) (y ∷ xs) ls → home_of y < suc p + length (places_of ls) →
      joined_at (rows_from b (emit_at write p (y ∷ xs) behind)) 0 ≡ (b && all_from at (suc p) (home_of y - p))
  unfolding First
  emit_first p b (AsGiven q) xs ls behind rec a s v h =
      let far : suc p ≤ q = s.0 in
      rec b true b (AsGiven q) xs (sym (and_true b)) a s v h ∙ ap (λ n. b && all_from at (suc p) n) (let z : suc (q - suc p) ≡ q - p = omega arith in z)
  emit_first p b (New i q) xs ls behind rec a s v h = elim (cases_Bool (q == p)) [
    | inl e ↦ let here = eqb-true q p e in rw e (ap (λ n. b && all_from at (suc p) n) (let z : 0 ≡ q - p = omega arith in z))
    | inr e ↦
        let near = s.0 in
        let other : q ≢ p = eqb-false q p e in
        let far : suc p ≤ q = omega arith in
        rw e (rec b true b (New i q) xs (sym (and_true b)) a (far, s.1) v h ∙ ap (λ n. b && all_from at (suc p) n) (let z : suc (q - suc p) ≡ q - p = omega arith in z))
  ]

  other_first : (p : ℕ) (b carried before : Bool) (l : ListingLine) (y : Item) (xs : List Item) (ls : List ListingLine) (behind : List Item → List ListingLine) → First (suc p) ls behind → b ≡ (before && carried) → Agrees p carried (l ∷ ls) → is_op l.statement ≡ true →
      AreSorted p (suc p) (y ∷ xs) → WordsStand (suc p) (y ∷ xs) ls → home_of y < suc p + length (places_of ls) → is_given_at p (y ∷ xs) ≡ false →
      joined_at (rows_from b (line_at write p l (y ∷ xs) behind)) 0 ≡ (before && all_from at p (suc (home_of y - p)))
  other_first p b carried before l y xs ls behind rec e a op s v h g =
      let now : (b && is_unlabelled l.names) ≡ (before && at p) = ap (λ c. c && is_unlabelled l.names) e ∙ and_assoc before carried (is_unlabelled l.names) ∙ ap (λ c. before && c) (agrees_here p carried l ls op a) in
      ap (λ zs. joined_at (rows_from b zs) 0) (other_line write p l (y ∷ xs) behind g)
      ∙ ap (λ rs. joined_at rs 0) (labels_rows l l.names b (emit_at write p (y ∷ xs) behind))
      ∙ emit_first p (b && is_unlabelled l.names) y xs ls behind rec (agrees_op p carried l ls op a) s v h
      ∙ ap (λ c. c && all_from at (suc p) (home_of y - p)) now
      ∙ and_assoc before (at p) (all_from at (suc p) (home_of y - p))

  given_first : (p q : ℕ) (b carried before : Bool) (l : ListingLine) (ls zs : List ListingLine) → b ≡ (before && carried) → Agrees p carried (l ∷ ls) → is_op l.statement ≡ true → q ≡ p → joined_at (rows_from b (l ∷ zs)) 0 ≡ (before && all_from at p (suc (q - p)))
  given_first p q b carried before l ls zs e a op h =
      op_row (b && is_unlabelled l.names) l.statement (rows_from (stays_joined (b && is_unlabelled l.names) l.statement) zs) op
      ∙ ap (λ c. c && is_unlabelled l.names) e
      ∙ and_assoc before carried (is_unlabelled l.names)
      ∙ ap (λ c. before && c) (agrees_here p carried l ls op a ∙ sym (and_true (at p)) ∙ ap (λ n. at p && all_from at (suc p) n) (let z : 0 ≡ q - p = omega arith in z))

  line_first : (p : ℕ) (b carried before : Bool) (l : ListingLine) (y : Item) (xs : List Item) (ls : List ListingLine) (behind : List Item → List ListingLine) → First (suc p) ls behind → b ≡ (before && carried) → Agrees p carried (l ∷ ls) → is_op l.statement ≡ true →
      AreSorted p p (y ∷ xs) → WordsStand (suc p) (y ∷ xs) ls → home_of y < suc p + length (places_of ls) →
      joined_at (rows_from b (line_at write p l (y ∷ xs) behind)) 0 ≡ (before && all_from at p (suc (home_of y - p)))
  line_first p b carried before l (New i q) xs ls behind rec e a op s v h = other_first p b carried before l (New i q) xs ls behind rec e a op s v h refl
  line_first p b carried before l (AsGiven q) xs ls behind rec e a op s v h = elim (cases_Bool (q == p)) [
    | inl g ↦ rw g (given_first p q b carried before l ls (behind xs) e a op (eqb-true q p g))
    | inr g ↦ other_first p b carried before l (AsGiven q) xs ls behind rec e a op (not_given p (AsGiven q ∷ xs) g s) v h g
  ]

  -- ---- lines without an instruction ----

  -- what holds of the places of a statement and those behind it
  AgreesAt : ℕ → Bool → Statement → List ListingLine → Type 0
  AgreesAt p c s ls = (j : ℕ) → joined_at (rows_of c s ++ rows_from (stays_joined c s) ls) j ≡ at (p + j)

  -- no place before the rest
  agrees_zero : (p : ℕ) (c : Bool) (ls : List ListingLine) → ((j : ℕ) → joined_at (rows_from c ls) j ≡ at (p + j)) → Agrees (p + 0) c ls
  agrees_zero p c ls h = λ j. h j ∙ ap at (let z : p + j ≡ p + 0 + j = omega arith in z)

  agrees_words : (p : ℕ) (c : Bool) (vs : List Value) (ls : List ListingLine) → AgreesAt p c (Words vs) ls → Agrees (p + length (map Word vs)) c ls
  unfolding AgreesAt
  agrees_words p c vs ls h = λ j. sym (word_rows vs (rows_from c ls) j) ∙ h (length vs + j) ∙ ap at (let m = length_map Word vs in let z : p + (length vs + j) ≡ p + length (map Word vs) + j = omega arith in z)

  and_off : (b : Bool) → false ≡ (b && false)
  and_off true = refl
  and_off false = refl

  past_first : (p : ℕ) (before : Bool) (y : Item) (xs : List Item) (ls : List ListingLine) (behind : List Item → List ListingLine) → AreSorted (p + 0) (p + 0) (y ∷ xs) → WordsStand (p + 0) (y ∷ xs) ls → First (p + 0) ls behind →
      (b now : Bool) → b ≡ (before && now) → ((j : ℕ) → joined_at (rows_from now ls) j ≡ at (p + j)) → home_of y < p + length (places_of ls) → joined_at (rows_from b (behind (y ∷ xs))) 0 ≡ (before && all_from at p (suc (home_of y - p)))
  unfolding First
  past_first p before y xs ls behind s v rec b now e a h =
      let same : p + 0 ≡ p = omega arith in
      rec b now before y xs e (agrees_zero p now ls a) s v (omega arith) ∙ ap (λ n. before && all_from at n (suc (home_of y - n))) same

  step_first : (s : Statement) (p : ℕ) (before : Bool) (y : Item) (xs : List Item) (ls : List ListingLine) (behind : List Item → List ListingLine) → is_op s ≡ false →
      AreSorted (p + length (places_in s)) (p + length (places_in s)) (drop (length (places_in s)) (y ∷ xs)) → WordsStand (p + length (places_in s)) (drop (length (places_in s)) (y ∷ xs)) ls → First (p + length (places_in s)) ls behind →
      (b now : Bool) → b ≡ (before && now) → AgreesAt p now s ls → home_of y < p + length (places_in s ++ places_of ls) →
      joined_at (rows_of b s ++ rows_from (stays_joined b s) (behind (drop (length (places_in s)) (y ∷ xs)))) 0 ≡ (before && all_from at p (suc (home_of y - p)))
  unfolding AgreesAt
  step_first Nothing p before y xs ls behind o s v rec b now e a h = past_first p before y xs ls behind s v rec b now e a h
  step_first (Instruction i m) p before y xs ls behind o s v rec b now e a h = absurd (true≢false o)
  step_first (Words []) p before y xs ls behind o s v rec b now e a h = past_first p before y xs ls behind s v rec b now e a h
  step_first (Words (w ∷ ws)) p before y xs ls behind o s v rec b now e a h =
      let none : at p ≡ false = ap at (let z : p ≡ p + 0 = omega arith in z) ∙ sym (a 0) in and_none before (at p) (all_from at (suc p) (home_of y - p)) none
  step_first (Aligns size most) p before y xs ls behind o s v rec b now e a h = past_first p before y xs ls behind s v rec false false (and_off before) a h
  step_first (Sets name address) p before y xs ls behind o s v rec b now e a h = past_first p before y xs ls behind s v rec b now e a h

  first_now : (ls : List ListingLine) (p : ℕ) → First p ls (λ ys. lines_from write p ys ls)
  unfolding First AgreesAt
  first_now [] p b carried before y xs e a s v h = absurd (let near = home_least p y xs s in omega arith)
    where
      home_least : (p : ℕ) (y : Item) (xs : List Item) → AreSorted p p (y ∷ xs) → p ≤ home_of y
      home_least p (AsGiven q) xs s = s.0
      home_least p (New i q) xs s = s.0
  first_now (l ∷ ls) p b carried before y xs e a s v h = elim (cases_Bool (is_op l.statement)) [
    | inl op ↦
        let one = op_length l.statement (places_of ls) op in
        rw op (line_first p b carried before l y xs ls (λ ys. lines_from write (suc p) ys ls) (first_now ls (suc p)) e a op s (words_behind p (y ∷ xs) l ls op v) (omega arith))
    | inr op ↦
        let k : ℕ = length (places_in l.statement) in
        let words = words_past p (y ∷ xs) l ls op s v in
        rw op (step_first l.statement p before y xs ls (λ ys. lines_from write (p + k) ys ls) op words.0 words.1 (first_now ls (p + k)) (b && is_unlabelled l.names) (carried && is_unlabelled l.names)
        (ap (λ c. c && is_unlabelled l.names) e ∙ and_assoc before carried (is_unlabelled l.names)) a h)
  ]

  -- ---- the row behind an instruction's ----

  -- the next row is joined where all places from one home to the other are
  Next : ℕ → List ListingLine → (List Item → List ListingLine) → Type 0
  Next p ls behind = (b carried : Bool) (k : ℕ) (x y : Item) (xs : List Item) → Agrees p carried ls → AreSorted p p xs → WordsStand p xs ls → slice_get xs k ≡ Some x → slice_get xs (suc k) ≡ Some y →
      is_op_place (slice_get (places_of (behind xs)) k) ≡ true → home_of y < p + length (places_of ls) → joined_at (rows_from b (behind xs)) (suc k) ≡ all_from at (suc (home_of x)) (home_of y - home_of x)

  emit_next : (p : ℕ) (b : Bool) (k : ℕ) (x y : Item) (xs : List Item) (ls : List ListingLine) (behind : List Item → List ListingLine) → Next (suc p) ls behind → First (suc p) ls behind → Agrees (suc p) true ls → AreSorted p (suc p) xs → WordsStand (suc p) xs ls →
      slice_get xs k ≡ Some x → slice_get xs (suc k) ≡ Some y → is_op_place (slice_get (places_of (emit_at write p xs behind)) k) ≡ true → home_of y < suc p + length (places_of ls) →
      joined_at (rows_from b (emit_at write p xs behind)) (suc k) ≡ all_from at (suc (home_of x)) (home_of y - home_of x)
  unfolding Next
  emit_next p b k x y [] ls behind rec first a s v e f o h = absurd (cc)
  emit_next p b k x y (AsGiven q ∷ xs) ls behind rec first a s v e f o h = rec b true k x y (AsGiven q ∷ xs) a s v e f o h
  emit_next p b zero x y (New i q ∷ []) ls behind rec first a s v e f o h = absurd (cc)
  emit_next p b zero x y (New i q ∷ z ∷ zs) ls behind rec first a s v e f o h = elim (cases_Bool (q == p)) [
    | inl g ↦
        let here = eqb-true q p g in
        let at_p : p ≡ home_of x = sym here ∙ ap home_of (same_Some (New i q) x e) in
        let t : AreSorted p (suc p) (z ∷ zs) = sorted_less q (suc q) p (suc p) (z ∷ zs) (omega arith) (omega arith) s.1 in
        let h' : home_of z < suc p + length (places_of ls) = subst (λ w. home_of w < suc p + length (places_of ls)) (sym (same_Some z y f)) h in
        rw g (emit_first p true z zs ls behind first a t v h' ∙ ap (λ w. all_from at (suc p) (home_of w - p)) (same_Some z y f) ∙ ap (λ n. all_from at (suc n) (home_of y - n)) at_p)
    | inr g ↦
        let near = s.0 in
        let other : q ≢ p = eqb-false q p g in
        let far : suc p ≤ q = omega arith in
        let o' : is_op_place (slice_get (places_of (behind (New i q ∷ z ∷ zs))) 0) ≡ true = rw g at o in
        rw g (rec b true 0 x y (New i q ∷ z ∷ zs) a (far, s.1) v e f o' h)
  ]
  emit_next p b (suc k) x y (New i q ∷ xs) ls behind rec first a s v e f o h = elim (cases_Bool (q == p)) [
    | inl g ↦
        let here = eqb-true q p g in
        let t : AreSorted p (suc p) xs = sorted_less q (suc q) p (suc p) xs (omega arith) (omega arith) s.1 in
        let o' : is_op_place (slice_get (places_of (emit_at write p xs behind)) k) ≡ true = rw g at o in
        rw g (emit_next p true k x y xs ls behind rec first a t v e f o' h)
    | inr g ↦
        let near = s.0 in
        let other : q ≢ p = eqb-false q p g in
        let far : suc p ≤ q = omega arith in
        let o' : is_op_place (slice_get (places_of (behind (New i q ∷ xs))) (suc k)) ≡ true = rw g at o in
        rw g (rec b true (suc k) x y (New i q ∷ xs) a (far, s.1) v e f o' h)
  ]

  other_next : (p : ℕ) (b carried : Bool) (k : ℕ) (l : ListingLine) (x y : Item) (xs : List Item) (ls : List ListingLine) (behind : List Item → List ListingLine) → Next (suc p) ls behind → First (suc p) ls behind → Agrees (suc p) true ls →
      AreSorted p (suc p) xs → WordsStand (suc p) xs ls → slice_get xs k ≡ Some x → slice_get xs (suc k) ≡ Some y → is_op_place (slice_get (places_of (line_at write p l xs behind)) k) ≡ true → home_of y < suc p + length (places_of ls) → is_given_at p xs ≡ false →
      joined_at (rows_from b (line_at write p l xs behind)) (suc k) ≡ all_from at (suc (home_of x)) (home_of y - home_of x)
  other_next p b carried k l x y xs ls behind rec first a s v e f o h g =
      let o' : is_op_place (slice_get (places_of (emit_at write p xs behind)) k) ≡ true =
      ap (λ ps. is_op_place (slice_get ps k)) (sym (labels_places l l.names (emit_at write p xs behind))) ∙ ap (λ zs. is_op_place (slice_get (places_of zs) k)) (sym (other_line write p l xs behind g)) ∙ o in
      ap (λ zs. joined_at (rows_from b zs) (suc k)) (other_line write p l xs behind g)
      ∙ ap (λ rs. joined_at rs (suc k)) (labels_rows l l.names b (emit_at write p xs behind))
      ∙ emit_next p (b && is_unlabelled l.names) k x y xs ls behind rec first a s v e f o' h

  given_next : (p q : ℕ) (b : Bool) (k : ℕ) (l : ListingLine) (x y : Item) (xs : List Item) (ls : List ListingLine) (behind : List Item → List ListingLine) → Next (suc p) ls behind → First (suc p) ls behind → Agrees (suc p) true ls → is_op l.statement ≡ true → q ≡ p →
      AreSorted (suc q) (suc q) xs → WordsStand (suc p) xs ls → slice_get (AsGiven q ∷ xs) k ≡ Some x → slice_get xs k ≡ Some y → is_op_place (slice_get (places_of (l ∷ behind xs)) k) ≡ true → home_of y < suc p + length (places_of ls) →
      joined_at (rows_from b (l ∷ behind xs)) (suc k) ≡ all_from at (suc (home_of x)) (home_of y - home_of x)
  unfolding Next First
  given_next p q b zero l x y [] ls behind rec first a op here s v e f o h = absurd (cc)
  given_next p q b zero l x y (z ∷ zs) ls behind rec first a op here s v e f o h =
      let at_p : p ≡ home_of x = sym here ∙ ap home_of (same_Some (AsGiven q) x e) in
      let t : AreSorted (suc p) (suc p) (z ∷ zs) = sorted_less (suc q) (suc q) (suc p) (suc p) (z ∷ zs) (omega arith) (omega arith) s in
      op_rows (b && is_unlabelled l.names) l.statement (behind (z ∷ zs)) 0 op
      ∙ subst (λ w. home_of w < suc p + length (places_of ls) → joined_at (rows_from true (behind (z ∷ zs))) 0 ≡ all_from at (suc (home_of x)) (home_of w - home_of x)) (same_Some z y f)
      (λ l. first true true true z zs refl a t v l ∙ ap (all_from at (suc p)) (let far = least z zs t in let w : suc (home_of z - suc p) ≡ home_of z - p = omega arith in w) ∙ ap (λ n. all_from at (suc n) (home_of z - n)) at_p) h
    where
      least : (z : Item) (zs : List Item) → AreSorted (suc p) (suc p) (z ∷ zs) → suc p ≤ home_of z
      least (AsGiven r) zs t = t.0
      least (New i r) zs t = t.0
  given_next p q b (suc k) l x y xs ls behind rec first a op here s v e f o h =
      let t : AreSorted (suc p) (suc p) xs = sorted_less (suc q) (suc q) (suc p) (suc p) xs (omega arith) (omega arith) s in
      let o' : is_op_place (slice_get (places_of (behind xs)) k) ≡ true = ap is_op_place (sym (op_places l.statement (places_of (behind xs)) k op)) ∙ o in
      op_rows (b && is_unlabelled l.names) l.statement (behind xs) (suc k) op ∙ rec true true k x y xs a t v e f o' h

  line_next : (p : ℕ) (b carried : Bool) (k : ℕ) (l : ListingLine) (x y : Item) (xs : List Item) (ls : List ListingLine) (behind : List Item → List ListingLine) → Next (suc p) ls behind → First (suc p) ls behind → Agrees (suc p) true ls → is_op l.statement ≡ true →
      AreSorted p p xs → WordsStand (suc p) xs ls → slice_get xs k ≡ Some x → slice_get xs (suc k) ≡ Some y → is_op_place (slice_get (places_of (line_at write p l xs behind)) k) ≡ true → home_of y < suc p + length (places_of ls) →
      joined_at (rows_from b (line_at write p l xs behind)) (suc k) ≡ all_from at (suc (home_of x)) (home_of y - home_of x)
  line_next p b carried k l x y [] ls behind rec first a op s v e f o h = absurd (cc)
  line_next p b carried k l x y (New i q ∷ xs) ls behind rec first a op s v e f o h = other_next p b carried k l x y (New i q ∷ xs) ls behind rec first a s v e f o h refl
  line_next p b carried k l x y (AsGiven q ∷ xs) ls behind rec first a op s v e f o h = elim (cases_Bool (q == p)) [
    | inl g ↦
        let here = eqb-true q p g in
        let o' : is_op_place (slice_get (places_of (l ∷ behind xs)) k) ≡ true = rw g at o in
        rw g (given_next p q b k l x y xs ls behind rec first a op here s.1 (stand_behind p q xs ls here v) e f o' h)
    | inr g ↦ other_next p b carried k l x y (AsGiven q ∷ xs) ls behind rec first a (not_given p (AsGiven q ∷ xs) g s) v e f o h g
  ]

  past_next : (p : ℕ) (k : ℕ) (x y : Item) (xs : List Item) (ls : List ListingLine) (behind : List Item → List ListingLine) → AreSorted (p + 0) (p + 0) xs → WordsStand (p + 0) xs ls → Next (p + 0) ls behind →
      (b now : Bool) → ((j : ℕ) → joined_at (rows_from now ls) j ≡ at (p + j)) → slice_get xs k ≡ Some x → slice_get xs (suc k) ≡ Some y → is_op_place (slice_get (places_of (behind xs)) k) ≡ true → home_of y < p + length (places_of ls) →
      joined_at (rows_from b (behind xs)) (suc k) ≡ all_from at (suc (home_of x)) (home_of y - home_of x)
  unfolding Next
  past_next p k x y xs ls behind s v rec b now a e f o h = rec b now k x y xs (agrees_zero p now ls a) s v e f o (omega arith)

  step_next : (s : Statement) (p : ℕ) (k : ℕ) (x y : Item) (xs : List Item) (ls : List ListingLine) (behind : List Item → List ListingLine) → is_op s ≡ false →
      AreSorted (p + length (places_in s)) (p + length (places_in s)) (drop (length (places_in s)) xs) → WordsStand (p + length (places_in s)) (drop (length (places_in s)) xs) ls → Next (p + length (places_in s)) ls behind →
      (b now : Bool) → AgreesAt p now s ls → slice_get xs k ≡ Some x → slice_get xs (suc k) ≡ Some y → is_op_place (slice_get (places_in s ++ places_of (behind (drop (length (places_in s)) xs))) k) ≡ true →
      home_of y < p + length (places_in s ++ places_of ls) →
      joined_at (rows_of b s ++ rows_from (stays_joined b s) (behind (drop (length (places_in s)) xs))) (suc k) ≡ all_from at (suc (home_of x)) (home_of y - home_of x)
  unfolding AgreesAt Next
  step_next Nothing p k x y xs ls behind o s v rec b now a e f g h = past_next p k x y xs ls behind s v rec b now a e f g h
  step_next (Instruction i m) p k x y xs ls behind o s v rec b now a e f g h = absurd (true≢false o)
  step_next (Words vs) p k x y xs ls behind o s v rec b now a e f g h =
      let n : ℕ = length (map Word vs) in
      let same : n ≡ length vs = length_map Word vs in
      let far : length vs ≤ k = no_word vs (places_of (behind (drop n xs))) k g in
      let g' : is_op_place (slice_get (places_of (behind (drop n xs))) (k - n)) ≡ true = ap is_op_place (sym (get_back (map Word vs) (places_of (behind (drop n xs))) (k - n) k (omega arith))) ∙ g in
      let all = length-append (map Word vs) (places_of ls) in
      ap (joined_at (map word_row vs ++ rows_from b (behind (drop n xs)))) (let z : suc k ≡ length vs + suc (k - n) = omega arith in z)
      ∙ word_rows vs (rows_from b (behind (drop n xs))) (suc (k - n))
      ∙ rec b now (k - n) x y (drop n xs) (agrees_words p now vs ls a) s v (get_drop n xs (k - n) k (omega arith) ∙ e) (get_drop n xs (suc (k - n)) (suc k) (omega arith) ∙ f) g' (omega arith)
  step_next (Aligns size most) p k x y xs ls behind o s v rec b now a e f g h = past_next p k x y xs ls behind s v rec false false a e f g h
  step_next (Sets name address) p k x y xs ls behind o s v rec b now a e f g h = past_next p k x y xs ls behind s v rec b now a e f g h

  next_now : (ls : List ListingLine) (p : ℕ) → Next p ls (λ ys. lines_from write p ys ls)
  unfolding Next AgreesAt
  next_now [] p b carried k x y xs a s v e f o h = absurd (true≢false (sym o))
  next_now (l ∷ ls) p b carried k x y xs a s v e f o h = elim (cases_Bool (is_op l.statement)) [
    | inl op ↦
        let one = op_length l.statement (places_of ls) op in
        let o' : is_op_place (slice_get (places_of (line_at write p l xs (λ ys. lines_from write (suc p) ys ls))) k) ≡ true = rw op at o in
        rw op (line_next p b carried k l x y xs ls (λ ys. lines_from write (suc p) ys ls) (next_now ls (suc p)) (first_now ls (suc p)) (agrees_op p carried l ls op a) op s (words_behind p xs l ls op v) e f o' (omega arith))
    | inr op ↦
        let n : ℕ = length (places_in l.statement) in
        let words = words_past p xs l ls op s v in
        let o' : is_op_place (slice_get (places_in l.statement ++ places_of (lines_from write (p + n) (drop n xs) ls)) k) ≡ true = rw op at o in
        rw op (step_next l.statement p k x y xs ls (λ ys. lines_from write (p + n) ys ls) op words.0 words.1 (next_now ls (p + n)) (b && is_unlabelled l.names) (carried && is_unlabelled l.names) a e f o' h)
  ]

  -- the row of an item is joined to that of the instruction before, where all places from one home to the other are
  pub joined_now : (ls : List ListingLine) (k : ℕ) (x y : Item) (xs : List Item) → ((j : ℕ) → joined_at (rows_from false ls) j ≡ at j) → AreSorted 0 0 xs → WordsStand 0 xs ls → slice_get xs k ≡ Some x → slice_get xs (suc k) ≡ Some y →
      is_op_place (slice_get (places_of (lines_from write 0 xs ls)) k) ≡ true → home_of y < length (places_of ls) → joined_at (rows_from false (lines_from write 0 xs ls)) (suc k) ≡ all_from at (suc (home_of x)) (home_of y - home_of x)
  unfolding Next
  joined_now ls k x y xs a s v e f o h = next_now ls 0 false false k x y xs (λ j. a j ∙ ap at (let z : j ≡ 0 + j = omega arith in z)) s v e f o (omega arith)
