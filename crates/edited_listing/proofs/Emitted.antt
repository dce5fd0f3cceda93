-- Where items give way to new instructions, the emitted lines are those in which the same instructions are replaced.
use Rattle.std.proofs.Common.{◌≡◌, ◌≢◌, ℕ, zero, suc, ◌+◌, ◌-◌, ◌≤◌, ◌<◌, ◌==◌, ◌&&◌, true, false, List, [], ◌∷◌, ◌++◌, length, map, drop, refl, sym, ap, ◌∙◌, subst, inl, inr, arith, ne_eqb, true≢false}
use Rattle.std.specs.Prelude.{slice_get, nat_le}
use Rattle.std.proofs.lemmas.Bool.{cases_Bool, eq-eqb, eqb-true, eqb-false, leb-true, and_parts}
use Rattle.thumb_instr.specs.declared.instr.Instr.{Instr}
use Rattle.thumb_model.specs.Listing.{Name, Value, Statement, Nothing, Instruction, Words, Aligns, Sets, ListingLine, Word, places_in, places_of}
use Rattle.thumb_model.specs.Replaced.{is_op, without, labels_kept, new_line, replaced_lines}
use Rattle.thumb_model.proofs.Cuts.{without_none}
use Rattle.thumb_model.proofs.Lists.{get_back}
use Rattle.edited_listing.specs.Items.{Item, AsGiven, New, has_given, AreSorted, spliced}
use Rattle.edited_listing.specs.Emitting.{is_given_at, emit_at, line_at, lines_from}
use Rattle.edited_listing.specs.Giving.{is_unlabelled, are_free, are_free_from, is_word, WordsStand}
use Rattle.edited_listing.proofs.Sorted.{sorted_less, sorted_drop, sorted_new, sorted_spliced, none_given, not_given, is_first}
pub use Rattle.thumb_model.proofs.Cuts.{op_takes}

-- ---- what holds of lines ----

no_labels : (l : ListingLine) (ns : List Name) → is_unlabelled ns ≡ true → labels_kept l ns ≡ []
no_labels l [] e = refl
no_labels l (n ∷ ns) e = absurd (true≢false (sym e))

labels_pass : (l : ListingLine) (ns : List Name) (n : ℕ) (ls : List ListingLine) → without n (labels_kept l ns ++ ls) ≡ labels_kept l ns ++ without n ls
labels_pass l [] n ls = refl
labels_pass l (m ∷ ns) zero ls = ap (λ xs. record { names = m ∷ ns; statement = Nothing; text = l.front; front = l.front } ∷ xs) (sym (without_none ls))
labels_pass l (m ∷ ns) (suc n) ls = refl

labels_free : (l : ListingLine) (ns : List Name) (n : ℕ) (ls : List ListingLine) → are_free n (labels_kept l ns ++ ls) ≡ true → are_free n ls ≡ true
labels_free l [] n ls e = e
labels_free l (m ∷ ns) zero [] e = refl
labels_free l (m ∷ ns) zero (x ∷ ls) e = refl
labels_free l (m ∷ ns) (suc n) ls e = e

-- ---- places of lines ----

pub not_first : (l : ListingLine) (r : ℕ) → 0 < r → (is_op l.statement && (r == 0)) ≡ false
not_first l r h = elim (cases_Bool (is_op l.statement)) [
  | inl op ↦ (let past : (r == 0) ≡ false = ne_eqb r 0 (omega arith) in rw (op, past) refl)
  | inr op ↦ rw op refl
]

pub free_behind : (r n : ℕ) (l : ListingLine) (ls : List ListingLine) → length (places_in l.statement) ≡ 1 → are_free_from (suc r) n (l ∷ ls) ≡ true → are_free_from r n ls ≡ true
free_behind r n l ls e f =
    let past : (is_op l.statement && (suc r == 0)) ≡ false = not_first l (suc r) (omega arith) in
    let k : ℕ = length (places_in l.statement) in
    let here : (nat_le k (suc r) && are_free_from (suc r - k) n ls) ≡ true = rw past at f in
    ap (λ j. are_free_from j n ls) (let z : r ≡ suc r - k = omega arith in z) ∙ (and_parts (nat_le k (suc r)) (are_free_from (suc r - k) n ls) here).1

drop_spliced : (k r n : ℕ) (is : List Instr) (xs : List Item) → k ≤ r → drop k (spliced r n is xs) ≡ spliced (r - k) n is (drop k xs)
drop_spliced zero r n is xs h = ap (λ j. spliced j n is xs) (let z : r ≡ r - 0 = omega arith in z)
drop_spliced (suc k) zero n is xs h = absurd (omega arith)
drop_spliced (suc k) (suc r) n is [] h = refl
drop_spliced (suc k) (suc r) n is (x ∷ xs) h = drop_spliced k r n is xs (omega arith) ∙ ap (λ j. spliced j n is (drop k xs)) (let z : r - k ≡ suc r - suc k = omega arith in z)

-- ---- data words ----

-- behind the line of an instruction
op_words : (p : ℕ) (xs : List Item) (s : Statement) (ls : List ListingLine) → is_op s ≡ true → ((k : ℕ) → is_word (slice_get (places_in s ++ places_of ls) k) ≡ true → has_given (p + k) xs ≡ true) → WordsStand (suc p) xs ls
op_words p xs Nothing ls e v = absurd (true≢false (sym e))
op_words p xs (Instruction i mention) ls e v = λ k h. ap (λ q. has_given q xs) (let z : suc p + k ≡ p + suc k = omega arith in z) ∙ v (suc k) h
op_words p xs (Words vs) ls e v = absurd (true≢false (sym e))
op_words p xs (Aligns size most) ls e v = absurd (true≢false (sym e))
op_words p xs (Sets name address) ls e v = absurd (true≢false (sym e))

pub words_behind : (p : ℕ) (xs : List Item) (l : ListingLine) (ls : List ListingLine) → is_op l.statement ≡ true → WordsStand p xs (l ∷ ls) → WordsStand (suc p) xs ls
words_behind p xs l ls e v = op_words p xs l.statement ls e v

-- behind a place that is as given
pub has_behind : (p q r : ℕ) (xs : List Item) → q ≡ p → p < r → has_given r (AsGiven q ∷ xs) ≡ true → has_given r xs ≡ true
has_behind p q r xs e h v = let other : (q == r) ≡ false = ne_eqb q r (omega arith) in (rw other at v)

pub stand_behind : (p q : ℕ) (xs : List Item) (ls : List ListingLine) → q ≡ p → WordsStand (suc p) (AsGiven q ∷ xs) ls → WordsStand (suc p) xs ls
stand_behind p q xs ls e v = λ k h. has_behind p q (suc p + k) xs e (omega arith) (v k h)

-- the next items are so many places as given, where these are among them
words_first : (k p : ℕ) (xs : List Item) → AreSorted p p xs → ((j : ℕ) → j < k → has_given (p + j) xs ≡ true) → AreSorted (p + k) (p + k) (drop k xs) × ((q : ℕ) → p + k ≤ q → has_given q xs ≡ true → has_given q (drop k xs) ≡ true)
words_first zero p xs s v = (subst (λ q. AreSorted q q xs) (let z : p ≡ p + 0 = omega arith in z) s, λ q h e. e)
words_first (suc k) p [] s v = absurd (true≢false (sym (v 0 (omega arith))))
words_first (suc k) p (New i q ∷ xs) s v = absurd (true≢false (sym (is_first p (New i q ∷ xs) s (ap (λ j. has_given j xs) (let z : p ≡ p + 0 = omega arith in z) ∙ v 0 (omega arith)))))
words_first (suc k) p (AsGiven q ∷ xs) s v =
    let here : has_given p (AsGiven q ∷ xs) ≡ true = ap (λ j. has_given j (AsGiven q ∷ xs)) (let z : p ≡ p + 0 = omega arith in z) ∙ v 0 (omega arith) in
    let e = eqb-true q p (is_first p (AsGiven q ∷ xs) s here) in
    let t : AreSorted (suc p) (suc p) xs = sorted_less (suc q) (suc q) (suc p) (suc p) xs (omega arith) (omega arith) s.1 in
    let rest = words_first k (suc p) xs t (λ j h. has_behind p q (suc p + j) xs e (omega arith) (ap (λ r. has_given r (AsGiven q ∷ xs)) (let z : suc p + j ≡ p + suc j = omega arith in z) ∙ v (suc j) (omega arith))) in (
      subst (λ r. AreSorted r r (drop k xs)) (let z : suc p + k ≡ p + suc k = omega arith in z) rest.0,
      λ r h g. rest.1 r (omega arith) (has_behind p q r xs e (omega arith) g),
    )

pub all_words : (s : Statement) (ls : List ListingLine) (j : ℕ) → is_op s ≡ false → j < length (places_in s) → is_word (slice_get (places_in s ++ places_of ls) j) ≡ true
all_words Nothing ls j e h = absurd (omega arith)
all_words (Instruction i mention) ls j e h = absurd (true≢false e)
all_words (Words vs) ls j e h = words_are vs ls j h
  where
    words_are : (vs : List Value) (ls : List ListingLine) (j : ℕ) → j < length (map Word vs) → is_word (slice_get (map Word vs ++ places_of ls) j) ≡ true
    words_are [] ls j h = absurd (omega arith)
    words_are (v ∷ vs) ls zero h = refl
    words_are (v ∷ vs) ls (suc j) h = words_are vs ls j (omega arith)
all_words (Aligns size most) ls j e h = absurd (omega arith)
all_words (Sets name address) ls j e h = absurd (omega arith)

-- behind another line
pub words_past : (p : ℕ) (xs : List Item) (l : ListingLine) (ls : List ListingLine) → is_op l.statement ≡ false → AreSorted p p xs → WordsStand p xs (l ∷ ls) →
    AreSorted (p + length (places_in l.statement)) (p + length (places_in l.statement)) (drop (length (places_in l.statement)) xs) × WordsStand (p + length (places_in l.statement)) (drop (length (places_in l.statement)) xs) ls
words_past p xs l ls e s v =
    let k : ℕ = length (places_in l.statement) in
    let first = words_first k p xs s (λ j h. v j (all_words l.statement ls j e h)) in
    (first.0, λ j h. first.1 (p + k + j) (omega arith) (ap (λ q. has_given q xs) (let z : p + k + j ≡ p + (k + j) = omega arith in z) ∙ v (k + j) (ap is_word (get_back (places_in l.statement) (places_of ls) j (k + j) refl) ∙ h)))

module _ (write : Instr → List ℕ) where
  -- ---- items that go ----

  -- nothing is emitted at a place before all homes
  emit_none : (p g : ℕ) (xs : List Item) (behind : List Item → List ListingLine) → AreSorted (suc p) g xs → emit_at write p xs behind ≡ behind xs
  emit_none p g [] behind s = refl
  emit_none p g (AsGiven q ∷ xs) behind s = refl
  emit_none p g (New i q ∷ xs) behind s = let a = s.0 in let other : (q == p) ≡ false = ne_eqb q p (omega arith) in rw other refl

  -- the lines of items are free of those that go
  Without : ℕ → (List Item → List ListingLine) → Type 0
  Without p behind = (n : ℕ) (xs : List Item) → AreSorted p p xs → are_free n (behind xs) ≡ true → behind (drop n xs) ≡ without n (behind xs)

  emit_without : (p n : ℕ) (xs : List Item) (behind : List Item → List ListingLine) → Without (suc p) behind → AreSorted p (suc p) xs → are_free n (emit_at write p xs behind) ≡ true →
      emit_at write p (drop n xs) behind ≡ without n (emit_at write p xs behind)
  unfolding Without
  emit_without p zero xs behind rec s f = sym (without_none (emit_at write p xs behind))
  emit_without p (suc n) [] behind rec s f = rec (suc n) [] tt f
  emit_without p (suc n) (AsGiven q ∷ xs) behind rec s f =
      emit_none p (suc p) (drop n xs) behind (let a = s.0 in sorted_less (suc q) (suc q) (suc p) (suc p) (drop n xs) (omega arith) (omega arith) (sorted_drop n (suc q) (suc q) xs (omega arith) (omega arith) s.1))
      ∙ rec (suc n) (AsGiven q ∷ xs) s f
  emit_without p (suc n) (New i q ∷ xs) behind rec s f = elim (cases_Bool (q == p)) [
    | inl h ↦
        let e = eqb-true q p h in
        rw h (emit_without p n xs behind rec (sorted_less q (suc q) p (suc p) xs (omega arith) (omega arith) s.1) (rw h at f))
    | inr h ↦
        let a = s.0 in
        let other : q ≢ p = eqb-false q p h in
        rw h (emit_none p (suc p) (drop n xs) behind (sorted_less q (suc q) (suc p) (suc p) (drop n xs) (omega arith) (omega arith) (sorted_drop n q (suc q) xs (omega arith) (omega arith) s.1))
        ∙ rec (suc n) (New i q ∷ xs) (let b : suc p ≤ q = omega arith in b, s.1) (rw h at f))
  ]

  -- the line of an instruction, where the next item isn't the given one
  pub other_line : (p : ℕ) (l : ListingLine) (xs : List Item) (behind : List Item → List ListingLine) → is_given_at p xs ≡ false → line_at write p l xs behind ≡ labels_kept l l.names ++ emit_at write p xs behind
  other_line p l xs behind e = rw e refl

  given_goes : (p q n : ℕ) (l : ListingLine) (xs : List Item) (behind : List Item → List ListingLine) → Without (suc p) behind → q ≡ p → AreSorted (suc q) (suc q) xs → is_op l.statement ≡ true → are_free (suc n) (l ∷ behind xs) ≡ true →
      line_at write p l (drop n xs) behind ≡ without (suc n) (l ∷ behind xs)
  unfolding Without
  given_goes p q n l xs behind rec e s op f =
      let here : (is_unlabelled l.names && are_free n (behind xs)) ≡ true = rw op at f in
      let parts = and_parts (is_unlabelled l.names) (are_free n (behind xs)) here in
      let t : AreSorted (suc p) (suc p) xs = sorted_less (suc q) (suc q) (suc p) (suc p) xs (omega arith) (omega arith) s in
      let d : AreSorted (suc p) (suc p) (drop n xs) = sorted_drop n (suc p) (suc p) xs (omega arith) (omega arith) t in
      other_line p l (drop n xs) behind (none_given p (suc p) (suc p) (drop n xs) (omega arith) d)
      ∙ ap (λ ls. ls ++ emit_at write p (drop n xs) behind) (no_labels l l.names parts.0)
      ∙ emit_none p (suc p) (drop n xs) behind d
      ∙ rec n xs t parts.1
      ∙ rw op refl

  other_goes : (p n : ℕ) (l : ListingLine) (xs : List Item) (behind : List Item → List ListingLine) → Without (suc p) behind → AreSorted p (suc p) xs → is_given_at p xs ≡ false → are_free n (line_at write p l xs behind) ≡ true →
      line_at write p l (drop n xs) behind ≡ without n (line_at write p l xs behind)
  unfolding Without
  other_goes p n l xs behind rec s e f =
      let free : are_free n (labels_kept l l.names ++ emit_at write p xs behind) ≡ true = rw e at f in
      other_line p l (drop n xs) behind (none_given p p (suc p) (drop n xs) (omega arith) (sorted_drop n p (suc p) xs (omega arith) (omega arith) s))
      ∙ ap (λ ls. labels_kept l l.names ++ ls) (emit_without p n xs behind rec s (labels_free l l.names n (emit_at write p xs behind) free))
      ∙ sym (labels_pass l l.names n (emit_at write p xs behind))
      ∙ ap (without n) (sym (other_line p l xs behind e))

  line_goes : (p n : ℕ) (l : ListingLine) (xs : List Item) (behind : List Item → List ListingLine) → Without (suc p) behind → AreSorted p p xs → is_op l.statement ≡ true → are_free (suc n) (line_at write p l xs behind) ≡ true →
      line_at write p l (drop (suc n) xs) behind ≡ without (suc n) (line_at write p l xs behind)
  line_goes p n l [] behind rec s op f = other_goes p (suc n) l [] behind rec tt refl f
  line_goes p n l (New i q ∷ xs) behind rec s op f = other_goes p (suc n) l (New i q ∷ xs) behind rec s refl f
  line_goes p n l (AsGiven q ∷ xs) behind rec s op f = elim (cases_Bool (q == p)) [
    | inl h ↦ given_goes p q n l xs behind rec (eqb-true q p h) s.1 op (rw h at f) ∙ rw h refl
    | inr h ↦ other_goes p (suc n) l (AsGiven q ∷ xs) behind rec (not_given p (AsGiven q ∷ xs) h s) h f
  ]

  -- a line that isn't an instruction's and has no places
  nothing_goes : (p k n : ℕ) (l : ListingLine) (xs : List Item) (ls : List ListingLine) → k ≡ 0 → lines_from write p (drop (suc n) xs) ls ≡ without (suc n) (lines_from write p xs ls) → (let out : List ListingLine = l ∷ lines_from write (p + k) (drop k (drop (suc n) xs)) ls in out) ≡ l ∷ without (suc n) (lines_from write (p + k) (drop k xs) ls)
  nothing_goes p k n l xs ls e rec =
      ap (λ j. l ∷ lines_from write (p + j) (drop j (drop (suc n) xs)) ls) e
      ∙ ap (λ j. l ∷ lines_from write j (drop (suc n) xs) ls) (let z : p + 0 ≡ p = omega arith in z)
      ∙ ap (λ out. l ∷ out) rec
      ∙ ap (λ j. l ∷ without (suc n) (lines_from write j xs ls)) (let z : p ≡ p + 0 = omega arith in z)
      ∙ ap (λ j. l ∷ without (suc n) (lines_from write (p + j) (drop j xs) ls)) (sym e)

  pub lines_without : (ls : List ListingLine) (p n : ℕ) (xs : List Item) → AreSorted p p xs → are_free n (lines_from write p xs ls) ≡ true → lines_from write p (drop n xs) ls ≡ without n (lines_from write p xs ls)
  unfolding Without
  lines_without [] p n xs s f = refl
  lines_without (l ∷ ls) p zero xs s f = sym (without_none (lines_from write p xs (l ∷ ls)))
  lines_without (l ∷ ls) p (suc n) xs s f = elim (cases_Bool (is_op l.statement)) [
    | inl h ↦ rw h (line_goes p n l xs (λ ys. lines_from write (suc p) ys ls) (λ m ys t g. lines_without ls (suc p) m ys t g) s h (rw h at f))
    | inr h ↦
        let k : ℕ = length (places_in l.statement) in
        let free : ((k == 0) && are_free (suc n) (lines_from write (p + k) (drop k xs) ls)) ≡ true = rw (h, h) at f in
        let parts = and_parts (k == 0) (are_free (suc n) (lines_from write (p + k) (drop k xs) ls)) free in
        let none : k ≡ 0 = eqb-true k 0 parts.0 in
        let here : are_free (suc n) (lines_from write p xs ls) ≡ true =
        ap (λ j. are_free (suc n) (lines_from write j xs ls)) (let z : p ≡ p + 0 = omega arith in z) ∙ ap (λ j. are_free (suc n) (lines_from write (p + j) (drop j xs) ls)) (sym none) ∙ parts.1 in
        rw (h, h) (nothing_goes p k n l xs ls none (lines_without ls p (suc n) xs s here))
  ]

  -- ---- items that give way ----

  labels_replaced : (l : ListingLine) (ns : List Name) (r n : ℕ) (is : List Instr) (ls : List ListingLine) → replaced_lines write r n is (labels_kept l ns ++ ls) ≡ labels_kept l ns ++ replaced_lines write r n is ls
  labels_replaced l [] r n is ls = refl
  labels_replaced l (m ∷ ns) r n is ls = ap (λ j. record { names = m ∷ ns; statement = Nothing; text = l.front; front = l.front } ∷ replaced_lines write j n is ls) (let z : r - 0 ≡ r = omega arith in z)

  pub labels_free_from : (l : ListingLine) (ns : List Name) (r n : ℕ) (ls : List ListingLine) → are_free_from r n (labels_kept l ns ++ ls) ≡ true → are_free_from r n ls ≡ true
  labels_free_from l [] r n ls e = e
  labels_free_from l (m ∷ ns) r n ls e = ap (λ j. are_free_from j n ls) (let z : r ≡ r - 0 = omega arith in z) ∙ (and_parts (nat_le 0 r) (are_free_from (r - 0) n ls) e).1

  -- new items at their home
  emit_new : (p : ℕ) (is : List Instr) (xs : List Item) (behind : List Item → List ListingLine) → emit_at write p (map (λ i. New i p) is ++ xs) behind ≡ map (new_line write) is ++ emit_at write p xs behind
  emit_new p [] xs behind = refl
  emit_new p (i ∷ is) xs behind = let here : (p == p) ≡ true = eq-eqb p p refl in rw here (ap (λ ls. new_line write i ∷ ls) (emit_new p is xs behind))

  Spliced : ℕ → ℕ → List Instr → List ListingLine → (List Item → List ListingLine) → Type 0
  Spliced p n is ls behind = (r : ℕ) (xs : List Item) → AreSorted p p xs → WordsStand p xs ls → are_free_from r n (behind xs) ≡ true → behind (spliced r (suc n) is xs) ≡ replaced_lines write r (suc n) is (behind xs)

  -- one line less before what gives way
  replaced_behind : (r n : ℕ) (is : List Instr) (l : ListingLine) (ls : List ListingLine) → length (places_in l.statement) ≡ 1 → replaced_lines write (suc r) (suc n) is (l ∷ ls) ≡ l ∷ replaced_lines write r (suc n) is ls
  replaced_behind r n is l ls e =
      let past : (is_op l.statement && (suc r == 0)) ≡ false = not_first l (suc r) (omega arith) in
      rw past (ap (λ j. l ∷ replaced_lines write j (suc n) is ls) (let z : suc r - length (places_in l.statement) ≡ r = omega arith in z))

  replaced_here : (n : ℕ) (is : List Instr) (l : ListingLine) (ls : List ListingLine) → is_op l.statement ≡ true → replaced_lines write 0 (suc n) is (l ∷ ls) ≡ labels_kept l l.names ++ (map (new_line write) is ++ without n ls)
  replaced_here n is l ls e = rw e (ap (λ j. labels_kept l l.names ++ (map (new_line write) is ++ without j ls)) (let z : suc n - 1 ≡ n = omega arith in z))

  emit_spliced : (p r n : ℕ) (is : List Instr) (xs : List Item) (ls : List ListingLine) (behind : List Item → List ListingLine) → Without (suc p) behind → Spliced (suc p) n is ls behind →
      AreSorted p (suc p) xs → WordsStand (suc p) xs ls → are_free_from r n (emit_at write p xs behind) ≡ true → emit_at write p (spliced r (suc n) is xs) behind ≡ replaced_lines write r (suc n) is (emit_at write p xs behind)
  unfolding Without Spliced
  emit_spliced p r n is [] ls behind w b s v f = b r [] tt v f
  emit_spliced p r n is (AsGiven q ∷ xs) ls behind w b s v f =
      emit_none p (suc p) (spliced r (suc n) is (AsGiven q ∷ xs)) behind (sorted_spliced r n (suc p) (suc p) is (AsGiven q ∷ xs) (omega arith) (omega arith) s) ∙ b r (AsGiven q ∷ xs) s v f
  emit_spliced p zero n is (New i q ∷ xs) ls behind w b s v f = elim (cases_Bool (q == p)) [
    | inl h ↦
        let e = eqb-true q p h in
        let t : AreSorted p (suc p) xs = sorted_less q (suc q) p (suc p) xs (omega arith) (omega arith) s.1 in
        ap (λ k. emit_at write p (map (λ i. New i k) is ++ drop n xs) behind) e
        ∙ emit_new p is (drop n xs) behind
        ∙ ap (λ out. map (new_line write) is ++ out) (emit_without p n xs behind w t (rw h at f))
        ∙ rw h (sym (replaced_here n is (new_line write i) (emit_at write p xs behind) refl))
    | inr h ↦
        let a = s.0 in
        let other : q ≢ p = eqb-false q p h in
        let t : AreSorted (suc p) (suc p) (New i q ∷ xs) = (omega arith, s.1) in
        emit_none p (suc p) (spliced 0 (suc n) is (New i q ∷ xs)) behind (sorted_spliced 0 n (suc p) (suc p) is (New i q ∷ xs) (omega arith) (omega arith) t)
        ∙ b 0 (New i q ∷ xs) t v (rw h at f)
        ∙ rw h refl
  ]
  emit_spliced p (suc r) n is (New i q ∷ xs) ls behind w b s v f = elim (cases_Bool (q == p)) [
    | inl h ↦
        let e = eqb-true q p h in
        let t : AreSorted p (suc p) xs = sorted_less q (suc q) p (suc p) xs (omega arith) (omega arith) s.1 in
        rw h (ap (λ out. new_line write i ∷ out) (emit_spliced p r n is xs ls behind w b t v (free_behind r n (new_line write i) (emit_at write p xs behind) refl (rw h at f)))
        ∙ sym (replaced_behind r n is (new_line write i) (emit_at write p xs behind) refl))
    | inr h ↦
        let a = s.0 in
        let other : q ≢ p = eqb-false q p h in
        let t : AreSorted (suc p) (suc p) (New i q ∷ xs) = (omega arith, s.1) in
        emit_none p (suc p) (spliced (suc r) (suc n) is (New i q ∷ xs)) behind (sorted_spliced (suc r) n (suc p) (suc p) is (New i q ∷ xs) (omega arith) (omega arith) t)
        ∙ b (suc r) (New i q ∷ xs) t v (rw h at f)
        ∙ rw h refl
  ]

  -- the line of an instruction that is as given gives way
  given_way : (p q n : ℕ) (is : List Instr) (l : ListingLine) (xs : List Item) (behind : List Item → List ListingLine) → Without (suc p) behind → q ≡ p → AreSorted (suc q) (suc q) xs → is_op l.statement ≡ true → are_free n (behind xs) ≡ true →
      line_at write p l (map (λ i. New i q) is ++ drop n xs) behind ≡ replaced_lines write 0 (suc n) is (l ∷ behind xs)
  unfolding Without
  given_way p q n is l xs behind w e s op f =
      let t : AreSorted (suc p) (suc p) xs = sorted_less (suc q) (suc q) (suc p) (suc p) xs (omega arith) (omega arith) s in
      let d : AreSorted (suc p) (suc p) (drop n xs) = sorted_drop n (suc p) (suc p) xs (omega arith) (omega arith) t in
      let new : AreSorted p (suc p) (map (λ i. New i p) is ++ drop n xs) = sorted_new p p (suc p) is (drop n xs) (omega arith) (omega arith) (sorted_less (suc p) (suc p) p (suc p) (drop n xs) (omega arith) (omega arith) d) in
      ap (λ k. line_at write p l (map (λ i. New i k) is ++ drop n xs) behind) e
      ∙ other_line p l (map (λ i. New i p) is ++ drop n xs) behind (none_given p p (suc p) (map (λ i. New i p) is ++ drop n xs) (omega arith) new)
      ∙ ap (λ out. labels_kept l l.names ++ out) (emit_new p is (drop n xs) behind ∙ ap (λ out. map (new_line write) is ++ out) (emit_none p (suc p) (drop n xs) behind d ∙ w n xs t f))
      ∙ sym (replaced_here n is l (behind xs) op)

  other_way : (p r n : ℕ) (is : List Instr) (l : ListingLine) (xs : List Item) (ls : List ListingLine) (behind : List Item → List ListingLine) → Without (suc p) behind → Spliced (suc p) n is ls behind →
      AreSorted p (suc p) xs → WordsStand (suc p) xs ls → is_given_at p xs ≡ false → are_free_from r n (line_at write p l xs behind) ≡ true → line_at write p l (spliced r (suc n) is xs) behind ≡ replaced_lines write r (suc n) is (line_at write p l xs behind)
  other_way p r n is l xs ls behind w b s v e f =
      let free : are_free_from r n (labels_kept l l.names ++ emit_at write p xs behind) ≡ true = rw e at f in
      other_line p l (spliced r (suc n) is xs) behind (none_given p p (suc p) (spliced r (suc n) is xs) (omega arith) (sorted_spliced r n p (suc p) is xs (omega arith) (omega arith) s))
      ∙ ap (λ out. labels_kept l l.names ++ out) (emit_spliced p r n is xs ls behind w b s v (labels_free_from l l.names r n (emit_at write p xs behind) free))
      ∙ sym (labels_replaced l l.names r (suc n) is (emit_at write p xs behind))
      ∙ ap (replaced_lines write r (suc n) is) (sym (other_line p l xs behind e))

  line_way : (p r n : ℕ) (is : List Instr) (l : ListingLine) (xs : List Item) (ls : List ListingLine) (behind : List Item → List ListingLine) → Without (suc p) behind → Spliced (suc p) n is ls behind →
      AreSorted p p xs → WordsStand (suc p) xs ls → is_op l.statement ≡ true → are_free_from r n (line_at write p l xs behind) ≡ true → line_at write p l (spliced r (suc n) is xs) behind ≡ replaced_lines write r (suc n) is (line_at write p l xs behind)
  unfolding Without Spliced
  line_way p r n is l [] ls behind w b s v op f = other_way p r n is l [] ls behind w b tt v refl f
  line_way p r n is l (New i q ∷ xs) ls behind w b s v op f = other_way p r n is l (New i q ∷ xs) ls behind w b s v refl f
  line_way p zero n is l (AsGiven q ∷ xs) ls behind w b s v op f = elim (cases_Bool (q == p)) [
    | inl h ↦ given_way p q n is l xs behind w (eqb-true q p h) s.1 op (rw op at (rw h at f)) ∙ rw h refl
    | inr h ↦ other_way p 0 n is l (AsGiven q ∷ xs) ls behind w b (not_given p (AsGiven q ∷ xs) h s) v h f
  ]
  line_way p (suc r) n is l (AsGiven q ∷ xs) ls behind w b s v op f = elim (cases_Bool (q == p)) [
    | inl h ↦
        let e = eqb-true q p h in
        let t : AreSorted (suc p) (suc p) xs = sorted_less (suc q) (suc q) (suc p) (suc p) xs (omega arith) (omega arith) s.1 in
        let free : are_free_from (suc r) n (l ∷ behind xs) ≡ true = rw h at f in
        rw h (ap (λ out. l ∷ out) (b r xs t (stand_behind p q xs ls e v) (free_behind r n l (behind xs) (op_takes l.statement op) free)) ∙ sym (replaced_behind r n is l (behind xs) (op_takes l.statement op)))
    | inr h ↦ other_way p (suc r) n is l (AsGiven q ∷ xs) ls behind w b (not_given p (AsGiven q ∷ xs) h s) v h f
  ]

  -- a line that isn't an instruction's stays, before what gives way
  past_way : (p k r n : ℕ) (is : List Instr) (l : ListingLine) (xs : List Item) (ls : List ListingLine) → k ≡ length (places_in l.statement) → k ≤ r → is_op l.statement ≡ false →
      lines_from write (p + k) (spliced (r - k) (suc n) is (drop k xs)) ls ≡ replaced_lines write (r - k) (suc n) is (lines_from write (p + k) (drop k xs) ls) →
      (let out : List ListingLine = l ∷ lines_from write (p + k) (drop k (spliced r (suc n) is xs)) ls in out) ≡ replaced_lines write r (suc n) is (l ∷ lines_from write (p + k) (drop k xs) ls)
  past_way p k r n is l xs ls e h op rec =
      ap (λ ys. l ∷ lines_from write (p + k) ys ls) (drop_spliced k r (suc n) is xs h)
      ∙ ap (λ out. l ∷ out) rec
      ∙ ap (λ j. l ∷ replaced_lines write (r - j) (suc n) is (lines_from write (p + k) (drop k xs) ls)) e
      ∙ rw op refl

  pub lines_give_way : (ls : List ListingLine) (r n p : ℕ) (is : List Instr) (xs : List Item) → AreSorted p p xs → WordsStand p xs ls → are_free_from r n (lines_from write p xs ls) ≡ true →
      lines_from write p (spliced r (suc n) is xs) ls ≡ replaced_lines write r (suc n) is (lines_from write p xs ls)
  unfolding Without Spliced
  lines_give_way [] r n p is xs s v f = refl
  lines_give_way (l ∷ ls) r n p is xs s v f = elim (cases_Bool (is_op l.statement)) [
    | inl h ↦ rw h (line_way p r n is l xs ls (λ ys. lines_from write (suc p) ys ls) (λ m ys t g. lines_without ls (suc p) m ys t g) (λ q ys t u g. lines_give_way ls q n (suc p) is ys t u g) s (words_behind p xs l ls h v) h (rw h at f))
    | inr h ↦
        let k : ℕ = length (places_in l.statement) in
        let free : (nat_le k r && are_free_from (r - k) n (lines_from write (p + k) (drop k xs) ls)) ≡ true = rw (h, h) at f in
        let parts = and_parts (nat_le k r) (are_free_from (r - k) n (lines_from write (p + k) (drop k xs) ls)) free in
        let words = words_past p xs l ls h s v in
        rw h (past_way p k r n is l xs ls refl (leb-true k r parts.0) h (lines_give_way ls (r - k) n (p + k) is (drop k xs) words.0 words.1 parts.1))
  ]
