-- From the address of a place of the listing, the image's machine reaches the place's instruction past padding, which it executes as `nop`.
use Rattle.std.proofs.Common.{◌≡◌, ◌∙◌, ◌⊎◌, inl, inr, ℕ, zero, suc, ◌+◌, ◌-◌, ◌*◌, ◌/◌, ◌%◌, ◌<◌, ◌≤◌, ◌==◌, ◌&&◌, not, Bool, true, false, List, [], ◌∷◌, ◌++◌, length, map, take, refl, sym, ap, subst, arith, true≢false, Option, Some, None, append_assoc, append-nil, eqb-true, min}
use Rattle.std.specs.Prelude.{slice_get, nat_lt, nat_le, if◌then◌else◌}
use Rattle.std.specs.Str.{bytes_eq}
use Rattle.std.proofs.lemmas.Bool.{cases_Bool, cases_lt, and_from, and_parts, le-leb, lt-ltb, ltb-true, leb-true, or_right}
use Rattle.std.proofs.lemmas.Slice.Eq.{bytes_eq-Decides}
use Rattle.thumb_model.proofs.Moved.{count_append}
use Rattle.thumb_model.proofs.Returns.{no_words}
use Rattle.thumb_instr.specs.declared.instr.Instr.{Instr}
use Rattle.thumb_instr.specs.declared.instr.Instr.TheVariants as instr
use Rattle.thumb_instr.specs.declared.operation.HintOperation.TheVariants as hint
use Rattle.thumb_model.specs.Listing.{Name, Mention, Value, Statement, Instruction, Words, Aligns, ListingLine, Place, Op, Word, Code, places_in, places_of, labels_at, labels_from, code_of, place_of, is_op_place, is_call_instr, call_count}
use Rattle.thumb_model.specs.Layout.{instr_size, padding, size_at, end_of, is_among, label_address}
use Rattle.thumb_model.specs.Naming.{Naming, Fits, points_of, returns_from, points, is_odd, is_in_range, laid, word_by}
use Rattle.thumb_model.specs.Steps.{label_place, least_or, point_among, landing}
use Rattle.listing_parser.proofs.LabelLemmas.{one_label, code_place}
use Rattle.label_layout.specs.Addresses.{addresses_in, addresses_from}
use Rattle.label_layout.proofs.Calls.{return_point}
use Rattle.thumb_assembler.specs.Bytes.{IsSetBy}
use Rattle.thumb_assembler.specs.Fair.{is_fair}
use Rattle.thumb_assembler.specs.Runs.{Loaded, IsFetched, lands_at, is_code_address, IsAssembled, loaded}
use Rattle.thumb_assembler.proofs.Places.{padding_even}
use Rattle.thumb_assembler.proofs.Loose.{LandingLoose}
use Rattle.thumb_assembler.proofs.Cuts.{next_end, next_places, next_cut, places_append, first_behind, address_behind, places_taken, label_cut, no_label, first_label, first_place}
use Rattle.listing_parser.specs.Targets.{DefineOnce}
use Rattle.listing_parser.proofs.FirstTwice.{first_twice}
use Rattle.listing_parser.proofs.TwiceLemmas.{once_none}
use Rattle.thumb_machine.proofs.PointsMade.{points_append}
use Rattle.thumb_assembler.proofs.Fetched.{fair_here, even_here, padding_here, fetched_here, out_of_image}

module _ (base : ℕ) (set : Name → ℕ) (all : List ListingLine) (bytes : List ℕ) (made : IsAssembled base all bytes) (given : IsSetBy all set) where
  abbrev names : Naming
  names = laid base set all

  abbrev code : Code
  code = code_of all

  abbrev image : Loaded
  image = loaded base set all bytes

  pub data Slides (q : ℕ) : ℕ → Type 0 where
    there : (before after : List ListingLine) (l : ListingLine) (i : Instr) (mention : Option Mention) (x : ℕ) → all ≡ before ++ l ∷ after → l.statement ≡ Instruction i mention → length (places_of before) ≡ q → end_of base before ≡ x → Slides q x
    slid : (x : ℕ) → IsFetched image x (instr.Hint hint.Nop) → Slides q (x + 2) → Slides q x

  -- or the place has no instruction
  abbrev pub Arrives : ℕ → ℕ → Type 0
  Arrives q x = (is_op_place (slice_get (places_of all) q) ≡ false) ⊎ Slides q x

  slide_more : (q : ℕ) (j x y : ℕ) → y ≡ x + 2 * j → ((k : ℕ) → k < j → IsFetched image (x + 2 * k) (instr.Hint hint.Nop)) → Slides q y → Slides q x
  slide_more q zero x y e f s = subst (Slides q) (let h : y ≡ x = omega arith in h) s
  slide_more q (suc j) x y e f s =
      slid x (subst (λ (a : ℕ). IsFetched image a (instr.Hint hint.Nop)) (let h : x + 2 * 0 ≡ x = omega arith in h) (f 0 (omega arith)))
      (slide_more q j (x + 2) y (omega arith) (λ k l. subst (λ (a : ℕ). IsFetched image a (instr.Hint hint.Nop)) (let h : x + 2 * suc k ≡ x + 2 + 2 * k = omega arith in h) (f (suc k) (omega arith))) s)

  arrive_more : (q j x y : ℕ) → y ≡ x + 2 * j → ((k : ℕ) → k < j → IsFetched image (x + 2 * k) (instr.Hint hint.Nop)) → Arrives q y → Arrives q x
  arrive_more q j x y e f (inl h) = inl h
  arrive_more q j x y e f (inr s) = inr (slide_more q j x y e f s)

  -- a line without bytes or places
  pass : (before : List ListingLine) (l : ListingLine) → length (places_in l.statement) ≡ 0 → size_at l.statement (end_of base before) ≡ 0 → Arrives (length (places_of (before ++ l ∷ []))) (end_of base (before ++ l ∷ [])) → Arrives (length (places_of before)) (end_of base before)
  pass before l p z a =
      let places = next_places before l in
      let ends = next_end base before l in
      subst (λ (q : ℕ). Arrives q (end_of base before)) (let e : length (places_of (before ++ l ∷ [])) ≡ length (places_of before) = omega arith in e)
      (subst (Arrives (length (places_of (before ++ l ∷ [])))) (let e : end_of base (before ++ l ∷ []) ≡ end_of base before = omega arith in e) a)

  slides_by : (before after : List ListingLine) (l : ListingLine) → all ≡ before ++ l ∷ after → Arrives (length (places_of (before ++ l ∷ []))) (end_of base (before ++ l ∷ [])) → (s : Statement) → l.statement ≡ s → Arrives (length (places_of before)) (end_of base before)
  slides_by before after l e next (Words (v ∷ vs)) is =
      inl (ap is_op_place (ap (λ (ls : List ListingLine). slice_get (places_of ls) (length (places_of before))) e ∙ first_behind before (l ∷ after) ∙ ap (λ (t : Statement). slice_get (places_in t ++ places_of after) 0) is))
  slides_by before after l e next (Instruction i mention) is = inr (there before after l i mention (end_of base before) e is refl refl)
  slides_by before after l e next (Aligns size most) is =
      let p = padding size most (end_of base before) in
      let even = padding_even size most (end_of base before) (subst (λ (t : Statement). is_fair all t ≡ true) is (fair_here base set all bytes made given before after l e)) (even_here base set all bytes made given before (l ∷ after) e) in
      let ends = next_end base before l in
      let whole : size_at l.statement (end_of base before) ≡ p = ap (λ (t : Statement). size_at t (end_of base before)) is in
      let places = next_places before l in
      let none : length (places_in l.statement) ≡ 0 = ap (λ (t : Statement). length (places_in t)) is in
      arrive_more (length (places_of before)) (p / 2) (end_of base before) (end_of base (before ++ l ∷ [])) (omega arith) (λ k h. padding_here base set all bytes made given before after l size most e is k (omega arith))
      (subst (λ (q : ℕ). Arrives q (end_of base (before ++ l ∷ []))) (let e : length (places_of (before ++ l ∷ [])) ≡ length (places_of before) = omega arith in e) next)
  slides_by before after l e next s is = pass before l (ap (λ (t : Statement). length (places_in t)) is) (ap (λ (t : Statement). size_at t (end_of base before)) is) next

  -- the address where the second part of a cut begins leads to the place where it begins
  pub slides_from : (after before : List ListingLine) → all ≡ before ++ after → Arrives (length (places_of before)) (end_of base before)
  slides_from [] before e = inl (ap is_op_place (ap (λ (ls : List ListingLine). slice_get (places_of ls) (length (places_of before))) e ∙ first_behind before []))
  slides_from (l ∷ after) before e = slides_by before after l e (slides_from after (before ++ l ∷ []) (next_cut all before after l e)) l.statement refl

  -- an address that leads to an instruction is in the image
  slides_within : (q x : ℕ) → Slides q x → (base ≤ x) × (x < end_of base all)
  slides_within q _ (there before after l i mention x e s p a) =
      let f = fetched_here base set all bytes made given before after l i mention e s in
      let w = out_of_image base set all bytes made given (end_of base before) f.code f.fetched in
      (omega (arith, w.0), omega (arith, w.1))
  slides_within q _ (slid x f s) = out_of_image base set all bytes made given x (instr.Hint hint.Nop) f

  pub arrives_within : (q x : ℕ) → is_op_place (slice_get (places_of all) q) ≡ true → Arrives q x → (base ≤ x) × (x < end_of base all)
  arrives_within q x o (inl h) = absurd (true≢false (sym o ∙ h))
  arrives_within q x o (inr s) = slides_within q x s

  -- the range of code extends from the base to at least the end
  high_past : end_of base all ≤ names.high
  high_past = by _ where
    by : (b : Bool) → end_of base all ≤ (if b then end_of base all + 2 else end_of base all)
    by true = omega arith
    by false = omega arith

  pub code_address : (x : ℕ) → base ≤ x → x < end_of base all → is_code_address image x ≡ true
  code_address x l h = let past = high_past in and_from (nat_le base x) (nat_lt x names.high) (le-leb base x l) (lt-ltb x names.high (omega arith))

  -- ---- code labels ----

  pub record CodeLabel (name : Name) (p a : ℕ) : Type 0 where
    pub arrives : Arrives p a
    pub op : is_op_place (slice_get (places_of all) p) ≡ true

  code_some : (places : List Place) (o : Option ℕ) (p : ℕ) → code_place places o ≡ Some p → (o ≡ Some p) × (is_op_place (slice_get places p) ≡ true)
  unfolding code_place
  code_some places None p e = absurd (let bad : None ≡ Some p = e in cc)
  code_some places (Some q) p e = elim (cases_Bool (is_op_place (slice_get places q))) [
    | inl t ↦ let same : Some q ≡ Some p = rw t at e in let is : q ≡ p = cc in (ap (λ (n : ℕ). Some n) is, subst (λ (n : ℕ). is_op_place (slice_get places n) ≡ true) is t)
    | inr t ↦ absurd (let bad : None ≡ Some p = rw t at e in cc)
  ]

  pub label_is : (name : Name) → place_of code name ≡ code_place (places_of all) (label_place name (labels_from 0 all))
  label_is name = one_label name (places_of all) 1 0 [] all (once_none all made.listed.once)

  -- a code label has an address, from which the machine reaches its place
  pub label_found : (name : Name) (p : ℕ) → place_of code name ≡ Some p → (a : ℕ) × (label_address name base all ≡ Some a) × CodeLabel name p a
  label_found name p e = by (label_address name base all) refl where
    at : (label_place name (labels_from 0 all) ≡ Some p) × (is_op_place (slice_get (places_of all) p) ≡ true)
    at = code_some (places_of all) (label_place name (labels_from 0 all)) p (sym (label_is name) ∙ e)

    by : (o : Option ℕ) → label_address name base all ≡ o → (a : ℕ) × (label_address name base all ≡ Some a) × CodeLabel name p a
    by None f = absurd (let bad : None ≡ Some p = sym (no_label name base 0 all f) ∙ at.0 in cc)
    by (Some a) f =
        let c = label_cut name base a all f in
        let same : Some (0 + length (places_of c.before)) ≡ Some p = sym (c.place 0) ∙ at.0 in
        let is : 0 + length (places_of c.before) ≡ p = cc in
        let s = slides_from c.after c.before c.cut in (
          a,
          f,
          record {
            arrives = subst (λ (q : ℕ). Arrives q a) (let h : length (places_of c.before) ≡ p = omega arith in h) (subst (Arrives (length (places_of c.before))) (sym c.address) s);
            op = at.1;
          },
        )

  -- ---- code points ----

  -- the word of a code point is the address that leads to its place, with bit 0 set
  abbrev PointIs : ℕ → ℕ → Type 0
  PointIs w p = (x : ℕ) × (w ≡ x + 1) × Arrives p x

  get_append : (xs ys : List (ℕ × ℕ)) (k : ℕ) (z : ℕ × ℕ) → slice_get (xs ++ ys) k ≡ Some z → ((j : ℕ) × (slice_get xs j ≡ Some z)) ⊎ ((j : ℕ) × (slice_get ys j ≡ Some z))
  get_append [] ys k z e = inr (k, e)
  get_append (x ∷ xs) ys zero z e = inl (0, e)
  get_append (x ∷ xs) ys (suc k) z e = elim (get_append xs ys k z e) [ inl h ↦ inl (suc h.0, h.1) | inr h ↦ inr h ]

  among_here : (n : Name) (seen ns : List Name) → is_among n (seen ++ n ∷ ns) ≡ true
  among_here n [] ns = rw ((bytes_eq-Decides n n).1 refl) refl
  among_here n (s ∷ seen) ns = or_right (bytes_eq n s) (is_among n (seen ++ n ∷ ns)) (among_here n seen ns)

  word_of_label : (n : Name) (a p : ℕ) → label_address n base all ≡ Some a → place_of code n ≡ Some p → names.word_of n ≡ a + 1
  word_of_label n a p e f = ap (λ (o : Option ℕ). word_by (set n) o (place_of code n)) e ∙ ap (word_by (set n) (Some a)) f

  -- a label of a line has the line's address and place
  label_here : (before after : List ListingLine) (l : ListingLine) (n : Name) → all ≡ before ++ l ∷ after → is_among n l.names ≡ true → is_op_place (slice_get (places_of all) (length (places_of before))) ≡ true → names.word_of n ≡ end_of base before + 1
  unfolding code_place
  label_here before after l n e t o =
      let once : first_twice 1 [] (before ++ l ∷ after) ≡ None = once_none (before ++ l ∷ after) (subst DefineOnce e made.listed.once) in
      let address : label_address n base all ≡ Some (end_of base before) = ap (label_address n base) e ∙ first_label n 1 base [] before after l once t in
      let place : label_place n (labels_from 0 all) ≡ Some (0 + length (places_of before)) = ap (λ (ls : List ListingLine). label_place n (labels_from 0 ls)) e ∙ first_place n 1 0 [] before after l once t in
      let zero : 0 + length (places_of before) ≡ length (places_of before) = omega arith in
      let found : place_of code n ≡ Some (length (places_of before)) = label_is n ∙ ap (code_place (places_of all)) (place ∙ ap (λ (m : ℕ). Some m) zero) ∙ rw o refl in
      word_of_label n (end_of base before) (length (places_of before)) address found

  at_first : (before after : List ListingLine) (l : ListingLine) → all ≡ before ++ l ∷ after → (seen : List Name) (n : Name) (ns : List Name) → l.names ≡ seen ++ n ∷ ns → (j w p : ℕ)
      → slice_get ((names.word_of n, length (places_of before)) ∷ points_of names (places_of all) (labels_at (length (places_of before)) ns)) j ≡ Some (w, p) → is_op_place (slice_get (places_of all) (length (places_of before))) ≡ true
      → ((k : ℕ) → slice_get (points_of names (places_of all) (labels_at (length (places_of before)) ns)) k ≡ Some (w, p) → PointIs w p) → PointIs w p
  at_first before after l e seen n ns s zero w p f t rest =
      let same : Some (names.word_of n, length (places_of before)) ≡ Some (w, p) = f in
      let is : (names.word_of n, length (places_of before)) ≡ (w, p) = cc in
      let word : names.word_of n ≡ end_of base before + 1 = label_here before after l n e (subst (λ (xs : List Name). is_among n xs ≡ true) (sym s) (among_here n seen ns)) t in
      (end_of base before, sym (ap (λ (z : ℕ × ℕ). z.0) is) ∙ word, subst (λ (q : ℕ). Arrives q (end_of base before)) (ap (λ (z : ℕ × ℕ). z.1) is) (slides_from (l ∷ after) before e))
  at_first before after l e seen n ns s (suc j) w p f t rest = rest j f

  -- the code points of one line's labels
  labels_here : (before after : List ListingLine) (l : ListingLine) → all ≡ before ++ l ∷ after → (seen ns : List Name) → l.names ≡ seen ++ ns → (k w p : ℕ)
      → slice_get (points_of names (places_of all) (labels_at (length (places_of before)) ns)) k ≡ Some (w, p) → PointIs w p
  labels_here before after l e seen [] s k w p g = absurd (let bad : None ≡ Some (w, p) = g in cc)
  labels_here before after l e seen (n ∷ ns) s k w p g = elim (cases_Bool (is_op_place (slice_get (places_of all) (length (places_of before))))) [
    | inr t ↦ labels_here before after l e (seen ++ n ∷ []) ns (s ∙ sym (append_assoc seen (n ∷ []) ns)) k w p (rw t at g)
    | inl t ↦ at_first before after l e seen n ns s k w p (rw t at g) t (λ j f. labels_here before after l e (seen ++ n ∷ []) ns (s ∙ sym (append_assoc seen (n ∷ []) ns)) j w p f)
  ]

  labels_point : (after before : List ListingLine) → all ≡ before ++ after → (k w p : ℕ) → slice_get (points_of names (places_of all) (labels_from (length (places_of before)) after)) k ≡ Some (w, p) → PointIs w p
  labels_point [] before e k w p g = absurd (let bad : None ≡ Some (w, p) = g in cc)
  labels_point (l ∷ after) before e k w p g =
      let places = next_places before l in
      let here = labels_at (length (places_of before)) l.names in
      let rest = labels_from (length (places_of before) + length (places_in l.statement)) after in
      elim (get_append (points_of names (places_of all) here) (points_of names (places_of all) rest) k (w, p) (ap (λ (ps : List (ℕ × ℕ)). slice_get ps k) (sym (points_append names (places_of all) here rest)) ∙ g)) [
        | inl h ↦ labels_here before after l e [] l.names refl h.0 w p h.1
        | inr h ↦ labels_point after (before ++ l ∷ []) (next_cut all before after l e) h.0 w p (ap (λ (n : ℕ). slice_get (points_of names (places_of all) (labels_from n after)) h.0) places ∙ h.1)
      ]

  -- ---- return points ----

  first_address : (a : ℕ) (l : ListingLine) (after : List ListingLine) (i : Instr) (mention : Option Mention) → l.statement ≡ Instruction i mention → slice_get (addresses_from a (l ∷ after)) 0 ≡ Some a
  first_address a l after i mention s = ap (λ (t : Statement). slice_get (addresses_in a t ++ addresses_from (a + size_at l.statement a) after) 0) s

  first_op : (l : ListingLine) (after : List ListingLine) (i : Instr) (mention : Option Mention) → l.statement ≡ Instruction i mention → slice_get (places_of (l ∷ after)) 0 ≡ Some (Op i mention)
  first_op l after i mention s = ap (λ (t : Statement). slice_get (places_in t ++ places_of after) 0) s

  -- the place of an instruction's line
  pub place_here : (before after : List ListingLine) (l : ListingLine) (i : Instr) (mention : Option Mention) → all ≡ before ++ l ∷ after → l.statement ≡ Instruction i mention → slice_get (places_of all) (length (places_of before)) ≡ Some (Op i mention)
  place_here before after l i mention e s = ap (λ (ls : List ListingLine). slice_get (places_of ls) (length (places_of before))) e ∙ first_behind before (l ∷ after) ∙ first_op l after i mention s

  -- a call's return word is the address after it, with bit 0 set
  pub return_here : (before after : List ListingLine) (l : ListingLine) (i : Instr) (mention : Option Mention) → all ≡ before ++ l ∷ after → l.statement ≡ Instruction i mention → is_call_instr i ≡ true
      → names.return_word (call_count (take (length (places_of before)) (places_of all))) ≡ end_of base before + instr_size i + 1
  return_here before after l i mention e s c =
      let place : slice_get (places_of all) (length (places_of before)) ≡ Some (Op i mention) = place_here before after l i mention e s in
      let address : slice_get (addresses_from base all) (length (places_of before)) ≡ Some (end_of base before) =
      ap (λ (ls : List ListingLine). slice_get (addresses_from base ls) (length (places_of before))) e ∙ address_behind base before (l ∷ after) ∙ first_address (end_of base before) l after i mention s in
      ap (λ (n : ℕ). n + 1) (return_point base all (length (places_of before)) (Op i mention) (end_of base before) place c address)

  returns_words : (k p : ℕ) (vs : List Value) (ps : List Place) → returns_from names k p (map Word vs ++ ps) ≡ returns_from names k (p + length (map Word vs)) ps
  returns_words k p [] ps = ap (λ (n : ℕ). returns_from names k n ps) (let e : p ≡ p + 0 = omega arith in e)
  returns_words k p (v ∷ vs) ps = returns_words k (p + 1) vs ps ∙ ap (λ (n : ℕ). returns_from names k n ps) (let e : p + 1 + length (map Word vs) ≡ p + suc (length (map Word vs)) = omega arith in e)

  count_front : (before : List ListingLine) (l : ListingLine) → call_count (places_of (before ++ l ∷ [])) ≡ call_count (places_of before ++ places_in l.statement)
  count_front before l = ap call_count (places_append before (l ∷ []) ∙ ap (λ (ps : List Place). places_of before ++ ps) (append-nil (places_in l.statement)))

  abbrev ReturnsFrom : List ListingLine → List ListingLine → Type 0
  ReturnsFrom after before = (j w p : ℕ) → slice_get (returns_from names (call_count (places_of before)) (length (places_of before)) (places_of after)) j ≡ Some (w, p) → PointIs w p

  returns_next : (before after : List ListingLine) (l : ListingLine) (c : ℕ) → call_count (places_in l.statement) ≡ c → ReturnsFrom after (before ++ l ∷ []) → (j w p : ℕ)
      → slice_get (returns_from names (call_count (places_of before) + c) (length (places_of before) + length (places_in l.statement)) (places_of after)) j ≡ Some (w, p) → PointIs w p
  returns_next before after l c is rest j w p g =
      let counts = count_front before l ∙ count_append (places_of before) (places_in l.statement) ∙ ap (λ (n : ℕ). call_count (places_of before) + n) is in
      rest j w p (ap (λ (n : ℕ). slice_get (returns_from names n (length (places_of (before ++ l ∷ []))) (places_of after)) j) counts ∙ ap (λ (n : ℕ). slice_get (returns_from names (call_count (places_of before) + c) n (places_of after)) j) (next_places before l) ∙ g)

  quiet : (before after : List ListingLine) (l : ListingLine) → places_in l.statement ≡ [] → ReturnsFrom after (before ++ l ∷ []) → ReturnsFrom (l ∷ after) before
  quiet before after l empty rest j w p g =
      let long : length (places_in l.statement) ≡ 0 = ap length empty in
      returns_next before after l 0 (ap call_count empty) rest j w p
      (ap (λ (n : ℕ). slice_get (returns_from names n (length (places_of before) + length (places_in l.statement)) (places_of after)) j) (let z : call_count (places_of before) + 0 ≡ call_count (places_of before) = omega arith in z)
      ∙ ap (λ (n : ℕ). slice_get (returns_from names (call_count (places_of before)) n (places_of after)) j) (let z : length (places_of before) + length (places_in l.statement) ≡ length (places_of before) = omega arith in z)
      ∙ ap (λ (ps : List Place). slice_get (returns_from names (call_count (places_of before)) (length (places_of before)) (ps ++ places_of after)) j) (sym empty)
      ∙ g)

  called : (before after : List ListingLine) (l : ListingLine) (i : Instr) (mention : Option Mention) → all ≡ before ++ l ∷ after → l.statement ≡ Instruction i mention → is_call_instr i ≡ true → ReturnsFrom after (before ++ l ∷ []) → (m w p : ℕ)
      → slice_get ((names.return_word (call_count (places_of before)), length (places_of before) + 1) ∷ returns_from names (call_count (places_of before) + 1) (length (places_of before) + 1) (places_of after)) m ≡ Some (w, p) → PointIs w p
  called before after l i mention e is c rest zero w p f =
      let same : Some (names.return_word (call_count (places_of before)), length (places_of before) + 1) ≡ Some (w, p) = f in
      let pair : (names.return_word (call_count (places_of before)), length (places_of before) + 1) ≡ (w, p) = cc in
      let count : call_count (take (length (places_of before)) (places_of all)) ≡ call_count (places_of before) = ap call_count (ap (λ (ls : List ListingLine). take (length (places_of before)) (places_of ls)) e ∙ places_taken before (l ∷ after)) in
      let word : names.return_word (call_count (places_of before)) ≡ end_of base before + instr_size i + 1 = ap names.return_word (sym count) ∙ return_here before after l i mention e is c in
      let ends : end_of base (before ++ l ∷ []) ≡ end_of base before + instr_size i = next_end base before l ∙ ap (λ (t : Statement). end_of base before + size_at t (end_of base before)) is in
      let places : length (places_of (before ++ l ∷ [])) ≡ length (places_of before) + 1 = next_places before l ∙ ap (λ (t : Statement). length (places_of before) + length (places_in t)) is in (
        end_of base before + instr_size i,
        sym (ap (λ (z : ℕ × ℕ). z.0) pair) ∙ word,
        subst (λ (n : ℕ). Arrives n (end_of base before + instr_size i)) (places ∙ ap (λ (z : ℕ × ℕ). z.1) pair) (subst (Arrives (length (places_of (before ++ l ∷ [])))) ends (slides_from after (before ++ l ∷ []) (next_cut all before after l e))),
      )
  called before after l i mention e is c rest (suc m) w p f =
      returns_next before after l 1 (ap (λ (t : Statement). call_count (places_in t)) is ∙ rw c refl) rest m w p
      (ap (λ (t : Statement). slice_get (returns_from names (call_count (places_of before) + 1) (length (places_of before) + length (places_in t)) (places_of after)) m) is ∙ f)

  returns_by : (before after : List ListingLine) (l : ListingLine) → all ≡ before ++ l ∷ after → ReturnsFrom after (before ++ l ∷ []) → (s : Statement) → l.statement ≡ s → ReturnsFrom (l ∷ after) before
  returns_by before after l e rest (Words vs) is j w p g =
      returns_next before after l 0 (ap (λ (t : Statement). call_count (places_in t)) is ∙ no_words vs) rest j w p
      (ap (λ (n : ℕ). slice_get (returns_from names n (length (places_of before) + length (places_in l.statement)) (places_of after)) j) (let z : call_count (places_of before) + 0 ≡ call_count (places_of before) = omega arith in z)
      ∙ ap (λ (t : Statement). slice_get (returns_from names (call_count (places_of before)) (length (places_of before) + length (places_in t)) (places_of after)) j) is
      ∙ ap (λ (ps : List (ℕ × ℕ)). slice_get ps j) (sym (returns_words (call_count (places_of before)) (length (places_of before)) vs (places_of after)))
      ∙ ap (λ (t : Statement). slice_get (returns_from names (call_count (places_of before)) (length (places_of before)) (places_in t ++ places_of after)) j) (sym is)
      ∙ g)
  returns_by before after l e rest (Instruction i mention) is j w p g =
      let there : slice_get (returns_from names (call_count (places_of before)) (length (places_of before)) (Op i mention ∷ places_of after)) j ≡ Some (w, p) =
      ap (λ (t : Statement). slice_get (returns_from names (call_count (places_of before)) (length (places_of before)) (places_in t ++ places_of after)) j) (sym is) ∙ g in
      elim (cases_Bool (is_call_instr i)) [
        | inl c ↦ called before after l i mention e is c rest j w p (rw c at there)
        | inr c ↦ returns_next before after l 0 (ap (λ (t : Statement). call_count (places_in t)) is ∙ rw c refl) rest j w p
            (ap (λ (n : ℕ). slice_get (returns_from names n (length (places_of before) + length (places_in l.statement)) (places_of after)) j) (let z : call_count (places_of before) + 0 ≡ call_count (places_of before) = omega arith in z)
            ∙ ap (λ (t : Statement). slice_get (returns_from names (call_count (places_of before)) (length (places_of before) + length (places_in t)) (places_of after)) j) is
            ∙ (rw c at there))
      ]
  returns_by before after l e rest s is j w p g = quiet before after l (ap places_in is) rest j w p g

  returns_point : (after before : List ListingLine) → all ≡ before ++ after → ReturnsFrom after before
  returns_point [] before e j w p g = absurd (let bad : None ≡ Some (w, p) = g in cc)
  returns_point (l ∷ after) before e j w p g = returns_by before after l e (returns_point after (before ++ l ∷ []) (next_cut all before after l e)) l.statement refl j w p g

  pub point_is : (k w p : ℕ) → slice_get (points names code) k ≡ Some (w, p) → PointIs w p
  point_is k w p g = elim (get_append (points_of names (places_of all) (labels_from 0 all)) (returns_from names 0 0 (places_of all)) k (w, p) g) [
    | inl h ↦ labels_point all [] refl h.0 w p h.1
    | inr h ↦ returns_point all [] refl h.0 w p h.1
  ]

  -- ---- indirect branches ----

  least_is : (p q : ℕ) (o : Option ℕ) → least_or p o ≡ Some q → (p ≡ q) ⊎ (o ≡ Some q)
  least_is p q None e = let same : Some p ≡ Some q = e in inl (cc)
  least_is p q (Some r) e = elim (cases_lt p r) [
    | inl h ↦ (let same : Some (min p r) ≡ Some q = e in let is : min p r ≡ q = cc in inl (omega arith))
    | inr h ↦ (let same : Some (min p r) ≡ Some q = e in let is : min p r ≡ q = cc in let one : r ≡ q = omega arith in inr (ap (λ (n : ℕ). Some n) one))
  ]

  among : (word q : ℕ) (ps : List (ℕ × ℕ)) → point_among word ps ≡ Some q → (k : ℕ) × (slice_get ps k ≡ Some (word, q))
  among word q [] e = absurd (let bad : None ≡ Some q = e in cc)
  among word q (p ∷ ps) e = elim (cases_Bool (word == p.0)) [
    | inr h ↦ (let rest = among word q ps (rw h at e) in (suc rest.0, rest.1))
    | inl h ↦
        (let same : word ≡ p.0 = eqb-true word p.0 h in
        elim (least_is p.1 q (point_among word ps) (rw h at e)) [
          | inl g ↦ (0, ap (λ (z : ℕ × ℕ). Some z) (pair p word q (sym same) g))
          | inr g ↦ (let rest = among word q ps g in (suc rest.0, rest.1))
        ])
  ] where
    pair : (z : ℕ × ℕ) (a b : ℕ) → z.0 ≡ a → z.1 ≡ b → z ≡ (a, b)
    pair (x, y) a b f g = cc

  module _ (fits : Fits names code) where
    pub lands_tied : (word : ℕ) → LandingLoose Arrives (landing names word (point_among word (points names code))) (lands_at image word)
    lands_tied word = by (point_among word (points names code)) refl where
      by : (o : Option ℕ) → point_among word (points names code) ≡ o → LandingLoose Arrives (landing names word o) (lands_at image word)
      by (Some p) e =
          let k = among word p (points names code) e in
          let point = point_is k.0 word p k.1 in
          let parts = and_parts (is_odd word) (is_in_range names word) (fits.are_code k.0 word p k.1) in
          let range = and_parts (nat_le base word) (nat_lt word names.high) parts.1 in
          let odd : word % 2 ≡ 1 = eqb-true (word % 2) 1 parts.0 in
          let least = leb-true base word range.0 in
          let most = ltb-true word names.high range.1 in
          let base_even = made.even in
          let address : is_code_address image (word - 1) ≡ true = and_from (nat_le base (word - 1)) (nat_lt (word - 1) names.high) (le-leb base (word - 1) (omega arith)) (lt-ltb (word - 1) names.high (omega arith)) in
          let is : point.0 ≡ word - 1 = (let w = point.1 in omega arith) in
          rw (parts.0, address) (subst (Arrives p) is point.2)
      by None e = elim (cases_Bool (is_odd word && not (is_in_range names word))) [
        | inr h ↦ rw h tt
        | inl h ↦
            let parts = and_parts (is_odd word) (not (is_in_range names word)) h in
            let odd : word % 2 ≡ 1 = eqb-true (word % 2) 1 parts.0 in
            elim (cases_Bool (is_code_address image (word - 1))) [
              | inr g ↦ rw (h, parts.0, g) tt
              | inl g ↦
                  let range = and_parts (nat_le base (word - 1)) (nat_lt (word - 1) names.high) g in
                  let least = leb-true base (word - 1) range.0 in
                  let most = ltb-true (word - 1) names.high range.1 in
                  let high_even = fits.high_even in
                  let within : is_in_range names word ≡ true = and_from (nat_le base word) (nat_lt word names.high) (le-leb base word (omega arith)) (lt-ltb word names.high (omega arith)) in
                  absurd (true≢false (sym parts.1 ∙ ap not within))
            ]
      ]
