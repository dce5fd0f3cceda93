-- In an assembled listing each name that is mentioned has a label or is set, and the addresses that names are set to lie outside the image.
use Rattle.std.proofs.Common.{◌≡◌, ◌∙◌, ◌⊎◌, inl, inr, ℕ, ◌+◌, ◌%◌, ◌≤◌, ◌&&◌, Bool, true, false, not, List, [], ◌∷◌, ◌++◌, map, refl, sym, ap, subst, arith, true≢false, Option, Some, None, is_some, if◌then◌else◌}
use Rattle.std.specs.Prelude.{nat_lt, nat_le}
use Rattle.std.specs.Str.{bytes_eq}
use Rattle.std.proofs.lemmas.Bool.Decides.{nat_tests}
use Rattle.std.proofs.lemmas.Bool.{cases_Bool, and_from, and_parts, or_parts, or_cases}
use Rattle.std.proofs.lemmas.Slice.Eq.{bytes_eq-Decides}
use Rattle.thumb_model.specs.Listing.{Name, Value, Number, OfName, Statement, Nothing, Instruction, Words, Aligns, Sets, ListingLine, Place, Word, places_in, places_of, labels_from, code_of, has_label, is_mentioned, value_mentions, place_mentions}
use Rattle.thumb_model.specs.Layout.{end_of, label_address, lies_in, set_address, set_in}
use Rattle.thumb_model.specs.Naming.{Fits, is_in_range, laid, last_is_call}
use Rattle.listing_parser.specs.Parsing.{text_of_lines}
use Rattle.thumb_assembler.specs.Fair.{is_fair, are_fair}
use Rattle.thumb_assembler.specs.Runs.{IsAssembled}
use Rattle.thumb_assembler.specs.Bytes.{branch_lost, flaw_of, flaws_from, lies_inside, lies_nowhere, may_leave, value_lost, values_lost}
use Rattle.thumb_assembler.proofs.Cuts.{end_even, fair_front}
use Rattle.thumb_assembler.proofs.Fairness.{listed_fair}
use Rattle.thumb_assembler.proofs.Meeting.{images_follow}
use Rattle.thumb_assembler.proofs.Places.{lost_leaves}
use Rattle.listing_laws.specs.Assembled.{IsOutside, AssembledListingsFit, AssembledImagesFollow}
use Rattle.listing_laws.proofs.Fitted.{laid_namings_fit, no_address}
use Rattle.listing_laws.proofs.Once.{each_once}
use Rattle.listing_parser.proofs.MapLemmas.{is_none}

-- ---- lines without a flaw ----

some_is : {A : Type 0} (o : Option A) → is_some o ≡ true → (x : A) × (o ≡ Some x)
some_is None h = absurd (true≢false (sym h))
some_is (Some x) h = (x, refl)

not_so : {A : Type 0} (b : Bool) (x : A) → (if b then Some x else None) ≡ None → b ≡ false
not_so true x e = absurd (let bad : Some x ≡ None = e in cc)
not_so false x e = refl

mentioned_in : (name : Name) (xs ys : List Place) → is_mentioned name (xs ++ ys) ≡ true → (is_mentioned name xs ≡ true) ⊎ (is_mentioned name ys ≡ true)
mentioned_in name [] ys e = inr e
mentioned_in name (x ∷ xs) ys e = elim (cases_Bool (place_mentions name x)) [
  | inl h ↦ inl (rw h refl)
  | inr h ↦ elim (mentioned_in name xs ys (rw h at e)) [
    | inl a ↦ inl (rw h a)
    | inr a ↦ inr a
  ]
]

-- ---- names and their addresses ----

module _ (base : ℕ) (all : List ListingLine) where
  first_sound : (n : ℕ) (l : ListingLine) (ls : List ListingLine) → flaws_from base all n (l ∷ ls) ≡ None → flaw_of base all l.statement ≡ None
  first_sound n l ls e = elim (cases_Bool (is_some (flaw_of base all l.statement))) [
    | inl h ↦ let some = some_is (flaw_of base all l.statement) h in absurd (let bad : Some (n, some.0) ≡ None = rw some.1 at e in cc)
    | inr h ↦ is_none (flaw_of base all l.statement) h
  ]

  -- the name has a label or is set
  Lies : Name → Type 0
  Lies name = lies_in base all name ≡ None → ⊥

  nowhere : (name : Name) → lies_in base all name ≡ None → lies_nowhere base all name ≡ true
  nowhere name e = ap (λ (o : Option ℕ). not (is_some o)) e

  value_lies : (name : Name) (v : Value) → value_lost base all v ≡ false → value_mentions name v ≡ true → Lies name
  unfolding Lies
  value_lies name (Number n) e m none = true≢false (sym m)
  value_lies name (OfName x) e m none =
      let same : name ≡ x.name = (bytes_eq-Decides name x.name).0 m in
      true≢false (sym (nowhere x.name (ap (lies_in base all) (sym same) ∙ none)) ∙ e)

  values_lie : (name : Name) (vs : List Value) → values_lost base all vs ≡ false → is_mentioned name (map Word vs) ≡ true → Lies name
  values_lie name [] e m = absurd (true≢false (sym m))
  values_lie name (v ∷ vs) e m =
      let found = or_parts (value_lost base all v) (values_lost base all vs) e in
      elim (or_cases (value_mentions name v) (is_mentioned name (map Word vs)) m) [
        | inl h ↦ value_lies name v found.0 h
        | inr h ↦ values_lie name vs found.1 h
      ]

  statement_lies : (name : Name) (s : Statement) → is_fair all s ≡ true → flaw_of base all s ≡ None → is_mentioned name (places_in s) ≡ true → Lies name
  unfolding Lies
  statement_lies name (Instruction i None) f e m none = true≢false (sym m)
  statement_lies name (Instruction i (Some x)) f e m none = elim (or_cases (bytes_eq name x.name) false m) [
    | inl h ↦
        let same : name ≡ x.name = (bytes_eq-Decides name x.name).0 h in
        let gone : lies_in base all x.name ≡ None = ap (lies_in base all) (sym same) ∙ none in
        let lost : branch_lost base all i (Some x) ≡ true = and_from (may_leave i) (lies_nowhere base all x.name) (lost_leaves base all i x f gone) (nowhere x.name gone) in
        true≢false (sym lost ∙ not_so (branch_lost base all i (Some x)) _ e)
    | inr h ↦ true≢false (sym h)
  ]
  statement_lies name (Words vs) f e m none = values_lie name vs (not_so (values_lost base all vs) _ e) m none
  statement_lies name Nothing f e m none = true≢false (sym m)
  statement_lies name (Aligns size most) f e m none = true≢false (sym m)
  statement_lies name (Sets other address) f e m none = true≢false (sym m)

  lines_lie : (name : Name) (n : ℕ) (ls : List ListingLine) → are_fair all ls ≡ true → flaws_from base all n ls ≡ None → is_mentioned name (places_of ls) ≡ true → Lies name
  lines_lie name n [] f e m = absurd (true≢false (sym m))
  lines_lie name n (l ∷ ls) f e m =
      let fair = and_parts (is_fair all l.statement) (are_fair all ls) f in
      let here : flaw_of base all l.statement ≡ None = first_sound n l ls e in
      let next : flaws_from base all (n + 1) ls ≡ None = rw here at e in
      elim (mentioned_in name (places_in l.statement) (places_of ls) m) [
        | inl h ↦ statement_lies name l.statement fair.0 here h
        | inr h ↦ lines_lie name (n + 1) ls fair.1 next h
      ]

  -- a name without a label is set
  is_set : (name : Name) → label_address name base all ≡ None → Lies name → (address : ℕ) × (set_address name all ≡ Some address)
  unfolding Lies
  is_set name none lies = by (set_address name all) refl where
    by : (o : Option ℕ) → set_address name all ≡ o → (address : ℕ) × (set_address name all ≡ Some address)
    by None e = absurd (lies (rw (none, e) refl))
    by (Some address) e = (address, e)

  -- the address that a name is set to lies outside the image
  statement_outside : (name : Name) (s : Statement) (rest : Option ℕ) (address : ℕ) → flaw_of base all s ≡ None → set_in name s rest ≡ Some address → (lies_inside base all address ≡ false) ⊎ (rest ≡ Some address)
  statement_outside name (Sets other a) rest address f e = elim (cases_Bool (bytes_eq name other)) [
    | inl h ↦
        let same : Some a ≡ Some address = rw h at e in
        let is : a ≡ address = cc in
        inl (ap (lies_inside base all) (sym is) ∙ not_so (lies_inside base all a) _ f)
    | inr h ↦ inr (rw h at e)
  ]
  statement_outside name Nothing rest address f e = inr e
  statement_outside name (Instruction i mention) rest address f e = inr e
  statement_outside name (Words vs) rest address f e = inr e
  statement_outside name (Aligns size most) rest address f e = inr e

  set_outside : (name : Name) (n : ℕ) (ls : List ListingLine) (address : ℕ) → flaws_from base all n ls ≡ None → set_address name ls ≡ Some address → lies_inside base all address ≡ false
  set_outside name n [] address f e = absurd (let bad : None ≡ Some address = e in cc)
  set_outside name n (l ∷ ls) address f e =
      let here : flaw_of base all l.statement ≡ None = first_sound n l ls f in
      let next : flaws_from base all (n + 1) ls ≡ None = rw here at f in
      elim (statement_outside name l.statement (set_address name ls) address here e) [
        | inl h ↦ h
        | inr h ↦ set_outside name (n + 1) ls address next h
      ]

-- so it lies outside the range, which goes on for two bytes after a call at the end
range_outside : (low end word : ℕ) (call : Bool) → (nat_le low word && nat_lt word end) ≡ false → (call ≡ true → end ≤ word → end + 2 ≤ word) → (nat_le low word && nat_lt word (if call then end + 2 else end)) ≡ false
range_outside low end word false out behind = out
range_outside low end word true out behind = elim (cases_Bool (nat_le low word)) [
  | inl h ↦
      let past : nat_lt word end ≡ false = rw h at out in
      let least : end ≤ word = grind (arith, nat_tests) in
      let more = behind refl least in
      let further : nat_lt word (end + 2) ≡ false = grind (arith, nat_tests) in
      rw (h, further) refl
  | inr h ↦ rw h refl
]

-- ---- all together ----

module _ (base : ℕ) (set : Name → ℕ) (lines : List ListingLine) (bytes : List ℕ) (is : IsAssembled base lines bytes) (out : IsOutside base set lines) where
  fair : are_fair lines lines ≡ true
  fair = listed_fair (text_of_lines lines) lines is.listed

  even : (before after : List ListingLine) → lines ≡ before ++ after → end_of base before % 2 ≡ 0
  even before after cut = end_even lines base before (fair_front lines before after (subst (λ (ls : List ListingLine). are_fair lines ls ≡ true) cut fair)) is.even

  outside : (n : Name) → is_mentioned n (places_of lines) ≡ true → has_label n (labels_from 0 lines) ≡ false → is_in_range (laid base set lines) (set n) ≡ false
  outside n mentioned unlabelled =
      let lies = lines_lie base lines n 1 lines fair is.sound mentioned in
      let a = is_set base lines n (no_address n base 0 lines unlabelled) lies in
      let same : set n ≡ a.0 = out.set_by n a.0 a.1 in
      ap (is_in_range (laid base set lines)) same
      ∙ range_outside base (end_of base lines) a.0 (last_is_call (places_of lines)) (set_outside base lines n 1 lines a.0 is.sound a.1) (λ call least. out.behind call n a.0 mentioned a.1 least)

  pub fits : Fits (laid base set lines) (code_of lines)
  fits = laid_namings_fit base set lines (record {
    even = even;
    low = let end = is.low in omega arith;
    once = each_once (text_of_lines lines) lines is.listed;
    words = out.words;
    outside = outside;
  })

pub assembled_listings_fit : AssembledListingsFit
assembled_listings_fit base set lines bytes is out = fits base set lines bytes is out

pub assembled_images_follow : AssembledImagesFollow
assembled_images_follow base set lines bytes is out = images_follow base set lines bytes is out.set_by (fits base set lines bytes is out)
