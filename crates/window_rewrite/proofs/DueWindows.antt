-- A rule that applies where a window gave way applied before: what it sees of the code is the same.
use Rattle.std.proofs.Common.{◌≡◌, ℕ, length-append, zero, suc, ◌+◌, ◌-◌, ◌<◌, ◌≤◌, true, List, [], ◌∷◌, ◌++◌, length, take, drop, map, Some, refl, sym, ap, ◌∙◌, ◌⊎◌, inl, inr, arith}
use Rattle.std.specs.Prelude.{slice_get}
use Rattle.std.specs.Option.{option_map}
use Rattle.std.proofs.lemmas.Bool.{cases_lt}
use Rattle.std.proofs.lemmas.Option.{slice_get-map}
use Rattle.thumb_instr.specs.declared.instr.Instr.{Instr}
use Rattle.thumb_instr.specs.Window.{Low, renamed}
use Rattle.thumb_model.specs.Listing.{plain, Label, Place, Code, is_code, is_op_place}
use Rattle.thumb_model.specs.Flow.{LiveAfter}
use Rattle.thumb_model.specs.Replaced.{moved, move_label, replaced}
use Rattle.thumb_model.proofs.Lists.{get_drop, get_take, get_back, length_map, take_all, length_drop}
use Rattle.rule_model.specs.Rules.{Rule, IsSoundRule, Applies}
use Rattle.rule_model.proofs.Table.{window_length}
use Rattle.window_rewrite.proofs.Settled.{first_plain, IsGap}
use Rattle.window_rewrite.proofs.WindowPlaces.{first_op}
use Rattle.common_lemmas.proofs.Lists.{get_front}

-- ---- what is left where instructions give way ----

abbrev pub left : ℕ → ℕ → List Instr → List Place → List Place
left p count is places = take p places ++ (map plain is ++ drop (p + count) places)

left_before : (p count : ℕ) (is : List Instr) (places : List Place) (q : ℕ) → p ≤ length places → q < p → slice_get (left p count is places) q ≡ slice_get places q
left_before p count is places q within h =
    let n : length (take p places) ≡ p = take_all p places within in
    get_front (take p places) (map plain is ++ drop (p + count) places) q (omega arith) ∙ get_take p places q h

left_within : (p count : ℕ) (is : List Instr) (places : List Place) (j q : ℕ) → p ≤ length places → j < length is → q ≡ p + j → slice_get (left p count is places) q ≡ slice_get (map plain is) j
left_within p count is places j q within h e =
    let n : length (take p places) ≡ p = take_all p places within in
    let m : length (map plain is) ≡ length is = length_map plain is in
    get_back (take p places) (map plain is ++ drop (p + count) places) j q (omega arith) ∙ get_front (map plain is) (drop (p + count) places) j (omega arith)

left_behind : (p count : ℕ) (is : List Instr) (places : List Place) (q r : ℕ) → p ≤ length places → p + count ≤ q → r + count ≡ q + length is → slice_get (left p count is places) r ≡ slice_get places q
left_behind p count is places q r within h e =
    let n : length (take p places) ≡ p = take_all p places within in
    let m : length (map plain is) ≡ length is = length_map plain is in
    get_back (take p places) (map plain is ++ drop (p + count) places) (length is + (q - (p + count))) r (omega arith)
    ∙ get_back (map plain is) (drop (p + count) places) (q - (p + count)) (length is + (q - (p + count))) (omega arith)
    ∙ get_drop (p + count) places (q - (p + count)) q (omega arith)

-- the places of a window, one by one
pub same_window : (n p q : ℕ) (xs ys : List Place) → p + n ≤ length xs → q + n ≤ length ys → ((k : ℕ) → k < n → slice_get xs (p + k) ≡ slice_get ys (q + k)) → take n (drop p xs) ≡ take n (drop q ys)
same_window n p q xs ys h l e = fronts n (drop p xs) (drop q ys) (let d = length_drop p xs in omega arith) (let d = length_drop q ys in omega arith) (λ k i. get_drop p xs k (p + k) refl ∙ e k i ∙ sym (get_drop q ys k (q + k) refl))
  where
    fronts : (n : ℕ) (xs ys : List Place) → n ≤ length xs → n ≤ length ys → ((k : ℕ) → k < n → slice_get xs k ≡ slice_get ys k) → take n xs ≡ take n ys
    fronts zero [] [] h l e = refl
    fronts zero [] (y ∷ ys) h l e = refl
    fronts zero (x ∷ xs) [] h l e = refl
    fronts zero (x ∷ xs) (y ∷ ys) h l e = refl
    fronts (suc n) [] ys h l e = absurd (omega arith)
    fronts (suc n) (x ∷ xs) [] h l e = absurd (omega arith)
    fronts (suc n) (x ∷ xs) (y ∷ ys) h l e =
        let first = e 0 (omega arith) in
        let same : x ≡ y = cc in
        ap (λ z. z ∷ take n xs) same ∙ ap (λ zs. y ∷ zs) (fronts n xs ys (omega arith) (omega arith) (λ k i. e (suc k) (omega arith)))

moved_label : (p gone : ℕ) (labels : List Label) (k : ℕ) (l : Label) → slice_get labels k ≡ Some l → slice_get (map (move_label p gone) labels) k ≡ Some (move_label p gone l)
moved_label p gone labels k l e = slice_get-map (move_label p gone) labels k ∙ ap (option_map (move_label p gone)) e

-- ---- two codes that a rule sees alike ----

-- a label of the one code is one of the other too, and stands there alike at, before or behind the window
pub record IsLabelThere (labels : List Label) (q n p : ℕ) (l : Label) : Type 0 where
  pub number : ℕ
  pub label : Label
  pub at : slice_get labels number ≡ Some label
  pub before : label.place ≤ q → l.place ≤ p
  pub behind : q + n ≤ label.place → p + n ≤ l.place
  pub here : l.place ≡ p → label.place ≡ q

-- at n places from p on the code is as the other from q on
pub record AreAlike (code new : Code) (p q n : ℕ) : Type 0 where
  pub within : p + n ≤ length code.places
  pub new_within : q + n ≤ length new.places
  pub same : (k : ℕ) → k < n → slice_get code.places (p + k) ≡ slice_get new.places (q + k)
  pub op_behind : is_op_place (slice_get new.places (q + n)) ≡ true → is_op_place (slice_get code.places (p + n)) ≡ true
  pub labels : (k : ℕ) (l : Label) → slice_get code.labels k ≡ Some l → IsLabelThere new.labels q n p l

pub applies_alike : (rule : Rule) (registers : List Low) (code new : Code) (p q : ℕ) → IsSoundRule rule → AreAlike code new p q (length rule.left) → 0 < length rule.left
    → ((x : ℕ) → LiveAfter code (p + length rule.left - 1) x → LiveAfter new (q + length rule.left - 1) x) → Applies rule registers new q → Applies rule registers code p
applies_alike rule registers code new p q sound s some live a = record {
  as_many = a.as_many;
  one_to_one = a.one_to_one;
  window = a.window;
  stands = same_window n p q code.places new.places s.within s.new_within s.same ∙ a.stands;
  matches = a.matches;
  unlabelled = unlabelled;
  live = λ x h. a.live x (live x h);
  labels_stay = λ k l e h. elim (cases_lt l.place p) [
    | inl b ↦ (
        let at : moved p (n - length rule.right) l.place ≡ l.place = omega arith in
        ap (λ j. is_op_place (slice_get (left p n is code.places) j)) at ∙ ap is_op_place (left_before p n is code.places l.place (omega (arith, s.within)) b) ∙ h
        )
    | inr b ↦ elim (cases_lt p l.place) [
      | inl c ↦ (
          let no_longer = sound.no_longer in
          let far : p + n ≤ l.place = elim (unlabelled k l e) [ inl t ↦ absurd (omega arith) | inr t ↦ t ] in
          let at : moved p (n - length rule.right) l.place + n ≡ l.place + length is = omega (arith, m) in
          ap is_op_place (left_behind p n is code.places l.place (moved p (n - length rule.right) l.place) (omega (arith, s.within)) far at) ∙ h
          )
      | inr c ↦ (
          let here : l.place ≡ p = omega arith in
          let at : moved p (n - length rule.right) l.place ≡ p = omega arith in
          ap (λ j. is_op_place (slice_get (left p n is code.places) j)) at ∙ at_first k l e here
          )
    ]
  ];
}
  where
    n : ℕ
    n = length rule.left

    is : List Instr
    is = map (renamed registers) rule.right

    m : length is ≡ length rule.right
    m = length_map (renamed registers) rule.right

    unlabelled : (k : ℕ) (l : Label) → slice_get code.labels k ≡ Some l → (l.place ≤ p) ⊎ (p + length rule.left ≤ l.place)
    unlabelled k l e = let t = s.labels k l e in elim (a.unlabelled t.number t.label t.at) [ inl h ↦ inl (t.before h) | inr h ↦ inr (t.behind h) ]

    -- a label at the window is one of the other code's, where an instruction comes to stand
    at_first : (k : ℕ) (l : Label) → slice_get code.labels k ≡ Some l → l.place ≡ p → is_op_place (slice_get (left p n is code.places) p) ≡ true
    at_first k l e here =
        let t = s.labels k l e in
        let there = t.here here in
        let no_longer = sound.no_longer in
        let w = window_length rule registers new q a in
        let op : is_op_place (slice_get new.places q) ≡ true = first_op a.window (length rule.left) new.places q w (omega arith) a.stands in
        let code_there : is_code new.places t.label ≡ true = ap (λ j. is_op_place (slice_get new.places j)) there ∙ op in
        elim (cases_lt 0 (length rule.right)) [
          | inl some ↦ ap is_op_place (left_within p n is code.places 0 p (omega (arith, s.within)) (omega (arith, m)) (omega arith)) ∙ first_plain is (omega (arith, m))
          | inr none ↦ (
              let stays = a.labels_stay t.number t.label t.at code_there in
              let at : moved q (n - length rule.right) t.label.place ≡ q = omega arith in
              let now : is_op_place (slice_get (left q n is new.places) q) ≡ true = ap (λ j. is_op_place (slice_get (left q n is new.places) j)) (sym at) ∙ stays in
              let new_behind : is_op_place (slice_get new.places (q + n)) ≡ true = sym (ap is_op_place (left_behind q n is new.places (q + n) q (omega (arith, s.new_within)) (omega arith) (omega (arith, m)))) ∙ now in
              ap is_op_place (left_behind p n is code.places (p + n) p (omega (arith, s.within)) (omega arith) (omega (arith, m))) ∙ s.op_behind new_behind
              )
        ]

-- ---- a window that gives way behind it, or before it ----

pub left_length : (p count : ℕ) (is : List Instr) (places : List Place) → p + count ≤ length places → length (left p count is places) + count ≡ length places + length is
left_length p count is places h =
    let a = length-append (take p places) (map plain is ++ drop (p + count) places) in
    let b = length-append (map plain is) (drop (p + count) places) in
    let t : length (take p places) ≡ p = take_all p places (omega arith) in
    let m = length_map plain is in
    let d = length_drop (p + count) places in
    omega arith

pub alike_before : (code : Code) (g count : ℕ) (is : List Instr) (p n : ℕ) → IsGap code.places code.labels g count is → 0 < n → p + n ≤ g → AreAlike code (replaced code g count is) p p n
alike_before code g count is p n gap some h =
    let w = gap.within in
    let s = gap.no_longer in
    let long = left_length g count is code.places w in
    record {
      within = omega arith;
      new_within = omega arith;
      same = λ k i. sym (left_before g count is code.places (p + k) (omega arith) (omega arith));
      op_behind = λ o. elim (cases_lt (p + n) g) [
        | inl b ↦ sym (ap is_op_place (left_before g count is code.places (p + n) (omega arith) b)) ∙ o
        | inr b ↦ (let e : p + n ≡ g = omega arith in ap (λ j. is_op_place (slice_get code.places j)) e ∙ gap.first)
      ];
      labels = λ k l e.
          let u = gap.unlabelled k l e in
          record {
            number = k;
            label = move_label g (count - length is) l;
            at = moved_label g (count - length is) code.labels k l e;
            before = λ b. elim u [ inl c ↦ omega arith | inr c ↦ absurd (omega arith) ];
            behind = λ b. elim u [ inl c ↦ omega arith | inr c ↦ omega arith ];
            here = λ b. omega arith;
          };
    }

pub alike_behind : (code : Code) (g count : ℕ) (is : List Instr) (p q n : ℕ) → IsGap code.places code.labels g count is → 0 < n → g + count ≤ p → q + count ≡ p + length is → p + n ≤ length code.places → AreAlike code (replaced code g count is) p q n
alike_behind code g count is p q n gap some h e within =
    let w = gap.within in
    let s = gap.no_longer in
    let long = left_length g count is code.places w in
    record {
      within = within;
      new_within = omega arith;
      same = λ k i. sym (left_behind g count is code.places (p + k) (q + k) (omega arith) (omega arith) (omega arith));
      op_behind = λ o. sym (ap is_op_place (left_behind g count is code.places (p + n) (q + n) (omega arith) (omega arith) (omega arith))) ∙ o;
      labels = λ k l f.
          let u = gap.unlabelled k l f in
          record {
            number = k;
            label = move_label g (count - length is) l;
            at = moved_label g (count - length is) code.labels k l f;
            before = λ b. elim u [ inl c ↦ omega arith | inr c ↦ omega arith ];
            behind = λ b. elim u [ inl c ↦ absurd (omega arith) | inr c ↦ omega arith ];
            here = λ b. elim u [ inl c ↦ absurd (omega arith) | inr c ↦ omega arith ];
          };
    }
