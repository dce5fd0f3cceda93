-- The listing in which a branch is redirected to another code label: its places, labels, points and ways.
use Rattle.std.proofs.Common.{◌≡◌, ◌≢◌, ℕ, zero, suc, ◌+◌, ◌-◌, ◌/◌, ◌==◌, ◌&&◌, ◌||◌, true, false, List, [], ◌∷◌, ◌++◌, length, take, map, Option, Some, None, refl, sym, ap, ◌∙◌, ◌⊎◌, inl, inr, arith, ne_eqb, if◌then◌else◌}
use Rattle.std.specs.Prelude.{slice_get}
use Rattle.std.specs.Str.{bytes_eq}
use Rattle.std.proofs.lemmas.Bool.{cases_eq, or_left as or_first, or_right as or_second, or_cases}
use Rattle.std.proofs.lemmas.Option.{same_Some}
use Rattle.std.proofs.lemmas.Slice.Eq.{bytes_eq-Decides}
use Rattle.thumb_instr.specs.declared.instr.Instr.{Instr}
use Rattle.thumb_instr.specs.declared.instr.Instr.TheVariants as instr
use Rattle.thumb_model.specs.Effect.{one_of}
use Rattle.thumb_model.specs.Listing.{Name, Mention, Value, Statement, Instruction, Words, ListingLine, Place, Op, Word, Label, Code, code_of, places_in, places_of, labels_at, labels_from, is_op_place, is_code, place_among, place_of, has_label, place_mentions, is_mentioned, is_call, call_count, label_places, return_places, IsPoint}
use Rattle.thumb_model.specs.Naming.{Naming, Fits, points_of, returns_from, points}
use Rattle.thumb_model.specs.Steps.{label_place, loads_literal, word_of_place, word_behind, literal_word, word_of_mention, literal_at, aim_of}
use Rattle.thumb_model.specs.Literals.{HasLiterals, is_word_place}
use Rattle.thumb_model.specs.Replaced.{is_op, labels_kept}
use Rattle.thumb_model.proofs.Points.{point_places}
use Rattle.listing_parser.specs.Targets.{aimed, aimed_line, aimed_lines}
use Rattle.flow_tidy.specs.Tidying.{is_branch}
use Rattle.flow_tidy.proofs.Ways.{second, some_naming}
use Rattle.thumb_model.proofs.LinesReplaced.{kept_places, kept_labels}
use Rattle.listing_parser.proofs.ReplaceLemmas.{aimed_place as aimed_size}

abbrev pub to_label : Name → Mention
to_label label = record { name = label; plus = 0 }

-- the places with the instruction at one going to a label
abbrev pub aimed_place : Name → Place → Place
aimed_place label (Op i mention) = Op i (Some (to_label label))
aimed_place label (Word v) = Word v

abbrev pub aimed_places : ℕ → Name → List Place → List Place
aimed_places p label [] = []
aimed_places zero label (x ∷ xs) = aimed_place label x ∷ xs
aimed_places (suc p) label (x ∷ xs) = x ∷ aimed_places p label xs

abbrev pub aimed_code : ℕ → Name → Code → Code
aimed_code p label code = record { places = aimed_places p label code.places; labels = code.labels }

-- ---- places ----

pub get_aimed : (label : Name) (p : ℕ) (xs : List Place) (i : Instr) (mention : Option Mention) → slice_get xs p ≡ Some (Op i mention) → slice_get (aimed_places p label xs) p ≡ Some (Op i (Some (to_label label)))
get_aimed label p [] i mention e = absurd (cc)
get_aimed label zero (x ∷ xs) i mention e = ap (λ (y : Place). Some (aimed_place label y)) (same_Some x (Op i mention) e)
get_aimed label (suc p) (x ∷ xs) i mention e = get_aimed label p xs i mention e

pub get_other : (label : Name) (p q : ℕ) (xs : List Place) → q ≢ p → slice_get (aimed_places p label xs) q ≡ slice_get xs q
get_other label p q [] ne = refl
get_other label zero zero (x ∷ xs) ne = absurd (ne refl)
get_other label zero (suc q) (x ∷ xs) ne = refl
get_other label (suc p) zero (x ∷ xs) ne = refl
get_other label (suc p) (suc q) (x ∷ xs) ne = get_other label p q xs (λ e. ne (ap suc e))

-- what holds of a place whatever it mentions holds of the same places
same_op : (label : Name) (x : Place) → is_op_place (Some (aimed_place label x)) ≡ is_op_place (Some x)
same_op label (Op i mention) = refl
same_op label (Word v) = refl

ops_stay : (label : Name) (p q : ℕ) (xs : List Place) → is_op_place (slice_get (aimed_places p label xs) q) ≡ is_op_place (slice_get xs q)
ops_stay label p q [] = refl
ops_stay label zero zero (x ∷ xs) = same_op label x
ops_stay label zero (suc q) (x ∷ xs) = refl
ops_stay label (suc p) zero (x ∷ xs) = refl
ops_stay label (suc p) (suc q) (x ∷ xs) = ops_stay label p q xs

same_data : (label : Name) (x : Place) → is_word_place (Some (aimed_place label x)) ≡ is_word_place (Some x)
same_data label (Op i mention) = refl
same_data label (Word v) = refl

data_stays : (label : Name) (p q : ℕ) (xs : List Place) → is_word_place (slice_get (aimed_places p label xs) q) ≡ is_word_place (slice_get xs q)
data_stays label p q [] = refl
data_stays label zero zero (x ∷ xs) = same_data label x
data_stays label zero (suc q) (x ∷ xs) = refl
data_stays label (suc p) zero (x ∷ xs) = refl
data_stays label (suc p) (suc q) (x ∷ xs) = data_stays label p q xs

same_word : (names : Naming) (label : Name) (x : Place) → word_of_place names (Some (aimed_place label x)) ≡ word_of_place names (Some x)
same_word names label (Op i mention) = refl
same_word names label (Word v) = refl

words_stay : (names : Naming) (label : Name) (p q : ℕ) (xs : List Place) → word_of_place names (slice_get (aimed_places p label xs) q) ≡ word_of_place names (slice_get xs q)
words_stay names label p q [] = refl
words_stay names label zero zero (x ∷ xs) = same_word names label x
words_stay names label zero (suc q) (x ∷ xs) = refl
words_stay names label (suc p) zero (x ∷ xs) = refl
words_stay names label (suc p) (suc q) (x ∷ xs) = words_stay names label p q xs

-- ---- calls ----

same_call : (label : Name) (x : Place) → is_call (aimed_place label x) ≡ is_call x
same_call label (Op i mention) = refl
same_call label (Word v) = refl

returns_stay : (names : Naming) (label : Name) (k at p : ℕ) (xs : List Place) → returns_from names k at (aimed_places p label xs) ≡ returns_from names k at xs
returns_stay names label k at p [] = refl
returns_stay names label k at zero (x ∷ xs) = ap (λ b. if b then (names.return_word k, at + 1) ∷ returns_from names (k + 1) (at + 1) xs else returns_from names k (at + 1) xs) (same_call label x)
returns_stay names label k at (suc p) (x ∷ xs) =
    elim (is_call x) as (λ b. (if b then (names.return_word k, at + 1) ∷ returns_from names (k + 1) (at + 1) (aimed_places p label xs) else returns_from names k (at + 1) (aimed_places p label xs)) ≡ (if b then (names.return_word k, at + 1) ∷ returns_from names (k + 1) (at + 1) xs else returns_from names k (at + 1) xs)) [
      | true ↦ ap (λ (l : List (ℕ × ℕ)). (names.return_word k, at + 1) ∷ l) (returns_stay names label (k + 1) (at + 1) p xs)
      | false ↦ returns_stay names label k (at + 1) p xs
    ]

counts_stay : (label : Name) (p n : ℕ) (xs : List Place) → call_count (take n (aimed_places p label xs)) ≡ call_count (take n xs)
counts_stay label p zero xs = refl
counts_stay label p (suc n) [] = refl
counts_stay label zero (suc n) (x ∷ xs) = ap (λ b. if b then call_count (take n xs) + 1 else call_count (take n xs)) (same_call label x)
counts_stay label (suc p) (suc n) (x ∷ xs) = ap (λ c. if is_call x then c + 1 else c) (counts_stay label p n xs)

-- ---- mentioned names ----

mentioned_at : (n label : Name) (x : Place) → place_mentions n (aimed_place label x) ≡ true → (place_mentions n x ≡ true) ⊎ (n ≡ label)
mentioned_at n label (Op i mention) h = inr ((bytes_eq-Decides n label).0 h)
mentioned_at n label (Word v) h = inl h

mentioned_before : (n label : Name) (p : ℕ) (xs : List Place) → is_mentioned n (aimed_places p label xs) ≡ true → (is_mentioned n xs ≡ true) ⊎ (n ≡ label)
mentioned_before n label p [] h = absurd (cc)
mentioned_before n label zero (x ∷ xs) h = elim (or_cases (place_mentions n (aimed_place label x)) (is_mentioned n xs) h) [
  | inl a ↦ elim (mentioned_at n label x a) [
    | inl b ↦ inl (or_first (place_mentions n x) (is_mentioned n xs) b)
    | inr b ↦ inr b
  ]
  | inr a ↦ inl (or_second (place_mentions n x) (is_mentioned n xs) a)
]
mentioned_before n label (suc p) (x ∷ xs) h = elim (or_cases (place_mentions n x) (is_mentioned n (aimed_places p label xs)) h) [
  | inl a ↦ inl (or_first (place_mentions n x) (is_mentioned n xs) a)
  | inr a ↦ elim (mentioned_before n label p xs a) [
    | inl b ↦ inl (or_second (place_mentions n x) (is_mentioned n xs) b)
    | inr b ↦ inr b
  ]
]

-- a code label is a label
code_label_has : (name : Name) (places : List Place) (ls : List Label) (q : ℕ) → place_among name places ls ≡ Some q → has_label name ls ≡ true
code_label_has name places [] q e = absurd (cc)
code_label_has name places (l ∷ ls) q e =
    elim (bytes_eq name l.name) as (λ b. (if b && is_code places l then Some l.place else place_among name places ls) ≡ Some q → (b || has_label name ls) ≡ true) [
      | true ↦ λ f. refl
      | false ↦ λ f. code_label_has name places ls q f
    ] e

-- ---- the whole code ----

module _ (code : Code) (p : ℕ) (label : Name) where
  abbrev new : Code
  new = aimed_code p label code

  code_stays : (l : Label) → is_code new.places l ≡ is_code code.places l
  code_stays l = ops_stay label p l.place code.places

  among_stays : (name : Name) (ls : List Label) → place_among name new.places ls ≡ place_among name code.places ls
  among_stays name [] = refl
  among_stays name (l ∷ ls) =
      ap (λ c. if bytes_eq name l.name && c then Some l.place else place_among name new.places ls) (code_stays l)
      ∙ ap (λ (o : Option ℕ). if bytes_eq name l.name && is_code code.places l then Some l.place else o) (among_stays name ls)

  -- names lead where they did
  pub name_stays : (name : Name) → place_of new name ≡ place_of code name
  name_stays name = among_stays name code.labels

  pub aim_stays : (mention : Option Mention) → aim_of new mention ≡ aim_of code mention
  aim_stays None = refl
  aim_stays (Some n) = name_stays n.name

  labels_stay : (names : Naming) (ls : List Label) → points_of names new.places ls ≡ points_of names code.places ls
  labels_stay names [] = refl
  labels_stay names (l ∷ ls) =
      ap (λ c. if c then (names.word_of l.name, l.place) ∷ points_of names new.places ls else points_of names new.places ls) (code_stays l)
      ∙ ap (λ (ps : List (ℕ × ℕ)). if is_code code.places l then (names.word_of l.name, l.place) ∷ ps else ps) (labels_stay names ls)

  -- the points stay
  pub points_stay : (names : Naming) → points names new ≡ points names code
  points_stay names =
      ap (λ (l : List (ℕ × ℕ)). l ++ returns_from names 0 0 new.places) (labels_stay names code.labels)
      ∙ ap (λ (l : List (ℕ × ℕ)). points_of names code.places code.labels ++ l) (returns_stay names label 0 0 p code.places)

  all_points : label_places new.places new.labels ++ return_places 0 new.places ≡ label_places code.places code.labels ++ return_places 0 code.places
  all_points = sym (point_places some_naming new) ∙ ap (map second) (points_stay some_naming) ∙ point_places some_naming code

  pub point_forth : (q : ℕ) → IsPoint code q → IsPoint new q
  point_forth q h = ap (one_of q) all_points ∙ h

  pub point_back : (q : ℕ) → IsPoint new q → IsPoint code q
  point_back q h = ap (one_of q) (sym all_points) ∙ h

  pub count_stays : (q : ℕ) → call_count (take q new.places) ≡ call_count (take q code.places)
  count_stays q = counts_stay label p q code.places

  -- ---- literals ----

  behind_stays : (names : Naming) (plus : ℕ) (o : Option ℕ) → word_behind names new.places plus o ≡ word_behind names code.places plus o
  behind_stays names plus None = refl
  behind_stays names plus (Some q) = words_stay names label p (q + plus / 4) code.places

  literal_word_stays : (names : Naming) (mention : Option Mention) → literal_word names new mention ≡ literal_word names code mention
  literal_word_stays names None = refl
  literal_word_stays names (Some n) = behind_stays names n.plus (label_place n.name code.labels)

  pub literal_stays : (names : Naming) (i : Instr) (mention : Option Mention) → literal_at names new i mention ≡ literal_at names code i mention
  literal_stays names i mention = ap (λ x. if loads_literal i then x else word_of_mention names mention) (literal_word_stays names mention)

  module _ (i : Instr) (mention : Option Mention) (stands : slice_get code.places p ≡ Some (Op i mention)) (branch : is_branch i ≡ true) where
    no_branch_loads : (j : Instr) → is_branch j ≡ true → loads_literal j ≡ false
    no_branch_loads (instr.BranchIf c d) b = refl
    no_branch_loads (instr.Branch d) b = refl
    no_branch_loads j b = absurd (cc)

    same_instr : (j k : Instr) (m n : Option Mention) → Op j m ≡ Op k n → j ≡ k
    same_instr j k m n e = cc

    -- a literal load was there before
    load_before : (q : ℕ) (j : Instr) (n : Mention) → slice_get new.places q ≡ Some (Op j (Some n)) → loads_literal j ≡ true → slice_get code.places q ≡ Some (Op j (Some n))
    load_before q j n e t =
        elim (cases_eq q p) [
          | inl same ↦ absurd (
              let here : Op j (Some n) ≡ Op i (Some (to_label label)) = same_Some _ _ (sym e ∙ ap (slice_get new.places) same ∙ get_aimed label p code.places i mention stands) in
              let is : j ≡ i = same_instr j i _ _ here in
              let no : loads_literal j ≡ false = ap loads_literal is ∙ no_branch_loads i branch in
              cc)
          | inr ne ↦ sym (get_other label p q code.places ne) ∙ e
        ]

    pub literals_stay : HasLiterals code → HasLiterals new
    literals_stay h at j n e t q f k l = data_stays label p (q + k) code.places ∙ h at j n (load_before at j n e t) t q f k l

  -- a naming that fits the old listing fits the new one
  pub fits_stays : (q : ℕ) → place_of code label ≡ Some q → (names : Naming) → Fits names code → Fits names new
  fits_stays q e names f = record {
    words = f.words;
    return_words = f.return_words;
    low_even = f.low_even;
    high_even = f.high_even;
    are_code = λ k w x g. f.are_code k w x (ap (λ (l : List (ℕ × ℕ)). slice_get l k) (sym (points_stay names)) ∙ g);
    distinct = λ j k v w x y g h ne. f.distinct j k v w x y (ap (λ (l : List (ℕ × ℕ)). slice_get l j) (sym (points_stay names)) ∙ g) (ap (λ (l : List (ℕ × ℕ)). slice_get l k) (sym (points_stay names)) ∙ h) ne;
    outside = λ n h k. elim (mentioned_before n label p code.places h) [
      | inl before ↦ f.outside n before k
      | inr same ↦ absurd (let has : has_label n code.labels ≡ true = ap (λ x. has_label x code.labels) same ∙ code_label_has label code.places code.labels q e in cc)
    ];
  }

-- ---- lines ----

-- behind places that stay
aimed_behind : (label : Name) (xs ys : List Place) (p m : ℕ) → p ≡ length xs + m → aimed_places p label (xs ++ ys) ≡ xs ++ aimed_places m label ys
aimed_behind label [] ys p m e = ap (λ n. aimed_places n label ys) (let f : p ≡ m = omega arith in f)
aimed_behind label (x ∷ xs) ys zero m e = absurd (omega arith)
aimed_behind label (x ∷ xs) ys (suc p) m e = ap (λ (l : List Place). x ∷ l) (aimed_behind label xs ys p m (omega arith))

-- an instruction doesn't stand among words
pub past_words : (vs : List Value) (ys : List Place) (p : ℕ) (i : Instr) (mention : Option Mention) → slice_get (map Word vs ++ ys) p ≡ Some (Op i mention) → (m : ℕ) × (p ≡ length (map Word vs) + m) × (slice_get ys m ≡ Some (Op i mention))
past_words [] ys p i mention e = (p, omega arith, e)
past_words (v ∷ vs) ys zero i mention e = absurd (cc)
past_words (v ∷ vs) ys (suc p) i mention e = let r = past_words vs ys p i mention e in (r.0, omega (arith, r.1), r.2)

PlacesRec : (Instr → Option Mention → List ℕ) → Name → List ListingLine → Type 0
PlacesRec write label ls = (q : ℕ) (i : Instr) (mention : Option Mention) → slice_get (places_of ls) q ≡ Some (Op i mention) → places_of (aimed_lines write q label ls) ≡ aimed_places q label (places_of ls)

left_alone : (write : Instr → Option Mention → List ℕ) (label : Name) (p m : ℕ) (i : Instr) (mention : Option Mention) (l : ListingLine) (s : Statement) (ls : List ListingLine) → l.statement ≡ s → PlacesRec write label ls → p ≡ length (places_in s) + m → slice_get (places_of ls) m ≡ Some (Op i mention) → places_of (l ∷ aimed_lines write (p - length (places_in s)) label ls) ≡ aimed_places p label (places_in s ++ places_of ls)
unfolding PlacesRec
left_alone write label p m i mention l s ls f rec g h =
    ap (λ q. places_of (l ∷ aimed_lines write q label ls)) (let z : p - length (places_in s) ≡ m = omega arith in z)
    ∙ ap (λ x. places_in x ++ places_of (aimed_lines write m label ls)) f
    ∙ ap (λ x. places_in s ++ x) (rec m i mention h)
    ∙ sym (aimed_behind label (places_in s) (places_of ls) p m g)

places_step : (write : Instr → Option Mention → List ℕ) (label : Name) (p : ℕ) (i : Instr) (mention : Option Mention) (l : ListingLine) (s : Statement) (ls : List ListingLine) → l.statement ≡ s → PlacesRec write label ls → slice_get (places_in s ++ places_of ls) p ≡ Some (Op i mention) → places_of (if is_op s && (p == 0) then labels_kept l l.names ++ (aimed_line write label l ∷ ls) else l ∷ aimed_lines write (p - length (places_in s)) label ls) ≡ aimed_places p label (places_in s ++ places_of ls)
places_step write label p i mention l (Words vs) ls f rec e =
    let r = past_words vs (places_of ls) p i mention e in
    left_alone write label p r.0 i mention l (Words vs) ls f rec r.1 r.2
places_step write label zero i mention l (Instruction j n) ls f rec e =
    kept_places l l.names (aimed_line write label l ∷ ls) ∙ ap (λ x. places_in (aimed label x) ++ places_of ls) f
places_step write label (suc p) i mention l (Instruction j n) ls f rec e =
    ap (λ b. places_of (if b then labels_kept l l.names ++ (aimed_line write label l ∷ ls) else l ∷ aimed_lines write (suc p - 1) label ls)) (ne_eqb (suc p) 0 (λ z. absurd (omega arith)))
    ∙ left_alone write label (suc p) p i mention l (Instruction j n) ls f rec (omega arith) e
places_step write label p i mention l s ls f rec e = left_alone write label p p i mention l s ls f rec (omega arith) e

places_aimed : (write : Instr → Option Mention → List ℕ) (label : Name) (ls : List ListingLine) (p : ℕ) (i : Instr) (mention : Option Mention) → slice_get (places_of ls) p ≡ Some (Op i mention) → places_of (aimed_lines write p label ls) ≡ aimed_places p label (places_of ls)
unfolding PlacesRec
places_aimed write label [] p i mention e = refl
places_aimed write label (l ∷ ls) p i mention e = places_step write label p i mention l l.statement ls refl (λ q j n f. places_aimed write label ls q j n f) e

labels_aimed : (write : Instr → Option Mention → List ℕ) (label : Name) (q p : ℕ) (ls : List ListingLine) → labels_from q (aimed_lines write p label ls) ≡ labels_from q ls
labels_aimed write label q p [] = refl
labels_aimed write label q p (l ∷ ls) =
    elim (is_op l.statement && (p == 0)) as (λ b. labels_from q (if b then labels_kept l l.names ++ (aimed_line write label l ∷ ls) else l ∷ aimed_lines write (p - length (places_in l.statement)) label ls) ≡ labels_at q l.names ++ labels_from (q + length (places_in l.statement)) ls) [
      | true ↦ kept_labels l l.names q (aimed_line write label l ∷ ls) ∙ ap (λ n. labels_at q l.names ++ labels_from (q + n) ls) (aimed_size label l.statement)
      | false ↦ ap (λ (x : List Label). labels_at q l.names ++ x) (labels_aimed write label (q + length (places_in l.statement)) (p - length (places_in l.statement)) ls)
    ]

-- the code of the lines
pub code_aimed : (write : Instr → Option Mention → List ℕ) (label : Name) (p : ℕ) (ls : List ListingLine) (i : Instr) (mention : Option Mention) → slice_get (places_of ls) p ≡ Some (Op i mention) → code_of (aimed_lines write p label ls) ≡ aimed_code p label (code_of ls)
code_aimed write label p ls i mention e = same_code _ _ _ _ (places_aimed write label ls p i mention e) (labels_aimed write label 0 p ls)
  where
    same_code : (ps qs : List Place) (ls ms : List Label) → ps ≡ qs → ls ≡ ms → (let c : Code = record { places = ps; labels = ls } in c) ≡ record { places = qs; labels = ms }
    same_code ps qs ls ms e f = cc
