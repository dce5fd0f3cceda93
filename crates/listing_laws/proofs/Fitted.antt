-- The laid naming of lines that lie apart fits them: a code point is a cut between two lines, and its word is the address there plus 1.
use Rattle.std.proofs.Common.{◌≡◌, ◌∙◌, ◌⊎◌, inl, inr, ℕ, zero, suc, ◌+◌, ◌-◌, ◌*◌, ◌%◌, ◌^◌, ◌<◌, ◌≤◌, ◌==◌, ◌&&◌, Bool, true, false, List, [], ◌∷◌, ◌++◌, length, map, refl, sym, ap, arith, true≢false, eq-eqb, Option, Some, None, if◌then◌else◌, append_assoc, append-nil}
use Rattle.std.specs.Prelude.{nat_lt, nat_le, slice_get}
use Rattle.std.specs.Str.{bytes_eq}
use Rattle.std.proofs.lemmas.Bool.{cases_Bool, and_from, le-leb, lt-ltb}
use Rattle.std.proofs.lemmas.List.{length-append}
use Rattle.std.proofs.lemmas.Slice.Eq.{bytes_eq-Decides}
use Rattle.thumb_instr.specs.declared.instr.Instr.{Instr}
use Rattle.thumb_model.specs.Listing.{Name, Mention, Value, Statement, Nothing, Instruction, Words, Aligns, Sets, ListingLine, Place, Op, Word, Label, places_in, places_of, labels_at, labels_from, code_of, has_label, is_call, is_call_instr, is_code, place_among, place_of, call_count}
use Rattle.thumb_model.specs.Layout.{size_at, end_of, is_among, label_address}
use Rattle.thumb_model.specs.Naming.{Naming, Fits, is_in_range, is_odd, points, points_of, returns_from, laid, word_by, ends_in_call, last_is_call, return_address}
use Rattle.thumb_model.specs.Steps.{label_place}
use Rattle.listing_parser.proofs.LabelLemmas.{label_at}
use Rattle.thumb_assembler.proofs.Cuts.{end_append, places_append}
use Rattle.listing_laws.specs.Fitting.{LiesApart, LaidNamingsFit}
use Rattle.listing_laws.proofs.Once.{either_part}
use Rattle.thumb_model.proofs.Moved.{count_append}
use Rattle.thumb_model.proofs.Returns.{laid_behind, no_words}
use Rattle.thumb_model.proofs.Shared.{words_length, op_within}
pub use Rattle.label_layout.proofs.Shared.{two_least as two_bytes}

-- ---- lines and their places ----

-- each place takes two bytes or more
statement_room : (s : Statement) (at : ℕ) → 2 * length (places_in s) ≤ size_at s at
statement_room (Instruction i mention) at = two_bytes i
statement_room (Words vs) at = let n = words_length vs in omega arith
statement_room Nothing at = omega arith
statement_room (Aligns size most) at = omega arith
statement_room (Sets name address) at = omega arith

room : (at : ℕ) (ls : List ListingLine) → at + 2 * length (places_of ls) ≤ end_of at ls
room at [] = omega arith
room at (l ∷ ls) =
    let here = statement_room l.statement at in
    let rest = room (at + size_at l.statement at) ls in
    let both = length-append (places_in l.statement) (places_of ls) in
    omega arith

-- the lines xs are a prefix of the lines zs
record IsWithin (xs zs : List ListingLine) : Type 0 where
  between : List ListingLine
  cut : zs ≡ xs ++ between

within_more : (x z : ListingLine) (xs zs : List ListingLine) → x ≡ z → IsWithin xs zs → IsWithin (x ∷ xs) (z ∷ zs)
within_more x z xs zs e h = record { between = h.between; cut = ap (λ (y : ListingLine). y ∷ zs) (sym e) ∙ ap (λ (ls : List ListingLine). x ∷ ls) h.cut }

two_cuts : (xs ys zs ws : List ListingLine) → xs ++ ys ≡ zs ++ ws → IsWithin xs zs ⊎ IsWithin zs xs
two_cuts [] ys zs ws e = inl (record { between = zs; cut = refl })
two_cuts (x ∷ xs) ys [] ws e = inr (record { between = x ∷ xs; cut = refl })
two_cuts (x ∷ xs) ys (z ∷ zs) ws e =
    let whole : x ∷ (xs ++ ys) ≡ z ∷ (zs ++ ws) = e in
    let first : x ≡ z = cc in
    let later : xs ++ ys ≡ zs ++ ws = cc in
    elim (two_cuts xs ys zs ws later) [
      | inl h ↦ inl (within_more x z xs zs first h)
      | inr h ↦ inr (within_more z x zs xs (sym first) h)
    ]

-- a later cut lies two bytes or more further on for each place between the two
cut_later : (base : ℕ) (xs zs : List ListingLine) → IsWithin xs zs → end_of base xs + 2 * (length (places_of zs) - length (places_of xs)) ≤ end_of base zs
cut_later base xs zs h =
    let more = room (end_of base xs) h.between in
    let ends : end_of base zs ≡ end_of (end_of base xs) h.between = ap (end_of base) h.cut ∙ end_append base xs h.between in
    let count : length (places_of zs) ≡ length (places_of xs) + length (places_of h.between) =
    ap (λ (ls : List ListingLine). length (places_of ls)) h.cut ∙ ap length (places_append xs h.between) ∙ length-append (places_of xs) (places_of h.between) in
    omega arith

within_count : (xs zs : List ListingLine) → IsWithin xs zs → length (places_of xs) ≤ length (places_of zs)
within_count xs zs h =
    let count : length (places_of zs) ≡ length (places_of xs) + length (places_of h.between) =
    ap (λ (ls : List ListingLine). length (places_of ls)) h.cut ∙ ap length (places_append xs h.between) ∙ length-append (places_of xs) (places_of h.between) in
    omega arith

-- ---- labels ----

-- whether a name has a label, where the labels of one line come first
has_at : (name : Name) (p : ℕ) (ns : List Name) (rest : List Label) → has_label name (labels_at p ns ++ rest) ≡ (if is_among name ns then true else has_label name rest)
has_at name p [] rest = refl
has_at name p (n ∷ ns) rest = elim (cases_Bool (bytes_eq name n)) [
  | inl h ↦ rw h refl
  | inr h ↦ rw h (has_at name p ns rest)
]

-- the lines before the one with the label, the address a after them and the number q of the label's place
record LabelCut (name : Name) (base p a q : ℕ) (all : List ListingLine) : Type 0 where
  before : List ListingLine
  after : List ListingLine
  cut : all ≡ before ++ after
  address : a ≡ end_of base before
  place : q ≡ p + length (places_of before)

-- a label's name also has an address, and address and place belong to the same cut
abbrev HasCut : (name : Name) (base p q : ℕ) (all : List ListingLine) → Type 0
HasCut name base p q all = (a : ℕ) × (label_address name base all ≡ Some a) × LabelCut name base p a q all

cut_later_on : (name : Name) (base p q : ℕ) (l : ListingLine) (ls : List ListingLine) → is_among name l.names ≡ false → HasCut name (base + size_at l.statement base) (p + length (places_in l.statement)) q ls → HasCut name base p q (l ∷ ls)
cut_later_on name base p q l ls t (a, address, c) =
    let size = length-append (places_in l.statement) (places_of c.before) in
    let place = c.place in (
      a,
      rw t address,
      record {
        before = l ∷ c.before;
        after = c.after;
        cut = ap (λ (x : List ListingLine). l ∷ x) c.cut;
        address = c.address;
        place = omega arith;
      },
    )

label_cut : (name : Name) (base p q : ℕ) (all : List ListingLine) → label_place name (labels_from p all) ≡ Some q → HasCut name base p q all
label_cut name base p q [] e = absurd (let bad : None ≡ Some q = e in cc)
label_cut name base p q (l ∷ ls) e = elim (cases_Bool (is_among name l.names)) [
  | inl t ↦
      let same : Some p ≡ Some q = sym (label_at name p l.names _ ∙ rw t refl) ∙ e in
      let is : p ≡ q = cc in
      (base, rw t refl, record { before = []; after = l ∷ ls; cut = refl; address = refl; place = let h : q ≡ p + 0 = omega arith in h })
  | inr t ↦
      let later : label_place name (labels_from (p + length (places_in l.statement)) ls) ≡ Some q = sym (label_at name p l.names _ ∙ rw t refl) ∙ e in
      cut_later_on name base p q l ls t (label_cut name (base + size_at l.statement base) (p + length (places_in l.statement)) q ls later)
]

pub no_address : (name : Name) (base p : ℕ) (all : List ListingLine) → has_label name (labels_from p all) ≡ false → label_address name base all ≡ None
no_address name base p [] e = refl
no_address name base p (l ∷ ls) e = elim (cases_Bool (is_among name l.names)) [
  | inl t ↦ absurd (true≢false (sym (has_at name p l.names _ ∙ rw t refl) ∙ e))
  | inr t ↦ rw t (no_address name (base + size_at l.statement base) (p + length (places_in l.statement)) ls (sym (has_at name p l.names _ ∙ rw t refl) ∙ e))
]

address_low : (name : Name) (base a : ℕ) (all : List ListingLine) → label_address name base all ≡ Some a → a ≤ end_of base all
address_low name base a [] e = absurd (let bad : None ≡ Some a = e in cc)
address_low name base a (l ∷ ls) e = elim (cases_Bool (is_among name l.names)) [
  | inl t ↦
      let same : Some base ≡ Some a = rw t at e in
      let is : base ≡ a = cc in
      let more = room base (l ∷ ls) in
      omega arith
  | inr t ↦ address_low name (base + size_at l.statement base) a ls (rw t at e)
]

return_low : (k at : ℕ) (ls : List ListingLine) → (return_address k at ls ≡ 0) ⊎ (return_address k at ls ≤ end_of at ls)
return_low k at [] = inl refl
return_low zero at (l ∷ ls) = elim (cases_Bool (ends_in_call l.statement)) [
  | inl t ↦ rw t (inr (let more = room (at + size_at l.statement at) ls in omega arith))
  | inr t ↦ rw t (return_low zero (at + size_at l.statement at) ls)
]
return_low (suc k) at (l ∷ ls) = elim (cases_Bool (ends_in_call l.statement)) [
  | inl t ↦ rw t (return_low k (at + size_at l.statement at) ls)
  | inr t ↦ rw t (return_low (suc k) (at + size_at l.statement at) ls)
]

-- a name with a code label has the place of one
code_label : (name : Name) (places : List Place) (ls : List Label) (k : ℕ) (l : Label) → slice_get ls k ≡ Some l → bytes_eq name l.name ≡ true → is_code places l ≡ true → (p : ℕ) × (place_among name places ls ≡ Some p)
code_label name places [] k l e n c = absurd (let bad : None ≡ Some l = e in cc)
code_label name places (m ∷ ls) zero l e n c =
    let same : Some m ≡ Some l = e in
    let is : m ≡ l = cc in
    (m.place, rw (and_from (bytes_eq name m.name) (is_code places m) (ap (λ (x : Label). bytes_eq name x.name) is ∙ n) (ap (is_code places) is ∙ c)) refl)
code_label name places (m ∷ ls) (suc k) l e n c =
    let rest = code_label name places ls k l e n c in
    elim (cases_Bool (bytes_eq name m.name && is_code places m)) [
      | inl t ↦ (m.place, rw t refl)
      | inr t ↦ (rest.0, rw t rest.1)
    ]

-- ---- code points ----

-- a code point that a code label gives: its word and its place
record IsOfLabel (names : Naming) (places : List Place) (ls : List Label) (w p : ℕ) : Type 0 where
  number : ℕ
  label : Label
  at : slice_get ls number ≡ Some label
  code : is_code places label ≡ true
  word : w ≡ names.word_of label.name
  place : p ≡ label.place

further_label : (names : Naming) (places : List Place) (m : Label) (ls : List Label) (w p : ℕ) → IsOfLabel names places ls w p → IsOfLabel names places (m ∷ ls) w p
further_label names places m ls w p h = record { number = suc h.number; label = h.label; at = h.at; code = h.code; word = h.word; place = h.place }

first_label : (names : Naming) (places : List Place) (m : Label) (ls : List Label) (w p : ℕ) → is_code places m ≡ true → ((k : ℕ) → slice_get (points_of names places ls) k ≡ Some (w, p) → IsOfLabel names places ls w p)
    → (k : ℕ) → slice_get ((names.word_of m.name, m.place) ∷ points_of names places ls) k ≡ Some (w, p) → IsOfLabel names places (m ∷ ls) w p
first_label names places m ls w p t rest zero e =
    let same : ◌≡◌ {A = ℕ × ℕ} (names.word_of m.name, m.place) (w, p) = cc in
    record { number = 0; label = m; at = refl; code = t; word = sym (ap (λ (x : ℕ × ℕ). x.0) same); place = sym (ap (λ (x : ℕ × ℕ). x.1) same) }
first_label names places m ls w p t rest (suc k) e = further_label names places m ls w p (rest k e)

of_labels : (names : Naming) (places : List Place) (ls : List Label) (k w p : ℕ) → slice_get (points_of names places ls) k ≡ Some (w, p) → IsOfLabel names places ls w p
of_labels names places [] k w p e = absurd (let bad : None ≡ Some (w, p) = e in cc)
of_labels names places (m ∷ ls) k w p e = elim (cases_Bool (is_code places m)) [
  | inl t ↦ first_label names places m ls w p t (λ n f. of_labels names places ls n w p f) k (rw t at e)
  | inr t ↦ further_label names places m ls w p (of_labels names places ls k w p (rw t at e))
]

last_call : (xs : List Place) (x : Place) → is_call x ≡ true → last_is_call (xs ++ x ∷ []) ≡ true
last_call [] x h = h
last_call (y ∷ []) x h = h
last_call (y ∷ (z ∷ xs)) x h = last_call (z ∷ xs) x h

no_returns : (names : Naming) (k p : ℕ) (vs : List Value) (ps : List Place) → returns_from names k p (map Word vs ++ ps) ≡ returns_from names k (p + length vs) ps
no_returns names k p [] ps = ap (λ (n : ℕ). returns_from names k n ps) (let h : p ≡ p + 0 = omega arith in h)
no_returns names k p (v ∷ vs) ps = no_returns names k (p + 1) vs ps ∙ ap (λ (n : ℕ). returns_from names k n ps) (let h : p + 1 + length vs ≡ p + suc (length vs) = omega arith in h)

word_small : (o c : Option ℕ) (s : ℕ) → s < 2 ^ 32 → ((a : ℕ) → o ≡ Some a → a + 2 < 2 ^ 32) → word_by s o c < 2 ^ 32
word_small None c s h f = h
word_small (Some a) None s h f = let low = f a refl in omega arith
word_small (Some a) (Some p) s h f = let low = f a refl in omega arith

module _ (base : ℕ) (set : Name → ℕ) (all : List ListingLine) (is : LiesApart base set all) where
  abbrev names : Naming
  names = laid base set all

  high_past : end_of base all ≤ names.high
  high_past = by _ where
    by : (b : Bool) → end_of base all ≤ (if b then end_of base all + 2 else end_of base all)
    by true = omega arith
    by false = omega arith

  high_even : names.high % 2 ≡ 0
  high_even = by _ (is.even all [] (sym (append-nil all))) where
    by : (b : Bool) → end_of base all % 2 ≡ 0 → (if b then end_of base all + 2 else end_of base all) % 2 ≡ 0
    by true h = omega arith
    by false h = h

  -- a cut of the lines: the word w is its address plus 1, and p places come before it
  record IsCut (w p : ℕ) : Type 0 where
    before : List ListingLine
    after : List ListingLine
    cut : all ≡ before ++ after
    word : w ≡ end_of base before + 1
    place : p ≡ length (places_of before)
    inside : end_of base before + 2 ≤ names.high

  -- each place after a cut takes two bytes or more
  behind : (before after : List ListingLine) → all ≡ before ++ after → end_of base before + 2 * length (places_of after) ≤ end_of base all
  behind before after cut =
      let more = room (end_of base before) after in
      let ends : end_of base all ≡ end_of (end_of base before) after = ap (end_of base) cut ∙ end_append base before after in
      omega arith

  -- ---- code points of labels ----

  of_label : (w p : ℕ) → IsOfLabel names (places_of all) (labels_from 0 all) w p → IsCut w p
  of_label w p h =
      let name = h.label.name in
      let c = label_cut name base 0 h.label.place all (is.once h.number h.label h.at) in
      let own : bytes_eq name name ≡ true = (bytes_eq-Decides name name).1 refl in
      let code = code_label name (places_of all) (labels_from 0 all) h.number h.label h.at own h.code in
      let word : names.word_of name ≡ c.0 + 1 = ap (λ (o : Option ℕ). word_by (set name) o (place_of (code_of all) name)) c.1 ∙ ap (word_by (set name) (Some c.0)) code.1 in
      let within = op_within (places_of all) h.label.place h.code in
      let rest = behind c.2.before c.2.after c.2.cut in
      let count : length (places_of all) ≡ length (places_of c.2.before) + length (places_of c.2.after) =
      ap (λ (ls : List ListingLine). length (places_of ls)) c.2.cut ∙ ap length (places_append c.2.before c.2.after) ∙ length-append (places_of c.2.before) (places_of c.2.after) in
      let address = c.2.address in
      let place = c.2.place in
      let past = high_past in
      record {
        before = c.2.before;
        after = c.2.after;
        cut = c.2.cut;
        word = omega (arith, h.word);
        place = omega (arith, h.place);
        inside = omega arith;
      }

  -- ---- code points of calls, to which they return ----

  next_calls : (before : List ListingLine) (l : ListingLine) → call_count (places_of (before ++ l ∷ [])) ≡ call_count (places_of before) + call_count (places_in l.statement)
  next_calls before l =
      let a = ap call_count (places_append before (l ∷ [])) in
      let b = count_append (places_of before) (places_in l.statement ++ []) in
      let c = count_append (places_in l.statement) [] in
      omega arith

  next_places : (before : List ListingLine) (l : ListingLine) → length (places_of (before ++ l ∷ [])) ≡ length (places_of before) + length (places_in l.statement)
  next_places before l =
      let a = ap length (places_append before (l ∷ [])) in
      let b = length-append (places_of before) (places_in l.statement ++ []) in
      let c = length-append (places_in l.statement) [] in
      omega arith

  -- after a call the range goes on for two bytes or more
  call_inside : (before after : List ListingLine) (l : ListingLine) (i : Instr) (mention : Option Mention) → all ≡ before ++ l ∷ after → l.statement ≡ Instruction i mention → is_call_instr i ≡ true → end_of base (before ++ l ∷ []) + 2 ≤ names.high
  call_inside before after l i mention cut t h = by (places_of after) refl where
    next : all ≡ (before ++ l ∷ []) ++ after
    next = cut ∙ sym (append_assoc before (l ∷ []) after)

    by : (ps : List Place) → places_of after ≡ ps → end_of base (before ++ l ∷ []) + 2 ≤ names.high
    by [] none =
        let places : places_of all ≡ places_of before ++ Op i mention ∷ [] =
        ap places_of cut ∙ places_append before (l ∷ after) ∙ ap (λ (s : Statement). places_of before ++ (places_in s ++ places_of after)) t ∙ ap (λ (ps : List Place). places_of before ++ Op i mention ∷ ps) none in
        let last : last_is_call (places_of all) ≡ true = ap last_is_call places ∙ last_call (places_of before) (Op i mention) h in
        let high : names.high ≡ end_of base all + 2 = ap (λ (b : Bool). if b then end_of base all + 2 else end_of base all) last in
        let rest = behind (before ++ l ∷ []) after next in
        omega arith
    by (x ∷ xs) some =
        let rest = behind (before ++ l ∷ []) after next in
        let count = ap length some in
        let past = high_past in
        omega arith

  -- each return point of the lines after a cut is a cut
  abbrev AreReturns : List ListingLine → List ListingLine → Type 0
  AreReturns before ls = (k p : ℕ) → k ≡ call_count (places_of before) → p ≡ length (places_of before) → (j w q : ℕ) → slice_get (returns_from names k p (places_of ls)) j ≡ Some (w, q) → IsCut w q

  returns_next : (before ls : List ListingLine) (l : ListingLine) → all ≡ before ++ l ∷ ls → all ≡ (before ++ l ∷ []) ++ ls → AreReturns (before ++ l ∷ []) ls → AreReturns before (l ∷ ls)
  returns_next before ls l cut next rest k p c n j w q e = by l.statement refl e where
    -- how many calls and places come before the next line
    calls : (m : ℕ) → m ≡ k + call_count (places_in l.statement) → m ≡ call_count (places_of (before ++ l ∷ []))
    calls m h = let more = next_calls before l in omega arith

    places : (m : ℕ) → m ≡ p + length (places_in l.statement) → m ≡ length (places_of (before ++ l ∷ []))
    places m h = let more = next_places before l in omega arith

    here : (i : Instr) (mention : Option Mention) → l.statement ≡ Instruction i mention → is_call_instr i ≡ true → (j : ℕ) → slice_get ((names.return_word k, p + 1) ∷ returns_from names (k + 1) (p + 1) (places_of ls)) j ≡ Some (w, q) → IsCut w q
    here i mention t h zero e =
        let same : ◌≡◌ {A = ℕ × ℕ} (names.return_word k, p + 1) (w, q) = cc in
        let first : names.return_word k ≡ w = ap (λ (x : ℕ × ℕ). x.0) same in
        let second : p + 1 ≡ q = ap (λ (x : ℕ × ℕ). x.1) same in
        let one : length (places_in l.statement) ≡ 1 = ap (λ (s : Statement). length (places_in s)) t in
        let behind_it : names.return_word k ≡ end_of base (before ++ l ∷ []) + 1 = laid_behind base set all k before l ls (record { cut = cut; calls = ap ends_in_call t ∙ h; number = c }) in
        let more = next_places before l in
        record {
          before = before ++ l ∷ [];
          after = ls;
          cut = next;
          word = sym first ∙ behind_it;
          place = omega arith;
          inside = call_inside before ls l i mention cut t h;
        }
    here i mention t h (suc j) e =
        let one : length (places_in l.statement) ≡ 1 = ap (λ (s : Statement). length (places_in s)) t in
        let call : call_count (places_in l.statement) ≡ 1 = ap (λ (s : Statement). call_count (places_in s)) t ∙ rw h refl in
        rest (k + 1) (p + 1) (calls (k + 1) (omega arith)) (places (p + 1) (omega arith)) j w q e

    by : (s : Statement) → l.statement ≡ s → slice_get (returns_from names k p (places_in s ++ places_of ls)) j ≡ Some (w, q) → IsCut w q
    by (Instruction i mention) t e = elim (cases_Bool (is_call_instr i)) [
      | inl h ↦ here i mention t h j (rw h at e)
      | inr h ↦
          let one : length (places_in l.statement) ≡ 1 = ap (λ (s : Statement). length (places_in s)) t in
          let call : call_count (places_in l.statement) ≡ 0 = ap (λ (s : Statement). call_count (places_in s)) t ∙ rw h refl in
          rest k (p + 1) (calls k (omega arith)) (places (p + 1) (omega arith)) j w q (rw h at e)
    ]
    by (Words vs) t e =
        let some : length (places_in l.statement) ≡ length vs = ap (λ (s : Statement). length (places_in s)) t ∙ words_length vs in
        let call : call_count (places_in l.statement) ≡ 0 = ap (λ (s : Statement). call_count (places_in s)) t ∙ no_words vs in
        rest k (p + length vs) (calls k (omega arith)) (places (p + length vs) (omega arith)) j w q (ap (λ (xs : List (ℕ × ℕ)). slice_get xs j) (sym (no_returns names k p vs (places_of ls))) ∙ e)
    by s t e =
        let none : length (places_in l.statement) ≡ 0 = ap (λ (s : Statement). length (places_in s)) t in
        let call : call_count (places_in l.statement) ≡ 0 = ap (λ (s : Statement). call_count (places_in s)) t in
        rest k p (calls k (omega arith)) (places p (omega arith)) j w q e

  of_returns : (before ls : List ListingLine) → all ≡ before ++ ls → AreReturns before ls
  of_returns before [] cut = λ k p c n j w q e. absurd (let bad : None ≡ Some (w, q) = e in cc)
  of_returns before (l ∷ ls) cut =
      let next : all ≡ (before ++ l ∷ []) ++ ls = cut ∙ sym (append_assoc before (l ∷ []) ls) in
      returns_next before ls l cut next (of_returns (before ++ l ∷ []) ls next)

  -- ---- all together ----

  point : (k w p : ℕ) → slice_get (points names (code_of all)) k ≡ Some (w, p) → IsCut w p
  point k w p e = elim (either_part (points_of names (places_of all) (labels_from 0 all)) (returns_from names 0 0 (places_of all)) k (w, p) e) [
    | inl a ↦ of_label w p (of_labels names (places_of all) (labels_from 0 all) k w p a)
    | inr a ↦ of_returns [] all refl 0 0 refl refl a.0 w p a.1
  ]

  in_range : (w p : ℕ) → IsCut w p → (is_odd w && is_in_range names w) ≡ true
  in_range w p h =
      let even = is.even h.before h.after h.cut in
      let odd : (w % 2 == 1) ≡ true = eq-eqb (w % 2) 1 (omega (arith, h.word)) in
      let past = room base h.before in
      let above : nat_le base w ≡ true = le-leb base w (omega (arith, h.word)) in
      let inside = h.inside in
      let below : nat_lt w names.high ≡ true = lt-ltb w names.high (omega (arith, h.word)) in
      and_from (w % 2 == 1) (nat_le base w && nat_lt w names.high) odd (and_from (nat_le base w) (nat_lt w names.high) above below)

  one_place : (v w p q : ℕ) → IsCut v p → IsCut w q → v ≡ w → p ≡ q
  one_place v w p q g h same = elim (two_cuts g.before g.after h.before h.after (sym g.cut ∙ h.cut)) [
    | inl a ↦ let later = cut_later base g.before h.before a in let count = within_count g.before h.before a in omega (arith, g.word, h.word, g.place, h.place)
    | inr a ↦ let later = cut_later base h.before g.before a in let count = within_count h.before g.before a in omega (arith, g.word, h.word, g.place, h.place)
  ]

  pub fits : Fits names (code_of all)
  fits = record {
    words = λ n. word_small (label_address n base all) (place_of (code_of all) n) (set n) (is.words n) (λ a e. let low = address_low n base a all e in let end = is.low in omega arith);
    return_words = λ k. (let end = is.low in elim (return_low k base all) [ inl e ↦ omega arith | inr l ↦ omega arith ]);
    low_even = is.even [] all refl;
    high_even = high_even;
    are_code = λ k w p e. in_range w p (point k w p e);
    distinct = λ j k v w p q e f ne same. ne (one_place v w p q (point j v p e) (point k w q f) same);
    outside = λ n m u. ap (is_in_range names) (ap (λ (o : Option ℕ). word_by (set n) o (place_of (code_of all) n)) (no_address n base 0 all u)) ∙ is.outside n m u;
  }

pub laid_namings_fit : LaidNamingsFit
laid_namings_fit base set lines is = fits base set lines is
