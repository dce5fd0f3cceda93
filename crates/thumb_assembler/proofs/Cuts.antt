-- Lines cut in two parts: places, addresses and bytes of the second part follow those of the first.
use Rattle.std.proofs.Common.{◌≡◌, ◌∙◌, ◌⊎◌, inl, inr, ℕ, zero, suc, ◌+◌, ◌*◌, ◌/◌, ◌%◌, true, List, [], ◌∷◌, ◌++◌, length, take, refl, sym, ap, subst, arith, true≢false, Option, Some, None, append_assoc, append-nil, length-append}
use Rattle.std.specs.Prelude.{slice_get, slice_index}
use Rattle.std.proofs.lemmas.Bool.{cases_Bool, and_from, and_parts, or_right}
use Rattle.thumb_instr.specs.declared.instr.Instr.{Instr}
use Rattle.thumb_instr.specs.declared.instr.Instr.TheVariants as instr
use Rattle.thumb_model.specs.Listing.{Name, Mention, Value, Statement, Nothing, Instruction, Words, Aligns, Sets, ListingLine, Place, places_in, places_of, labels_from}
use Rattle.thumb_model.specs.Layout.{instr_size, padding, size_at, end_of, is_among, label_address}
use Rattle.thumb_model.specs.Steps.{label_place}
use Rattle.thumb_assembler.specs.Bytes.{Laid, words_bytes, IsInstrBytes, IsEncoded, IsStatementBytes, AreLineBytes, half_bytes}
use Rattle.thumb_model.proofs.Lists.{get_back}
use Rattle.listing_parser.specs.Targets.{defined_in, set_names, from_label}
use Rattle.listing_parser.proofs.FirstTwice.{first_twice, is_again}
use Rattle.listing_parser.proofs.LabelLemmas.{label_at, not_again, again_front, among_append, among_front}
use Rattle.label_layout.specs.Addresses.{addresses_in, addresses_from}
use Rattle.label_layout.proofs.Sums.{places_counted}
use Rattle.thumb_assembler.specs.Fair.{is_fair, are_fair}
use Rattle.thumb_assembler.proofs.Codes.{nops_length}
use Rattle.thumb_assembler.proofs.Places.{size_even, padding_even}
use Rattle.thumb_assembler.proofs.Pushed.{aims_size}

-- ---- sums ----

pub end_append : (a : ℕ) (xs ys : List ListingLine) → end_of a (xs ++ ys) ≡ end_of (end_of a xs) ys
end_append a [] ys = refl
end_append a (x ∷ xs) ys = end_append (a + size_at x.statement a) xs ys

pub places_append : (xs ys : List ListingLine) → places_of (xs ++ ys) ≡ places_of xs ++ places_of ys
places_append [] ys = refl
places_append (x ∷ xs) ys = ap (λ (ps : List Place). places_in x.statement ++ ps) (places_append xs ys) ∙ sym (append_assoc (places_in x.statement) (places_of xs) (places_of ys))

addresses_append : (a : ℕ) (xs ys : List ListingLine) → addresses_from a (xs ++ ys) ≡ addresses_from a xs ++ addresses_from (end_of a xs) ys
addresses_append a [] ys = refl
addresses_append a (x ∷ xs) ys =
    ap (λ (ps : List ℕ). addresses_in a x.statement ++ ps) (addresses_append (a + size_at x.statement a) xs ys)
    ∙ sym (append_assoc (addresses_in a x.statement) (addresses_from (a + size_at x.statement a) xs) (addresses_from (end_of (a + size_at x.statement a) xs) ys))

-- the lines up to and including the next one
pub next_end : (a : ℕ) (xs : List ListingLine) (l : ListingLine) → end_of a (xs ++ l ∷ []) ≡ end_of a xs + size_at l.statement (end_of a xs)
next_end a xs l = end_append a xs (l ∷ [])

pub next_places : (xs : List ListingLine) (l : ListingLine) → length (places_of (xs ++ l ∷ [])) ≡ length (places_of xs) + length (places_in l.statement)
next_places xs l =
    ap length (places_append xs (l ∷ [])) ∙ length-append (places_of xs) (places_in l.statement ++ [])
    ∙ ap (λ (n : ℕ). length (places_of xs) + n) (ap length (append-nil (places_in l.statement)))

pub next_cut : (all before after : List ListingLine) (l : ListingLine) → all ≡ before ++ l ∷ after → all ≡ (before ++ l ∷ []) ++ after
next_cut all before after l e = e ∙ sym (append_assoc before (l ∷ []) after)

-- the places of the second part follow those of the first
pub place_behind : (before after : List ListingLine) (n : ℕ) → slice_get (places_of (before ++ after)) (length (places_of before) + n) ≡ slice_get (places_of after) n
place_behind before after n = ap (λ (ps : List Place). slice_get ps (length (places_of before) + n)) (places_append before after) ∙ get_back (places_of before) (places_of after) n (length (places_of before) + n) refl

pub first_behind : (before after : List ListingLine) → slice_get (places_of (before ++ after)) (length (places_of before)) ≡ slice_get (places_of after) 0
first_behind before after = ap (slice_get (places_of (before ++ after))) (let e : length (places_of before) ≡ length (places_of before) + 0 = omega arith in e) ∙ place_behind before after 0

-- the address of the second part's first place
pub address_behind : (a : ℕ) (before after : List ListingLine) → slice_get (addresses_from a (before ++ after)) (length (places_of before)) ≡ slice_get (addresses_from (end_of a before) after) 0
address_behind a before after =
    ap (λ (ps : List ℕ). slice_get ps (length (places_of before))) (addresses_append a before after)
    ∙ get_back (addresses_from a before) (addresses_from (end_of a before) after) 0 (length (places_of before)) (let e = places_counted a before in omega arith)

take_front : (xs ys : List Place) → take (length xs) (xs ++ ys) ≡ xs
take_front [] ys = refl
take_front (x ∷ xs) ys = ap (λ (ps : List Place). x ∷ ps) (take_front xs ys)

pub places_taken : (before after : List ListingLine) → take (length (places_of before)) (places_of (before ++ after)) ≡ places_of before
places_taken before after = ap (take (length (places_of before))) (places_append before after) ∙ take_front (places_of before) (places_of after)

-- ---- lines stay fair ----

pub fair_front : (all xs ys : List ListingLine) → are_fair all (xs ++ ys) ≡ true → are_fair all xs ≡ true
fair_front all [] ys e = refl
fair_front all (x ∷ xs) ys e =
    let a = and_parts (is_fair all x.statement) (are_fair all (xs ++ ys)) e in
    and_from (is_fair all x.statement) (are_fair all xs) a.0 (fair_front all xs ys a.1)

pub fair_back : (all xs ys : List ListingLine) → are_fair all (xs ++ ys) ≡ true → are_fair all ys ≡ true
fair_back all [] ys e = e
fair_back all (x ∷ xs) ys e = fair_back all xs ys (and_parts (is_fair all x.statement) (are_fair all (xs ++ ys)) e).1

pub end_even : (all : List ListingLine) (a : ℕ) (xs : List ListingLine) → are_fair all xs ≡ true → a % 2 ≡ 0 → end_of a xs % 2 ≡ 0
end_even all a [] f h = h
end_even all a (x ∷ xs) f h =
    let both = and_parts (is_fair all x.statement) (are_fair all xs) f in
    let size = size_even all x.statement a both.0 h in
    end_even all (a + size_at x.statement a) xs both.1 (omega arith)

-- ---- bytes ----

pub record Split (l : Laid) (at : ℕ) (xs ys : List ListingLine) (bytes : List ℕ) : Type 0 where
  pub front : List ℕ
  pub back : List ℕ
  pub is : bytes ≡ front ++ back
  pub first : AreLineBytes l at xs front
  pub second : AreLineBytes l (end_of at xs) ys back

pub split : (l : Laid) (at : ℕ) (xs ys : List ListingLine) (bytes : List ℕ) → AreLineBytes l at (xs ++ ys) bytes → Split l at xs ys bytes
split l at [] ys bytes h = record { front = []; back = bytes; is = refl; first = refl; second = h }
split l at (x ∷ xs) ys bytes h =
    let s = split l (at + size_at x.statement at) xs ys h.1 h.4 in
    record {
      front = h.0 ++ s.front;
      back = s.back;
      is = h.2 ∙ ap (λ (b : List ℕ). h.0 ++ b) s.is ∙ sym (append_assoc h.0 s.front s.back);
      first = (h.0, s.front, refl, h.3, s.first);
      second = s.second;
    }

pub two_or_four : (i : Instr) → (instr_size i ≡ 2) ⊎ (instr_size i ≡ 4)
two_or_four (instr.Call d) = inr refl
two_or_four (instr.Barrier b) = inr refl
two_or_four (instr.ReadSpecial d s) = inr refl
two_or_four (instr.WriteMask m) = inr refl
two_or_four i = inl refl

four_long : (size first second : ℕ) → (size ≡ 2) ⊎ (size ≡ 4) → length (take size (half_bytes first ++ half_bytes second)) ≡ size
four_long size first second (inl e) = subst (λ (n : ℕ). length (take n (half_bytes first ++ half_bytes second)) ≡ n) (sym e) refl
four_long size first second (inr e) = subst (λ (n : ℕ). length (take n (half_bytes first ++ half_bytes second)) ≡ n) (sym e) refl

instr_long : (i : Instr) (bytes : List ℕ) → IsInstrBytes i bytes → length bytes ≡ instr_size i
instr_long i bytes h = ap length h.5 ∙ four_long (instr_size i) h.0 h.1 (two_or_four i)

encoded_long : (l : Laid) (at : ℕ) (i : Instr) (mention : Option Mention) (bytes : List ℕ) → IsEncoded l at i mention bytes → length bytes ≡ instr_size i
encoded_long l at i None bytes h = instr_long i bytes h
encoded_long l at i (Some m) bytes h = instr_long h.0 bytes h.2 ∙ aims_size at _ i h.0 h.1

words_long : (l : Laid) (vs : List Value) → length (words_bytes l.names vs) ≡ 4 * length vs
words_long l [] = refl
words_long l (v ∷ vs) = let h = words_long l vs in omega arith

statement_long : (all : List ListingLine) (l : Laid) (at : ℕ) (s : Statement) (bytes : List ℕ) → is_fair all s ≡ true → at % 2 ≡ 0 → IsStatementBytes l at s bytes → length bytes ≡ size_at s at
statement_long all l at Nothing bytes f h b = ap length b
statement_long all l at (Instruction i mention) bytes f h b = encoded_long l at i mention bytes b
statement_long all l at (Words vs) bytes f h b = ap length b ∙ words_long l vs
statement_long all l at (Aligns size most) bytes f h b =
    let even = padding_even size most at f h in
    ap length b ∙ nops_length (padding size most at / 2) (padding size most at) (omega arith)
statement_long all l at (Sets name address) bytes f h b = ap length b

pub lines_long : (all : List ListingLine) (l : Laid) (at : ℕ) (ls : List ListingLine) (bytes : List ℕ) → are_fair all ls ≡ true → at % 2 ≡ 0 → AreLineBytes l at ls bytes → at + length bytes ≡ end_of at ls
lines_long all l at [] bytes f h b = let none = ap length b in omega arith
lines_long all l at (x ∷ xs) bytes f h b =
    let both = and_parts (is_fair all x.statement) (are_fair all xs) f in
    let even = size_even all x.statement at both.0 h in
    let here = statement_long all l at x.statement b.0 both.0 h b.3 in
    let rest = lines_long all l (at + size_at x.statement at) xs b.1 both.1 (omega arith) b.4 in
    let sum = ap length b.2 ∙ length-append b.0 b.1 in
    omega arith

pub index_back : (xs ys : List ℕ) (i j : ℕ) → j ≡ length xs + i → slice_index (xs ++ ys) j ≡ slice_index ys i
index_back [] ys i j e = ap (slice_index ys) (let h : j ≡ i = omega arith in h)
index_back (x ∷ xs) ys i zero e = absurd (omega arith)
index_back (x ∷ xs) ys i (suc j) e = index_back xs ys i j (omega arith)

-- ---- labels as cuts ----

-- the lines before the first one that has the label, and those from it on
pub record LabelCut (name : Name) (base a : ℕ) (all : List ListingLine) : Type 0 where
  pub before : List ListingLine
  pub after : List ListingLine
  pub cut : all ≡ before ++ after
  pub address : a ≡ end_of base before
  pub from : from_label name all ≡ after
  pub place : (p : ℕ) → label_place name (labels_from p all) ≡ Some (p + length (places_of before))

pub label_cut : (name : Name) (base a : ℕ) (all : List ListingLine) → label_address name base all ≡ Some a → LabelCut name base a all
label_cut name base a [] e = absurd (let bad : None ≡ Some a = e in cc)
label_cut name base a (l ∷ ls) e = elim (cases_Bool (is_among name l.names)) [
  | inl t ↦
      let same : Some base ≡ Some a = rw t at e in
      let is : base ≡ a = cc in
      record {
        before = [];
        after = l ∷ ls;
        cut = refl;
        address = sym is;
        from = rw t refl;
        place = λ p. label_at name p l.names _ ∙ rw t (ap (λ (n : ℕ). Some n) (let h : p ≡ p + 0 = omega arith in h));
      }
  | inr t ↦
      let c = label_cut name (base + size_at l.statement base) a ls (rw t at e) in
      record {
        before = l ∷ c.before;
        after = c.after;
        cut = ap (λ (x : List ListingLine). l ∷ x) c.cut;
        address = c.address;
        from = rw t c.from;
        place = λ p. label_at name p l.names _ ∙ rw t (c.place (p + length (places_in l.statement)) ∙ ap (λ (n : ℕ). Some n)
            (let size = length-append (places_in l.statement) (places_of c.before) in let h : p + length (places_in l.statement) + length (places_of c.before) ≡ p + length (places_in l.statement ++ places_of c.before) = omega arith in h));
      }
]

pub no_label : (name : Name) (base p : ℕ) (all : List ListingLine) → label_address name base all ≡ None → label_place name (labels_from p all) ≡ None
no_label name base p [] e = refl
no_label name base p (l ∷ ls) e = elim (cases_Bool (is_among name l.names)) [
  | inl t ↦ absurd (let bad : Some base ≡ None = rw t at e in cc)
  | inr t ↦ label_at name p l.names _ ∙ rw t (no_label name (base + size_at l.statement base) (p + length (places_in l.statement)) ls (rw t at e))
]

-- ---- the label of a line is on no line before it ----

known_label : (name : Name) (n : ℕ) (known : List Name) (before after : List ListingLine) (l : ListingLine) → first_twice n known (before ++ l ∷ after) ≡ None → is_among name known ≡ true → is_among name l.names ≡ true → ⊥
known_label name n known [] after l e k t = elim (cases_Bool (is_again known (defined_in l))) [
  | inl h ↦ (let bad : Some n ≡ None = rw h at e in cc)
  | inr h ↦ true≢false (sym t ∙ not_again name known l.names (again_front known l.names (set_names l.statement) h) k)
]
known_label name n known (b ∷ bs) after l e k t = elim (cases_Bool (is_again known (defined_in b))) [
  | inl h ↦ (let bad : Some n ≡ None = rw h at e in cc)
  | inr h ↦ known_label name (n + 1) (known ++ defined_in b) bs after l (rw h at e) (among_front name known (defined_in b) k) t
]

-- the label of a line has the line's address
pub first_label : (name : Name) (n base : ℕ) (known : List Name) (before after : List ListingLine) (l : ListingLine) → first_twice n known (before ++ l ∷ after) ≡ None → is_among name l.names ≡ true → label_address name base (before ++ l ∷ after) ≡ Some (end_of base before)
first_label name n base known [] after l e t = rw t refl
first_label name n base known (b ∷ bs) after l e t = elim (cases_Bool (is_again known (defined_in b))) [
  | inl h ↦ absurd (let bad : Some n ≡ None = rw h at e in cc)
  | inr h ↦ elim (cases_Bool (is_among name b.names)) [
    | inl k ↦ absurd (known_label name (n + 1) (known ++ defined_in b) bs after l (rw h at e) (among_append name known (defined_in b) ∙ or_right (is_among name known) (is_among name (defined_in b)) (among_front name b.names (set_names b.statement) k)) t)
    | inr k ↦ rw k (first_label name (n + 1) (base + size_at b.statement base) (known ++ defined_in b) bs after l (rw h at e) t)
  ]
]

-- and the place that comes after those of the lines before it
pub first_place : (name : Name) (n p : ℕ) (known : List Name) (before after : List ListingLine) (l : ListingLine) → first_twice n known (before ++ l ∷ after) ≡ None → is_among name l.names ≡ true
    → label_place name (labels_from p (before ++ l ∷ after)) ≡ Some (p + length (places_of before))
first_place name n p known [] after l e t = label_at name p l.names _ ∙ rw t (ap (λ (k : ℕ). Some k) (let h : p ≡ p + 0 = omega arith in h))
first_place name n p known (b ∷ bs) after l e t = elim (cases_Bool (is_again known (defined_in b))) [
  | inl h ↦ absurd (let bad : Some n ≡ None = rw h at e in cc)
  | inr h ↦ elim (cases_Bool (is_among name b.names)) [
    | inl k ↦ absurd (known_label name (n + 1) (known ++ defined_in b) bs after l (rw h at e) (among_append name known (defined_in b) ∙ or_right (is_among name known) (is_among name (defined_in b)) (among_front name b.names (set_names b.statement) k)) t)
    | inr k ↦
        label_at name p b.names _ ∙ rw k (first_place name (n + 1) (p + length (places_in b.statement)) (known ++ defined_in b) bs after l (rw h at e) t
        ∙ ap (λ (m : ℕ). Some m) (let size = length-append (places_in b.statement) (places_of bs) in let h : p + length (places_in b.statement) + length (places_of bs) ≡ p + length (places_in b.statement ++ places_of bs) = omega arith in h))
  ]
]
