-- Half-words before places: lines take at least so many bytes, and a branch to a label that lies further away doesn't reach it.
use Rattle.std.proofs.Common.{◌≡◌, ◌∙◌, ◌⊎◌, inl, inr, ℕ, zero, suc, ◌+◌, ◌*◌, ◌<◌, ◌≤◌, ◌&&◌, true, false, List, [], ◌∷◌, ◌++◌, length, drop, map, append_assoc, Option, Some, None, refl, sym, ap, arith, if◌then◌else◌}
use Rattle.std.specs.Prelude.{nat_le, nat_lt, slice_get}
use Rattle.std.proofs.lemmas.Bool.{cases_Bool, cases_lt, and_parts, leb-true, ltb-true}
use Rattle.std.proofs.lemmas.Option.{same_Some}
use Rattle.thumb_instr.specs.declared.instr.Instr.{Instr}
use Rattle.thumb_instr.specs.declared.instr.Instr.TheVariants as instr
use Rattle.thumb_model.specs.Listing.{Name, Mention, Value, Statement, Nothing, Instruction, Words, Aligns, Sets, ListingLine, Place, Op, Word, places_in, places_of, labels_from}
use Rattle.thumb_model.specs.Layout.{branch_base, branch_fault, instr_size, is_among, label_address, size_at}
use Rattle.thumb_model.specs.Steps.{label_place}
use Rattle.thumb_model.proofs.Lists.{get_back}
use Rattle.label_layout.specs.Addresses.{addresses_from, addresses_in}
use Rattle.label_layout.proofs.Sums.{places_counted_in}
use Rattle.listing_parser.proofs.LabelLemmas.{label_at}
use Rattle.kept_places.specs.Marks.{is_gone, rank}
use Rattle.kept_places.proofs.Ranks.{rank_gone, rank_kept, rank_zero}
use Rattle.listing_draft.specs.Drafted.{aim_at, lines_now, Drafted}
use Rattle.listing_draft.specs.Invariant.{IsDraft}
use Rattle.listing_draft.proofs.Stands.{aimed_to, stands_at}
use Rattle.flow_tidy.specs.Halves.{halves, wide_count, wide_of, wides_before, IsBeyond}
use Rattle.flow_tidy.proofs.Aimed.{past_words}
use Rattle.thumb_model.proofs.Shared.{words_length}

-- ---- counts ----

none_wide : (ps : List Place) → wide_count ps 0 ≡ 0
none_wide [] = refl
none_wide (x ∷ xs) = refl

count_more : (ps : List Place) (p : ℕ) → wide_count ps (suc p) ≡ wide_count ps p + wide_of (slice_get ps p)
count_more [] p = refl
count_more (x ∷ xs) zero = let n = none_wide xs in omega arith
count_more (x ∷ xs) (suc p) = let r = count_more xs p in omega arith

count_grows : (ps : List Place) (p q : ℕ) → p ≤ q → wide_count ps p ≤ wide_count ps q
count_grows [] p q h = omega arith
count_grows (x ∷ xs) zero q h = omega arith
count_grows (x ∷ xs) (suc p) zero h = absurd (omega arith)
count_grows (x ∷ xs) (suc p) (suc q) h = let r = count_grows xs p q (omega arith) in omega arith

count_behind : (xs ys : List Place) (n m : ℕ) → m ≡ length xs + n → wide_count (xs ++ ys) m ≡ wide_count xs (length xs) + wide_count ys n
count_behind [] ys n m e = let same : wide_count ys m ≡ wide_count ys n = ap (wide_count ys) (let z : m ≡ n = omega arith in z) in omega arith
count_behind (x ∷ xs) ys n zero e = absurd (omega arith)
count_behind (x ∷ xs) ys n (suc m) e = let r = count_behind xs ys n m (omega arith) in omega arith

pub get_wides : (n : ℕ) (ps : List Place) (p : ℕ) → p < length ps → slice_get (wides_before n ps) p ≡ Some (n + wide_count ps p)
get_wides n [] p h = absurd (omega arith)
get_wides n (x ∷ xs) zero h = ap (λ k. Some k) (let z : n ≡ n + 0 = omega arith in z)
get_wides n (x ∷ xs) (suc p) h = get_wides (n + wide_of (Some x)) xs p (omega arith) ∙ ap (λ k. Some k) (let z : n + wide_of (Some x) + wide_count xs p ≡ n + (wide_of (Some x) + wide_count xs p) = omega arith in z)

pub wides_length : (n : ℕ) (ps : List Place) → length (wides_before n ps) ≡ length ps
wides_length n [] = refl
wides_length n (x ∷ xs) = ap suc (wides_length (n + wide_of (Some x)) xs)

next_wides : (n : ℕ) (ps : List Place) (p : ℕ) → p < length ps → wides_before n (drop p ps) ≡ n ∷ wides_before (n + wide_of (slice_get ps p)) (drop (suc p) ps)
next_wides n [] p h = absurd (omega arith)
next_wides n (x ∷ xs) zero h = refl
next_wides n (x ∷ xs) (suc p) h = next_wides n xs p (omega arith)

-- one more place
pub wides_more : (out : List ℕ) (n w : ℕ) (ps : List Place) (p : ℕ) → p < length ps → w ≡ wide_of (slice_get ps p) → out ++ wides_before n (drop p ps) ≡ wides_before 0 ps → (out ++ n ∷ []) ++ wides_before (n + w) (drop (p + 1) ps) ≡ wides_before 0 ps
wides_more out n w ps p h e f =
    append_assoc out (n ∷ []) (wides_before (n + w) (drop (p + 1) ps))
    ∙ ap (λ k. out ++ (n ∷ wides_before (n + k) (drop (p + 1) ps))) e
    ∙ ap (λ k. out ++ (n ∷ wides_before (n + wide_of (slice_get ps p)) (drop k ps))) (let z : p + 1 ≡ suc p = omega arith in z)
    ∙ ap (λ (xs : List ℕ). out ++ xs) (sym (next_wides n ps p h))
    ∙ f

-- ---- a draft ----

pub same_wide : (o : Option Place) (a : Option Name) → wide_of (aimed_to o a) ≡ wide_of o
same_wide None a = refl
same_wide (Some (Op i m)) None = refl
same_wide (Some (Op i m)) (Some label) = refl
same_wide (Some (Word v)) a = refl

-- where nothing wide is gone, as many wide places stand before a place as before
pub wide_kept : (d : Drafted) → IsDraft d → ((p : ℕ) → is_gone d.gone p ≡ true → wide_of (slice_get (places_of d.given) p) ≡ 0) → (p : ℕ) → wide_count (places_of (lines_now d)) (rank d.gone p) ≡ wide_count (places_of d.given) p
wide_kept d h none zero = ap (wide_count (places_of (lines_now d))) (rank_zero d.gone) ∙ none_wide (places_of (lines_now d)) ∙ sym (none_wide (places_of d.given))
wide_kept d h none (suc p) =
    let now : List Place = places_of (lines_now d) in
    let r = wide_kept d h none p in
    let given = count_more (places_of d.given) p in
    elim (cases_Bool (is_gone d.gone p)) [
      | inl g ↦ (
          let at : wide_count now (rank d.gone (suc p)) ≡ wide_count now (rank d.gone p) = ap (wide_count now) (rank_gone d.gone p g) in
          let zero = none p g in
          omega arith)
      | inr g ↦ (
          let at : wide_count now (rank d.gone (suc p)) ≡ wide_count now (suc (rank d.gone p)) = ap (wide_count now) (rank_kept d.gone p g) in
          let more = count_more now (rank d.gone p) in
          let same : wide_of (slice_get now (rank d.gone p)) ≡ wide_of (slice_get (places_of d.given) p) = ap wide_of (stands_at d.given d.gone d.aims p h.ops g) ∙ same_wide (slice_get (places_of d.given) p) (aim_at d.aims p) in
          omega arith)
    ]

-- ---- bytes ----

all_words : (vs : List Value) → wide_count (map Word vs) (length (map Word vs)) ≡ length vs
all_words [] = refl
all_words (v ∷ vs) = let r = all_words vs in omega arith

-- an instruction takes two bytes, and one that is wide four: a row
instr_least : (i : Instr) (m : Option Mention) → 2 + 2 * wide_of (Some (Op i m)) ≤ instr_size i
instr_least (instr.Call d) m = omega arith
instr_least i m = omega arith

size_least : (s : Statement) (at : ℕ) → 2 * (length (places_in s) + wide_count (places_in s) (length (places_in s))) ≤ size_at s at
size_least Nothing at = omega arith
size_least (Instruction i m) at = let l = instr_least i m in omega arith
size_least (Words vs) at = let a = all_words vs in let b = words_length vs in omega arith
size_least (Aligns size most) at = omega arith
size_least (Sets name address) at = omega arith

-- ---- where a label lies ----

pub record LiesBy (name : Name) (ls : List ListingLine) (at r q : ℕ) : Type 0 where
  pub address : ℕ
  pub is : label_address name at ls ≡ Some address
  pub more : ℕ
  pub number : q ≡ r + more
  pub least : at + 2 * halves (places_of ls) more ≤ address

-- the place of a name that is no label of the line
lies_behind : (name : Name) (l : ListingLine) (ls : List ListingLine) (at r q : ℕ) → is_among name l.names ≡ false → LiesBy name ls (at + size_at l.statement at) (r + length (places_in l.statement)) q → LiesBy name (l ∷ ls) at r q
lies_behind name l ls at r q a rest =
    let n : ℕ = length (places_in l.statement) in
    let count = count_behind (places_in l.statement) (places_of ls) rest.more (n + rest.more) refl in
    let size = size_least l.statement at in
    record {
      address = rest.address;
      is = rw a rest.is;
      more = n + rest.more;
      number = let f = rest.number in omega arith;
      least = let f = rest.least in omega arith;
    }

lies_here : (name : Name) (l : ListingLine) (ls : List ListingLine) (at r q : ℕ) → is_among name l.names ≡ true → r ≡ q → LiesBy name (l ∷ ls) at r q
lies_here name l ls at r q a e = let zero = none_wide (places_of (l ∷ ls)) in record { address = at; is = rw a refl; more = 0; number = omega arith; least = omega arith }

pub label_lies : (name : Name) (ls : List ListingLine) (at r q : ℕ) → label_place name (labels_from r ls) ≡ Some q → LiesBy name ls at r q
label_lies name [] at r q e = absurd (cc)
label_lies name (l ∷ ls) at r q e =
    let n : ℕ = length (places_in l.statement) in
    let one : (if is_among name l.names then Some r else label_place name (labels_from (r + n) ls)) ≡ Some q = sym (label_at name r l.names (labels_from (r + n) ls)) ∙ e in
    elim (cases_Bool (is_among name l.names)) [
      | inl a ↦ lies_here name l ls at r q a (let here : Some r ≡ Some q = rw a at one in cc)
      | inr a ↦ lies_behind name l ls at r q a (label_lies name ls (at + size_at l.statement at) (r + n) q (rw a at one))
    ]

-- ---- where an instruction does ----

abbrev IsHere : ℕ → ℕ → ℕ → ℕ → Type 0
IsHere p a at n = (p ≡ 0) × (a ≡ at) × (n ≡ 1)

abbrev IsFurther : ℕ → ℕ → Instr → Option Mention → List ListingLine → ℕ → ℕ → Type 0
IsFurther p n i m ls next a = (q : ℕ) × (p ≡ n + q) × (slice_get (places_of ls) q ≡ Some (Op i m)) × (slice_get (addresses_from next ls) q ≡ Some a)

module _ (i : Instr) (m : Option Mention) (a : ℕ) where
  further : (s : Statement) (ls : List ListingLine) (at p q : ℕ) → p ≡ length (places_in s) + q → slice_get (places_of ls) q ≡ Some (Op i m) → slice_get (addresses_in at s ++ addresses_from (at + size_at s at) ls) p ≡ Some a → IsFurther p (length (places_in s)) i m ls (at + size_at s at) a
  further s ls at p q e f g = (q, e, f, sym (get_back (addresses_in at s) (addresses_from (at + size_at s at) ls) q p (let c = places_counted_in at s in omega arith)) ∙ g)

  where_it_is : (s : Statement) (ls : List ListingLine) (at p : ℕ) → slice_get (places_in s ++ places_of ls) p ≡ Some (Op i m) → slice_get (addresses_in at s ++ addresses_from (at + size_at s at) ls) p ≡ Some a
      → IsHere p a at (length (places_in s)) ⊎ IsFurther p (length (places_in s)) i m ls (at + size_at s at) a
  where_it_is (Words vs) ls at p f g = let r = past_words vs (places_of ls) p i m f in inr (further (Words vs) ls at p r.0 r.1 r.2 g)
  where_it_is (Instruction j k) ls at zero f g = inl (refl, sym (same_Some at a g), refl)
  where_it_is (Instruction j k) ls at (suc p) f g = inr (further (Instruction j k) ls at (suc p) p (omega arith) f g)
  where_it_is Nothing ls at p f g = inr (further Nothing ls at p p (omega arith) f g)
  where_it_is (Aligns size most) ls at p f g = inr (further (Aligns size most) ls at p p (omega arith) f g)
  where_it_is (Sets name address) ls at p f g = inr (further (Sets name address) ls at p p (omega arith) f g)

  place_lies : (ls : List ListingLine) (at p : ℕ) → slice_get (places_of ls) p ≡ Some (Op i m) → slice_get (addresses_from at ls) p ≡ Some a → at + 2 * halves (places_of ls) p ≤ a
  place_lies [] at p f g = absurd (cc)
  place_lies (l ∷ ls) at p f g = elim (where_it_is l.statement ls at p f g) [
    | inl h ↦ (
        let count : wide_count (places_of (l ∷ ls)) p ≡ 0 = ap (wide_count (places_of (l ∷ ls))) h.0 ∙ none_wide (places_of (l ∷ ls)) in
        omega (arith, h.0, h.1))
    | inr h ↦ (
        let rest = place_lies ls (at + size_at l.statement at) h.0 h.2 h.3 in
        let count = count_behind (places_in l.statement) (places_of ls) h.0 p h.1 in
        let size = size_least l.statement at in
        omega (arith, h.1))
  ]

  -- the instruction and the label lie as far from one another as there are half-words between them, or further
  pub record AreApart (ls : List ListingLine) (p q t : ℕ) : Type 0 where
    pub ahead : p < q → a + 2 * halves (places_of ls) q ≤ t + 2 * halves (places_of ls) p
    pub back : q ≤ p → t + 2 * halves (places_of ls) p ≤ a + 2 * halves (places_of ls) q

  pub are_apart : (name : Name) (ls : List ListingLine) (at r p q t : ℕ) → slice_get (places_of ls) p ≡ Some (Op i m) → slice_get (addresses_from at ls) p ≡ Some a → label_place name (labels_from r ls) ≡ Some (r + q) → label_address name at ls ≡ Some t → AreApart ls p q t
  are_apart name [] at r p q t f g e k = absurd (cc)
  are_apart name (l ∷ ls) at r p q t f g e k =
      let n : ℕ = length (places_in l.statement) in
      let next : ℕ = at + size_at l.statement at in
      let one : (if is_among name l.names then Some r else label_place name (labels_from (r + n) ls)) ≡ Some (r + q) = sym (label_at name r l.names (labels_from (r + n) ls)) ∙ e in
      elim (cases_Bool (is_among name l.names)) [
        | inl b ↦ (
            let here : Some r ≡ Some (r + q) = rw b at one in
            let same : r ≡ r + q = cc in
            let own : Some at ≡ Some t = rw b at k in
            let there : at ≡ t = cc in
            let count : wide_count (places_of (l ∷ ls)) q ≡ 0 = ap (wide_count (places_of (l ∷ ls))) (let z : q ≡ 0 = omega arith in z) ∙ none_wide (places_of (l ∷ ls)) in
            let least = place_lies (l ∷ ls) at p f g in
            record { ahead = λ lt. absurd (omega arith); back = λ le. omega arith })
        | inr b ↦ (
            let later : label_place name (labels_from (r + n) ls) ≡ Some (r + q) = rw b at one in
            let own : label_address name next ls ≡ Some t = rw b at k in
            let label = label_lies name ls next (r + n) (r + q) later in
            let there : label.address ≡ t = same_Some label.address t (sym label.is ∙ own) in
            let is : q ≡ n + label.more = (let z = label.number in omega arith) in
            let size = size_least l.statement at in
            let by_label = count_behind (places_in l.statement) (places_of ls) label.more q is in
            elim (where_it_is l.statement ls at p f g) [
              | inl h ↦ (
                  let count : wide_count (places_of (l ∷ ls)) p ≡ 0 = ap (wide_count (places_of (l ∷ ls))) h.0 ∙ none_wide (places_of (l ∷ ls)) in
                  record { ahead = λ lt. (let z = label.least in omega (arith, h.0, h.1)); back = λ le. absurd (omega (arith, h.0, h.2)) })
              | inr h ↦ (
                  let by_place = count_behind (places_in l.statement) (places_of ls) h.0 p h.1 in
                  let rest = are_apart name ls next (r + n) h.0 label.more t h.2 h.3 (later ∙ ap (λ x. Some x) (let z = label.number in z)) own in
                  record {
                    ahead = λ lt. (let z = rest.ahead (omega (arith, h.1)) in omega (arith, h.1));
                    back = λ le. (let z = rest.back (omega (arith, h.1)) in omega (arith, h.1));
                  })
            ])
      ]

-- ---- reach ----

reach_parts : (half at to : ℕ) → branch_fault half at (Some to) ≡ None → (to < at + 4 + 2 * half) × (at + 4 ≤ to + 2 * half)
reach_parts half at to e = elim (cases_Bool (nat_lt to (branch_base at + 2 * half) && nat_le (branch_base at) (to + 2 * half))) [
  | inl h ↦ let p = and_parts _ _ h in (ltb-true _ _ p.0, leb-true _ _ p.1)
  | inr h ↦ absurd (cc (rw h at e))
]

pub never_reached : (i : Instr) (m : Option Mention) (a : ℕ) (ls : List ListingLine) (p q t half : ℕ) → AreApart i m a ls p q t → IsBeyond half (halves (places_of ls) p) (halves (places_of ls) q) → branch_fault half a (Some t) ≡ None → ⊥
never_reached i m a ls p q t half h b e =
    let r = reach_parts half a t e in
    elim (cases_lt p q) [
      | inl lt ↦ (
          let grows = count_grows (places_of ls) p q (omega arith) in
          let far = b.0 (omega arith) in
          let z = h.ahead lt in
          omega (arith, r.0))
      | inr le ↦ (
          let grows = count_grows (places_of ls) q p le in
          let far = b.1 (omega arith) in
          let z = h.back le in
          omega (arith, r.1))
    ]
