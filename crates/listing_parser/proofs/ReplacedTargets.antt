-- Labels, and the mentions that need them, where lines are replaced.
use Rattle.std.proofs.Common.{◌≡◌, ◌∙◌, inl, inr, ℕ, zero, suc, ◌+◌, ◌-◌, ◌/◌, ◌%◌, ◌==◌, ◌&&◌, ◌||◌, Bool, true, false, not, List, [], ◌∷◌, ◌++◌, length, map, drop, take, refl, sym, ap, arith, subst, true≢false, Option, Some, None, is_some, append_assoc, length-append, eqb-true}
use Rattle.std.specs.Prelude.{nat_lt, nat_le, slice_get, if◌then◌else◌}
use Rattle.std.proofs.lemmas.Bool.{cases_Bool, and_parts, and_from, le-ltb, or_right}
use Rattle.thumb_instr.specs.declared.instr.Instr.{Instr}
use Rattle.thumb_instr.specs.declared.instr.Instr.TheVariants as instr
use Rattle.thumb_model.specs.Listing.{Name, Mention, Value, Number, OfName, Statement, Nothing, Instruction, Words, Aligns, Sets, ListingLine, Place, Op, Word, places_in, places_of, labels_from, is_op_place, has_label}
use Rattle.thumb_model.specs.Layout.{is_among}
use Rattle.thumb_model.specs.Steps.{label_place}
use Rattle.thumb_model.specs.Replaced.{is_op, without, labels_kept, new_line, replaced_lines}
use Rattle.thumb_model.specs.Cuts.{AreOps}
use Rattle.thumb_model.proofs.LinesReplaced.{places_replaced}
use Rattle.listing_parser.proofs.FirstTwice.{first_twice}
use Rattle.listing_parser.specs.Targets.{from_label, onward, reaches, is_literal, is_code_label, is_label, is_aimed, is_aimed_at, is_word_of, are_words_of, is_on_target, first_target}
use Rattle.listing_parser.proofs.LabelLemmas.{label_at, label_among, code_place, one_label}
use Rattle.common_lemmas.proofs.Booleans.{same_tests}

-- ---- the first place ----

abbrev pub is_op_first : List Place → Bool
is_op_first [] = false
is_op_first (Op i mention ∷ ps) = true
is_op_first (Word v ∷ ps) = false

pub ops_first : (n : ℕ) (ps : List Place) → AreOps (suc n) ps → is_op_first ps ≡ true
ops_first n [] h = absurd h
ops_first n (Op i m ∷ ps) h = refl
ops_first n (Word v ∷ ps) h = absurd h

-- the window of instructions, from the place p on
abbrev pub IsWindow : ℕ → ℕ → List Place → Type 0
IsWindow p n ps = AreOps (suc n) (drop p ps)

past_words : (n p : ℕ) (vs : List Value) (ps : List Place) → IsWindow p n (map Word vs ++ ps) → IsWindow (p - length (map Word vs)) n ps
past_words n p [] ps h = subst (λ (k : ℕ). IsWindow k n ps) (let e : p ≡ p - 0 = omega arith in e) h
past_words n zero (v ∷ vs) ps h = absurd h
past_words n (suc p) (v ∷ vs) ps h = subst (λ (k : ℕ). IsWindow k n ps) (let e : p - length (map Word vs) ≡ suc p - suc (length (map Word vs)) = omega arith in e) (past_words n p vs ps h)

pub window_next : (n p : ℕ) (s : Statement) (ps : List Place) → (is_op s && (p == 0)) ≡ false → IsWindow p n (places_in s ++ ps) → IsWindow (p - length (places_in s)) n ps
window_next n p Nothing ps e h = subst (λ (k : ℕ). IsWindow k n ps) (let f : p ≡ p - 0 = omega arith in f) h
window_next n p (Aligns size most) ps e h = subst (λ (k : ℕ). IsWindow k n ps) (let f : p ≡ p - 0 = omega arith in f) h
window_next n p (Sets name address) ps e h = subst (λ (k : ℕ). IsWindow k n ps) (let f : p ≡ p - 0 = omega arith in f) h
window_next n p (Words vs) ps e h = past_words n p vs ps h
window_next n zero (Instruction i m) ps e h = absurd (true≢false e)
window_next n (suc p) (Instruction i m) ps e h = subst (λ (k : ℕ). IsWindow k n ps) (let f : p ≡ suc p - 1 = omega arith in f) h

pub op_next : (n : ℕ) (s : Statement) (ps : List Place) → is_op s ≡ true → AreOps (suc n) (places_in s ++ ps) → AreOps n ps
op_next n Nothing ps e h = absurd (true≢false (sym e))
op_next n (Instruction i m) ps e h = h
op_next n (Words vs) ps e h = absurd (true≢false (sym e))
op_next n (Aligns size most) ps e h = absurd (true≢false (sym e))
op_next n (Sets name address) ps e h = absurd (true≢false (sym e))

pub other_next : (n : ℕ) (s : Statement) (ps : List Place) → is_op s ≡ false → AreOps (suc n) (places_in s ++ ps) → AreOps (suc n) ps
other_next n Nothing ps e h = h
other_next n (Instruction i m) ps e h = absurd (true≢false e)
other_next n (Words []) ps e h = h
other_next n (Words (v ∷ vs)) ps e h = absurd h
other_next n (Aligns size most) ps e h = h
other_next n (Sets name address) ps e h = h

op_is_first : (s : Statement) (ps : List Place) → is_op s ≡ true → is_op_first (places_in s ++ ps) ≡ true
op_is_first Nothing ps e = absurd (true≢false (sym e))
op_is_first (Instruction i m) ps e = refl
op_is_first (Words vs) ps e = absurd (true≢false (sym e))
op_is_first (Aligns size most) ps e = absurd (true≢false (sym e))
op_is_first (Sets name address) ps e = absurd (true≢false (sym e))

-- the window's first line
pub here_parts : (p : ℕ) (s : Statement) → (is_op s && (p == 0)) ≡ true → (is_op s ≡ true) × (p ≡ 0)
here_parts p s e = let a = and_parts (is_op s) (p == 0) e in (a.0, eqb-true p 0 a.1)

pub window_here : (n p : ℕ) (s : Statement) (ps : List Place) → (is_op s && (p == 0)) ≡ true → IsWindow p n (places_in s ++ ps) → AreOps n ps
window_here n p s ps e h = let a = here_parts p s e in op_next n s ps a.0 (subst (λ (k : ℕ). IsWindow k n (places_in s ++ ps)) a.1 h)

pub less_one : (n : ℕ) → suc n - 1 ≡ n
less_one n = omega arith

-- ---- a name's label stands before an instruction ----

abbrev pub opens : Name → List ListingLine → Bool
opens name ls = is_op_first (places_of (from_label name ls))

first_place : (ps : List Place) → is_op_place (slice_get ps 0) ≡ is_op_first ps
first_place [] = refl
first_place (Op i m ∷ ps) = refl
first_place (Word v ∷ ps) = refl

get_behind : (xs ys : List Place) → slice_get (xs ++ ys) (length xs) ≡ slice_get ys 0
get_behind [] ys = refl
get_behind (x ∷ xs) ys = get_behind xs ys

some_if : (b : Bool) (p : ℕ) → is_some (if b then Some p else None) ≡ b
some_if true p = refl
some_if false p = refl

picked : (p : ℕ) (b : Bool) (o : Option ℕ) → b ≡ true → (if b then Some p else o) ≡ Some p
picked p b o e = rw e refl

passed : (p : ℕ) (b : Bool) (o : Option ℕ) → b ≡ false → (if b then Some p else o) ≡ o
passed p b o e = rw e refl

opens_at : (name : Name) (before : List Place) (p : ℕ) (ls : List ListingLine) → p ≡ length before → is_some (code_place (before ++ places_of ls) (label_place name (labels_from p ls))) ≡ opens name ls
unfolding code_place
opens_at name before p [] e = refl
opens_at name before p (l ∷ ls) e = elim (cases_Bool (is_among name l.names)) [
  | inl h ↦
      ap (λ (o : Option ℕ). is_some (code_place (before ++ places_of (l ∷ ls)) o)) (label_at name p l.names (labels_from (p + length (places_in l.statement)) ls) ∙ picked p (is_among name l.names) (label_place name (labels_from (p + length (places_in l.statement)) ls)) h)
      ∙ some_if (is_op_place (slice_get (before ++ places_of (l ∷ ls)) p)) p
      ∙ ap (λ (k : ℕ). is_op_place (slice_get (before ++ places_of (l ∷ ls)) k)) e
      ∙ ap is_op_place (get_behind before (places_of (l ∷ ls)))
      ∙ first_place (places_of (l ∷ ls))
      ∙ rw h refl
  | inr h ↦
      ap (λ (o : Option ℕ). is_some (code_place (before ++ places_of (l ∷ ls)) o)) (label_at name p l.names (labels_from (p + length (places_in l.statement)) ls) ∙ passed p (is_among name l.names) (label_place name (labels_from (p + length (places_in l.statement)) ls)) h)
      ∙ ap (λ (ps : List Place). is_some (code_place ps (label_place name (labels_from (p + length (places_in l.statement)) ls)))) (sym (append_assoc before (places_in l.statement) (places_of ls)))
      ∙ opens_at name (before ++ places_in l.statement) (p + length (places_in l.statement)) ls (omega (arith, e, length-append before (places_in l.statement)))
      ∙ rw h refl
]

pub code_opens : (name : Name) (ls : List ListingLine) → first_twice 1 [] ls ≡ None → is_code_label ls name ≡ opens name ls
code_opens name ls once = ap is_some (one_label name (places_of ls) 1 0 [] ls once) ∙ opens_at name [] 0 ls refl

-- ---- lines without labels of the name ----

pub from_kept : (name : Name) (l : ListingLine) (ns : List Name) (ls : List ListingLine) → is_among name ns ≡ false → from_label name (labels_kept l ns ++ ls) ≡ from_label name ls
from_kept name l [] ls e = refl
from_kept name l (n ∷ ns) ls e = rw e refl

pub from_new : (name : Name) (write : Instr → List ℕ) (is : List Instr) (ls : List ListingLine) → from_label name (map (new_line write) is ++ ls) ≡ from_label name ls
from_new name write [] ls = refl
from_new name write (i ∷ is) ls = from_new name write is ls

-- what the name's label stands before, after the window's first line
pub from_here : (name : Name) (write : Instr → List ℕ) (n : ℕ) (is : List Instr) (l : ListingLine) (ls : List ListingLine) → is_among name l.names ≡ false
    → from_label name (labels_kept l l.names ++ (map (new_line write) is ++ without (suc n - 1) ls)) ≡ from_label name (without n ls)
from_here name write n is l ls e =
    from_kept name l l.names (map (new_line write) is ++ without (suc n - 1) ls) e
    ∙ from_new name write is (without (suc n - 1) ls)
    ∙ ap (λ (k : ℕ). from_label name (without k ls)) (less_one n)

-- ---- a code label of the new lines is one of the old ----

opens_without : (name : Name) (n : ℕ) (ls : List ListingLine) → AreOps n (places_of ls) → opens name (without n ls) ≡ true → opens name ls ≡ true
opens_without name n [] h e = e
opens_without name zero (l ∷ ls) h e = e
opens_without name (suc n) (l ∷ ls) h e = elim (cases_Bool (is_among name l.names)) [
  | inl a ↦ rw a (ops_first n (places_in l.statement ++ places_of ls) h)
  | inr a ↦ elim (cases_Bool (is_op l.statement)) [
    | inl o ↦ rw a (opens_without name n ls (op_next n l.statement (places_of ls) o h) (rw o at e))
    | inr o ↦ rw a (opens_without name (suc n) ls (other_next n l.statement (places_of ls) o h) (rw a at (rw o at e)))
  ]
]

take_first : (p : ℕ) (ps qs : List Place) → is_op_first (take (suc p) ps ++ qs) ≡ true → (ps ≡ [] → ⊥) → is_op_first ps ≡ true
take_first p [] qs e some = absurd (some refl)
take_first p (Op i m ∷ ps) qs e some = refl
take_first p (Word v ∷ ps) qs e some = e

window_some : (n p : ℕ) (ps : List Place) → IsWindow p n ps → ps ≡ [] → ⊥
window_some n zero [] h e = h
window_some n (suc p) [] h e = h
window_some n p (x ∷ ps) h e = absurd (cc)

first_old : (write : Instr → List ℕ) (n p : ℕ) (is : List Instr) (ls : List ListingLine) → IsWindow p n (places_of ls) → is_op_first (places_of (replaced_lines write p (suc n) is ls)) ≡ true → is_op_first (places_of ls) ≡ true
first_old write n zero is ls h e = ops_first n (places_of ls) h
first_old write n (suc p) is ls h e = take_first p (places_of ls) _ (ap is_op_first (sym (places_replaced write n is ls (suc p) (suc p + suc n) refl h)) ∙ e) (window_some n (suc p) (places_of ls) h)

behind_first : (xs ys zs : List Place) → (is_op_first ys ≡ true → is_op_first zs ≡ true) → is_op_first (xs ++ ys) ≡ true → is_op_first (xs ++ zs) ≡ true
behind_first [] ys zs f e = f e
behind_first (Op i m ∷ xs) ys zs f e = refl
behind_first (Word v ∷ xs) ys zs f e = e

pub opens_old : (name : Name) (write : Instr → List ℕ) (n p : ℕ) (is : List Instr) (ls : List ListingLine) → IsWindow p n (places_of ls) → opens name (replaced_lines write p (suc n) is ls) ≡ true → opens name ls ≡ true
opens_old name write n p is [] h e = e
opens_old name write n p is (l ∷ ls) h e = elim (cases_Bool (is_op l.statement && (p == 0))) [
  | inl o ↦ elim (cases_Bool (is_among name l.names)) [
    | inl a ↦ rw a (op_is_first l.statement (places_of ls) (here_parts p l.statement o).0)
    | inr a ↦ rw a (opens_without name n ls (window_here n p l.statement (places_of ls) o h) (ap (λ (ms : List ListingLine). is_op_first (places_of ms)) (sym (from_here name write n is l ls a)) ∙ (rw o at e)))
  ]
  | inr o ↦
      let next = window_next n p l.statement (places_of ls) o h in
      elim (cases_Bool (is_among name l.names)) [
        | inl a ↦ rw a (behind_first (places_in l.statement) _ (places_of ls) (first_old write n (p - length (places_in l.statement)) is ls next) (rw a at (rw o at e)))
        | inr a ↦ rw a (opens_old name write n (p - length (places_in l.statement)) is ls next (rw a at (rw o at e)))
      ]
]

-- ---- words behind a label ----

word_before : (s : Statement) (ps : List Place) (next : ℕ → Bool) (k : ℕ) → ((j : ℕ) → is_op_first ps ≡ true → next j ≡ true → ⊥) → is_op_first (places_in s ++ ps) ≡ true → onward k s next ≡ true → ⊥
word_before Nothing ps next k f e g = f k e g
word_before (Instruction i m) ps next k f e g = true≢false (sym g)
word_before (Words []) ps next k f e g = f (k - 0) e (let none : nat_lt k 0 ≡ false = le-ltb k 0 (omega arith) in rw none at g)
word_before (Words (v ∷ vs)) ps next k f e g = true≢false (sym e)
word_before (Aligns size most) ps next k f e g = true≢false (sym g)
word_before (Sets name address) ps next k f e g = f k e g

-- no word is reached past an instruction
never_reached : (ls : List ListingLine) (k : ℕ) → is_op_first (places_of ls) ≡ true → reaches ls k ≡ true → ⊥
never_reached [] k e g = true≢false (sym e)
never_reached (l ∷ ls) k e g = word_before l.statement (places_of ls) (reaches ls) k (λ j. never_reached ls j) e g

onward_more : (k : ℕ) (s : Statement) (f g : ℕ → Bool) → ((j : ℕ) → f j ≡ true → g j ≡ true) → onward k s f ≡ true → onward k s g ≡ true
onward_more k Nothing f g h e = h k e
onward_more k (Instruction i m) f g h e = e
onward_more k (Words vs) f g h e = elim (cases_Bool (nat_lt k (length vs))) [
  | inl a ↦ rw a refl
  | inr a ↦ rw a (h (k - length vs) (rw a at e))
]
onward_more k (Aligns size most) f g h e = e
onward_more k (Sets name address) f g h e = h k e

reaches_new : (write : Instr → List ℕ) (n p : ℕ) (is : List Instr) (ls : List ListingLine) → IsWindow p n (places_of ls) → (k : ℕ) → reaches ls k ≡ true → reaches (replaced_lines write p (suc n) is ls) k ≡ true
reaches_new write n p is [] h k e = e
reaches_new write n p is (l ∷ ls) h k e = elim (cases_Bool (is_op l.statement && (p == 0))) [
  | inl o ↦ absurd (never_reached (l ∷ ls) k (op_is_first l.statement (places_of ls) (here_parts p l.statement o).0) e)
  | inr o ↦ rw o (onward_more k l.statement (reaches ls) (reaches (replaced_lines write (p - length (places_in l.statement)) (suc n) is ls))
      (reaches_new write n (p - length (places_in l.statement)) is ls (window_next n p l.statement (places_of ls) o h)) e)
]

reaches_without : (name : Name) (n : ℕ) (ls : List ListingLine) → AreOps n (places_of ls) → (k : ℕ) → reaches (from_label name ls) k ≡ true → reaches (from_label name (without n ls)) k ≡ true
reaches_without name n [] h k e = e
reaches_without name zero (l ∷ ls) h k e = e
reaches_without name (suc n) (l ∷ ls) h k e = elim (cases_Bool (is_among name l.names)) [
  | inl a ↦ absurd (never_reached (l ∷ ls) k (ops_first n (places_in l.statement ++ places_of ls) h) (rw a at e))
  | inr a ↦ elim (cases_Bool (is_op l.statement)) [
    | inl o ↦ rw o (reaches_without name n ls (op_next n l.statement (places_of ls) o h) k (rw a at e))
    | inr o ↦ rw o (rw a (reaches_without name (suc n) ls (other_next n l.statement (places_of ls) o h) k (rw a at e)))
  ]
]

pub reaches_from : (name : Name) (write : Instr → List ℕ) (n p : ℕ) (is : List Instr) (ls : List ListingLine) → IsWindow p n (places_of ls) → (k : ℕ) → reaches (from_label name ls) k ≡ true
    → reaches (from_label name (replaced_lines write p (suc n) is ls)) k ≡ true
reaches_from name write n p is [] h k e = e
reaches_from name write n p is (l ∷ ls) h k e = elim (cases_Bool (is_op l.statement && (p == 0))) [
  | inl o ↦ elim (cases_Bool (is_among name l.names)) [
    | inl a ↦ absurd (never_reached (l ∷ ls) k (op_is_first l.statement (places_of ls) (here_parts p l.statement o).0) (rw a at e))
    | inr a ↦ rw o (ap (λ (ms : List ListingLine). reaches ms k) (from_here name write n is l ls a) ∙ reaches_without name n ls (window_here n p l.statement (places_of ls) o h) k (rw a at e))
  ]
  | inr o ↦
      let next = window_next n p l.statement (places_of ls) o h in
      elim (cases_Bool (is_among name l.names)) [
        | inl a ↦ rw o (rw a (onward_more k l.statement (reaches ls) (reaches (replaced_lines write (p - length (places_in l.statement)) (suc n) is ls))
            (reaches_new write n (p - length (places_in l.statement)) is ls next) (rw a at e)))
        | inr a ↦ rw o (rw a (reaches_from name write n (p - length (places_in l.statement)) is ls next k (rw a at e)))
      ]
]

-- ---- no new label ----

abbrev pub has_name : Name → List ListingLine → Bool
has_name name [] = false
has_name name (l ∷ ls) = is_among name l.names || has_name name ls

label_named : (name : Name) (p : ℕ) (ls : List ListingLine) → has_label name (labels_from p ls) ≡ has_name name ls
label_named name p [] = refl
label_named name p (l ∷ ls) = label_among name p l.names (labels_from (p + length (places_in l.statement)) ls) ∙ ap (λ (b : Bool). is_among name l.names || b) (label_named name (p + length (places_in l.statement)) ls)

or_second : (a b c : Bool) → (b ≡ true → c ≡ true) → (a || b) ≡ true → (a || c) ≡ true
or_second true b c f e = refl
or_second false b c f e = f e

pub named_without : (name : Name) (n : ℕ) (ls : List ListingLine) → has_name name (without n ls) ≡ true → has_name name ls ≡ true
named_without name n [] e = e
named_without name zero (l ∷ ls) e = e
named_without name (suc n) (l ∷ ls) e = elim (cases_Bool (is_op l.statement)) [
  | inl o ↦ or_right (is_among name l.names) (has_name name ls) (named_without name n ls (rw o at e))
  | inr o ↦ or_second (is_among name l.names) (has_name name (without (suc n) ls)) (has_name name ls) (named_without name (suc n) ls) (rw o at e)
]

named_new : (name : Name) (write : Instr → List ℕ) (is : List Instr) (ls : List ListingLine) → has_name name (map (new_line write) is ++ ls) ≡ has_name name ls
named_new name write [] ls = refl
named_new name write (i ∷ is) ls = named_new name write is ls

named_kept : (name : Name) (l : ListingLine) (ns : List Name) (ls : List ListingLine) → has_name name (labels_kept l ns ++ ls) ≡ (is_among name ns || has_name name ls)
named_kept name l [] ls = refl
named_kept name l (n ∷ ns) ls = refl

pub named_old : (name : Name) (write : Instr → List ℕ) (n p : ℕ) (is : List Instr) (ls : List ListingLine) → has_name name (replaced_lines write p (suc n) is ls) ≡ true → has_name name ls ≡ true
named_old name write n p is [] e = e
named_old name write n p is (l ∷ ls) e = elim (cases_Bool (is_op l.statement && (p == 0))) [
  | inl o ↦ or_second (is_among name l.names) (has_name name (map (new_line write) is ++ without (suc n - 1) ls)) (has_name name ls)
      (λ h. named_without name (suc n - 1) ls (sym (named_new name write is (without (suc n - 1) ls)) ∙ h))
      (sym (named_kept name l l.names (map (new_line write) is ++ without (suc n - 1) ls)) ∙ (rw o at e))
  | inr o ↦ or_second (is_among name l.names) (has_name name (replaced_lines write (p - length (places_in l.statement)) (suc n) is ls)) (has_name name ls)
      (named_old name write n (p - length (places_in l.statement)) is ls) (rw o at e)
]

-- ---- what needs labels still has them ----

-- the new lines for the old
pub record Keeps (lines new : List ListingLine) : Type 0 where
  pub code : (name : Name) → is_code_label new name ≡ is_code_label lines name
  pub named : (name : Name) → is_label new name ≡ true → is_label lines name ≡ true
  pub words : (name : Name) (k : ℕ) → reaches (from_label name lines) k ≡ true → reaches (from_label name new) k ≡ true

not_more : (a b : Bool) → (b ≡ true → a ≡ true) → not a ≡ true → not b ≡ true
not_more true b f e = absurd (true≢false (sym e))
not_more false true f e = absurd (true≢false (sym (f refl)))
not_more false false f e = refl

branch_kept : (lines new : List ListingLine) (name : Name) → Keeps lines new → (is_code_label lines name || not (is_label lines name)) ≡ true → (is_code_label new name || not (is_label new name)) ≡ true
branch_kept lines new name k e =
    ap (λ (b : Bool). b || not (is_label new name)) (k.code name)
    ∙ or_second (is_code_label lines name) (not (is_label lines name)) (not (is_label new name)) (not_more (is_label lines name) (is_label new name) (k.named name)) e

literal_kept : (lines new : List ListingLine) (m : Mention) → Keeps lines new → is_literal lines m ≡ true → is_literal new m ≡ true
literal_kept lines new m k e =
    let a = and_parts (m.plus % 4 == 0) (nat_le m.plus 1020 && reaches (from_label m.name lines) (m.plus / 4)) e in
    let b = and_parts (nat_le m.plus 1020) (reaches (from_label m.name lines) (m.plus / 4)) a.1 in
    and_from (m.plus % 4 == 0) _ a.0 (and_from (nat_le m.plus 1020) _ b.0 (k.words m.name (m.plus / 4) b.1))

aimed_kept : (lines new : List ListingLine) (i : Instr) (m : Mention) → Keeps lines new → is_aimed lines i m ≡ true → is_aimed new i m ≡ true
aimed_kept lines new (instr.BranchIf c d) m k e = k.code m.name ∙ e
aimed_kept lines new (instr.Branch d) m k e = branch_kept lines new m.name k e
aimed_kept lines new (instr.Call d) m k e = branch_kept lines new m.name k e
aimed_kept lines new (instr.Literal t d) m k e = literal_kept lines new m k e
aimed_kept lines new (instr.Address t d) m k e = literal_kept lines new m k e
aimed_kept lines new i m k e = refl

mention_kept : (lines new : List ListingLine) (i : Instr) (o : Option Mention) → Keeps lines new → is_aimed_at lines i o ≡ true → is_aimed_at new i o ≡ true
mention_kept lines new i None k e = refl
mention_kept lines new i (Some m) k e = aimed_kept lines new i m k e

word_kept : (lines new : List ListingLine) (marked : List Name) (v : Value) → Keeps lines new → is_word_of lines marked v ≡ true → is_word_of new marked v ≡ true
word_kept lines new marked (Number n) k e = refl
word_kept lines new marked (OfName m) k e = ap (λ (b : Bool). not b || ((m.plus == 0) && is_among m.name marked)) (k.code m.name) ∙ e

words_kept : (lines new : List ListingLine) (marked : List Name) (vs : List Value) → Keeps lines new → are_words_of lines marked vs ≡ true → are_words_of new marked vs ≡ true
words_kept lines new marked [] k e = refl
words_kept lines new marked (v ∷ vs) k e =
    let a = and_parts (is_word_of lines marked v) (are_words_of lines marked vs) e in
    and_from (is_word_of new marked v) (are_words_of new marked vs) (word_kept lines new marked v k a.0) (words_kept lines new marked vs k a.1)

statement_kept : (lines new : List ListingLine) (marked : List Name) (s : Statement) → Keeps lines new → is_on_target lines marked s ≡ true → is_on_target new marked s ≡ true
statement_kept lines new marked Nothing k e = refl
statement_kept lines new marked (Instruction i m) k e = mention_kept lines new i m k e
statement_kept lines new marked (Words vs) k e = words_kept lines new marked vs k e
statement_kept lines new marked (Aligns size most) k e = refl
statement_kept lines new marked (Sets name address) k e = refl

-- ---- line by line ----

target_parts : (all : List ListingLine) (marked : List Name) (k : ℕ) (l : ListingLine) (ls : List ListingLine) → first_target all marked k (l ∷ ls) ≡ None → (is_on_target all marked l.statement ≡ true) × (first_target all marked (k + 1) ls ≡ None)
target_parts all marked k l ls e = elim (cases_Bool (is_on_target all marked l.statement)) [
  | inl h ↦ (h, rw h at e)
  | inr h ↦ absurd (let bad : Some k ≡ None = rw h at e in cc)
]

target_more : (all : List ListingLine) (marked : List Name) (k : ℕ) (l : ListingLine) (ls : List ListingLine) → is_on_target all marked l.statement ≡ true → first_target all marked (k + 1) ls ≡ None → first_target all marked k (l ∷ ls) ≡ None
target_more all marked k l ls h e = rw h e

targets_same : (lines new : List ListingLine) (marked : List Name) (j k : ℕ) (ls : List ListingLine) → Keeps lines new → first_target lines marked j ls ≡ None → first_target new marked k ls ≡ None
targets_same lines new marked j k [] keeps e = refl
targets_same lines new marked j k (l ∷ ls) keeps e =
    let parts = target_parts lines marked j l ls e in
    target_more new marked k l ls (statement_kept lines new marked l.statement keeps parts.0) (targets_same lines new marked (j + 1) (k + 1) ls keeps parts.1)

targets_without : (lines new : List ListingLine) (marked : List Name) (n j k : ℕ) (ls : List ListingLine) → Keeps lines new → first_target lines marked j ls ≡ None → first_target new marked k (without n ls) ≡ None
targets_without lines new marked n j k [] keeps e = refl
targets_without lines new marked zero j k (l ∷ ls) keeps e = targets_same lines new marked j k (l ∷ ls) keeps e
targets_without lines new marked (suc n) j k (l ∷ ls) keeps e =
    let parts = target_parts lines marked j l ls e in
    elim (cases_Bool (is_op l.statement)) [
      | inl o ↦ rw o (targets_without lines new marked n (j + 1) k ls keeps parts.1)
      | inr o ↦ rw o (target_more new marked k l (without (suc n) ls) (statement_kept lines new marked l.statement keeps parts.0) (targets_without lines new marked (suc n) (j + 1) (k + 1) ls keeps parts.1))
    ]

targets_new : (write : Instr → List ℕ) (all : List ListingLine) (marked : List Name) (is : List Instr) (ls : List ListingLine) → ((k : ℕ) → first_target all marked k ls ≡ None) → (k : ℕ) → first_target all marked k (map (new_line write) is ++ ls) ≡ None
targets_new write all marked [] ls h k = h k
targets_new write all marked (i ∷ is) ls h k = targets_new write all marked is ls h (k + 1)

targets_kept : (all : List ListingLine) (marked : List Name) (l : ListingLine) (ns : List Name) (ls : List ListingLine) → ((k : ℕ) → first_target all marked k ls ≡ None) → (k : ℕ) → first_target all marked k (labels_kept l ns ++ ls) ≡ None
targets_kept all marked l [] ls h k = h k
targets_kept all marked l (n ∷ ns) ls h k = h (k + 1)

pub still_aimed : (write : Instr → List ℕ) (lines new : List ListingLine) (marked : List Name) (n p j k : ℕ) (is : List Instr) (ls : List ListingLine) → Keeps lines new → first_target lines marked j ls ≡ None → first_target new marked k (replaced_lines write p (suc n) is ls) ≡ None
still_aimed write lines new marked n p j k is [] keeps e = refl
still_aimed write lines new marked n p j k is (l ∷ ls) keeps e =
    let parts = target_parts lines marked j l ls e in
    elim (cases_Bool (is_op l.statement && (p == 0))) [
      | inl o ↦ rw o (targets_kept new marked l l.names (map (new_line write) is ++ without (suc n - 1) ls)
          (targets_new write new marked is (without (suc n - 1) ls) (λ i. targets_without lines new marked (suc n - 1) (j + 1) i ls keeps parts.1)) k)
      | inr o ↦ rw o (target_more new marked k l (replaced_lines write (p - length (places_in l.statement)) (suc n) is ls) (statement_kept lines new marked l.statement keeps parts.0)
          (still_aimed write lines new marked n (p - length (places_in l.statement)) (j + 1) (k + 1) is ls keeps parts.1))
    ]

-- where the code labels of the old lines are kept, all that needs labels is
pub keeps : (write : Instr → List ℕ) (n p : ℕ) (is : List Instr) (ls : List ListingLine) → first_twice 1 [] ls ≡ None → first_twice 1 [] (replaced_lines write p (suc n) is ls) ≡ None → IsWindow p n (places_of ls)
    → ((name : Name) → is_code_label ls name ≡ true → is_code_label (replaced_lines write p (suc n) is ls) name ≡ true) → Keeps ls (replaced_lines write p (suc n) is ls)
keeps write n p is ls once again h kept =
    let new : List ListingLine = replaced_lines write p (suc n) is ls in
    record {
      code = λ name. same_tests (is_code_label new name) (is_code_label ls name)
          (λ e. code_opens name ls once ∙ opens_old name write n p is ls h (sym (code_opens name new again) ∙ e))
          (kept name);
      named = λ name e. label_named name 0 ls ∙ named_old name write n p is ls (sym (label_named name 0 new) ∙ e);
      words = λ name k e. reaches_from name write n p is ls h k e;
    }
