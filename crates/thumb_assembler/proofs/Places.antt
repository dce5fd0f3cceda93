-- The addresses of names, and the words that names stand for.
use Rattle.std.proofs.Common.{◌≡◌, ◌∙◌, inl, inr, ℕ, ◌+◌, ◌-◌, ◌*◌, ◌/◌, ◌%◌, ◌^◌, ◌<◌, ◌≤◌, ◌==◌, ◌&&◌, Bool, true, false, List, [], ◌∷◌, length, refl, sym, ap, subst, arith, true≢false, Option, Some, None, is_some, eqb-true, if◌then◌else◌}
use Rattle.std.specs.Prelude.{nat_le, nat_lt}
use Rattle.std.proofs.lemmas.Bool.{cases_Bool, and_parts, leb-true, ltb-true}
use Rattle.std.proofs.Math.Nat.{div-add-mod, mul_assoc}
use Rattle.thumb_syntax.specs.Whole.{is_whole, is_label}
use Rattle.thumb_syntax.specs.Operands.{is_name}
use Rattle.thumb_instr.specs.declared.instr.Instr.{Instr}
use Rattle.thumb_instr.specs.declared.instr.Instr.TheVariants as instr
use Rattle.thumb_model.specs.Listing.{Name, Mention, Statement, Nothing, Instruction, Words, Aligns, Sets, ListingLine, Place, places_in, places_of, labels_from, place_among, place_of, code_of}
use Rattle.thumb_model.specs.Layout.{less, distance, branch_base, instr_fault, instr_size, padding, size_at, is_among, label_address, set_address, cleared, or_else, lies_in, literal_base, branch_fault, literal_fault, aim_fault, Fault, Range, Align}
use Rattle.thumb_model.specs.Naming.{Naming, word_by, laid}
use Rattle.thumb_assembler.specs.Bytes.{lies_at, mention_lies, IsSetBy, may_leave}
use Rattle.listing_parser.specs.Targets.{from_label, reaches, is_literal, is_code_label, is_aimed}
use Rattle.thumb_machine.specs.Words.{fixed_by, fixed_word}
use Rattle.thumb_assembler.specs.Fair.{label_in, keeps_even, is_fair, are_fair}
use Rattle.listing_parser.proofs.LabelLemmas.{passed_by as skipped}

-- ---- words of names ----

fixed_is : (a p s : Option ℕ) (x w : ℕ) → ((address : ℕ) → s ≡ Some address → x ≡ address) → fixed_by a p s ≡ Some w → word_by x a p ≡ w
fixed_is None p s x w h e = h w e
fixed_is (Some a) None s x w h e = let same : Some a ≡ Some w = e in cc
fixed_is (Some a) (Some p) s x w h e = let same : Some (a + 1) ≡ Some w = e in cc

pub word_is : (base : ℕ) (all : List ListingLine) (set : Name → ℕ) (name : Name) (w : ℕ) → IsSetBy all set → fixed_word base all name ≡ Some w → (laid base set all).word_of name ≡ w
word_is base all set name w h e = fixed_is (label_address name base all) (place_of (code_of all) name) (set_address name all) (set name) w (h name) e

-- ---- addresses of names ----

lies_is : (names : Naming) (a s p : Option ℕ) (x to : ℕ) → ((address : ℕ) → s ≡ Some address → x ≡ address) → or_else a (cleared s) ≡ Some to → lies_at names a (word_by x a p) ≡ to
lies_is names (Some a) s p x to h e = let same : Some a ≡ Some to = e in cc
lies_is names None None p x to h e = absurd (let bad : None ≡ Some to = e in cc)
lies_is names None (Some v) p x to h e = let same : Some (v / 2 * 2) ≡ Some to = e in let is : v / 2 * 2 ≡ to = cc in ap (λ (n : ℕ). n / 2 * 2) (h v refl) ∙ is

pub lies_there : (base : ℕ) (all : List ListingLine) (set : Name → ℕ) (m : Mention) (to : ℕ) → IsSetBy all set → lies_in base all m.name ≡ Some to → mention_lies base (laid base set all) all m ≡ to + m.plus
lies_there base all set m to h e = ap (λ (n : ℕ). n + m.plus) (lies_is (laid base set all) (label_address m.name base all) (set_address m.name all) (place_of (code_of all) m.name) (set m.name) to (h m.name) e)

-- ---- addresses are even ----

instr_even : (i : Instr) → instr_size i % 2 ≡ 0
instr_even (instr.Call d) = refl
instr_even i = refl

even_mod : (size k at : ℕ) → size ≡ 2 * k → at % 2 ≡ 0 → at % size % 2 ≡ 0
even_mod size k at e h =
    let whole = div-add-mod at size in
    let twice : size * (at / size) ≡ 2 * (k * (at / size)) = ap (λ (n : ℕ). n * (at / size)) e ∙ mul_assoc 2 k (at / size) in
    omega arith

picked_even : (b : Bool) (n : ℕ) → n % 2 ≡ 0 → (if b then n else 0) % 2 ≡ 0
picked_even true n h = h
picked_even false n h = refl

pub padding_even : (size most at : ℕ) → keeps_even size ≡ true → at % 2 ≡ 0 → padding size most at % 2 ≡ 0
padding_even size most at k h = picked_even (nat_le ((size - at % size) % size) most) ((size - at % size) % size) (elim (cases_Bool (size == 1)) [
  | inl one ↦
      let is : size ≡ 1 = eqb-true size 1 one in
      subst (λ (n : ℕ). (n - at % n) % n % 2 ≡ 0) (sym is) (let z : (1 - at % 1) % 1 % 2 ≡ 0 = omega arith in z)
  | inr other ↦
      let even : size % 2 ≡ 0 = eqb-true (size % 2) 0 (rw other at k) in
      let half : size ≡ 2 * (size / 2) = omega arith in
      let rest = even_mod size (size / 2) at half h in
      let less : (size - at % size) % 2 ≡ 0 = omega arith in
      even_mod size (size / 2) (size - at % size) half less
])

pub size_even : (all : List ListingLine) (s : Statement) (at : ℕ) → is_fair all s ≡ true → at % 2 ≡ 0 → size_at s at % 2 ≡ 0
size_even all Nothing at f h = refl
size_even all (Instruction i m) at f h = instr_even i
size_even all (Words vs) at f h = omega arith
size_even all (Aligns size most) at f h = padding_even size most at f h
size_even all (Sets name address) at f h = refl

pub label_even : (all : List ListingLine) (name : Name) (at a : ℕ) (ls : List ListingLine) → are_fair all ls ≡ true → at % 2 ≡ 0 → label_address name at ls ≡ Some a → a % 2 ≡ 0
label_even all name at a [] f h e = absurd (let bad : None ≡ Some a = e in cc)
label_even all name at a (l ∷ ls) f h e = elim (cases_Bool (is_among name l.names)) [
  | inl t ↦ let same : Some at ≡ Some a = rw t at e in let is : at ≡ a = cc in omega arith
  | inr t ↦
      let both = and_parts (is_fair all l.statement) (are_fair all ls) f in
      let here = size_even all l.statement at both.0 h in
      label_even all name (at + size_at l.statement at) a ls both.1 (omega arith) (rw t at e)
]

lies_even_by : (a s : Option ℕ) (to : ℕ) → ((n : ℕ) → a ≡ Some n → n % 2 ≡ 0) → or_else a (cleared s) ≡ Some to → to % 2 ≡ 0
lies_even_by (Some a) s to h e = h to e
lies_even_by None None to h e = absurd (let bad : None ≡ Some to = e in cc)
lies_even_by None (Some v) to h e = let same : Some (v / 2 * 2) ≡ Some to = e in let is : v / 2 * 2 ≡ to = cc in omega arith

pub lies_even : (base : ℕ) (all : List ListingLine) (name : Name) (to : ℕ) → are_fair all all ≡ true → base % 2 ≡ 0 → lies_in base all name ≡ Some to → to % 2 ≡ 0
lies_even base all name to f h e = lies_even_by (label_address name base all) (set_address name all) to (λ n g. label_even all name base n all f h g) e

-- ---- what an instruction mentions has an address ----

pub unlabelled : (name : Name) (at : ℕ) (ls : List ListingLine) → label_address name at ls ≡ None → from_label name ls ≡ []
unlabelled name at [] e = refl
unlabelled name at (l ∷ ls) e = elim (cases_Bool (is_among name l.names)) [
  | inl t ↦ absurd (let bad : Some at ≡ None = rw t at e in cc)
  | inr t ↦ rw t (unlabelled name (at + size_at l.statement at) ls (rw t at e))
]

no_code : (name : Name) (places : List Place) (p at : ℕ) (ls : List ListingLine) → label_address name at ls ≡ None → place_among name places (labels_from p ls) ≡ None
no_code name places p at [] e = refl
no_code name places p at (l ∷ ls) e = elim (cases_Bool (is_among name l.names)) [
  | inl t ↦ absurd (let bad : Some at ≡ None = rw t at e in cc)
  | inr t ↦ skipped name places p l.names _ t ∙ no_code name places (p + length (places_in l.statement)) (at + size_at l.statement at) ls (rw t at e)
]

or_else_none : (a b : Option ℕ) → or_else a b ≡ None → a ≡ None
or_else_none None b e = refl
or_else_none (Some a) b e = absurd (let bad : Some a ≡ None = e in cc)

code_found : (base : ℕ) (all : List ListingLine) (name : Name) → is_code_label all name ≡ true → lies_in base all name ≡ None → ⊥
code_found base all name c e = true≢false (sym c ∙ ap is_some (no_code name (places_of all) 0 base all (or_else_none (label_address name base all) (cleared (set_address name all)) e)))

literal_found : (base : ℕ) (all : List ListingLine) (m : Mention) → is_literal all m ≡ true → lies_in base all m.name ≡ None → ⊥
literal_found base all m c e =
    let none = unlabelled m.name base all (or_else_none (label_address m.name base all) (cleared (set_address m.name all)) e) in
    let a = and_parts (m.plus % 4 == 0) (nat_le m.plus 1020 && reaches (from_label m.name all) (m.plus / 4)) c in
    let b = and_parts (nat_le m.plus 1020) (reaches (from_label m.name all) (m.plus / 4)) a.1 in
    true≢false (sym b.1 ∙ ap (λ (ls : List ListingLine). reaches ls (m.plus / 4)) none)

-- an instruction that mentions a name without an address is a branch or a call
pub lost_leaves : (base : ℕ) (all : List ListingLine) (i : Instr) (m : Mention) → is_fair all (Instruction i (Some m)) ≡ true → lies_in base all m.name ≡ None → may_leave i ≡ true
lost_leaves base all i m f e = by i f where
  by : (j : Instr) → is_fair all (Instruction j (Some m)) ≡ true → may_leave j ≡ true
  by (instr.Branch d) g = refl
  by (instr.Call d) g = refl
  by (instr.BranchIf c d) g = absurd (code_found base all m.name (and_parts (is_whole (instr.BranchIf c d) (label_in (Some m))) (is_code_label all m.name) g).1 e)
  by (instr.Literal t d) g = absurd (literal_found base all m (and_parts (is_whole (instr.Literal t d) (label_in (Some m))) (is_literal all m) g).1 e)
  by (instr.Address t d) g = absurd (literal_found base all m (and_parts (is_whole (instr.Address t d) (label_in (Some m))) (is_literal all m) g).1 e)
  by j g = absurd (true≢false (sym g))

-- ---- what is mentioned is in reach ----

pub record Reach (at to : ℕ) (i : Instr) : Type 0 where
  pub fault : aim_fault at i (Some to) 0 ≡ None
  pub even : to % 2 ≡ 0
  pub small : to < 2 ^ 32

abbrev fault_to : ℕ → ℕ → Option Fault
fault_to at n =
    if n % 4 == 0 then (if nat_le (literal_base at) n && nat_le n (literal_base at + 1020) then None else Some (Range (less n (literal_base at)))) else Some (Align n)

record Literal (at n : ℕ) : Type 0 where
  four : n % 4 ≡ 0
  least : literal_base at ≤ n
  most : n ≤ literal_base at + 1020

literal_bounds : (at n : ℕ) → fault_to at n ≡ None → Literal at n
literal_bounds at n e = elim (cases_Bool (n % 4 == 0)) [
  | inr h ↦ absurd (let bad : Some (Align n) ≡ None = rw h at e in cc)
  | inl h ↦ elim (cases_Bool (nat_le (literal_base at) n && nat_le n (literal_base at + 1020))) [
    | inr g ↦ absurd (let bad : Some (Range (less n (literal_base at))) ≡ None = rw (h, g) at e in cc)
    | inl g ↦
        let both = and_parts (nat_le (literal_base at) n) (nat_le n (literal_base at + 1020)) g in
        record { four = eqb-true (n % 4) 0 h; least = leb-true (literal_base at) n both.0; most = leb-true n (literal_base at + 1020) both.1 }
  ]
]

literal_reach : (at to plus : ℕ) (i : Instr) → at ≤ 2 ^ 29 → literal_fault at (Some to) plus ≡ None → (aim_fault at i (Some (to + plus)) 0 ≡ fault_to at (to + plus + 0)) → Reach at (to + plus) i
literal_reach at to plus i small e is =
    let l = literal_bounds at (to + plus) e in
    let four = l.four in
    let most = l.most in
    record {
      fault = is ∙ ap (fault_to at) (let z : to + plus + 0 ≡ to + plus = omega arith in z) ∙ e;
      even = omega arith;
      small = omega arith;
    }

pub no_plus : (b : Bool) (name : Name) (plus : ℕ) → (b && is_label (Some (name, plus))) ≡ true → plus ≡ 0
no_plus b name plus e =
    let a = and_parts b (is_label (Some (name, plus))) e in
    eqb-true plus 0 (and_parts (is_name name) (plus == 0) a.1).1

branch_limit : (half at to : ℕ) → branch_fault half at (Some to) ≡ None → to < at + 4 + 2 * half
branch_limit half at to e = elim (cases_Bool (nat_lt to (branch_base at + 2 * half) && nat_le (branch_base at) (to + 2 * half))) [
  | inr g ↦ absurd (let bad : Some (Range (distance at to)) ≡ None = rw g at e in cc)
  | inl g ↦ ltb-true to (branch_base at + 2 * half) (and_parts (nat_lt to (branch_base at + 2 * half)) (nat_le (branch_base at) (to + 2 * half)) g).0
]

branch_reach : (half at to plus : ℕ) (i : Instr) → half ≤ 8388608 → at ≤ 2 ^ 29 → to % 2 ≡ 0 → plus ≡ 0 → branch_fault half at (Some to) ≡ None → aim_fault at i (Some to) 0 ≡ None → Reach at (to + plus) i
branch_reach half at to plus i few low even z e f =
    let same : to ≡ to + plus = omega arith in
    let limit = branch_limit half at to e in
    record { fault = subst (λ (n : ℕ). aim_fault at i (Some n) 0 ≡ None) same f; even = omega arith; small = omega arith }

-- what a fair instruction mentions is in reach, where the layout has no fault
reach : (all : List ListingLine) (at to : ℕ) (i : Instr) (m : Mention) → at ≤ 2 ^ 29 → to % 2 ≡ 0 → is_fair all (Instruction i (Some m)) ≡ true → aim_fault at i (Some to) m.plus ≡ None → Reach at (to + m.plus) i
reach all at to i m low even f e = by i f e where
  by : (j : Instr) → is_fair all (Instruction j (Some m)) ≡ true → aim_fault at j (Some to) m.plus ≡ None → Reach at (to + m.plus) j
  by (instr.Literal t d) g h = literal_reach at to m.plus (instr.Literal t d) low h refl
  by (instr.Address t d) g h = literal_reach at to m.plus (instr.Address t d) low h refl
  by (instr.BranchIf c d) g h = branch_reach 128 at to m.plus (instr.BranchIf c d) (omega arith) low even (no_plus (d.field == 0) m.name m.plus (and_parts (is_whole (instr.BranchIf c d) (label_in (Some m))) (is_code_label all m.name) g).0) h h
  by (instr.Branch d) g h = branch_reach 1024 at to m.plus (instr.Branch d) (omega arith) low even (no_plus (d.field == 0) m.name m.plus (and_parts (is_whole (instr.Branch d) (label_in (Some m))) (is_aimed all (instr.Branch d) m) g).0) h h
  by (instr.Call d) g h = branch_reach 8388608 at to m.plus (instr.Call d) (omega arith) low even (no_plus (d.field == 0) m.name m.plus (and_parts (is_whole (instr.Call d) (label_in (Some m))) (is_aimed all (instr.Call d) m) g).0) h h
  by j g h = absurd (true≢false (sym g))

-- the mentioned name, given by equal bytes, has the address that was found
pub found_there : (base : ℕ) (all : List ListingLine) (m : Mention) (name : Name) (o : Option ℕ) → name ≡ m.name → o ≡ lies_in base all name → lies_in base all m.name ≡ o
found_there base all m name o e f = ap (lies_in base all) (sym e) ∙ sym f

pub reach_found : (base : ℕ) (all : List ListingLine) (at to : ℕ) (i : Instr) (m : Mention) → are_fair all all ≡ true → base % 2 ≡ 0 → at ≤ 2 ^ 29 → is_fair all (Instruction i (Some m)) ≡ true → instr_fault (lies_in base all) at i (Some m) ≡ None → lies_in base all m.name ≡ Some to
    → Reach at (to + m.plus) i
reach_found base all at to i m fair even low here fault found = reach all at to i m low (lies_even base all m.name to fair even found) here (ap (λ (o : Option ℕ). aim_fault at i o m.plus) (sym found) ∙ fault)
