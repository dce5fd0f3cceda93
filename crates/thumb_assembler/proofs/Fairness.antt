-- The lines that were read from a text are fair, and their number is bounded.
use Rattle.std.proofs.Common.{◌≡◌, ◌∙◌, inl, inr, ℕ, zero, suc, ◌+◌, ◌*◌, ◌%◌, ◌^◌, ◌≤◌, ◌==◌, ◌&&◌, Bool, true, false, List, [], ◌∷◌, map, length, refl, sym, ap, subst, arith, Option, Some, None, Ok, option_map}
use Rattle.std.specs.Prelude.{nat_lt, if◌then◌else◌, codes, option_and_then}
use Rattle.std.specs.Str.{bytes_eq}
use Rattle.std.proofs.lemmas.Bool.{cases_Bool, and_from}
use Rattle.std.proofs.lemmas.Nat.{pow-add}
use Rattle.ascii_scan.specs.Lines.{placed, placed_from, lines_of}
use Rattle.ascii_scan.specs.Numeral.{numeral}
use Rattle.ascii_scan.specs.Tokens.{front, rest, is_blank, tokens}
use Rattle.ascii_scan.specs.Names.{is_name_byte}
use Rattle.std.proofs.Math.Bool.{or-true}
use Rattle.thumb_syntax.specs.Operands.{is_name}
use Rattle.thumb_syntax.specs.Rows.{Shown, reading}
use Rattle.thumb_syntax.specs.Whole.{is_whole}
use Rattle.thumb_syntax.proofs.ReadWhole.{reading_is_whole}
use Rattle.thumb_model.specs.Listing.{Name, Value, Statement, Nothing, Instruction, Words, Aligns, Sets, ListingLine}
use Rattle.listing_parser.specs.declared.directive.Directive.{Directive}
use Rattle.listing_parser.specs.declared.directive.Directive.TheVariants as directive
use Rattle.listing_parser.specs.Grammar.{Bare, Read, labels_at_front, body, code, read_lines, said_of, bare, most_lines}
use Rattle.listing_parser.specs.Directives.{Said, Plain, ByKind, Told, Unmarked, NextMarked, NameMarked, says, says_if, marks, size_of, aligns_at_most, aligned, sets, sets_by, typed_by, directed, directed_by, directive_named, is_word_byte, is_bare, is_alone, is_code_section, instruction, said, statement}
use Rattle.listing_parser.specs.Values.{values, alone, gapped, pair}
use Rattle.listing_parser.specs.Parsing.{IsListing}
use Rattle.listing_parser.specs.Targets.{is_aimed_at, is_on_target, first_target}
use Rattle.listing_parser.proofs.PrintLemmas.{of_checked, cut, none_read}
use Rattle.listing_parser.proofs.FewLemmas.{all_few}
use Rattle.thumb_assembler.specs.Fair.{label_in, keeps_even, is_fair, are_fair}

-- ---- what a line's reader ensures ----

data IsRead (s : Shown) : Type 0 where
  read_as : (bytes : List ℕ) → reading bytes ≡ Some s → IsRead s

-- an alignment keeps addresses even, and an instruction comes from `reading`
WellSaid : Said → Type 0
WellSaid (Plain (Aligns size most)) = keeps_even size ≡ true
WellSaid (ByKind s) = IsRead s
WellSaid k = Unit {0}

Sound : Option Told → Type 0
Sound o = (t : Told) → o ≡ Some t → WellSaid t.said

sound_none : Sound None
unfolding Sound
sound_none t e = absurd (let bad : None ≡ Some t = e in cc)

sound_some : (x : Told) → WellSaid x.said → Sound (Some x)
unfolding Sound
sound_some x h t e = let same : Some x ≡ Some t = e in let is : x ≡ t = cc in subst (λ (y : Told). WellSaid y.said) is h

even_pow : (n : ℕ) → 2 ^ suc n % 2 ≡ 0
even_pow n = let e : 2 ^ suc n ≡ 2 ^ n * 2 = ap (λ (j : ℕ). 2 ^ j) (let s : suc n ≡ n + 1 = omega arith in s) ∙ pow-add 2 n 1 in omega arith

power_even : (n : ℕ) → keeps_even (2 ^ n) ≡ true
power_even zero = refl
power_even (suc n) = rw (even_pow n) (or-true (2 ^ suc n == 1))

size_even : (is_align : Bool) (n size : ℕ) → size_of is_align n ≡ Some size → keeps_even size ≡ true
size_even is_align n size e = elim (cases_Bool (nat_lt 8 n)) [
  | inl h ↦ absurd (let bad : None ≡ Some size = rw h at e in cc)
  | inr h ↦ elim (cases_Bool (is_align && (n == 0))) [
    | inl g ↦ let same : Some 4 ≡ Some size = rw (h, g) at e in let is : 4 ≡ size = cc in subst (λ (k : ℕ). keeps_even k ≡ true) is refl
    | inr g ↦ let same : Some (2 ^ n) ≡ Some size = rw (h, g) at e in let is : 2 ^ n ≡ size = cc in subst (λ (k : ℕ). keeps_even k ≡ true) is (power_even n)
  ]
]

whole_even : (is_align : Bool) (o : Option ℕ) (size : ℕ) → option_and_then (size_of is_align) o ≡ Some size → keeps_even size ≡ true
whole_even is_align None size e = absurd (let bad : None ≡ Some size = e in cc)
whole_even is_align (Some n) size e = size_even is_align n size e

sound_aligns : (a m : Option ℕ) → ((size : ℕ) → a ≡ Some size → keeps_even size ≡ true) → Sound (aligns_at_most a m)
unfolding WellSaid
sound_aligns None m h = sound_none
sound_aligns (Some s) None h = sound_none
sound_aligns (Some s) (Some m) h = sound_some _ (h s refl)

sound_aligned : (b : Bool) (a : Option (List ℕ)) (g : Option (List ℕ × List ℕ)) → Sound (aligned b a g)
sound_aligned b (Some n) g = sound_aligns _ _ (whole_even b (numeral n))
sound_aligned b None None = sound_none
sound_aligned b None (Some r) = sound_aligns _ _ (whole_even b (numeral r.0))

sound_if : (b : Bool) (t : Told) → WellSaid t.said → Sound (says_if b t)
sound_if true t h = sound_some t h
sound_if false t h = sound_none

sound_sets : (name : Name) (o : Option ℕ) → Sound (sets name o)
unfolding WellSaid
sound_sets name None = sound_none
sound_sets name (Some n) = by (is_name name) where
  by : (b : Bool) → Sound (if b then Some (says (Sets name n)) else None)
  by true = sound_some _ tt
  by false = sound_none

sound_set : (o : Option (List ℕ × List ℕ)) → Sound (sets_by o)
sound_set None = sound_none
sound_set (Some r) = sound_sets r.0 _

sound_typed : (o : Option (List ℕ × List ℕ)) → Sound (Some (typed_by o))
unfolding WellSaid
sound_typed None = sound_some _ tt
sound_typed (Some r) = by (bytes_eq r.1 (codes "%function") && is_name r.0) where
  by : (b : Bool) → Sound (Some (if b then marks (NameMarked r.0) else says Nothing))
  by true = sound_some _ tt
  by false = sound_some _ tt

sound_words : (o : Option (List Value)) → Sound (option_map (λ vs. says (Words vs)) o)
unfolding WellSaid
sound_words None = sound_none
sound_words (Some vs) = sound_some _ tt

nothing_well : WellSaid (Plain Nothing)
unfolding WellSaid
nothing_well = tt

sound_directed : (d : Directive) (bs : List ℕ) → Sound (directed d bs)
sound_directed directive.Word bs = sound_words (values (tokens bs))
sound_directed directive.Align bs = sound_aligned true (alone (tokens bs)) (gapped (tokens bs))
sound_directed directive.PowerAlign bs = sound_aligned false (alone (tokens bs)) (gapped (tokens bs))
sound_directed directive.Set bs = sound_set (pair (tokens bs))
sound_directed directive.ThumbFunc bs = sound_if (is_bare (tokens bs)) (marks NextMarked) nothing_well
sound_directed directive.Type bs = sound_typed (pair (tokens bs))
sound_directed directive.Syntax bs = sound_if (is_alone (codes "unified") (tokens bs)) (says Nothing) nothing_well
sound_directed directive.Code bs = sound_if (is_alone (codes "16") (tokens bs)) (says Nothing) nothing_well
sound_directed directive.Bare bs = sound_if (is_bare (tokens bs)) (says Nothing) nothing_well
sound_directed directive.Section bs = sound_if (is_code_section (front is_name_byte (rest is_blank bs))) (says Nothing) nothing_well
sound_directed directive.Kept bs = sound_some (says Nothing) nothing_well

sound_directed_by : (o : Option Directive) (bs : List ℕ) → Sound (directed_by o bs)
sound_directed_by None bs = sound_none
sound_directed_by (Some d) bs = sound_directed d bs

sound_instruction : (bs : List ℕ) → Sound (instruction bs)
unfolding instruction WellSaid
sound_instruction bs = by (reading bs) refl where
  by : (o : Option Shown) → reading bs ≡ o → Sound (option_map (λ (s : Shown). (let x : Told = record { said = ByKind s; mark = Unmarked } in x)) o)
  by None e = sound_none
  by (Some s) e = sound_some _ (read_as bs e)

sound_said : (bs : List ℕ) → Sound (said bs)
sound_said [] = sound_some (says Nothing) nothing_well
sound_said (b ∷ bs) = by (b == 46) where
  by : (is : Bool) → Sound (if is then directed_by (directive_named (front is_word_byte (b ∷ bs))) (rest is_word_byte (b ∷ bs)) else instruction (b ∷ bs))
  by true = sound_directed_by (directive_named (front is_word_byte (b ∷ bs))) (rest is_word_byte (b ∷ bs))
  by false = sound_instruction (b ∷ bs)

sound_statement : (bs : List ℕ) → Sound (statement bs)
unfolding statement
sound_statement bs = sound_said (rest is_blank bs)

-- ---- lines ----

AreWell : List Read → Type 0
AreWell [] = Unit {0}
AreWell (r ∷ rs) = WellSaid r.line.said × AreWell rs

all_well : (n start : ℕ) (ts : List (List ℕ)) (rs : List Read) → read_lines (placed_from n start ts) ≡ Ok rs → AreWell rs
unfolding AreWell Sound
all_well n start [] rs e = subst AreWell (sym (none_read rs e)) tt
all_well n start (t ∷ ts) rs e =
    let c = cut (placed n start t) (placed_from (n + 1) (start + length t) ts) rs e in
    let o = (of_checked (placed n start t) c.first c.checked).line in
    let here : WellSaid o.told.said = sound_statement (labels_at_front (code (body (placed n start t)))).1 o.told o.is_told in
    subst AreWell (sym c.is) (subst WellSaid (sym o.said) here, all_well (n + 1) (start + length t) ts c.others c.read)

statement_fair : (all : List ListingLine) (marked : List Name) (s : Statement) → WellSaid (said_of s) → is_on_target all marked s ≡ true → is_fair all s ≡ true
unfolding WellSaid
statement_fair all marked Nothing h t = refl
statement_fair all marked (Instruction i m) h t = elim h [
  | read_as bytes e ↦ and_from (is_whole i (label_in m)) (is_aimed_at all i m) (reading_is_whole bytes i (label_in m) e) t
]
statement_fair all marked (Words vs) h t = refl
statement_fair all marked (Aligns size most) h t = h
statement_fair all marked (Sets name address) h t = refl

lines_fair : (all : List ListingLine) (marked : List Name) (n : ℕ) (rs : List Read) (ls : List ListingLine) → map (λ (r : Read). r.line) rs ≡ map bare ls → AreWell rs → first_target all marked n ls ≡ None → are_fair all ls ≡ true
unfolding AreWell
lines_fair all marked n rs [] e w t = refl
lines_fair all marked n [] (l ∷ ls) e w t = absurd (let bad : [] ≡ bare l ∷ map bare ls = e in cc)
lines_fair all marked n (r ∷ rs) (l ∷ ls) e w t =
    let both : r.line ∷ map (λ (r : Read). r.line) rs ≡ bare l ∷ map bare ls = e in
    let here : r.line ≡ bare l = cc in
    let rest : map (λ (r : Read). r.line) rs ≡ map bare ls = cc in
    elim (cases_Bool (is_on_target all marked l.statement)) [
      | inl on ↦
          and_from (is_fair all l.statement) (are_fair all ls)
          (statement_fair all marked l.statement (subst WellSaid (ap (λ (b : Bare). b.said) here) w.0) on)
          (lines_fair all marked (n + 1) rs ls rest w.1 (rw on at t))
      | inr off ↦ absurd (let bad : Some n ≡ None = rw off at t in cc)
    ]

pub listed_fair : (bytes : List ℕ) (lines : List ListingLine) → IsListing bytes lines → are_fair lines lines ≡ true
listed_fair bytes lines h = lines_fair lines _ 1 h.reads lines h.are.same (all_well 1 0 (lines_of bytes) h.reads h.are.read) h.aimed

length_lines : (rs : List Read) (ls : List ListingLine) → map (λ (r : Read). r.line) rs ≡ map bare ls → length ls ≡ length rs
length_lines [] [] e = refl
length_lines [] (l ∷ ls) e = absurd (let bad : [] ≡ bare l ∷ map bare ls = e in cc)
length_lines (r ∷ rs) [] e = absurd (let bad : r.line ∷ map (λ (r : Read). r.line) rs ≡ [] = e in cc)
length_lines (r ∷ rs) (l ∷ ls) e = ap suc (length_lines rs ls (let both : r.line ∷ map (λ (r : Read). r.line) rs ≡ bare l ∷ map bare ls = e in cc))

pub few_lines : (bytes : List ℕ) (lines : List ListingLine) → IsListing bytes lines → length lines ≤ most_lines
few_lines bytes lines h =
    let few = all_few 1 0 (lines_of bytes) h.reads h.are.read (omega arith) in
    let same = length_lines h.reads lines h.are.same in
    omega (arith, few.0)
