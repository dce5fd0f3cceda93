-- A text that is read has fewer than 2^32 places.
use Rattle.std.proofs.Common.{◌≡◌, ◌∙◌, inl, inr, ℕ, zero, suc, ◌+◌, ◌*◌, ◌^◌, ◌<◌, ◌≤◌, ◌==◌, ◌&&◌, Bool, true, false, List, [], ◌∷◌, map, length, refl, sym, ap, arith, ltb-false, Option, Some, None, Ok, option_map}
use Rattle.std.specs.Prelude.{nat_lt, if◌then◌else◌, codes}
use Rattle.std.specs.Str.{bytes_eq}
use Rattle.std.proofs.lemmas.Bool.{cases_Bool, or_parts}
use Rattle.std.proofs.lemmas.List.{length-append}
use Rattle.ascii_scan.specs.Lines.{Placed, placed, placed_from, lines_of, lines_in}
use Rattle.ascii_scan.specs.Tokens.{Token, word, mark, front, rest, is_blank, is_mark, begins_inner, grown, tokens}
use Rattle.ascii_scan.specs.Names.{is_name_byte}
use Rattle.thumb_syntax.specs.Operands.{is_name}
use Rattle.thumb_syntax.specs.Rows.{Shown, reading}
use Rattle.thumb_model.proofs.Lists.{length_map}
use Rattle.thumb_model.specs.Listing.{Name, Value, Statement, Nothing, Instruction, Words, Aligns, Sets, ListingLine, Word, places_in, places_of}
use Rattle.listing_parser.specs.declared.directive.Directive.{Directive}
use Rattle.listing_parser.specs.declared.directive.Directive.TheVariants as directive
use Rattle.listing_parser.specs.Grammar.{Bare, Read, begins_label, from_colon, without_first, without_return, labels_within, labels_at_front, is_no_at, begins_hash, body, code, read_lines, said_of, bare, most_lines}
use Rattle.listing_parser.specs.Directives.{Unmarked, NextMarked, NameMarked, Said, Plain, ByKind, Told, says, says_if, marks, aligns_at_most, aligned, sets, sets_by, typed_by, directed, directed_by, directive_named, is_word_byte, is_bare, is_alone, is_code_section, instruction, said, statement}
use Rattle.listing_parser.specs.Values.{value, values, onto_values, alone, gapped, pair}
use Rattle.listing_parser.proofs.ReadingLemmas.{rest_short, after_shorter}
use Rattle.listing_parser.proofs.PrintLemmas.{OfLine, of_checked, cut, none_read}
use Rattle.listing_parser.proofs.CanonicalLines.{front_short}

-- how many places a statement has
pub count : Said → ℕ
count (Plain s) = length (places_in s)
count (ByKind s) = 1

pub counts : List Read → ℕ
counts [] = 0
counts (r ∷ rs) = count r.line.said + counts rs

-- ---- fewer values than bytes ----

grown_short : (b : ℕ) (ts : List Token) → length (grown b ts) ≤ suc (length ts)
grown_short b [] = omega arith
grown_short b (word w ∷ ts) = omega arith
grown_short b (mark m ∷ ts) = omega arith

pub tokens_short : (bs : List ℕ) → length (tokens bs) ≤ length bs
unfolding tokens
tokens_short [] = omega arith
tokens_short (b ∷ bs) = elim (cases_Bool (is_blank b)) [
  | inl e ↦ rw e (omega (arith, tokens_short bs))
  | inr e ↦ elim (cases_Bool (is_mark b)) [
    | inl f ↦ rw (e, f) (omega (arith, tokens_short bs))
    | inr f ↦ elim (cases_Bool (begins_inner bs)) [
      | inl g ↦ rw (e, f, g) (omega (arith, tokens_short bs, grown_short b (tokens bs)))
      | inr g ↦ rw (e, f, g) (omega (arith, tokens_short bs))
    ]
  ]
]

onto_short : (n : ℕ) (a : Option Value) (o : Option (List Value)) (vs : List Value) → ((ws : List Value) → o ≡ Some ws → length ws ≤ n) → onto_values a o ≡ Some vs → length vs ≤ suc n
onto_short n None o vs f e = absurd (let bad : None ≡ Some vs = e in cc)
onto_short n (Some v) None vs f e = absurd (let bad : None ≡ Some vs = e in cc)
onto_short n (Some v) (Some ws) vs f e =
    let both : Some (v ∷ ws) ≡ Some vs = e in
    let is : v ∷ ws ≡ vs = cc in
    omega (arith, f ws refl, ap (λ (xs : List Value). length xs) is)

values_short : (ts : List Token) (vs : List Value) → values ts ≡ Some vs → length vs ≤ length ts
unfolding values
values_short [] vs e = absurd (let bad : None ≡ Some vs = e in cc)
values_short (mark m ∷ ts) vs e = absurd (let bad : None ≡ Some vs = e in cc)
values_short (word w ∷ []) vs e = onto_short 0 (value w) (Some []) vs (λ ws f. let same : Some [] ≡ Some ws = f in let is : [] ≡ ws = cc in omega (arith, ap (λ (xs : List Value). length xs) is)) e
values_short (word w ∷ word v ∷ ts) vs e = absurd (let bad : None ≡ Some vs = e in cc)
values_short (word w ∷ mark m ∷ ts) vs e = elim (cases_Bool (m == 44)) [
  | inl h ↦ let all = onto_short (length ts) (value w) (values ts) vs (values_short ts) (rw h at e) in omega arith
  | inr h ↦ absurd (let bad : None ≡ Some vs = rw h at e in cc)
]

-- ---- what other directives say has no place ----

Quiet : Option Told → Type 0
Quiet o = (t : Told) → o ≡ Some t → count t.said ≡ 0

quiet_none : Quiet None
unfolding Quiet
quiet_none t e = absurd (let bad : None ≡ Some t = e in cc)

quiet_some : (x : Told) → count x.said ≡ 0 → Quiet (Some x)
unfolding Quiet
quiet_some x h t e = let same : Some x ≡ Some t = e in let is : x ≡ t = cc in ap (λ (y : Told). count y.said) (sym is) ∙ h

quiet_align : (a m : Option ℕ) → Quiet (aligns_at_most a m)
unfolding count
quiet_align None m = quiet_none
quiet_align (Some s) None = quiet_none
quiet_align (Some s) (Some m) = quiet_some _ refl

quiet_aligned : (b : Bool) (a : Option (List ℕ)) (g : Option (List ℕ × List ℕ)) → Quiet (aligned b a g)
quiet_aligned b (Some n) g = quiet_align _ _
quiet_aligned b None None = quiet_none
quiet_aligned b None (Some r) = quiet_align _ _

quiet_if : (b : Bool) (t : Told) → count t.said ≡ 0 → Quiet (says_if b t)
quiet_if true t h = quiet_some t h
quiet_if false t h = quiet_none

quiet_sets : (name : Name) (o : Option ℕ) → Quiet (sets name o)
unfolding count
quiet_sets name None = quiet_none
quiet_sets name (Some n) = by (is_name name) where
  by : (b : Bool) → Quiet (if b then Some (says (Sets name n)) else None)
  by true = quiet_some _ refl
  by false = quiet_none

quiet_set : (o : Option (List ℕ × List ℕ)) → Quiet (sets_by o)
quiet_set None = quiet_none
quiet_set (Some r) = quiet_sets r.0 _

quiet_typed : (o : Option (List ℕ × List ℕ)) → Quiet (Some (typed_by o))
unfolding count
quiet_typed None = quiet_some _ refl
quiet_typed (Some r) = by (bytes_eq r.1 (codes "%function") && is_name r.0) where
  by : (b : Bool) → Quiet (Some (if b then marks (NameMarked r.0) else says Nothing))
  by true = quiet_some _ refl
  by false = quiet_some _ refl

words_few : (n : ℕ) (o : Option (List Value)) (t : Told) → ((vs : List Value) → o ≡ Some vs → length vs ≤ n) → option_map (λ vs. says (Words vs)) o ≡ Some t → count t.said ≤ n
unfolding count
words_few n None t f e = absurd (let bad : None ≡ Some t = e in cc)
words_few n (Some vs) t f e =
    let same : Some (says (Words vs)) ≡ Some t = e in
    let is : says (Words vs) ≡ t = cc in
    omega (arith, f vs refl, length_map Word vs, ap (λ (x : Told). count x.said) is)

quietly : (o : Option Told) (n : ℕ) (t : Told) → Quiet o → o ≡ Some t → count t.said ≤ n
unfolding Quiet
quietly o n t q e = omega (arith, q t e)

directed_few : (d : Directive) (bs : List ℕ) (t : Told) → directed d bs ≡ Some t → count t.said ≤ length bs
unfolding count
directed_few directive.Word bs t e = words_few (length bs) (values (tokens bs)) t (λ vs h. let short = values_short (tokens bs) vs h in let few = tokens_short bs in omega arith) e
directed_few directive.Align bs t e = quietly _ (length bs) t (quiet_aligned true (alone (tokens bs)) (gapped (tokens bs))) e
directed_few directive.PowerAlign bs t e = quietly _ (length bs) t (quiet_aligned false (alone (tokens bs)) (gapped (tokens bs))) e
directed_few directive.Set bs t e = quietly _ (length bs) t (quiet_set (pair (tokens bs))) e
directed_few directive.ThumbFunc bs t e = quietly _ (length bs) t (quiet_if (is_bare (tokens bs)) (marks NextMarked) refl) e
directed_few directive.Type bs t e = quietly _ (length bs) t (quiet_typed (pair (tokens bs))) e
directed_few directive.Syntax bs t e = quietly _ (length bs) t (quiet_if (is_alone (codes "unified") (tokens bs)) (says Nothing) refl) e
directed_few directive.Code bs t e = quietly _ (length bs) t (quiet_if (is_alone (codes "16") (tokens bs)) (says Nothing) refl) e
directed_few directive.Bare bs t e = quietly _ (length bs) t (quiet_if (is_bare (tokens bs)) (says Nothing) refl) e
directed_few directive.Section bs t e = quietly _ (length bs) t (quiet_if (is_code_section (front is_name_byte (rest is_blank bs))) (says Nothing) refl) e
directed_few directive.Kept bs t e = quietly _ (length bs) t (quiet_some (says Nothing) refl) e

directed_by_few : (o : Option Directive) (bs : List ℕ) (t : Told) → directed_by o bs ≡ Some t → count t.said ≤ length bs
directed_by_few None bs t e = absurd (let bad : None ≡ Some t = e in cc)
directed_by_few (Some d) bs t e = directed_few d bs t e

instruction_by : (o : Option Shown) (t : Told) → option_map (λ (s : Shown). (let x : Told = record { said = ByKind s; mark = Unmarked } in x)) o ≡ Some t → count t.said ≡ 1
unfolding count
instruction_by None t e = absurd (let bad : None ≡ Some t = e in cc)
instruction_by (Some s) t e =
    let x : Told = record { said = ByKind s; mark = Unmarked } in
    let same : Some x ≡ Some t = e in
    let is : x ≡ t = cc in
    ap (λ (y : Told). count y.said) (sym is)

instruction_one : (bs : List ℕ) (t : Told) → instruction bs ≡ Some t → count t.said ≡ 1
unfolding instruction
instruction_one bs t e = instruction_by (reading bs) t e

no_place : count (Plain Nothing) ≡ 0
unfolding count
no_place = refl

said_few : (bs : List ℕ) (t : Told) → said bs ≡ Some t → count t.said ≤ suc (length bs)
said_few [] t e = quietly (Some (says Nothing)) 1 t (quiet_some (says Nothing) no_place) e
said_few (b ∷ bs) t e = elim (cases_Bool (b == 46)) [
  | inl h ↦ omega (arith, directed_by_few (directive_named (front is_word_byte (b ∷ bs))) (rest is_word_byte (b ∷ bs)) t (rw h at e), rest_short is_word_byte (b ∷ bs))
  | inr h ↦ omega (arith, instruction_one (b ∷ bs) t (rw h at e))
]

statement_few : (bs : List ℕ) (t : Told) → statement bs ≡ Some t → count t.said ≤ suc (length bs)
unfolding statement
statement_few bs t e = omega (arith, said_few (rest is_blank bs) t e, rest_short is_blank bs)

-- ---- a line is no longer without its comment and labels ----

pub code_short : (bs : List ℕ) → length (code bs) ≤ length bs
unfolding code
code_short bs = elim (cases_Bool (begins_hash (rest is_blank bs))) [
  | inl e ↦ rw e (omega arith)
  | inr e ↦ rw e (front_short is_no_at bs)
]

return_short : (bs : List ℕ) → length (without_return bs) ≤ length bs
return_short [] = omega arith
return_short (b ∷ []) = elim (cases_Bool (b == 13)) [ inl e ↦ rw e (omega arith) | inr e ↦ rw e (omega arith) ]
return_short (b ∷ c ∷ bs) = omega (arith, return_short (c ∷ bs))

pub body_short : (l : Placed) → length (body l) ≤ length l.text
body_short l = by l.is_ended where
  by : (b : Bool) → length (if b then without_return l.text else l.text) ≤ length l.text
  by true = return_short l.text
  by false = omega arith

within_short : (n : ℕ) (bs : List ℕ) → length (labels_within n bs).1 ≤ length bs
unfolding labels_within
within_short zero bs = omega arith
within_short (suc n) bs = elim (cases_Bool (begins_label bs)) [
  | inl e ↦ let shorter = after_shorter bs e in rw e (omega (arith, within_short n (without_first (from_colon bs))))
  | inr e ↦ rw e (omega arith)
]

pub labels_short : (bs : List ℕ) → length (labels_at_front bs).1 ≤ length bs
unfolding labels_at_front
labels_short bs = within_short (length bs) bs

line_few : (l : Placed) (r : Read) → OfLine l r → count r.line.said ≤ suc (length l.text)
line_few l r o =
    let same = ap (λ (s : Said). count s) o.said in
    let few = statement_few (labels_at_front (code (body l))).1 o.told o.is_told in
    let a = labels_short (code (body l)) in
    let b = code_short (body l) in
    let c = body_short l in
    omega arith

-- ---- all lines ----

pub all_few : (n start : ℕ) (ts : List (List ℕ)) (rs : List Read) → read_lines (placed_from n start ts) ≡ Ok rs → n ≤ most_lines + 1 → (length rs + n ≤ most_lines + 1) × (counts rs ≤ 1025 * length rs)
unfolding counts
all_few n start [] rs e h =
    let none = none_read rs e in
    (omega (arith, ap (λ (xs : List Read). length xs) none), omega (arith, ap counts none))
all_few n start (t ∷ ts) rs e h =
    let l = placed n start t in
    let c = cut (placed n start t) (placed_from (n + 1) (start + length t) ts) rs e in
    let o = of_checked (placed n start t) c.first c.checked in
    let bounds = or_parts (nat_lt most_lines n) _ o.within in
    let number = ltb-false most_lines n bounds.0 in
    let short = ltb-false 1024 _ bounds.1 in
    let few = line_few (placed n start t) c.first o.line in
    let next = all_few (n + 1) (start + length t) ts c.others c.read (omega arith) in
    let size = ap (λ (xs : List Read). length xs) c.is in
    let sum = ap counts c.is in
    (omega (arith, next.0), omega (arith, next.1))

count_said : (s : Statement) → count (said_of s) ≡ length (places_in s)
unfolding count
count_said Nothing = refl
count_said (Instruction i m) = refl
count_said (Words vs) = refl
count_said (Aligns size most) = refl
count_said (Sets name address) = refl

pub counts_places : {A : Type 0} (f : A → ListingLine) (g : A → Read) (xs : List A) → ((x : A) → (g x).line ≡ bare (f x)) → counts (map g xs) ≡ length (places_of (map f xs))
unfolding counts
counts_places f g [] same = refl
counts_places f g (x ∷ xs) same =
    let here = ap (λ (b : Bare). count b.said) (same x) ∙ count_said (f x).statement in
    let next = counts_places f g xs same in
    omega (arith, length-append (places_in (f x).statement) (places_of (map f xs)))

pub counts_bare : (rs : List Read) (ls : List ListingLine) → map (λ r. r.line) rs ≡ map bare ls → counts rs ≡ length (places_of ls)
unfolding counts
counts_bare [] [] e = refl
counts_bare [] (l ∷ ls) e = absurd (cc)
counts_bare (r ∷ rs) [] e = absurd (cc)
counts_bare (r ∷ rs) (l ∷ ls) e =
    let first : r.line ≡ bare l = cc in
    let others : map (λ r. r.line) rs ≡ map bare ls = cc in
    let here = ap (λ (b : Bare). count b.said) first ∙ count_said l.statement in
    let next = counts_bare rs ls others in
    omega (arith, length-append (places_in l.statement) (places_of ls))

pub few_places : {A : Type 0} (f : A → ListingLine) (g : A → Read) (bytes : List ℕ) (xs : List A) → ((x : A) → (g x).line ≡ bare (f x)) → read_lines (lines_in bytes) ≡ Ok (map g xs) → length (places_of (map f xs)) < 2 ^ 32
few_places f g bytes xs same e =
    let few = all_few 1 0 (lines_of bytes) (map g xs) e (omega arith) in
    let sum = counts_places f g xs same in
    omega (arith, few.0, few.1)
