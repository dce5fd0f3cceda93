-- A bound on the bytes that a listing takes: 255 for each line, as alignments pad, and 2 for each byte of its text, as a word of 4 takes two of these.
use Rattle.std.proofs.Common.{◌≡◌, inl, inr, ℕ, ◌+◌, ◌-◌, ◌*◌, ◌^◌, ◌≤◌, ◌==◌, ◌&&◌, Bool, true, false, List, [], ◌∷◌, map, length, refl, ap, arith, ltb-false, Option, Some, None, Ok, option_map}
use Rattle.std.specs.Prelude.{nat_lt, if◌then◌else◌, codes, option_and_then}
use Rattle.std.specs.Str.{bytes_eq}
use Rattle.std.proofs.lemmas.Bool.{cases_Bool}
use Rattle.std.specs.List.{concat}
use Rattle.std.proofs.lemmas.List.{length-append}
use Rattle.std.proofs.Math.Pow.{pow_mono}
use Rattle.ascii_scan.specs.Lines.{Placed, placed, placed_from, lines_of}
use Rattle.ascii_scan.specs.Names.{is_name_byte}
use Rattle.ascii_scan.specs.Numeral.{numeral}
use Rattle.ascii_scan.proofs.LineLemmas.{lines_join, content_short}
use Rattle.ascii_scan.specs.Tokens.{Token, word, mark, front, rest, is_blank, tokens}
use Rattle.thumb_instr.specs.declared.instr.Instr.{Instr}
use Rattle.thumb_instr.specs.declared.instr.Instr.TheVariants as instr
use Rattle.thumb_syntax.specs.Operands.{is_name}
use Rattle.thumb_syntax.specs.Rows.{Shown, reading}
use Rattle.thumb_model.specs.Listing.{Name, Value, Statement, Nothing, Instruction, Words, Aligns, Sets, ListingLine}
use Rattle.thumb_model.specs.Layout.{instr_size, size_at, end_of}
use Rattle.listing_parser.specs.declared.directive.Directive.{Directive}
use Rattle.listing_parser.specs.declared.directive.Directive.TheVariants as directive
use Rattle.listing_parser.specs.Values.{value, values, onto_values, alone, gapped, pair}
use Rattle.listing_parser.specs.Directives.{Unmarked, NextMarked, NameMarked, Said, Plain, ByKind, Told, says, says_if, marks, size_of, aligns_at_most, whole_size, aligned, sets, sets_by, typed_by, directed, directed_by, directive_named, is_word_byte, is_bare, is_alone, is_code_section, instruction, said, statement}
use Rattle.listing_parser.specs.Grammar.{Bare, Read, labels_at_front, body, code, read_lines, said_of, bare}
use Rattle.listing_parser.proofs.ReadingLemmas.{rest_short}
use Rattle.listing_parser.proofs.PrintLemmas.{OfLine, of_checked, cut, none_read}
use Rattle.listing_parser.proofs.FewLemmas.{tokens_short, labels_short, code_short, body_short, all_few}
use Rattle.label_layout.proofs.Shared.{padding_most}
use Rattle.listing_laws.specs.Limits.{TextsEndInCode}

-- ---- the most that a statement takes ----

abbrev pub most_of : Statement → ℕ
most_of Nothing = 0
most_of (Instruction i mention) = 4
most_of (Words vs) = 4 * length vs
most_of (Aligns size most) = size - 1
most_of (Sets name address) = 0

abbrev pub room : Said → ℕ
room (Plain s) = most_of s
room (ByKind s) = 4

abbrev pub rooms : List Read → ℕ
rooms [] = 0
rooms (r ∷ rs) = room r.line.said + rooms rs

-- an instruction
instr_small : (i : Instr) → instr_size i ≤ 4
instr_small (instr.Call d) = omega arith
instr_small i = omega arith

size_room : (s : Statement) (at : ℕ) → size_at s at ≤ room (said_of s)
size_room Nothing at = omega arith
size_room (Instruction i mention) at = instr_small i
size_room (Words vs) at = omega arith
size_room (Aligns size most) at = let h = padding_most size most at in omega arith
size_room (Sets name address) at = omega arith

-- ---- a value takes two bytes of a text ----

onto_half : (n : ℕ) (a : Option Value) (o : Option (List Value)) (vs : List Value) → ((ws : List Value) → o ≡ Some ws → 2 * length ws ≤ n) → onto_values a o ≡ Some vs → 2 * length vs ≤ 2 + n
onto_half n None o vs f e = absurd (let bad : None ≡ Some vs = e in cc)
onto_half n (Some v) None vs f e = absurd (let bad : None ≡ Some vs = e in cc)
onto_half n (Some v) (Some ws) vs f e =
    let both : Some (v ∷ ws) ≡ Some vs = e in
    let is : v ∷ ws ≡ vs = cc in
    let h = f ws refl in
    omega (arith, ap (λ (xs : List Value). length xs) is)

values_half : (ts : List Token) (vs : List Value) → values ts ≡ Some vs → 2 * length vs ≤ 1 + length ts
unfolding values
values_half [] vs e = absurd (let bad : None ≡ Some vs = e in cc)
values_half (mark m ∷ ts) vs e = absurd (let bad : None ≡ Some vs = e in cc)
values_half (word w ∷ []) vs e =
    let one = onto_half 0 (value w) (Some []) vs (λ ws f. let same : Some [] ≡ Some ws = f in let is : [] ≡ ws = cc in omega (arith, ap (λ (xs : List Value). length xs) is)) e in
    omega arith
values_half (word w ∷ word v ∷ ts) vs e = absurd (let bad : None ≡ Some vs = e in cc)
values_half (word w ∷ mark m ∷ ts) vs e = elim (cases_Bool (m == 44)) [
  | inl h ↦ let all = onto_half (1 + length ts) (value w) (values ts) vs (values_half ts) (rw h at e) in omega arith
  | inr h ↦ absurd (let bad : None ≡ Some vs = rw h at e in cc)
]

words_room : (n : ℕ) (o : Option (List Value)) (t : Told) → ((vs : List Value) → o ≡ Some vs → 2 * length vs ≤ 1 + n) → option_map (λ vs. says (Words vs)) o ≡ Some t → room t.said ≤ 2 * n + 255
words_room n None t f e = absurd (let bad : None ≡ Some t = e in cc)
words_room n (Some vs) t f e =
    let same : Some (says (Words vs)) ≡ Some t = e in
    let is : says (Words vs) ≡ t = cc in
    let h = f vs refl in
    omega (arith, ap (λ (x : Told). room x.said) is)

-- ---- what other directives take ----

Small : Option Told → Type 0
Small o = (t : Told) → o ≡ Some t → room t.said ≤ 255

small_none : Small None
unfolding Small
small_none t e = absurd (let bad : None ≡ Some t = e in cc)

small_some : (x : Told) → room x.said ≤ 255 → Small (Some x)
unfolding Small
small_some x h t e = let same : Some x ≡ Some t = e in let is : x ≡ t = cc in omega (arith, ap (λ (y : Told). room y.said) is)

fits_by : (b : Bool) (n s : ℕ) → n ≤ 8 → (if b then Some 4 else Some (2 ^ n)) ≡ Some s → s ≤ 256
fits_by true n s h e = let same : Some 4 ≡ Some s = e in let is : 4 ≡ s = cc in omega arith
fits_by false n s h e = let same : Some (2 ^ n) ≡ Some s = e in let is : 2 ^ n ≡ s = cc in let most : 2 ^ n ≤ 2 ^ 8 = pow_mono h in omega arith

fits : (b : Bool) (n s : ℕ) → size_of b n ≡ Some s → s ≤ 256
fits b n s e = elim (cases_Bool (nat_lt 8 n)) [
  | inl h ↦ absurd (let bad : None ≡ Some s = rw h at e in cc)
  | inr h ↦ fits_by (b && (n == 0)) n s (ltb-false 8 n h) (rw h at e)
]

whole_fits : (b : Bool) (o : Option ℕ) (s : ℕ) → option_and_then (size_of b) o ≡ Some s → s ≤ 256
whole_fits b None s e = absurd (let bad : None ≡ Some s = e in cc)
whole_fits b (Some n) s e = fits b n s e

small_align : (a m : Option ℕ) → ((s : ℕ) → a ≡ Some s → s ≤ 256) → Small (aligns_at_most a m)
small_align None m f = small_none
small_align (Some s) None f = small_none
small_align (Some s) (Some m) f = small_some (says (Aligns s m)) (let h = f s refl in omega arith)

small_aligned : (b : Bool) (a : Option (List ℕ)) (g : Option (List ℕ × List ℕ)) → Small (aligned b a g)
small_aligned b (Some n) g = small_align (whole_size b n) (whole_size b n) (whole_fits b (numeral n))
small_aligned b None None = small_none
small_aligned b None (Some r) = small_align (whole_size b r.0) (numeral r.1) (whole_fits b (numeral r.0))

small_if : (b : Bool) (t : Told) → room t.said ≤ 255 → Small (says_if b t)
small_if true t h = small_some t h
small_if false t h = small_none

small_sets : (name : Name) (o : Option ℕ) → Small (sets name o)
small_sets name None = small_none
small_sets name (Some n) = by (is_name name) where
  by : (b : Bool) → Small (if b then Some (says (Sets name n)) else None)
  by true = small_some _ (omega arith)
  by false = small_none

small_set : (o : Option (List ℕ × List ℕ)) → Small (sets_by o)
small_set None = small_none
small_set (Some r) = small_sets r.0 _

small_typed : (o : Option (List ℕ × List ℕ)) → Small (Some (typed_by o))
small_typed None = small_some _ (omega arith)
small_typed (Some r) = by (bytes_eq r.1 (codes "%function") && is_name r.0) where
  by : (b : Bool) → Small (Some (if b then marks (NameMarked r.0) else says Nothing))
  by true = small_some _ (omega arith)
  by false = small_some _ (omega arith)

within : (o : Option Told) (n : ℕ) (t : Told) → Small o → o ≡ Some t → room t.said ≤ 2 * n + 255
unfolding Small
within o n t small e = omega (arith, small t e)

-- ---- lines ----

directed_room : (d : Directive) (bs : List ℕ) (t : Told) → directed d bs ≡ Some t → room t.said ≤ 2 * length bs + 255
directed_room directive.Word bs t e = words_room (length bs) (values (tokens bs)) t (λ vs h. let half = values_half (tokens bs) vs h in let few = tokens_short bs in omega arith) e
directed_room directive.Align bs t e = within _ (length bs) t (small_aligned true (alone (tokens bs)) (gapped (tokens bs))) e
directed_room directive.PowerAlign bs t e = within _ (length bs) t (small_aligned false (alone (tokens bs)) (gapped (tokens bs))) e
directed_room directive.Set bs t e = within _ (length bs) t (small_set (pair (tokens bs))) e
directed_room directive.ThumbFunc bs t e = within _ (length bs) t (small_if (is_bare (tokens bs)) (marks NextMarked) (omega arith)) e
directed_room directive.Type bs t e = within _ (length bs) t (small_typed (pair (tokens bs))) e
directed_room directive.Syntax bs t e = within _ (length bs) t (small_if (is_alone (codes "unified") (tokens bs)) (says Nothing) (omega arith)) e
directed_room directive.Code bs t e = within _ (length bs) t (small_if (is_alone (codes "16") (tokens bs)) (says Nothing) (omega arith)) e
directed_room directive.Bare bs t e = within _ (length bs) t (small_if (is_bare (tokens bs)) (says Nothing) (omega arith)) e
directed_room directive.Section bs t e = within _ (length bs) t (small_if (is_code_section (front is_name_byte (rest is_blank bs))) (says Nothing) (omega arith)) e
directed_room directive.Kept bs t e = within _ (length bs) t (small_some (says Nothing) (omega arith)) e

directed_by_room : (o : Option Directive) (bs : List ℕ) (t : Told) → directed_by o bs ≡ Some t → room t.said ≤ 2 * length bs + 255
directed_by_room None bs t e = absurd (let bad : None ≡ Some t = e in cc)
directed_by_room (Some d) bs t e = directed_room d bs t e

small_by : (o : Option Shown) → Small (option_map (λ (s : Shown). (let x : Told = record { said = ByKind s; mark = Unmarked } in x)) o)
small_by None = small_none
small_by (Some s) = small_some _ (omega arith)

small_instruction : (bs : List ℕ) → Small (instruction bs)
unfolding instruction
small_instruction bs = small_by (reading bs)

said_room : (bs : List ℕ) (t : Told) → said bs ≡ Some t → room t.said ≤ 2 * length bs + 255
said_room [] t e = within (Some (says Nothing)) 0 t (small_some (says Nothing) (omega arith)) e
said_room (b ∷ bs) t e = elim (cases_Bool (b == 46)) [
  | inl h ↦ omega (arith, directed_by_room (directive_named (front is_word_byte (b ∷ bs))) (rest is_word_byte (b ∷ bs)) t (rw h at e), rest_short is_word_byte (b ∷ bs))
  | inr h ↦ within _ (length (b ∷ bs)) t (small_instruction (b ∷ bs)) (rw h at e)
]

statement_room : (bs : List ℕ) (t : Told) → statement bs ≡ Some t → room t.said ≤ 2 * length bs + 255
unfolding statement
statement_room bs t e = omega (arith, said_room (rest is_blank bs) t e, rest_short is_blank bs)

line_room : (l : Placed) (r : Read) → OfLine l r → room r.line.said ≤ 2 * length l.text + 255
line_room l r o =
    let same = ap (λ (s : Said). room s) o.said in
    let here = statement_room (labels_at_front (code (body l))).1 o.told o.is_told in
    let a = labels_short (code (body l)) in
    let b = code_short (body l) in
    let c = body_short l in
    omega arith

-- ---- all lines ----

all_room : (n start : ℕ) (ts : List (List ℕ)) (rs : List Read) → read_lines (placed_from n start ts) ≡ Ok rs → rooms rs ≤ 2 * length (concat ts) + 255 * length rs
all_room n start [] rs e = let none = none_read rs e in omega (arith, ap rooms none)
all_room n start (t ∷ ts) rs e =
    let c = cut (placed n start t) (placed_from (n + 1) (start + length t) ts) rs e in
    let o = of_checked (placed n start t) c.first c.checked in
    let here = line_room (placed n start t) c.first o.line in
    let short = content_short t in
    let joined = length-append t (concat ts) in
    let next = all_room (n + 1) (start + length t) ts c.others c.read in
    let size = ap (λ (xs : List Read). length xs) c.is in
    let sum = ap rooms c.is in
    omega arith

end_room : (at : ℕ) (rs : List Read) (ls : List ListingLine) → map (λ r. r.line) rs ≡ map bare ls → end_of at ls ≤ at + rooms rs
end_room at [] [] e = omega arith
end_room at [] (l ∷ ls) e = absurd (cc)
end_room at (r ∷ rs) [] e = absurd (cc)
end_room at (r ∷ rs) (l ∷ ls) e =
    let first : r.line ≡ bare l = cc in
    let others : map (λ r. r.line) rs ≡ map bare ls = cc in
    let same : room r.line.said ≡ room (said_of l.statement) = ap (λ (b : Bare). room b.said) first in
    let size = size_room l.statement at in
    let next = end_room (at + size_at l.statement at) rs ls others in
    omega arith

pub texts_end : TextsEndInCode
texts_end base bytes lines h short low =
    let taken = all_room 1 0 (lines_of bytes) h.reads h.are.read in
    let all = ap (λ (bs : List ℕ). length bs) (lines_join bytes) in
    let few = all_few 1 0 (lines_of bytes) h.reads h.are.read (omega arith) in
    let ends = end_room base h.reads lines h.are.same in
    omega (arith, few.0, taken, all, ends)
