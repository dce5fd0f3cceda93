-- The text of a register list is read as that list.
use Rattle.std.proofs.Common.{◌≡◌, ◌∙◌, inl, inr, ℕ, ◌<◌, ◌++◌, ◌&&◌, ◌||◌, ◌==◌, Bool, true, false, List, [], ◌∷◌, map, Option, Some, None, refl, sym, ap, arith, true≢false, eqb-true, append_assoc}
use Rattle.std.specs.Prelude.{if◌then◌else◌, nat_lt, codes}
use Rattle.std.proofs.lemmas.Bool.{cases_Bool, and_parts, ltb-true, agree_below, agree_below_at, ne_eqb}
use Rattle.ascii_scan.specs.Tokens.{Token, mark, tokens, begins_inner}
use Rattle.ascii_scan.proofs.TokenLemmas.{tokens_mark, tokens_blank, tokens_nil}
use Rattle.thumb_syntax.specs.Operands.{Operand, register, sign, operand}
use Rattle.thumb_syntax.specs.Slots.{listed}
use Rattle.thumb_syntax.specs.Spelling.{has_bit, member_text, members, list_text, low_bits, stack_bits}
use Rattle.thumb_syntax.proofs.Words.{word_read, register_read}

abbrev member : ℕ → ℕ → ℕ
member extra b = if nat_lt b 8 then b else extra

-- the operands of a list's text: after its first register, and all of them
abbrev more_operands : ℕ → ℕ → List ℕ → List Operand
more_operands extra list [] = sign 125 ∷ []
more_operands extra list (b ∷ bs) = (if has_bit list b then sign 44 ∷ register (member extra b) ∷ [] else []) ++ more_operands extra list bs

abbrev list_operands : ℕ → ℕ → List ℕ → List Operand
list_operands extra list [] = sign 125 ∷ []
list_operands extra list (b ∷ bs) = if has_bit list b then register (member extra b) ∷ more_operands extra list bs else list_operands extra list bs

member_small : (extra b : ℕ) → extra < 16 → member extra b < 16
member_small extra b small = elim (cases_Bool (nat_lt b 8)) [
  | inl low ↦ (let k = ltb-true b 8 low in rw low (omega arith))
  | inr high ↦ rw high small
]

members_end : (extra list : ℕ) (bits : List ℕ) → begins_inner (members extra list false bits ++ codes "}") ≡ false
members_end extra list [] = refl
members_end extra list (b ∷ bs) = elim (cases_Bool (has_bit list b)) [
  | inl yes' ↦ rw yes' refl
  | inr no' ↦ rw no' (members_end extra list bs)
]

-- a member's text, with the text after it
member_reads : (extra list b : ℕ) (bs : List ℕ) → extra < 16 → map operand (tokens (members extra list false bs ++ codes "}")) ≡ more_operands extra list bs
    → map operand (tokens ((member_text extra b ++ members extra list false bs) ++ codes "}")) ≡ register (member extra b) ∷ more_operands extra list bs
member_reads extra list b bs small rest =
    ap (λ (t : List ℕ). map operand (tokens t)) (append_assoc (member_text extra b) (members extra list false bs) (codes "}"))
    ∙ word_read (member_text extra b) (members extra list false bs ++ codes "}") (register (member extra b)) (register_read (member extra b) (member_small extra b small)) (members_end extra list bs)
    ∙ ap (λ (os : List Operand). register (member extra b) ∷ os) rest

after_comma : (bs : List ℕ) (os : List Operand) → map operand (tokens bs) ≡ os → map operand (tokens (44 ∷ 32 ∷ bs)) ≡ sign 44 ∷ os
unfolding operand
after_comma bs os e = ap (map operand) (tokens_mark 44 (32 ∷ bs) refl refl ∙ ap (λ (ts : List Token). mark 44 ∷ ts) (tokens_blank 32 bs refl)) ∙ ap (λ (ps : List Operand). sign 44 ∷ ps) e

close_reads : map operand (tokens (codes "}")) ≡ sign 125 ∷ []
unfolding operand
close_reads = ap (map operand) (tokens_mark 125 [] refl refl ∙ ap (λ (ts : List Token). mark 125 ∷ ts) tokens_nil)

more_read : (extra list : ℕ) (bits : List ℕ) → extra < 16 → map operand (tokens (members extra list false bits ++ codes "}")) ≡ more_operands extra list bits
more_read extra list [] small = close_reads
more_read extra list (b ∷ bs) small = elim (cases_Bool (has_bit list b)) [
  | inl yes' ↦ rw yes' (after_comma ((member_text extra b ++ members extra list false bs) ++ codes "}") (register (member extra b) ∷ more_operands extra list bs) (member_reads extra list b bs small (more_read extra list bs small)))
  | inr no' ↦ rw no' (more_read extra list bs small)
]

members_read : (extra list : ℕ) (bits : List ℕ) → extra < 16 → map operand (tokens (members extra list true bits ++ codes "}")) ≡ list_operands extra list bits
members_read extra list [] small = close_reads
members_read extra list (b ∷ bs) small = elim (cases_Bool (has_bit list b)) [
  | inl yes' ↦ rw yes' (member_reads extra list b bs small (more_read extra list bs small))
  | inr no' ↦ rw no' (members_read extra list bs small)
]

list_reads : (extra list : ℕ) (bits : List ℕ) → extra < 16 → map operand (tokens (list_text extra list bits)) ≡ sign 123 ∷ list_operands extra list bits
unfolding operand
list_reads extra list bits small =
    ap (map operand) (tokens_mark 123 (members extra list true bits ++ codes "}") refl refl)
    ∙ ap (λ (os : List Operand). sign 123 ∷ os) (members_read extra list bits small)

-- ---- reading these operands yields the list

abbrev is_nil : List Operand → Bool
is_nil [] = true
is_nil (o ∷ os) = false

abbrev is_back : ℕ → Option (ℕ × List Operand) → Bool
is_back n None = false
is_back n (Some r) = (r.0 == n) && is_nil r.1

nil_is : (os : List Operand) → is_nil os ≡ true → os ≡ []
nil_is [] e = refl
nil_is (o ∷ os) e = absurd (true≢false (sym e))

back_is : (n : ℕ) (o : Option (ℕ × List Operand)) → is_back n o ≡ true → o ≡ Some (n, [])
back_is n None e = absurd (true≢false (sym e))
back_is n (Some r) e =
    let parts = and_parts (r.0 == n) (is_nil r.1) e in
    let a = eqb-true r.0 n parts.0 in
    let b = nil_is r.1 parts.1 in
    ap (λ (m : ℕ). Some (m, r.1)) a ∙ ap (λ (os : List Operand). Some (n, os)) b

abbrev low_back : ℕ → Bool
low_back n = (n == 0) || is_back n (listed None (sign 123 ∷ list_operands 14 n low_bits))

abbrev stack_back : ℕ → ℕ → Bool
stack_back extra n = (n == 0) || is_back n (listed (Some extra) (sign 123 ∷ list_operands extra n stack_bits))

abbrev always : ℕ → Bool
always n = true

low_lists : agree_below low_back always 256 ≡ true
low_lists = refl

lr_lists : agree_below (stack_back 14) always 512 ≡ true
lr_lists = refl

pc_lists : agree_below (stack_back 15) always 512 ≡ true
pc_lists = refl

some_back : (n : ℕ) (o : Option (ℕ × List Operand)) → 0 < n → ((n == 0) || is_back n o) ≡ true → o ≡ Some (n, [])
some_back n o more e = let other = ne_eqb n 0 (λ z. absurd (omega arith)) in back_is n o (rw other at e)

pub low_list_read : (n : ℕ) → 0 < n → n < 256 → listed None (map operand (tokens (list_text 14 n low_bits))) ≡ Some (n, [])
low_list_read n more small = ap (listed None) (list_reads 14 n low_bits (omega arith)) ∙ some_back n _ more (agree_below_at low_back always 256 n low_lists small)

stack_list_read : (extra n : ℕ) → extra < 16 → agree_below (stack_back extra) always 512 ≡ true → 0 < n → n < 512 → listed (Some extra) (map operand (tokens (list_text extra n stack_bits))) ≡ Some (n, [])
stack_list_read extra n less all more small = ap (listed (Some extra)) (list_reads extra n stack_bits less) ∙ some_back n _ more (agree_below_at (stack_back extra) always 512 n all small)

pub lr_list_read : (n : ℕ) → 0 < n → n < 512 → listed (Some 14) (map operand (tokens (list_text 14 n stack_bits))) ≡ Some (n, [])
lr_list_read n more small = stack_list_read 14 n (omega arith) lr_lists more small

pub pc_list_read : (n : ℕ) → 0 < n → n < 512 → listed (Some 15) (map operand (tokens (list_text 15 n stack_bits))) ≡ Some (n, [])
pc_list_read n more small = stack_list_read 15 n (omega arith) pc_lists more small
