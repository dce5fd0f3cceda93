-- A line determines the item that it is the line of.
use Rattle.std.proofs.Common.{◌≡◌, ℕ, ◌<◌, ◌≤◌, ◌^◌, true, List, [], ◌∷◌, ◌++◌, length, map, refl, sym, ◌∙◌, ap, arith, Some, true≢false}
use Rattle.std.specs.Prelude.{decimal, codes}
use Rattle.std.specs.Char.{is_ascii_digit}
use Rattle.std.specs.List.{list_all, flat_map}
use Rattle.std.proofs.lemmas.Bool.{and_parts}
use Rattle.std.proofs.lemmas.Fmt.{decimal_injective}
use Rattle.ascii_scan.specs.FirstLine.{is_inside}
use Rattle.lrat_check.specs.Text.{text_of as text_of_line}
use Rattle.lrat_check.proofs.Outcomes.{text_of-injective}
use Rattle.window_exec.specs.State.{Seen}
use Rattle.rule_table.specs.declared.header.Field.{Field}
use Rattle.rule_table.specs.declared.header.Field.TheVariants as field
use Rattle.rule_table.specs.declared.words.FirstWord.TheVariants as word
use Rattle.rule_table.specs.Header.{row, IsWithin}
use Rattle.rule_table.specs.Text.{Item, Number, Pool, Costs, State, Entry, Left, Right, Mask, Proof, Logged, Open, Family, End, line_of, instr_text, after_blanks, hex_of, mask_text, mask_rows, named}
use Rattle.rule_table.specs.Table.{IsState, IsInstr}
use Rattle.rule_table.specs.Items.{IsItem}
use Rattle.rule_table.specs.Fronts.{words, front, word_of, tail_of}
use Rattle.rule_table.proofs.FrontLemmas.{same_pair}
use Rattle.rule_table.proofs.InsideLines.{IsInside, inside_both, blanks_inside, decimal_inside, logged_inside, state_inside, named_inside, Digital, decimal_digital, logged_digital}
use Rattle.rule_table.proofs.InstrTexts.{instr_inside, instr_tells, instr_lettered}
use Rattle.rule_table.proofs.MaskTexts.{mask_tells}
use Rattle.rule_table.proofs.HexTexts.{state_tells}
use Rattle.rule_table.proofs.ListTexts.{IsShort, blanks_tell, pools_tell, pool_inside, costs_tell, costs_inside}
use Rattle.rule_table.proofs.FamilyTexts.{words_short}

-- ---- fronts

digit_front : (bs : List ℕ) → Digital bs → front bs ≡ Some (word.Digit, bs)
unfolding front
digit_front bs d = ap front d.is ∙ rw d.tells (ap (λ us. Some (word.Digit, us)) (sym d.is))

pub front_line : (i : Item) → IsItem i → front (line_of i) ≡ Some (word_of i, tail_of i)
unfolding front words
front_line (Number field.Version n) is = refl
front_line (Number field.Regs n) is = refl
front_line (Number field.Left n) is = refl
front_line (Number field.Seed n) is = refl
front_line (Number field.Budget n) is = refl
front_line (Number field.Scratch n) is = refl
front_line (Pool ns) is = refl
front_line (Costs ns) is = refl
front_line (State s) is = refl
front_line Entry is = refl
front_line (Left i) is = refl
front_line (Right i) is = refl
front_line (Mask m) is = refl
front_line Proof is = refl
front_line (Logged c) is = digit_front (text_of_line c) (logged_digital c is)
front_line (Open n) is = refl
front_line (Family entry number low high) is = refl
front_line End is = refl

-- ---- no newline

mask_inside : (m : ℕ) → IsInside (mask_text m)
mask_inside m = rows mask_rows refl
  where
    rows : (rs : List (ℕ × List ℕ)) → list_all (λ (r : ℕ × List ℕ). list_all is_inside r.1) rs ≡ true → IsInside (flat_map (λ (r : ℕ × List ℕ). named m r.0 r.1) rs)
    rows [] e = refl
    rows (r ∷ rs) e =
        let both = and_parts (list_all is_inside r.1) (list_all (λ (q : ℕ × List ℕ). list_all is_inside q.1) rs) e in
        inside_both (named m r.0 r.1) (flat_map (λ (q : ℕ × List ℕ). named m q.0 q.1) rs) (named_inside m r.0 r.1 both.0) (rows rs both.1)

number_inside : (w : List ℕ) (n : ℕ) → IsInside w → n < 2 ^ 64 → IsInside (w ++ decimal n)
number_inside w n h small = inside_both w (decimal n) h (decimal_inside n small)

word_inside : (f : Field) → IsInside (row f).word
word_inside field.Version = refl
word_inside field.Regs = refl
word_inside field.Left = refl
word_inside field.Seed = refl
word_inside field.Budget = refl
word_inside field.Scratch = refl

pub word_short : (f : Field) → length (row f).word ≤ 8
word_short field.Version = omega arith
word_short field.Regs = omega arith
word_short field.Left = omega arith
word_short field.Seed = omega arith
word_short field.Budget = omega arith
word_short field.Scratch = omega arith

pub within_small : (f : Field) (n : ℕ) → IsWithin f n → n < 2 ^ 64
within_small field.Version n is = omega (arith, is.1)
within_small field.Regs n is = omega (arith, is.1)
within_small field.Left n is = omega (arith, is.1)
within_small field.Seed n is = omega (arith, is.1)
within_small field.Budget n is = omega (arith, is.1)
within_small field.Scratch n is = omega (arith, is.1)

pub line_inside : (i : Item) → IsItem i → IsInside (line_of i)
line_inside (Number field n) is = number_inside (row field).word n (word_inside field) (within_small field n is)
line_inside (Pool ns) is = inside_both (codes "pool") (after_blanks (map decimal ns)) refl (pool_inside ns is)
line_inside (Costs ns) is = inside_both (codes "costs") (after_blanks (map decimal ns)) refl (costs_inside ns is)
line_inside (State s) is = inside_both (codes "state") (after_blanks (map (hex_of 8) s.r) ++ 32 ∷ hex_of 1 s.nzcv) refl (state_inside s)
line_inside Entry is = refl
line_inside (Left i) is = inside_both (codes "left ") (instr_text i) refl (instr_inside i is)
line_inside (Right i) is = inside_both (codes "right ") (instr_text i) refl (instr_inside i is)
line_inside (Mask m) is = inside_both (codes "mask") (mask_text m) refl (mask_inside m)
line_inside Proof is = refl
line_inside (Logged c) is = logged_inside c is
line_inside (Open n) is = number_inside (codes "open ") n refl is
line_inside (Family entry number low high) is =
    let ns : List ℕ = entry ∷ number ∷ low ∷ high ∷ [] in
    inside_both (codes "family") (after_blanks (map decimal ns)) refl (blanks_inside decimal IsShort decimal_inside ns (words_short ns is))
line_inside End is = refl

-- ---- tails

-- a decimal number isn't an instruction
no_instr : (n : ℕ) (i : _) → n < 2 ^ 64 → IsInstr i → decimal n ≡ instr_text i → ⊥
no_instr n i small is e =
    let d = decimal_digital n small in
    let l = instr_lettered i is in
    let same : d.digit ∷ d.after ≡ l.first ∷ l.after = sym d.is ∙ e ∙ l.is in
    let first : d.digit ≡ l.first = cc in
    true≢false (sym d.tells ∙ ap is_ascii_digit first ∙ l.tells)

same_seen : (s t : Seen) → s.r ≡ t.r → s.nzcv ≡ t.nzcv → s ≡ t
same_seen s t e f = λ i. record { r = e i; nzcv = f i }

states : (s t : Seen) → IsState s → IsState t → tail_of (State s) ≡ tail_of (State t) → s ≡ t
states s t a b e =
    let parts = state_tells s.r t.r s.nzcv t.nzcv (a.four ∙ sym b.four) a.words b.words a.flags b.flags e in
    same_seen s t parts.0 parts.1

families : (a b c d e f g h : ℕ) → IsItem (Family a b c d) → IsItem (Family e f g h) → tail_of (Family a b c d) ≡ tail_of (Family e f g h) → Family a b c d ≡ Family e f g h
families a b c d e f g h is also same =
    let ns : List ℕ = a ∷ b ∷ c ∷ d ∷ [] in
    let ms : List ℕ = e ∷ f ∷ g ∷ h ∷ [] in
    let all : a ∷ b ∷ c ∷ d ∷ [] ≡ e ∷ f ∷ g ∷ h ∷ [] = blanks_tell ns ms (words_short ns is) (words_short ms also) same in
    cc

tails_tell : (i j : Item) → IsItem i → IsItem j → word_of i ≡ word_of j → tail_of i ≡ tail_of j → i ≡ j
tails_tell (Number f m) (Number g n) a b w e =
    let same : f ≡ g = cc in
    ap (λ h. Number h m) same ∙ ap (Number g) (decimal_injective m n (within_small f m a) (within_small g n b) e)
tails_tell (Number f m) (Left i) a b w e = absurd (no_instr m i (within_small f m a) b e)
tails_tell (Pool ms) (Pool ns) a b w e = ap Pool (pools_tell ms ns a b e)
tails_tell (Costs ms) (Costs ns) a b w e = ap Costs (costs_tell ms ns a b e)
tails_tell (State s) (State t) a b w e = ap State (states s t a b e)
tails_tell Entry Entry a b w e = refl
tails_tell (Left i) (Number f n) a b w e = absurd (no_instr n i (within_small f n b) a (sym e))
tails_tell (Left i) (Left j) a b w e = ap Left (instr_tells i j a b e)
tails_tell (Right i) (Right j) a b w e = ap Right (instr_tells i j a b e)
tails_tell (Mask m) (Mask n) a b w e = ap Mask (mask_tells m n a b e)
tails_tell Proof Proof a b w e = refl
tails_tell (Logged c) (Logged d) a b w e = ap Logged (text_of-injective c d a b e)
tails_tell (Open m) (Open n) a b w e = ap Open (decimal_injective m n a b e)
tails_tell (Family k l m n) (Family o p q r) a b w e = families k l m n o p q r a b e
tails_tell End End a b w e = refl
tails_tell i j a b w e = absurd cc

pub lines_tell : (i j : Item) → IsItem i → IsItem j → line_of i ≡ line_of j → i ≡ j
lines_tell i j a b e =
    let same = same_pair (word_of i) (word_of j) (tail_of i) (tail_of j) (sym (front_line i a) ∙ ap front e ∙ front_line j b) in
    tails_tell i j a b same.0 same.1
