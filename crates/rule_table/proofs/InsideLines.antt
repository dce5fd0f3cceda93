-- The text of an item has no newline, so that the lines of a table's text are those of its items.
use Rattle.std.proofs.Common.{◌≡◌, ℕ, ℤ, pos, negsuc, zero, suc, ◌%◌, ◌/◌, ◌<◌, ◌^◌, Bool, true, false, List, [], ◌∷◌, ◌++◌, length, map, refl, ◌∙◌, ap, arith, cond, w64}
use Rattle.std.specs.Prelude.{decimal, FitsSigned}
use Rattle.std.specs.Fmt.{signed_decimal}
use Rattle.std.specs.List.{list_all, join_with_byte, All}
use Rattle.std.specs.Char.{is_ascii_digit}
use Rattle.std.specs.Str.{all_ascii_digits}
use Rattle.std.proofs.lemmas.Fmt.{digits_decimal, decimal_nonempty}
use Rattle.std.proofs.lemmas.Bool.{and_parts, and_from}
use Rattle.std.proofs.lemmas.Nat.{mod_below}
use Rattle.std.proofs.lemmas.List.Folds.{list_all-append}
use Rattle.std.proofs.lemmas.List.Elements.{All-nil, All-cons, All-head, All-tail, All-append, All-map, All-weaker}
use Rattle.ascii_scan.specs.FirstLine.{is_inside}
pub use Rattle.ascii_scan.proofs.EndedLines.{IsInside}
use Rattle.thumb_instr.specs.Items.{has}
use Rattle.clause_model.specs.Clauses.{number_of}
use Rattle.lrat_check.specs.Text.{Content, addition, deletion, IsLine, HasGoodParts, id_of, middle_of, words_of, literal_text, end_word, deletion_word, text_of as text_of_line}
use Rattle.lrat_check.specs.Numbers.{IsId, IsHint}
use Rattle.lrat_check.proofs.Numerals.{hint_fits, literal_fits}
use Rattle.window_exec.specs.State.{Seen}
use Rattle.ascii_scan.specs.Numeral.{hex_digit}
use Rattle.rule_table.specs.Text.{hex_of, after_blanks, named}
use Rattle.lrat_check.proofs.Texts.{own}

pub inside_both : (xs ys : List ℕ) → IsInside xs → IsInside ys → IsInside (xs ++ ys)
inside_both xs ys a b = list_all-append is_inside xs ys ∙ and_from (list_all is_inside xs) (list_all is_inside ys) a b

-- ---- numbers

pub decimal_digits : (n : ℕ) → n < 2 ^ 64 → all_ascii_digits (decimal n) ≡ true
decimal_digits n h = digits_decimal own n h

digit_inside : (d : ℕ) → is_ascii_digit d ≡ true → is_inside d ≡ true
digit_inside d e = grind arith

digits_inside : (ds : List ℕ) → all_ascii_digits ds ≡ true → IsInside ds
digits_inside [] e = refl
digits_inside (d ∷ ds) e =
    let both = and_parts (is_ascii_digit d) (all_ascii_digits ds) e in
    and_from (is_inside d) (list_all is_inside ds) (digit_inside d both.0) (digits_inside ds both.1)

pub decimal_inside : (n : ℕ) → n < 2 ^ 64 → IsInside (decimal n)
decimal_inside n h = digits_inside (decimal n) (decimal_digits n h)

signed_inside : (z : ℤ) → FitsSigned w64 z → IsInside (signed_decimal z)
signed_inside (pos n) f = decimal_inside n (omega (arith, f))
signed_inside (negsuc n) f = and_from (is_inside 45) (list_all is_inside (decimal (suc n))) refl (decimal_inside (suc n) (omega (arith, f)))

hex_digit_inside : (d : ℕ) → d < 16 → is_inside (hex_digit d) ≡ true
hex_digit_inside d h = grind arith

hex_inside : (n w : ℕ) → IsInside (hex_of n w)
unfolding hex_of
hex_inside zero w = refl
hex_inside (suc n) w =
    inside_both (hex_of n (w / 16)) (hex_digit (w % 16) ∷ []) (hex_inside n (w / 16))
    (and_from (is_inside (hex_digit (w % 16))) true (hex_digit_inside (w % 16) (mod_below w 16 (omega arith))) refl)

-- ---- words

pub blanks_inside : {X : Type 0} (f : X → List ℕ) (P : X → Type 0) → ((x : X) → P x → IsInside (f x)) → (xs : List X) → All P xs → IsInside (after_blanks (map f xs))
blanks_inside f P each [] all = refl
blanks_inside f P each (x ∷ xs) all =
    and_from (is_inside 32) _ refl (inside_both (f x) (after_blanks (map f xs)) (each x (All-head P x xs all)) (blanks_inside f P each xs (All-tail P x xs all)))

join_inside : (ws : List (List ℕ)) → All IsInside ws → IsInside (join_with_byte 32 ws)
join_inside [] all = refl
join_inside (w ∷ []) all = All-head IsInside w [] all
join_inside (w ∷ v ∷ ws) all =
    inside_both w (32 ∷ join_with_byte 32 (v ∷ ws)) (All-head IsInside w (v ∷ ws) all)
    (and_from (is_inside 32) (list_all is_inside (join_with_byte 32 (v ∷ ws))) refl (join_inside (v ∷ ws) (All-tail IsInside w (v ∷ ws) all)))

middle_inside : (c : Content) → HasGoodParts c → All IsInside (middle_of c)
middle_inside (addition id literals hints) g =
    All-append IsInside (map literal_text literals) (end_word ∷ map signed_decimal hints)
    (All-map IsInside literal_text literals (All-weaker (λ l. l < 400000) (λ l. IsInside (literal_text l)) (λ l b. signed_inside (number_of l) (literal_fits l b)) literals g.0))
    (All-cons IsInside end_word (map signed_decimal hints) refl (All-map IsInside signed_decimal hints (All-weaker IsHint (λ z. IsInside (signed_decimal z)) (λ z b. signed_inside z (hint_fits z b)) hints g.2)))
middle_inside (deletion id ids) g =
    All-cons IsInside deletion_word (map decimal ids) refl
    (All-map IsInside decimal ids (All-weaker IsId (λ n. IsInside (decimal n)) (λ n b. decimal_inside n (omega (arith, b.1))) ids g))

pub logged_inside : (c : Content) → IsLine c → IsInside (text_of_line c)
logged_inside c is =
    join_inside (words_of c)
    (All-cons IsInside (decimal (id_of c)) (middle_of c ++ end_word ∷ []) (decimal_inside (id_of c) (omega (arith, is.0.1)))
    (All-append IsInside (middle_of c) (end_word ∷ []) (middle_inside c is.1) (All-cons IsInside end_word [] refl (All-nil IsInside))))

-- the first byte is a digit
pub record Digital (bs : List ℕ) : Type 0 where
  pub digit : ℕ
  pub after : List ℕ
  pub is : bs ≡ digit ∷ after
  pub tells : is_ascii_digit digit ≡ true

digital : (ds : List ℕ) → 0 < length ds → all_ascii_digits ds ≡ true → Digital ds
digital [] some all = absurd (omega arith)
digital (d ∷ ds) some all = record { digit = d; after = ds; is = refl; tells = (and_parts (is_ascii_digit d) (all_ascii_digits ds) all).0 }

pub decimal_digital : (n : ℕ) → n < 2 ^ 64 → Digital (decimal n)
decimal_digital n h = digital (decimal n) (decimal_nonempty n h) (decimal_digits n h)

digital_more : (xs ys : List ℕ) → Digital xs → Digital (xs ++ ys)
digital_more xs ys d = record { digit = d.digit; after = d.after ++ ys; is = ap (λ us. us ++ ys) d.is; tells = d.tells }

joined_first : (w : List ℕ) (ws : List (List ℕ)) → Digital w → Digital (join_with_byte 32 (w ∷ ws))
joined_first w [] d = d
joined_first w (v ∷ ws) d = digital_more w (32 ∷ join_with_byte 32 (v ∷ ws)) d

pub logged_digital : (c : Content) → IsLine c → Digital (text_of_line c)
logged_digital c is = joined_first (decimal (id_of c)) (middle_of c ++ end_word ∷ []) (decimal_digital (id_of c) (omega (arith, is.0.1)))

-- ---- states, masks

pub state_inside : (s : Seen) → IsInside (after_blanks (map (hex_of 8) s.r) ++ 32 ∷ hex_of 1 s.nzcv)
state_inside s =
    inside_both (after_blanks (map (hex_of 8) s.r)) (32 ∷ hex_of 1 s.nzcv) (words s.r) (and_from (is_inside 32) (list_all is_inside (hex_of 1 s.nzcv)) refl (hex_inside 1 s.nzcv))
  where
    words : (ws : List ℕ) → IsInside (after_blanks (map (hex_of 8) ws))
    words [] = refl
    words (w ∷ ws) = and_from (is_inside 32) _ refl (inside_both (hex_of 8 w) (after_blanks (map (hex_of 8) ws)) (hex_inside 8 w) (words ws))

pub named_inside : (m item : ℕ) (text : List ℕ) → IsInside text → IsInside (named m item text)
named_inside m item text h = by (has m item)
  where
    by : (b : Bool) → IsInside (cond b text [])
    by true = h
    by false = refl
