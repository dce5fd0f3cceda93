-- Different lines have different texts, and how long a text is.
use Rattle.std.proofs.Common.{◌≡◌, ℕ, ℤ, pos, negsuc, ◌+◌, ◌<◌, ◌≤◌, List, [], ◌∷◌, ◌++◌, get_or, map, take, length, length-append, refl, sym, ◌∙◌, ap, subst, arith, zero, suc, true, false, true≢false, w64, append_assoc, decimal}
use Rattle.std.specs.Prelude.{All, FitsSigned}
use Rattle.std.specs.Fmt.{signed_decimal}
use Rattle.std.specs.Char.{is_ascii_digit}
use Rattle.std.specs.List.{join_with_byte, slice_split}
use Rattle.std.specs.Str.{all_ascii_digits}
use Rattle.std.specs.Str.Parse.{digits_value}
use Rattle.std.proofs.Math.Dec.{eqb}
use Rattle.std.proofs.lemmas.List.Concat.{flat_map-append}
use Rattle.std.proofs.lemmas.List.Elements.{All-head, All-tail, All-nil, All-cons, All-map, All-append, All-weaker}
use Rattle.std.proofs.lemmas.List.Splits.{slice_split_none, slice_split_at}
use Rattle.std.proofs.lemmas.Str.Parse.{IsNumeralModel, numerals_by_value, tells_all_ascii_digits}
use Rattle.std.proofs.lemmas.Fmt.{digits_decimal, decimal_digit, decimal_injective}
use Rattle.clause_model.specs.Clauses.{number_of, code_of}
use Rattle.clause_model.proofs.LiteralLaws.{code_of-number_of, number_of_differs}
use Rattle.lrat_check.specs.Numbers.{IsId, IsHint, AllWithin}
use Rattle.lrat_check.specs.Text.{Content, addition, deletion, text_of, words_of, middle_of, id_of, spaced, literal_text, end_word, deletion_word, HasGoodParts, IsLine}
use Rattle.lrat_check.proofs.Numerals.{same_number, id_fits, hint_fits, literal_fits}
use Rattle.std.proofs.lemmas.Bool.{and_parts}

-- ---- blanks

pub join-push : (words : List (List ℕ)) (w : List ℕ) → join_with_byte 32 (words ++ w ∷ []) ≡ spaced words ++ w
join-push [] w = refl
join-push (x ∷ []) w = sym (rw (append_assoc x (32 ∷ []) []) (append_assoc x (32 ∷ []) w))
join-push (x ∷ y ∷ words) w = rw (join-push (y ∷ words) w) (sym (append_assoc (x ++ 32 ∷ []) (spaced (y ∷ words)) w ∙ append_assoc x (32 ∷ []) (spaced (y ∷ words) ++ w)))

-- ---- how many bytes the words have

word_first : (w : List ℕ) (words : List (List ℕ)) → length (spaced (w ∷ words)) ≡ length w + 1 + length (spaced words)
word_first w words = omega (arith, length-append (w ++ 32 ∷ []) (spaced words), length-append w (32 ∷ []))

words_of_both : (us vs : List (List ℕ)) → length (spaced (us ++ vs)) ≡ length (spaced us) + length (spaced vs)
words_of_both us vs = ap length (flat_map-append (λ w. w ++ 32 ∷ []) us vs) ∙ length-append (spaced us) (spaced vs)

-- those before the i-th, and it, are no more than all
pub some_words : {A : Type 0} (text : A → List ℕ) (xs : List A) (i : ℕ) (x : A) → i < length xs → x ≡ get_or xs i x → length (spaced (map text (take i xs))) + (length (text x) + 1) ≤ length (spaced (map text xs))
some_words text [] i x low is = absurd (omega (arith, low))
some_words text (y ∷ xs) zero x low is = omega (arith, word_first (text y) (map text xs), ap (λ v. length (text v)) is)
some_words text (y ∷ xs) (suc i) x low is =
    omega (arith, word_first (text y) (map text xs), word_first (text y) (map text (take i xs)), some_words text xs i x (omega (arith, low)) is)

length_of_text : (content : Content) → length (text_of content) ≡ length (decimal (id_of content)) + length (spaced (middle_of content)) + 2
length_of_text content =
    let front = decimal (id_of content) ∷ middle_of content in
    omega (arith, ap length (join-push front end_word), length-append (spaced front) end_word, word_first (decimal (id_of content)) (middle_of content))

pub addition_length : (id : ℕ) (literals : List ℕ) (hints : List ℤ) → length (text_of (addition id literals hints)) + 1 ≡ length (decimal id) + 5 + length (spaced (map literal_text literals)) + length (spaced (map signed_decimal hints))
addition_length id literals hints =
    omega (arith, length_of_text (addition id literals hints), words_of_both (map literal_text literals) (end_word ∷ map signed_decimal hints), word_first end_word (map signed_decimal hints))

pub deletion_length : (id : ℕ) (ids : List ℕ) → length (text_of (deletion id ids)) + 1 ≡ length (decimal id) + 5 + length (spaced (map decimal ids))
deletion_length id ids = omega (arith, length_of_text (deletion id ids), word_first deletion_word (map decimal ids))

abbrev pub HasNoBlank : List ℕ → Type 0
HasNoBlank word = All (λ b. eqb b 32 ≡ false) word

pub split-join : (x : List ℕ) (words : List (List ℕ)) → All HasNoBlank (x ∷ words) → slice_split (λ b. eqb b 32) (join_with_byte 32 (x ∷ words)) ≡ x ∷ words
split-join x [] h = slice_split_none (λ b. eqb b 32) x (All-head HasNoBlank x [] h)
split-join x (y ∷ words) h =
    slice_split_at (λ b. eqb b 32) x 32 (join_with_byte 32 (y ∷ words)) (All-head HasNoBlank x (y ∷ words) h) refl ∙ ap (λ (ws : List (List ℕ)). x ∷ ws) (split-join y words (All-tail HasNoBlank x (y ∷ words) h))

-- ---- numerals

pub own : IsNumeralModel (λ ds. all_ascii_digits ds ≡ true) (digits_value 10)
own = numerals_by_value (λ ds. all_ascii_digits ds ≡ true) tells_all_ascii_digits

pub digit_no_blank : (d : ℕ) → is_ascii_digit d ≡ true → eqb d 32 ≡ false
digit_no_blank d e = grind arith

pub digits_no_blank : (ds : List ℕ) → all_ascii_digits ds ≡ true → HasNoBlank ds
digits_no_blank [] e = All-nil (λ b. eqb b 32 ≡ false)
digits_no_blank (d ∷ ds) e = let b = and_parts (is_ascii_digit d) (all_ascii_digits ds) e in All-cons (λ b. eqb b 32 ≡ false) d ds (digit_no_blank d b.0) (digits_no_blank ds b.1)

numeral_no_blank : (z : ℤ) → FitsSigned w64 z → HasNoBlank (signed_decimal z)
numeral_no_blank (pos n) f = digits_no_blank (decimal n) (digits_decimal own n (omega (arith, f)))
numeral_no_blank (negsuc n) f = All-cons (λ b. eqb b 32 ≡ false) 45 (decimal (suc n)) refl (digits_no_blank (decimal (suc n)) (digits_decimal own (suc n) (omega (arith, f))))

numeral_differs : (z : ℤ) → FitsSigned w64 z → signed_decimal z ≡ deletion_word → ⊥
numeral_differs (pos n) f e = let d : all_ascii_digits (decimal n) ≡ true = digits_decimal own n (omega (arith, f)) in let g : all_ascii_digits deletion_word ≡ true = subst (λ (w : List ℕ). all_ascii_digits w ≡ true) e d in true≢false (sym g)
numeral_differs (negsuc n) f e = let d : get_or (45 ∷ decimal (suc n)) 0 0 ≡ get_or deletion_word 0 0 = ap (λ (w : List ℕ). get_or w 0 0) e in omega (arith, d)

end_is_zero : signed_decimal (pos 0) ≡ end_word
end_is_zero = decimal_digit 0 (omega arith)

pub literal_not_end : (l : ℕ) → l < 400000 → literal_text l ≡ end_word → ⊥
literal_not_end l b e = number_of_differs l (same_number (number_of l) (pos 0) end_word (literal_fits l b) (omega arith) e end_is_zero)

-- a text function that is injective is injective on lists
pub map-injective : {X : Type 0} (P : X → Type 0) (f : X → List ℕ) → ((x y : X) → P x → P y → f x ≡ f y → x ≡ y) → (xs ys : List X) → All P xs → All P ys → map f xs ≡ map f ys → xs ≡ ys
map-injective P f inj [] [] h k e = refl
map-injective P f inj [] (y ∷ ys) h k e = cc
map-injective P f inj (x ∷ xs) [] h k e = cc
map-injective P f inj (x ∷ xs) (y ∷ ys) h k e =
    let head : f x ≡ f y = cc in
    let tail : map f xs ≡ map f ys = cc in
    let same : x ≡ y = inj x y (All-head P x xs h) (All-head P y ys k) head in
    let rest : xs ≡ ys = map-injective P f inj xs ys (All-tail P x xs h) (All-tail P y ys k) tail in
    rw (same, rest) refl

pub id_injective : (x y : ℕ) → IsId x → IsId y → decimal x ≡ decimal y → x ≡ y
id_injective x y h k e = decimal_injective x y (omega (arith, h.1)) (omega (arith, k.1)) e

pub ids_injective : (xs ys : List ℕ) → All IsId xs → All IsId ys → map decimal xs ≡ map decimal ys → xs ≡ ys
ids_injective = map-injective IsId decimal (λ x y h k e. id_injective x y h k e)

pub hints_injective : (xs ys : List ℤ) → All IsHint xs → All IsHint ys → map signed_decimal xs ≡ map signed_decimal ys → xs ≡ ys
hints_injective = map-injective IsHint signed_decimal (λ x y h k e. same_number x y (signed_decimal y) (hint_fits x h) (hint_fits y k) e refl)

pub literals_injective : (xs ys : List ℕ) → AllWithin xs → AllWithin ys → map literal_text xs ≡ map literal_text ys → xs ≡ ys
literals_injective = map-injective (λ l. l < 400000) literal_text (λ x y h k e.
    sym (code_of-number_of x) ∙ ap code_of (same_number (number_of x) (number_of y) (literal_text y) (literal_fits x h) (literal_fits y k) e refl) ∙ code_of-number_of y)

-- ---- words

-- the words of a line have no blank
pub words_no_blank : (content : Content) → IsLine content → All HasNoBlank (words_of content)
words_no_blank content h =
    All-cons HasNoBlank (decimal (id_of content)) (middle_of content ++ end_word ∷ []) (numeral_no_blank (pos (id_of content)) (id_fits (id_of content) h.0))
    (All-append HasNoBlank (middle_of content) (end_word ∷ []) (middle content h.1) (All-cons HasNoBlank end_word [] end_no_blank (All-nil HasNoBlank)))
  where
    end_no_blank : HasNoBlank end_word
    end_no_blank = digits_no_blank end_word refl

    middle : (content : Content) → HasGoodParts content → All HasNoBlank (middle_of content)
    middle (addition id literals hints) g =
        All-append HasNoBlank (map literal_text literals) (end_word ∷ map signed_decimal hints)
        (All-map HasNoBlank literal_text literals (All-weaker (λ l. l < 400000) (λ l. HasNoBlank (literal_text l)) (λ l b. numeral_no_blank (number_of l) (literal_fits l b)) literals g.0))
        (All-cons HasNoBlank end_word (map signed_decimal hints) end_no_blank (All-map HasNoBlank signed_decimal hints (All-weaker IsHint (λ z. HasNoBlank (signed_decimal z)) (λ z b. numeral_no_blank z (hint_fits z b)) hints g.2)))
    middle (deletion id ids) g =
        All-cons HasNoBlank deletion_word (map decimal ids) (All-cons (λ b. eqb b 32 ≡ false) 100 [] refl (All-nil (λ b. eqb b 32 ≡ false)))
        (All-map HasNoBlank decimal ids (All-weaker IsId (λ n. HasNoBlank (decimal n)) (λ n b. numeral_no_blank (pos n) (id_fits n b)) ids g))

pub split-text : (content : Content) → IsLine content → slice_split (λ b. eqb b 32) (text_of content) ≡ words_of content
split-text content h = split-join (decimal (id_of content)) (middle_of content ++ end_word ∷ []) (words_no_blank content h)

-- the words before the first occurrence of a word determine the split
pub split_unique : (e : List ℕ) (xs ys us vs : List (List ℕ)) → All (λ w. w ≡ e → ⊥) xs → All (λ w. w ≡ e → ⊥) ys → xs ++ e ∷ us ≡ ys ++ e ∷ vs → (xs ≡ ys) × (us ≡ vs)
split_unique e [] [] us vs h k q = (refl, cc)
split_unique e [] (y ∷ ys) us vs h k q = let same : y ≡ e = cc in absurd (All-head (λ w. w ≡ e → ⊥) y ys k same)
split_unique e (x ∷ xs) [] us vs h k q = let same : x ≡ e = cc in absurd (All-head (λ w. w ≡ e → ⊥) x xs h same)
split_unique e (x ∷ xs) (y ∷ ys) us vs h k q =
    let head : x ≡ y = cc in
    let tail : xs ++ e ∷ us ≡ ys ++ e ∷ vs = cc in
    let rest = split_unique e xs ys us vs (All-tail (λ w. w ≡ e → ⊥) x xs h) (All-tail (λ w. w ≡ e → ⊥) y ys k) tail in
    (rw (head, rest.0) refl, rest.1)

pub All-middle : (P : List ℕ → Type 0) (xs : List (List ℕ)) (y : List ℕ) (ys : List (List ℕ)) → All P (xs ++ y ∷ ys) → P y
All-middle P [] y ys h = All-head P y ys h
All-middle P (x ∷ xs) y ys h = All-middle P xs y ys (All-tail P x (xs ++ y ∷ ys) h)

pub literals_not_end : (literals : List ℕ) → AllWithin literals → All (λ w. w ≡ end_word → ⊥) (map literal_text literals)
literals_not_end literals h = All-map (λ w. w ≡ end_word → ⊥) literal_text literals (All-weaker (λ l. l < 400000) (λ l. literal_text l ≡ end_word → ⊥) (λ l b. literal_not_end l b) literals h)

pub hints_not_end : (hints : List ℤ) → All IsHint hints → All (λ w. w ≡ end_word → ⊥) (map signed_decimal hints)
hints_not_end hints h = All-map (λ w. w ≡ end_word → ⊥) signed_decimal hints (All-weaker IsHint (λ z. signed_decimal z ≡ end_word → ⊥) (λ z b e. b.0 (same_number z (pos 0) end_word (hint_fits z b) (omega arith) e end_is_zero)) hints h)

pub ids_not_end : (ids : List ℕ) → All IsId ids → All (λ w. w ≡ end_word → ⊥) (map decimal ids)
ids_not_end ids h = All-map (λ w. w ≡ end_word → ⊥) decimal ids (All-weaker IsId (λ n. decimal n ≡ end_word → ⊥) (λ n b e. let z : pos n ≡ pos 0 = same_number (pos n) (pos 0) end_word (id_fits n b) (omega arith) e end_is_zero in let same : n ≡ 0 = cc in omega (arith, b.0, same)) ids h)

-- the middle of an addition doesn't begin as that of a deletion
pub addition_differs : (id : ℕ) (literals : List ℕ) (hints : List ℤ) (first : List ℕ) (rest more : List (List ℕ)) → HasGoodParts (addition id literals hints) → middle_of (addition id literals hints) ++ more ≡ first ∷ rest → first ≡ deletion_word → ⊥
addition_differs id [] hints first rest more g e f = let d : end_word ≡ deletion_word = cc in let n : get_or end_word 0 0 ≡ get_or deletion_word 0 0 = ap (λ (w : List ℕ). get_or w 0 0) d in omega (arith, n)
addition_differs id (l ∷ ls) hints first rest more g e f =
    let d : literal_text l ≡ deletion_word = cc in
    numeral_differs (number_of l) (literal_fits l (All-head (λ l. l < 400000) l ls g.0)) d

-- the last of two equal lists
pub push_same : (xs ys : List (List ℕ)) (x y : List ℕ) → xs ++ x ∷ [] ≡ ys ++ y ∷ [] → (xs ≡ ys) × (x ≡ y)
push_same [] [] x y e = (refl, cc)
push_same [] (b ∷ []) x y e = let f : [] ≡ y ∷ [] = cc in cc
push_same [] (b ∷ c ∷ ys) x y e = let f : [] ≡ c ∷ (ys ++ y ∷ []) = cc in cc
push_same (a ∷ []) [] x y e = let f : x ∷ [] ≡ [] = cc in cc
push_same (a ∷ c ∷ xs) [] x y e = let f : c ∷ (xs ++ x ∷ []) ≡ [] = cc in cc
push_same (a ∷ xs) (b ∷ ys) x y e =
    let head : a ≡ b = cc in
    let tail : xs ++ x ∷ [] ≡ ys ++ y ∷ [] = cc in
    let rest = push_same xs ys x y tail in
    (rw (head, rest.0) refl, rest.1)
