-- The words that are written are read as the operands that they were written for.
use Rattle.std.proofs.Common.{◌≡◌, ◌∙◌, inl, inr, ℕ, zero, suc, ◌<◌, ◌≤◌, ◌^◌, ◌++◌, ◌&&◌, ◌||◌, ◌==◌, Bool, true, false, not, List, [], ◌∷◌, map, length, None, refl, sym, ap, subst, arith, true≢false, eqb-true}
use Rattle.std.specs.Prelude.{if◌then◌else◌, nat_le, codes}
use Rattle.std.specs.List.{list_all, list_any}
use Rattle.std.specs.Char.{digit_value}
use Rattle.std.specs.Str.Parse.{AllDigits}
use Rattle.std.specs.Fmt.{decimal}
use Rattle.std.proofs.lemmas.Bool.{cases_Bool, and_parts, or_parts, or_cases, not-true, leb-true}
use Rattle.std.proofs.lemmas.Fmt.{decimal_digit, decimal_step, decimal_is_IsNumeral}
use Rattle.ascii_scan.specs.Names as names
use Rattle.ascii_scan.specs.Names.{is_name_byte, is_opening, is_register, is_spelled, register_names, registers}
use Rattle.ascii_scan.specs.Tokens.{word, tokens, is_inner, begins_inner, front, rest}
use Rattle.ascii_scan.proofs.TokenLemmas.{tokens_written}
use Rattle.ascii_scan.proofs.NumeralLemmas.{numeral_decimal}
use Rattle.thumb_syntax.specs.Operands.{register_named, register_in, Operand, register, base, number, name, sum, operand, or_stray, sum_of, is_plain, is_name}
use Rattle.thumb_syntax.specs.Spelling.{register_text, number_text, sum_text}

-- a text is one word, which is read as this operand
pub record IsRead (w : List ℕ) (o : Operand) : Type 0 where
  pub first : ℕ
  pub after : List ℕ
  pub text : w ≡ first ∷ after
  pub inner : list_all is_inner (first ∷ after) ≡ true
  pub reads : operand (word (first ∷ after)) ≡ o

pub word_read : (w bs : List ℕ) (o : Operand) → IsRead w o → begins_inner bs ≡ false → map operand (tokens (w ++ bs)) ≡ o ∷ map operand (tokens bs)
word_read w bs o r ends =
    ap (λ (x : List ℕ). map operand (tokens (x ++ bs))) r.text
    ∙ ap (map operand) (tokens_written r.first r.after bs r.inner ends)
    ∙ ap (λ (p : Operand). p ∷ map operand (tokens bs)) r.reads

-- ---- registers

ten : decimal 10 ≡ codes "10"
ten = decimal_step 10 (omega arith) (omega arith) ∙ ap (λ (ds : List ℕ). ds ++ 48 ∷ []) (decimal_digit 1 (omega arith))

eleven : decimal 11 ≡ codes "11"
eleven = decimal_step 11 (omega arith) (omega arith) ∙ ap (λ (ds : List ℕ). ds ++ 49 ∷ []) (decimal_digit 1 (omega arith))

twelve : decimal 12 ≡ codes "12"
twelve = decimal_step 12 (omega arith) (omega arith) ∙ ap (λ (ds : List ℕ). ds ++ 50 ∷ []) (decimal_digit 1 (omega arith))

pub register_read : (r : ℕ) → r < 16 → IsRead (register_text r) (register r)
unfolding operand register_named
register_read zero lt = record { first = 114; after = codes "0"; text = ap (λ (ds : List ℕ). 114 ∷ ds) (decimal_digit 0 (omega arith)); inner = refl; reads = refl }
register_read (suc zero) lt = record { first = 114; after = codes "1"; text = ap (λ (ds : List ℕ). 114 ∷ ds) (decimal_digit 1 (omega arith)); inner = refl; reads = refl }
register_read (suc (suc zero)) lt = record { first = 114; after = codes "2"; text = ap (λ (ds : List ℕ). 114 ∷ ds) (decimal_digit 2 (omega arith)); inner = refl; reads = refl }
register_read (suc (suc (suc zero))) lt = record { first = 114; after = codes "3"; text = ap (λ (ds : List ℕ). 114 ∷ ds) (decimal_digit 3 (omega arith)); inner = refl; reads = refl }
register_read (suc (suc (suc (suc zero)))) lt = record { first = 114; after = codes "4"; text = ap (λ (ds : List ℕ). 114 ∷ ds) (decimal_digit 4 (omega arith)); inner = refl; reads = refl }
register_read (suc (suc (suc (suc (suc zero))))) lt = record { first = 114; after = codes "5"; text = ap (λ (ds : List ℕ). 114 ∷ ds) (decimal_digit 5 (omega arith)); inner = refl; reads = refl }
register_read (suc (suc (suc (suc (suc (suc zero)))))) lt = record { first = 114; after = codes "6"; text = ap (λ (ds : List ℕ). 114 ∷ ds) (decimal_digit 6 (omega arith)); inner = refl; reads = refl }
register_read (suc (suc (suc (suc (suc (suc (suc zero))))))) lt = record { first = 114; after = codes "7"; text = ap (λ (ds : List ℕ). 114 ∷ ds) (decimal_digit 7 (omega arith)); inner = refl; reads = refl }
register_read (suc (suc (suc (suc (suc (suc (suc (suc zero)))))))) lt = record { first = 114; after = codes "8"; text = ap (λ (ds : List ℕ). 114 ∷ ds) (decimal_digit 8 (omega arith)); inner = refl; reads = refl }
register_read (suc (suc (suc (suc (suc (suc (suc (suc (suc zero))))))))) lt = record { first = 114; after = codes "9"; text = ap (λ (ds : List ℕ). 114 ∷ ds) (decimal_digit 9 (omega arith)); inner = refl; reads = refl }
register_read (suc (suc (suc (suc (suc (suc (suc (suc (suc (suc zero)))))))))) lt = record { first = 114; after = codes "10"; text = ap (λ (ds : List ℕ). 114 ∷ ds) ten; inner = refl; reads = refl }
register_read (suc (suc (suc (suc (suc (suc (suc (suc (suc (suc (suc zero))))))))))) lt = record { first = 114; after = codes "11"; text = ap (λ (ds : List ℕ). 114 ∷ ds) eleven; inner = refl; reads = refl }
register_read (suc (suc (suc (suc (suc (suc (suc (suc (suc (suc (suc (suc zero)))))))))))) lt = record { first = 114; after = codes "12"; text = ap (λ (ds : List ℕ). 114 ∷ ds) twelve; inner = refl; reads = refl }
register_read (suc (suc (suc (suc (suc (suc (suc (suc (suc (suc (suc (suc (suc zero))))))))))))) lt = record { first = 115; after = codes "p"; text = refl; inner = refl; reads = refl }
register_read (suc (suc (suc (suc (suc (suc (suc (suc (suc (suc (suc (suc (suc (suc zero)))))))))))))) lt = record { first = 108; after = codes "r"; text = refl; inner = refl; reads = refl }
register_read (suc (suc (suc (suc (suc (suc (suc (suc (suc (suc (suc (suc (suc (suc (suc zero))))))))))))))) lt = record { first = 112; after = codes "c"; text = refl; inner = refl; reads = refl }
register_read (suc (suc (suc (suc (suc (suc (suc (suc (suc (suc (suc (suc (suc (suc (suc (suc r)))))))))))))))) lt = absurd (omega arith)

-- a low register and `!`
pub base_read : (r : ℕ) → r < 8 → IsRead (register_text r ++ codes "!") (base r)
unfolding operand register_named
base_read zero lt = record { first = 114; after = codes "0!"; text = ap (λ (ds : List ℕ). (114 ∷ ds) ++ 33 ∷ []) (decimal_digit 0 (omega arith)); inner = refl; reads = refl }
base_read (suc zero) lt = record { first = 114; after = codes "1!"; text = ap (λ (ds : List ℕ). (114 ∷ ds) ++ 33 ∷ []) (decimal_digit 1 (omega arith)); inner = refl; reads = refl }
base_read (suc (suc zero)) lt = record { first = 114; after = codes "2!"; text = ap (λ (ds : List ℕ). (114 ∷ ds) ++ 33 ∷ []) (decimal_digit 2 (omega arith)); inner = refl; reads = refl }
base_read (suc (suc (suc zero))) lt = record { first = 114; after = codes "3!"; text = ap (λ (ds : List ℕ). (114 ∷ ds) ++ 33 ∷ []) (decimal_digit 3 (omega arith)); inner = refl; reads = refl }
base_read (suc (suc (suc (suc zero)))) lt = record { first = 114; after = codes "4!"; text = ap (λ (ds : List ℕ). (114 ∷ ds) ++ 33 ∷ []) (decimal_digit 4 (omega arith)); inner = refl; reads = refl }
base_read (suc (suc (suc (suc (suc zero))))) lt = record { first = 114; after = codes "5!"; text = ap (λ (ds : List ℕ). (114 ∷ ds) ++ 33 ∷ []) (decimal_digit 5 (omega arith)); inner = refl; reads = refl }
base_read (suc (suc (suc (suc (suc (suc zero)))))) lt = record { first = 114; after = codes "6!"; text = ap (λ (ds : List ℕ). (114 ∷ ds) ++ 33 ∷ []) (decimal_digit 6 (omega arith)); inner = refl; reads = refl }
base_read (suc (suc (suc (suc (suc (suc (suc zero))))))) lt = record { first = 114; after = codes "7!"; text = ap (λ (ds : List ℕ). (114 ∷ ds) ++ 33 ∷ []) (decimal_digit 7 (omega arith)); inner = refl; reads = refl }
base_read (suc (suc (suc (suc (suc (suc (suc (suc r)))))))) lt = absurd (omega arith)

-- ---- numbers

number_reads : (n : ℕ) → n < 2 ^ 32 → operand (word (35 ∷ decimal n)) ≡ number n
unfolding operand register_named
number_reads n small = ap or_stray (numeral_decimal n small)

inner_digit : (d : ℕ) → digit_value d < 10 → is_inner d ≡ true
inner_digit d lt = grind arith

inner_digits : (ds : List ℕ) → AllDigits 10 ds → list_all is_inner ds ≡ true
inner_digits [] all = refl
inner_digits (d ∷ ds) all = rw (inner_digit d all.0) (inner_digits ds all.1)

pub number_read : (n : ℕ) → n < 2 ^ 32 → IsRead (number_text n) (number n)
number_read n lt = record { first = 35; after = decimal n; text = refl; inner = inner_digits (decimal n) (decimal_is_IsNumeral n (omega arith)).0.1; reads = number_reads n lt }

-- ---- names

front_full : (p : ℕ → Bool) (bs : List ℕ) → length (front p bs) ≡ length bs → (front p bs ≡ bs) × (list_all p bs ≡ true)
front_full p [] e = (refl, refl)
front_full p (b ∷ bs) e = elim (cases_Bool (p b)) [
  | inl yes' ↦ (
      let longer : suc (length (front p bs)) ≡ suc (length bs) = rw yes' at e in
      let r = front_full p bs (omega arith) in
      (rw yes' (ap (λ (w : List ℕ). b ∷ w) r.0), rw yes' r.1))
  | inr no' ↦ absurd (let none : zero ≡ suc (length bs) = rw no' at e in omega arith)
]

front_whole : (p : ℕ → Bool) (w : List ℕ) → list_all p w ≡ true → (front p w ≡ w) × (rest p w ≡ [])
front_whole p [] all = (refl, refl)
front_whole p (b ∷ bs) all =
    let parts = and_parts (p b) (list_all p bs) all in
    let r = front_whole p bs parts.1 in
    (rw parts.0 (ap (λ (w : List ℕ). b ∷ w) r.0), rw parts.0 r.1)

pub front_before : (p : ℕ → Bool) (w : List ℕ) (b : ℕ) (bs : List ℕ) → list_all p w ≡ true → p b ≡ false → (front p (w ++ b ∷ bs) ≡ w) × (rest p (w ++ b ∷ bs) ≡ b ∷ bs)
front_before p [] b bs all out = (rw out refl, rw out refl)
front_before p (x ∷ xs) b bs all out =
    let parts = and_parts (p x) (list_all p xs) all in
    let r = front_before p xs b bs parts.1 out in
    (rw parts.0 (ap (λ (w : List ℕ). x ∷ w) r.0), rw parts.0 r.1)

all_append : (p : ℕ → Bool) (v w : List ℕ) → list_all p v ≡ true → list_all p w ≡ true → list_all p (v ++ w) ≡ true
all_append p [] w a b = b
all_append p (x ∷ xs) w a b =
    let parts = and_parts (p x) (list_all p xs) a in
    rw parts.0 (all_append p xs w parts.1 b)

all_since : (p q : ℕ → Bool) (w : List ℕ) → ((b : ℕ) → p b ≡ true → q b ≡ true) → list_all p w ≡ true → list_all q w ≡ true
all_since p q [] since all = refl
all_since p q (b ∷ bs) since all =
    let parts = and_parts (p b) (list_all p bs) all in
    rw (since b parts.0) (all_since p q bs since parts.1)

inner_dollar : (b : ℕ) → b ≡ 36 → is_inner b ≡ true
inner_dollar b e = rw e refl

inner_dot : (b : ℕ) → b ≡ 46 → is_inner b ≡ true
inner_dot b e = rw e refl

inner_line : (b : ℕ) → b ≡ 95 → is_inner b ≡ true
inner_line b e = rw e refl

inner_number : (b : ℕ) → 48 ≤ b → b ≤ 57 → is_inner b ≡ true
inner_number b low high = grind arith

inner_upper : (b : ℕ) → 65 ≤ b → b ≤ 90 → is_inner b ≡ true
inner_upper b low high = grind arith

inner_lower : (b : ℕ) → 97 ≤ b → b ≤ 122 → is_inner b ≡ true
inner_lower b low high = grind arith

name_inner : (b : ℕ) → is_name_byte b ≡ true → is_inner b ≡ true
name_inner b e = elim (or_cases (is_opening b) (names.is_digit b) e) [
  | inl opening ↦ elim (or_cases (names.is_letter b) (b == 95 || (b == 46 || b == 36)) opening) [
    | inl letter ↦ elim (or_cases (nat_le 65 b && nat_le b 90) (nat_le 97 b && nat_le b 122) letter) [
      | inl upper ↦ (let parts = and_parts (nat_le 65 b) (nat_le b 90) upper in inner_upper b (leb-true 65 b parts.0) (leb-true b 90 parts.1))
      | inr lower ↦ (let parts = and_parts (nat_le 97 b) (nat_le b 122) lower in inner_lower b (leb-true 97 b parts.0) (leb-true b 122 parts.1))
    ]
    | inr other ↦ elim (or_cases (b == 95) (b == 46 || b == 36) other) [
      | inl line ↦ inner_line b (eqb-true b 95 line)
      | inr more ↦ elim (or_cases (b == 46) (b == 36) more) [
        | inl dot ↦ inner_dot b (eqb-true b 46 dot)
        | inr dollar ↦ inner_dollar b (eqb-true b 36 dollar)
      ]
    ]
  ]
  | inr digit ↦ (let parts = and_parts (nat_le 48 b) (nat_le b 57) digit in inner_number b (leb-true 48 b parts.0) (leb-true b 57 parts.1))
]

name_plain : (b : ℕ) → is_name_byte b ≡ true → is_plain b ≡ true
name_plain b e = grind arith

-- what a name is
record Name (w : List ℕ) : Type 0 where
  first : ℕ
  after : List ℕ
  text : w ≡ first ∷ after
  bytes : list_all is_name_byte w ≡ true
  free : is_register w ≡ false

name_of : (w : List ℕ) → is_name w ≡ true → Name w
name_of [] e = absurd (true≢false (sym e))
name_of (b ∷ bs) e = elim (cases_Bool (is_opening b && not (is_register (front is_name_byte (b ∷ bs))))) [
  | inl yes' ↦ (
      let same : (length (front is_name_byte (b ∷ bs)) == length (b ∷ bs)) ≡ true = rw yes' at e in
      let full = front_full is_name_byte (b ∷ bs) (eqb-true _ _ same) in
      let free : is_register (front is_name_byte (b ∷ bs)) ≡ false = not-true (is_register (front is_name_byte (b ∷ bs))) (and_parts (is_opening b) (not (is_register (front is_name_byte (b ∷ bs)))) yes').1 in
      record { first = b; after = bs; text = refl; bytes = full.1; free = ap is_register (sym full.0) ∙ free })
  | inr no' ↦ absurd (let out : false ≡ true = rw no' at e in true≢false (sym out))
]

named_none : (w : List ℕ) (rs : List (List ℕ × ℕ)) → list_any (is_spelled w) (map (λ r. r.0) rs) ≡ false → register_in rs w ≡ None
named_none w [] none = refl
named_none w (r ∷ rs) none =
    let parts = or_parts (is_spelled w r.0) (list_any (is_spelled w) (map (λ q. q.0) rs)) none in
    rw parts.0 (named_none w rs parts.1)

no_register : (w : List ℕ) → is_register w ≡ false → register_named w ≡ None
unfolding register_named register_names
no_register w free = named_none w registers free

name_reads : (w : List ℕ) → is_name w ≡ true → operand (word w) ≡ name w
unfolding operand
name_reads w e =
    let n = name_of w e in
    let f = front_whole is_plain w (all_since is_name_byte is_plain w name_plain n.bytes) in
    rw (f.0, f.1, no_register w n.free, e) refl

pub name_read : (w : List ℕ) → is_name w ≡ true → IsRead w (name w)
name_read w e =
    let n = name_of w e in
    record {
      first = n.first;
      after = n.after;
      text = n.text;
      inner = subst (λ (x : List ℕ). list_all is_inner x ≡ true) n.text (all_since is_name_byte is_inner w name_inner n.bytes);
      reads = subst (λ (x : List ℕ). operand (word x) ≡ name w) n.text (name_reads w e);
    }

sum_reads : (w : List ℕ) (i : ℕ) → is_name w ≡ true → i < 2 ^ 32 → operand (word (w ++ 43 ∷ decimal i)) ≡ sum w i
unfolding operand
sum_reads w i e small =
    let n = name_of w e in
    let f = front_before is_plain w 43 (decimal i) (all_since is_name_byte is_plain w name_plain n.bytes) refl in
    rw (f.0, f.1, no_register w n.free, e) (ap (sum_of w) (numeral_decimal i small))

sum_read : (w : List ℕ) (i : ℕ) → is_name w ≡ true → i < 2 ^ 32 → IsRead (w ++ 43 ∷ decimal i) (sum w i)
sum_read w i e small =
    let n = name_of w e in
    let digits = inner_digits (decimal i) (decimal_is_IsNumeral i (omega arith)).0.1 in
    let all : list_all is_inner (w ++ 43 ∷ decimal i) ≡ true = all_append is_inner w (43 ∷ decimal i) (all_since is_name_byte is_inner w name_inner n.bytes) digits in
    let text : w ++ 43 ∷ decimal i ≡ n.first ∷ (n.after ++ 43 ∷ decimal i) = ap (λ (x : List ℕ). x ++ 43 ∷ decimal i) n.text in
    record {
      first = n.first;
      after = n.after ++ 43 ∷ decimal i;
      text = text;
      inner = subst (λ (x : List ℕ). list_all is_inner x ≡ true) text all;
      reads = subst (λ (x : List ℕ). operand (word x) ≡ sum w i) text (sum_reads w i e small);
    }

abbrev pub sum_operand : List ℕ → ℕ → Operand
sum_operand w i = if i == 0 then name w else sum w i

pub label_sum_read : (w : List ℕ) (i : ℕ) → is_name w ≡ true → i < 2 ^ 32 → IsRead (sum_text w i) (sum_operand w i)
label_sum_read w i e small = elim (cases_Bool (i == 0)) [
  | inl none ↦ rw none (name_read w e)
  | inr some ↦ rw some (sum_read w i e small)
]
