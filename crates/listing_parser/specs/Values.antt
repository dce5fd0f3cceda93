-- Words separated by commas, and the values of data words, in the syntax of the GNU assembler.
use Rattle.std.specs.Prelude.{ℕ, ◌-◌, ◌^◌, ◌%◌, ◌==◌, List, [], ◌∷◌, Option, Some, None, option_map, option_and_then, if◌then◌else◌}
use Rattle.ascii_scan.specs.Names.{is_digit, is_name_byte}
use Rattle.ascii_scan.specs.Numeral.{numeral}
use Rattle.ascii_scan.specs.Tokens.{Token, word, mark, front, rest}
use Rattle.thumb_syntax.specs.Operands.{is_name}
use Rattle.thumb_model.specs.Listing.{Name, Value, Number, OfName}

-- ---- few words ----

abbrev pub first_word : List Token → Option (List ℕ × List Token)
first_word [] = None
first_word (word w ∷ ts) = Some (w, ts)
first_word (mark m ∷ ts) = None

abbrev pub after_comma : List Token → Option (List Token)
after_comma [] = None
after_comma (word w ∷ ts) = None
after_comma (mark m ∷ ts) = if m == 44 then Some ts else None

-- one word and nothing else
abbrev pub alone : List Token → Option (List ℕ)
alone [] = None
alone (mark m ∷ ts) = None
alone (word w ∷ []) = Some w
alone (word w ∷ t ∷ ts) = None

-- a comma and a word
abbrev pub behind_comma : List Token → Option (List ℕ)
behind_comma ts = option_and_then alone (after_comma ts)

abbrev pub with_word : List ℕ → Option (List ℕ) → Option (List ℕ × List ℕ)
with_word a None = None
with_word a (Some b) = Some (a, b)

-- a word, a comma and a word
abbrev pub pair : List Token → Option (List ℕ × List ℕ)
pair ts = option_and_then (λ r. with_word r.0 (behind_comma r.1)) (first_word ts)

-- a word, two commas and a word
abbrev pub gapped : List Token → Option (List ℕ × List ℕ)
gapped ts = option_and_then (λ r. with_word r.0 (option_and_then behind_comma (after_comma r.1))) (first_word ts)

-- ---- `.word` ----

-- 0 minus n, modulo 2^32
abbrev pub negated : ℕ → ℕ
negated n = (2 ^ 32 - n) % 2 ^ 32

abbrev pub sum : Name → ℕ → Value
sum name n = OfName (record { name = name; plus = n })

-- a name, `name+i` or `name-i`, cut after the name
abbrev pub added : Name → List ℕ → Option Value
added name [] = Some (sum name 0)
added name (b ∷ ds) =
    if b == 43 then option_map (λ n. sum name n) (numeral ds)
    else if b == 45 then option_map (λ n. sum name (negated n)) (numeral ds)
    else None

abbrev pub named_value : Name → List ℕ → Option Value
named_value name after = if is_name name then added name after else None

-- a numeral, `-` and a numeral, or a name with what is added
unfoldable pub value : List ℕ → Option Value
value [] = None
value (b ∷ bs) =
    if b == 45 then option_map (λ n. Number (negated n)) (numeral bs)
    else if is_digit b then option_map (λ n. Number n) (numeral (b ∷ bs))
    else named_value (front is_name_byte (b ∷ bs)) (rest is_name_byte (b ∷ bs))

abbrev pub onto_values : Option Value → Option (List Value) → Option (List Value)
onto_values None rest = None
onto_values (Some v) None = None
onto_values (Some v) (Some vs) = Some (v ∷ vs)

-- values separated by commas, at least one
unfoldable pub values : List Token → Option (List Value)
values [] = None
values (mark m ∷ ts) = None
values (word w ∷ []) = onto_values (value w) (Some [])
values (word w ∷ word v ∷ ts) = None
values (word w ∷ mark m ∷ ts) = if m == 44 then onto_values (value w) (values ts) else None
