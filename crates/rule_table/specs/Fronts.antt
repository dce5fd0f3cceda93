-- The word with which a line begins, and the rest of the line: how the reader splits a line, and how an item's line is made of the two.
use Rattle.std.specs.Prelude.{ℕ, ◌==◌, ◌++◌, Bool, false, List, [], ◌∷◌, map, codes, decimal, Option, Some, None, if◌then◌else◌}
use Rattle.std.specs.Char.{is_ascii_digit}
use Rattle.std.specs.Borrow.{Bor}
use Rattle.lrat_check.specs.Text.{text_of as text_of_line}
use Rattle.rule_table.specs.declared.header.Field.TheVariants as field
use Rattle.rule_table.specs.declared.header.HeaderLine.TheVariants as head
use Rattle.rule_table.specs.declared.words.FirstWord.{FirstWord}
use Rattle.rule_table.specs.declared.words.FirstWord.TheVariants as word
use Rattle.rule_table.specs.Header.{heads, row}
use Rattle.rule_table.specs.Text.{Item, Number, Pool, Costs, State, Entry, Left, Right, Mask, Proof, Logged, Open, Family, End, after_blanks, hex_of, instr_text, mask_text}

unfoldable pub words : List FirstWord
words = map word.Head heads ++ word.State ∷ word.Entry ∷ word.Right ∷ word.Mask ∷ word.Proof ∷ word.Open ∷ word.Family ∷ word.End ∷ []

abbrev pub word_text : FirstWord → List ℕ
word_text (word.Head (head.Number field)) = (row field).word
word_text (word.Head head.Pool) = codes "pool"
word_text (word.Head head.Costs) = codes "costs"
word_text word.State = codes "state"
word_text word.Entry = codes "entry"
word_text word.Right = codes "right "
word_text word.Mask = codes "mask"
word_text word.Proof = codes "proof"
word_text word.Open = codes "open "
word_text word.Family = codes "family"
word_text word.End = codes "end"
word_text word.Digit = []

-- the bytes after a prefix, if they begin with it
abbrev pub strip : List ℕ → List ℕ → Option (List ℕ)
strip [] bs = Some bs
strip (p ∷ ps) [] = None
strip (p ∷ ps) (b ∷ bs) = if p == b then strip ps bs else None

-- the word with the rest, if there is one, and else the result for the other words
abbrev pub or_else : FirstWord → Option (List ℕ) → Option (FirstWord × List ℕ) → Option (FirstWord × List ℕ)
or_else w (Some t) others = Some (w, t)
or_else w None others = others

abbrev pub front_in : List FirstWord → List ℕ → Option (FirstWord × List ℕ)
front_in [] bs = None
front_in (w ∷ ws) bs = or_else w (strip (word_text w) bs) (front_in ws bs)

-- the word and the rest of a line; for a line of a proof, which begins with a digit, the rest is the whole line
unfoldable pub front : List ℕ → Option (FirstWord × List ℕ)
front [] = None
front (b ∷ bs) = if is_ascii_digit b then Some (word.Digit, b ∷ bs) else front_in words (b ∷ bs)

abbrev pub seen_front : FirstWord × Bor (List ℕ) → FirstWord × List ℕ
seen_front p = (p.0, p.1.now)

-- the rest if a text was taken from the front of the bytes, else all of them; and whether x is the item whose text was taken
abbrev pub left_of : List ℕ → Option (List ℕ) → List ℕ
left_of bs None = bs
left_of bs (Some t) = t

abbrev pub is_taken : ℕ → Option (List ℕ) → ℕ → Bool
is_taken y None x = false
is_taken y (Some t) x = x == y

-- the items whose texts stand at the front of the bytes, in the order of the rows, and the rest of the bytes
abbrev pub and_taken : List ℕ → ℕ → Option (List ℕ) → (List ℕ → List ℕ × List ℕ) → List ℕ × List ℕ
and_taken bs x None others = others bs
and_taken bs x (Some t) others = (x ∷ (others t).0, (others t).1)

unfoldable pub taken : List (ℕ × List ℕ) → List ℕ → List ℕ × List ℕ
taken [] bs = ([], bs)
taken (r ∷ rs) bs = and_taken bs r.0 (strip r.1 bs) (taken rs)

-- the line of an item without its first word
abbrev pub tail_of : Item → List ℕ
tail_of (Number field n) = decimal n
tail_of (Pool ns) = after_blanks (map decimal ns)
tail_of (Costs ns) = after_blanks (map decimal ns)
tail_of (State s) = after_blanks (map (hex_of 8) s.r) ++ 32 ∷ hex_of 1 s.nzcv
tail_of Entry = []
tail_of (Left i) = instr_text i
tail_of (Right i) = instr_text i
tail_of (Mask m) = mask_text m
tail_of Proof = []
tail_of (Logged c) = text_of_line c
tail_of (Open n) = decimal n
tail_of (Family entry number low high) = after_blanks (map decimal (entry ∷ number ∷ low ∷ high ∷ []))
tail_of End = []

-- the first word of an item's line; the instructions of a left side have the same word, `left `, as the number in the header
abbrev pub word_of : Item → FirstWord
word_of (Number field n) = word.Head (head.Number field)
word_of (Pool ns) = word.Head head.Pool
word_of (Costs ns) = word.Head head.Costs
word_of (State s) = word.State
word_of Entry = word.Entry
word_of (Left i) = word.Head (head.Number field.Left)
word_of (Right i) = word.Right
word_of (Mask m) = word.Mask
word_of Proof = word.Proof
word_of (Logged c) = word.Digit
word_of (Open n) = word.Open
word_of (Family entry number low high) = word.Family
word_of End = word.End
