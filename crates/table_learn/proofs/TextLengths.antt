-- The length of a table's text is the sum of its parts' lengths, and a table without entries isn't too long.
use Rattle.std.proofs.Common.{◌≡◌, ℕ, ◌+◌, ◌*◌, ◌<◌, ◌≤◌, ◌^◌, inl, inr, List, [], ◌∷◌, ◌++◌, All, map, length, take, get_or, refl, sym, ◌∙◌, ap, arith, length-append, append-nil, true, false, cond, nat_le, nat_lt}
use Rattle.std.specs.Prelude.{decimal, sum_by, codes, Option, Some, None, IfSome}
use Rattle.std.specs.List.{flat_map, list_all}
use Rattle.std.proofs.lemmas.Bool.{and_parts, cases_Bool, ltb-true}
use Rattle.std.proofs.lemmas.Fmt.{length-decimal-le}
use Rattle.std.proofs.lemmas.List.Concat.{flat_map-append}
use Rattle.std.proofs.lemmas.List.Elements.{All-nil, All-cons, All-head, All-tail, All-weaker}
use Rattle.std.proofs.lemmas.List.Sums.{sum_by-cons}
use Rattle.ascii_scan.specs.Lines.{text_limit}
use Rattle.thumb_instr.specs.declared.instr.Instr.{Instr}
use Rattle.thumb_instr.specs.Items.{has}
use Rattle.std.proofs.lemmas.List.{map_push, take_more}
use Rattle.lrat_check.specs.Text.{Content, content_of, text_of as text_of_line}
use Rattle.lrat_check.specs.declared.line.Line.{Line}
use Rattle.rule_table.specs.declared.table.Open as code
use Rattle.rule_table.specs.Views.{opened_of}
use Rattle.seq_enum.specs.Costs.{AreCosts}
use Rattle.seq_enum.specs.Alphabet.{inside}
use Rattle.seq_enum.proofs.Bounds.{bounds}
use Rattle.window_exec.specs.State.{Seen}
use Rattle.rule_table.specs.declared.header.Field.{Field}
use Rattle.rule_table.specs.declared.header.HeaderLine.{HeaderLine}
use Rattle.rule_table.specs.declared.header.HeaderLine.TheVariants as head
use Rattle.rule_table.specs.Header.{Header, heads, has_line, number_in, row, IsWithin, IsHeader}
use Rattle.rule_table.specs.Table.{Opened, Rule, Table, IsState}
use Rattle.rule_table.proofs.LinesTell.{within_small, word_short}
use Rattle.rule_table.specs.Text.{Item, Number, Pool, Costs, State, Entry, Left, Right, Mask, Proof, Logged, Open, End, hex_of, instr_text, named, after_blanks, line_of, text_of_items, open_items, rule_items, said, cost_numbers, line_items, header_items, items_of}
use Rattle.table_learn.specs.Learnt.{Settings, text_length}
use Rattle.table_learn.specs.Lengths.{lines_length, log_length, opens_length, rules_length, instr_length, item_length}
use Rattle.table_learn.specs.Progress.{table_with}
use Rattle.rule_table.proofs.HexTexts.{length-hex}

-- ---- lines ----

pub lines-append : (xs ys : List Item) → lines_length (xs ++ ys) ≡ lines_length xs + lines_length ys
unfolding lines_length
lines-append xs ys = ap length (flat_map-append (λ i. line_of i ++ 10 ∷ []) xs ys) ∙ length-append (text_of_items xs) (text_of_items ys)

pub lines-cons : (x : Item) (ys : List Item) → lines_length (x ∷ ys) ≡ lines_length (x ∷ []) + lines_length ys
lines-cons x ys = lines-append (x ∷ []) ys

pub one_line : (x : Item) → lines_length (x ∷ []) ≡ length (line_of x) + 1
unfolding lines_length
one_line x = ap length (append-nil (line_of x ++ 10 ∷ [])) ∙ length-append (line_of x) (10 ∷ [])

pub no_line : lines_length [] ≡ 0
unfolding lines_length
no_line = refl

-- ---- parts of entries ----

pub log_push : (lines : List Content) (c : Content) → log_length (lines ++ c ∷ []) ≡ log_length lines + lines_length (Logged c ∷ [])
log_push [] c = let z = no_line in omega (arith, z)
log_push (x ∷ lines) c =
    let e = lines-cons (Logged x) (map Logged (lines ++ c ∷ [])) in
    let f = lines-cons (Logged x) (map Logged lines) in
    let r = log_push lines c in
    omega (arith, e, f, r)

pub opens_push : (opens : List Opened) (o : Opened) → opens_length (opens ++ o ∷ []) ≡ opens_length opens + lines_length (open_items o)
opens_push opens o =
    ap lines_length (flat_map-append open_items opens (o ∷ [])) ∙ lines-append (flat_map open_items opens) (flat_map open_items (o ∷ []))
    ∙ ap (λ xs. lines_length (flat_map open_items opens) + lines_length xs) (append-nil (open_items o))

pub rules_push : (rules : List Rule) (e : Rule) → rules_length (rules ++ e ∷ []) ≡ rules_length rules + lines_length (rule_items e)
rules_push rules e =
    ap lines_length (flat_map-append rule_items rules (e ∷ [])) ∙ lines-append (flat_map rule_items rules) (flat_map rule_items (e ∷ []))
    ∙ ap (λ xs. lines_length (flat_map rule_items rules) + lines_length xs) (append-nil (rule_items e))

left_word : (i : Instr) → lines_length (Left i ∷ []) ≡ instr_length 5 i
left_word i = one_line (Left i) ∙ ap (λ n. n + 1) (length-append (codes "left ") (instr_text i))

right_word : (i : Instr) → lines_length (Right i ∷ []) ≡ instr_length 6 i
right_word i = one_line (Right i) ∙ ap (λ n. n + 1) (length-append (codes "right ") (instr_text i))

left_lines : (is : List Instr) → lines_length (map Left is) ≡ sum_by (instr_length 5) is
left_lines [] = no_line
left_lines (i ∷ is) = lines-cons (Left i) (map Left is) ∙ rw (left_word i, left_lines is) (sym (sum_by-cons (instr_length 5) i is))

right_lines : (is : List Instr) → lines_length (map Right is) ≡ sum_by (instr_length 6) is
right_lines [] = no_line
right_lines (i ∷ is) = lines-cons (Right i) (map Right is) ∙ rw (right_word i, right_lines is) (sym (sum_by-cons (instr_length 6) i is))

entry_line : lines_length (Entry ∷ []) ≡ 6
unfolding lines_length
entry_line = refl

proof_line : lines_length (Proof ∷ []) ≡ 6
unfolding lines_length
proof_line = refl

end_line : lines_length (End ∷ []) ≡ 4
unfolding lines_length
end_line = refl

pub entry_lines : (e : Rule) → lines_length (rule_items e) ≡ sum_by (instr_length 5) e.left + sum_by (instr_length 6) e.right + (12 + lines_length (Mask e.mask ∷ [])) + log_length e.proof + opens_length e.opens
entry_lines e =
    let behind : List Item = Mask e.mask ∷ Proof ∷ (map Logged e.proof ++ flat_map open_items e.opens) in
    let a = lines-cons Entry (map Left e.left ++ (map Right e.right ++ behind)) in
    let b = lines-append (map Left e.left) (map Right e.right ++ behind) in
    let c = lines-append (map Right e.right) behind in
    let d = lines-cons (Mask e.mask) (Proof ∷ (map Logged e.proof ++ flat_map open_items e.opens)) in
    let f = lines-cons Proof (map Logged e.proof ++ flat_map open_items e.opens) in
    let g = lines-append (map Logged e.proof) (flat_map open_items e.opens) in
    let l = left_lines e.left in
    let r = right_lines e.right in
    let x = entry_line in
    let y = proof_line in
    omega (arith, a, b, c, d, f, g, l, r, x, y)

pub open_lines : (o : Opened) → lines_length (open_items o) ≡ lines_length (Open o.number ∷ []) + log_length o.log
open_lines o = lines-cons (Open o.number) (map Logged o.log)

pub number_line : (n : ℕ) → lines_length (Open n ∷ []) ≡ length (decimal n) + 6
number_line n = one_line (Open n) ∙ (let e = length-append (codes "open ") (decimal n) in omega (arith, e))

item_word : (mask item : ℕ) (word : List ℕ) → length (named mask item word) ≡ item_length mask item (length word)
item_word mask item word = elim (has mask item) as (λ b. length (cond b word []) ≡ cond b (length word) 0) [ true ↦ refl | false ↦ refl ]

pub mask_line : (mask : ℕ) → lines_length (Mask mask ∷ [])
    ≡ 5 + item_length mask 0 3 + item_length mask 1 3 + item_length mask 2 3 + item_length mask 3 3 + item_length mask 15 2 + item_length mask 16 2 + item_length mask 17 2 + item_length mask 18 2
mask_line mask = one_line (Mask mask) ∙ simp (length-append, item_word) (omega arith)

pub logged_line : (c : Content) → lines_length (Logged c ∷ []) ≡ length (text_of_line c) + 1
logged_line c = one_line (Logged c)

-- ---- loops ----

pub log_next : (lines : List Line) (i : ℕ) (line : Line) (total more next : ℕ) → i < length lines → line ≡ get_or lines i line → total ≡ log_length (map content_of (take i lines)) → more ≡ lines_length (Logged (content_of line) ∷ []) → next ≡ total + more
    → next ≡ log_length (map content_of (take (i + 1) lines))
log_next lines i line total more next low is t m n =
    let split : take (i + 1) lines ≡ take i lines ++ line ∷ [] = take_more lines i line low ∙ ap (λ l. take i lines ++ l ∷ []) (sym is) in
    let e : map content_of (take (i + 1) lines) ≡ map content_of (take i lines) ++ content_of line ∷ [] = ap (map content_of) split ∙ map_push content_of (take i lines) line in
    let f = log_push (map content_of (take i lines)) (content_of line) in
    let g : log_length (map content_of (take (i + 1) lines)) ≡ log_length (map content_of (take i lines) ++ content_of line ∷ []) = ap (λ (cs : List Content). log_length cs) e in
    omega (arith, t, m, n, f, g)

pub opens_next : (opens : List code.Open) (i : ℕ) (name : code.Open) (total more next : ℕ) → i < length opens → name ≡ get_or opens i name → total ≡ opens_length (map opened_of (take i opens)) → more ≡ lines_length (open_items (opened_of name)) → next ≡ total + more
    → next ≡ opens_length (map opened_of (take (i + 1) opens))
opens_next opens i name total more next low is t m n =
    let split : take (i + 1) opens ≡ take i opens ++ name ∷ [] = take_more opens i name low ∙ ap (λ l. take i opens ++ l ∷ []) (sym is) in
    let e : map opened_of (take (i + 1) opens) ≡ map opened_of (take i opens) ++ opened_of name ∷ [] = ap (map opened_of) split ∙ map_push opened_of (take i opens) name in
    let f = opens_push (map opened_of (take i opens)) (opened_of name) in
    let g : opens_length (map opened_of (take (i + 1) opens)) ≡ opens_length (map opened_of (take i opens) ++ opened_of name ∷ []) = ap (λ (os : List Opened). opens_length os) e in
    omega (arith, t, m, n, f, g)

-- ---- states ----

words_length : (r : List ℕ) → length (after_blanks (map (hex_of 8) r)) ≡ 9 * length r
words_length [] = refl
words_length (x ∷ r) = length-append (32 ∷ hex_of 8 x) (after_blanks (map (hex_of 8) r)) ∙ (let e = length-hex 8 x in let f = words_length r in omega (arith, e, f))

state_line : (s : Seen) → length s.r ≡ 4 → lines_length (State s ∷ []) ≡ 44
state_line s four =
    let e = words_length s.r in
    let f = length-hex 1 s.nzcv in
    let a = length-append (codes "state") (after_blanks (map (hex_of 8) s.r) ++ 32 ∷ hex_of 1 s.nzcv) in
    let b = length-append (after_blanks (map (hex_of 8) s.r)) (32 ∷ hex_of 1 s.nzcv) in
    one_line (State s) ∙ omega (arith, e, f, a, b, four)

pub state_lines : (states : List Seen) → All IsState states → lines_length (map State states) ≡ 44 * length states
state_lines [] valid = no_line
state_lines (s ∷ states) valid =
    let e = lines-cons (State s) (map State states) in
    let f = state_line s (All-head IsState s states valid).four in
    let g = state_lines states (All-tail IsState s states valid) in
    omega (arith, e, f, g)

-- ---- tables ----

text_is : (t : Table) → text_length t ≡ lines_length (items_of t)
unfolding lines_length
text_is t = refl

pub whole_lines : (s : Settings) (states : List Seen) (rules : List Rule) → All IsState states → text_length (table_with s states rules) ≡ lines_length (header_items s) + 44 * length states + rules_length rules + 4
whole_lines s states rules valid =
    let t : Table = table_with s states rules in
    let a = lines-append (header_items t.header) (map State states ++ (flat_map rule_items rules ++ End ∷ [])) in
    let b = lines-append (map State states) (flat_map rule_items rules ++ End ∷ []) in
    let c = lines-append (flat_map rule_items rules) (End ∷ []) in
    let d = state_lines states valid in
    let e = end_line in
    let f : text_length t ≡ lines_length (items_of t) = text_is t in
    omega (arith, a, b, c, d, e, f)

-- one more entry and some more states, less what was dropped
pub text_more : (s : Settings) (states more : List Seen) (rules later : List Rule) (e : Rule) (freed : ℕ) → All IsState states → All IsState (states ++ more) → rules_length later + freed ≡ rules_length (rules ++ e ∷ [])
    → text_length (table_with s (states ++ more) later) + freed ≡ text_length (table_with s states rules) + (lines_length (rule_items e) + 44 * length more)
text_more s states more rules later e freed old new h =
    let a = whole_lines s states rules old in
    let b = whole_lines s (states ++ more) later new in
    let c = rules_push rules e in
    let l : length (states ++ more) ≡ length states + length more = length-append states more in
    omega (arith, a, b, c, l, h)

-- ---- a header is short ----

few_digits : (n : ℕ) → n < 2 ^ 64 → length (decimal n) ≤ 20
few_digits n h = length-decimal-le 20 n (omega arith) (omega (arith, h)) h

numbers_length : (ns : List ℕ) → All (λ n. n < 256) ns → length (after_blanks (map decimal ns)) ≤ 21 * length ns
numbers_length [] h = omega arith
numbers_length (n ∷ ns) h =
    let low : n < 256 = All-head (λ m. m < 256) n ns h in
    let d = few_digits n (omega (arith, low)) in
    let r = numbers_length ns (All-tail (λ m. m < 256) n ns h) in
    let e = length-append (32 ∷ decimal n) (after_blanks (map decimal ns)) in
    omega (arith, d, r, e)

pool_low : (ns : List ℕ) → list_all (inside 0 256) ns ≡ true → All (λ n. n < 256) ns
pool_low [] h = All-nil (λ n. n < 256)
pool_low (n ∷ ns) h =
    let parts = and_parts (inside 0 256 n) (list_all (inside 0 256) ns) h in
    let byte_ = and_parts (nat_le 0 n) (nat_lt n 256) parts.0 in
    All-cons (λ m. m < 256) n ns (ltb-true n 256 byte_.1) (pool_low ns parts.1)

costs_length : (costs : Option (List ℕ)) → IfSome costs AreCosts → length (after_blanks (map decimal (cost_numbers costs))) ≤ 588
costs_length None are = omega arith
costs_length (Some ns) are =
    let many = are.as_many in
    let n = numbers_length ns (All-weaker (λ m. (1 ≤ m) × (m ≤ 64)) (λ m. m < 256) (λ m h. let few = h.1 in omega (arith, few)) ns are.each) in
    omega (arith, many, n)

numbered_line : (x : Item) (word : List ℕ) (n : ℕ) → line_of x ≡ word ++ decimal n → n < 2 ^ 64 → lines_length (x ∷ []) ≤ length word + 21
numbered_line x word n is small =
    let a = one_line x in
    let l : length (line_of x) ≡ length (word ++ decimal n) = ap length is in
    let b = length-append word (decimal n) in
    let d = few_digits n small in
    omega (arith, a, l, b, d)

row_line : (f : Field) (n : ℕ) → IsWithin f n → lines_length (Number f n ∷ []) ≤ length (row f).word + 21
row_line f n is = numbered_line (Number f n) (row f).word n refl (within_small f n is)

-- a line of the header has at most 600 bytes
head_short : (h : Header) → IsHeader h → (line : HeaderLine) → lines_length (said h line ∷ []) ≤ 600
head_short h is (head.Number f) = omega (arith, row_line f (number_in h f) (is.numbers f), word_short f)
head_short h is head.Pool =
    let p = bounds h.pool is.pool in
    let one = one_line (Pool h.pool) in
    let z = length-append (codes "pool") (after_blanks (map decimal h.pool)) in
    let q = numbers_length h.pool (pool_low h.pool p.bytes) in
    let few = p.few in
    omega (arith, one, z, q, few)
head_short h is head.Costs =
    let one = one_line (Costs (cost_numbers h.costs)) in
    let z = length-append (codes "costs") (after_blanks (map decimal (cost_numbers h.costs))) in
    let q = costs_length h.costs is.costs in
    omega (arith, one, z, q)

line_short : (h : Header) → IsHeader h → (line : HeaderLine) → lines_length (line_items h line) ≤ 600
line_short h is line = elim (cases_Bool (has_line h.version line)) [
  | inl e ↦ rw e (head_short h is line)
  | inr e ↦ rw e (let none = no_line in omega (arith, none))
]

heads_short : (h : Header) → IsHeader h → (lines : List HeaderLine) → lines_length (flat_map (line_items h) lines) ≤ 600 * length lines
heads_short h is [] = (let none = no_line in omega (arith, none))
heads_short h is (line ∷ lines) =
    let both = lines-append (line_items h line) (flat_map (line_items h) lines) in
    omega (arith, both, line_short h is line, heads_short h is lines)

-- the header has at most 60,000 bytes
pub short_header : (s : Settings) → IsHeader s → lines_length (header_items s) ≤ 60000
short_header s is = (let few = heads_short s is heads in omega (arith, few))

-- before the first window
pub text_begins : (s : Settings) (states : List Seen) → IsHeader s → All IsState states → length states ≡ 64 → text_length (table_with s states []) ≤ text_limit
text_begins s states is valid many =
    let a = whole_lines s states [] valid in
    let b = short_header s is in
    let c = no_line in
    omega (arith, a, b, c, many)
