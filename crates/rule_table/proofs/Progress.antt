-- The loop of `read_table`: its invariant, one more line, and the result when a line is refused or all lines were read.
use Rattle.std.proofs.Common.{◌≡◌, ◌∙◌, ℕ, ◌+◌, ◌<◌, ◌≤◌, ◌^◌, true, false, List, [], ◌∷◌, ◌++◌, length, map, refl, sym, ap, subst, arith, Option, Some, None, append_assoc, append-nil, length-append, inl, inr, true≢false, Ok, Err}
use Rattle.std.specs.Prelude.{IfSome, IsSome}
use Rattle.std.specs.Option.{option_and_then}
use Rattle.std.specs.List.{flat_map, All, concat}
use Rattle.std.proofs.lemmas.Bool.{cases_Bool}
use Rattle.std.proofs.lemmas.Option.{same_Some}
use Rattle.std.proofs.lemmas.List.{append_cancel_right, map-append, length-map}
use Rattle.std.proofs.lemmas.List.Elements.{All-nil, All-cons, All-head, All-tail, All-append, All-map, All-push}
use Rattle.ascii_scan.specs.Refused.{Begins}
use Rattle.ascii_scan.proofs.Refusals as refusals
use Rattle.ascii_scan.specs.Lines.{lines_of, content_of, is_ended, Placed, placed, placed_from, lines_in, whole}
use Rattle.ascii_scan.proofs.LineLemmas.{lines_nil, lines_join, map-whole, length-lines_in}
use Rattle.seq_enum.specs.Costs.{AreCosts}
use Rattle.rule_table.specs.declared.header.HeaderLine.{HeaderLine}
use Rattle.rule_table.specs.declared.header.HeaderLine.TheVariants as head
use Rattle.rule_table.specs.Header.{Header, heads, has_line, IsHeader}
use Rattle.rule_table.specs.Table.{Opened, Rule, Family as Raised, Table, IsOpened, IsRule, IsFamily, IsTable}
use Rattle.rule_table.specs.Text.{Item, State, Entry, Left, Right, Mask, Proof, Logged, Open, Family, End, line_of, text_of_items, text_of, open_items, rule_items, family_items, line_items, cost_numbers, said, header_items, items_of}
use Rattle.rule_table.specs.Items.{IsItem}
use Rattle.rule_table.specs.Grammar.{Stage, Start, Done, step, run}
use Rattle.rule_table.specs.Steps.{LineFollows, StepsTo}
use Rattle.rule_table.specs.declared.errors.TableError.TheVariants as error
use Rattle.rule_table.specs.Views.{table_of}
use Rattle.rule_table.specs.Refused.{IsText, IsSomeTable, IsRefused}
use Rattle.rule_table.specs.Reading.{OneTable, NotBoth, RefusedOnce, WrittenReadsBack}
use Rattle.rule_table.proofs.ReadBack.{run-append, reads}
use Rattle.rule_table.proofs.Beginnings.{Opens, read_opens, read_whole}
use Rattle.rule_table.proofs.LinesTell.{line_inside, lines_tell}
use Rattle.ascii_scan.proofs.EndedLines.{line_first, content_ended, is_ended_last, open_content, whole_ended, whole_open}

-- ---- lines with their newlines

abbrev pub ended : Item → List ℕ
ended i = line_of i ++ 10 ∷ []

pub lines_items : (is : List Item) → All IsItem is → lines_of (text_of_items is) ≡ map ended is
lines_items [] all = lines_nil
lines_items (i ∷ is) all =
    line_first (line_of i) (text_of_items is) (line_inside i (All-head IsItem i is all)) ∙ ap (λ ls. ended i ∷ ls) (lines_items is (All-tail IsItem i is all))

ended_tells : (i j : Item) → IsItem i → IsItem j → ended i ≡ ended j → i ≡ j
ended_tells i j a b e =
    lines_tell i j a b (sym (content_ended (line_of i) (line_inside i a)) ∙ ap content_of e ∙ content_ended (line_of j) (line_inside j b))

-- ---- the items of a table

opened_items : (o : Opened) → IsOpened o → All IsItem (open_items o)
opened_items o is = All-cons IsItem (Open o.number) (map Logged o.log) is.small (All-map IsItem Logged o.log is.log)

many_items : {X : Type 0} (P : X → Type 0) (f : X → List Item) → ((x : X) → P x → All IsItem (f x)) → (xs : List X) → All P xs → All IsItem (flat_map f xs)
many_items P f each [] all = All-nil IsItem
many_items P f each (x ∷ xs) all = All-append IsItem (f x) (flat_map f xs) (each x (All-head P x xs all)) (many_items P f each xs (All-tail P x xs all))

rule_all : (r : Rule) → IsRule r → All IsItem (rule_items r)
rule_all r is =
    let opens = flat_map open_items r.opens in
    let logged = map Logged r.proof ++ opens in
    let masked = Mask r.mask ∷ Proof ∷ logged in
    let sides = map Right r.right ++ masked in
    All-cons IsItem Entry (map Left r.left ++ sides) tt
    (All-append IsItem (map Left r.left) sides (All-map IsItem Left r.left is.left)
    (All-append IsItem (map Right r.right) masked (All-map IsItem Right r.right is.right)
    (All-cons IsItem (Mask r.mask) (Proof ∷ logged) is.mask
    (All-cons IsItem Proof logged tt
    (All-append IsItem (map Logged r.proof) opens (All-map IsItem Logged r.proof is.proof)
    (many_items IsOpened open_items opened_items r.opens is.opens))))))

numbers_item : (f : Raised) → IsFamily f → IsItem (Family f.entry f.number f.low f.high)
numbers_item f is =
    let P : ℕ → Type 0 = λ n. n < 2 ^ 32 in
    All-cons P f.entry (f.number ∷ f.low ∷ f.high ∷ []) is.entry
    (All-cons P f.number (f.low ∷ f.high ∷ []) is.number (All-cons P f.low (f.high ∷ []) is.low (All-cons P f.high [] is.high (All-nil P))))

family_all : (f : Raised) → IsFamily f → All IsItem (family_items f)
family_all f is =
    All-cons IsItem (Family f.entry f.number f.low f.high) (Proof ∷ map Logged f.proof) (numbers_item f is)
    (All-cons IsItem Proof (map Logged f.proof) tt (All-map IsItem Logged f.proof is.proof))

costs_said : (costs : Option (List ℕ)) → IsSome costs → IfSome costs AreCosts → AreCosts (cost_numbers costs)
costs_said None some are = absurd cc
costs_said (Some ns) some are = are

-- what a line of the header says, if the version has it, lies within its limits
said_item : (h : Header) → IsHeader h → (line : HeaderLine) → has_line h.version line ≡ true → IsItem (said h line)
said_item h is (head.Number field) has = is.numbers field
said_item h is head.Pool has = is.pool
said_item h is head.Costs has = costs_said h.costs (is.costed has) is.costs

head_all : (h : Header) → IsHeader h → (line : HeaderLine) → All IsItem (line_items h line)
head_all h is line = elim (cases_Bool (has_line h.version line)) [
  | inl has ↦ rw has (All-cons IsItem (said h line) [] (said_item h is line has) (All-nil IsItem))
  | inr hasnt ↦ rw hasnt (All-nil IsItem)
]

heads_all : (h : Header) → IsHeader h → (lines : List HeaderLine) → All IsItem (flat_map (line_items h) lines)
heads_all h is [] = All-nil IsItem
heads_all h is (line ∷ lines) = All-append IsItem (line_items h line) (flat_map (line_items h) lines) (head_all h is line) (heads_all h is lines)

pub table_all : (t : Table) → IsTable t → All IsItem (items_of t)
table_all t is =
    let families = flat_map family_items t.families ++ End ∷ [] in
    let rules = flat_map rule_items t.rules ++ families in
    let body = map State t.states ++ rules in
    All-append IsItem (header_items t.header) body (heads_all t.header is.header heads)
    (All-append IsItem (map State t.states) rules (All-map IsItem State t.states is.states)
    (All-append IsItem (flat_map rule_items t.rules) families (many_items IsRule rule_items rule_all t.rules is.rules)
    (All-append IsItem (flat_map family_items t.families) (End ∷ []) (many_items IsFamily family_items family_all t.families is.families)
    (All-cons IsItem End [] tt (All-nil IsItem)))))

pub table_lines : (t : Table) → IsTable t → lines_of (text_of t) ≡ map ended (items_of t)
table_lines t is = lines_items (items_of t) (table_all t is)

-- ---- beginnings

pub begins : (is : List Item) → Opens is → Begins IsSomeTable (map ended is)
begins is o = record {
  bytes = text_of o.table;
  text = record { table = o.table; text = record { valid = o.valid; whole = refl } };
  rest = map ended o.rest;
  whole = table_lines o.table o.valid ∙ ap (map ended) o.whole ∙ map-append ended is o.rest;
}

-- if the lines of items begin with certain lines, the items split at the same place
record Split (xs is : List Item) (lines : List (List ℕ)) : Type 0 where
  rest : List Item
  whole : xs ≡ is ++ rest
  left : map ended rest ≡ lines

split : (xs is : List Item) (lines : List (List ℕ)) → All IsItem xs → All IsItem is → map ended xs ≡ map ended is ++ lines → Split xs is lines
split xs [] lines a b e = record { rest = xs; whole = refl; left = e }
split [] (i ∷ is) lines a b e = cc
split (x ∷ xs) (i ∷ is) lines a b e =
    let first : ended x ≡ ended i = cc in
    let tail : map ended xs ≡ map ended is ++ lines = cc in
    let same : x ≡ i = ended_tells x i (All-head IsItem x xs a) (All-head IsItem i is b) first in
    let later = split xs is lines (All-tail IsItem x xs a) (All-tail IsItem i is b) tail in
    record { rest = later.rest; whole = ap (λ y. y ∷ xs) same ∙ ap (λ us. i ∷ us) later.whole; left = later.left }

-- a table goes on with this line
record Goes (is : List Item) (line : List ℕ) : Type 0 where
  table : Table
  valid : IsTable table
  item : Item
  rest : List Item
  is_item : IsItem item
  whole : items_of table ≡ is ++ item ∷ rest
  is_line : ended item ≡ line

All-behind : (is : List Item) (j : Item) (rest : List Item) → All IsItem (is ++ j ∷ rest) → IsItem j
All-behind [] j rest h = All-head IsItem j rest h
All-behind (i ∷ is) j rest h = All-behind is j rest (All-tail IsItem i (is ++ j ∷ rest) h)

goes : (is : List Item) (line : List ℕ) → All IsItem is → Begins IsSomeTable (map ended is ++ line ∷ []) → Goes is line
goes is line all b = from (split (items_of b.text.table) is (line ∷ b.rest) items all e)
  where
    items : All IsItem (items_of b.text.table)
    items = table_all b.text.table b.text.text.valid

    e : map ended (items_of b.text.table) ≡ map ended is ++ line ∷ b.rest
    e = sym (table_lines b.text.table b.text.text.valid) ∙ ap lines_of b.text.text.whole ∙ b.whole ∙ append_assoc (map ended is) (line ∷ []) b.rest

    from : Split (items_of b.text.table) is (line ∷ b.rest) → Goes is line
    from s = by s.rest s.whole s.left
      where
        by : (rest : List Item) → items_of b.text.table ≡ is ++ rest → map ended rest ≡ line ∷ b.rest → Goes is line
        by [] w l = cc
        by (j ∷ rest) w l = record {
          table = b.text.table;
          valid = b.text.text.valid;
          item = j;
          rest = rest;
          is_item = All-behind is j rest (subst (All IsItem) w items);
          whole = w;
          is_line = cc;
        }

-- ---- the loop

-- items were read, and lines are left
pub record Progress (bytes : List ℕ) (left : List Placed) (s : Stage) (number : ℕ) : Type 0 where
  pub items : List Item
  pub split' : lines_of bytes ≡ map ended items ++ map whole left
  pub all : All IsItem items
  pub ran : run Start items ≡ Some s
  pub count : number ≡ length items + 1

pub begun : (bytes : List ℕ) (left : List Placed) → left ≡ lines_in bytes → Progress bytes left Start 1
unfolding run
begun bytes left e = record { items = []; split' = sym (ap (map whole) e ∙ map-whole bytes 1 0); all = All-nil IsItem; ran = refl; count = omega arith }

next_run : (is : List Item) (i : Item) (s : Stage) → run Start is ≡ Some s → run Start (is ++ i ∷ []) ≡ step s i
unfolding run
next_run is i s e = run-append Start is (i ∷ []) ∙ ap (option_and_then (λ u. option_and_then (λ v. Some v) (step u i))) e ∙ same (step s i)
  where
    same : (o : Option Stage) → option_and_then (λ v. Some v) o ≡ o
    same None = refl
    same (Some v) = refl

pub more : (bytes : List ℕ) (p : Placed) (left : List Placed) (s t : Stage) (n : ℕ) → Progress bytes (p ∷ left) s n → LineFollows s p t → Progress bytes left t (n + 1)
more bytes p left s t n g f = record {
  items = g.items ++ f.item ∷ [];
  split' = g.split' ∙ ap (λ l. map ended g.items ++ l ∷ map whole left) (whole_ended p f.ended ∙ ap (λ us. us ++ 10 ∷ []) (sym f.is))
      ∙ sym (append_assoc (map ended g.items) (ended f.item ∷ []) (map whole left)) ∙ ap (λ ls. ls ++ map whole left) (sym (map-append ended g.items (f.item ∷ [])));
  all = All-push IsItem g.items f.item g.all f.valid;
  ran = next_run g.items f.item s g.ran ∙ f.next;
  count = omega (arith, g.count, length-append g.items (f.item ∷ []));
}

-- the lines of a text that are left
pub record AreLeft (left : List Placed) : Type 0 where
  pub number : ℕ
  pub start : ℕ
  pub bytes : List ℕ
  pub is : left ≡ placed_from number start (lines_of bytes)

-- a line that isn't ended has no newline
open_line : (p : Placed) (left : List Placed) → AreLeft (p ∷ left) → p.is_ended ≡ false → is_ended (whole p) ≡ false
open_line p left a e = by (lines_of a.bytes) a.is
  where
    by : (ls : List (List ℕ)) → p ∷ left ≡ placed_from a.number a.start ls → is_ended (whole p) ≡ false
    by [] h = cc
    by (l ∷ ls) h =
        let same : p ≡ placed a.number a.start l = cc in
        let open' : is_ended l ≡ false = sym (ap (λ (q : Placed). q.is_ended) same) ∙ e in
        ap is_ended (whole_open p e ∙ ap (λ (q : Placed). q.text) same ∙ open_content l open') ∙ open'

run_none : (is : List Item) (j : Item) (rest : List Item) (s : Stage) (t : Table) → run Start is ≡ Some s → step s j ≡ None → run Start (is ++ j ∷ rest) ≡ Some (Done t) → ⊥
unfolding run
run_none is j rest s t ran none e =
    let bad : None ≡ Some (Done t) = sym (run-append Start is (j ∷ rest) ∙ ap (option_and_then (λ u. run u (j ∷ rest))) ran ∙ ap (option_and_then (λ u. run u rest)) none) ∙ e in
    absurd cc

pub bad : (bytes : List ℕ) (p : Placed) (left : List Placed) (s : Stage) (n : ℕ) → Progress bytes (p ∷ left) s n → AreLeft (p ∷ left) → StepsTo s p None → IsRefused bytes n
bad bytes p left s n g a none = record {
  before = map ended g.items;
  rest = whole p ∷ map whole left;
  split = g.split';
  count = omega (arith, g.count, length-map g.items ended);
  begins = begins g.items (read_opens g.items s g.all g.ran);
  stops = λ b. stops (goes g.items (whole p) g.all b);
}
  where
    stops : Goes g.items (whole p) → ⊥
    stops o = elim (cases_Bool p.is_ended) [
      | inl e ↦ (let line : line_of o.item ≡ p.text = append_cancel_right (line_of o.item) p.text (10 ∷ []) (o.is_line ∙ whole_ended p e) in
          run_none g.items o.item o.rest s o.table g.ran (none o.item e o.is_item line) (ap (run Start) (sym o.whole) ∙ reads o.table o.valid))
      | inr e ↦ true≢false (sym (is_ended_last (line_of o.item)) ∙ ap is_ended o.is_line ∙ open_line p left a e)
    ]

-- a line that says something
pub line_steps : (s : Stage) (p : Placed) (i : Item) (o : Option Stage) → p.is_ended ≡ true → IsItem i → line_of i ≡ p.text → o ≡ step s i → StepsTo s p o
line_steps s p i None ended' is text e = λ j h js same. let one : j ≡ i = lines_tell j i js is (same ∙ sym text) in ap (step s) one ∙ sym e
line_steps s p i (Some t) ended' is text e = record { ended = ended'; item = i; valid = is; is = text; next = sym e }

-- the number of a line is no more than the number of the text's bytes
pub room : (bytes : List ℕ) (p : Placed) (left : List Placed) (s : Stage) (n : ℕ) → Progress bytes (p ∷ left) s n → n ≤ length bytes
room bytes p left s n g =
    let all : length (lines_of bytes) ≡ length (map ended g.items) + length (map whole (p ∷ left)) =
    ap length g.split' ∙ length-append (map ended g.items) (map whole (p ∷ left)) in
    let lines : length (lines_in bytes) ≡ length (lines_of bytes) = sym (length-map (lines_in bytes) whole) ∙ ap length (map-whole bytes 1 0) in
    omega (arith, all, lines, length-lines_in bytes, g.count, length-map g.items ended, length-map left whole)

-- the text ends before the table does: the next line is missing
pub missing : (bytes : List ℕ) (s : Stage) (n : ℕ) → Progress bytes [] s n → ((t : Table) → s ≡ Done t → ⊥) → IsRefused bytes n
missing bytes s n g undone = record {
  before = map ended g.items;
  rest = [];
  split = g.split';
  count = omega (arith, g.count, length-map g.items ended);
  begins = begins g.items (read_opens g.items s g.all g.ran);
  stops = λ other some none.
      let t = some.table in
      let is = some.text.valid in
      let found = split (items_of t) g.items [] (table_all t is) g.all (sym (table_lines t is) ∙ ap lines_of some.text.whole ∙ none ∙ sym (append-nil (map ended g.items))) in
      undone t (same_Some s (Done t) (sym g.ran ∙ ap (run Start) (no_more t found) ∙ reads t is));
}
  where
    no_more : (t : Table) → Split (items_of t) g.items [] → g.items ≡ items_of t
    no_more t f = by f.rest f.whole f.left
      where
        by : (rest : List Item) → items_of t ≡ g.items ++ rest → map ended rest ≡ [] → g.items ≡ items_of t
        by [] w l = sym (w ∙ append-nil g.items)
        by (i ∷ rest) w l = cc

-- all lines were read
pub whole_text : (bytes : List ℕ) (t : Table) (n : ℕ) → Progress bytes [] (Done t) n → IsText bytes t
whole_text bytes t n g =
    let parts = read_whole g.items t g.all g.ran in
    let lines : lines_of bytes ≡ lines_of (text_of t) = g.split' ∙ append-nil (map ended g.items) ∙ ap (map ended) (sym parts.1) ∙ sym (table_lines t parts.0) in
    record { valid = parts.0; whole = sym (lines_join (text_of t)) ∙ ap concat (sym lines) ∙ lines_join bytes }

-- ---- laws

same_done : (t u : Table) → Some (Done t) ≡ Some (Done u) → t ≡ u
same_done t u e = cc

same_items : (xs ys : List Item) → All IsItem xs → All IsItem ys → map ended xs ≡ map ended ys → xs ≡ ys
same_items xs ys a b e = by (split xs ys [] a b (e ∙ sym (append-nil (map ended ys))))
  where
    none : (rest : List Item) → map ended rest ≡ [] → rest ≡ []
    none [] h = refl
    none (i ∷ rest) h = cc

    by : Split xs ys [] → xs ≡ ys
    by s = s.whole ∙ ap (λ us. ys ++ us) (none s.rest s.left) ∙ append-nil ys

pub one_table : OneTable
one_table bytes t u a b =
    let lines : map ended (items_of t) ≡ map ended (items_of u) = sym (table_lines t a.valid) ∙ ap lines_of (a.whole ∙ sym b.whole) ∙ table_lines u b.valid in
    let items = same_items (items_of t) (items_of u) (table_all t a.valid) (table_all u b.valid) lines in
    same_done t u (sym (reads t a.valid) ∙ ap (run Start) items ∙ reads u b.valid)

pub not_both : NotBoth
not_both bytes t n a = refusals.not_both IsSomeTable bytes n (record { table = t; text = a })

pub refused_once : RefusedOnce
refused_once = refusals.refused_once IsSomeTable

pub written_reads_back : WrittenReadsBack
written_reads_back t (Ok u) is r = one_table (text_of t) (table_of u) t r (record { valid = is; whole = refl })
written_reads_back t (Err (error.Line n)) is r = not_both (text_of t) t n (record { valid = is; whole = refl }) r
written_reads_back t (Err error.Memory) is r = tt

-- ---- lines that come

pub bad_at : (bytes : List ℕ) (left after : List Placed) (p : Placed) (s : Stage) (n : ℕ) → Progress bytes left s n → AreLeft left → left ≡ p ∷ after → StepsTo s p None → IsRefused bytes n
bad_at bytes left after p s n g a e none =
    let P : List Placed → Type 0 = λ w. Progress bytes w s n in
    bad bytes p after s n (subst P e g) (subst AreLeft e a) none

pub more_at : (bytes : List ℕ) (left after : List Placed) (p : Placed) (s t : Stage) (n : ℕ) → Progress bytes left s n → left ≡ p ∷ after → StepsTo s p (Some t) → Progress bytes after t (n + 1)
more_at bytes left after p s t n g e next =
    let P : List Placed → Type 0 = λ w. Progress bytes w s n in
    more bytes p after s t n (subst P e g) next

pub room_at : (bytes : List ℕ) (left after : List Placed) (p : Placed) (s : Stage) (n : ℕ) → Progress bytes left s n → left ≡ p ∷ after → n ≤ length bytes
room_at bytes left after p s n g e =
    let P : List Placed → Type 0 = λ w. Progress bytes w s n in
    room bytes p after s n (subst P e g)

pub missing_at : (bytes : List ℕ) (left : List Placed) (s : Stage) (n : ℕ) → Progress bytes left s n → left ≡ [] → ((t : Table) → s ≡ Done t → ⊥) → IsRefused bytes n
missing_at bytes left s n g e undone =
    let P : List Placed → Type 0 = λ w. Progress bytes w s n in
    missing bytes s n (subst P e g) undone

pub whole_at : (bytes : List ℕ) (left : List Placed) (s : Stage) (t : Table) (n : ℕ) → Progress bytes left s n → left ≡ [] → s ≡ Done t → IsText bytes t
whole_at bytes left s t n g e done =
    let P : List Placed → Type 0 = λ w. Progress bytes w s n in
    let Q : Stage → Type 0 = λ u. Progress bytes [] u n in
    whole_text bytes t n (subst Q done (subst P e g))
