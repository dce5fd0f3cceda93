-- Lines that the grammar can read are the first lines of some table: from each stage there is a way on to the line `end`.
use Rattle.std.proofs.Common.{◌≡◌, ℕ, suc, ◌+◌, ◌-◌, ◌<◌, ◌≤◌, ◌^◌, ◌&&◌, inl, inr, take, drop, true, false, List, [], ◌∷◌, ◌++◌, length, map, nat_le, nat_lt, refl, sym, ◌∙◌, ap, arith, Some, append_assoc, append-nil, length-append, lt-ltb, le-leb, ltb-true, leb-true, leb-false, max, subst, true≢false}
use Rattle.std.specs.List.{flat_map, All}
use Rattle.std.specs.Option.{option_map}
use Rattle.std.proofs.Math.Seq.{take-append_seam}
use Rattle.std.proofs.lemmas.Bool.{and_parts, cases_Bool, lt-leb, true_from_ne_false as unopened}
use Rattle.std.proofs.lemmas.Nat.Bits.{bit_at-zero}
use Rattle.std.specs.Prelude.{◌==◌, ◌⊎◌, if◌then◌else◌, IfSome, IsSome, is_some, None, Option, replicate}
use Rattle.std.proofs.lemmas.Option.{cond_some, same_Some, option_and_then_some}
use Rattle.std.proofs.lemmas.List.{map-append, take-append-drop}
use Rattle.thumb_syntax.proofs.Steps.{map_some}
use Rattle.std.proofs.lemmas.List.Concat.{flat_map-append}
use Rattle.std.proofs.lemmas.List.Elements.{All-nil, All-cons, All-head, All-tail, All-push, All-replicate}
use Rattle.seq_enum.specs.Alphabet.{ascends_from, is_pool}
use Rattle.seq_enum.specs.Costs.{AreCosts}
use Rattle.thumb_instr.specs.declared.instr.Instr.{Instr}
use Rattle.thumb_instr.specs.declared.instr.Instr.TheVariants as instr
use Rattle.thumb_instr.specs.declared.within.Within.{Within}
use Rattle.lrat_check.specs.Text.{Content, IsLine}
use Rattle.rule_table.specs.declared.header.Field.{Field}
use Rattle.rule_table.specs.declared.header.Field.TheVariants as field
use Rattle.rule_table.specs.declared.header.HeaderLine.{HeaderLine}
use Rattle.rule_table.specs.declared.header.HeaderLine.TheVariants as head
use Rattle.rule_table.specs.Header.{Header, heads, has_line, has_families, number_in, with_number, is_same, blank, since, version_with, learnt_header, IsWithin, IsHeader}
use Rattle.rule_table.specs.Table.{Opened, Rule, Family as Raised, Table, IsState, IsInstr, IsMask, IsOpened, IsRule, IsFamily, IsTable, numbers_of}
use Rattle.rule_table.specs.Text.{Item, Number, Pool, Costs, State, Entry, Left, Right, Mask, Proof, Logged, Open, Family, End, rule_items, family_items, line_items, header_items, items_of}
use Rattle.rule_table.specs.Items.{IsItem}
use Rattle.rule_table.specs.Grammar.{Stage, Start, Heading, Stated, Sided, Masked, Proved, Opening, Raising, Shown, Done, with_state, with_rule, with_opened, with_family, is_empty, heard, later, raising, step, run}

-- a header, states, finished rules and finished families
abbrev pub front_items : Table → List Item
front_items t = header_items t.header ++ (map State t.states ++ (flat_map rule_items t.rules ++ flat_map family_items t.families))

-- the lines that were read on the way to a stage; for a header those before the lines that are due
unfoldable pub written : Stage → List Item
written (Heading h due) = flat_map (line_items h) (take (length heads - length due) heads)
written (Stated t) = front_items t
written (Sided t ls rs) = front_items t ++ (Entry ∷ (map Left ls ++ map Right rs))
written (Masked t ls rs m) = front_items t ++ (Entry ∷ (map Left ls ++ (map Right rs ++ Mask m ∷ [])))
written (Proved t r) = front_items t ++ rule_items r
written (Opening t r o) = front_items t ++ rule_items (with_opened r o)
written (Raising t f) = front_items t ++ Family f.entry f.number f.low f.high ∷ []
written (Shown t f) = front_items t ++ family_items f
written (Done t) = items_of t

-- few instructions, and none on the right before one on the left
pub record AreSides (ls rs : List Instr) : Type 0 where
  pub few_left : length ls ≤ 5
  pub few_right : length rs ≤ 5
  pub left : All IsInstr ls
  pub right : All IsInstr rs
  pub after_left : is_empty rs ≡ false → 0 < length ls

-- the index of a line in the header
abbrev pub place : HeaderLine → ℕ
place (head.Number field.Version) = 0
place (head.Number field.Regs) = 1
place (head.Number field.Left) = 2
place (head.Number field.Seed) = 3
place (head.Number field.Budget) = 4
place head.Pool = 5
place (head.Number field.Scratch) = 6
place head.Costs = 7

-- a header of which lines are due: it is valid, except that its costs may still be missing
pub record IsBegun (h : Header) : Type 0 where
  pub numbers : (x : Field) → IsWithin x (number_in h x)
  pub pool : is_pool h.pool ≡ true
  pub costs : IfSome h.costs AreCosts
  pub uncosted : has_line h.version head.Costs ≡ false → h.costs ≡ None
  pub unsaid : (x : Field) → has_line h.version (head.Number x) ≡ false → number_in h x ≡ number_in blank x

-- the fields of the lines from an index on are those of `blank`; the costs are present if their line is before it
pub record IsReadTo (to : ℕ) (h : Header) : Type 0 where
  pub numbers : (x : Field) → to ≤ place (head.Number x) → number_in h x ≡ number_in blank x
  pub uncosted : to ≤ place head.Costs → h.costs ≡ None
  pub costed : place head.Costs < to → has_line h.version head.Costs ≡ true → IsSome h.costs

abbrev pub HasFirst : Header → List HeaderLine → Type 0
HasFirst h [] = Unit {0}
HasFirst h (line ∷ due) = has_line h.version line ≡ true

-- some lines of a header are read, these are left, and the version has the first of these
pub record HasRead (h : Header) (due : List HeaderLine) : Type 0 where
  pub read : List HeaderLine
  pub split : read ++ due ≡ heads
  pub none : IsReadTo (length read) h
  pub first : HasFirst h due

-- the invariant of each stage; before the first family there is none in the table
unfoldable pub Fine : Stage → Type 0
Fine (Heading h due) = IsBegun h × HasRead h due
Fine (Stated t) = IsTable t × (t.rules ≡ []) × (t.families ≡ [])
Fine (Sided t ls rs) = IsTable t × AreSides ls rs × (t.families ≡ [])
Fine (Masked t ls rs m) = IsTable t × AreSides ls rs × (0 < length ls) × IsMask m × (t.families ≡ [])
Fine (Proved t r) = IsTable t × IsRule r × (r.opens ≡ []) × (t.families ≡ [])
Fine (Opening t r o) = IsTable t × IsRule (with_opened r o) × (t.families ≡ [])
Fine (Raising t f) = IsTable t × IsFamily f × (f.proof ≡ []) × (has_families t.header.version ≡ true)
Fine (Shown t f) = IsTable t × IsFamily f × (has_families t.header.version ≡ true)
Fine (Done t) = IsTable t

record Steps (s t : Stage) (i : Item) : Type 0 where
  more : written t ≡ written s ++ i ∷ []
  fine : Fine t

-- ---- more of a table

table_state : (t : Table) (s : _) → IsTable t → IsState s → IsTable (with_state t s)
table_state t s is state = record {
  header = is.header;
  states = All-push IsState t.states s is.states state;
  rules = is.rules;
  families = is.families;
  none_before = is.none_before;
}

table_rule : (t : Table) (r : Rule) → IsTable t → IsRule r → IsTable (with_rule t r)
table_rule t r is rule = record {
  header = is.header;
  states = is.states;
  rules = All-push IsRule t.rules r is.rules rule;
  families = is.families;
  none_before = is.none_before;
}

table_family : (t : Table) (f : Raised) → IsTable t → IsFamily f → has_families t.header.version ≡ true → IsTable (with_family t f)
table_family t f is family has = record {
  header = is.header;
  states = is.states;
  rules = is.rules;
  families = All-push IsFamily t.families f is.families family;
  none_before = λ hasnt. absurd (true≢false (sym has ∙ hasnt));
}

family_of_numbers : (entry number low high : ℕ) → IsItem (Family entry number low high) → IsFamily (record { entry = entry; number = number; low = low; high = high; proof = [] })
family_of_numbers entry number low high is =
    let P : ℕ → Type 0 = λ n. n < 2 ^ 32 in
    let two = All-tail P entry (number ∷ low ∷ high ∷ []) is in
    let three = All-tail P number (low ∷ high ∷ []) two in
    record {
      entry = All-head P entry (number ∷ low ∷ high ∷ []) is;
      number = All-head P number (low ∷ high ∷ []) two;
      low = All-head P low (high ∷ []) three;
      high = All-head P high [] (All-tail P low (high ∷ []) three);
      proof = All-nil IsLine;
    }

family_line : (f : Raised) (c : Content) → IsFamily f → IsLine c → IsFamily (record f { proof = f.proof ++ c ∷ [] })
family_line f c is line = record {
  entry = is.entry;
  number = is.number;
  low = is.low;
  high = is.high;
  proof = All-push IsLine f.proof c is.proof line;
}

rule_of_sides : (ls rs : List Instr) (m : ℕ) → AreSides ls rs → 0 < length ls → IsMask m → IsRule (record { left = ls; right = rs; mask = m; proof = []; opens = [] })
unfolding ascends_from
rule_of_sides ls rs m sides some mask = record {
  some = some;
  few_left = sides.few_left;
  few_right = sides.few_right;
  left = sides.left;
  right = sides.right;
  mask = mask;
  proof = All-nil IsLine;
  opens = All-nil IsOpened;
  ascending = refl;
}

rule_line : (r : Rule) (c : Content) → IsRule r → IsLine c → IsRule (record { left = r.left; right = r.right; mask = r.mask; proof = r.proof ++ c ∷ []; opens = r.opens })
rule_line r c is line = record {
  some = is.some;
  few_left = is.few_left;
  few_right = is.few_right;
  left = is.left;
  right = is.right;
  mask = is.mask;
  proof = All-push IsLine r.proof c is.proof line;
  opens = is.opens;
  ascending = is.ascending;
}

-- a rule with other open numbers
rule_opens : (r : Rule) (os : List Opened) → IsRule r → All IsOpened os → ascends_from 0 (numbers_of os) ≡ true
    → IsRule (record { left = r.left; right = r.right; mask = r.mask; proof = r.proof; opens = os })
rule_opens r os is opens up = record {
  some = is.some;
  few_left = is.few_left;
  few_right = is.few_right;
  left = is.left;
  right = is.right;
  mask = is.mask;
  proof = is.proof;
  opens = opens;
  ascending = up;
}

-- a number above the last one may follow
rises_more : (low : ℕ) (os : List Opened) (o p : Opened) → ascends_from low (numbers_of (os ++ o ∷ [])) ≡ true → o.number < p.number
    → ascends_from low (numbers_of ((os ++ o ∷ []) ++ p ∷ [])) ≡ true
unfolding ascends_from
rises_more low [] o p up h = rw ((and_parts (nat_le low o.number) true up).0, le-leb (suc o.number) p.number h) refl
rises_more low (q ∷ os) o p up h =
    let parts = and_parts (nat_le low q.number) (ascends_from (suc q.number) (numbers_of (os ++ o ∷ []))) up in
    rw parts.0 (rises_more (suc q.number) os o p parts.1 h)

-- the last number's log doesn't matter
rises_same : (low : ℕ) (os : List Opened) (o p : Opened) → o.number ≡ p.number → ascends_from low (numbers_of (os ++ o ∷ [])) ≡ true → ascends_from low (numbers_of (os ++ p ∷ [])) ≡ true
unfolding ascends_from
rises_same low [] o p e up = rw e at up
rises_same low (q ∷ os) o p e up =
    let parts = and_parts (nat_le low q.number) (ascends_from (suc q.number) (numbers_of (os ++ o ∷ []))) up in
    rw parts.0 (rises_same (suc q.number) os o p e parts.1)

All-front : (xs : List Opened) (x : Opened) → All IsOpened (xs ++ x ∷ []) → All IsOpened xs × IsOpened x
All-front [] x h = (All-nil IsOpened, All-head IsOpened x [] h)
All-front (y ∷ xs) x h =
    let rest = All-front xs x (All-tail IsOpened y (xs ++ x ∷ []) h) in
    (All-cons IsOpened y xs (All-head IsOpened y (xs ++ x ∷ []) h) rest.0, rest.1)

opened : (n : ℕ) → n < 2 ^ 64 → IsOpened (record { number = n; log = [] })
opened n h = record { small = h; log = All-nil IsLine }

opened_line : (o : Opened) (c : Content) → IsOpened o → IsLine c → IsOpened (record { number = o.number; log = o.log ++ c ∷ [] })
opened_line o c is line = record { small = is.small; log = All-push IsLine o.log c is.log line }

-- ---- more lines

-- one more line at the end
behind : (t : Table) (xs ys : List Item) (i : Item) → ys ≡ xs ++ i ∷ [] → front_items t ++ ys ≡ (front_items t ++ xs) ++ i ∷ []
behind t xs ys i e = ap (λ us. front_items t ++ us) e ∙ sym (append_assoc (front_items t) xs (i ∷ []))

last_more : {X : Type 0} (f : X → Item) (xs : List X) (x : X) → map f (xs ++ x ∷ []) ++ [] ≡ (map f xs ++ []) ++ f x ∷ []
last_more f xs x = append-nil (map f (xs ++ x ∷ [])) ∙ map-append f xs (x ∷ []) ∙ ap (λ us. us ++ f x ∷ []) (sym (append-nil (map f xs)))

left_more : (ls : List Instr) (i : Instr) → Entry ∷ (map Left (ls ++ i ∷ []) ++ map Right []) ≡ (Entry ∷ (map Left ls ++ map Right [])) ++ Left i ∷ []
left_more ls i = simp (map-append, append-nil) refl

right_more : (ls rs : List Instr) (i : Instr) → Entry ∷ (map Left ls ++ map Right (rs ++ i ∷ [])) ≡ (Entry ∷ (map Left ls ++ map Right rs)) ++ Right i ∷ []
right_more ls rs i = simp (map-append, append_assoc) refl

mask_more : (ls rs : List Instr) (m : ℕ) → Entry ∷ (map Left ls ++ (map Right rs ++ Mask m ∷ [])) ≡ (Entry ∷ (map Left ls ++ map Right rs)) ++ Mask m ∷ []
mask_more ls rs m = simp append_assoc refl

proof_more : (ls rs : List Instr) (m : ℕ) → rule_items (record { left = ls; right = rs; mask = m; proof = []; opens = [] }) ≡ (Entry ∷ (map Left ls ++ (map Right rs ++ Mask m ∷ []))) ++ Proof ∷ []
proof_more ls rs m = simp append_assoc refl

line_more : (r : Rule) (c : Content) → r.opens ≡ [] → rule_items (record { left = r.left; right = r.right; mask = r.mask; proof = r.proof ++ c ∷ []; opens = r.opens }) ≡ rule_items r ++ Logged c ∷ []
line_more r c none =
    let L = map Left r.left in
    let R = map Right r.right in
    let xs = map Logged r.proof ++ [] in
    rw none (ap (λ us. Entry ∷ (L ++ (R ++ Mask r.mask ∷ Proof ∷ us))) (last_more Logged r.proof c)
    ∙ sym (ap (λ us. Entry ∷ us) (append_assoc L (R ++ Mask r.mask ∷ Proof ∷ xs) (Logged c ∷ []) ∙ ap (λ us. L ++ us) (append_assoc R (Mask r.mask ∷ Proof ∷ xs) (Logged c ∷ [])))))

open_more : (r : Rule) (n : ℕ) → rule_items (with_opened r (record { number = n; log = [] })) ≡ rule_items r ++ Open n ∷ []
open_more r n = simp (flat_map-append, append_assoc) refl

log_more : (r : Rule) (o : Opened) (c : Content) → rule_items (with_opened r (record { number = o.number; log = o.log ++ c ∷ [] })) ≡ rule_items (with_opened r o) ++ Logged c ∷ []
log_more r o c = simp (flat_map-append, map-append, append_assoc, append-nil) refl

rule_more : (t : Table) (r : Rule) (xs : List Item) → t.families ≡ [] → front_items (with_rule t r) ++ xs ≡ (front_items t ++ rule_items r) ++ xs
rule_more t r xs none = rw none (simp (flat_map-append, append_assoc, append-nil) refl)

-- the first line of a family's proof, and a further one
shown_more : (f : Raised) → f.proof ≡ [] → family_items f ≡ (Family f.entry f.number f.low f.high ∷ []) ++ Proof ∷ []
shown_more f none = ap (λ cs. Family f.entry f.number f.low f.high ∷ Proof ∷ map Logged cs) none

family_more : (f : Raised) (c : Content) → family_items (record f { proof = f.proof ++ c ∷ [] }) ≡ family_items f ++ Logged c ∷ []
family_more f c = ap (λ us. Family f.entry f.number f.low f.high ∷ Proof ∷ us) (map-append Logged f.proof (c ∷ []))

families_more : (t : Table) (f : Raised) (xs : List Item) → front_items (with_family t f) ++ xs ≡ (front_items t ++ family_items f) ++ xs
families_more t f xs = simp (flat_map-append, append_assoc, append-nil) refl

table_more : (t : Table) → items_of t ≡ front_items t ++ End ∷ []
table_more t = simp append_assoc refl

state_more : (t : Table) (s : _) → t.rules ≡ [] → t.families ≡ [] → front_items (with_state t s) ≡ front_items t ++ State s ∷ []
state_more t s none none_raised =
    rw (none, none_raised) (ap (λ us. header_items t.header ++ us) (last_more State t.states s) ∙ sym (append_assoc (header_items t.header) (map State t.states ++ []) (State s ∷ [])))

empty : (xs : List Instr) → is_empty xs ≡ true → xs ≡ []
empty [] e = refl
empty (x ∷ xs) e = cc

no_sides : AreSides [] []
no_sides = record { few_left = omega arith; few_right = omega arith; left = All-nil IsInstr; right = All-nil IsInstr; after_left = λ e. absurd cc }

-- ---- the header

same_field : (f x : Field) → is_same f x ≡ true → f ≡ x
same_field field.Version field.Version e = refl
same_field field.Regs field.Regs e = refl
same_field field.Left field.Left e = refl
same_field field.Seed field.Seed e = refl
same_field field.Budget field.Budget e = refl
same_field field.Scratch field.Scratch e = refl
same_field f x e = absurd cc

number_set : (h : Header) (f : Field) (n : ℕ) → number_in (with_number h f n) f ≡ n
number_set h field.Version n = refl
number_set h field.Regs n = refl
number_set h field.Left n = refl
number_set h field.Seed n = refl
number_set h field.Budget n = refl
number_set h field.Scratch n = refl

-- setting a number leaves the other fields of the header
number_kept : (h : Header) (f x : Field) (n : ℕ) → is_same f x ≡ false → number_in (with_number h f n) x ≡ number_in h x
number_kept h field.Version field.Version n e = absurd cc
number_kept h field.Regs field.Regs n e = absurd cc
number_kept h field.Left field.Left n e = absurd cc
number_kept h field.Seed field.Seed n e = absurd cc
number_kept h field.Budget field.Budget n e = absurd cc
number_kept h field.Scratch field.Scratch n e = absurd cc
number_kept h f x n e = refl

lists_kept : (h : Header) (f : Field) (n : ℕ) → ((with_number h f n).pool ≡ h.pool) × ((with_number h f n).costs ≡ h.costs)
lists_kept h field.Version n = (refl, refl)
lists_kept h field.Regs n = (refl, refl)
lists_kept h field.Left n = (refl, refl)
lists_kept h field.Seed n = (refl, refl)
lists_kept h field.Budget n = (refl, refl)
lists_kept h field.Scratch n = (refl, refl)

numbers_kept : (h : Header) (pool : List ℕ) (costs : Option (List ℕ)) (x : Field) → number_in (record h { pool = pool; costs = costs }) x ≡ number_in h x
numbers_kept h pool costs field.Version = refl
numbers_kept h pool costs field.Regs = refl
numbers_kept h pool costs field.Left = refl
numbers_kept h pool costs field.Seed = refl
numbers_kept h pool costs field.Budget = refl
numbers_kept h pool costs field.Scratch = refl

-- a header that has its costs, if it needs them, is valid
whole : (h : Header) → IsBegun h → (has_line h.version head.Costs ≡ true → IsSome h.costs) → IsHeader h
whole h is costed = record { numbers = is.numbers; pool = is.pool; costs = is.costs; costed = costed; uncosted = is.uncosted; unsaid = is.unsaid }

with_costs : (h : Header) (ns : List ℕ) → IsBegun h → has_line h.version head.Costs ≡ true → AreCosts ns → IsBegun (record h { costs = Some ns })
with_costs h ns is has are = record {
  numbers = λ x. subst (IsWithin x) (sym (numbers_kept h h.pool (Some ns) x)) (is.numbers x);
  pool = is.pool;
  costs = are;
  uncosted = λ hasnt. absurd (true≢false (sym has ∙ hasnt));
  unsaid = λ x unsaid. numbers_kept h h.pool (Some ns) x ∙ is.unsaid x unsaid;
}

-- setting the costs leaves the lines before that of the costs
costs_kept : (h : Header) (costs : Option (List ℕ)) (l : HeaderLine) → place l < place head.Costs → line_items (record h { costs = costs }) l ≡ line_items h l
costs_kept h costs (head.Number x) less = ap (λ m. if has_line h.version (head.Number x) then Number x m ∷ [] else []) (numbers_kept h h.pool costs x)
costs_kept h costs head.Pool less = refl
costs_kept h costs head.Costs less = absurd (omega (arith, less))

numbers_before : (f : Field) → place (head.Number f) < place head.Costs
numbers_before field.Version = omega arith
numbers_before field.Regs = omega arith
numbers_before field.Left = omega arith
numbers_before field.Seed = omega arith
numbers_before field.Budget = omega arith
numbers_before field.Scratch = omega arith

-- the costs stand last
last_line : (l : HeaderLine) → place head.Costs ≤ place l → l ≡ head.Costs
last_line (head.Number f) h = absurd (omega (arith, h, numbers_before f))
last_line head.Pool h = absurd (omega (arith, h))
last_line head.Costs h = refl

no_line_behind : (l : HeaderLine) → place l ≤ place head.Costs
no_line_behind (head.Number f) = omega (arith, numbers_before f)
no_line_behind head.Pool = omega arith
no_line_behind head.Costs = omega arith

abbrev StandFrom : ℕ → List HeaderLine → Type 0
StandFrom from [] = Unit {0}
StandFrom from (line ∷ lines) = (place line ≡ from) × StandFrom (suc from) lines

heads_stand : StandFrom 0 heads
heads_stand = (refl, (refl, (refl, (refl, (refl, (refl, (refl, (refl, tt))))))))

stands_later : (from : ℕ) (read : List HeaderLine) (line : HeaderLine) (due : List HeaderLine) → StandFrom from (read ++ line ∷ due) → from ≤ place line
stands_later from [] line due o = omega (arith, o.0)
stands_later from (l ∷ read) line due o = omega (arith, stands_later (suc from) read line due o.1)

stands_at : (from : ℕ) (read : List HeaderLine) (line : HeaderLine) (due : List HeaderLine) → StandFrom from (read ++ line ∷ due) → place line ≡ from + length read
stands_at from [] line due o = omega (arith, o.0)
stands_at from (l ∷ read) line due o = omega (arith, stands_at (suc from) read line due o.1)

-- one more line: the header has what it says, the lines before stay, and later fields are still those of `blank`
record Hears (h g : Header) (line : HeaderLine) (i : Item) : Type 0 where
  fine : IsBegun g
  says : line_items g line ≡ i ∷ []
  kept : (l : HeaderLine) → place l < place line → line_items g l ≡ line_items h l
  behind : IsReadTo (suc (place line)) g

module _ (h : Header) (f : Field) (n : ℕ) (is : IsBegun h) (none : IsReadTo (place (head.Number f)) h) (due : has_line h.version (head.Number f) ≡ true) (within : IsWithin f n) where
  heard_number : Header
  heard_number = with_number h f n

  -- setting another number leaves the version
  lines_kept : is_same f field.Version ≡ false → (l : HeaderLine) → has_line heard_number.version l ≡ has_line h.version l
  unfolding heard_number
  lines_kept e l = ap (λ v. has_line v l) (number_kept h f field.Version n e)

  own_line : has_line heard_number.version (head.Number f) ≡ true
  unfolding heard_number
  own_line = elim (cases_Bool (is_same f field.Version)) [
    | inl e ↦ (let same = same_field f field.Version e in
        let some : 1 ≤ n = (subst (λ y. IsWithin y n) same within).0 in
        subst (λ y. has_line (with_number h y n).version (head.Number y) ≡ true) (sym same) (le-leb 1 n some))
    | inr e ↦ lines_kept e (head.Number f) ∙ due
  ]

  numbers_fine : (x : Field) → IsWithin x (number_in heard_number x)
  unfolding heard_number
  numbers_fine x = elim (cases_Bool (is_same f x)) [
    | inl e ↦ subst (λ y. IsWithin y (number_in (with_number h f n) y)) (same_field f x e) (subst (IsWithin f) (sym (number_set h f n)) within)
    | inr e ↦ subst (IsWithin x) (sym (number_kept h f x n e)) (is.numbers x)
  ]

  -- a number for whose line the version is too early is still that of `blank`
  still_blank : (x : Field) → has_line heard_number.version (head.Number x) ≡ false → number_in h x ≡ number_in blank x
  still_blank x unsaid = elim (cases_Bool (is_same f field.Version)) [
    | inl e ↦ none.numbers x (omega (arith, ap (λ y. place (head.Number y)) (same_field f field.Version e)))
    | inr e ↦ is.unsaid x (sym (lines_kept e (head.Number x)) ∙ unsaid)
  ]

  unsaid_fine : (x : Field) → has_line heard_number.version (head.Number x) ≡ false → number_in heard_number x ≡ number_in blank x
  unfolding heard_number
  unsaid_fine x unsaid = elim (cases_Bool (is_same f x)) [
    | inl e ↦ absurd (true≢false (sym own_line ∙ ap (λ y. has_line (with_number h f n).version (head.Number y)) (same_field f x e) ∙ unsaid))
    | inr e ↦ number_kept h f x n e ∙ still_blank x unsaid
  ]

  uncosted_fine : has_line heard_number.version head.Costs ≡ false → heard_number.costs ≡ None
  unfolding heard_number
  uncosted_fine hasnt = (lists_kept h f n).1 ∙ elim (cases_Bool (is_same f field.Version)) [
    | inl e ↦ none.uncosted (omega (arith, numbers_before f))
    | inr e ↦ is.uncosted (sym (lines_kept e head.Costs) ∙ hasnt)
  ]

  number_line_kept : (x : Field) → place (head.Number x) < place (head.Number f) → line_items heard_number (head.Number x) ≡ line_items h (head.Number x)
  unfolding heard_number
  number_line_kept x less = elim (cases_Bool (is_same f x)) [
    | inl e ↦ absurd (omega (arith, ap (λ y. place (head.Number y)) (same_field f x e), less))
    | inr e ↦ elim (cases_Bool (is_same f field.Version)) [
      | inl v ↦ absurd (omega (arith, ap (λ y. place (head.Number y)) (same_field f field.Version v), less))
      | inr v ↦ ap (λ b. if b then Number x (number_in (with_number h f n) x) ∷ [] else []) (lines_kept v (head.Number x))
          ∙ ap (λ m. if has_line h.version (head.Number x) then Number x m ∷ [] else []) (number_kept h f x n e)
    ]
  ]

  pool_line_kept : place head.Pool < place (head.Number f) → line_items heard_number head.Pool ≡ line_items h head.Pool
  unfolding heard_number
  pool_line_kept less = elim (cases_Bool (is_same f field.Version)) [
    | inl v ↦ absurd (omega (arith, ap (λ y. place (head.Number y)) (same_field f field.Version v), less))
    | inr v ↦ ap (λ b. if b then Pool (with_number h f n).pool ∷ [] else []) (lines_kept v head.Pool)
        ∙ ap (λ ns. if has_line h.version head.Pool then Pool ns ∷ [] else []) (lists_kept h f n).0
  ]

  number_heard : Hears h (with_number h f n) (head.Number f) (Number f n)
  unfolding heard_number
  number_heard = record {
    fine = record {
      numbers = numbers_fine;
      pool = ap is_pool (lists_kept h f n).0 ∙ is.pool;
      costs = subst (λ costs. IfSome costs AreCosts) (sym (lists_kept h f n).1) is.costs;
      uncosted = uncosted_fine;
      unsaid = unsaid_fine;
    };
    says = rw own_line (ap (λ m. Number f m ∷ []) (number_set h f n));
    kept = kept;
    behind = record {
      numbers = λ x later. elim (cases_Bool (is_same f x)) [
        | inl e ↦ absurd (omega (arith, ap (λ y. place (head.Number y)) (same_field f x e), later))
        | inr e ↦ number_kept h f x n e ∙ none.numbers x (omega (arith, later))
      ];
      uncosted = λ later. (lists_kept h f n).1 ∙ none.uncosted (omega (arith, numbers_before f));
      costed = λ less has. absurd (omega (arith, less, numbers_before f));
    };
  }
    where
      kept : (l : HeaderLine) → place l < place (head.Number f) → line_items (with_number h f n) l ≡ line_items h l
      kept (head.Number x) less = number_line_kept x less
      kept head.Pool less = pool_line_kept less
      kept head.Costs less = absurd (omega (arith, less, numbers_before f))

pool_heard : (h : Header) (ns : List ℕ) → IsBegun h → IsReadTo 5 h → has_line h.version head.Pool ≡ true → is_pool ns ≡ true → Hears h (record h { pool = ns }) head.Pool (Pool ns)
pool_heard h ns is none due pool = record {
  fine = record {
    numbers = λ x. subst (IsWithin x) (sym (numbers_kept h ns h.costs x)) (is.numbers x);
    pool = pool;
    costs = is.costs;
    uncosted = is.uncosted;
    unsaid = λ x unsaid. numbers_kept h ns h.costs x ∙ is.unsaid x unsaid;
  };
  says = rw due refl;
  kept = kept;
  behind = record {
    numbers = λ x later. numbers_kept h ns h.costs x ∙ none.numbers x (omega (arith, later));
    uncosted = λ later. none.uncosted (omega arith);
    costed = λ less has. absurd (omega (arith, less));
  };
}
  where
    kept : (l : HeaderLine) → place l < 5 → line_items (record h { pool = ns }) l ≡ line_items h l
    kept (head.Number x) less = ap (λ m. if has_line h.version (head.Number x) then Number x m ∷ [] else []) (numbers_kept h ns h.costs x)
    kept head.Pool less = absurd (omega (arith, less))
    kept head.Costs less = absurd (omega (arith, less))

costs_heard : (h : Header) (ns : List ℕ) → IsBegun h → IsReadTo 7 h → has_line h.version head.Costs ≡ true → AreCosts ns → Hears h (record h { costs = Some ns }) head.Costs (Costs ns)
costs_heard h ns is none due are = record {
  fine = with_costs h ns is due are;
  says = rw due refl;
  kept = costs_kept h (Some ns);
  behind = record {
    numbers = λ x later. numbers_kept h h.pool (Some ns) x ∙ none.numbers x (omega (arith, later));
    uncosted = λ later. absurd (omega (arith, later));
    costed = λ less has. refl;
  };
}

hears : (h g : Header) (line : HeaderLine) (i : Item) → IsBegun h → IsReadTo (place line) h → has_line h.version line ≡ true → IsItem i → heard h line i ≡ Some g → Hears h g line i
hears h g (head.Number due) (Number f n) is none has within e =
    let parts = cond_some (is_same due f) (with_number h f n) g e in
    let same = same_field due f parts.0 in
    let blank : IsReadTo (place (head.Number f)) h = subst (λ d. IsReadTo (place (head.Number d)) h) same none in
    let own : has_line h.version (head.Number f) ≡ true = subst (λ d. has_line h.version (head.Number d) ≡ true) same has in
    let at : Hears h g (head.Number f) (Number f n) = subst (λ k. Hears h k (head.Number f) (Number f n)) parts.1 (number_heard h f n is blank own within) in
    subst (λ d. Hears h g (head.Number d) (Number f n)) (sym same) at
hears h g head.Pool (Pool ns) is none has pool e = subst (λ k. Hears h k head.Pool (Pool ns)) (same_Some _ _ e) (pool_heard h ns is none has pool)
hears h g head.Costs (Costs ns) is none has costs e = subst (λ k. Hears h k head.Costs (Costs ns)) (same_Some _ _ e) (costs_heard h ns is none has costs)
hears h g line i is none has item e = absurd cc

read_kept : (h g : Header) (line : HeaderLine) (from : ℕ) (read due : List HeaderLine) → ((l : HeaderLine) → place l < place line → line_items g l ≡ line_items h l) → StandFrom from (read ++ line ∷ due)
    → flat_map (line_items g) read ≡ flat_map (line_items h) read
read_kept h g line from [] due kept o = refl
read_kept h g line from (l ∷ read) due kept o =
    let less : place l < place line = omega (arith, o.0, stands_later (suc from) read line due o.1) in
    ap (λ js. js ++ flat_map (line_items g) read) (kept l less) ∙ ap (λ js. line_items h l ++ js) (read_kept h g line (suc from) read due kept o.1)

-- the lines of a header that were written are those that were read
before : (h : Header) (read due : List HeaderLine) → read ++ due ≡ heads → flat_map (line_items h) (take (length heads - length due) heads) ≡ flat_map (line_items h) read
before h read due e = subst (λ ls. flat_map (line_items h) (take (length ls - length due) ls) ≡ flat_map (line_items h) read) e
    (ap (flat_map (line_items h)) (ap (λ k. take k (read ++ due)) size ∙ take-append_seam read due))
  where
    size : length (read ++ due) - length due ≡ length read
    size = omega (arith, length-append read due)

-- a line that the version doesn't have is skipped
passed : (g : Header) (read : List HeaderLine) (line : HeaderLine) (due : List HeaderLine) → IsReadTo (length read) g → read ++ line ∷ due ≡ heads → has_line g.version line ≡ false
    → IsReadTo (length (read ++ line ∷ [])) g
passed g read line due none e hasnt = record {
  numbers = λ x far. none.numbers x (omega (arith, far, size));
  uncosted = λ far. none.uncosted (omega (arith, far, size));
  costed = λ less has. absurd (true≢false (sym has ∙ ap (has_line g.version) (sym (last_line line (omega (arith, less, size, at)))) ∙ hasnt));
}
  where
    size : length (read ++ line ∷ []) ≡ length read + 1
    size = length-append read (line ∷ [])

    at : place line ≡ length read
    at = omega (arith, stands_at 0 read line due (subst (StandFrom 0) (sym e) heads_stand))

goes_on : (g : Header) (read due : List HeaderLine) → IsBegun g → IsReadTo (length read) g → read ++ due ≡ heads → (written (later due g) ≡ flat_map (line_items g) read) × Fine (later due g)
unfolding written Fine
goes_on g read [] is none e = (
  append-nil (header_items g) ∙ ap (flat_map (line_items g)) (sym e ∙ append-nil read),
  (record { header = whole g is (none.costed (omega (arith, ap length e, length-append read []))); states = All-nil IsState; rules = All-nil IsRule; families = All-nil IsFamily; none_before = λ hasnt. refl }, refl, refl),
)
goes_on g read (line ∷ due) is none e = elim (cases_Bool (has_line g.version line)) [
  | inl has ↦ rw has (before g read (line ∷ due) e, (is, record { read = read; split = e; none = none; first = has }))
  | inr hasnt ↦ (let rest = goes_on g (read ++ line ∷ []) due is (passed g read line due none e hasnt) (append_assoc read (line ∷ []) due ∙ e) in
      let dropped : flat_map (line_items g) (read ++ line ∷ []) ≡ flat_map (line_items g) read =
      flat_map-append (line_items g) read (line ∷ []) ∙ rw hasnt (append-nil (flat_map (line_items g) read)) in
      rw hasnt (rest.0 ∙ dropped, rest.1))
]

heading_step : (h : Header) (line : HeaderLine) (due : List HeaderLine) (i : Item) (t : Stage) → IsBegun h → HasRead h (line ∷ due) → IsItem i → option_map (later due) (heard h line i) ≡ Some t
    → Steps (Heading h (line ∷ due)) t i
unfolding written
heading_step h line due i t is r item e =
    let found = map_some (heard h line i) (later due) t e in
    let stand : StandFrom 0 (r.read ++ line ∷ due) = subst (StandFrom 0) (sym r.split) heads_stand in
    let at : place line ≡ length r.read = omega (arith, stands_at 0 r.read line due stand) in
    let none : IsReadTo (place line) h = subst (λ n. IsReadTo n h) (sym at) r.none in
    let new = hears h found.0 line i is none r.first item found.1 in
    let all : (r.read ++ line ∷ []) ++ due ≡ heads = append_assoc r.read (line ∷ []) due ∙ r.split in
    let size : suc (place line) ≡ length (r.read ++ line ∷ []) = omega (arith, at, length-append r.read (line ∷ [])) in
    let next = goes_on found.0 (r.read ++ line ∷ []) due new.fine (subst (λ n. IsReadTo n found.0) size new.behind) all in
    let old : flat_map (line_items found.0) r.read ≡ flat_map (line_items h) r.read = read_kept h found.0 line 0 r.read due new.kept stand in
    let own : flat_map (line_items found.0) (line ∷ []) ≡ i ∷ [] = append-nil (line_items found.0 line) ∙ new.says in
    subst (λ u. Steps (Heading h (line ∷ due)) u i) found.2 (record {
      more = next.0 ∙ flat_map-append (line_items found.0) r.read (line ∷ []) ∙ ap (λ us. us ++ flat_map (line_items found.0) (line ∷ [])) (old ∙ sym (before h r.read (line ∷ due) r.split))
          ∙ ap (λ us. flat_map (line_items h) (take (length heads - length (line ∷ due)) heads) ++ us) own;
      fine = next.1;
    })

-- ---- one line

-- a family begins after a table's lines
family_step : (s : Stage) (b : Table) (entry number low high : ℕ) (t : Stage) → IsTable b → IsItem (Family entry number low high)
    → front_items b ++ Family entry number low high ∷ [] ≡ written s ++ Family entry number low high ∷ [] → raising b entry number low high ≡ Some t
    → Steps s t (Family entry number low high)
unfolding written Fine
family_step s b entry number low high t table is lines e =
    let f : Raised = record { entry = entry; number = number; low = low; high = high; proof = [] } in
    let parts = cond_some (has_families b.header.version) (Raising b f) t e in
    subst (λ u. Steps s u (Family entry number low high)) parts.1 (record { more = lines; fine = (table, family_of_numbers entry number low high is, refl, parts.0) })

step_written : (s : Stage) (i : Item) (t : Stage) → Fine s → IsItem i → step s i ≡ Some t → Steps s t i
unfolding step written Fine ascends_from
step_written (Heading h (line ∷ due)) i t f is e = heading_step h line due i t f.0 f.1 is e
step_written (Stated b) (State s) t f is e = rw (← same_Some _ _ e) (record { more = state_more b s f.1 f.2; fine = (table_state b s f.0 is, f.1, f.2) })
step_written (Stated b) Entry t f is e = rw (← same_Some _ _ e) (record { more = refl; fine = (f.0, no_sides, f.2) })
step_written (Stated b) (Family entry number low high) t f is e = family_step (Stated b) b entry number low high t f.0 is refl e
step_written (Stated b) End t f is e = rw (← same_Some _ _ e) (record { more = table_more b; fine = f.0 })
step_written (Sided b ls rs) (Left i) t f is e =
    let parts = cond_some (nat_lt (length ls) 5 && is_empty rs) (Sided b (ls ++ i ∷ []) rs) t e in
    let tests = and_parts (nat_lt (length ls) 5) (is_empty rs) parts.0 in
    let none : rs ≡ [] = empty rs tests.1 in
    let few : length ls < 5 = ltb-true (length ls) 5 tests.0 in
    rw (← parts.1, none) (record {
      more = behind b (Entry ∷ (map Left ls ++ map Right [])) _ (Left i) (left_more ls i);
      fine = (
        f.0,
        record {
          few_left = omega (arith, length-append ls (i ∷ []));
          few_right = omega arith;
          left = All-push IsInstr ls i f.1.left is;
          right = All-nil IsInstr;
          after_left = λ h. absurd cc;
        },
        f.2,
      );
    })
step_written (Sided b ls rs) (Right i) t f is e =
    let parts = cond_some (nat_lt 0 (length ls) && nat_lt (length rs) 5) (Sided b ls (rs ++ i ∷ [])) t e in
    let tests = and_parts (nat_lt 0 (length ls)) (nat_lt (length rs) 5) parts.0 in
    let some : 0 < length ls = ltb-true 0 (length ls) tests.0 in
    let few : length rs < 5 = ltb-true (length rs) 5 tests.1 in
    rw (← parts.1) (record {
      more = behind b (Entry ∷ (map Left ls ++ map Right rs)) _ (Right i) (right_more ls rs i);
      fine = (
        f.0,
        record {
          few_left = f.1.few_left;
          few_right = omega (arith, length-append rs (i ∷ []));
          left = f.1.left;
          right = All-push IsInstr rs i f.1.right is;
          after_left = λ h. some;
        },
        f.2,
      );
    })
step_written (Sided b ls rs) (Mask m) t f is e =
    let parts = cond_some (nat_lt 0 (length ls)) (Masked b ls rs m) t e in
    rw (← parts.1) (record { more = behind b (Entry ∷ (map Left ls ++ map Right rs)) _ (Mask m) (mask_more ls rs m); fine = (f.0, f.1, ltb-true 0 (length ls) parts.0, is, f.2) })
step_written (Masked b ls rs m) Proof t f is e =
    rw (← same_Some _ _ e) (record {
      more = behind b (Entry ∷ (map Left ls ++ (map Right rs ++ Mask m ∷ []))) _ Proof (proof_more ls rs m);
      fine = (f.0, rule_of_sides ls rs m f.1 f.2 f.3, refl, f.4);
    })
step_written (Proved b r) (Logged c) t f is e =
    rw (← same_Some _ _ e) (record { more = behind b (rule_items r) _ (Logged c) (line_more r c f.2); fine = (f.0, rule_line r c f.1 is, f.2, f.3) })
step_written (Proved b r) (Open n) t f is e =
    rw (← same_Some _ _ e) (record {
      more = behind b (rule_items r) _ (Open n) (open_more r n);
      fine = (f.0, rule_opens r (r.opens ++ record { number = n; log = [] } ∷ []) f.1 (All-push IsOpened r.opens _ f.1.opens (opened n is)) (rw (f.2, le-leb 0 n (omega arith)) refl), f.3);
    })
step_written (Proved b r) Entry t f is e =
    rw (← same_Some _ _ e) (record { more = rule_more b r (Entry ∷ []) f.3; fine = (table_rule b r f.0 f.1, no_sides, f.3) })
step_written (Proved b r) (Family entry number low high) t f is e =
    family_step (Proved b r) (with_rule b r) entry number low high t (table_rule b r f.0 f.1) is (rule_more b r (Family entry number low high ∷ []) f.3) e
step_written (Proved b r) End t f is e =
    rw (← same_Some _ _ e) (record { more = table_more (with_rule b r) ∙ rule_more b r (End ∷ []) f.3; fine = table_rule b r f.0 f.1 })
step_written (Opening b r o) (Logged c) t f is e =
    let opens = All-front r.opens o f.1.opens in
    let next : Opened = record { number = o.number; log = o.log ++ c ∷ [] } in
    rw (← same_Some _ _ e) (record {
      more = behind b (rule_items (with_opened r o)) _ (Logged c) (log_more r o c);
      fine = (f.0, rule_opens (with_opened r o) (r.opens ++ next ∷ []) f.1 (All-push IsOpened r.opens next opens.0 (opened_line o c opens.1 is)) (rises_same 0 r.opens o next refl f.1.ascending), f.2);
    })
step_written (Opening b r o) (Open n) t f is e =
    let next : Opened = record { number = n; log = [] } in
    let parts = cond_some (nat_lt o.number n) (Opening b (with_opened r o) next) t e in
    rw (← parts.1) (record {
      more = behind b (rule_items (with_opened r o)) _ (Open n) (open_more (with_opened r o) n);
      fine = (
        f.0,
        rule_opens (with_opened r o) ((r.opens ++ o ∷ []) ++ next ∷ []) f.1 (All-push IsOpened (r.opens ++ o ∷ []) next f.1.opens (opened n is))
            (rises_more 0 r.opens o next f.1.ascending (ltb-true o.number n parts.0)),
        f.2,
      );
    })
step_written (Opening b r o) Entry t f is e =
    rw (← same_Some _ _ e) (record { more = rule_more b (with_opened r o) (Entry ∷ []) f.2; fine = (table_rule b (with_opened r o) f.0 f.1, no_sides, f.2) })
step_written (Opening b r o) (Family entry number low high) t f is e =
    family_step (Opening b r o) (with_rule b (with_opened r o)) entry number low high t (table_rule b (with_opened r o) f.0 f.1) is
    (rule_more b (with_opened r o) (Family entry number low high ∷ []) f.2) e
step_written (Opening b r o) End t f is e =
    rw (← same_Some _ _ e) (record { more = table_more (with_rule b (with_opened r o)) ∙ rule_more b (with_opened r o) (End ∷ []) f.2; fine = table_rule b (with_opened r o) f.0 f.1 })
step_written (Raising b r) Proof t f is e =
    rw (← same_Some _ _ e) (record { more = behind b (Family r.entry r.number r.low r.high ∷ []) _ Proof (shown_more r f.2); fine = (f.0, f.1, f.3) })
step_written (Shown b r) (Logged c) t f is e =
    rw (← same_Some _ _ e) (record { more = behind b (family_items r) _ (Logged c) (family_more r c); fine = (f.0, family_line r c f.1 is, f.2) })
step_written (Shown b r) (Family entry number low high) t f is e =
    family_step (Shown b r) (with_family b r) entry number low high t (table_family b r f.0 f.1 f.2) is (families_more b r (Family entry number low high ∷ [])) e
step_written (Shown b r) End t f is e =
    rw (← same_Some _ _ e) (record { more = table_more (with_family b r) ∙ families_more b r (End ∷ []); fine = table_family b r f.0 f.1 f.2 })
step_written s i t f is e = absurd cc

pub run_written : (p : List Item) (s t : Stage) → Fine s → All IsItem p → run s p ≡ Some t → (written t ≡ written s ++ p) × Fine t
unfolding run
run_written [] s t f all e = rw (← same_Some _ _ e) (sym (append-nil (written s)), f)
run_written (i ∷ p) s t f all e =
    option_and_then_some (λ u. run u p) (step s i) t e (λ u at rest.
    let first = step_written s i u f (All-head IsItem i p all) at in
    let later = run_written p u t first.fine (All-tail IsItem i p all) rest in
    (later.0 ∙ ap (λ us. us ++ p) first.more ∙ append_assoc (written s) (i ∷ []) p, later.1))

-- ---- what was read goes on to a table

-- some instruction, to complete a left side that has none
r0 : Within 0 8
r0 = record { number = 0; least = omega arith; below = omega arith }

some_instr : Instr
some_instr = instr.Movs r0 r0

some_is : IsInstr some_instr
unfolding some_instr r0
some_is = record { window = refl; low = (omega arith, (omega arith, tt)) }

-- these lines are the first lines of some table
pub record Opens (is : List Item) : Type 0 where
  pub table : Table
  pub valid : IsTable table
  pub rest : List Item
  pub whole : items_of table ≡ is ++ rest

-- if the lines with one more are the first lines of some table, so are these
back : (s t : Stage) (i : Item) → Steps s t i → Opens (written t) → Opens (written s)
back s t i more o = record {
  table = o.table;
  valid = o.valid;
  rest = i ∷ o.rest;
  whole = o.whole ∙ ap (λ us. us ++ o.rest) more.more ∙ append_assoc (written s) (i ∷ []) o.rest;
}

by_step : (s : Stage) (i : Item) (t : Stage) → Fine s → IsItem i → step s i ≡ Some t → (Fine t → Opens (written t)) → Opens (written s)
by_step s i t f is e next = let more = step_written s i t f is e in back s t i more (next more.fine)

done : (t : Table) → Fine (Done t) → Opens (written (Done t))
unfolding Fine written
done t f = record { table = t; valid = f; rest = []; whole = sym (append-nil (items_of t)) }

-- The stages from the last to the first: from each, the shortest continuation to a whole table.
from_proved : (t : Table) (r : Rule) → Fine (Proved t r) → Opens (written (Proved t r))
unfolding step
from_proved t r f = by_step (Proved t r) End (Done (with_rule t r)) f tt refl (done (with_rule t r))

from_opening : (t : Table) (r : Rule) (o : Opened) → Fine (Opening t r o) → Opens (written (Opening t r o))
unfolding step
from_opening t r o f = by_step (Opening t r o) End (Done (with_rule t (with_opened r o))) f tt refl (done (with_rule t (with_opened r o)))

from_shown : (t : Table) (f : Raised) → Fine (Shown t f) → Opens (written (Shown t f))
unfolding step
from_shown t f fine = by_step (Shown t f) End (Done (with_family t f)) fine tt refl (done (with_family t f))

from_raising : (t : Table) (f : Raised) → Fine (Raising t f) → Opens (written (Raising t f))
unfolding step
from_raising t f fine = by_step (Raising t f) Proof (Shown t f) fine tt refl (from_shown t f)

from_masked : (t : Table) (ls rs : List Instr) (m : ℕ) → Fine (Masked t ls rs m) → Opens (written (Masked t ls rs m))
unfolding step
from_masked t ls rs m f =
    let r : Rule = record { left = ls; right = rs; mask = m; proof = []; opens = [] } in
    by_step (Masked t ls rs m) Proof (Proved t r) f tt refl (from_proved t r)

-- the empty mask, to complete a rule
no_mask : IsMask 0
no_mask x h = absurd (let k = bit_at-zero x in let bad : (0 == 1) ≡ true = rw k at h in cc)

from_some : (t : Table) (ls rs : List Instr) → Fine (Sided t ls rs) → 0 < length ls → Opens (written (Sided t ls rs))
unfolding step
from_some t ls rs f some = by_step (Sided t ls rs) (Mask 0) (Masked t ls rs 0) f no_mask (rw (lt-ltb 0 (length ls) some) refl) (from_masked t ls rs 0)

from_sided : (t : Table) (ls rs : List Instr) → Fine (Sided t ls rs) → Opens (written (Sided t ls rs))
unfolding step Fine
from_sided t [] rs f =
    let none : is_empty rs ≡ true = unopened (is_empty rs) (λ h. omega (arith, f.1.after_left h)) in
    by_step (Sided t [] rs) (Left some_instr) (Sided t (some_instr ∷ []) rs) f some_is (rw none refl) (λ g. from_some t (some_instr ∷ []) rs g (omega arith))
from_sided t (i ∷ ls) rs f = from_some t (i ∷ ls) rs f (omega arith)

from_stated : (t : Table) → Fine (Stated t) → Opens (written (Stated t))
unfolding step
from_stated t f = by_step (Stated t) End (Done t) f tt refl (done t)

-- the remaining lines of a valid header
from_lines : (g : Header) (due : List HeaderLine) → IsHeader g → Opens (written (Heading g due))
unfolding written
from_lines g due is = record {
  table = record { header = g; states = []; rules = []; families = [] };
  valid = record { header = is; states = All-nil IsState; rules = All-nil IsRule; families = All-nil IsFamily; none_before = λ hasnt. refl };
  rest = flat_map (line_items g) (drop read heads) ++ End ∷ [];
  whole = ap (λ ls. flat_map (line_items g) ls ++ End ∷ []) (sym (take-append-drop read heads))
      ∙ ap (λ us. us ++ End ∷ []) (flat_map-append (line_items g) (take read heads) (drop read heads))
      ∙ append_assoc (flat_map (line_items g) (take read heads)) (flat_map (line_items g) (drop read heads)) (End ∷ []);
}
  where
    read : ℕ
    read = length heads - length due

-- some costs, to complete a header
ones : List ℕ
ones = replicate 28 1

are_costs : AreCosts ones
unfolding ones
are_costs = record { as_many = refl; each = All-replicate (λ n. (1 ≤ n) × (n ≤ 64)) 28 1 (omega arith, omega arith) }

-- a header whose costs are still to come, completed with some costs
some_costs : (h : Header) (ns : List ℕ) (due : List HeaderLine) → h.costs ≡ None → has_line h.version head.Costs ≡ true → HasRead h due
    → written (Heading (record h { costs = Some ns }) due) ≡ written (Heading h due)
unfolding written
some_costs h ns [] none has r = absurd (let some = r.none.costed (omega (arith, ap length r.split, length-append r.read [])) has in cc)
some_costs h ns (line ∷ due) none has r =
    let g : Header = record h { costs = Some ns } in
    let stand : StandFrom 0 (r.read ++ line ∷ due) = subst (StandFrom 0) (sym r.split) heads_stand in
    before g r.read (line ∷ due) r.split
    ∙ read_kept h g line 0 r.read due (λ l less. costs_kept h (Some ns) l (omega (arith, less, no_line_behind line))) stand
    ∙ sym (before h r.read (line ∷ due) r.split)

from_heading : (h : Header) (due : List HeaderLine) → Fine (Heading h due) → Opens (written (Heading h due))
unfolding Fine
from_heading h due f = by h.costs refl (cases_Bool (has_line h.version head.Costs))
  where
    by : (costs : Option (List ℕ)) → h.costs ≡ costs → (has_line h.version head.Costs ≡ true) ⊎ (has_line h.version head.Costs ≡ false) → Opens (written (Heading h due))
    by (Some ns) e either = from_lines h due (whole h f.0 (λ has. ap is_some e))
    by None e (inr hasnt) = from_lines h due (whole h f.0 (λ has. absurd (true≢false (sym has ∙ hasnt))))
    by None e (inl has) =
        let g : Header = record h { costs = Some ones } in
        subst Opens (some_costs h ones due e has f.1) (from_lines g due (whole g (with_costs h ones f.0 has are_costs) (λ has'. refl)))

pub completes : (s : Stage) → Fine s → Opens (written s)
completes (Heading h due) f = from_heading h due f
completes (Stated t) f = from_stated t f
completes (Sided t ls rs) f = from_sided t ls rs f
completes (Masked t ls rs m) f = from_masked t ls rs m f
completes (Proved t r) f = from_proved t r f
completes (Opening t r o) f = from_opening t r o f
completes (Raising t r) f = from_raising t r f
completes (Shown t r) f = from_shown t r f
completes (Done t) f = done t f

blank_fine : IsBegun blank
unfolding is_pool ascends_from
blank_fine = record { numbers = least; pool = refl; costs = tt; uncosted = λ hasnt. refl; unsaid = λ x unsaid. refl }
  where
    least : (x : Field) → IsWithin x (number_in blank x)
    least field.Version = (omega arith, omega arith)
    least field.Regs = (omega arith, omega arith)
    least field.Left = (omega arith, omega arith)
    least field.Seed = (omega arith, omega arith)
    least field.Budget = (omega arith, omega arith)
    least field.Scratch = (omega arith, omega arith)

-- ---- headers that are learnt, and those of later versions ----

-- version 2 and later ones have a line for each number
since_two : (f : Field) → since (head.Number f) ≤ 2
since_two field.Version = omega arith
since_two field.Regs = omega arith
since_two field.Left = omega arith
since_two field.Seed = omega arith
since_two field.Budget = omega arith
since_two field.Scratch = omega arith

all_said : (h : Header) (f : Field) → 2 ≤ h.version → has_line h.version (head.Number f) ≡ false → number_in h f ≡ number_in blank f
all_said h f two none = let first = since_two f in let late = leb-false (since (head.Number f)) h.version none in absurd (omega (arith, first, late, two))

pub is_learnt_header : (regs left budget seed scratch : ℕ) (pool : List ℕ) (costs : Option (List ℕ))
    → IsWithin field.Regs regs → IsWithin field.Left left → IsWithin field.Budget budget → IsWithin field.Seed seed → IsWithin field.Scratch scratch
    → is_pool pool ≡ true → IfSome costs AreCosts → IsHeader (learnt_header regs left budget seed scratch pool costs)
is_learnt_header regs left budget seed scratch pool costs r l b s c is_one are =
    record { numbers = each; pool = is_one; costs = are; costed = costed costs; uncosted = uncosted costs; unsaid = λ f. all_said (learnt_header regs left budget seed scratch pool costs) f (version costs).0 }
  where
    version : (o : Option (List ℕ)) → (2 ≤ version_with o) × (version_with o ≤ 4)
    version None = (omega arith, omega arith)
    version (Some ns) = (omega arith, omega arith)

    costed : (o : Option (List ℕ)) → has_line (version_with o) head.Costs ≡ true → IsSome o
    costed None has = absurd cc
    costed (Some ns) has = refl

    uncosted : (o : Option (List ℕ)) → has_line (version_with o) head.Costs ≡ false → o ≡ None
    uncosted None none = refl
    uncosted (Some ns) none = absurd cc

    each : (f : Field) → IsWithin f (number_in (learnt_header regs left budget seed scratch pool costs) f)
    each field.Version = (let v = (version costs).0 in omega (arith, v), (version costs).1)
    each field.Regs = r
    each field.Left = l
    each field.Seed = s
    each field.Budget = b
    each field.Scratch = c

-- a header stays valid if its version is raised to at least 2 or 3: version 4 has its costs, and no other version has any
pub header_raised : (least : ℕ) (h : Header) → 2 ≤ least → least ≤ 3 → IsHeader h → IsHeader (record h { version = max least h.version })
header_raised least h two three is =
    record { numbers = each; pool = is.pool; costs = is.costs; costed = costed; uncosted = uncosted; unsaid = λ f. all_said (record h { version = v }) f (omega (arith, two)) }
  where
    v : ℕ
    v = max least h.version

    each : (f : Field) → IsWithin f (number_in (record h { version = v }) f)
    each field.Version = let b = is.numbers field.Version in (omega (arith, two), omega (arith, three, b.1))
    each field.Regs = is.numbers field.Regs
    each field.Left = is.numbers field.Left
    each field.Seed = is.numbers field.Seed
    each field.Budget = is.numbers field.Budget
    each field.Scratch = is.numbers field.Scratch

    costed : has_line v head.Costs ≡ true → IsSome h.costs
    costed has = let four = leb-true 4 v has in is.costed (le-leb 4 h.version (omega (arith, four, three)))

    uncosted : has_line v head.Costs ≡ false → h.costs ≡ None
    uncosted none = let few = leb-false 4 v none in is.uncosted (lt-leb 4 h.version (omega (arith, few)))

-- nothing is read
nothing_read : HasRead blank heads
nothing_read = record {
  read = [];
  split = refl;
  none = record { numbers = λ x far. refl; uncosted = λ far. refl; costed = λ less has. absurd (omega (arith, less)) };
  first = refl;
}

-- lines that can be read from the start are the first lines of some table; if a whole table is read from them, they are its lines
pub read_opens : (p : List Item) (s : Stage) → All IsItem p → run Start p ≡ Some s → Opens p
unfolding written Fine
read_opens p s all e =
    let reached = run_written p Start s (blank_fine, nothing_read) all e in
    subst Opens reached.0 (completes s reached.1)

pub read_whole : (p : List Item) (t : Table) → All IsItem p → run Start p ≡ Some (Done t) → IsTable t × (items_of t ≡ p)
unfolding written Fine
read_whole p t all e = let reached = run_written p Start (Done t) (blank_fine, nothing_read) all e in (reached.1, reached.0)
