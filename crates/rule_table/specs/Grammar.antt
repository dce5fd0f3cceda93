-- The grammar of tables as an automaton over lines: what has been read so far, and which line may follow.
use Rattle.std.specs.Prelude.{ℕ, ◌&&◌, Bool, true, false, List, [], ◌∷◌, ◌++◌, length, nat_lt, Option, Some, None, if◌then◌else◌}
use Rattle.std.specs.Option.{option_and_then, option_map}
use Rattle.thumb_instr.specs.declared.instr.Instr.{Instr}
use Rattle.window_exec.specs.State.{Seen}
use Rattle.rule_table.specs.declared.header.HeaderLine.{HeaderLine}
use Rattle.rule_table.specs.declared.header.HeaderLine.TheVariants as head
use Rattle.rule_table.specs.Header.{Header, heads, due_in, with_number, is_same, blank, has_families}
use Rattle.rule_table.specs.Table.{Opened, Rule, Family as Raised, Table}
use Rattle.rule_table.specs.Text.{Item, Number, Pool, Costs, State, Entry, Left, Right, Mask, Proof, Logged, Open, Family, End}

-- what has been read: some lines of the header, with those that are due; the header and some states; after the earlier rules, some sides of a rule, or also its
-- mask, or its proof, or open numbers, with the last one apart; after the earlier families, a family whose proof is due, or one with its proof; or all
pub data Stage : Type 0 where
  Heading : Header → (due : List HeaderLine) → Stage
  Stated : Table → Stage
  Sided : Table → (left right : List Instr) → Stage
  Masked : Table → (left right : List Instr) → (mask : ℕ) → Stage
  Proved : Table → Rule → Stage
  Opening : Table → Rule → Opened → Stage
  Raising : Table → Raised → Stage
  Shown : Table → Raised → Stage
  Done : Table → Stage

abbrev pub with_state : Table → Seen → Table
with_state t s = record t { states = t.states ++ s ∷ [] }

abbrev pub with_rule : Table → Rule → Table
with_rule t r = record t { rules = t.rules ++ r ∷ [] }

abbrev pub with_opened : Rule → Opened → Rule
with_opened r o = record { left = r.left; right = r.right; mask = r.mask; proof = r.proof; opens = r.opens ++ o ∷ [] }

abbrev pub with_family : Table → Raised → Table
with_family t f = record t { families = t.families ++ f ∷ [] }

abbrev pub is_empty : List Instr → Bool
is_empty [] = true
is_empty (i ∷ is) = false

-- before the first line all lines of the header are due
abbrev pub Start : Stage
Start = Heading blank heads

-- the header with what a line says, if it is the line that is due
abbrev pub heard : Header → HeaderLine → Item → Option Header
heard h (head.Number due) (Number field n) = if is_same due field then Some (with_number h field n) else None
heard h head.Pool (Pool ns) = Some (record h { pool = ns })
heard h head.Costs (Costs ns) = Some (record h { costs = Some ns })
heard h due i = None

-- after the last line of the header come the states
abbrev pub go_on : List HeaderLine → Header → Stage
go_on [] h = Stated (record { header = h; states = []; rules = []; families = [] })
go_on (line ∷ due) h = Heading h (line ∷ due)

-- of the remaining lines, those that the header's version has are due
abbrev pub later : List HeaderLine → Header → Stage
later lines h = go_on (due_in h.version lines) h

-- a family begins, where the table's version has families
abbrev pub raising : Table → (entry number low high : ℕ) → Option Stage
raising t entry number low high = if has_families t.header.version then Some (Raising t (record { entry = entry; number = number; low = low; high = high; proof = [] })) else None

unfoldable pub step : Stage → Item → Option Stage
step (Heading h (line ∷ due)) i = option_map (later due) (heard h line i)
step (Stated t) (State s) = Some (Stated (with_state t s))
step (Stated t) Entry = Some (Sided t [] [])
step (Stated t) (Family entry number low high) = raising t entry number low high
step (Stated t) End = Some (Done t)
step (Sided t ls rs) (Left i) = if nat_lt (length ls) 5 && is_empty rs then Some (Sided t (ls ++ i ∷ []) rs) else None
step (Sided t ls rs) (Right i) = if nat_lt 0 (length ls) && nat_lt (length rs) 5 then Some (Sided t ls (rs ++ i ∷ [])) else None
step (Sided t ls rs) (Mask m) = if nat_lt 0 (length ls) then Some (Masked t ls rs m) else None
step (Masked t ls rs m) Proof = Some (Proved t (record { left = ls; right = rs; mask = m; proof = []; opens = [] }))
step (Proved t r) (Logged c) = Some (Proved t (record { left = r.left; right = r.right; mask = r.mask; proof = r.proof ++ c ∷ []; opens = r.opens }))
step (Proved t r) (Open n) = Some (Opening t r (record { number = n; log = [] }))
step (Proved t r) Entry = Some (Sided (with_rule t r) [] [])
step (Proved t r) (Family entry number low high) = raising (with_rule t r) entry number low high
step (Proved t r) End = Some (Done (with_rule t r))
step (Opening t r o) (Logged c) = Some (Opening t r (record { number = o.number; log = o.log ++ c ∷ [] }))
step (Opening t r o) (Open n) = if nat_lt o.number n then Some (Opening t (with_opened r o) (record { number = n; log = [] })) else None
step (Opening t r o) Entry = Some (Sided (with_rule t (with_opened r o)) [] [])
step (Opening t r o) (Family entry number low high) = raising (with_rule t (with_opened r o)) entry number low high
step (Opening t r o) End = Some (Done (with_rule t (with_opened r o)))
step (Raising t f) Proof = Some (Shown t f)
step (Shown t f) (Logged c) = Some (Shown t (record f { proof = f.proof ++ c ∷ [] }))
step (Shown t f) (Family entry number low high) = raising (with_family t f) entry number low high
step (Shown t f) End = Some (Done (with_family t f))
step s i = None

unfoldable pub run : Stage → List Item → Option Stage
run s [] = Some s
run s (i ∷ is) = option_and_then (λ t. run t is) (step s i)
