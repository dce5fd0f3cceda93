-- The text of a table bounds its numbers of open sequences and of proof lines, since each has a line of at least one byte: so counts don't overflow.
use Rattle.std.proofs.Common.{◌≡◌, ◌∙◌, ℕ, ◌+◌, ◌≤◌, List, [], ◌∷◌, ◌++◌, length, map, subst, arith, length-append}
use Rattle.std.specs.List.{flat_map}
use Rattle.std.specs.Prelude.{sum_by}
use Rattle.std.proofs.lemmas.List.{length-map}
use Rattle.std.proofs.lemmas.List.Sums.{sum_by-cons}
use Rattle.rule_table.specs.Table.{Opened, Rule, Family, Table}
use Rattle.rule_table.specs.Text.{Item, State, Left, Right, Mask, Proof, Logged, End, header_items, items_of, line_of, open_items, rule_items, family_items, text_of, text_of_items}
use Rattle.rule_table.specs.Refused.{IsText}
use Rattle.audit_cli.specs.Tables.{open_count, opens_of}
use Rattle.audit_cli.specs.Trim.{lines_in}

items_short : (items : List Item) → length items ≤ length (text_of_items items)
items_short [] = omega arith
items_short (i ∷ is) =
    let line : List ℕ = line_of i ++ 10 ∷ [] in
    let here : length line ≡ length (line_of i) + 1 = length-append (line_of i) (10 ∷ []) in
    let both : length (text_of_items (i ∷ is)) ≡ length line + length (text_of_items is) = length-append line (text_of_items is) in
    let rest = items_short is in
    omega arith

-- a table has no more lines than its text has bytes
pub items_within : (text : List ℕ) (t : Table) → IsText text t → length (items_of t) ≤ length text
items_within text t is = subst (λ (bytes : List ℕ). length (items_of t) ≤ length bytes) is.whole (items_short (items_of t))

opens_short : (os : List Opened) → length os ≤ length (flat_map open_items os)
opens_short [] = omega arith
opens_short (o ∷ os) =
    let both : length (flat_map open_items (o ∷ os)) ≡ length (open_items o) + length (flat_map open_items os) = length-append (open_items o) (flat_map open_items os) in
    let rest = opens_short os in
    omega arith

rule_short : (e : Rule) → open_count e ≤ length (rule_items e)
rule_short e =
    let numbers : List Item = flat_map open_items e.opens in
    let logs : List Item = map Logged e.proof in
    let rights : List Item = map Right e.right in
    let a = opens_short e.opens in
    let b : length (logs ++ numbers) ≡ length logs + length numbers = length-append logs numbers in
    let c : length (rights ++ Mask e.mask ∷ Proof ∷ (logs ++ numbers)) ≡ length rights + (length (logs ++ numbers) + 2) = length-append rights (Mask e.mask ∷ Proof ∷ (logs ++ numbers)) ∙ omega arith in
    let d : length (map Left e.left ++ (rights ++ Mask e.mask ∷ Proof ∷ (logs ++ numbers))) ≡ length (map Left e.left) + length (rights ++ Mask e.mask ∷ Proof ∷ (logs ++ numbers)) =
    length-append (map Left e.left) (rights ++ Mask e.mask ∷ Proof ∷ (logs ++ numbers)) in
    omega arith

rules_short : (rules : List Rule) → sum_by open_count rules ≤ length (flat_map rule_items rules)
rules_short [] = omega arith
rules_short (e ∷ es) =
    let both : length (flat_map rule_items (e ∷ es)) ≡ length (rule_items e) + length (flat_map rule_items es) = length-append (rule_items e) (flat_map rule_items es) in
    let sum : sum_by open_count (e ∷ es) ≡ open_count e + sum_by open_count es = sum_by-cons open_count e es in
    let here = rule_short e in
    let rest = rules_short es in
    omega arith

-- how many lines a table has, part by part
items_count : (t : Table) → length (items_of t) ≡ length (header_items t.header) + (length (map State t.states) + (length (flat_map rule_items t.rules) + (length (flat_map family_items t.families) + 1)))
items_count t =
    let last : List Item = flat_map family_items t.families ++ End ∷ [] in
    let a = length-append (header_items t.header) (map State t.states ++ (flat_map rule_items t.rules ++ last)) in
    let b = length-append (map State t.states) (flat_map rule_items t.rules ++ last) in
    let c = length-append (flat_map rule_items t.rules) last in
    let d = length-append (flat_map family_items t.families) (End ∷ []) in
    omega (arith, a, b, c, d)

-- a table has no more open numbers than its text has bytes
pub opens_within : (text : List ℕ) (t : Table) → IsText text t → opens_of t ≤ length text
opens_within text t is =
    let all = items_within text t is in
    let some = rules_short t.rules in
    let parts = items_count t in
    omega (arith, all, some, parts)

-- ---- lines of proofs ----

proof_short : (e : Rule) → length e.proof ≤ length (rule_items e)
proof_short e =
    let numbers : List Item = flat_map open_items e.opens in
    let logs : List Item = map Logged e.proof in
    let rights : List Item = map Right e.right in
    let a : length logs ≡ length e.proof = length-map e.proof Logged in
    let b : length (logs ++ numbers) ≡ length logs + length numbers = length-append logs numbers in
    let c : length (rights ++ Mask e.mask ∷ Proof ∷ (logs ++ numbers)) ≡ length rights + (length (logs ++ numbers) + 2) = length-append rights (Mask e.mask ∷ Proof ∷ (logs ++ numbers)) ∙ omega arith in
    let d : length (map Left e.left ++ (rights ++ Mask e.mask ∷ Proof ∷ (logs ++ numbers))) ≡ length (map Left e.left) + length (rights ++ Mask e.mask ∷ Proof ∷ (logs ++ numbers)) =
    length-append (map Left e.left) (rights ++ Mask e.mask ∷ Proof ∷ (logs ++ numbers)) in
    omega arith

proofs_short : (rules : List Rule) → sum_by (λ (e : Rule). length e.proof) rules ≤ length (flat_map rule_items rules)
proofs_short [] = omega arith
proofs_short (e ∷ es) =
    let both : length (flat_map rule_items (e ∷ es)) ≡ length (rule_items e) + length (flat_map rule_items es) = length-append (rule_items e) (flat_map rule_items es) in
    let sum = sum_by-cons (λ (e : Rule). length e.proof) e es in
    let here = proof_short e in
    let rest = proofs_short es in
    omega (arith, both, sum, here, rest)

raised_short : (families : List Family) → sum_by (λ (f : Family). length f.proof) families ≤ length (flat_map family_items families)
raised_short [] = omega arith
raised_short (f ∷ fs) =
    let both = length-append (family_items f) (flat_map family_items fs) in
    let sum = sum_by-cons (λ (g : Family). length g.proof) f fs in
    let here : length (map Logged f.proof) ≡ length f.proof = length-map f.proof Logged in
    let rest = raised_short fs in
    omega (arith, both, sum, here, rest)

-- the proofs of a table have no more lines than its text has bytes
pub proofs_within : (t : Table) → lines_in t ≤ length (text_of t)
proofs_within t =
    let all = items_short (items_of t) in
    let some = proofs_short t.rules in
    let more = raised_short t.families in
    let parts = items_count t in
    omega (arith, all, some, more, parts)
