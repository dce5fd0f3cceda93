-- Reading the lines of a table by the grammar gives the table.
use Rattle.std.proofs.Common.{◌≡◌, ℕ, ◌⊎◌, inl, inr, zero, suc, subst, ◌+◌, ◌<◌, ◌≤◌, true, false, List, [], ◌∷◌, ◌++◌, length, map, nat_le, nat_lt, refl, sym, ◌∙◌, ap, arith, Option, Some, None, append_assoc, append-nil, length-append, lt-ltb, leb-true}
use Rattle.std.specs.Prelude.{IsSome}
use Rattle.std.specs.Option.{option_and_then}
use Rattle.std.specs.List.{flat_map, All}
use Rattle.std.proofs.lemmas.Bool.{and_parts, cases_Bool}
use Rattle.std.proofs.lemmas.List.Elements.{All-head, All-tail}
use Rattle.seq_enum.specs.Alphabet.{ascends_from}
use Rattle.lrat_check.specs.Text.{Content}
use Rattle.window_exec.specs.State.{Seen}
use Rattle.thumb_instr.specs.declared.instr.Instr.{Instr}
use Rattle.rule_table.specs.declared.header.Field.TheVariants as field
use Rattle.rule_table.specs.declared.header.HeaderLine.TheVariants as head
use Rattle.rule_table.specs.Header.{Header, has_line, has_families, IsWithin, IsHeader}
use Rattle.rule_table.specs.Table.{Opened, Rule, Family as Raised, Table, IsRule, IsTable, numbers_of}
use Rattle.rule_table.specs.Text.{Item, State, Entry, Left, Right, Mask, Proof, Logged, End, open_items, rule_items, family_items, header_items, items_of}
use Rattle.rule_table.specs.Grammar.{Stage, Start, Stated, Sided, Proved, Opening, Shown, Done, with_state, with_rule, with_opened, with_family, step, run}

pub run-append : (s : Stage) (p q : List Item) → run s (p ++ q) ≡ option_and_then (λ t. run t q) (run s p)
unfolding run
run-append s [] q = refl
run-append s (i ∷ p) q = from (step s i) (λ t. run-append t p q)
  where
    from : (o : Option Stage) → ((t : Stage) → run t (p ++ q) ≡ option_and_then (λ u. run u q) (run t p))
        → option_and_then (λ t. run t (p ++ q)) o ≡ option_and_then (λ t. run t q) (option_and_then (λ t. run t p) o)
    from None h = refl
    from (Some t) h = h t

-- a table with more states, more rules, more families
more_states : Table → List Seen → Table
more_states t ss = record t { states = t.states ++ ss }

more_rules : Table → List Rule → Table
more_rules t rs = record t { rules = t.rules ++ rs }

more_families : Table → List Raised → Table
more_families t fs = record t { families = t.families ++ fs }

reads_states : (t : Table) (ss : List Seen) (rest : List Item) → run (Stated t) (map State ss ++ rest) ≡ run (Stated (more_states t ss)) rest
unfolding run step more_states
reads_states t [] rest = ap (λ us. run (Stated (record t { states = us })) rest) (sym (append-nil t.states))
reads_states t (s ∷ ss) rest =
    reads_states (with_state t s) ss rest ∙ ap (λ us. run (Stated (record t { states = us })) rest) (append_assoc t.states (s ∷ []) ss)

reads_left : (t : Table) (ls is : List Instr) (rest : List Item) → length ls + length is ≤ 5 → run (Sided t ls []) (map Left is ++ rest) ≡ run (Sided t (ls ++ is) []) rest
unfolding run step
reads_left t ls [] rest h = ap (λ us. run (Sided t us []) rest) (sym (append-nil ls))
reads_left t ls (i ∷ is) rest h =
    let room : nat_lt (length ls) 5 ≡ true = lt-ltb (length ls) 5 (omega arith) in
    rw room (reads_left t (ls ++ i ∷ []) is rest (omega (arith, length-append ls (i ∷ []))) ∙ ap (λ us. run (Sided t us []) rest) (append_assoc ls (i ∷ []) is))

reads_right : (t : Table) (ls rs is : List Instr) (rest : List Item) → 0 < length ls → length rs + length is ≤ 5 → run (Sided t ls rs) (map Right is ++ rest) ≡ run (Sided t ls (rs ++ is)) rest
unfolding run step
reads_right t ls rs [] rest some h = ap (λ us. run (Sided t ls us) rest) (sym (append-nil rs))
reads_right t ls rs (i ∷ is) rest some h =
    let left : nat_lt 0 (length ls) ≡ true = lt-ltb 0 (length ls) some in
    let room : nat_lt (length rs) 5 ≡ true = lt-ltb (length rs) 5 (omega arith) in
    rw (left, room) (reads_right t ls (rs ++ i ∷ []) is rest some (omega (arith, length-append rs (i ∷ []))) ∙ ap (λ us. run (Sided t ls us) rest) (append_assoc rs (i ∷ []) is))

reads_proof : (t : Table) (r : Rule) (cs : List Content) (rest : List Item)
    → run (Proved t r) (map Logged cs ++ rest) ≡ run (Proved t (record { left = r.left; right = r.right; mask = r.mask; proof = r.proof ++ cs; opens = r.opens })) rest
unfolding run step
reads_proof t r [] rest = ap (λ us. run (Proved t (record { left = r.left; right = r.right; mask = r.mask; proof = us; opens = r.opens })) rest) (sym (append-nil r.proof))
reads_proof t r (c ∷ cs) rest =
    reads_proof t (record { left = r.left; right = r.right; mask = r.mask; proof = r.proof ++ c ∷ []; opens = r.opens }) cs rest
    ∙ ap (λ us. run (Proved t (record { left = r.left; right = r.right; mask = r.mask; proof = us; opens = r.opens })) rest) (append_assoc r.proof (c ∷ []) cs)

reads_log : (t : Table) (r : Rule) (o : Opened) (cs : List Content) (rest : List Item)
    → run (Opening t r o) (map Logged cs ++ rest) ≡ run (Opening t r (record { number = o.number; log = o.log ++ cs })) rest
unfolding run step
reads_log t r o [] rest = ap (λ us. run (Opening t r (record { number = o.number; log = us })) rest) (sym (append-nil o.log))
reads_log t r o (c ∷ cs) rest =
    reads_log t r (record { number = o.number; log = o.log ++ c ∷ [] }) cs rest
    ∙ ap (λ us. run (Opening t r (record { number = o.number; log = us })) rest) (append_assoc o.log (c ∷ []) cs)

-- what may follow a rule: the next rule, a family, or the end of the table
record Closes (rest : List Item) : Type 0 where
  same : (t : Table) (r : Rule) (o : Opened) → run (Opening t r o) rest ≡ run (Proved t (with_opened r o)) rest
  next : (t : Table) (r : Rule) → run (Proved t r) rest ≡ run (Stated (with_rule t r)) rest

more_opens : Rule → List Opened → Rule
more_opens r os = record { left = r.left; right = r.right; mask = r.mask; proof = r.proof; opens = r.opens ++ os }

reads_later : (t : Table) (r : Rule) (o : Opened) (os : List Opened) (rest : List Item) → Closes rest → ascends_from (suc o.number) (numbers_of os) ≡ true
    → run (Opening t r o) (flat_map open_items os ++ rest) ≡ run (Proved t (more_opens r (o ∷ os))) rest
unfolding run step ascends_from more_opens
reads_later t r o [] rest closes up = closes.same t r o
reads_later t r o (p ∷ os) rest closes up =
    let parts = and_parts (nat_le (suc o.number) p.number) (ascends_from (suc p.number) (numbers_of os)) up in
    let above : nat_lt o.number p.number ≡ true = lt-ltb o.number p.number (omega (arith, leb-true (suc o.number) p.number parts.0)) in
    rw above (ap (run (Opening t (with_opened r o) (record { number = p.number; log = [] }))) (append_assoc (map Logged p.log) (flat_map open_items os) rest)
    ∙ reads_log t (with_opened r o) (record { number = p.number; log = [] }) p.log (flat_map open_items os ++ rest)
    ∙ reads_later t (with_opened r o) p os rest closes parts.1
    ∙ ap (λ us. run (Proved t (record { left = r.left; right = r.right; mask = r.mask; proof = r.proof; opens = us })) rest) (append_assoc r.opens (o ∷ []) (p ∷ os)))

reads_opens : (t : Table) (r : Rule) (os : List Opened) (rest : List Item) → Closes rest → ascends_from 0 (numbers_of os) ≡ true
    → run (Proved t r) (flat_map open_items os ++ rest) ≡ run (Proved t (more_opens r os)) rest
unfolding run step ascends_from more_opens
reads_opens t r [] rest closes up = ap (λ us. run (Proved t (record { left = r.left; right = r.right; mask = r.mask; proof = r.proof; opens = us })) rest) (sym (append-nil r.opens))
reads_opens t r (p ∷ os) rest closes up =
    let parts = and_parts (nat_le 0 p.number) (ascends_from (suc p.number) (numbers_of os)) up in
    ap (run (Opening t r (record { number = p.number; log = [] }))) (append_assoc (map Logged p.log) (flat_map open_items os) rest)
    ∙ reads_log t r (record { number = p.number; log = [] }) p.log (flat_map open_items os ++ rest)
    ∙ reads_later t r p os rest closes parts.1

-- the lines of a rule after its first
tail_items : Rule → List Item
tail_items r = map Left r.left ++ (map Right r.right ++ Mask r.mask ∷ Proof ∷ (map Logged r.proof ++ flat_map open_items r.opens))

reads_rule : (t : Table) (r : Rule) (rest : List Item) → IsRule r → Closes rest → run (Sided t [] []) (tail_items r ++ rest) ≡ run (Proved t r) rest
unfolding run step more_opens tail_items
reads_rule t r rest is closes =
    let some : nat_lt 0 (length r.left) ≡ true = lt-ltb 0 (length r.left) is.some in
    let opens = flat_map open_items r.opens in
    let proof = map Logged r.proof ++ opens in
    let sides = map Right r.right ++ Mask r.mask ∷ Proof ∷ proof in
    ap (run (Sided t [] [])) (append_assoc (map Left r.left) sides rest)
    ∙ reads_left t [] r.left (sides ++ rest) (omega (arith, is.few_left))
    ∙ ap (run (Sided t r.left [])) (append_assoc (map Right r.right) (Mask r.mask ∷ Proof ∷ proof) rest)
    ∙ reads_right t r.left [] r.right (Mask r.mask ∷ Proof ∷ (proof ++ rest)) is.some (omega (arith, is.few_right))
    ∙ rw some (ap (run (Proved t (record { left = r.left; right = r.right; mask = r.mask; proof = []; opens = [] }))) (append_assoc (map Logged r.proof) opens rest)
    ∙ reads_proof t (record { left = r.left; right = r.right; mask = r.mask; proof = []; opens = [] }) r.proof (opens ++ rest)
    ∙ reads_opens t (record { left = r.left; right = r.right; mask = r.mask; proof = r.proof; opens = [] }) r.opens rest closes is.ascending)

closes_entry : (rest : List Item) → Closes (Entry ∷ rest)
unfolding run step
closes_entry rest = record { same = λ t r o. refl; next = λ t r. refl }

closes_families : (fs : List Raised) → Closes (flat_map family_items fs ++ End ∷ [])
unfolding run step
closes_families [] = record { same = λ t r o. refl; next = λ t r. refl }
closes_families (f ∷ fs) = record { same = λ t r o. refl; next = λ t r. refl }

closes_rules : (rs : List Rule) (rest : List Item) → Closes rest → Closes (flat_map rule_items rs ++ rest)
closes_rules [] rest closes = closes
closes_rules (r ∷ rs) rest closes = closes_entry _

-- rules are read one by one after the states
reads_rules : (t : Table) (rs : List Rule) (rest : List Item) → Closes rest → All IsRule rs → run (Stated t) (flat_map rule_items rs ++ rest) ≡ run (Stated (more_rules t rs)) rest
unfolding run step more_rules tail_items
reads_rules t [] rest closes all = ap (λ us. run (Stated (record t { rules = us })) rest) (sym (append-nil t.rules))
reads_rules t (r ∷ rs) rest closes all =
    let later = closes_rules rs rest closes in
    ap (run (Sided t [] [])) (append_assoc (tail_items r) (flat_map rule_items rs) rest)
    ∙ reads_rule t r (flat_map rule_items rs ++ rest) (All-head IsRule r rs all) later
    ∙ later.next t r
    ∙ reads_rules (with_rule t r) rs rest closes (All-tail IsRule r rs all)
    ∙ ap (λ us. run (Stated (record t { rules = us })) rest) (append_assoc t.rules (r ∷ []) rs)

-- what may follow a family: the next one, or the end of the table
record Ends (rest : List Item) : Type 0 where
  same : (t : Table) (f : Raised) → run (Shown t f) rest ≡ run (Stated (with_family t f)) rest

ends : (fs : List Raised) → Ends (flat_map family_items fs ++ End ∷ [])
unfolding run step
ends [] = record { same = λ t f. refl }
ends (f ∷ fs) = record { same = λ t f. refl }

reads_shown : (t : Table) (f : Raised) (cs : List Content) (rest : List Item) → run (Shown t f) (map Logged cs ++ rest) ≡ run (Shown t (record f { proof = f.proof ++ cs })) rest
unfolding run step
reads_shown t f [] rest = ap (λ us. run (Shown t (record f { proof = us })) rest) (sym (append-nil f.proof))
reads_shown t f (c ∷ cs) rest =
    reads_shown t (record f { proof = f.proof ++ c ∷ [] }) cs rest ∙ ap (λ us. run (Shown t (record f { proof = us })) rest) (append_assoc f.proof (c ∷ []) cs)

reads_families : (t : Table) (fs : List Raised) → has_families t.header.version ≡ true → run (Stated t) (flat_map family_items fs ++ End ∷ []) ≡ Some (Done (more_families t fs))
unfolding run step more_families
reads_families t [] has = ap (λ us. Some (Done (record t { families = us }))) (sym (append-nil t.families))
reads_families t (f ∷ fs) has =
    let rest = flat_map family_items fs ++ End ∷ [] in
    rw has (ap (run (Shown t (record f { proof = [] }))) (append_assoc (map Logged f.proof) (flat_map family_items fs) (End ∷ []))
    ∙ reads_shown t (record f { proof = [] }) f.proof rest
    ∙ (ends fs).same t f
    ∙ reads_families (with_family t f) fs has
    ∙ ap (λ us. Some (Done (record t { families = us }))) (append_assoc t.families (f ∷ []) fs))

reads_none : (t : Table) → run (Stated t) (End ∷ []) ≡ Some (Done (more_families t []))
unfolding run step more_families
reads_none t = ap (λ us. Some (Done (record t { families = us }))) (sym (append-nil t.families))

-- families are read one by one, up to the end of the table; only later versions have any
reads_ends : (t : Table) (fs : List Raised) → (has_families t.header.version ≡ false → fs ≡ []) → run (Stated t) (flat_map family_items fs ++ End ∷ []) ≡ Some (Done (more_families t fs))
reads_ends t fs none = elim (cases_Bool (has_families t.header.version)) [
  | inl has ↦ reads_families t fs has
  | inr hasnt ↦ subst (λ gs. run (Stated t) (flat_map family_items gs ++ End ∷ []) ≡ Some (Done (more_families t gs))) (sym (none hasnt)) (reads_none t)
]

-- a header of each version by what it says
of_first : (h : Header) → IsHeader h → h.version ≡ 1 → h ≡ record h { version = 1; scratch = 0; costs = None }
of_first h is e =
    let none : h.scratch ≡ 0 = is.unsaid field.Scratch (ap (λ v. has_line v (head.Number field.Scratch)) e) in
    let free : h.costs ≡ None = is.uncosted (ap (λ v. has_line v head.Costs) e) in
    λ i. record h { version = e i; scratch = none i; costs = free i }

of_later : (h : Header) (v : ℕ) (costs : Option (List ℕ)) → h.version ≡ v → h.costs ≡ costs → h ≡ record h { version = v; costs = costs }
of_later h v costs e f = λ i. record h { version = e i; costs = f i }

versions : (v : ℕ) → IsWithin field.Version v → (v ≡ 1) ⊎ ((v ≡ 2) ⊎ ((v ≡ 3) ⊎ (v ≡ 4)))
versions zero w = absurd (omega (arith, w.0))
versions (suc zero) w = inl refl
versions (suc (suc zero)) w = inr (inl refl)
versions (suc (suc (suc zero))) w = inr (inr (inl refl))
versions (suc (suc (suc (suc zero)))) w = inr (inr (inr refl))
versions (suc (suc (suc (suc (suc v))))) w = absurd (omega (arith, w.1))

abbrev ReadsHeader : List Item → Header → Type 0
ReadsHeader rest h = run Start (header_items h ++ rest) ≡ run (Stated (record { header = h; states = []; rules = []; families = [] })) rest

reads_header : (h : Header) (rest : List Item) → IsHeader h → ReadsHeader rest h
unfolding run step
reads_header h rest is = elim (versions h.version (is.numbers field.Version)) [
  | inl e ↦ subst (ReadsHeader rest) (sym (of_first h is e)) refl
  | inr later ↦ elim later [
    | inl e ↦ subst (ReadsHeader rest) (sym (of_later h 2 None e (is.uncosted (ap (λ v. has_line v head.Costs) e)))) refl
    | inr last ↦ elim last [
      | inl e ↦ subst (ReadsHeader rest) (sym (of_later h 3 None e (is.uncosted (ap (λ v. has_line v head.Costs) e)))) refl
      | inr e ↦ by_costs h.costs refl e (is.costed (ap (λ v. has_line v head.Costs) e))
    ]
  ]
]
  where
    by_costs : (costs : Option (List ℕ)) → h.costs ≡ costs → h.version ≡ 4 → IsSome h.costs → ReadsHeader rest h
    by_costs None f e some = absurd cc
    by_costs (Some ns) f e some = subst (ReadsHeader rest) (sym (of_later h 4 (Some ns) e f)) refl

pub reads : (t : Table) → IsTable t → run Start (items_of t) ≡ Some (Done t)
unfolding more_states more_rules more_families
reads t is =
    let begun : Table = record { header = t.header; states = []; rules = []; families = [] } in
    let families = flat_map family_items t.families ++ End ∷ [] in
    let rules = flat_map rule_items t.rules ++ families in
    reads_header t.header (map State t.states ++ rules) is.header
    ∙ reads_states begun t.states rules
    ∙ reads_rules (record begun { states = t.states }) t.rules families (closes_families t.families) is.rules
    ∙ reads_ends (record begun { states = t.states; rules = t.rules }) t.families is.none_before
