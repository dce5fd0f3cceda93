-- Registers of a rule: those that its left side names, and a scratch register behind them.
use Rattle.std.proofs.Common.{◌≡◌, ℕ, zero, suc, ◌+◌, ◌<◌, ◌≤◌, ◌==◌, ◌||◌, ◌&&◌, not, Bool, true, false, List, [], ◌∷◌, ◌++◌, length, length-append, map, take, Option, Some, None, refl, sym, ap, ◌∙◌, subst, ◌⊎◌, inl, inr, arith, eqb-true, eq-eqb, true≢false, lt-ltb, ltb-true}
use Rattle.std.specs.Prelude.{slice_get}
use Rattle.std.proofs.lemmas.Bool.{cases_Bool, cases_lt, or_cases, or_right}
use Rattle.std.proofs.lemmas.Option.{slice_get_within, slice_get_past, same_Some}
use Rattle.thumb_instr.specs.Items.{has}
use Rattle.thumb_instr.specs.Window.{Low, renamed, item_under, number_or}
use Rattle.thumb_model.specs.Effect.{one_of, IsOneToOne, register_count}
use Rattle.thumb_model.proofs.Lists.{get_back, get_take, take_all, take_short}
use Rattle.rule_model.specs.Rules.{Rule, rule_registers, IsSoundRule}
use Rattle.rule_table.specs.Scratch.{has_register, is_free, IsLeastFree}
use Rattle.window_rewrite.specs.TableRewriting.{map_of, registers_of}
use Rattle.window_rewrite.specs.Rules.{needs_scratch, AreAlike}
use Rattle.window_rewrite.specs.Fitting.{left_registers, AreWhole, IsWholeOf}
use Rattle.window_rewrite.proofs.Live.{Allowed}
use Rattle.window_rewrite.proofs.Maps.{all_alike, map_registers}
use Rattle.window_rewrite.proofs.Sides.{names_below, register_at, windows_over}

-- ---- items ----

-- an item of a mask that becomes another
pub record ComesOf (f : ℕ → ℕ) (xs : List ℕ) (y : ℕ) : Type 0 where
  pub from : ℕ
  pub among : one_of from xs ≡ true
  pub is : f from ≡ y

pub comes_of : (f : ℕ → ℕ) (xs : List ℕ) (y : ℕ) → one_of y (map f xs) ≡ true → ComesOf f xs y
comes_of f [] y h = absurd (cc)
comes_of f (x ∷ xs) y h = elim (or_cases (y == f x) (one_of y (map f xs)) h) [
  | inl e ↦ record { from = x; among = ap (λ b. b || one_of x xs) (eq-eqb x x refl); is = sym (eqb-true y (f x) e) }
  | inr r ↦ (let c = comes_of f xs y r in record { from = c.from; among = or_right (c.from == x) (one_of c.from xs) c.among; is = c.is })
]

-- a register of a map is among them
pub register_one : (registers : List Low) (x : ℕ) (r : Low) → slice_get registers x ≡ Some r → one_of r.number (map (λ r. r.number) registers) ≡ true
register_one [] x r e = absurd (cc)
register_one (s ∷ ss) zero r e = let same : s ≡ r = same_Some s r e in ap (λ (q : Low). (r.number == q.number) || one_of r.number (map (λ r. r.number) ss)) same ∙ ap (λ b. b || one_of r.number (map (λ r. r.number) ss)) (eq-eqb r.number r.number refl)
register_one (s ∷ ss) (suc x) r e = or_right (r.number == s.number) (one_of r.number (map (λ r. r.number) ss)) (register_one ss x r e)

pub past_none : (registers : List Low) (x : ℕ) → length registers ≤ x → item_under registers x ≡ x
past_none registers x h = by (slice_get registers x) refl
  where
    by : (o : Option Low) → slice_get registers x ≡ o → number_or o x ≡ x
    by None e = refl
    by (Some r) e = absurd (let w = slice_get_within registers x r e in omega arith)

-- and what is among them is one of them
pub record IsOneOf (registers : List Low) (x : ℕ) : Type 0 where
  pub place : ℕ
  pub register : Low
  pub at : slice_get registers place ≡ Some register
  pub is : x ≡ register.number

pub one_is : (registers : List Low) (x : ℕ) → one_of x (map (λ r. r.number) registers) ≡ true → IsOneOf registers x
one_is [] x h = absurd (cc)
one_is (r ∷ rs) x h = elim (or_cases (x == r.number) (one_of x (map (λ r. r.number) rs)) h) [
  | inl e ↦ record { place = 0; register = r; at = refl; is = eqb-true x r.number e }
  | inr t ↦ (let o = one_is rs x t in record { place = suc o.place; register = o.register; at = o.at; is = o.is })
]

-- ---- the first registers of a map ----

pub front_at : (n : ℕ) (registers : List Low) (x : ℕ) (r : Low) → slice_get (take n registers) x ≡ Some r → slice_get registers x ≡ Some r
front_at zero registers x r e = absurd (cc)
front_at (suc n) [] x r e = absurd (cc)
front_at (suc n) (s ∷ ss) zero r e = e
front_at (suc n) (s ∷ ss) (suc x) r e = front_at n ss x r e

front_within : (n : ℕ) (registers : List Low) (x : ℕ) (r : Low) → slice_get (take n registers) x ≡ Some r → x < n
front_within zero registers x r e = absurd (cc)
front_within (suc n) [] x r e = absurd (cc)
front_within (suc n) (s ∷ ss) zero r e = omega arith
front_within (suc n) (s ∷ ss) (suc x) r e = let h = front_within n ss x r e in omega arith

pub front_apart : (n : ℕ) (registers : List Low) → IsOneToOne registers → IsOneToOne (take n registers)
front_apart n registers o = record { distinct = λ i j a e b f g. o.distinct i j a (front_at n registers i a e) b (front_at n registers j b f) g }

front_one : (n : ℕ) (registers : List Low) (x : ℕ) → one_of x (map (λ r. r.number) (take n registers)) ≡ true → one_of x (map (λ r. r.number) registers) ≡ true
front_one zero registers x h = absurd (cc)
front_one (suc n) [] x h = absurd (cc)
front_one (suc n) (r ∷ rs) x h = elim (or_cases (x == r.number) (one_of x (map (λ r. r.number) (take n rs))) h) [
  | inl e ↦ ap (λ b. b || one_of x (map (λ r. r.number) rs)) e
  | inr t ↦ or_right (x == r.number) (one_of x (map (λ r. r.number) rs)) (front_one n rs x t)
]

front_outside : (n : ℕ) (registers : List Low) (x : ℕ) → one_of x (map (λ r. r.number) registers) ≡ false → one_of x (map (λ r. r.number) (take n registers)) ≡ false
front_outside n registers x h = elim (cases_Bool (one_of x (map (λ r. r.number) (take n registers)))) [
  | inl t ↦ absurd (true≢false (sym (front_one n registers x t) ∙ h))
  | inr f ↦ f
]

-- the first registers of a map rename the left side as all of them do
pub front_matches : (rule : Rule) (n : ℕ) (registers : List Low) → IsSoundRule rule → register_count rule.left ≤ n → map (renamed registers) rule.left ≡ map (renamed (take n registers)) rule.left
front_matches rule n registers s h =
    let k = register_count rule.left in
    all_alike k registers (take n registers) rule.left (λ x l. sym (get_take n registers x (omega arith))) (windows_over k rule.left s.left) (names_below k rule.left s.left)

-- and the mask
front_item : (k n : ℕ) (registers : List Low) (x : ℕ) → k ≤ n → length registers ≤ 4 → (x < k) ⊎ ((15 ≤ x) × (x < 19)) → item_under (take n registers) x ≡ item_under registers x
front_item k n registers x h few (inl l) = ap (λ o. number_or o x) (get_take n registers x (omega arith))
front_item k n registers x h few (inr g) =
    let high = g.0 in
    let short = take_short n registers in
    past_none (take n registers) x (omega arith) ∙ sym (past_none registers x (omega arith))

front_mask : (k n : ℕ) (registers : List Low) (mask : List ℕ) → k ≤ n → length registers ≤ 4 → ((x : ℕ) → one_of x mask ≡ true → (x < k) ⊎ ((15 ≤ x) × (x < 19))) → map (item_under (take n registers)) mask ≡ map (item_under registers) mask
front_mask k n registers [] h few m = refl
front_mask k n registers (y ∷ ys) h few m =
    ap (λ z. z ∷ map (item_under (take n registers)) ys) (front_item k n registers y h few (m y (ap (λ b. b || one_of y ys) (eq-eqb y y refl))))
    ∙ ap (λ zs. item_under registers y ∷ zs) (front_mask k n registers ys h few (λ x l. m x (or_right (x == y) (one_of x ys) l)))

-- what may be live under a map may be so under its first registers too
pub front_allowed : (rule : Rule) (n : ℕ) (registers : List Low) (x : ℕ) → IsSoundRule rule → register_count rule.left ≤ n → length registers ≤ 4 → Allowed rule.mask registers x → Allowed rule.mask (take n registers) x
front_allowed rule n registers x s h few (inl m) = inl (ap (one_of x) (front_mask (register_count rule.left) n registers rule.mask h few s.mask) ∙ m)
front_allowed rule n registers x s h few (inr o) = inr (o.0, front_outside n registers x o.1)

-- ---- the scratch register ----

-- the number of registers, with a scratch register and without
pub with_one : (rule : Rule) → IsSoundRule rule → needs_scratch rule ≡ true → rule_registers rule ≡ register_count rule.left + 1
with_one rule s h =
    let near = s.near in
    let more = ltb-true (register_count rule.left) (register_count rule.right) h in
    omega arith

pub with_none : (rule : Rule) → needs_scratch rule ≡ false → rule_registers rule ≡ register_count rule.left
with_none rule h = elim (cases_lt (register_count rule.left) (register_count rule.right)) [
  | inl l ↦ absurd (true≢false (sym (lt-ltb (register_count rule.left) (register_count rule.right) l) ∙ h))
  | inr g ↦ omega arith
]

-- a rule that is alike has no more registers
pub alike_registers : (a b : Rule) → IsSoundRule a → IsSoundRule b → AreAlike a b → rule_registers a ≤ rule_registers b
alike_registers a b s t l =
    let same : register_count a.left ≡ register_count b.left = ap register_count l.left in
    elim (cases_Bool (needs_scratch a)) [
      | inl h ↦ (let one = with_one a s h in let other = with_one b t (l.no_more h) in omega arith)
      | inr h ↦ (let none = with_none a h in omega arith)
    ]

pub left_few : (rule : Rule) (registers : List Low) → length registers ≡ rule_registers rule → length (left_registers rule registers) ≡ register_count rule.left
left_few rule registers e = take_all (register_count rule.left) registers (omega arith)

-- what may be live under the left side's registers may be so under all registers, but for the scratch register
pub whole_allowed : (rule : Rule) (registers : List Low) (live x : ℕ) → IsSoundRule rule → AreWhole rule registers live → has live x ≡ true → Allowed rule.mask (left_registers rule registers) x → Allowed rule.mask registers x
whole_allowed rule registers live x s w there (inl m) =
    let few = s.few in
    let many = w.as_many in
    inl (ap (one_of x) (sym (front_mask (register_count rule.left) (register_count rule.left) registers rule.mask (omega arith) (omega arith) s.mask)) ∙ m)
whole_allowed rule registers live x s w there (inr o) = inr (o.0, outside)
  where
    k : ℕ
    k = register_count rule.left

    not_one : IsOneOf registers x → ⊥
    not_one i =
        let near = s.near in
        let many = w.as_many in
        let within = slice_get_within registers i.place i.register i.at in
        elim (cases_lt i.place k) [
          | inl l ↦ true≢false (sym (register_one (take k registers) i.place i.register (get_take k registers i.place l ∙ i.at)) ∙ ap (λ y. one_of y (map (λ r. r.number) (take k registers))) (sym i.is) ∙ o.1)
          | inr g ↦ (
              let last : i.place ≡ k = omega arith in
              true≢false (sym there ∙ ap (has live) i.is ∙ (w.free i.register (ap (slice_get registers) (sym last) ∙ i.at)).1)
              )
        ]

    outside : one_of x (map (λ r. r.number) registers) ≡ false
    outside = elim (cases_Bool (one_of x (map (λ r. r.number) registers))) [
      | inl t ↦ absurd (not_one (one_is registers x t))
      | inr f ↦ f
    ]

-- no two of all registers are the same
pub whole_apart : (rule : Rule) (registers : List Low) (live : ℕ) → IsSoundRule rule → AreWhole rule registers live → IsOneToOne (left_registers rule registers) → IsOneToOne registers
whole_apart rule registers live s w o = record { distinct = apart }
  where
    k : ℕ
    k = register_count rule.left

    up_to : (i : ℕ) (a : Low) → slice_get registers i ≡ Some a → i ≤ k
    up_to i a e =
        let near = s.near in
        let many = w.as_many in
        let within = slice_get_within registers i a e in
        omega arith

    -- one of the left side's and the scratch register
    differ : (i j : ℕ) (a b : Low) → i < k → k ≤ j → slice_get registers i ≡ Some a → slice_get registers j ≡ Some b → a.number ≡ b.number → ⊥
    differ i j a b l g e f h =
        let last : j ≡ k = (let m = up_to j b f in omega arith) in
        true≢false (sym (register_one (take k registers) i a (get_take k registers i l ∙ e)) ∙ ap (λ y. one_of y (map (λ r. r.number) (take k registers))) h ∙ (w.free b (ap (slice_get registers) (sym last) ∙ f)).0)

    apart : (i j : ℕ) (a : Low) → slice_get registers i ≡ Some a → (b : Low) → slice_get registers j ≡ Some b → a.number ≡ b.number → i ≡ j
    apart i j a e b f h = elim (cases_lt i k) [
      | inl l ↦ elim (cases_lt j k) [
        | inl m ↦ o.distinct i j a (get_take k registers i l ∙ e) b (get_take k registers j m ∙ f) h
        | inr g ↦ absurd (differ i j a b l g e f h)
      ]
      | inr g ↦ elim (cases_lt j k) [
        | inl m ↦ absurd (differ j i b a m g f e (sym h))
        | inr m ↦ (let one = up_to i a e in let other = up_to j b f in omega arith)
      ]
    ]

-- where what is live may be so, a scratch register is free
pub whole_free : (rule : Rule) (registers : List Low) (live : ℕ) → IsSoundRule rule → length registers ≡ rule_registers rule → IsOneToOne registers → ((x : ℕ) → has live x ≡ true → Allowed rule.mask registers x) → AreWhole rule registers live
whole_free rule registers live s many o allowed = record { as_many = many; free = λ scratch at. (outside scratch at, dead scratch at) }
  where
    k : ℕ
    k = register_count rule.left

    outside : (scratch : Low) → slice_get registers k ≡ Some scratch → one_of scratch.number (map (λ r. r.number) (take k registers)) ≡ false
    outside scratch at = elim (cases_Bool (one_of scratch.number (map (λ r. r.number) (take k registers)))) [
      | inl t ↦ (
          let i = one_is (take k registers) scratch.number t in
          let same : i.place ≡ k = o.distinct i.place k i.register (front_at k registers i.place i.register i.at) scratch at (sym i.is) in
          absurd (let l = front_within k registers i.place i.register i.at in omega arith)
          )
      | inr f ↦ f
    ]

    -- none of the mask's items becomes it
    never : (scratch : Low) → slice_get registers k ≡ Some scratch → (c : ComesOf (item_under registers) rule.mask scratch.number) → (c.from < k) ⊎ ((15 ≤ c.from) × (c.from < 19)) → ⊥
    never scratch at c (inl l) =
        let r = register_at registers c.from (omega arith) in
        let same : c.from ≡ k = o.distinct c.from k r.register r.is scratch at (sym (ap (λ o. number_or o c.from) r.is) ∙ c.is) in
        omega arith
    never scratch at c (inr g) =
        let few = s.few in
        let high = g.0 in
        let own : item_under registers c.from ≡ c.from = past_none registers c.from (omega arith) in
        let is = c.is in
        let low = scratch.below in
        omega (arith, own, is, low, high)

    dead : (scratch : Low) → slice_get registers k ≡ Some scratch → has live scratch.number ≡ false
    dead scratch at = elim (cases_Bool (has live scratch.number)) [
      | inl t ↦ absurd (elim (allowed scratch.number t) [
        | inl m ↦ (let c = comes_of (item_under registers) rule.mask scratch.number m in never scratch at c (s.mask c.from c.among))
        | inr n ↦ true≢false (sym (register_one registers k scratch at) ∙ n.1)
      ])
      | inr f ↦ f
    ]

-- ---- all registers with it ----

-- a map has its registers
given_one : (given : List (Option Low)) (x : ℕ) → has_register given x ≡ one_of x (map (λ r. r.number) (registers_of given))
given_one [] x = refl
given_one (None ∷ os) x = given_one os x
given_one (Some r ∷ os) x = ap (λ b. (x == r.number) || b) (given_one os x)

eight_one : (own : List Low) (x : ℕ) → length own ≤ 8 → has_register (map_of 8 own) x ≡ one_of x (map (λ r. r.number) own)
eight_one own x few = given_one (map_of 8 own) x ∙ ap (λ (ls : List Low). one_of x (map (λ r. r.number) ls)) (map_registers 8 own few)

-- what is not free is the map's or live
not_free : (taken live : Bool) → (not live && not taken) ≡ false → (taken ≡ true) ⊎ (live ≡ true)
not_free taken true h = inr refl
not_free true false h = inl refl
not_free false false h = absurd (cc)

-- and what is free is neither
is_neither : (taken live : Bool) → (not live && not taken) ≡ true → (taken ≡ false) × (live ≡ false)
is_neither taken true h = absurd (cc)
is_neither true false h = absurd (cc)
is_neither false false h = (refl, refl)

front_all : (xs : List Low) → take (length xs) xs ≡ xs
front_all [] = refl
front_all (x ∷ xs) = ap (λ ys. x ∷ ys) (front_all xs)

pub own_few : (rule : Rule) (own : List Low) → IsSoundRule rule → length own ≡ register_count rule.left → length own ≤ 4
own_few rule own s many = let few = s.few in omega arith

-- where no scratch register is needed, they are those of the left side
pub whole_own : (rule : Rule) (own all : List Low) (live : ℕ) → IsSoundRule rule → needs_scratch rule ≡ false → length own ≡ register_count rule.left → all ≡ own → IsWholeOf rule own live all
whole_own rule own all live s none many same = subst (IsWholeOf rule own live) (sym same) (record {
  front = ap (λ n. take n own) (sym many) ∙ front_all own;
  whole = record { as_many = many ∙ sym (with_none rule none); free = λ scratch at. absurd (let bad : None ≡ Some scratch = sym past ∙ at in cc) };
  least = λ scratch at x l. absurd (let bad : None ≡ Some scratch = sym past ∙ at in cc);
  few = let few = own_few rule own s many in omega arith;
})
  where
    past : slice_get own (register_count rule.left) ≡ None
    past = slice_get_past own (register_count rule.left) (omega arith)

-- where one is, and this is the least that is free, they are those with it behind them
pub whole_more : (rule : Rule) (own all : List Low) (live : ℕ) (r : Low) → IsSoundRule rule → needs_scratch rule ≡ true → length own ≡ register_count rule.left → IsLeastFree (map_of 8 own) live r.number → all ≡ own ++ r ∷ []
    → IsWholeOf rule own live all
whole_more rule own all live r s needs many is same =
    let low = own_few rule own s many in
    let one : rule_registers rule ≡ register_count rule.left + 1 = with_one rule s needs in
    let count : length (own ++ r ∷ []) ≡ length own + 1 = length-append own (r ∷ []) in
    let front : take (register_count rule.left) (own ++ r ∷ []) ≡ own = ap (λ n. take n (own ++ r ∷ [])) (sym many) ∙ front_of own in
    let last : (scratch : Low) → slice_get (own ++ r ∷ []) (register_count rule.left) ≡ Some scratch → r ≡ scratch =
    λ scratch at. same_Some r scratch (sym (get_back own (r ∷ []) 0 (register_count rule.left) (omega arith)) ∙ at) in
    let neither = is_neither (has_register (map_of 8 own) r.number) (has live r.number) is.free in
    let taken : (x : ℕ) → has_register (map_of 8 own) x ≡ one_of x (map (λ r. r.number) (left_registers rule (own ++ r ∷ []))) =
    λ x. eight_one own x (omega arith) ∙ ap (λ (ls : List Low). one_of x (map (λ r. r.number) ls)) (sym front) in
    subst (IsWholeOf rule own live) (sym same) (record {
      front = front;
      whole = record {
        as_many = count ∙ (let e : length own + 1 ≡ rule_registers rule = omega arith in e);
        free = λ scratch at. subst (λ (z : Low). (one_of z.number (map (λ r. r.number) (left_registers rule (own ++ r ∷ []))) ≡ false) × (has live z.number ≡ false)) (last scratch at)
            (sym (taken r.number) ∙ neither.0, neither.1);
      };
      least = λ scratch at x l. elim (not_free (has_register (map_of 8 own) x) (has live x) (is.least x (subst (λ (z : Low). x < z.number) (sym (last scratch at)) l))) [
        | inl t ↦ inl (sym (taken x) ∙ t)
        | inr t ↦ inr t
      ];
      few = omega arith;
    })
  where
    front_of : (xs : List Low) → take (length xs) (xs ++ r ∷ []) ≡ xs
    front_of [] = refl
    front_of (x ∷ xs) = ap (λ ys. x ∷ ys) (front_of xs)

-- where one is needed and none is free, there are no such registers
pub none_whole : (rule : Rule) (own registers : List Low) (live : ℕ) → IsSoundRule rule → needs_scratch rule ≡ true → length own ≡ register_count rule.left → ((x : ℕ) → x < 8 → is_free (map_of 8 own) live x ≡ false)
    → left_registers rule registers ≡ own → AreWhole rule registers live → ⊥
none_whole rule own registers live s needs count none is_own w =
    let low = own_few rule own s count in
    let one = with_one rule s needs in
    let many = w.as_many in
    let r = register_at registers (register_count rule.left) (omega arith) in
    let free = w.free r.register r.is in
    elim (not_free (has_register (map_of 8 own) r.register.number) (has live r.register.number) (none r.register.number r.register.below)) [
      | inl t ↦ true≢false (sym t ∙ eight_one own r.register.number (omega arith) ∙ ap (λ (ls : List Low). one_of r.register.number (map (λ r. r.number) ls)) (sym is_own) ∙ free.0)
      | inr t ↦ true≢false (sym t ∙ free.1)
    ]
