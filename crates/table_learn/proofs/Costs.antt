-- How many steps learning takes at most: sums over candidates, windows and open numbers.
use Rattle.std.proofs.Common.{◌≡◌, ℕ, suc, ◌+◌, ◌-◌, ◌*◌, ◌<◌, ◌≤◌, List, [], ◌∷◌, All, length, slice_get, Some, refl, sym, ◌∙◌, ap, subst, arith, true, nat_le}
use Rattle.std.specs.Prelude.{sum_by}
use Rattle.std.proofs.Math.Nat.{mul-le-mul_left, mul-le-mul_right}
use Rattle.std.proofs.lemmas.Bool.{and_parts, leb-true}
use Rattle.std.proofs.lemmas.List.Elements.{All-head, All-tail}
use Rattle.std.proofs.lemmas.List.Sums.{sum_by-cons}
use Rattle.seq_enum.specs.Alphabet.{ascends_from}
use Rattle.rule_table.specs.Table.{Opened, Rule, numbers_of}
use Rattle.table_learn.specs.Learnt.{Settings}
use Rattle.table_audit.specs.Acceptance.{width_of}
use Rattle.table_learn.specs.Failing.{learn_cost}
use Rattle.table_learn.specs.Searching.{query_cost}
use Rattle.table_learn.specs.Progress.{search_cost, drop_cost}
use Rattle.common_lemmas.proofs.Numbers.{one_more_times}

-- ---- how many there are ----

-- there are no more ascending numbers below a limit than the limit
pub few_numbers : (low n : ℕ) (xs : List ℕ) → low ≤ n → ascends_from low xs ≡ true → All (λ q. q < n) xs → low + length xs ≤ n
unfolding ascends_from
few_numbers low n [] h a all = omega (arith, h)
few_numbers low n (x ∷ xs) h a all =
    let parts = and_parts (nat_le low x) (ascends_from (suc x) xs) a in
    let least : low ≤ x = leb-true low x parts.0 in
    let below : x < n = All-head (λ q. q < n) x xs all in
    let r = few_numbers (suc x) n xs (omega (arith, below)) parts.1 (All-tail (λ q. q < n) x xs all) in
    omega (arith, least, r)

pub few_opens : (low n : ℕ) (opens : List Opened) → low ≤ n → ascends_from low (numbers_of opens) ≡ true → ((i : ℕ) (o : Opened) → slice_get opens i ≡ Some o → o.number < n) → low + length opens ≤ n
unfolding ascends_from
few_opens low n [] h a each = omega (arith, h)
few_opens low n (o ∷ opens) h a each =
    let parts = and_parts (nat_le low o.number) (ascends_from (suc o.number) (numbers_of opens)) a in
    let least : low ≤ o.number = leb-true low o.number parts.0 in
    let below : o.number < n = each 0 o refl in
    let r = few_opens (suc o.number) n opens (omega (arith, below)) parts.1 (λ i z at. each (suc i) z at) in
    omega (arith, least, r)

-- ---- sums and products ----

both : (a b n : ℕ) → n * (a + b) ≡ n * a + n * b
both a b n = grind arith

twice : (n l : ℕ) → n * (l + l) ≡ 2 * (n * l)
twice n l = grind arith

twist : (a b : ℕ) → a * (2 * b) ≡ 2 * (a * b)
twist a b = grind arith

share : (f g l : ℕ) → (f + g) * l ≡ f * l + g * l
share f g l = grind arith

drop_both : (x l w f g : ℕ) → w * (x * ((f + g) * l)) ≡ w * (x * (f * l)) + w * (x * (g * l))
drop_both x l w f g =
    ap (λ n. w * (x * n)) (share f g l) ∙ ap (λ n. w * n) (both (f * l) (g * l) x) ∙ both (x * (f * l)) (x * (g * l)) w

-- one more candidate's runs and query
pub query_more : (before after start n u v b l : ℕ) → before ≤ start + n * query_cost b u l → after ≤ before + query_cost b v l → u ≤ v → after ≤ start + (n + 1) * query_cost b v l
query_more before after start n u v b l h k more =
    let wide : u * (l + l) ≤ v * (l + l) = mul-le-mul_right (l + l) more in
    let each : query_cost b u l ≤ query_cost b v l = omega (arith, wide) in
    let all : n * query_cost b u l ≤ n * query_cost b v l = mul-le-mul_left n each in
    let next : (n + 1) * query_cost b v l ≡ n * query_cost b v l + query_cost b v l = one_more_times n (query_cost b v l) in
    omega (arith, h, k, all, next)

pub query_within : (after start n count unit : ℕ) → after ≤ start + n * unit → n ≤ count → after ≤ start + count * unit
query_within after start n count unit h k = let e : n * unit ≤ count * unit = mul-le-mul_right unit k in omega (arith, h, e)

-- a window's outcomes and its queries
pub search_within : (s : Settings) (n m u l : ℕ) → n ≤ m → m ≤ width_of s → l ≤ s.left → m + n * query_cost s.budget u l ≤ search_cost s u
search_within s n m u l fewer few short =
    let q : ℕ = (s.budget + 1) * 200001 in
    let a : ℕ = u * (l + l) in
    let wide : u * (l + l) ≤ u * (s.left + s.left) = mul-le-mul_left u (omega (arith, short)) in
    let each : 1 + (a + q) ≤ 1 + u * (s.left + s.left) + q = omega (arith, wide) in
    let all : width_of s * (1 + (a + q)) ≤ width_of s * (1 + u * (s.left + s.left) + q) = mul-le-mul_left (width_of s) each in
    let sum : width_of s * (1 + (a + q)) ≡ width_of s * 1 + width_of s * (a + q) = both 1 (a + q) (width_of s) in
    let mine : n * (a + q) ≤ width_of s * (a + q) = mul-le-mul_right (a + q) (omega (arith, fewer, few)) in
    omega (arith, all, sum, mine, few)

-- the runs on open numbers
pub drop_within : (s : Settings) (f : ℕ) (rules : List Rule) → ((i : ℕ) (e : Rule) → slice_get rules i ≡ Some e → (length e.opens ≤ width_of s) × (length e.left ≤ s.left))
    → sum_by (λ (e : Rule). length e.opens * (f * (length e.left + length e.left))) rules ≤ drop_cost s (length rules) f
drop_within s f [] each = omega arith
drop_within s f (e ∷ rules) each =
    let here = each 0 e refl in
    let rest = drop_within s f rules (λ i z at. each (suc i) z at) in
    let c = sum_by-cons (λ (z : Rule). length z.opens * (f * (length z.left + length z.left))) e rules in
    let a : f * (length e.left + length e.left) ≤ f * (s.left + s.left) = (let short = here.1 in mul-le-mul_left f (omega (arith, short))) in
    let b : length e.opens * (f * (length e.left + length e.left)) ≤ length e.opens * (f * (s.left + s.left)) = mul-le-mul_left (length e.opens) a in
    let d : length e.opens * (f * (s.left + s.left)) ≤ width_of s * (f * (s.left + s.left)) = mul-le-mul_right (f * (s.left + s.left)) here.0 in
    let next : suc (length rules) * (width_of s * (f * (s.left + s.left))) ≡ width_of s * (f * (s.left + s.left)) + length rules * (width_of s * (f * (s.left + s.left))) = grind arith in
    omega (arith, rest, c, b, d, next)

-- one more window
pub learn_more : (s : Settings) (before after start i w u v : ℕ) → before ≤ start + (i * search_cost s u + drop_cost s w (u - 64)) → after ≤ before + search_cost s v + drop_cost s (i + 1) (v - u) → 64 ≤ u → u ≤ v → i + 1 ≤ w
    → after ≤ start + ((i + 1) * search_cost s v + drop_cost s w (v - 64))
learn_more s before after start i w u v h k some more within =
    let x : ℕ = width_of s in
    let l : ℕ = s.left + s.left in
    let a : u * l ≤ v * l = mul-le-mul_right l more in
    let b : 1 + u * l + (s.budget + 1) * 200001 ≤ 1 + v * l + (s.budget + 1) * 200001 = omega (arith, a) in
    let c : search_cost s u ≤ search_cost s v = mul-le-mul_left x b in
    let d : i * search_cost s u ≤ i * search_cost s v = mul-le-mul_left i c in
    let e : (i + 1) * search_cost s v ≡ i * search_cost s v + search_cost s v = grind arith in
    let f : drop_cost s (i + 1) (v - u) ≤ drop_cost s w (v - u) = mul-le-mul_right (x * ((v - u) * l)) within in
    let sum : v - 64 ≡ (u - 64) + (v - u) = omega (arith, some, more) in
    let g : drop_cost s w ((u - 64) + (v - u)) ≡ drop_cost s w (u - 64) + drop_cost s w (v - u) = drop_both x l w (u - 64) (v - u) in
    let j : drop_cost s w (v - 64) ≡ drop_cost s w (u - 64) + drop_cost s w (v - u) = subst (λ n. drop_cost s w n ≡ drop_cost s w (u - 64) + drop_cost s w (v - u)) (sym sum) g in
    omega (arith, h, k, d, e, f, j)

-- all windows: open numbers are never run on the first 64 states, which makes up for the steps of the outcomes
pub learn_all : (s : Settings) (after start w u : ℕ) → 1 ≤ s.left → 64 ≤ u → after ≤ start + (w * search_cost s u + drop_cost s w (u - 64)) → after ≤ start + learn_cost s w u
learn_all s after start w u some many h =
    let x : ℕ = width_of s in
    let l : ℕ = s.left + s.left in
    let r : ℕ = (s.budget + 1) * 200001 in
    let one : 1 ≤ 64 * l = omega (arith, some) in
    let parts : (u - 64) * l + 64 * l ≡ u * l = (let m : u - 64 + 64 ≡ u = omega (arith, many) in sym (share (u - 64) 64 l) ∙ ap (λ n. n * l) m) in
    let a : 1 + (u - 64) * l ≤ u * l = omega (arith, one, parts) in
    let b : w * (x * (1 + (u - 64) * l)) ≤ w * (x * (u * l)) = mul-le-mul_left w (mul-le-mul_left x a) in
    let c : w * (x * (1 + (u - 64) * l)) ≡ w * (x * 1) + w * (x * ((u - 64) * l)) = ap (λ n. w * n) (both 1 ((u - 64) * l) x) ∙ both (x * 1) (x * ((u - 64) * l)) w in
    let d : x * (1 + u * l + r) ≡ x * (1 + u * l) + x * r = both (1 + u * l) r x in
    let e : w * (x * (1 + u * l + r)) ≡ w * (x * (1 + u * l)) + w * (x * r) = ap (λ n. w * n) d ∙ both (x * (1 + u * l)) (x * r) w in
    let f : w * (x * (1 + u * l)) ≡ w * (x * 1) + w * (x * (u * l)) = ap (λ n. w * n) (both 1 (u * l) x) ∙ both (x * 1) (x * (u * l)) w in
    let g : u * l ≡ 2 * (u * s.left) = twice u s.left in
    let j : x * (u * l) ≡ 2 * (x * (u * s.left)) = ap (λ n. x * n) g ∙ twist x (u * s.left) in
    let k : w * (x * (u * l)) ≡ 2 * (w * (x * (u * s.left))) = ap (λ n. w * n) j ∙ twist w (x * (u * s.left)) in
    omega (arith, h, b, c, e, f, k)
