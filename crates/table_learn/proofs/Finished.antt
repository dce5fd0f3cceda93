-- The loop over windows: its invariant, one more window, and the bounds at its end.
use Rattle.std.proofs.Common.{◌≡◌, ℕ, zero, suc, ◌+◌, ◌-◌, ◌*◌, ◌<◌, ◌≤◌, List, [], ◌∷◌, ◌++◌, length, map, get_or, take, refl, sym, ◌∙◌, ap, subst, arith}
use Rattle.std.proofs.Math.Nat.{mul-le-mul_right}
use Rattle.std.proofs.lemmas.List.{length-map, map_push, take_more, take_all, get_or-map, length-take}
use Rattle.thumb_instr.specs.declared.instr.Instr.{Instr}
use Rattle.thumb_instr.specs.declared.items.Mask.{Mask}
use Rattle.window_exec.specs.State.{seen}
use Rattle.rule_table.specs.Header.{IsHeader}
use Rattle.rule_table.specs.Table.{Table, IsTable}
use Rattle.rule_table.specs.Views.{rule_of}
use Rattle.table_audit.specs.Acceptance.{width_of}
use Rattle.table_learn.specs.declared.window.Window as code
use Rattle.table_learn.specs.declared.learning.Learner.{Learner}
use Rattle.ascii_scan.specs.Lines.{text_limit}
use Rattle.table_learn.specs.Learnt.{Settings, Window, Learnt, IsFull, learnt_from, text_length}
use Rattle.table_learn.specs.Given.{window_of, IsWindow, AreWindows}
use Rattle.table_learn.specs.Found.{window_in}
use Rattle.table_learn.specs.Failing.{learn_cost}
use Rattle.table_learn.specs.Progress.{HasLearnt, table_with, states_in, rules_in, search_cost, drop_cost}
use Rattle.table_learn.proofs.Gains.{learnt, valid}
use Rattle.table_learn.proofs.Costs.{learn_more, learn_all}

abbrev pub Pairs : Type 0
Pairs = List (List Instr × Mask)

pub window_at : (s : Settings) (ws : Pairs) (i : ℕ) (x : List Instr × Mask) → AreWindows s (map window_of ws) → i < length ws → x ≡ get_or ws i x → IsWindow s (window_of x)
window_at s ws i x all low is =
    let within : i < length (map window_of ws) = (let l = length-map ws window_of in omega (arith, l, low)) in
    let there : get_or (map window_of ws) i (window_of x) ≡ window_of x = get_or-map window_of ws i x (window_of x) low ∙ ap window_of (sym is) in
    subst (IsWindow s) there (all i (window_of x) within)

pub same_window : (w : code.Window) (x : List Instr × Mask) → w.left ≡ x.0 → w.mask ≡ x.1 → window_in w ≡ window_of x
same_window w x l m = λ i. record { seq = l i; mask = (m i).items.bits }

take-map : (n : ℕ) (ws : Pairs) → map window_of (take n ws) ≡ take n (map window_of ws)
take-map zero ws = refl
take-map (suc n) [] = refl
take-map (suc n) (w ∷ ws) = ap (λ vs. window_of w ∷ vs) (take-map n ws)

-- one more window
pub learnt_next : (s t : Settings) (ws : Pairs) (i : ℕ) (x : List Instr × Mask) (w : code.Window) (l m : Learner) → t ≡ s → i < length ws → x ≡ get_or ws i x → window_in w ≡ window_of x → HasLearnt s (map window_of (take i ws)) l
    → ((windows : List Window) → HasLearnt t windows l → HasLearnt t (windows ++ window_in w ∷ []) m) → HasLearnt s (map window_of (take (i + 1) ws)) m
learnt_next s t ws i x w l m same low is e h next =
    let split : take (i + 1) ws ≡ take i ws ++ x ∷ [] = take_more ws i x low ∙ ap (λ y. take i ws ++ y ∷ []) (sym is) in
    let windows : map window_of (take (i + 1) ws) ≡ map window_of (take i ws) ++ window_in w ∷ [] = ap (λ (vs : Pairs). map window_of vs) split ∙ map_push window_of (take i ws) x ∙ ap (λ (v : Window). map window_of (take i ws) ++ v ∷ []) (sym e) in
    subst (λ vs. HasLearnt s vs m) (sym windows) (subst (λ u. HasLearnt u (map window_of (take i ws) ++ window_in w ∷ []) m) same (next (map window_of (take i ws)) (subst (λ u. HasLearnt u (map window_of (take i ws)) l) (sym same) h)))

pub entries_count : (s : Settings) (ws : Pairs) (n : ℕ) (m : Learner) → HasLearnt s (map window_of (take n ws)) m → n ≤ length ws → length m.entries.items ≡ n
entries_count s ws n m h low =
    let a : length (map learnt_from (rules_in m)) ≡ length (map window_of (take n ws)) = ap (λ (vs : List Window). length vs) h.progress.matched in
    let b = length-map (rules_in m) learnt_from in
    let c = length-map m.entries.items rule_of in
    let d = length-map (take n ws) window_of in
    let f = length-take n ws in
    let e : length (take n ws) ≡ n = omega (arith, f, low) in
    omega (arith, a, b, c, d, e)

pub states_count : (s : Settings) (windows : List Window) (l : Learner) → HasLearnt s windows l → 64 ≤ length l.states.items
states_count s windows l h = let a = length-map l.states.items seen in let b = h.progress.long in omega (arith, a, b)

pub cost_next : (s t : Settings) (ws : Pairs) (i : ℕ) (l m : Learner) (before after start : ℕ) → t ≡ s → i < length ws → HasLearnt s (map window_of (take i ws)) l → HasLearnt s (map window_of (take (i + 1) ws)) m → length l.states.items ≤ length m.states.items
    → before ≤ start + (i * search_cost s (length l.states.items) + drop_cost s (length ws) (length l.states.items - 64))
    → after ≤ before + search_cost t (length m.states.items) + drop_cost t (length m.entries.items) (length m.states.items - length l.states.items)
    → after ≤ start + ((i + 1) * search_cost s (length m.states.items) + drop_cost s (length ws) (length m.states.items - 64))
cost_next s t ws i l m before after start same low h k more b a =
    let n : length m.entries.items ≡ i + 1 = entries_count s ws (i + 1) m k (omega (arith, low)) in
    let mine : after ≤ before + search_cost s (length m.states.items) + drop_cost s (i + 1) (length m.states.items - length l.states.items) =
    subst (λ j. after ≤ before + search_cost s (length m.states.items) + drop_cost s j (length m.states.items - length l.states.items)) n
    (subst (λ u. after ≤ before + search_cost u (length m.states.items) + drop_cost u (length m.entries.items) (length m.states.items - length l.states.items)) same a) in
    learn_more s before after start i (length ws) (length l.states.items) (length m.states.items) b mine (states_count s (map window_of (take i ws)) l h) more (omega (arith, low))

-- ---- in the end ----

pub learnt_all : (s t : Settings) (ws : Pairs) (n : ℕ) (l : Learner) (table : Table) → t ≡ s → width_of s ≤ 5000000 → HasLearnt s (map window_of (take n ws)) l → table ≡ table_with t (states_in l) (rules_in l) → Learnt s (map window_of (take n ws)) table
learnt_all s t ws n l table same narrow h e =
    subst (Learnt s (map window_of (take n ws))) (sym (e ∙ ap (λ u. table_with u (states_in l) (rules_in l)) same)) (learnt s (map window_of (take n ws)) (states_in l) (rules_in l) h.progress narrow)

pub valid_all : (s t : Settings) (ws : Pairs) (n : ℕ) (l : Learner) (table : Table) → t ≡ s → IsHeader s → width_of s ≤ 5000000 → HasLearnt s (map window_of (take n ws)) l → table ≡ table_with t (states_in l) (rules_in l) → IsTable table
valid_all s t ws n l table same is narrow h e =
    subst IsTable (sym (e ∙ ap (λ u. table_with u (states_in l) (rules_in l)) same)) (valid s (map window_of (take n ws)) (states_in l) (rules_in l) is narrow h.progress)

pub is_full : (s t : Settings) (ws : Pairs) (n : ℕ) (l : Learner) (table : Table) → t ≡ s → IsHeader s → width_of s ≤ 5000000 → 1 ≤ n → n ≤ length ws → HasLearnt s (map window_of (take n ws)) l → table ≡ table_with t (states_in l) (rules_in l) → text_limit < l.bytes → IsFull s (map window_of ws) table l.bytes
is_full s t ws n l table same is narrow some low h e long = record {
  count = n;
  some = some;
  within = (let a = length-map ws window_of in omega (arith, a, low));
  learnt = subst (λ vs. Learnt s vs table) (take-map n ws) (learnt_all s t ws n l table same narrow h e);
  valid = valid_all s t ws n l table same is narrow h e;
  is_length = h.bytes ∙ ap (λ (u : Table). text_length u) (sym (e ∙ ap (λ u. table_with u (states_in l) (rules_in l)) same));
  long = long;
}

pub learnt_whole : (s t : Settings) (ws : Pairs) (n : ℕ) (l : Learner) (table : Table) → t ≡ s → width_of s ≤ 5000000 → length ws ≤ n → HasLearnt s (map window_of (take n ws)) l → table ≡ table_with t (states_in l) (rules_in l) → Learnt s (map window_of ws) table
learnt_whole s t ws n l table same narrow past h e = subst (λ (vs : Pairs). Learnt s (map window_of vs) table) (take_all n ws past) (learnt_all s t ws n l table same narrow h e)

pub fits_all : (s t : Settings) (ws : Pairs) (n : ℕ) (l : Learner) (table : Table) → t ≡ s → HasLearnt s (map window_of (take n ws)) l → table ≡ table_with t (states_in l) (rules_in l) → l.bytes ≤ text_limit → text_length table ≤ text_limit
fits_all s t ws n l table same h e low = subst (λ j. j ≤ text_limit) (h.bytes ∙ ap (λ (u : Table). text_length u) (sym (e ∙ ap (λ u. table_with u (states_in l) (rules_in l)) same))) low

-- the steps for the first n windows are no more than the bound for all
pub cost_all : (s t : Settings) (ws : Pairs) (n after start : ℕ) (l : Learner) (table : Table) → 1 ≤ s.left → HasLearnt s (map window_of (take n ws)) l → n ≤ length ws → table ≡ table_with t (states_in l) (rules_in l) → after ≤ start + (n * search_cost s (length l.states.items) + drop_cost s (length ws) (length l.states.items - 64)) → after ≤ start + learn_cost s (length ws) (length table.states)
cost_all s t ws n after start l table some learnt low e h =
    let size : length l.states.items ≡ length table.states = sym (ap (λ (u : Table). length u.states) e ∙ length-map l.states.items seen) in
    let most : n * search_cost s (length l.states.items) ≤ length ws * search_cost s (length l.states.items) = mul-le-mul_right (search_cost s (length l.states.items)) low in
    subst (λ j. after ≤ start + learn_cost s (length ws) j) size (learn_all s after start (length ws) (length l.states.items) some (states_count s (map window_of (take n ws)) l learnt) (omega (arith, h, most)))
