-- The loops of `dropping`: the open numbers and entries of the code after some iterations, as filters of those of the definitions.
use Rattle.std.proofs.Common.{◌≡◌, ℕ, ◌+◌, Bool, true, false, List, [], ◌∷◌, ◌++◌, cond, filter, length, map, refl, sym, ◌∙◌, ap, arith, append-nil, suc, ◌==◌, ◌*◌, eqb-true, zero-add}
use Rattle.std.proofs.lemmas.List.{map_push, length-map}
use Rattle.std.proofs.lemmas.List.Elements.{filter-append}
use Rattle.std.specs.Prelude.{sum_by}
use Rattle.std.proofs.lemmas.List.Sums.{sum_by-append}
use Rattle.window_exec.specs.State.{Seen}
use Rattle.rule_table.specs.declared.table.Entry.{Entry}
use Rattle.rule_table.specs.declared.table.Open as code
use Rattle.rule_table.specs.Table.{Opened, Rule}
use Rattle.rule_table.specs.Views.{opened_of, rule_of}
use Rattle.rule_table.specs.Text.{open_items, rule_items}
use Rattle.table_learn.specs.Lengths.{lines_length, opens_length, rules_length}
use Rattle.table_learn.specs.Learnt.{Settings}
use Rattle.table_learn.specs.Fitness.{without_told}
use Rattle.table_learn.specs.Dropping.{Dropped, runs_on}
use Rattle.table_learn.proofs.TextLengths.{opens_push, rules_push, entry_lines}

pub name_dropped : (p : Opened → Bool) (xs : List code.Open) (x : code.Open) (kept : List Opened) → p (opened_of x) ≡ false → kept ≡ filter p (map opened_of xs) → kept ≡ filter p (map opened_of (xs ++ x ∷ []))
name_dropped p xs x kept f k =
    let e : filter p (map opened_of (xs ++ x ∷ [])) ≡ filter p (map opened_of xs) ++ filter p (opened_of x ∷ []) = ap (filter p) (map_push opened_of xs x) ∙ filter-append p (map opened_of xs) (opened_of x ∷ []) in
    let one : filter p (opened_of x ∷ []) ≡ [] = ap (λ b. cond b (opened_of x ∷ []) []) f in
    k ∙ sym (e ∙ ap (λ ys. filter p (map opened_of xs) ++ ys) one ∙ append-nil _)

pub name_kept : (p : Opened → Bool) (xs kept new : List code.Open) (x : code.Open) → p (opened_of x) ≡ true → map opened_of kept ≡ filter p (map opened_of xs) → new ≡ kept ++ x ∷ [] → map opened_of new ≡ filter p (map opened_of (xs ++ x ∷ []))
name_kept p xs kept new x f k n =
    let e : filter p (map opened_of (xs ++ x ∷ [])) ≡ filter p (map opened_of xs) ++ filter p (opened_of x ∷ []) = ap (filter p) (map_push opened_of xs x) ∙ filter-append p (map opened_of xs) (opened_of x ∷ []) in
    let one : filter p (opened_of x ∷ []) ≡ opened_of x ∷ [] = ap (λ b. cond b (opened_of x ∷ []) []) f in
    ap (map opened_of) n ∙ map_push opened_of kept x ∙ ap (λ ys. ys ++ opened_of x ∷ []) k ∙ sym (e ∙ ap (λ ys. filter p (map opened_of xs) ++ ys) one)

pub names_longer : (xs : List code.Open) (x : code.Open) → opens_length (map opened_of (xs ++ x ∷ [])) ≡ opens_length (map opened_of xs) + lines_length (open_items (opened_of x))
names_longer xs x = ap (λ (os : List Opened). opens_length os) (map_push opened_of xs x) ∙ opens_push (map opened_of xs) (opened_of x)

pub new_longer : (kept new : List code.Open) (x : code.Open) → new ≡ kept ++ x ∷ [] → opens_length (map opened_of new) ≡ opens_length (map opened_of kept) + lines_length (open_items (opened_of x))
new_longer kept new x n = ap (λ (os : List code.Open). opens_length (map opened_of os)) n ∙ names_longer kept x

-- ---- entries ----

pub entry_kept : (s : Settings) (found : List Seen) (xs kept new : List Entry) (x y : Entry) (freed : ℕ) → Dropped s found (rule_of x) (rule_of y) freed → map rule_of kept ≡ map (without_told s found) (map rule_of xs) → new ≡ kept ++ y ∷ [] → map rule_of new ≡ map (without_told s found) (map rule_of (xs ++ x ∷ []))
entry_kept s found xs kept new x y freed d k n =
    let a : map rule_of new ≡ map rule_of kept ++ rule_of y ∷ [] = ap (map rule_of) n ∙ map_push rule_of kept y in
    let b : map (without_told s found) (map rule_of (xs ++ x ∷ [])) ≡ map (without_told s found) (map rule_of xs) ++ without_told s found (rule_of x) ∷ [] =
    ap (map (without_told s found)) (map_push rule_of xs x) ∙ map_push (without_told s found) (map rule_of xs) (rule_of x) in
    a ∙ ap (λ ys. ys ++ rule_of y ∷ []) k ∙ ap (λ (r : Rule). map (without_told s found) (map rule_of xs) ++ r ∷ []) d.rest ∙ sym b

pub entries_longer : (xs : List Entry) (x : Entry) → rules_length (map rule_of (xs ++ x ∷ [])) ≡ rules_length (map rule_of xs) + lines_length (rule_items (rule_of x))
entries_longer xs x = ap (λ (rs : List Rule). rules_length rs) (map_push rule_of xs x) ∙ rules_push (map rule_of xs) (rule_of x)

pub entry_shorter : (s : Settings) (found : List Seen) (x y : Rule) (freed : ℕ) → Dropped s found x y freed → lines_length (rule_items y) + freed ≡ lines_length (rule_items x)
entry_shorter s found x y freed d =
    let w : Rule = without_told s found x in
    let a = entry_lines x in
    let b = entry_lines (without_told s found x) in
    let c : lines_length (rule_items y) ≡ lines_length (rule_items (without_told s found x)) = ap (λ (r : Rule). lines_length (rule_items r)) d.rest in
    let e : opens_length y.opens ≡ opens_length (without_told s found x).opens = ap (λ (r : Rule). opens_length r.opens) d.rest in
    let f = d.less in
    omega (arith, a, b, c, e, f)

pub freed_more : (s : Settings) (found : List Seen) (xs kept new : List Entry) (x y : Entry) (before less freed : ℕ) → Dropped s found (rule_of x) (rule_of y) less → rules_length (map rule_of kept) + before ≡ rules_length (map rule_of xs) → new ≡ kept ++ y ∷ [] → freed ≡ before + less
    → rules_length (map rule_of new) + freed ≡ rules_length (map rule_of (xs ++ x ∷ []))
freed_more s found xs kept new x y before less freed d h n f =
    let a : rules_length (map rule_of new) ≡ rules_length (map rule_of (kept ++ y ∷ [])) = ap (λ (es : List Entry). rules_length (map rule_of es)) n in
    let b = entries_longer kept y in
    let c = entries_longer xs x in
    let e = entry_shorter s found (rule_of x) (rule_of y) less d in
    omega (arith, a, b, c, e, h, f)

pub runs_more : (n : ℕ) (xs : List Entry) (x : Entry) → runs_on n (map rule_of (xs ++ x ∷ [])) ≡ runs_on n (map rule_of xs) + length x.opens.items * (n * (length x.left + length x.left))
runs_more n xs x =
    let f = λ (e : Rule). length e.opens * (n * (length e.left + length e.left)) in
    let size : length (map opened_of x.opens.items) ≡ length x.opens.items = length-map x.opens.items opened_of in
    let a : runs_on n (map rule_of (xs ++ x ∷ [])) ≡ sum_by f (map rule_of xs ++ rule_of x ∷ []) = ap (λ (rs : List Rule). sum_by f rs) (map_push rule_of xs x) in
    let b = sum_by-append f (map rule_of xs) (rule_of x ∷ []) in
    let c : sum_by f (rule_of x ∷ []) ≡ length (map opened_of x.opens.items) * (n * (length x.left + length x.left)) = zero-add _ in
    let d : length (map opened_of x.opens.items) * (n * (length x.left + length x.left)) ≡ length x.opens.items * (n * (length x.left + length x.left)) = ap (λ j. j * (n * (length x.left + length x.left))) size in
    omega (arith, a, b, c, d)

pub no_items : {X : Type 0} (xs : List X) → (length xs == 0) ≡ true → xs ≡ []
no_items [] h = refl
no_items (x ∷ xs) h = let e : suc (length xs) ≡ 0 = eqb-true (suc (length xs)) 0 h in absurd (omega (arith, e))
