-- One more window in terms of the code: the learner's invariant with the text's length and the kept tables, and the steps.
use Rattle.std.proofs.Common.{◌≡◌, ℕ, zero, suc, ◌+◌, ◌-◌, ◌*◌, ◌<◌, ◌≤◌, true, not, List, [], ◌∷◌, ◌++◌, Option, Some, None, All, filter, length, map, slice_get, drop, refl, sym, ◌∙◌, ap, subst, arith, length-append, length-drop, inl, inr}
use Rattle.std.proofs.Math.Seq.{drop-append_seam}
use Rattle.std.proofs.lemmas.List.{length-map, map_push}
use Rattle.std.proofs.lemmas.List.Elements.{All-nil, All-cons, All-append}
use Rattle.thumb_instr.specs.declared.instr.Instr.{Instr}
use Rattle.thumb_model.specs.Effect.{AreOver}
use Rattle.window_exec.specs.declared.state.WState.{WState}
use Rattle.window_exec.specs.State.{seen, Seen}
use Rattle.rule_table.specs.declared.table.Entry.{Entry}
use Rattle.rule_table.specs.Views.{rule_of}
use Rattle.rule_table.specs.Table.{Opened, Rule, IsState}
use Rattle.rule_table.specs.Text.{rule_items}
use Rattle.table_audit.specs.Shorter.{named_count, alphabet_registers, below_at}
use Rattle.table_audit.specs.Acceptance.{width_of}
use Rattle.table_audit.proofs.Fitting.{are_over, ordered_of}
use Rattle.table_learn.specs.Learnt.{Settings, Window, learnt_from, text_length}
use Rattle.table_learn.specs.Given.{IsWindow}
use Rattle.table_learn.specs.Fitness.{IsFit, tells_number, stays_open, without_told}
use Rattle.table_learn.specs.Searching.{width_at, AreCandidates, IsGrown, EarnedFrom, query_cost}
use Rattle.table_learn.specs.Lengths.{lines_length, rules_length}
use Rattle.table_learn.specs.Progress.{Progress, HasLearnt, table_with, states_in, rules_in, search_cost, drop_cost}
use Rattle.table_learn.specs.Dropping.{IsSided, runs_on}
use Rattle.fingerprints.specs.declared.tables.Tables.{Tables}
use Rattle.fingerprints.specs.Outcomes.{Extent}
use Rattle.fingerprints.specs.Tables.{AreTables, IsFor}
use Rattle.seq_enum.specs.Alphabet.{alphabet}
use Rattle.table_learn.specs.Keeping.{AreKept, IsOfFirst}
use Rattle.table_learn.specs.declared.learning.Learner.{Learner}
use Rattle.table_learn.proofs.Fit.{no_longer}
use Rattle.table_learn.proofs.Below.{width_within}
use Rattle.table_learn.proofs.Gains.{gain, low_name}
use Rattle.table_learn.proofs.TextLengths.{text_more}
use Rattle.table_learn.proofs.Costs.{few_opens, search_within, drop_within}
use Rattle.table_learn.proofs.Registers.{more_registers, few_registers}
use Rattle.table_learn.proofs.Steps.{push_cases}
use Rattle.common_lemmas.proofs.Lists.{get_front}
use Rattle.seq_enum.proofs.Weighing.{All-from_slice_get}
use Rattle.rule_model.proofs.Table.{over_wider}

-- ---- nothing found drops nothing ----

all_stay : (s : Settings) (e : Rule) (opens : List Opened) → filter (stays_open s [] e) opens ≡ opens
all_stay s e [] = refl
all_stay s e (o ∷ opens) = rw (stays (below_at s e.left e.right o.number)) (ap (λ (os : List Opened). o ∷ os) (all_stay s e opens))
  where
    stays : (seq : Option (List Instr)) → not (tells_number [] e seq) ≡ true
    stays None = refl
    stays (Some seq) = refl

pub nothing_drops : (s : Settings) (rules : List Rule) → map (without_told s []) rules ≡ rules
nothing_drops s [] = refl
nothing_drops s (e ∷ rules) =
    let one : without_told s [] e ≡ e = ap (λ (os : List Opened). record { left = e.left; right = e.right; mask = e.mask; proof = e.proof; opens = os }) (all_stay s e e.opens) in
    let rest = nothing_drops s rules in
    cc

-- ---- one more window ----

pub window_learnt : (s : Settings) (windows : List Window) (w : Window) (old new found : List Seen) (rules later : List Rule) (e : Rule) (bytes lines whole freed : ℕ) → Progress s windows old rules → bytes ≡ text_length (table_with s old rules) → IsGrown old new → EarnedFrom s (length old) new w
    → learnt_from e ≡ w → IsFit s new old e → found ≡ drop (length old) new → later ≡ map (without_told s found) (rules ++ e ∷ []) → rules_length later + freed ≡ rules_length (rules ++ e ∷ []) → lines ≡ lines_length (rule_items e) + (length new - length old) * 44 → whole ≡ bytes + lines
    → Progress s (windows ++ w ∷ []) new later × (whole ≡ text_length (table_with s new later) + freed)
window_learnt s windows w old new found rules later e bytes lines whole freed g b grown earned same fit f l less n h =
    let more : List Seen = grown.more in
    let is_more : found ≡ more = f ∙ ap (λ ys. drop (length old) ys) grown.grown ∙ drop-append_seam old more in
    let one : Progress s (windows ++ w ∷ []) (old ++ more) (map (without_told s more) (rules ++ e ∷ [])) =
    gain s windows w old more rules e g grown.valid (subst (λ ys. EarnedFrom s (length old) ys w) grown.grown earned) same (subst (λ ys. IsFit s ys old e) grown.grown fit) in
    let kept : later ≡ map (without_told s more) (rules ++ e ∷ []) = l ∙ ap (λ ys. map (without_told s ys) (rules ++ e ∷ [])) is_more in
    let progress : Progress s (windows ++ w ∷ []) new later = subst (λ ys. Progress s (windows ++ w ∷ []) ys later) (sym grown.grown) (subst (λ rs. Progress s (windows ++ w ∷ []) (old ++ more) rs) (sym kept) one) in
    let text : text_length (table_with s (old ++ more) later) + freed ≡ text_length (table_with s old rules) + (lines_length (rule_items e) + 44 * length more) = text_more s old more rules later e freed g.valid (All-append IsState old more g.valid grown.valid) less in
    let count : length new ≡ length old + length more = ap length grown.grown ∙ length-append old more in
    let there : text_length (table_with s new later) ≡ text_length (table_with s (old ++ more) later) = ap (λ ys. text_length (table_with s ys later)) grown.grown in
    let minus : length new - length old ≡ length more = omega (arith, count) in
    let times : (length new - length old) * 44 ≡ 44 * length more = ap (λ j. j * 44) minus ∙ (let z : length more * 44 ≡ 44 * length more = omega arith in z) in
    (progress, omega (arith, b, n, h, text, there, times))

-- ---- what the entries are ----

pub side_over : (s : Settings) (w : Window) → IsWindow s w → (alphabet_registers s w.seq ≤ 4) × AreOver (alphabet_registers s w.seq) w.seq × AreOver 4 w.seq
side_over s w i =
    let o = ordered_of w.seq i.canonical in
    let few : named_count w.seq ≤ 4 = o.few in
    let over : AreOver (named_count w.seq) w.seq = are_over (named_count w.seq) s.pool w.seq (omega (arith, few)) i.over in
    let more = more_registers s w.seq few in
    (few_registers s w.seq, over_wider (named_count w.seq) (alphabet_registers s w.seq) w.seq more over, over_wider (named_count w.seq) 4 w.seq few over)

sided : (s : Settings) (tellers silent : List Seen) (e : Rule) → IsFit s tellers silent e → IsSided e
sided s tellers silent e f = record { canonical = f.window.canonical; over = (side_over s (learnt_from e) f.window).2; no_longer = no_longer s e f.keeps }

pub all_sided : (s : Settings) (windows : List Window) (old new : List Seen) (rules : List Rule) (e : Rule) → Progress s windows old rules → IsFit s new old e → All IsSided (rules ++ e ∷ [])
all_sided s windows old new rules e g fit = All-append IsSided rules (e ∷ []) (All-from_slice_get IsSided rules (λ i z at. sided s old old z (g.fits i z at))) (All-cons IsSided e [] (sided s new old e fit) (All-nil IsSided))

-- an entry has no more open numbers, and its left side no more instructions, than the settings allow
pub few_each : (s : Settings) (tellers silent : List Seen) (e : Rule) → IsFit s tellers silent e → (length e.opens ≤ width_of s) × (length e.left ≤ s.left)
few_each s tellers silent e f =
    let opens : 0 + length e.opens ≤ width_of s = few_opens 0 (width_of s) e.opens (omega arith) f.ascending (λ i o at. low_name s tellers silent e i o f at) in
    (omega (arith, opens), f.window.short)

map-drop : {X Y : Type 0} (f : X → Y) (n : ℕ) (xs : List X) → map f (drop n xs) ≡ drop n (map f xs)
map-drop f zero xs = refl
map-drop f (suc n) [] = refl
map-drop f (suc n) (x ∷ xs) = map-drop f n xs

-- the learner after one more window
pub after_window : (s : Settings) (windows : List Window) (w : Window) (l : Learner) (states found : List WState) (entries later : List Entry) (entry : Entry) (lines whole freed : ℕ) → HasLearnt s windows l → IsGrown (states_in l) (map seen states) → EarnedFrom s (length l.states.items) (map seen states) w
    → learnt_from (rule_of entry) ≡ w → IsFit s (map seen states) (states_in l) (rule_of entry) → found ≡ drop (length l.states.items) states → entries ≡ l.entries.items ++ entry ∷ [] → map rule_of later ≡ map (without_told s (map seen found)) (map rule_of entries)
    → rules_length (map rule_of later) + freed ≡ rules_length (map rule_of entries) → lines ≡ lines_length (rule_items (rule_of entry)) + length found * 44 → whole ≡ l.bytes + lines
    → Progress s (windows ++ w ∷ []) (map seen states) (map rule_of later) × (whole ≡ text_length (table_with s (map seen states) (map rule_of later)) + freed)
after_window s windows w l states found entries later entry lines whole freed h grown earned same fit f e k less n total =
    let count : length (states_in l) ≡ length l.states.items = length-map l.states.items seen in
    let many : length (map seen states) ≡ length states = length-map states seen in
    let seen_found : map seen found ≡ drop (length (states_in l)) (map seen states) = ap (λ (ss : List WState). map seen ss) f ∙ map-drop seen (length l.states.items) states ∙ ap (λ j. drop j (map seen states)) (sym count) in
    let rules : map rule_of entries ≡ rules_in l ++ rule_of entry ∷ [] = ap (map rule_of) e ∙ map_push rule_of l.entries.items entry in
    let size : length found ≡ length (map seen states) - length (states_in l) = ap length f ∙ length-drop (length l.states.items) states ∙ (let z : length states - length l.states.items ≡ length (map seen states) - length (states_in l) = omega (arith, count, many) in z) in
    let sum : lines ≡ lines_length (rule_items (rule_of entry)) + (length (map seen states) - length (states_in l)) * 44 = n ∙ ap (λ j. lines_length (rule_items (rule_of entry)) + j * 44) size in
    window_learnt s windows w (states_in l) (map seen states) (map seen found) (rules_in l) (map rule_of later) (rule_of entry) l.bytes lines whole freed h.progress h.bytes grown
    (subst (λ j. EarnedFrom s j (map seen states) w) (sym count) earned) same fit seen_found
    (k ∙ ap (map (without_told s (map seen found))) rules)
    (less ∙ ap (λ (rs : List Rule). rules_length rs) rules) sum total

pub grown_length : (xs ys : List WState) → IsGrown (map seen xs) (map seen ys) → length xs ≤ length ys
grown_length xs ys g =
    let a : length (map seen xs) ≡ length xs = length-map xs seen in
    let b : length (map seen ys) ≡ length ys = length-map ys seen in
    let c : length (map seen ys) ≡ length (map seen xs) + length g.more = ap length g.grown ∙ length-append (map seen xs) g.more in
    omega (arith, a, b, c)

-- the kept tables remain valid when states are appended
pub kept_later : (pool : List ℕ) (old new : List Seen) (t : Tables) → IsGrown old new → 0 < length old → AreKept pool old t → AreKept pool new t
kept_later pool old new t g some kept start at = kept start (sym (get_front old g.more 0 some) ∙ ap (λ ss. slice_get ss 0) (sym g.grown) ∙ at)

-- the alphabet of a kept table
pub table_alphabet : (k : ℕ) (pool : List ℕ) (states : List WState) (e : Extent) → 0 < length states → IsOfFirst k pool (map seen states) e → e.alphabet ≡ alphabet k pool
table_alphabet k pool [] e some is = absurd (omega (arith, some))
table_alphabet k pool (s ∷ ss) e some is = (is s refl).alphabet

-- a table that was taken out of them is put back
pub put_back : (k : ℕ) (pool : List ℕ) (states : List Seen) (e : Extent) (old new : Tables) → AreKept pool states old → IsOfFirst k pool states e → ((p : List ℕ) (start : WState) → AreTables p start old → IsFor e.registers p start e → AreTables p start new) → AreKept pool states new
put_back k pool states e old new kept is put start at = let here = is start at in put pool start (kept start at) (subst (λ j. IsFor j pool start e) (sym here.registers) here)

-- the steps of one more window
pub window_cost : (s : Settings) (windows : List Window) (w : Window) (l : Learner) (states found : List WState) (entries later : List Entry) (entry : Entry) (candidates : List ℕ) (before first middle after : ℕ) → HasLearnt s windows l → IsWindow s w → AreCandidates s (states_in l) w candidates → IsFit s (map seen states) (states_in l) (rule_of entry)
    → entries ≡ l.entries.items ++ entry ∷ [] → map rule_of later ≡ map (without_told s (map seen found)) (map rule_of entries) → length found ≡ length states - length l.states.items
    → first ≤ before + width_at s w → middle ≤ first + length candidates * query_cost s.budget (length states) (length w.seq) → length l.states.items ≤ length states → after ≤ middle + runs_on (length found) (map rule_of entries)
    → after ≤ before + search_cost s (length states) + drop_cost s (length later) (length states - length l.states.items)
window_cost s windows w l states found entries later entry candidates before first middle after h window are fit e k size table m more n =
    let rules : map rule_of entries ≡ rules_in l ++ rule_of entry ∷ [] = ap (map rule_of) e ∙ map_push rule_of l.entries.items entry in
    let searched : width_at s w + length candidates * query_cost s.budget (length states) (length w.seq) ≤ search_cost s (length states) = search_within s (length candidates) (width_at s w) (length states) (length w.seq) are.few (width_within s w window) window.short in
    let dropped : runs_on (length found) (rules_in l ++ rule_of entry ∷ []) ≤ drop_cost s (length (rules_in l ++ rule_of entry ∷ [])) (length found) = drop_within s (length found) (rules_in l ++ rule_of entry ∷ []) (λ i z at. elim (push_cases (rules_in l) (rule_of entry) i z at) [
      | inl q ↦ few_each s (states_in l) (states_in l) z (h.progress.fits i z q)
      | inr q ↦ subst (λ y. (length y.opens ≤ width_of s) × (length y.left ≤ s.left)) q.1 (few_each s (map seen states) (states_in l) (rule_of entry) fit)
    ]) in
    let runs : runs_on (length found) (map rule_of entries) ≡ runs_on (length found) (rules_in l ++ rule_of entry ∷ []) = ap (λ (rs : List Rule). runs_on (length found) rs) rules in
    let many : length (map rule_of later) ≡ length (rules_in l ++ rule_of entry ∷ []) = ap (λ (rs : List Rule). length rs) k ∙ length-map (map rule_of entries) (without_told s (map seen found)) ∙ ap (λ (rs : List Rule). length rs) rules in
    let mine : length (map rule_of later) ≡ length later = length-map later rule_of in
    let cost : drop_cost s (length (rules_in l ++ rule_of entry ∷ [])) (length found) ≡ drop_cost s (length later) (length states - length l.states.items) = ap (λ j. drop_cost s j (length found)) (sym many ∙ mine) ∙ ap (λ j. drop_cost s (length later) j) size in
    omega (arith, table, m, n, searched, dropped, runs, cost)
