-- Which choice comes first: the lowest of a length, the longest of a place, and the least place.
use Rattle.std.proofs.Common.{◌≡◌, ℕ, zero, suc, ◌+◌, ◌-◌, ◌<◌, ◌≤◌, ◌==◌, Bool, true, false, List, [], ◌∷◌, length, take, drop, map, Option, Some, None, refl, sym, ap, ◌∙◌, subst, arith, ◌⊎◌, ◌↔◌, inl, inr, eq-eqb}
use Rattle.std.specs.Prelude.{slice_get, nat_lt}
use Rattle.std.specs.Int.{from_bool}
use Rattle.std.proofs.lemmas.Option.{slice_get_within}
use Rattle.std.proofs.lemmas.Bool.{cases_lt, eqb-true, ltb-true, lt-ltb}
use Rattle.thumb_instr.specs.declared.instr.Instr.{Instr}
use Rattle.thumb_instr.specs.Items.{has}
use Rattle.thumb_instr.specs.Window.{Low}
use Rattle.thumb_model.specs.Listing.{plain, Place, Label, ListingLine, places_of, labels_from, code_of}
use Rattle.rule_model.specs.Rules.{Rule, IsSoundRule, alone, rule_at}
use Rattle.rule_model.specs.Rewriting.{Setting, Replacement, used_rule, left_length, left_length_of}
use Rattle.rule_model.proofs.Alone.{alone_is}
use Rattle.thumb_model.specs.Replaced.{are_joined_from, IsWindow}
use Rattle.thumb_model.specs.Flow.{LiveAfter}
use Rattle.thumb_model.proofs.Lists.{length_map, take_all, take_short, length_drop}
use Rattle.rule_model.proofs.Table.{window_length, applies_sound}
use Rattle.rule_table.specs.declared.table.Entry.{Entry}
use Rattle.rule_table.specs.Views.{rule_of}
use Rattle.table_audit.specs.Soundness.{rewriting_rule}
use Rattle.window_runs.specs.Rows.{rows_from}
use Rattle.window_runs.specs.Runs.{run}
use Rattle.window_runs.proofs.Joined.{run_window, window_in_run}
use Rattle.window_rewrite.specs.declared.choice.Choice.{Choice}
use Rattle.window_rewrite.specs.TableRewriting.{setting_by}
use Rattle.table_audit.specs.Shorter.{IsCanonicalSide}
use Rattle.window_rewrite.specs.Rules.{rules_in, chains_of, left_forms, side_length, is_marked, AreFit, AreLed, first_with}
use Rattle.window_rewrite.specs.Fitting.{left_registers, NoneStands, Lightens, Stands, StandsThere}
use Rattle.window_rewrite.specs.Choices.{Awaits, choice_of, FitsIn, IsChoice, IsLowest, Meets, NoneAt, NoneOf, IsBest, NoneBefore, IsFirstChoice, of_length, longer}
use Rattle.window_rewrite.proofs.Applied.{made, rule_there, fits_some, back_lightens, meets, meets_less}
use Rattle.window_rewrite.proofs.Keys.{awaited, none_awaited}
use Rattle.window_rewrite.proofs.Alike.{led_to}
use Rattle.window_rewrite.proofs.RuleWindows.{in_window_of as straight_in_window}

-- ---- counts of rules ----

-- a match is counted where the left side is as long
pub counted : (n count before after : ℕ) → n ≡ count → after ≤ before + 1 → after ≤ before + from_bool (n == count)
counted n count before after e h = let one : from_bool (n == count) ≡ 1 = ap from_bool (eq-eqb _ _ e) in omega (arith, one)

pub taken_more : (c : ℕ) (rules : List Rule) (k n : ℕ) → k ≤ n → of_length c (take k rules) ≤ of_length c (take n rules)
unfolding of_length
taken_more c [] zero zero h = omega arith
taken_more c [] zero (suc n) h = omega arith
taken_more c [] (suc k) zero h = omega arith
taken_more c [] (suc k) (suc n) h = omega arith
taken_more c (r ∷ rs) zero zero h = omega arith
taken_more c (r ∷ rs) zero (suc n) h = omega arith
taken_more c (r ∷ rs) (suc k) zero h = absurd (omega arith)
taken_more c (r ∷ rs) (suc k) (suc n) h = let t = taken_more c rs k n (omega arith) in omega arith

pub taken_all : (c : ℕ) (rules : List Rule) (k : ℕ) → of_length c (take k rules) ≤ of_length c rules
unfolding of_length
taken_all c [] zero = omega arith
taken_all c [] (suc k) = omega arith
taken_all c (r ∷ rs) zero = omega arith
taken_all c (r ∷ rs) (suc k) = let t = taken_all c rs k in omega arith

pub taken_one : (c : ℕ) (rules : List Rule) (n : ℕ) (rule : Rule) → slice_get rules n ≡ Some rule → of_length c (take n rules) + from_bool (length rule.left == c) ≤ of_length c (take (suc n) rules)
unfolding of_length
taken_one c [] n rule e = absurd (cc)
taken_one c (r ∷ rs) zero rule e =
    let same : r ≡ rule = cc in
    let one : from_bool (length r.left == c) ≡ from_bool (length rule.left == c) = ap (λ (x : Rule). from_bool (length x.left == c)) same in
    omega (arith, one)
taken_one c (r ∷ rs) (suc n) rule e = let t = taken_one c rs n rule e in omega arith

longer_split : (m : ℕ) (rules : List Rule) → longer (suc m) rules + of_length (suc m) rules ≡ longer m rules
unfolding of_length longer
longer_split m [] = refl
longer_split m (r ∷ rs) =
    let t = longer_split m rs in
    let one : from_bool (nat_lt (suc m) (length r.left)) + from_bool (length r.left == suc m) ≡ from_bool (nat_lt m (length r.left)) = split (length r.left) in
    omega (arith, t, one)
  where
    of_true : (b : Bool) → b ≡ true → from_bool b ≡ 1
    of_true b e = ap from_bool e

    of_false : (b : Bool) → (b ≡ true → ⊥) → from_bool b ≡ 0
    of_false true h = absurd (h refl)
    of_false false h = refl

    split : (n : ℕ) → from_bool (nat_lt (suc m) n) + from_bool (n == suc m) ≡ from_bool (nat_lt m n)
    split n = elim (cases_lt (suc m) n) [
      | inl l ↦ (
          let a = of_true (nat_lt (suc m) n) (lt-ltb (suc m) n l) in
          let b = of_false (n == suc m) (λ e. let s = eqb-true n (suc m) e in omega (arith, s, l)) in
          let c = of_true (nat_lt m n) (lt-ltb m n (omega arith)) in
          omega (arith, a, b, c)
          )
      | inr g ↦ elim (cases_lt m n) [
        | inl k ↦ (
            let a = of_false (nat_lt (suc m) n) (λ e. let s = ltb-true (suc m) n e in omega (arith, s, g)) in
            let b = of_true (n == suc m) (eq-eqb n (suc m) (let e : n ≡ suc m = omega arith in e)) in
            let c = of_true (nat_lt m n) (lt-ltb m n k) in
            omega (arith, a, b, c)
            )
        | inr k ↦ (
            let a = of_false (nat_lt (suc m) n) (λ e. let s = ltb-true (suc m) n e in omega (arith, s, g)) in
            let b = of_false (n == suc m) (λ e. let s = eqb-true n (suc m) e in omega (arith, s, k)) in
            let c = of_false (nat_lt m n) (λ e. let s = ltb-true m n e in omega (arith, s, k)) in
            omega (arith, a, b, c)
            )
      ]
    ]

longer_all : (m : ℕ) (rules : List Rule) → longer m rules ≤ length rules
unfolding longer
longer_all m [] = omega arith
longer_all m (r ∷ rs) =
    let t = longer_all m rs in
    elim (nat_lt m (length r.left)) as (λ b. from_bool b + longer m rs ≤ suc (length rs)) [
      | true ↦ omega arith
      | false ↦ omega arith
    ]

-- ---- the lowest entry of a length ----

pub length_at : (rules : List Rule) (k : ℕ) (rule : Rule) → slice_get rules k ≡ Some rule → side_length rules k ≡ length rule.left
length_at rules k rule e = ap left_length_of e

-- a rule that fits is as long as that of its number
fit_length : (costs : Option (List ℕ)) (base : ℕ) (rules : List Rule) (o : Replacement) (lines : List ListingLine) → FitsIn (setting_by costs base (alone rules)) o lines → side_length rules o.entry ≡ left_length (setting_by costs base (alone rules)) o
fit_length costs base rules o lines a = ap left_length_of (rule_there costs base rules o a.rule a.is_rule) ∙ sym (ap left_length_of a.is_rule)

-- the rule of a choice at the place by a left side of the window's length stands in the window
pub record StandsIn (costs : Option (List ℕ)) (table : List (List Rule)) (window : List Instr) (o : Replacement) : Type 0 where
  pub rule : Rule
  pub at : rule_at table o.entry o.instance ≡ Some rule
  pub registers : List Low
  pub lightens : Lightens costs rule registers window

pub stands_in : (costs : Option (List ℕ)) (base longest : ℕ) (table : List (List Rule)) (lines : List ListingLine) (place : ℕ) (window : List Instr) (o : Replacement) → AreFit longest table → IsWindow lines place window
    → FitsIn (setting_by costs base table) o lines → o.place ≡ place → left_length (setting_by costs base table) o ≡ length window → StandsIn costs table window o
stands_in costs base longest table lines place window o fit there a at long =
    let here : IsWindow lines o.place window = subst (λ p. IsWindow lines p window) (sym at) there in
    let n : length a.rule.left ≡ length window = sym (ap left_length_of a.is_rule) ∙ long in
    record {
      rule = a.rule;
      at = a.is_rule;
      registers = left_registers a.rule o.registers;
      lightens = back_lightens costs base table lines o a.rule window a.is_rule (fit o.entry o.instance a.rule a.is_rule).sound n here a;
    }

-- the invariant of the search through the rules that may stand in a window: those below k don't satisfy `Meets asked`
pub record IsSearch (asked : Bool) (costs : Option (List ℕ)) (base : ℕ) (rules : List Rule) (kept : List Bool) (lines : List ListingLine) (place : ℕ) (window : List Instr) (at : Option ℕ) (start steps : ℕ) : Type 0 where
  pub longest : ℕ
  pub fit : AreFit longest (alone rules)
  pub led : AreLed costs rules kept (length rules)
  pub k : ℕ
  pub awaits : Awaits costs rules kept window k at
  pub none : (o : Replacement) → Meets asked (setting_by costs base (alone rules)) o lines → o.place ≡ place → left_length (setting_by costs base (alone rules)) o ≡ length window → o.entry < k → ⊥
  pub cost : steps ≤ start + of_length (length window) (take k rules)

pub search_begins : (asked : Bool) (costs : Option (List ℕ)) (base longest : ℕ) (rules : List Rule) (kept : List Bool) (lines : List ListingLine) (place : ℕ) (window : List Instr) (at : Option ℕ) (start : ℕ) → AreFit longest (alone rules) → AreLed costs rules kept (length rules)
    → Awaits costs rules kept window 0 at → IsSearch asked costs base rules kept lines place window at start start
search_begins asked costs base longest rules kept lines place window at start fit led awaits = record { longest = longest; fit = fit; led = led; k = 0; awaits = awaits; none = λ o a e l h. absurd (omega arith); cost = omega arith }

-- no rule below the next one satisfies it: else one that is kept would
none_before : (asked : Bool) (costs : Option (List ℕ)) (base : ℕ) (rules : List Rule) (kept : List Bool) (lines : List ListingLine) (place : ℕ) (window : List Instr) (n : ℕ) (at : Option ℕ) (start steps : ℕ) → IsWindow lines place window
    → IsSearch asked costs base rules kept lines place window at start steps → at ≡ Some n
    → (o : Replacement) → Meets asked (setting_by costs base (alone rules)) o lines → o.place ≡ place → left_length (setting_by costs base (alone rules)) o ≡ length window → o.entry < n → ⊥
none_before asked costs base rules kept lines place window n at start steps there s is o a e l h =
    let d = led_to asked costs base s.longest rules kept lines o s.fit s.led a in
    let no_later = d.no_later in
    elim (cases_lt d.leader s.k) [
      | inl b ↦ s.none (made o.place d.leader d.registers) d.meets e (d.as_long ∙ l) b
      | inr b ↦ (
          let next = awaited costs rules kept window s.k n at s.awaits is in
          let u = made o.place d.leader d.registers in
          let i = stands_in costs base s.longest (alone rules) lines place window u s.fit there d.meets.0 e (d.as_long ∙ l) in
          next.none d.leader i.rule i.registers b (omega arith) (rule_there costs base rules u i.rule i.at) d.is_kept i.lightens
          )
    ]

pub search_next : (was asked : Bool) (costs : Option (List ℕ)) (base : ℕ) (rules : List Rule) (kept : List Bool) (lines : List ListingLine) (place : ℕ) (window : List Instr) (n : ℕ) (at next : Option ℕ) (start steps after : ℕ) → IsWindow lines place window
    → IsSearch was costs base rules kept lines place window at start steps → at ≡ Some n → (was ≡ true → asked ≡ true)
    → (side_length rules n ≡ length window → (registers : List Low) → Meets asked (setting_by costs base (alone rules)) (made place n registers) lines → ⊥)
    → ((chain : ℕ) → slice_get (chains_of (left_forms rules)) n ≡ Some chain → is_marked kept n ≡ true → next ≡ first_with kept chain (n + 1) (drop (n + 1) (chains_of (left_forms rules)))) → after ≤ steps + from_bool (side_length rules n == length window)
    → IsSearch asked costs base rules kept lines place window next start after
search_next was asked costs base rules kept lines place window n at next start steps after there s is stays none more cost =
    let i = awaited costs rules kept window s.k n at s.awaits is in
    let one : of_length (length window) (take n rules) + from_bool (length i.rule.left == length window) ≤ of_length (length window) (take (suc n) rules) = taken_one (length window) rules n i.rule i.at in
    let before : of_length (length window) (take s.k rules) ≤ of_length (length window) (take n rules) = taken_more (length window) rules s.k n i.from in
    let tried : from_bool (side_length rules n == length window) ≡ from_bool (length i.rule.left == length window) = ap (λ m. from_bool (m == length window)) (length_at rules n i.rule i.at) in
    let here = s.cost in
    record {
      longest = s.longest;
      fit = s.fit;
      led = s.led;
      k = n + 1;
      awaits = i.more next (more i.chain i.is_in i.is_kept);
      none = λ o a e l h.
          let d = led_to asked costs base s.longest rules kept lines o s.fit s.led a in
          let no_later = d.no_later in
          elim (cases_lt d.leader n) [
            | inl b ↦ none_before was costs base rules kept lines place window n at start steps there s is (made o.place d.leader d.registers) (meets_less was asked (setting_by costs base (alone rules)) (made o.place d.leader d.registers) lines stays d.meets) e (d.as_long ∙ l) b
            | inr b ↦ (
                let same : d.leader ≡ n = omega arith in
                none (ap (side_length rules) (sym same) ∙ (fit_length costs base rules (made o.place d.leader d.registers) lines d.meets.0 ∙ (d.as_long ∙ l))) d.registers (subst (λ m. Meets asked (setting_by costs base (alone rules)) (made place m d.registers) lines) same (subst (λ p. Meets asked (setting_by costs base (alone rules)) (made p d.leader d.registers) lines) e d.meets))
                )
          ];
      cost = subst (λ m. after ≤ start + of_length (length window) (take m rules)) (let e : suc n ≡ n + 1 = omega arith in e) (omega (arith, one, before, tried, here, cost));
    }

-- how far the search is from its end
abbrev pub left_of : List Rule → Option ℕ → ℕ
left_of rules None = 0
left_of rules (Some n) = length rules - n

pub search_smaller : (asked : Bool) (costs : Option (List ℕ)) (base : ℕ) (rules : List Rule) (kept : List Bool) (lines : List ListingLine) (place : ℕ) (window : List Instr) (n : ℕ) (at next : Option ℕ) (start steps : ℕ)
    → IsSearch asked costs base rules kept lines place window at start steps → at ≡ Some n → (k : ℕ) → n + 1 ≤ k → Awaits costs rules kept window k next → left_of rules next < left_of rules at
search_smaller asked costs base rules kept lines place window n at next start steps s is k h a =
    let i = awaited costs rules kept window s.k n at s.awaits is in
    let inside : n < length rules = slice_get_within rules n i.rule i.at in
    subst (λ o. left_of rules next < left_of rules o) (sym is) (by next refl inside)
  where
    by : (o : Option ℕ) → next ≡ o → n < length rules → left_of rules o < length rules - n
    by None e g = omega arith
    by (Some m) e g =
        let j = awaited costs rules kept window k m next a e in
        let from = j.from in
        let inside : m < length rules = slice_get_within rules m j.rule j.at in
        omega arith

-- an entry has one instance
alone_first : (costs : Option (List ℕ)) (base : ℕ) (rules : List Rule) (o : Replacement) (rule : Rule) → used_rule (setting_by costs base (alone rules)) o ≡ Some rule → o.instance ≡ 0
alone_first costs base rules o rule at = (alone_is rules o.entry o.instance rule at).1

pub search_found : (asked : Bool) (costs : Option (List ℕ)) (base : ℕ) (rules : List Rule) (kept : List Bool) (lines : List ListingLine) (place : ℕ) (window : List Instr) (n : ℕ) (at : Option ℕ) (start steps : ℕ) (c : Choice) → IsWindow lines place window
    → IsSearch asked costs base rules kept lines place window at start steps → at ≡ Some n
    → side_length rules n ≡ length window → IsChoice (setting_by costs base (alone rules)) lines c → (choice_of c).place ≡ place → (choice_of c).entry ≡ n → IsLowest (setting_by costs base (alone rules)) lines place (length window) c
search_found asked costs base rules kept lines place window n at start steps c there s is long choice here entry =
    record {
      is = choice;
      at = here;
      long = sym (fit_length costs base rules (choice_of c) lines (meets asked (setting_by costs base (alone rules)) (choice_of c) lines choice.applies).0) ∙ ap (side_length rules) entry ∙ long;
      lowest = λ o a e l. elim (cases_lt o.entry n) [
        | inl b ↦ absurd (none_before asked costs base rules kept lines place window n at start steps there s is o (meets asked (setting_by costs base (alone rules)) o lines a) e l b)
        | inr b ↦ omega arith
      ];
      lowest_instance = λ o a e l f. let first = alone_first costs base rules (choice_of c) choice.applies.rule choice.applies.is_rule in omega arith;
    }

pub search_cost : (asked : Bool) (costs : Option (List ℕ)) (base : ℕ) (rules : List Rule) (kept : List Bool) (lines : List ListingLine) (place : ℕ) (window : List Instr) (n : ℕ) (at : Option ℕ) (start steps after : ℕ) → IsSearch asked costs base rules kept lines place window at start steps → at ≡ Some n
    → after ≤ steps + from_bool (side_length rules n == length window) → after ≤ start + of_length (length window) rules
search_cost asked costs base rules kept lines place window n at start steps after s is cost =
    let i = awaited costs rules kept window s.k n at s.awaits is in
    let one : of_length (length window) (take n rules) + from_bool (length i.rule.left == length window) ≤ of_length (length window) (take (suc n) rules) = taken_one (length window) rules n i.rule i.at in
    let before : of_length (length window) (take s.k rules) ≤ of_length (length window) (take n rules) = taken_more (length window) rules s.k n i.from in
    let all : of_length (length window) (take (suc n) rules) ≤ of_length (length window) rules = taken_all (length window) rules (suc n) in
    let tried : from_bool (side_length rules n == length window) ≡ from_bool (length i.rule.left == length window) = ap (λ m. from_bool (m == length window)) (length_at rules n i.rule i.at) in
    let here = s.cost in
    omega (arith, one, before, all, tried, here, cost)

pub search_none : (asked : Bool) (costs : Option (List ℕ)) (base : ℕ) (rules : List Rule) (kept : List Bool) (lines : List ListingLine) (place : ℕ) (window : List Instr) (at : Option ℕ) (start steps : ℕ) → IsWindow lines place window
    → IsSearch asked costs base rules kept lines place window at start steps → at ≡ None → NoneOf asked (setting_by costs base (alone rules)) lines place (length window)
search_none asked costs base rules kept lines place window at start steps there s is o a e l =
    let d = led_to asked costs base s.longest rules kept lines o s.fit s.led a in
    elim (cases_lt d.leader s.k) [
      | inl b ↦ s.none (made o.place d.leader d.registers) d.meets e (d.as_long ∙ l) b
      | inr b ↦ (
          let u = made o.place d.leader d.registers in
          let i = stands_in costs base s.longest (alone rules) lines place window u s.fit there d.meets.0 e (d.as_long ∙ l) in
          none_awaited costs rules kept window s.k at s.awaits is d.leader i.rule i.registers b (rule_there costs base rules u i.rule i.at) d.is_kept i.lightens
          )
    ]

pub none_cost : (asked : Bool) (costs : Option (List ℕ)) (base : ℕ) (rules : List Rule) (kept : List Bool) (lines : List ListingLine) (place : ℕ) (window : List Instr) (at : Option ℕ) (start steps : ℕ) → IsSearch asked costs base rules kept lines place window at start steps → steps ≤ start + of_length (length window) rules
none_cost asked costs base rules kept lines place window at start steps s = let c = s.cost in let all = taken_all (length window) rules s.k in omega arith

pub next_within : (costs : Option (List ℕ)) (entries : List Entry) (kept : List Bool) (window : List Instr) (k n : ℕ) (o : Option ℕ) → Awaits costs (rules_in entries) kept window k o → o ≡ Some n → n < length entries
next_within costs entries kept window k n o a e =
    let i = awaited costs (rules_in entries) kept window k n o a e in
    omega (arith, slice_get_within (rules_in entries) n i.rule i.at, length_map rewriting_rule (map rule_of entries), length_map rule_of entries)

-- where no rule stands in a window, none applies there
pub none_in : (asked : Bool) (costs : Option (List ℕ)) (base longest : ℕ) (table : List (List Rule)) (lines : List ListingLine) (place : ℕ) (window : List Instr) → AreFit longest table → IsWindow lines place window → NoneStands costs table window → NoneOf asked (setting_by costs base table) lines place (length window)
none_in asked costs base longest table lines place window fit there none o a e l =
    let i = stands_in costs base longest table lines place window o fit there a.0 e l in
    none o.entry o.instance i.rule i.registers i.at i.lightens

-- nor in one that no left side has the form of
pub none_formed : (asked : Bool) (costs : Option (List ℕ)) (base longest : ℕ) (table : List (List Rule)) (lines : List ListingLine) (place : ℕ) (window : List Instr) → AreFit longest table → IsWindow lines place window
    → ((rule : Rule) (registers : List Low) → IsSoundRule rule → IsCanonicalSide rule.left → Stands rule registers window → ⊥) → NoneOf asked (setting_by costs base table) lines place (length window)
none_formed asked costs base longest table lines place window fit there none o a e l =
    let i = stands_in costs base longest table lines place window o fit there a.0 e l in
    let f = fit o.entry o.instance i.rule i.at in
    none i.rule i.registers f.sound f.canonical i.lightens.stands

-- ---- the best entry of a place ----

-- where a rule fits, a window stands that is as long as its left side, and this is no longer than the longest
pub record IsApplicable (costs : Option (List ℕ)) (lines : List ListingLine) (base longest : ℕ) (table : List (List Rule)) (o : Replacement) : Type 0 where
  pub window : List Instr
  pub is_window : IsWindow lines o.place window
  pub long : left_length (setting_by costs base table) o ≡ length window
  pub some : 1 ≤ length window
  pub few : length window ≤ longest

pub applicable : (costs : Option (List ℕ)) (base longest : ℕ) (table : List (List Rule)) (lines : List ListingLine) (o : Replacement) → AreFit longest table → FitsIn (setting_by costs base table) o lines → IsApplicable costs lines base longest table o
applicable costs base longest table lines o fit a =
    let f = fit o.entry o.instance a.rule a.is_rule in
    let n : length a.applies.window ≡ length a.rule.left = window_length a.rule o.registers (code_of lines) o.place a.applies in
    let some = fits_some costs base table o lines a in
    let short = f.short in
    record {
      window = a.applies.window;
      is_window = record {
        stands = ap (λ k. take k (drop o.place (places_of lines))) n ∙ a.applies.stands;
        in_window = straight_in_window a.applies.window (applies_sound a.rule o.registers (code_of lines) o.place f.sound some a.applies).left_straight;
        unlabelled = subst (λ k. (j : ℕ) (l : Label) → slice_get (labels_from 0 lines) j ≡ Some l → (l.place ≤ o.place) ⊎ (o.place + k ≤ l.place)) (sym n) a.applies.unlabelled;
        joined = subst (λ k. are_joined_from o.place k lines ≡ true) (sym n) a.joined;
      };
      long = ap left_length_of a.is_rule ∙ sym n;
      some = omega arith;
      few = omega arith;
    }

-- and it stands among the places
pub place_within : (costs : Option (List ℕ)) (base longest : ℕ) (table : List (List Rule)) (lines : List ListingLine) (o : Replacement) → AreFit longest table → FitsIn (setting_by costs base table) o lines → o.place < length (places_of lines)
place_within costs base longest table lines o fit a =
    let w = applicable costs base longest table lines o fit a in
    let some = w.some in
    let k = length_map plain w.window in
    let e = ap (λ (ps : List Place). length ps) w.is_window.stands in
    let short = take_short (length w.window) (drop o.place (places_of lines)) in
    let rest = length_drop o.place (places_of lines) in
    omega arith

-- the front of the run from a place is a window there
front_window : (lines : List ListingLine) (place most count : ℕ) (is : List Instr) → is ≡ run true most (drop place (rows_from false lines)) → 0 < count → count ≤ length is → IsWindow lines place (take count is)
front_window lines place most count is e some few =
    let all : length (take count is) ≡ count = take_all count is few in
    let long : 1 ≤ length (take count (run true most (drop place (rows_from false lines)))) = omega (arith, all, ap (λ (l : List Instr). length (take count l)) e) in
    subst (λ (l : List Instr). IsWindow lines place (take count l)) (sym e) (run_window lines place most count long)

-- and stands there with what is live after it
pub front_stands : (lines : List ListingLine) (place most count items : ℕ) (is slice : List Instr) → is ≡ run true most (drop place (rows_from false lines)) → slice ≡ is → 0 < count → count ≤ length is
    → ((x : ℕ) → (has items x ≡ true) ↔ LiveAfter (code_of lines) (place + (count - 1)) x) → StandsThere lines place (take count slice) items
front_stands lines place most count items is slice e f some few live =
    let long : length slice ≡ length is = ap (λ (l : List Instr). length l) f in
    let all : length (take count slice) ≡ count = take_all count slice (omega arith) in
    let end : place + (count - 1) ≡ place + length (take count slice) - 1 = omega arith in
    record {
      is_window = front_window lines place most count slice (f ∙ e) some (omega arith);
      live = λ x. subst (λ p. (has items x ≡ true) ↔ LiveAfter (code_of lines) p x) end (live x);
    }

-- no choice at the place has a left side of more than so many instructions
abbrev pub NoneLonger : Bool → Setting → List ListingLine → ℕ → ℕ → Type 0
NoneLonger asked s lines place count = (o : Replacement) → Meets asked s o lines → o.place ≡ place → count < left_length s o → ⊥

-- none has one that is longer than the run from there
none_beyond : (asked : Bool) (costs : Option (List ℕ)) (base longest : ℕ) (table : List (List Rule)) (lines : List ListingLine) (place : ℕ) (is : List Instr) → AreFit longest table → is ≡ run true longest (drop place (rows_from false lines))
    → NoneLonger asked (setting_by costs base table) lines place (length is)
none_beyond asked costs base longest table lines place is fit e o a at h =
    let w = applicable costs base longest table lines o fit a.0 in
    let long = w.long in
    let there : IsWindow lines place w.window = subst (λ p. IsWindow lines p w.window) at w.is_window in
    let within : length w.window ≤ length (run true longest (drop place (rows_from false lines))) = window_in_run lines place longest w.window w.some w.few there in
    omega (arith, within, long, h, ap (λ (l : List Instr). length l) e)

pub none_longer : (asked : Bool) (s : Setting) (lines : List ListingLine) (place count : ℕ) → NoneLonger asked s lines place (suc count) → NoneOf asked s lines place (suc count) → NoneLonger asked s lines place count
none_longer asked s lines place count n none o a at h = elim (cases_lt (suc count) (left_length s o)) [
  | inl l ↦ n o a at l
  | inr l ↦ none o a at (let e : left_length s o ≡ suc count = omega arith in e)
]

pub longer_cost : (rules : List Rule) (count start before after : ℕ) → before ≤ start + longer (suc count) rules → after ≤ before + of_length (suc count) rules → after ≤ start + longer count rules
longer_cost rules count start before after b a = omega (arith, longer_split count rules)

pub all_cost : (rules : List Rule) (count start after : ℕ) → after ≤ start + longer count rules → after ≤ start + length rules
all_cost rules count start after a = omega (arith, longer_all count rules)

pub count_cost : (rules : List Rule) (count : ℕ) (slice : List Instr) (start before after : ℕ) → 0 < count → count ≤ length slice → before ≤ start + longer count rules → after ≤ before + of_length (length (take count slice)) rules
    → after ≤ start + longer (count - 1) rules
count_cost rules zero slice start before after some few b a = absurd (omega arith)
count_cost rules (suc n) slice start before after some few b a =
    let all : length (take (suc n) slice) ≡ suc n = take_all (suc n) slice few in
    subst (λ k. after ≤ start + longer k rules) (let e : n ≡ suc n - 1 = omega arith in e) (longer_cost rules n start before after b (subst (λ k. after ≤ before + of_length k rules) all a))

pub none_shorter : (asked : Bool) (s : Setting) (lines : List ListingLine) (place count : ℕ) (slice : List Instr) → 0 < count → count ≤ length slice → NoneLonger asked s lines place count → NoneOf asked s lines place (length (take count slice)) → NoneLonger asked s lines place (count - 1)
none_shorter asked s lines place zero slice some few n h = absurd (omega arith)
none_shorter asked s lines place (suc m) slice some few n h =
    let all : length (take (suc m) slice) ≡ suc m = take_all (suc m) slice few in
    subst (λ k. NoneLonger asked s lines place k) (let e : m ≡ suc m - 1 = omega arith in e) (none_longer asked s lines place m n (subst (λ k. NoneOf asked s lines place k) all h))

-- where no left side of more than so many instructions stands first in the run from a place, none that applies there is longer
pub none_reached : (asked : Bool) (costs : Option (List ℕ)) (base longest : ℕ) (table : List (List Rule)) (lines : List ListingLine) (place count : ℕ) (is slice : List Instr) → AreFit longest table → is ≡ run true longest (drop place (rows_from false lines)) → slice ≡ is
    → ((n k i : ℕ) (rule : Rule) (registers : List Low) → count < length rule.left → rule_at table k i ≡ Some rule → Lightens costs rule registers (take n slice) → ⊥) → NoneLonger asked (setting_by costs base table) lines place count
none_reached asked costs base longest table lines place count is slice fit e f none o a at longer_left =
    let w = applicable costs base longest table lines o fit a.0 in
    let some = w.some in
    let long = w.long in
    let n : ℕ = length w.window in
    let same : slice ≡ run true longest (drop place (rows_from false lines)) = f ∙ e in
    let few : n ≤ length slice = elim (cases_lt (length slice) n) [
      | inl h ↦ absurd (none_beyond asked costs base longest table lines place slice fit same o a at (omega arith))
      | inr h ↦ omega arith
    ] in
    let there = front_window lines place longest n slice same (omega arith) few in
    let all : length (take n slice) ≡ n = take_all n slice few in
    let s = stands_in costs base longest table lines place (take n slice) o fit there a.0 at (long ∙ sym all) in
    let left = ap left_length_of s.at in
    none n o.entry o.instance s.rule s.registers (omega (arith, left, longer_left)) s.at s.lightens

-- and where none stands there at all, none applies
pub none_there : (asked : Bool) (costs : Option (List ℕ)) (base longest : ℕ) (table : List (List Rule)) (lines : List ListingLine) (place : ℕ) (is slice : List Instr) → AreFit longest table → is ≡ run true longest (drop place (rows_from false lines)) → slice ≡ is
    → ((n k i : ℕ) (rule : Rule) (registers : List Low) → 0 < length rule.left → rule_at table k i ≡ Some rule → Lightens costs rule registers (take n slice) → ⊥) → NoneAt asked (setting_by costs base table) lines place
none_there asked costs base longest table lines place is slice fit e f none o a at =
    let w = applicable costs base longest table lines o fit a.0 in
    let some = w.some in
    let long = w.long in
    none_reached asked costs base longest table lines place 0 is slice fit e f none o a at (omega arith)

-- ---- the least place ----

pub is_first : (asked : Bool) (s : Setting) (lines : List ListingLine) (place : ℕ) (c : Choice) → NoneBefore asked s lines place → IsBest s lines place c → IsFirstChoice s lines c
is_first asked s lines place c none b =
    let here = b.at in
    record {
      first = record {
        applies = b.is.applies;
        least_place = λ o a. elim (cases_lt o.place place) [
          | inl l ↦ absurd (none o (meets asked s o lines a) l)
          | inr l ↦ omega arith
        ];
        longest = λ o a e. b.longest o a (e ∙ here);
        lowest = λ o a e l. b.lowest o a (e ∙ here) l;
        lowest_instance = λ o a e l f. b.lowest_instance o a (e ∙ here) l f;
      };
      is = b.is;
    }
