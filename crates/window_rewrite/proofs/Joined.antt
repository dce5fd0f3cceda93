-- An entry is used in the same way by a table of the entries alone and by the whole table, in which the families follow.
use Rattle.std.proofs.Common.{◌≡◌, ℕ, ◌+◌, ◌-◌, ◌<◌, ◌≤◌, max, Bool, true, drop, List, [], ◌∷◌, ◌++◌, length, map, Option, Some, sym, ap, ◌∙◌, subst, arith, inl, inr, length-append}
use Rattle.std.specs.Prelude.{slice_get}
use Rattle.std.proofs.lemmas.Bool.{cases_lt}
use Rattle.std.proofs.lemmas.List.{length-map}
use Rattle.std.proofs.lemmas.Option.{slice_get_within}
use Rattle.thumb_model.specs.Layout.{Layable}
use Rattle.thumb_model.specs.Listing.{ListingLine}
use Rattle.rule_model.specs.Rules.{Rule, alone, rule_at}
use Rattle.rule_model.specs.Rewriting.{Replacement, AppliesIn, used_rule, left_length_of, lines_after_rule}
use Rattle.rule_model.proofs.Alone.{alone_at, alone_is}
use Rattle.listing_parser.specs.Grammar.{most_lines}
use Rattle.rule_table.specs.Table as tables
use Rattle.rule_table.specs.Views.{family_of, rule_of}
use Rattle.table_audit.specs.Families.{entry_at}
use Rattle.table_audit.specs.Soundness.{instances_of, numbers_in, rewriting_rule}
use Rattle.table_audit.proofs.Instances.{entries_length, number_is, rule_at_before}
use Rattle.window_rewrite.specs.declared.choice.Choice.{Choice}
use Rattle.window_rewrite.specs.declared.finding.Rules.{Rules}
use Rattle.window_rewrite.specs.TableRewriting.{setting_by}
use Rattle.window_rewrite.specs.Rules.{chains_of, families_in, first_with, is_marked, left_forms, raised_rule, raised_rules, rules_in, AreFit}
use Rattle.window_rewrite.specs.Choices.{choice_of, entries_setting, setting_of, table_in, of_length, AreReady, IsChoice, IsLowest, Meets, NoneOf}
use Rattle.window_rewrite.specs.Forms.{form_of}
use Rattle.window_rewrite.specs.Families.{IsLowestFamily, NoneOfFamilies}
use Rattle.window_rewrite.proofs.Applied.{meets}

-- ---- one rule in two tables ----

-- what a replacement does by a table is what it does by another in which it uses the same rule
pub meets_too : (asked : Bool) (costs : Option (List ℕ)) (base : ℕ) (t u : List (List Rule)) (o : Replacement) (lines : List ListingLine) → used_rule (setting_by costs base u) o ≡ used_rule (setting_by costs base t) o → Meets asked (setting_by costs base t) o lines → Meets asked (setting_by costs base u) o lines
meets_too asked costs base t u o lines same m = (
  record { rule = m.0.rule; is_rule = same ∙ m.0.is_rule; lowers = m.0.lowers; applies = m.0.applies; joined = m.0.joined },
  λ e. record {
    few = subst (λ (r : Option Rule). length (lines_after_rule (setting_by costs base u) r o lines) ≤ max (length lines) most_lines) (sym same) (m.1 e).few;
    layable = subst (λ (r : Option Rule). Layable base (lines_after_rule (setting_by costs base u) r o lines)) (sym same) (m.1 e).layable;
  },
)

pub applies_too : (costs : Option (List ℕ)) (base : ℕ) (t u : List (List Rule)) (o : Replacement) (lines : List ListingLine) → used_rule (setting_by costs base u) o ≡ used_rule (setting_by costs base t) o → AppliesIn (setting_by costs base t) o lines → AppliesIn (setting_by costs base u) o lines
applies_too costs base t u o lines same a = record { rule = a.rule; is_rule = same ∙ a.is_rule; lowers = a.lowers; applies = a.applies; least = a.least; joined = a.joined; few = a.few; layable = a.layable }

choice_too : (costs : Option (List ℕ)) (base : ℕ) (t u : List (List Rule)) (lines : List ListingLine) (c : Choice) → used_rule (setting_by costs base u) (choice_of c) ≡ used_rule (setting_by costs base t) (choice_of c) → IsChoice (setting_by costs base t) lines c → IsChoice (setting_by costs base u) lines c
choice_too costs base t u lines c same a = record {
  whole = a.whole;
  applies = applies_too costs base t u (choice_of c) lines same a.applies;
  is_window = a.is_window;
  gives_way = a.gives_way;
  leaves = a.leaves ∙ ap (λ (r : Option Rule). lines_after_rule (setting_by costs base t) r (choice_of c) lines) (sym same);
  long = a.long ∙ ap left_length_of (sym same);
}

-- ---- entries in the table ----

own_rule : (es : List tables.Rule) (fs : List tables.Family) (costs : Option (List ℕ)) (base : ℕ) (o : Replacement) → o.entry < length es → used_rule (setting_by costs base (numbers_in es fs)) o ≡ used_rule (setting_by costs base (alone (map rewriting_rule es))) o
own_rule es fs costs base o h = rule_at_before (alone (map rewriting_rule es)) (families_in es fs) o.entry o.instance (let n = entries_length es fs in omega (arith, n, h))

-- an entry's rule in the table
pub entry_used : (es : List tables.Rule) (fs : List tables.Family) (k : ℕ) (rule : Rule) → slice_get (map rewriting_rule es) k ≡ Some rule → rule_at (numbers_in es fs) k 0 ≡ Some rule
entry_used es fs k rule at =
    let within = slice_get_within (map rewriting_rule es) k rule at in
    let n = entries_length es fs in
    let m = length-map es rewriting_rule in
    rule_at_before (alone (map rewriting_rule es)) (families_in es fs) k 0 (omega (arith, within, n, m)) ∙ alone_at (map rewriting_rule es) k rule at

-- the entries fit where all rules do
pub entries_fit : (longest : ℕ) (es : List tables.Rule) (fs : List tables.Family) → AreFit longest (numbers_in es fs) → AreFit longest (alone (map rewriting_rule es))
entries_fit longest es fs fit k i rule at = fit k 0 rule (entry_used es fs k rule (alone_is (map rewriting_rule es) k i rule at).0)

-- a number's rule is that of an entry, or of one of the families
record IsNumber (es : List tables.Rule) (fs : List tables.Family) (k : ℕ) : Type 0 where
  within : k < length es + length fs

number_in : (es : List tables.Rule) (fs : List tables.Family) (k i : ℕ) (rule : Rule) → rule_at (numbers_in es fs) k i ≡ Some rule → IsNumber es fs k
number_in es fs k i rule at = number_is es fs k i rule at
    (λ e there first is. let w = slice_get_within es k e there in record { within = omega (arith, w) })
    (λ f e x past there own value is. let w = slice_get_within fs (k - length es) f there in record { within = omega (arith, w, past) })

-- ---- the lowest of both ----

module _ (r : Rules) where
  abbrev es : List tables.Rule
  es = map rule_of r.entries.now

  abbrev fs : List tables.Family
  fs = map family_of r.families.now

  many : length es ≡ length r.entries.now
  many = length-map r.entries.now rule_of

  many_families : length fs ≡ length r.families.now
  many_families = length-map r.families.now family_of

  own : (o : Replacement) → o.entry < length r.entries.now → used_rule (setting_of r) o ≡ used_rule (entries_setting r) o
  own o h = own_rule es fs r.costs.now r.base o (omega (arith, many, h))

  -- the lowest entry is the lowest of all
  pub lowest_entry : (lines : List ListingLine) (place count : ℕ) (c : Choice) → IsLowest (entries_setting r) lines place count c → IsLowest (setting_of r) lines place count c
  lowest_entry lines place count c l =
      let a = l.is.applies in
      let alone_rule = alone_is (map rewriting_rule es) (choice_of c).entry (choice_of c).instance a.rule a.is_rule in
      let within : (choice_of c).entry < length r.entries.now = omega (arith, slice_get_within (map rewriting_rule es) (choice_of c).entry a.rule alone_rule.0, length-map es rewriting_rule, many) in
      let same = own (choice_of c) within in
      record {
        is = choice_too r.costs.now r.base (alone (map rewriting_rule es)) (table_in r) lines c same l.is;
        at = l.at;
        long = ap left_length_of same ∙ l.long;
        lowest = λ o b e n. elim (cases_lt o.entry (length r.entries.now)) [
          | inl h ↦ l.lowest o (applies_too r.costs.now r.base (table_in r) (alone (map rewriting_rule es)) o lines (sym (own o h)) b) e (ap left_length_of (sym (own o h)) ∙ n)
          | inr h ↦ omega (arith, within, h)
        ];
        lowest_instance = λ o b e n f. let first = alone_rule.1 in omega (arith, first);
      }

  -- where no entry satisfies `Meets asked`, the lowest family is the lowest of all
  pub lowest_behind : (asked : Bool) (lines : List ListingLine) (place count : ℕ) (c : Choice) → NoneOf asked (entries_setting r) lines place count → IsLowestFamily r lines place count c → IsLowest (setting_of r) lines place count c
  lowest_behind asked lines place count c none l = record {
    is = l.is;
    at = l.at;
    long = l.long;
    lowest = λ o b e n. elim (cases_lt o.entry (length r.entries.now)) [
      | inl h ↦ absurd (none o (meets_too asked r.costs.now r.base (table_in r) (alone (map rewriting_rule es)) o lines (sym (own o h)) (meets asked (setting_of r) o lines b)) e (ap left_length_of (sym (own o h)) ∙ n))
      | inr h ↦ l.lowest o b e n h
    ];
    lowest_instance = l.lowest_instance;
  }

  -- and where no family does either, none does
  pub none_of_both : (asked : Bool) (lines : List ListingLine) (place count : ℕ) → NoneOf asked (entries_setting r) lines place count → NoneOfFamilies asked r lines place count (length r.families.now) → NoneOf asked (setting_of r) lines place count
  none_of_both asked lines place count none families o m e n = elim (cases_lt o.entry (length r.entries.now)) [
    | inl h ↦ none o (meets_too asked r.costs.now r.base (table_in r) (alone (map rewriting_rule es)) o lines (sym (own o h)) m) e (ap left_length_of (sym (own o h)) ∙ n)
    | inr h ↦ families o m e n h (let w = number_in es fs o.entry o.instance m.0.rule m.0.is_rule in let within = w.within in omega (arith, within, many, many_families))
  ]

-- ---- how many numbers there are ----

-- a left side for each number
pub sides_many : (es : List tables.Rule) (fs : List tables.Family) → length (map rewriting_rule es ++ raised_rules es fs) ≡ length (numbers_in es fs)
sides_many es fs =
    let entries = length-map es rewriting_rule in
    let own = entries_length es fs in
    let families = length-map fs (λ f. raised_rule (entry_at es f.entry)) in
    let instances = length-map fs (λ f. instances_of f (entry_at es f.entry)) in
    let left = length-append (map rewriting_rule es) (raised_rules es fs) in
    let right = length-append (alone (map rewriting_rule es)) (families_in es fs) in
    omega arith

-- those of a length
pub of_length_both : (c : ℕ) (xs ys : List Rule) → of_length c (xs ++ ys) ≡ of_length c xs + of_length c ys
unfolding of_length
of_length_both c [] ys = omega arith
of_length_both c (x ∷ xs) ys = let t = of_length_both c xs ys in omega (arith, t)

-- ---- the chains of entries ----

-- the list of next ones has an element for each entry
pub entry_nexts_within : (r : Rules) (n : ℕ) → AreReady r → n < length r.entries.now → n < length r.index.now.entries.nexts.items
entry_nexts_within r n ready h = omega (arith, h, ready.index.entry_chains.as_many, length-map (map rewriting_rule (map rule_of r.entries.now)) (λ s. form_of s.left), length-map (map rule_of r.entries.now) rewriting_rule, length-map r.entries.now rule_of)

pub entry_next : (r : Rules) (n : ℕ) (next : Option ℕ) → AreReady r → slice_get r.index.now.entries.nexts.items n ≡ Some next
    → (chain : ℕ) → slice_get (chains_of (left_forms (rules_in r.entries.now))) n ≡ Some chain → is_marked r.index.now.entries.kept.items n ≡ true → next ≡ first_with r.index.now.entries.kept.items chain (n + 1) (drop (n + 1) (chains_of (left_forms (rules_in r.entries.now))))
entry_next r n next ready follows chain at kept = ready.index.entry_chains.nexts n chain next (omega arith) at kept follows
