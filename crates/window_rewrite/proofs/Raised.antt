-- The families of a table at a window: which instance of a family may stand there, and what it makes of the window.
use Rattle.std.proofs.Common.{◌≡◌, ℕ, zero, suc, ◌+◌, ◌-◌, ◌<◌, ◌≤◌, ◌==◌, Bool, true, false, cond, List, [], ◌∷◌, length, map, take, Option, Some, None, refl, sym, ap, ◌∙◌, subst, arith, inl, inr}
use Rattle.std.specs.Prelude.{slice_get}
use Rattle.std.specs.Int.{from_bool}
use Rattle.std.specs.List.{list_any}
use Rattle.std.specs.Option.{option_map}
use Rattle.std.proofs.lemmas.Bool.{cases_lt}
use Rattle.std.proofs.lemmas.List.{length-map}
use Rattle.std.proofs.lemmas.Option.{slice_get_within, slice_get-map, same_Some}
use Rattle.thumb_instr.specs.declared.instr.Instr.{Instr}
use Rattle.thumb_instr.specs.declared.instr.Instr.TheVariants as instr
use Rattle.thumb_model.specs.Listing.{ListingLine}
use Rattle.bit_blast.specs.Slots.{Byte, IsValue, filled, slot, instance}
use Rattle.bit_blast.specs.declared.slots.Slot.TheVariants.{Plain, Hole}
use Rattle.bit_blast.proofs.Holes.{side_length as length_raised}
use Rattle.rule_model.specs.Rules.{Rule, alone, rule_among, rule_at}
use Rattle.rule_model.specs.Rewriting.{Replacement, used_rule, left_length, left_length_of}
use Rattle.rule_table.specs.declared.table.Entry.{Entry}
use Rattle.rule_table.specs.declared.table.Family.{Family}
use Rattle.rule_table.specs.Table as tables
use Rattle.rule_table.specs.Views.{family_of, rule_of}
use Rattle.table_audit.specs.Families.{entry_at, is_hole, raised, symbol_of, values_of}
use Rattle.table_audit.specs.Soundness.{instances_of, items_in, number_of, numbers_in, rewriting_rule}
use Rattle.table_audit.proofs.Instances.{entries_length, instance_there, number_is, rule_at_behind, value_there, values_at}
use Rattle.thumb_model.specs.Replaced.{IsWindow}
use Rattle.window_rewrite.specs.declared.choice.Choice.{Choice}
use Rattle.window_rewrite.specs.declared.families.Instance.{Instance}
use Rattle.window_rewrite.specs.declared.finding.Rules.{Rules}
use Rattle.window_rewrite.specs.declared.forms.Form.{Form}
use Rattle.window_rewrite.specs.Rules.{entry_rule, families_in, raised_form, raised_forms, raised_rule, side_length, with_open, AreFit, IsFit, IsRaised}
use Rattle.window_rewrite.specs.Choices.{choice_of, setting_of, table_in, families_sides, of_length, AreReady, FitsIn, IsChoiceBy, NoneBy}
use Rattle.window_rewrite.specs.Families.{IsByteOf, IsInstance, IsOnlyInstance, IsFamilyChoice, IsLowestFamily, NoneOfFamily, NoneOfFamilies}
use Rattle.window_rewrite.specs.Fitting.{IsForm}
use Rattle.window_rewrite.proofs.Formed.{form_side}
use Rattle.window_rewrite.proofs.Applied.{meets, meets_less}
use Rattle.window_rewrite.proofs.Chosen.{length_at, stands_in, taken_all, taken_one}
use Rattle.window_rewrite.specs.Forms.{form_of}
use Rattle.window_rewrite.specs.Hashes.{blind}
use Rattle.window_rewrite.proofs.Heads.{blind_instance}
use Rattle.window_rewrite.proofs.Opened.{fit_open}
use Rattle.thumb_model.proofs.Lists.{present_at as some_at}

-- ---- the value of a side ----

-- what has a value in the hole has it as its number
pub byte_there : (n : ℕ) (i other : Instr) (x : Byte) → is_hole n i ≡ true → filled x (slot n i) ≡ other → IsByteOf other x
byte_there n (instr.TwoNumber o d j) other x h e = subst (λ k. IsByteOf k x) (sym (ap (filled x) (hole (j.number == n) h)) ∙ e) refl
  where
    hole : (b : Bool) → b ≡ true → cond b (Hole o d) (Plain (instr.TwoNumber o d j)) ≡ Hole o d
    hole true f = refl
    hole false f = absurd (cc)
byte_there n i other x h e = absurd (cc)

-- the same of the first instruction of a side
pub byte_first : (n : ℕ) (i other : Instr) (is others : List Instr) (x : Byte) → is_hole n i ≡ true → instance n (i ∷ is) x ≡ other ∷ others → IsByteOf other x
byte_first n i other is others x h e = byte_there n i other x h (let first : filled x (slot n i) ≡ other = cc in first)

pub rest_same : (n : ℕ) (i other : Instr) (is others : List Instr) (x : Byte) → instance n (i ∷ is) x ≡ other ∷ others → instance n is x ≡ others
rest_same n i other is others x e = cc

pub rest_held : (n : ℕ) (i : Instr) (is : List Instr) → is_hole n i ≡ false → list_any (is_hole n) (i ∷ is) ≡ true → list_any (is_hole n) is ≡ true
rest_held n i is f h = rw f at h

-- ---- instances in the table ----

-- an instance's sides and mask are those of the entry's rule with its value
pub instance_rule : (f : tables.Family) (e : tables.Rule) (x : Byte) (i : Instance) → IsInstance f e x i → rewriting_rule (raised f.number e x) ≡ with_open (entry_rule i.rule) (map number_of e.opens)
instance_rule f e x i is =
    let left = sym is.left in
    let right = sym is.right in
    let mask = sym is.mask in
    λ j. record { left = left j; right = right j; mask = items_in (mask j); open_numbers = map number_of e.opens }

-- the rule of a family's instance
pub family_used : (es : List tables.Rule) (fs : List tables.Family) (n i : ℕ) (f : tables.Family) (e : tables.Rule) (x : Byte) → slice_get fs n ≡ Some f → entry_at es f.entry ≡ Some e → slice_get (values_of f) i ≡ Some x
    → rule_at (numbers_in es fs) (length es + n) i ≡ Some (rewriting_rule (raised f.number e x))
family_used es fs n i f e x at own value =
    let m = entries_length es fs in
    let place : length es + n - length (alone (map rewriting_rule es)) ≡ n = omega (arith, m) in
    rule_at_behind (alone (map rewriting_rule es)) (families_in es fs) (length es + n) i (omega (arith, m)) ∙ ap (λ k. rule_at (families_in es fs) k i) place
    ∙ ap (λ o. rule_among o i) (slice_get-map (λ g. instances_of g (entry_at es g.entry)) fs n ∙ ap (option_map (λ g. instances_of g (entry_at es g.entry))) at)
    ∙ ap (λ o. slice_get (instances_of f o) i) own ∙ instance_there f e i x value

-- and back
record IsOfFamily (f : tables.Family) (e : tables.Rule) (i : ℕ) (rule : Rule) : Type 0 where
  value : Byte
  at : slice_get (values_of f) i ≡ Some value
  is : rewriting_rule (raised f.number e value) ≡ rule

of_family : (es : List tables.Rule) (fs : List tables.Family) (n k i : ℕ) (f : tables.Family) (e : tables.Rule) (rule : Rule) → slice_get fs n ≡ Some f → entry_at es f.entry ≡ Some e → k ≡ length es + n → rule_at (numbers_in es fs) k i ≡ Some rule
    → IsOfFamily f e i rule
of_family es fs n k i f e rule at own same used = number_is es fs k i rule used
    (λ g there first is. absurd (let w = slice_get_within es k g there in omega (arith, w, same)))
    (λ g d x past there entry value is.
    let place : k - length es ≡ n = omega (arith, same) in
    let f_is : g ≡ f = same_Some g f (sym there ∙ ap (slice_get fs) place ∙ at) in
    let e_is : d ≡ e = same_Some d e (sym entry ∙ ap (λ (h : tables.Family). entry_at es h.entry) f_is ∙ own) in
    record {
      value = x;
      at = ap (λ (h : tables.Family). slice_get (values_of h) i) (sym f_is) ∙ value;
      is = ap (λ (h : tables.Family). rewriting_rule (raised h.number e x)) (sym f_is) ∙ ap (λ (h : tables.Rule). rewriting_rule (raised g.number h x)) (sym e_is) ∙ is;
    })

-- ---- a family of a table ----

-- what is known of a family that was read
pub record IsFamily (r : Rules) (n : ℕ) (f : tables.Family) (e : tables.Rule) : Type 0 where
  pub at : slice_get (map family_of r.families.now) n ≡ Some f
  pub is_entry : entry_at (map rule_of r.entries.now) f.entry ≡ Some e
  pub bytes : f.high ≤ 255
  pub held : list_any (is_hole f.number) e.left ≡ true

-- the entry of a number from 1
entry_there : (es : List tables.Rule) (n : ℕ) (e : tables.Rule) → entry_at es n ≡ Some e → (1 ≤ n) × (slice_get es (n - 1) ≡ Some e)
entry_there es zero e h = absurd (cc)
entry_there es (suc n) e h = (omega arith, subst (λ k. slice_get es k ≡ Some e) (let k : n ≡ suc n - 1 = omega arith in k) h)

-- a family that was read has an entry
pub raised_at : (r : Rules) (n : ℕ) (f : Family) → AreReady r → slice_get r.families.now n ≡ Some f → IsRaised (map rule_of r.entries.now) (family_of f)
raised_at r n f ready at = ready.raised n (family_of f) (slice_get-map family_of r.families.now n ∙ ap (option_map family_of) at)

pub entry_within : (entries : List Entry) (f : Family) → IsRaised (map rule_of entries) (family_of f) → (1 ≤ f.entry) × (f.entry - 1 < length entries)
entry_within entries f i =
    let t = entry_there (map rule_of entries) f.entry i.entry i.is_entry in
    let w = slice_get_within (map rule_of entries) (f.entry - 1) i.entry t.1 in
    let m = length-map entries rule_of in
    (t.0, omega (arith, w, m))

-- the entry that was read
pub entry_read : (entries : List Entry) (f : Family) (e : Entry) → IsRaised (map rule_of entries) (family_of f) → slice_get entries (f.entry - 1) ≡ Some e → entry_at (map rule_of entries) f.entry ≡ Some (rule_of e)
entry_read entries f e i read =
    let t = entry_there (map rule_of entries) f.entry i.entry i.is_entry in
    let same : i.entry ≡ rule_of e = same_Some i.entry (rule_of e) (sym t.1 ∙ (slice_get-map rule_of entries (f.entry - 1) ∙ ap (option_map rule_of) read)) in
    i.is_entry ∙ ap Some same

pub family_read : (r : Rules) (n : ℕ) (f : Family) (e : Entry) → AreReady r → slice_get r.families.now n ≡ Some f → entry_at (map rule_of r.entries.now) f.entry ≡ Some (rule_of e) → IsFamily r n (family_of f) (rule_of e)
family_read r n f e ready at read =
    let i = raised_at r n f ready at in
    let same : i.entry ≡ rule_of e = same_Some i.entry (rule_of e) (sym i.is_entry ∙ read) in
    record {
      at = slice_get-map family_of r.families.now n ∙ ap (option_map family_of) at;
      is_entry = read;
      bytes = i.bytes;
      held = subst (λ (x : tables.Rule). list_any (is_hole f.number) x.left ≡ true) same i.held;
    }

-- the hash of its left side
form_read : (r : Rules) (n : ℕ) (f : Family) (i : IsRaised (map rule_of r.entries.now) (family_of f)) → slice_get r.families.now n ≡ Some f
    → slice_get (raised_forms (map rule_of r.entries.now) (map family_of r.families.now)) n ≡ Some (form_of (map blind i.entry.left))
form_read r n f i at =
    slice_get-map (λ (g : tables.Family). raised_form (entry_at (map rule_of r.entries.now) g.entry)) (map family_of r.families.now) n
    ∙ ap (option_map (λ (g : tables.Family). raised_form (entry_at (map rule_of r.entries.now) g.entry))) (slice_get-map family_of r.families.now n ∙ ap (option_map family_of) at) ∙ ap (λ o. Some (raised_form o)) i.is_entry

-- there are as many hashes as families
pub forms_many : (es : List tables.Rule) (fs : List tables.Family) → length (raised_forms es fs) ≡ length fs
forms_many es fs = length-map fs (λ f. raised_form (entry_at es f.entry))

pub raised_is : (r : Rules) (n : ℕ) (f : Family) (i : IsRaised (map rule_of r.entries.now) (family_of f)) → slice_get r.families.now n ≡ Some f → IsFamily r n (family_of f) i.entry
raised_is r n f i at = record { at = slice_get-map family_of r.families.now n ∙ ap (option_map family_of) at; is_entry = i.is_entry; bytes = i.bytes; held = i.held }

module _ (r : Rules) (n : ℕ) (f : tables.Family) (e : tables.Rule) (fam : IsFamily r n f e) where
  abbrev es : List tables.Rule
  es = map rule_of r.entries.now

  abbrev fs : List tables.Family
  fs = map family_of r.families.now

  many : length es ≡ length r.entries.now
  many = length-map r.entries.now rule_of

  -- the left side of the family's entry in the list of sides
  pub family_length : side_length (families_sides r) n ≡ length e.left
  family_length =
      ap left_length_of (slice_get-map (λ g. raised_rule (entry_at es g.entry)) fs n ∙ ap (option_map (λ g. raised_rule (entry_at es g.entry))) fam.at ∙ ap (λ o. Some (raised_rule o)) fam.is_entry)

  own : (k i : ℕ) (rule : Rule) → k ≡ length r.entries.now + n → rule_at (table_in r) k i ≡ Some rule → IsOfFamily f e i rule
  own k i rule same used = of_family es fs n k i f e rule fam.at fam.is_entry (omega (arith, same, many)) used

  -- an instance's rule has the left side's length
  as_long : (k i : ℕ) (rule : Rule) → IsOfFamily f e i rule → length rule.left ≡ length e.left
  as_long k i rule u = ap (λ (s : Rule). length s.left) (sym u.is) ∙ length_raised f.number e.left u.value

  -- where the left side isn't as long as the window, no instance satisfies `Meets asked`
  pub none_long : (asked : Bool) (lines : List ListingLine) (place count : ℕ) → (length e.left ≡ count → ⊥) → NoneOfFamily asked r lines place count n
  none_long asked lines place count other o m here long is =
      let u = own o.entry o.instance m.0.rule is m.0.is_rule in
      other (sym (as_long o.entry o.instance m.0.rule u) ∙ sym (ap left_length_of m.0.is_rule) ∙ long)

  -- the value of an instance that stands in a window makes the window's canonical form of the left side
  record IsHere (o : Replacement) (side : List Instr) : Type 0 where
    rule : Rule
    used : used_rule (setting_of r) o ≡ Some rule
    family : IsOfFamily f e o.instance rule
    among : IsValue (symbol_of f) family.value
    number : family.value.number ≡ f.low + o.instance
    same : instance f.number e.left family.value ≡ side

  here_is : (lines : List ListingLine) (place : ℕ) (window : List Instr) (form : Form) (o : Replacement) → AreReady r → IsWindow lines place window → IsForm window form → FitsIn (setting_of r) o lines → o.place ≡ place
      → left_length (setting_of r) o ≡ length window → o.entry ≡ length r.entries.now + n → IsHere o form.side
  here_is lines place window form o ready there formed a here long is =
      let s = stands_in r.costs.now r.base r.longest (table_in r) lines place window o ready.fit there a here long in
      let u = own o.entry o.instance s.rule is s.at in
      let fit = ready.fit o.entry o.instance s.rule s.at in
      let v = values_at f o.instance u.value u.at in
      record {
        rule = s.rule;
        used = s.at;
        family = u;
        among = v.1;
        number = v.0;
        same = ap (λ (t : Rule). t.left) u.is ∙ form_side s.rule window form fit.sound fit.canonical formed s.registers s.lightens.stands;
      }

  -- so where none does, none stands there
  pub none_stands : (asked : Bool) (lines : List ListingLine) (place : ℕ) (window : List Instr) (form : Form) → AreReady r → IsWindow lines place window → IsForm window form
      → ((x : Byte) → IsValue (symbol_of f) x → instance f.number e.left x ≡ form.side → ⊥) → NoneOfFamily asked r lines place (length window) n
  none_stands asked lines place window form ready there formed none o m here long is =
      let h = here_is lines place window form o ready there formed m.0 here long is in
      none h.family.value h.among h.same

  -- nor where the hash of the left side isn't the window's
  pub none_hidden : (asked : Bool) (lines : List ListingLine) (place : ℕ) (window : List Instr) (form : Form) → AreReady r → IsWindow lines place window → IsForm window form → (form_of (map blind e.left) ≡ form_of (map blind form.side) → ⊥)
      → NoneOfFamily asked r lines place (length window) n
  none_hidden asked lines place window form ready there formed other o m here long is =
      let h = here_is lines place window form o ready there formed m.0 here long is in
      other (ap form_of (sym (blind_instance f.number e.left h.family.value)) ∙ ap (λ (l : List Instr). form_of (map blind l)) h.same)

  -- ---- the instance that was tried ----

  module _ (side : List Instr) (i : Instance) (only : IsOnlyInstance f e side i) where
    abbrev numbers : List ℕ
    numbers = map number_of e.opens

    -- its rule in the table
    in_place : rule_at (table_in r) (length r.entries.now + n) i.number ≡ Some (rewriting_rule (raised f.number e only.value))
    in_place =
        let number = only.is.number in
        let k : only.value.number - f.low ≡ i.number = omega (arith, number) in
        let there : slice_get (values_of f) i.number ≡ Some only.value = ap (slice_get (values_of f)) (sym k) ∙ value_there f only.value fam.bytes only.among in
        ap (λ m. rule_at (table_in r) (m + n) i.number) (sym many) ∙ family_used es fs n i.number f e only.value fam.at fam.is_entry there

    used_there : rule_at (table_in r) (length r.entries.now + n) i.number ≡ Some (with_open (entry_rule i.rule) numbers)
    used_there = in_place ∙ ap Some (instance_rule f e only.value i only.is)

    -- it fits where the table's rules do
    pub instance_fit : AreFit r.longest (table_in r) → IsFit r.longest (entry_rule i.rule)
    instance_fit fit =
        let own_fit = fit (length r.entries.now + n) i.number (with_open (entry_rule i.rule) numbers) used_there in
        fit_open r.longest (with_open (entry_rule i.rule) numbers) (entry_rule i.rule).open_numbers own_fit

    pub instance_long : length i.rule.left ≡ length e.left
    instance_long = ap (λ (is : List Instr). length is) only.is.left ∙ length_raised f.number e.left only.value

    -- what is found by it is the family's choice
    pub family_choice : (lines : List ListingLine) (place : ℕ) (window : List Instr) (form : Form) (c : Choice) → AreReady r → IsWindow lines place window → IsForm window form → side ≡ form.side → length e.left ≡ length window
        → IsChoiceBy r.costs.now r.base (entry_rule i.rule) lines place (length r.entries.now + n) i.number c → IsFamilyChoice r lines place (length window) n c
    family_choice lines place window form c ready there formed same long by =
        let used : used_rule (setting_of r) (choice_of c) ≡ Some (with_open (entry_rule i.rule) numbers) =
        ap (λ k. rule_at (table_in r) k (choice_of c).instance) by.entry_is ∙ ap (rule_at (table_in r) (length r.entries.now + n)) by.instance_is ∙ used_there in
        record {
          is = by.is (table_in r) numbers used_there;
          at = by.at;
          long = ap left_length_of used ∙ instance_long ∙ long;
          entry = by.entry_is;
          only = λ o a here count is.
              let m = meets true (setting_of r) o lines a in
              let h = here_is lines place window form o ready there formed m.0 here count is in
              let value = only.only h.family.value (h.same ∙ sym same) in
              let equal : h.family.value.number ≡ only.value.number = ap (λ (x : Byte). x.number) value in
              let number = h.number in
              let own_number = only.is.number in
              let instance_is = by.instance_is in
              omega arith;
        }

    -- and where it doesn't satisfy `Meets asked`, no instance does
    pub none_tried : (asked : Bool) (lines : List ListingLine) (place : ℕ) (window : List Instr) (form : Form) → AreReady r → IsWindow lines place window → IsForm window form → side ≡ form.side → NoneBy asked r.costs.now r.base (entry_rule i.rule) lines place
        → NoneOfFamily asked r lines place (length window) n
    none_tried asked lines place window form ready there formed same none o m here long is =
        let h = here_is lines place window form o ready there formed m.0 here long is in
        let value : h.family.value ≡ only.value = only.only h.family.value (h.same ∙ sym same) in
        let rule : h.rule ≡ with_open (entry_rule i.rule) numbers = sym h.family.is ∙ ap (λ (x : Byte). rewriting_rule (raised f.number e x)) value ∙ instance_rule f e only.value i only.is in
        none (table_in r) numbers o (h.used ∙ ap Some rule) here m

-- where the hash of a family's left side isn't the window's, none of its instances satisfies `Meets asked`
pub none_hidden_at : (asked : Bool) (r : Rules) (n own hidden : ℕ) (lines : List ListingLine) (place : ℕ) (window : List Instr) (form : Form) → n < length r.families.now → AreReady r → IsWindow lines place window → IsForm window form
    → slice_get (raised_forms (map rule_of r.entries.now) (map family_of r.families.now)) n ≡ Some own → hidden ≡ form_of (map blind form.side) → (own ≡ hidden → ⊥) → NoneOfFamily asked r lines place (length window) n
none_hidden_at asked r n own hidden lines place window form within ready there formed is same other =
    let f = some_at r.families.now n within in
    let i = raised_at r n f.0 ready f.1 in
    let number = same_Some own (form_of (map blind i.entry.left)) (sym is ∙ form_read r n f.0 i f.1) in
    none_hidden r n (family_of f.0) i.entry (raised_is r n f.0 i f.1) asked lines place window form ready there formed (λ e. other (number ∙ e ∙ sym same))

-- ---- one family after the other ----

-- where no earlier family satisfies `Meets asked`, a family's choice is the lowest
pub found_family : (asked : Bool) (r : Rules) (lines : List ListingLine) (place count n : ℕ) (c : Choice) → NoneOfFamilies asked r lines place count n → IsFamilyChoice r lines place count n c → IsLowestFamily r lines place count c
found_family asked r lines place count n c none f =
    let entry = f.entry in
    record {
      is = f.is;
      at = f.at;
      long = f.long;
      lowest = λ o a here long from. elim (cases_lt o.entry (length r.entries.now + n)) [
        | inl l ↦ absurd (none o (meets asked (setting_of r) o lines a) here long from l)
        | inr l ↦ omega arith
      ];
      lowest_instance = λ o a here long same. let one = f.only o a here long (same ∙ entry) in omega arith;
    }

-- with one family more
pub none_more : (was asked : Bool) (r : Rules) (lines : List ListingLine) (place count n : ℕ) → (was ≡ true → asked ≡ true) → NoneOfFamilies was r lines place count n → NoneOfFamily asked r lines place count n → NoneOfFamilies asked r lines place count (n + 1)
none_more was asked r lines place count n stays none one o m here long from below = elim (cases_lt o.entry (length r.entries.now + n)) [
  | inl l ↦ none o (meets_less was asked (setting_of r) o lines stays m) here long from l
  | inr l ↦ one o m here long (let e : o.entry ≡ length r.entries.now + n = omega arith in e)
]

-- ---- what the tries cost ----

-- a try of one family more
pub family_cost : (count : ℕ) (rules : List Rule) (n start before after : ℕ) → n < length rules → before ≤ start + of_length count (take n rules) → after ≤ before + from_bool (side_length rules n == count) → after ≤ start + of_length count (take (n + 1) rules)
family_cost count rules n start before after within b a = by (slice_get rules n) refl
  where
    by : (o : Option Rule) → slice_get rules n ≡ o → after ≤ start + of_length count (take (n + 1) rules)
    by None e = absurd (none_there rules n within e)
      where
        none_there : (rules : List Rule) (n : ℕ) → n < length rules → slice_get rules n ≡ None → ⊥
        none_there [] n h e = absurd (omega arith)
        none_there (r ∷ rs) zero h e = absurd (cc)
        none_there (r ∷ rs) (suc n) h e = none_there rs n (omega arith) e
    by (Some rule) e =
        let one : of_length count (take n rules) + from_bool (length rule.left == count) ≤ of_length count (take (suc n) rules) = taken_one count rules n rule e in
        let tried : from_bool (side_length rules n == count) ≡ from_bool (length rule.left == count) = ap (λ m. from_bool (m == count)) (length_at rules n rule e) in
        subst (λ m. after ≤ start + of_length count (take m rules)) (let k : suc n ≡ n + 1 = omega arith in k) (omega (arith, one, tried, b, a))

-- all tries cost no more than one of each
pub families_cost : (count : ℕ) (rules : List Rule) (n start after : ℕ) → after ≤ start + of_length count (take n rules) → after ≤ start + of_length count rules
families_cost count rules n start after a = let all = taken_all count rules n in omega (arith, all, a)
