-- The search through the families whose left sides may stand in a window.
use Rattle.std.proofs.Common.{◌≡◌, ℕ, ◌+◌, ◌-◌, ◌<◌, ◌≤◌, ◌==◌, Bool, true, List, length, map, take, Option, Some, None, refl, sym, ap, ◌∙◌, subst, arith, inl, inr}
use Rattle.std.specs.Prelude.{slice_get}
use Rattle.std.specs.Int.{from_bool}
use Rattle.std.proofs.lemmas.Bool.{cases_lt}
use Rattle.std.proofs.lemmas.List.{length-map}
use Rattle.std.proofs.lemmas.Option.{slice_get_within}
use Rattle.thumb_instr.specs.declared.instr.Instr.{Instr}
use Rattle.thumb_model.specs.Listing.{ListingLine}
use Rattle.rule_table.specs.Views.{family_of, rule_of}
use Rattle.table_audit.specs.Families.{entry_at}
use Rattle.thumb_model.specs.Replaced.{IsWindow}
use Rattle.window_rewrite.specs.declared.choice.Choice.{Choice}
use Rattle.window_rewrite.specs.declared.finding.Rules.{Rules}
use Rattle.window_rewrite.specs.declared.forms.Form.{Form}
use Rattle.window_rewrite.specs.Choices.{families_sides, of_length, AreReady}
use Rattle.window_rewrite.specs.Families.{family_forms, AwaitsFamily, IsFamilyChoice, IsLowestFamily, NoneOfFamily, NoneOfFamilies}
use Rattle.window_rewrite.specs.Fitting.{IsForm}
use Rattle.window_rewrite.specs.Forms.{form_of}
use Rattle.window_rewrite.specs.Rules.{chain_of, chains_of, is_marked, raised_rule, side_length}
use Rattle.window_rewrite.specs.Hashes.{blind}
use Rattle.window_rewrite.proofs.Chosen.{left_of, taken_more}
use Rattle.window_rewrite.proofs.Keys.{all_marked, as_many_chains, chain_at, form_there, found, nothing, IsFound}
use Rattle.window_rewrite.proofs.Raised.{families_cost, family_cost, forms_many, found_family, none_hidden_at, none_more}

abbrev pub chains_in : Rules → List ℕ
chains_in r = chains_of (family_forms r)

-- the invariant of the search: families below k don't satisfy `Meets asked` at the place, and `at` is the next one in the chain of this side
pub record IsFamilySearch (asked : Bool) (r : Rules) (lines : List ListingLine) (place count : ℕ) (side : List Instr) (at : Option ℕ) (start steps : ℕ) : Type 0 where
  pub k : ℕ
  pub awaits : AwaitsFamily r side k at
  pub none : NoneOfFamilies asked r lines place count k
  pub cost : steps ≤ start + of_length count (take k (families_sides r))

pub family_search_begins : (asked : Bool) (r : Rules) (lines : List ListingLine) (place count : ℕ) (side : List Instr) (at : Option ℕ) (start : ℕ) → AwaitsFamily r side 0 at → IsFamilySearch asked r lines place count side at start start
family_search_begins asked r lines place count side at start a = record {
  k = 0;
  awaits = a;
  none = λ o m here long from below. absurd (omega arith);
  cost = omega arith;
}

-- there are as many hashes as families
many_forms : (r : Rules) → length (family_forms r) ≡ length r.families.now
many_forms r = forms_many (map rule_of r.entries.now) (map family_of r.families.now) ∙ length-map r.families.now family_of

many_chains : (r : Rules) → length (chains_in r) ≡ length r.families.now
many_chains r = as_many_chains (family_forms r) ∙ many_forms r

pub many_sides : (r : Rules) → length (families_sides r) ≡ length r.families.now
many_sides r = length-map (map family_of r.families.now) (λ f. raised_rule (entry_at (map rule_of r.entries.now) f.entry)) ∙ length-map r.families.now family_of

-- each family is looked for
is_kept : (r : Rules) (n : ℕ) → AreReady r → n < length r.families.now → is_marked r.index.now.families.kept.items n ≡ true
is_kept r n ready h = ap (λ (kept : List Bool). is_marked kept n) ready.index.all ∙ all_marked (length (map family_of r.families.now)) n (omega (arith, h, length-map r.families.now family_of))

-- the list of next ones has an element for each family
pub nexts_within : (r : Rules) (n : ℕ) → AreReady r → n < length r.families.now → n < length r.index.now.families.nexts.items
nexts_within r n ready h = omega (arith, h, ready.index.family_chains.as_many, many_forms r)

-- what the search cost so far
pub family_search_spent : (asked : Bool) (r : Rules) (lines : List ListingLine) (place count : ℕ) (side : List Instr) (at : Option ℕ) (start steps : ℕ) → IsFamilySearch asked r lines place count side at start steps → steps ≤ start + of_length count (families_sides r)
family_search_spent asked r lines place count side at start steps s = families_cost count (families_sides r) s.k start steps s.cost

module _ (r : Rules) (side : List Instr) (ready : AreReady r) where
  abbrev hidden : ℕ
  hidden = chain_of (family_forms r) (form_of (map blind side))

  abbrev kept : List Bool
  kept = r.index.now.families.kept.items

  abbrev Awaited : ℕ → ℕ → Type 0
  Awaited k n = IsFound (chains_in r) kept hidden k n

  awaited_family : (k n : ℕ) (at : Option ℕ) → AwaitsFamily r side k at → at ≡ Some n → Awaited k n
  awaited_family k n at a e = found (chains_in r) kept hidden k n (sym a ∙ e)

  within : (k n : ℕ) → Awaited k n → n < length r.families.now
  within k n f = omega (arith, slice_get_within (chains_in r) n hidden f.at, many_chains r)

  pub family_within : (k n : ℕ) (at : Option ℕ) → AwaitsFamily r side k at → at ≡ Some n → n < length r.families.now
  family_within k n at a e = within k n (awaited_family k n at a e)

  -- the next one is behind it
  pub family_behind : (n : ℕ) (next : Option ℕ) → n < length r.families.now → slice_get r.index.now.families.nexts.items n ≡ Some next → slice_get (chains_in r) n ≡ Some hidden → AwaitsFamily r side (n + 1) next
  family_behind n next h at f = ready.index.family_chains.nexts n hidden next (omega arith) f (is_kept r n ready h) at

  pub family_smaller : (k n : ℕ) (at next : Option ℕ) → AwaitsFamily r side k at → at ≡ Some n → slice_get r.index.now.families.nexts.items n ≡ Some next → left_of (families_sides r) next < left_of (families_sides r) at
  family_smaller k n at next a e follows =
      let f = awaited_family k n at a e in
      let inside = within k n f in
      subst (λ o. left_of (families_sides r) next < left_of (families_sides r) o) (sym e) (by next refl (family_behind n next inside follows f.at) inside)
    where
      by : (o : Option ℕ) → next ≡ o → AwaitsFamily r side (n + 1) next → n < length r.families.now → left_of (families_sides r) o < length (families_sides r) - n
      by None g b inside = omega (arith, inside, many_sides r)
      by (Some m) g b inside =
          let f = awaited_family (n + 1) m next b g in
          let from = f.from in
          omega (arith, inside, from, within (n + 1) m f, many_sides r)

  module _ (lines : List ListingLine) (place : ℕ) (window : List Instr) (form : Form) (there : IsWindow lines place window) (formed : IsForm window form) (same : side ≡ form.side) where
    -- where no family from k to n is in the chain, none of these satisfies `Meets asked`
    none_until : (asked : Bool) (k n : ℕ) → n ≤ length r.families.now → NoneOfFamilies asked r lines place (length window) k → ((j : ℕ) → k ≤ j → j < n → slice_get (chains_in r) j ≡ Some hidden → ⊥) → NoneOfFamilies asked r lines place (length window) n
    none_until asked k n most none gap o m here long from below = elim (cases_lt o.entry (length r.entries.now + k)) [
      | inl l ↦ none o m here long from l
      | inr l ↦ (
          let j : ℕ = o.entry - length r.entries.now in
          let inside : j < length r.families.now = omega arith in
          let own = form_there (family_forms r) j (omega (arith, inside, many_forms r)) in
          none_hidden_at asked r j own.0 (form_of (map blind side)) lines place window form inside ready there formed own.1 (ap (λ (s : List Instr). form_of (map blind s)) same)
          (λ e. gap j (omega arith) (omega arith) (chain_at (family_forms r) j own.0 own.1 ∙ ap (λ f. Some (chain_of (family_forms r) f)) e)) o m here long (let s : o.entry ≡ length r.entries.now + j = omega arith in s)
          )
    ]

    none_before : (asked : Bool) (k n : ℕ) (at : Option ℕ) → AwaitsFamily r side k at → at ≡ Some n → NoneOfFamilies asked r lines place (length window) k → NoneOfFamilies asked r lines place (length window) n
    none_before asked k n at a e none =
        let f = awaited_family k n at a e in
        let inside = within k n f in
        none_until asked k n (omega arith) none (λ j h l g. f.none j h l g (is_kept r j ready (omega (arith, l, inside))))

    -- a family is the lowest where it applies
    pub family_found : (asked : Bool) (n : ℕ) (at : Option ℕ) (start steps : ℕ) (c : Choice) → IsFamilySearch asked r lines place (length window) side at start steps → at ≡ Some n → IsFamilyChoice r lines place (length window) n c
        → IsLowestFamily r lines place (length window) c
    family_found asked n at start steps c s e choice = found_family asked r lines place (length window) n c (none_before asked s.k n at s.awaits e s.none) choice

    -- where there is no next one, no family satisfies `Meets asked`
    pub family_none : (asked : Bool) (at : Option ℕ) (start steps : ℕ) → IsFamilySearch asked r lines place (length window) side at start steps → at ≡ None → NoneOfFamilies asked r lines place (length window) (length r.families.now)
    family_none asked at start steps s e =
        none_until asked s.k (length r.families.now) (omega arith) s.none (λ j h l g. nothing (chains_in r) kept hidden s.k (sym s.awaits ∙ e) j h g (is_kept r j ready l))

    -- what the tries cost with one family more
    pub family_counted : (asked : Bool) (n : ℕ) (at : Option ℕ) (start steps after : ℕ) → IsFamilySearch asked r lines place (length window) side at start steps → at ≡ Some n
        → after ≤ steps + from_bool (side_length (families_sides r) n == length window) → after ≤ start + of_length (length window) (take (n + 1) (families_sides r))
    family_counted asked n at start steps after s e cost =
        let f = awaited_family s.k n at s.awaits e in
        let from = f.from in
        let before = s.cost in
        let more = taken_more (length window) (families_sides r) s.k n from in
        family_cost (length window) (families_sides r) n start steps after (omega (arith, within s.k n f, many_sides r)) (omega (arith, before, more)) cost

    pub family_search_cost : (asked : Bool) (n : ℕ) (at : Option ℕ) (start steps after : ℕ) → IsFamilySearch asked r lines place (length window) side at start steps → at ≡ Some n
        → after ≤ steps + from_bool (side_length (families_sides r) n == length window) → after ≤ start + of_length (length window) (families_sides r)
    family_search_cost asked n at start steps after s e cost = families_cost (length window) (families_sides r) (n + 1) start after (family_counted asked n at start steps after s e cost)

    -- and the search goes on
    pub family_next : (was asked : Bool) (n : ℕ) (at next : Option ℕ) (start steps after : ℕ) → IsFamilySearch was r lines place (length window) side at start steps → at ≡ Some n → (was ≡ true → asked ≡ true)
        → NoneOfFamily asked r lines place (length window) n → slice_get r.index.now.families.nexts.items n ≡ Some next → after ≤ steps + from_bool (side_length (families_sides r) n == length window)
        → IsFamilySearch asked r lines place (length window) side next start after
    family_next was asked n at next start steps after s e stays none follows cost =
        let f = awaited_family s.k n at s.awaits e in
        record {
          k = n + 1;
          awaits = family_behind n next (within s.k n f) follows f.at;
          none = none_more was asked r lines place (length window) n stays (none_before was s.k n at s.awaits e s.none) none;
          cost = family_counted was n at start steps after s e cost;
        }
