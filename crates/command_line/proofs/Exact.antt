-- The reading of `Reading` is exact: the words that it accepts are a command, and it accepts each command.
use Rattle.std.proofs.Common.{◌≡◌, ◌∙◌, inl, inr, ◌+◌, ◌≤◌, ◌&&◌, ◌==◌, ℕ, zero, suc, Bool, true, false, not, List, [], ◌∷◌, length, map, Option, Some, None, refl, sym, ap, arith, true≢false, eq-eqb, eqb-true}
use Rattle.std.specs.Prelude.{slice_get}
use Rattle.std.specs.List.{list_all}
use Rattle.command_line.specs.Words.{Text, Given, IsCommand, are_distinct, is_one_of, value_of}
use Rattle.command_line.proofs.Reading.{free, uses, once_after}
use Rattle.command_line.proofs.Law.{Each, verdict_by}
use Rattle.command_line.proofs.Lookup.{at_from, lacks}
use Rattle.std.proofs.lemmas.Bool.{cases_Bool}
use Rattle.command_line.proofs.Items.{is_name, item_uses, line_of, line_uses, sound}
use Rattle.command_line.proofs.NamedValues.{are_apart, distinct_uses, full_has_none, has_none, item_values, lacks_values, once_distinct, option_values, options_of, padded, padded_full, padded_length, uses_fit, values, words_fit, words_of}

other_place : (k j : ℕ) → (k == k + suc j) ≡ false
other_place k j = elim (cases_Bool (k == k + suc j)) [
  | inl same ↦ absurd (let e : k ≡ k + suc j = eqb-true k (k + suc j) same in omega arith)
  | inr other ↦ other
]

pub at_left : (k : ℕ) (ids : List Text) (j : ℕ) → at_from k ids (k + j) ≡ slice_get ids j
at_left k [] j = refl
at_left k (id ∷ ids) zero = let e : k ≡ k + 0 = omega arith in rw (eq-eqb k (k + 0) e) refl
at_left k (id ∷ ids) (suc j) = let e : k + suc j ≡ (k + 1) + j = omega arith in rw (other_place k j) (ap (at_from (k + 1) ids) e ∙ at_left (k + 1) ids j)

module _ (name : Text) (ids opts : List Text) (names : list_all is_name opts ≡ true) (apart : are_apart ids opts ≡ true) where
  abbrev pub reading : List Text → Option (List Given)
  reading ws = uses (at_from 1 ids) (is_one_of opts) ws free 1

  abbrev pub verdict : List Text → Bool
  verdict ws = verdict_by (λ us. not (lacks ids us)) [] (reading ws)

  -- the words are read as these uses, which are these positional words and options
  pub record Agrees (ws ps : List Text) (gs us : List Given) : Type 0 where
    pub read : reading ws ≡ Some us
    pub once : once_after [] us ≡ true
    pub full : lacks ids us ≡ false
    pub words : values ids us ≡ map (λ p. Some p) ps
    pub options : (n : Text) → is_one_of opts n ≡ true → value_of n us ≡ value_of n gs

  pub agrees_verdict : (ws ps : List Text) (gs us : List Given) → Agrees ws ps gs us → verdict ws ≡ true
  agrees_verdict ws ps gs us a = rw (a.read, a.once, a.full) refl

  pub command_agrees : (ws ps : List Text) (gs : List Given) → IsCommand name opts (name ∷ ws) ps gs → length ps ≡ length ids → (us : List Given) × Agrees ws ps gs us
  command_agrees ws ps gs c count = (
    us,
    record {
      read = ap reading words ∙ line_uses opts names (at_from 1 ids) c.items c.rest ids 1 (at_left 1 ids) c.allowed ∙ made;
      once = once_distinct us ∙ distinct_uses opts c.items c.rest ids us apart c.allowed made ∙ ap are_distinct (sym c.chosen) ∙ c.once;
      full = lacks_values ids us ∙ ap has_none all ∙ full_has_none ps;
      words = all;
      options = λ n ours. option_values opts c.items c.rest ids us n apart ours made ∙ ap (value_of n) (sym c.chosen);
    },
  ) where
    words : ws ≡ line_of c.items c.rest
    words = let e : name ∷ ws ≡ name ∷ line_of c.items c.rest = c.spelling in cc

    fit : length (words_of c.items c.rest) ≤ length ids
    fit = let e : length ps ≡ length (words_of c.items c.rest) = ap length c.in_order in omega arith

    us : List Given
    us = (uses_fit c.items c.rest ids fit).0

    made : item_uses ids c.items c.rest ≡ Some us
    made = (uses_fit c.items c.rest ids fit).1

    all : values ids us ≡ map (λ p. Some p) ps
    all = item_values opts c.items c.rest ids us apart c.allowed made ∙ ap (padded ids) (sym c.in_order) ∙ padded_full ids ps count

  parts : (o : Option (List Given)) → verdict_by (λ us. not (lacks ids us)) [] o ≡ true → (us : List Given) × (o ≡ Some us) × (once_after [] us ≡ true) × (lacks ids us ≡ false)
  parts None e = absurd (true≢false (sym e))
  parts (Some us) e = go (once_after [] us) (lacks ids us) refl refl e where
    go : (a b : Bool) → once_after [] us ≡ a → lacks ids us ≡ b → (a && not b) ≡ true → (vs : List Given) × (Some us ≡ Some vs) × (once_after [] vs ≡ true) × (lacks ids vs ≡ false)
    go true false ea eb e = (us, refl, ea, eb)
    go true true ea eb e = absurd (true≢false (sym e))
    go false b ea eb e = absurd (true≢false (sym e))

  pub verdict_command : (ws : List Text) → Each (is_one_of opts) ws → verdict ws ≡ true
      → (us : List Given) × (ps : List Text) × (gs : List Given) × Agrees ws ps gs us × IsCommand name opts (name ∷ ws) ps gs
  verdict_command ws each e = go (parts (reading ws) e) where
    go : (us : List Given) × (reading ws ≡ Some us) × (once_after [] us ≡ true) × (lacks ids us ≡ false)
        → (us : List Given) × (ps : List Text) × (gs : List Given) × Agrees ws ps gs us × IsCommand name opts (name ∷ ws) ps gs
    go (us, read, once, full) =
        let i = sound opts names (at_from 1 ids) ws each free ids 1 (at_left 1 ids) us read in
        let padding = item_values opts i.items i.rest ids us apart i.allowed i.made in
        let enough = padded_length ids (words_of i.items i.rest) (ap has_none (sym padding) ∙ sym (lacks_values ids us) ∙ full) in
        let few = words_fit i.items i.rest ids us i.made in (
          us,
          words_of i.items i.rest,
          options_of i.items,
          record {
            read = read;
            once = once;
            full = full;
            words = padding ∙ padded_full ids (words_of i.items i.rest) (omega arith);
            options = λ n ours. option_values opts i.items i.rest ids us n apart ours i.made;
          },
          record {
            items = i.items;
            rest = i.rest;
            spelling = ap (λ l. name ∷ l) i.spelling;
            allowed = i.allowed;
            in_order = refl;
            chosen = refl;
            once = sym (distinct_uses opts i.items i.rest ids us apart i.allowed i.made) ∙ sym (once_distinct us) ∙ once;
          },
        )
