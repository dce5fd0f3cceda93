use Rattle.std.proofs.Common.{ℕ, ◌≡◌, ◌∙◌, [], rules, sym, ap, subst, arith, map, length, List}
use Rattle.window_exec.specs.declared.state.WState.{WState}
use Rattle.window_exec.specs.State.{seen, Seen}
use Rattle.fingerprints.specs.Seeded.{seeded_states}
use Rattle.rule_table.specs.declared.table.Entry.{Entry}
use Rattle.rule_table.specs.Table.{Rule, Table}
use Rattle.rule_table.specs.Text.{text_of}
use Rattle.rule_table.specs.Views.{header_of, rule_of, family_of, table_of}
use Rattle.rule_table.specs.Header.{IsHeader}
use Rattle.table_learn.specs.Given.{settings_of}
use Rattle.table_learn.specs.Learnt.{text_length}
use Rattle.table_learn.specs.Progress.{Progress, table_with}
use Rattle.table_learn.proofs.Gains.{start}
use Rattle.table_learn.proofs.TextLengths.{text_begins}
use Rattle.table_learn.proofs.learning.begin.Goals as goal
use Rattle.table_audit.proofs.Limits.{states_count}

module _ (c : goal.After-drop-none) where
  taken_apart : record { header = header_of c.into_parts-settings.result.0; states = map seen c.into_parts-settings.result.1; rules = map rule_of c.into_parts-settings.result.2.items; families = map family_of c.into_parts-settings.result.3.items } ≡
      table_with (settings_of c.args.settings) (map seen c.into_vec-states.result.items) (map rule_of c.new.result.items)
  taken_apart = sym c.into_parts-settings.ensures ∙ c.table_of-table.ensures

  states : map seen c.into_vec.result.items ≡ map seen c.into_vec-states.result.items
  states = ap (λ (ss : List WState). map seen ss) c.into_vec.ensures ∙ ap (λ (t : Table). t.states) taken_apart

  seeds : map seen c.into_vec.result.items ≡ seeded_states c.args.settings.seed
  seeds = states ∙ ap (λ (ss : List WState). map seen ss) c.into_vec-states.ensures ∙ c.in_ok-seeded.ensures

  none : map rule_of c.into_parts-settings.result.2.items ≡ []
  none = ap (λ (t : Table). t.rules) taken_apart ∙ ap (λ (es : List Entry). map rule_of es) c.new.ensures.items

  progress : Progress (settings_of c.args.settings) [] (map seen c.into_vec.result.items) []
  progress = start (settings_of c.args.settings) (map seen c.into_vec.result.items) seeds

  bytes : c.len-bytes.result ≡ text_length (table_with (settings_of c.args.settings) (map seen c.into_vec.result.items) [])
  bytes =
      let n : c.len-bytes.result ≡ length c.in_ok-write_table.field-0.items = search rules in
      let w : c.in_ok-write_table.field-0.items ≡ text_of (table_of c.table_of-table.result) = c.in_ok-write_table.ensures in
      n ∙ ap (λ (t : List ℕ). length t) w ∙ ap (λ (t : Table). text_length t) c.table_of-table.ensures
      ∙ ap (λ (ss : List Seen). text_length (table_with (settings_of c.args.settings) ss (map rule_of c.new.result.items))) (sym states)
      ∙ ap (λ (rs : List Rule). text_length (table_with (settings_of c.args.settings) (map seen c.into_vec.result.items) rs)) (ap (λ (es : List Entry). map rule_of es) c.new.ensures.items)

  is_header : IsHeader (settings_of c.args.settings)
  is_header = c.requires.limits.header

pub returns-clause-same : goal.returns-clause-same
returns-clause-same c = ap (λ (t : Table). t.header) (taken_apart c)

pub returns-clause-begun : goal.returns-clause-begun
returns-clause-begun c = record {
  progress = subst (λ (rs : List Rule). Progress (settings_of c.args.settings) [] (map seen c.into_vec.result.items) rs) (sym (none c)) (progress c);
  bytes = bytes c ∙ ap (λ (rs : List Rule). text_length (table_with (settings_of c.args.settings) (map seen c.into_vec.result.items) rs)) (sym (none c));
  kept = λ start at. c.new-2.ensures c.args.settings.pool start;
}

pub returns-clause-short : goal.returns-clause-short
returns-clause-short c =
    let many : length (map seen c.into_vec.result.items) ≡ 64 = ap (λ (ss : List Seen). length ss) (seeds c) ∙ states_count 64 _ in
    let short = text_begins (settings_of c.args.settings) (map seen c.into_vec.result.items) (is_header c) (progress c).valid many in
    omega (arith, bytes c, short)
