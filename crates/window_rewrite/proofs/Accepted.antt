-- The rules of an accepted table fit.
use Rattle.std.proofs.Common.{◌≡◌, ℕ, List, length, map, Some, ap, ◌∙◌, slice_get}
use Rattle.std.specs.Option.{option_map}
use Rattle.std.proofs.lemmas.List.{length-map}
use Rattle.std.proofs.lemmas.Option.{slice_get-map}
use Rattle.rule_table.specs.Table.{Table}
use Rattle.table_audit.specs.Acceptance.{IsAccepted}
use Rattle.table_audit.specs.Soundness.{rewriting_rule, numbers_of, IsSound}
use Rattle.table_audit.proofs.Instances.{numbers_fit}
use Rattle.rule_table.specs.declared.table.Entry.{Entry}
use Rattle.rule_table.specs.Views.{rule_of}
use Rattle.window_rewrite.specs.Rules.{entry_rule, rules_in, AreFit, AreRaised}

pub are_fit : (t : Table) → IsAccepted t → IsSound t → AreFit t.header.left (numbers_of t)
are_fit t p s k i rule at = let f = numbers_fit t p s k i rule at in record { sound = f.0; canonical = f.1; short = f.2 }

-- and its families have entries to raise
pub are_raised : (t : Table) → IsSound t → AreRaised t.rules t.families
are_raised t s k f at = let own = s.families k f at in record { entry = own.entry; is_entry = own.is_entry; bytes = own.raisable.bytes; held = own.raisable.held }

pub rules_length : (entries : List Entry) → length (rules_in entries) ≡ length entries
rules_length entries = length-map (map rule_of entries) rewriting_rule ∙ length-map entries rule_of

-- an entry's rule stands at its place
pub entry_at : (entries : List Entry) (k : ℕ) (e : Entry) → slice_get entries k ≡ Some e → slice_get (rules_in entries) k ≡ Some (entry_rule e)
entry_at entries k e at =
    slice_get-map rewriting_rule (map rule_of entries) k
    ∙ ap (option_map rewriting_rule) (slice_get-map rule_of entries k ∙ ap (option_map rule_of) at)
