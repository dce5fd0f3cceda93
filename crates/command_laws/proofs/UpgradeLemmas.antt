-- The audit's verdict doesn't depend on a table's version, so that a table and its upgrade have the same.
use Rattle.std.proofs.Common.{◌≡◌, ◌∙◌, inl, inr, ℕ, ◌≤◌, [], false, refl, ap, arith, max, leb-false}
use Rattle.std.proofs.lemmas.Bool.{cases_Bool, leb-true}
use Rattle.rule_table.specs.Header.{has_families}
use Rattle.rule_table.specs.Text.{text_of}
use Rattle.audit_cli.specs.Upgrade.{upgraded}
use Rattle.rule_table.proofs.Beginnings.{header_raised}
use Rattle.audit_cli.proofs.VersionLemmas.{in_version, verdict}
use Rattle.command_laws.specs.Upgrading.{UpgradesAreAuditedAlike, UpgradesAreTables, UpgradesRewriteAlike, LaterTablesAreKept}

pub upgrades_audited_alike : UpgradesAreAuditedAlike
upgrades_audited_alike t o = (verdict (max 2 t.header.version) t o, verdict t.header.version (upgraded t) o)

-- ---- texts ----

pub upgrades_are_tables : UpgradesAreTables
upgrades_are_tables t h = record {
  header = header_raised 2 t.header (omega arith) (omega arith) h.header;
  states = h.states;
  rules = h.rules;
  families = h.families;
  none_before = early;
}
  where
    early : has_families (upgraded t).header.version ≡ false → t.families ≡ []
    early none = elim (cases_Bool (has_families t.header.version)) [
      | inl has ↦ (let late = leb-false 3 (max 2 t.header.version) none in let three = leb-true 3 t.header.version has in absurd (omega (arith, late, three)))
      | inr has ↦ h.none_before has
    ]

pub upgrades_rewrite_alike : UpgradesRewriteAlike
upgrades_rewrite_alike t base = refl

later : (v : ℕ) → 2 ≤ v → max 2 v ≡ v
later v h = omega arith

pub later_are_kept : LaterTablesAreKept
later_are_kept text t is h = ap (λ (v : ℕ). text_of (in_version v t)) (later t.header.version h) ∙ is.whole
