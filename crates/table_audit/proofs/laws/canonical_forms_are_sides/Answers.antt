use Rattle.table_audit.proofs.CanonicalForms.{form_is_side}
use Rattle.table_audit.proofs.laws.canonical_forms_are_sides.Goals as goal

pub returns : goal.returns
returns c = form_is_side
