use Rattle.std.proofs.Common.{◌∙◌, ap, sym, true≢false}
use Rattle.table_audit.specs.Soundness.{items_in}
use Rattle.window_rewrite.proofs.shadows.are_alike.Goals as goal

pub returns-then-not-needs_scratch : goal.returns-then-not-needs_scratch
returns-then-not-needs_scratch c = λ _. record {
  left = sym c.as_slice-left.ensures.value ∙ c.are_same.ensures.same c.if-not-are_same.false ∙ c.as_slice.ensures.value;
  mask = ap items_in c.if-entry-other.false;
  as_long = sym c.len.ensures.value ∙ c.if-len.false ∙ c.len-2.ensures.value;
  no_more = λ h. absurd (true≢false (sym h ∙ sym c.needs_scratch.ensures ∙ c.if-not-needs_scratch.true));
}

pub returns : goal.returns
returns c = λ same. record {
  left = sym c.as_slice-left.ensures.value ∙ c.are_same.ensures.same c.if-not-are_same.false ∙ c.as_slice.ensures.value;
  mask = ap items_in c.if-entry-other.false;
  as_long = sym c.len.ensures.value ∙ c.if-len.false ∙ c.len-2.ensures.value;
  no_more = λ _. sym c.needs_scratch-2.ensures ∙ same;
}
