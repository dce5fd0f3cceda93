use Rattle.std.proofs.Common.{◌≡◌, ◌∙◌, true, List, ap, arith, subst, sym}
use Rattle.std.specs.List.{list_any}
use Rattle.std.proofs.lemmas.Option.{same_Some}
use Rattle.thumb_instr.specs.declared.instr.Instr.{Instr}
use Rattle.bit_blast.specs.Slots.{Byte, instance}
use Rattle.table_audit.specs.Families.{is_hole}
use Rattle.window_rewrite.proofs.families.instance_at.Goals as goal
use Rattle.window_rewrite.proofs.families.instance_at.Goals.{then-value-family-via-then-value-family, then-value-family-via-else-value-family+then-family-value}

pub returns-then-value-family : goal.returns-then-value-family
returns-then-value-family c = λ x within same.
    let held : list_any (is_hole c.args.family.now.number) c.as_slice.result.now ≡ true = subst (λ (l : List Instr). list_any (is_hole c.args.family.now.number) l ≡ true) (sym c.as_slice.ensures.value) c.requires.held in
    let there : instance c.args.family.now.number c.as_slice.result.now x ≡ c.args.side.now = ap (λ (l : List Instr). instance c.args.family.now.number l x) c.as_slice.ensures.value ∙ same in
    let value : c.in-Some.value ≡ x = same_Some c.in-Some.value x (sym c.in-Some.is ∙ c.value_at.ensures x held there) in
    let number : c.in-Some.value.number ≡ x.number = ap (λ (b : Byte). b.number) value in
    let from = within.0 in
    let to = within.1 in
    elim c.then-value-family.branch [
      | then-value-family-via-then-value-family w ↦ (let h = w.if-value-family.true in omega arith)
      | then-value-family-via-else-value-family+then-family-value w ↦ (let h = w.if-family-value.true in omega arith)
    ]

pub returns-in-None : goal.returns-in-None
returns-in-None c = λ x within same.
    let held : list_any (is_hole c.args.family.now.number) c.as_slice.result.now ≡ true = subst (λ (l : List Instr). list_any (is_hole c.args.family.now.number) l ≡ true) (sym c.as_slice.ensures.value) c.requires.held in
    let there : instance c.args.family.now.number c.as_slice.result.now x ≡ c.args.side.now = ap (λ (l : List Instr). instance c.args.family.now.number l x) c.as_slice.ensures.value ∙ same in
    let bad = sym c.in-None.is ∙ c.value_at.ensures x held there in
    cc

pub returns-else-family-value : goal.returns-else-family-value
returns-else-family-value c = record {
  value = c.in-Some.value;
  among = (let h = c.if-value-family.false in omega arith, let h = c.if-family-value.false in omega arith);
  is = c.instance_with.ensures;
  only = λ x same.
      let held : list_any (is_hole c.args.family.now.number) c.as_slice.result.now ≡ true = subst (λ (l : List Instr). list_any (is_hole c.args.family.now.number) l ≡ true) (sym c.as_slice.ensures.value) c.requires.held in
      let there : instance c.args.family.now.number c.as_slice.result.now x ≡ c.args.side.now = ap (λ (l : List Instr). instance c.args.family.now.number l x) c.as_slice.ensures.value ∙ same in
      sym (same_Some c.in-Some.value x (sym c.in-Some.is ∙ c.value_at.ensures x held there));
}
