-- What sequences weigh: renaming, the normal form and a value in the holes for a number keep it.
use Rattle.std.proofs.Common.{◌≡◌, ◌∙◌, ℕ, ◌<◌, ◌==◌, true, List, [], ◌∷◌, length, Option, Some, None, refl, ap, sym, arith}
use Rattle.std.specs.Prelude.{get_or}
use Rattle.std.proofs.lemmas.Bool.{ltb-true}
use Rattle.std.proofs.lemmas.List.Sums.{sum_by-cons}
use Rattle.thumb_instr.specs.declared.instr.Instr.{Instr}
use Rattle.thumb_instr.specs.declared.instr.Instr.TheVariants as instr
use Rattle.thumb_instr.specs.declared.operation.ByteOperation.TheVariants as byte
use Rattle.thumb_instr.specs.declared.operation.SumOperation.TheVariants as sum
use Rattle.thumb_instr.specs.Parts.{parts_of}
use Rattle.thumb_instr.specs.Window.{Low, renamed, byte_of}
use Rattle.thumb_model.specs.Effect.{normalised}
use Rattle.rule_model.specs.Rules.{Rule, weight}
use Rattle.rule_model.specs.Laws.{CostsAreKept}
use Rattle.rule_model.proofs.Costs.{lowers_some, weight_is_length}
use Rattle.bit_blast.specs.Slots.{Byte, filled, instance, slot}
use Rattle.bit_blast.specs.declared.slots.Slot.TheVariants.{Plain, Hole}
use Rattle.bit_blast.proofs.Holes.{by_test}
use Rattle.seq_enum.specs.Costs.{cost_under, mnemonic, weight_under}
use Rattle.window_rewrite.specs.Rules.{is_lighter}

-- ---- one instruction ----

-- instructions with the same mnemonic have the same cost
same_cost : (costs : Option (List ℕ)) (i j : Instr) → mnemonic (parts_of i).kind ≡ mnemonic (parts_of j).kind → cost_under costs i ≡ cost_under costs j
same_cost None i j e = refl
same_cost (Some costs) i j e = ap (λ n. get_or costs n 1) e

renamed_same : (registers : List Low) (i : Instr) → mnemonic (parts_of (renamed registers i)).kind ≡ mnemonic (parts_of i).kind
renamed_same registers (instr.Mov d m) = refl
renamed_same registers i = refl

normal_same : (i : Instr) → mnemonic (parts_of (normalised i)).kind ≡ mnemonic (parts_of i).kind
normal_same (instr.ThreeNumber sum.Add d n i) =
    by_test (λ j. mnemonic (parts_of j).kind ≡ 0) (d.number == n.number) (instr.TwoNumber byte.Add d (byte_of i)) (instr.ThreeNumber sum.Add d n i) (λ _. refl) (λ _. refl)
normal_same (instr.ThreeNumber sum.Sub d n i) =
    by_test (λ j. mnemonic (parts_of j).kind ≡ 1) (d.number == n.number) (instr.TwoNumber byte.Sub d (byte_of i)) (instr.ThreeNumber sum.Sub d n i) (λ _. refl) (λ _. refl)
normal_same i = refl

-- renaming and the normal form keep what an instruction costs
pub costs_kept : (costs : Option (List ℕ)) → CostsAreKept (cost_under costs)
costs_kept costs = record {
  renaming = λ registers i. same_cost costs (renamed registers i) i (renamed_same registers i);
  normal = λ i. same_cost costs (normalised i) i (normal_same i);
}

filled_same : (n : ℕ) (i : Instr) (x : Byte) → mnemonic (parts_of (filled x (slot n i))).kind ≡ mnemonic (parts_of i).kind
filled_same n (instr.TwoNumber o d j) x =
    by_test (λ s. mnemonic (parts_of (filled x s)).kind ≡ mnemonic (parts_of (instr.TwoNumber o d j)).kind) (j.number == n) (Hole o d) (Plain (instr.TwoNumber o d j)) (λ _. refl) (λ _. refl)
filled_same n i x = refl

-- ---- sequences ----

-- the sum of what instructions cost
pub weight_is : (costs : Option (List ℕ)) (is : List Instr) → weight (cost_under costs) is ≡ weight_under costs is
weight_is None is = weight_is_length (cost_under None) (λ i. refl) is
weight_is (Some costs) is = refl

-- a value in the holes makes no difference
pub weight_raised : (costs : Option (List ℕ)) (n : ℕ) (side : List Instr) (x : Byte) → weight_under costs (instance n side x) ≡ weight_under costs side
weight_raised costs n side x = sym (weight_is costs (instance n side x)) ∙ by side ∙ weight_is costs side
  where
    by : (is : List Instr) → weight (cost_under costs) (instance n is x) ≡ weight (cost_under costs) is
    by [] = refl
    by (i ∷ is) =
        let new = sum_by-cons (cost_under costs) (filled x (slot n i)) (instance n is x) in
        let old = sum_by-cons (cost_under costs) i is in
        let first = same_cost costs (filled x (slot n i)) i (filled_same n i x) in
        let rest = by is in
        omega arith

-- a sequence that weighs more than another isn't empty
pub lighter_some : (costs : Option (List ℕ)) (left right : List Instr) → weight_under costs right < weight_under costs left → 0 < length left
lighter_some costs left right h =
    let l = weight_is costs left in
    let r = weight_is costs right in
    lowers_some (cost_under costs) left right (omega arith)

-- without costs each instruction costs 1
pub lowers_same : (costs : Option (List ℕ)) (left right : List Instr) → weight_under costs right < weight_under costs left → weight (cost_under costs) right < weight (cost_under costs) left
lowers_same costs left right h =
    let l = weight_is costs left in
    let r = weight_is costs right in
    omega arith

pub same_lowers : (costs : Option (List ℕ)) (left right : List Instr) → weight (cost_under costs) right < weight (cost_under costs) left → weight_under costs right < weight_under costs left
same_lowers costs left right h =
    let l = weight_is costs left in
    let r = weight_is costs right in
    omega arith

-- a rule that is lighter
pub lighter_true : (costs : Option (List ℕ)) (rule : Rule) → is_lighter costs rule ≡ true → weight_under costs rule.right < weight_under costs rule.left
lighter_true costs rule h = ltb-true (weight_under costs rule.right) (weight_under costs rule.left) h
