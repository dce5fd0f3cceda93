-- What sequences and listings cost.
use Rattle.std.proofs.Common.{take-append-drop, drop-drop, ◌≡◌, ℕ, ◌+◌, ◌<◌, List, [], ◌∷◌, ◌++◌, length, take, drop, map, refl, sym, ap, ◌∙◌, arith}
use Rattle.std.proofs.lemmas.List.Sums.{sum_by-cons, sum_by-append}
use Rattle.thumb_instr.specs.declared.instr.Instr.{Instr}
use Rattle.thumb_instr.specs.Window.{Low, renamed}
use Rattle.thumb_model.specs.Listing.{Place, Op, Word, plain, Code}
use Rattle.thumb_model.specs.Effect.{normalised}
use Rattle.thumb_model.specs.Replaced.{replaced}
use Rattle.rule_model.specs.Rules.{Rule, weight, Applies}
use Rattle.rule_model.specs.Laws.{instructions, CostsAreKept}

-- a sequence that costs more than another isn't empty
pub lowers_some : (cost : Instr → ℕ) (left right : List Instr) → weight cost right < weight cost left → 0 < length left
lowers_some cost [] right h = absurd (omega arith)
lowers_some cost (i ∷ is) right h = omega arith

-- where each instruction costs 1, a sequence costs its length
pub weight_is_length : (cost : Instr → ℕ) → ((i : Instr) → cost i ≡ 1) → (is : List Instr) → weight cost is ≡ length is
weight_is_length cost one [] = refl
weight_is_length cost one (i ∷ is) =
    let whole = sum_by-cons cost i is in
    let first = one i in
    let rest = weight_is_length cost one is in
    omega arith

-- ---- places ----

pub instructions_append : (xs ys : List Place) → instructions (xs ++ ys) ≡ instructions xs ++ instructions ys
instructions_append [] ys = refl
instructions_append (Op i mention ∷ xs) ys = ap (λ is. i ∷ is) (instructions_append xs ys)
instructions_append (Word v ∷ xs) ys = instructions_append xs ys

pub instructions_plain : (is : List Instr) → instructions (map plain is) ≡ is
instructions_plain [] = refl
instructions_plain (i ∷ is) = ap (λ js. i ∷ js) (instructions_plain is)

split : (p n : ℕ) (xs : List Place) → xs ≡ take p xs ++ (take n (drop p xs) ++ drop (p + n) xs)
split p n xs =
    sym (take-append-drop p xs)
    ∙ ap (λ l. take p xs ++ l) (sym (take-append-drop n (drop p xs)) ∙ ap (λ l. take n (drop p xs) ++ l) (drop-drop n p xs))

-- ---- a replacement ----

module _ (cost : Instr → ℕ) where
  -- what a list of places costs
  abbrev paid : List Place → ℕ
  paid ps = weight cost (instructions ps)

  paid_append : (xs ys : List Place) → paid (xs ++ ys) ≡ paid xs + paid ys
  paid_append xs ys = ap (weight cost) (instructions_append xs ys) ∙ sum_by-append cost (instructions xs) (instructions ys)

  paid_three : (xs ys zs : List Place) → paid (xs ++ (ys ++ zs)) ≡ paid xs + (paid ys + paid zs)
  paid_three xs ys zs = paid_append xs (ys ++ zs) ∙ ap (λ n. paid xs + n) (paid_append ys zs)

  paid_plain : (is : List Instr) → paid (map plain is) ≡ weight cost is
  paid_plain is = ap (weight cost) (instructions_plain is)

  module _ (kept : CostsAreKept cost) where
    weight_renamed : (registers : List Low) (is : List Instr) → weight cost (map (renamed registers) is) ≡ weight cost is
    weight_renamed registers [] = refl
    weight_renamed registers (i ∷ is) =
        let new = sum_by-cons cost (renamed registers i) (map (renamed registers) is) in
        let old = sum_by-cons cost i is in
        let first = kept.renaming registers i in
        let rest = weight_renamed registers is in
        omega arith

    weight_normalised : (is : List Instr) → weight cost (map normalised is) ≡ weight cost is
    weight_normalised [] = refl
    weight_normalised (i ∷ is) =
        let new = sum_by-cons cost (normalised i) (map normalised is) in
        let old = sum_by-cons cost i is in
        let first = kept.normal i in
        let rest = weight_normalised is in
        omega arith

    -- the cost of the right side replaces that of the left side
    pub weight_after : (rule : Rule) (registers : List Low) (code : Code) (p : ℕ) → Applies rule registers code p → paid (replaced code p (length rule.left) (map (renamed registers) rule.right)).places + weight cost rule.left ≡ paid code.places + weight cost rule.right
    weight_after rule registers code p a =
        let new = paid_three (take p code.places) (map plain (map (renamed registers) rule.right)) (drop (p + length rule.left) code.places) in
        let right : paid (map plain (map (renamed registers) rule.right)) ≡ weight cost rule.right = paid_plain (map (renamed registers) rule.right) ∙ weight_renamed registers rule.right in
        let old = ap paid (split p (length rule.left) code.places) ∙ paid_three (take p code.places) (take (length rule.left) (drop p code.places)) (drop (p + length rule.left) code.places) in
        let left : paid (take (length rule.left) (drop p code.places)) ≡ weight cost rule.left = ap paid a.stands ∙ paid_plain a.window ∙ sym (weight_normalised a.window) ∙ ap (weight cost) a.matches ∙ weight_renamed registers rule.left in
        omega arith
