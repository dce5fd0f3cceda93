use Rattle.std.proofs.Common.{◌≡◌, ◌↔◌, ◌∙◌, ◌+◌, ◌*◌, ◌<◌, IfOk, sym, subst, arith, rules}
use Rattle.std.proofs.lemmas.Result.{IfOk-weaker}
use Rattle.bit_blast.specs.Slots.{slots}
use Rattle.bit_blast.specs.Differences.{start_bits, low_inputs, range_built, family_formula}
use Rattle.bit_blast.specs.Exactness.{HasNoModel, FamilyModelsTell, FamilyTellersAreModels, AreEqualForAll}
use Rattle.bit_blast.proofs.Holes.{slots_over}
use Rattle.bit_blast.proofs.TwoSides.{same_formula, over_start}
use Rattle.bit_blast.proofs.Families.{family_models_tell, family_tellers_are_models, no_model_is_equal_for_all}
use Rattle.bit_blast.proofs.sides.family_formula.Goals as goal

pub formula_from-requires-clause-left : goal.formula_from-requires-clause-left
formula_from-requires-clause-left c =
    let bits : c.in_ok-start.start ≡ start_bits c.args.k = search rules in
    over_start c.args.k c.in_ok-start.start c.deref.result.now (slots c.args.symbol.number c.args.left.now) bits (c.deref.ensures.value ∙ c.in_ok-left.ensures) (slots_over c.args.k c.args.symbol.number c.args.left.now c.requires.left)

pub formula_from-requires-clause-right : goal.formula_from-requires-clause-right
formula_from-requires-clause-right c =
    let bits : c.in_ok-start.start ≡ start_bits c.args.k = search rules in
    over_start c.args.k c.in_ok-start.start c.deref-2.result.now (slots c.args.symbol.number c.args.right.now) bits (c.deref-2.ensures.value ∙ c.in_ok-right.ensures) (slots_over c.args.k c.args.symbol.number c.args.right.now c.requires.right)

pub returns-clause-stated : goal.returns-clause-stated
returns-clause-stated c =
    let bits : c.in_ok-start.start ≡ start_bits c.args.k = search rules in
    let same = same_formula c.symbol_inputs.new.builder (range_built c.args.k c.args.symbol) c.in_ok-start.start (start_bits c.args.k) c.in_ok-word.word (low_inputs (32 * c.args.k + 4) 8) c.deref.result.now (slots c.args.symbol.number c.args.left.now) c.deref-2.result.now (slots c.args.symbol.number c.args.right.now) c.args.mask.items.bits
    c.in_ok-word.ensures.0 bits c.in_ok-word.ensures.1 (c.deref.ensures.value ∙ c.in_ok-left.ensures) (c.deref-2.ensures.value ∙ c.in_ok-right.ensures) in
    subst (λ y. IfOk c.formula_from.result (λ f. f ≡ y)) same c.formula_from.ensures

pub returns-clause-models_tell : goal.returns-clause-models_tell
returns-clause-models_tell c =
    let small : c.args.symbol.low < 256 = omega arith in
    IfOk-weaker c.formula_from.result (λ f. f ≡ family_formula c.args.left.now c.args.right.now c.args.symbol c.args.mask.items.bits c.args.k) (λ f. FamilyModelsTell f c.args.left.now c.args.right.now c.args.symbol c.args.mask.items.bits c.args.k)
    (λ f e. subst (λ g. FamilyModelsTell g c.args.left.now c.args.right.now c.args.symbol c.args.mask.items.bits c.args.k) (sym e)
    (family_models_tell c.args.left.now c.args.right.now c.args.symbol c.args.mask.items.bits c.args.k small c.requires.left c.requires.right))
    (returns-clause-stated c)

pub returns-clause-tellers_are_models : goal.returns-clause-tellers_are_models
returns-clause-tellers_are_models c =
    let small : c.args.symbol.low < 256 = omega arith in
    IfOk-weaker c.formula_from.result (λ f. f ≡ family_formula c.args.left.now c.args.right.now c.args.symbol c.args.mask.items.bits c.args.k) (λ f. FamilyTellersAreModels f c.args.left.now c.args.right.now c.args.symbol c.args.mask.items.bits c.args.k)
    (λ f e. subst (λ g. FamilyTellersAreModels g c.args.left.now c.args.right.now c.args.symbol c.args.mask.items.bits c.args.k) (sym e)
    (family_tellers_are_models c.args.left.now c.args.right.now c.args.symbol c.args.mask.items.bits c.args.k small c.requires.left c.requires.right c.args.mask.in_masks c.requires.mask))
    (returns-clause-stated c)

pub returns-clause-none_where_equal : goal.returns-clause-none_where_equal
returns-clause-none_where_equal c =
    let small : c.args.symbol.low < 256 = omega arith in
    IfOk-weaker c.formula_from.result (λ f. f ≡ family_formula c.args.left.now c.args.right.now c.args.symbol c.args.mask.items.bits c.args.k) (λ f. HasNoModel f ↔ AreEqualForAll c.args.left.now c.args.right.now c.args.symbol c.args.mask.items.bits)
    (λ f e. subst (λ g. HasNoModel g ↔ AreEqualForAll c.args.left.now c.args.right.now c.args.symbol c.args.mask.items.bits) (sym e)
    (no_model_is_equal_for_all c.args.left.now c.args.right.now c.args.symbol c.args.mask.items.bits c.args.k small c.requires.left c.requires.right c.args.mask.in_masks c.requires.mask))
    (returns-clause-stated c)
