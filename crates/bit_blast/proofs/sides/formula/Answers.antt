use Rattle.std.proofs.Common.{◌≡◌, ◌↔◌, ◌∙◌, IfOk, sym, subst, map, false, rules}
use Rattle.std.proofs.lemmas.Result.{IfOk-weaker}
use Rattle.cnf_gates.specs.declared.bit.Bit.TheVariants.{Constant}
use Rattle.bit_blast.specs.declared.slots.Slot.TheVariants.{Plain}
use Rattle.bit_blast.specs.Words.{filled}
use Rattle.bit_blast.specs.Differences.{start_bits, start_built, sides_formula}
use Rattle.bit_blast.specs.Exactness.{ModelsTell, TellersAreModels, HasNoModel, AreEqual}
use Rattle.bit_blast.proofs.Holes.{plain_over}
use Rattle.bit_blast.proofs.TwoSides.{same_formula, over_start}
use Rattle.bit_blast.proofs.Exact.{models_tell, tellers_are_models, no_model_is_equal}
use Rattle.bit_blast.proofs.sides.formula.Goals as goal

pub formula_from-requires-clause-left : goal.formula_from-requires-clause-left
formula_from-requires-clause-left c =
    let bits : c.in_ok-start.start ≡ start_bits c.args.k = search rules in
    over_start c.args.k c.in_ok-start.start c.deref.result.now (map Plain c.args.left.now) bits (c.deref.ensures.value ∙ c.in_ok-left.ensures) (plain_over c.args.k c.args.left.now c.requires.left)

pub formula_from-requires-clause-right : goal.formula_from-requires-clause-right
formula_from-requires-clause-right c =
    let bits : c.in_ok-start.start ≡ start_bits c.args.k = search rules in
    over_start c.args.k c.in_ok-start.start c.deref-2.result.now (map Plain c.args.right.now) bits (c.deref-2.ensures.value ∙ c.in_ok-right.ensures) (plain_over c.args.k c.args.right.now c.requires.right)

pub returns-clause-stated : goal.returns-clause-stated
returns-clause-stated c =
    let built : c.inputs.new.builder ≡ start_built c.args.k = search rules in
    let bits : c.in_ok-start.start ≡ start_bits c.args.k = search rules in
    let same = same_formula c.inputs.new.builder (start_built c.args.k) c.in_ok-start.start (start_bits c.args.k) c.filled-symbol.result (filled (Constant false)) c.deref.result.now (map Plain c.args.left.now) c.deref-2.result.now (map Plain c.args.right.now) c.args.mask.items.bits
    built bits c.filled-symbol.ensures (c.deref.ensures.value ∙ c.in_ok-left.ensures) (c.deref-2.ensures.value ∙ c.in_ok-right.ensures) in
    subst (λ y. IfOk c.formula_from.result (λ f. f ≡ y)) same c.formula_from.ensures

pub returns-clause-models_tell : goal.returns-clause-models_tell
returns-clause-models_tell c =
    IfOk-weaker c.formula_from.result (λ f. f ≡ sides_formula c.args.left.now c.args.right.now c.args.mask.items.bits c.args.k) (λ f. ModelsTell f c.args.left.now c.args.right.now c.args.mask.items.bits c.args.k)
    (λ f e. subst (λ g. ModelsTell g c.args.left.now c.args.right.now c.args.mask.items.bits c.args.k) (sym e)
    (models_tell c.args.left.now c.args.right.now c.args.mask.items.bits c.args.k c.requires.left c.requires.right))
    (returns-clause-stated c)

pub returns-clause-tellers_are_models : goal.returns-clause-tellers_are_models
returns-clause-tellers_are_models c =
    IfOk-weaker c.formula_from.result (λ f. f ≡ sides_formula c.args.left.now c.args.right.now c.args.mask.items.bits c.args.k) (λ f. TellersAreModels f c.args.left.now c.args.right.now c.args.mask.items.bits c.args.k)
    (λ f e. subst (λ g. TellersAreModels g c.args.left.now c.args.right.now c.args.mask.items.bits c.args.k) (sym e)
    (tellers_are_models c.args.left.now c.args.right.now c.args.mask.items.bits c.args.k c.requires.left c.requires.right c.args.mask.in_masks c.requires.mask))
    (returns-clause-stated c)

pub returns-clause-none_where_equal : goal.returns-clause-none_where_equal
returns-clause-none_where_equal c =
    IfOk-weaker c.formula_from.result (λ f. f ≡ sides_formula c.args.left.now c.args.right.now c.args.mask.items.bits c.args.k) (λ f. HasNoModel f ↔ AreEqual c.args.left.now c.args.right.now c.args.mask.items.bits)
    (λ f e. subst (λ g. HasNoModel g ↔ AreEqual c.args.left.now c.args.right.now c.args.mask.items.bits) (sym e)
    (no_model_is_equal c.args.left.now c.args.right.now c.args.mask.items.bits c.args.k c.requires.left c.requires.right c.args.mask.in_masks c.requires.mask))
    (returns-clause-stated c)
