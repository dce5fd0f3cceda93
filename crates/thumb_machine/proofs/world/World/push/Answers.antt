use Rattle.std.proofs.Common.{ℕ, List, map, sym, ap, ◌∙◌, ◌≡◌}
use Rattle.thumb_instr.specs.Shape.{pushed}
use Rattle.thumb_model.specs.Effect.{sp}
use Rattle.thumb_model.specs.Accesses.{below, stores_many}
use Rattle.thumb_machine.specs.Registers.{values_of}
use Rattle.thumb_machine.specs.Acting.{world_of}
use Rattle.thumb_machine.proofs.Acts.{acts_by, same_stores}
use Rattle.thumb_machine.proofs.world.World.push.Goals as goal

pub returns : goal.returns
returns c = λ left.
    let v : ℕ → ℕ = values_of c.args.self.now.registers in
    let list : c.as_slice.result.now ≡ pushed c.args.bits = c.as_slice.ensures.value ∙ c.pushed-list.ensures.items in
    let again : c.as_slice-2.result.now ≡ pushed c.args.bits = c.as_slice-2.ensures.value ∙ c.pushed-list.ensures.items in
    let stack : c.get.result ≡ v sp = c.get.ensures ∙ ap v c.from.ensures in
    let address : c.below-address.result ≡ below (pushed c.args.bits) (v sp) =
    c.below-address.ensures ∙ ap (λ (xs : List ℕ). below xs c.get.result) again ∙ ap (λ (a : ℕ). below (pushed c.args.bits) a) stack in
    let words : c.as_slice-3.result.now ≡ map v (pushed c.args.bits) = c.as_slice-3.ensures.value ∙ c.values-words.ensures ∙ ap (λ (xs : List ℕ). map v xs) list in
    acts_by (λ w. stores_many sp (below (pushed c.args.bits) (w.values sp)) (below (pushed c.args.bits) (w.values sp)) (map w.values (pushed c.args.bits)) w)
    (stores_many c.from-2.result c.below-address.result c.below-address.result c.as_slice-3.result.now) c.args.self.now left c.store_many.new.self left c.store_many.result
    (sym (same_stores c.from-2.result sp c.below-address.result _ c.below-address.result _ c.as_slice-3.result.now _ (world_of c.args.self.now left) c.from-2.ensures address address words))
    (c.store_many.ensures left)
