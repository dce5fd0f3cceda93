use Rattle.std.proofs.Common.{ℕ, List, map, refl, sym, ap, ◌∙◌, ◌≡◌}
use Rattle.thumb_instr.specs.Shape.{registers_in}
use Rattle.thumb_model.specs.Accesses.{behind, stores_many}
use Rattle.thumb_machine.specs.Registers.{values_of}
use Rattle.thumb_machine.specs.Acting.{world_of}
use Rattle.thumb_machine.proofs.Acts.{acts_by, same_stores}
use Rattle.thumb_machine.proofs.world.World.store_list.Goals as goal

pub returns : goal.returns
returns c = λ left.
    let v : ℕ → ℕ = values_of c.args.self.now.registers in
    let list : c.as_slice.result.now ≡ registers_in c.args.bits = c.as_slice.ensures.value ∙ c.registers_in-list.ensures.items in
    let again : c.as_slice-2.result.now ≡ registers_in c.args.bits = c.as_slice-2.ensures.value ∙ c.registers_in-list.ensures.items in
    let back : c.behind.result ≡ behind (registers_in c.args.bits) (v c.args.base) =
    c.behind.ensures ∙ ap (λ (xs : List ℕ). behind xs c.get-address.result) again ∙ ap (λ (a : ℕ). behind (registers_in c.args.bits) a) c.get-address.ensures in
    let words : c.as_slice-3.result.now ≡ map v (registers_in c.args.bits) = c.as_slice-3.ensures.value ∙ c.values-words.ensures ∙ ap (λ (xs : List ℕ). map v xs) list in
    acts_by (λ w. stores_many c.args.base (behind (registers_in c.args.bits) (w.values c.args.base)) (w.values c.args.base) (map w.values (registers_in c.args.bits)) w)
    (stores_many c.args.base c.behind.result c.get-address.result c.as_slice-3.result.now) c.args.self.now left c.store_many.new.self left c.store_many.result
    (sym (same_stores c.args.base c.args.base c.behind.result _ c.get-address.result _ c.as_slice-3.result.now _ (world_of c.args.self.now left) refl back c.get-address.ensures words))
    (c.store_many.ensures left)
