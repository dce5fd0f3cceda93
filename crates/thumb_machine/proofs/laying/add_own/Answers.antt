use Rattle.std.proofs.Common.{◌≡◌, ◌∙◌, ◌++◌, ◌∷◌, ◌+◌, ◌*◌, ◌%◌, ◌^◌, [], List, ℕ, true, false, length, ap, sym, subst, length-append}
use Rattle.std.specs.Prelude.{is_some, Some}
use Rattle.thumb_model.specs.Listing.{Name}
use Rattle.label_layout.proofs.Labels.{same_items}
use Rattle.thumb_machine.specs.Words.{AreOwn, with_name, word_in}
use Rattle.thumb_machine.proofs.WordLemmas.{found, own_next, own_put, own_same}
use Rattle.thumb_machine.proofs.laying.add_own.Goals as goal

pub returns-then-is_some-clause-own : goal.returns-then-is_some-clause-own
returns-then-is_some-clause-own c = λ base lines known count are.
    let there : is_some (word_in c.args.words.now.entries c.args.name.now.items) ≡ true = found c.args.name.now.items c.as_slice.result.now c.args.words.now.entries _ c.as_slice.ensures.value c.get.ensures.value ∙ sym c.if-is_some.ensures in
    let same : with_name base lines known (Some c.args.name.now.items) ≡ known = own_same base lines c.args.name.now.items known c.args.words.now.entries are there in
    (subst (λ (k : List Name). AreOwn base lines k c.args.words.now.entries) (sym same) are, count ∙ ap length (sym same))

pub returns-clause-own : goal.returns-clause-own
returns-clause-own c = λ base lines known count are.
    let none : is_some (word_in c.args.words.now.entries c.args.name.now.items) ≡ false = found c.args.name.now.items c.as_slice.result.now c.args.words.now.entries _ c.as_slice.ensures.value c.get.ensures.value ∙ sym c.if-is_some.ensures in
    let next : with_name base lines known (Some c.args.name.now.items) ≡ known ++ c.args.name.now.items ∷ [] = own_next base lines c.args.name.now.items known c.args.words.now.entries are none in
    let same : c.in_ok-clone.field-0.items ≡ c.args.name.now.items = same_items _ _ c.in_ok-clone.ensures.cases.0 in (
      subst (λ (k : List Name). AreOwn base lines k c.insert.new.self.entries) (ap (λ (n : Name). known ++ n ∷ []) same ∙ sym next)
          (own_put base lines known c.in_ok-clone.field-0 _ c.args.words.now.entries c.insert.new.self.entries are
          (ap (λ (n : Name). is_some (word_in c.args.words.now.entries n)) same ∙ none) (ap (λ (n : ℕ). (805306368 + 256 * n) % 2 ^ 32) count) c.in_ok-insert.ensures.entries),
      ap (λ (n : ℕ). n + 1) count ∙ sym (length-append known (c.args.name.now.items ∷ [])) ∙ ap length (sym next),
    )
