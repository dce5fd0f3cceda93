use Rattle.std.proofs.Common.{◌≡◌, ◌∙◌, ◌++◌, ◌∷◌, [], List, ℕ, ap, sym, subst}
use Rattle.label_layout.proofs.Labels.{same_items}
use Rattle.thumb_machine.specs.Words.{AreFixed, fixed_word}
use Rattle.thumb_machine.proofs.WordLemmas.{fixed_more, fixed_none}
use Rattle.thumb_machine.proofs.laying.add_name.Goals as goal

pub returns-in-None : goal.returns-in-None
returns-in-None c = λ known are. fixed_none c.args.layout.now.base c.args.listing.now known c.args.name.now.items c.args.words.now.entries
    (ap (fixed_word c.args.layout.now.base c.args.listing.now) (sym c.as_slice.ensures.value) ∙ sym c.in-None.ensures) are

pub returns-in_ok-insert-in-Some : goal.returns-in_ok-insert-in-Some
returns-in_ok-insert-in-Some c = λ known are.
    let same : c.in_ok-clone-in-Some.field-0.items ≡ c.args.name.now.items = same_items _ _ c.in_ok-clone-in-Some.ensures.cases.0 in
    subst (λ (n : List ℕ). AreFixed c.args.layout.now.base c.args.listing.now (known ++ n ∷ []) c.insert.new.self.entries) same
    (fixed_more c.args.layout.now.base c.args.listing.now known c.in_ok-clone-in-Some.field-0 c.in-Some.word c.args.words.now.entries c.insert.new.self.entries
    (ap (fixed_word c.args.layout.now.base c.args.listing.now) (same ∙ sym c.as_slice.ensures.value) ∙ sym c.in-Some.ensures) c.in_ok-insert-in-Some.ensures.entries are)
