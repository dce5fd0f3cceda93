-- What a line says, from its first word and what the rest says.
use Rattle.std.proofs.Common.{◌≡◌, ◌∙◌, List, ℕ, sym, ap, Option, Some, None}
use Rattle.rule_table.specs.declared.item.Item.{Item as Code}
use Rattle.rule_table.specs.declared.words.FirstWord.{FirstWord}
use Rattle.rule_table.specs.Text.{line_of}
use Rattle.rule_table.specs.Fronts.{front, word_of, tail_of}
use Rattle.rule_table.specs.ItemView.{item_of}
use Rattle.rule_table.specs.Told.{Tells, Says}
use Rattle.rule_table.proofs.FrontLemmas.{same_pair, front_sound}
use Rattle.rule_table.proofs.LinesTell.{front_line}

some_none : (p : FirstWord × List ℕ) → ◌≡◌ {A = Option (FirstWord × List ℕ)} (Some p) None → ⊥
some_none p e = cc

pub no_front : (line : List ℕ) → front line ≡ None → Says line None
no_front line none i is e = some_none (word_of i, tail_of i) (sym (front_line i is) ∙ ap front e ∙ none)

pub says : (line : List ℕ) (w : FirstWord) (tail : List ℕ) (o : Option Code) → ◌≡◌ {A = Option (FirstWord × List ℕ)} (front line) (Some (w, tail)) → Tells w tail o → Says line o
says line w tail None f told = λ i is e.
    let same = same_pair (word_of i) w (tail_of i) tail (sym (front_line i is) ∙ ap front e ∙ f) in
    told i is same.0 same.1
says line w tail (Some x) f told =
    let i = item_of x in
    let whole : ◌≡◌ {A = Option (FirstWord × List ℕ)} (front (line_of i)) (Some (w, tail)) =
    front_line i told.0 ∙ ap (λ (v : FirstWord). Some (v, tail_of i)) told.1 ∙ ap (λ (t : List ℕ). Some (w, t)) told.2 in
    (told.0, front_sound (line_of i) w tail whole ∙ sym (front_sound line w tail f))

-- a property of a result's value may be weakened
