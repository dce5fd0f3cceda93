use Rattle.std.proofs.Common.{◌∙◌, decimal, List, ℕ, [], ◌∷◌, ◌++◌, append_assoc, sym, ap}
use Rattle.lrat_check.specs.Text.{content_of, middle_of, id_of, end_word, spaced}
use Rattle.lrat_check.proofs.Texts.{join-push}
use Rattle.lrat_check.proofs.text.write_line.Goals as goal

pub returns : goal.returns
returns c =
    let front = decimal (id_of (content_of c.args.line.now)) ∷ middle_of (content_of c.args.line.now) in
    c.in_ok-extend_from_slice.ensures.items ∙ ap (λ (xs : List ℕ). xs ++ 48 ∷ 10 ∷ []) (c.in_ok-write_front.ensures ∙ ap (λ (xs : List ℕ). xs ++ spaced front) c.in_ok-out.ensures.items)
    ∙ sym (append_assoc (spaced front) (48 ∷ []) (10 ∷ [])) ∙ ap (λ (xs : List ℕ). xs ++ 10 ∷ []) (sym (join-push front end_word))
