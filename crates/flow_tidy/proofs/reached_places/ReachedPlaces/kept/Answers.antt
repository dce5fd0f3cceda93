use Rattle.std.proofs.Common.{◌≡◌, ◌∙◌, ◌++◌, ◌∷◌, ◌+◌, ℕ, suc, [], List, Bool, append_assoc, drop, ap, arith, sym}
use Rattle.std.proofs.lemmas.List.{append-nil}
use Rattle.flow_tidy.specs.Quick.{left}
use Rattle.flow_tidy.proofs.Lefts.{left_end, left_here, left_past}
use Rattle.flow_tidy.proofs.reached_places.ReachedPlaces.kept.Goals as goal

pub loop-place-preserved-then-is_gone : goal.loop-place-preserved-then-is_gone
loop-place-preserved-then-is_gone c =
    let gone = c.args.draft.now.gone in
    let reached = c.args.reached.now in
    let p : ℕ = c.loop-place.place in
    ap (λ n. c.loop-place.marks.items ++ left (drop n gone) (drop n reached)) (let e : p + 1 ≡ suc p = omega arith in e)
    ∙ ap (λ (x : List Bool). c.loop-place.marks.items ++ x) (sym (left_past gone reached p c.requires (sym c.is_gone.ensures ∙ c.if-is_gone.true)))
    ∙ c.loop-place.invariant

pub loop-place-preserved : goal.loop-place-preserved
loop-place-preserved c =
    let gone = c.args.draft.now.gone in
    let reached = c.args.reached.now in
    let p : ℕ = c.loop-place.place in
    let items : List Bool = c.loop-place.marks.items in
    ap (λ (x : List Bool). x ++ left (drop (p + 1) gone) (drop (p + 1) reached)) c.in_ok-push.ensures.items
    ∙ append_assoc items (c.at.result ∷ []) (left (drop (p + 1) gone) (drop (p + 1) reached))
    ∙ ap (λ n. items ++ (c.at.result ∷ left (drop n gone) (drop n reached))) (let e : p + 1 ≡ suc p = omega arith in e)
    ∙ ap (λ (x : List Bool). items ++ x) (sym (left_here gone reached p c.at.result c.requires (sym c.is_gone.ensures ∙ c.if-is_gone.false) c.at.ensures))
    ∙ c.loop-place.invariant

pub returns : goal.returns
returns c =
    let gone = c.args.draft.now.gone in
    let reached = c.args.reached.now in
    sym (append-nil c.loop-place.marks.items)
    ∙ ap (λ (x : List Bool). c.loop-place.marks.items ++ x) (sym (left_end gone reached c.loop-place.place c.requires (omega (arith, c.place_count-count.ensures.count, c.loop-place-test.false))))
    ∙ c.loop-place.invariant
