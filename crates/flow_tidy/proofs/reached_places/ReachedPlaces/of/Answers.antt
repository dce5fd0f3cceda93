use Rattle.std.proofs.Common.{◌≡◌, ◌∙◌, ◌++◌, ◌∷◌, ◌+◌, ℕ, zero, suc, [], List, Bool, take, Some, sym, ap, arith}
use Rattle.std.specs.Prelude.{slice_get}
use Rattle.std.proofs.lemmas.Option.{same_Some}
use Rattle.flow_tidy.proofs.reached_places.ReachedPlaces.of.Goals as goal

one_more : (xs : List Bool) (n : ℕ) (x : Bool) → slice_get xs n ≡ Some x → take n xs ++ x ∷ [] ≡ take (suc n) xs
one_more [] n x e = absurd (cc)
one_more (y ∷ xs) zero x e = ap (λ z. z ∷ []) (sym (same_Some y x e))
one_more (y ∷ xs) (suc n) x e = ap (λ (l : List Bool). y ∷ l) (one_more xs n x e)

pub loop-place-preserved : goal.loop-place-preserved
loop-place-preserved c =
    c.in_ok-push.ensures.items
    ∙ ap (λ (xs : List Bool). xs ++ c.at.result ∷ []) c.loop-place.invariant
    ∙ one_more c.args.reached.now c.loop-place.place c.at.result c.at.ensures
    ∙ ap (λ n. take n c.args.reached.now) (let e : suc c.loop-place.place ≡ c.loop-place.place + 1 = omega arith in e)
