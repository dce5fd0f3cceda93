-- The first and the next watch of a chain are slots of clauses that watch its literal.
use Rattle.std.proofs.Common.{◌≡◌, ℕ, ◌<◌, List, [], ◌∷◌, ◌++◌, sym, subst, Option, ◌∙◌, append_assoc}
use Rattle.std.specs.Prelude.{slice_get, Contains, IfSome}
use Rattle.std.proofs.lemmas.List.Elements.{Contains-append_right}
use Rattle.clause_arena.specs.Contents.{Content, HasLiteral, HasClause, Watches, IsWatch, IsBetween, IsWhole, chain_of}
use Rattle.clause_arena.proofs.Lists.{Contains-first, Contains-split}

pub followed : (content : Content) (literal : ℕ) (seen later : List (ℕ × ℕ)) (next : Option (ℕ × ℕ)) → IsWhole content → HasLiteral content literal → chain_of content literal ≡ seen ++ later → next ≡ slice_get later 0 → IfSome next (IsWatch content literal)
followed content literal seen [] next w k c e = rw e tt
followed content literal seen (x ∷ later) next w k c e =
    let i : Contains (chain_of content literal) x = subst (λ (xs : List (ℕ × ℕ)). Contains xs x) (sym c) (Contains-append_right seen (x ∷ later) x (Contains-first x later)) in
    let s : HasClause content x.0 × (x.1 < 2) = w.slots literal x k i in
    rw e ((k, i), s.0, s.1)

-- the case of the next watch
pub follows : (content : Content) (literal : ℕ) (watch : ℕ × ℕ) (next : Option (ℕ × ℕ)) → IsWhole content → Watches content watch.0 watch.1 literal
    → ((earlier later : List (ℕ × ℕ)) → IsBetween content literal earlier watch later → next ≡ slice_get later 0) → IfSome next (IsWatch content literal)
follows content literal watch next w v f =
    let p : (xs : List (ℕ × ℕ)) × ((zs : List (ℕ × ℕ)) × (chain_of content literal ≡ xs ++ watch ∷ zs)) = Contains-split (chain_of content literal) watch v.1 in
    let b : IsBetween content literal p.0 watch p.1.0 = record { literal_known = v.0; chain = p.1.1 } in
    after (p.0) p.1.0 b
  where
    after : (earlier later : List (ℕ × ℕ)) → IsBetween content literal earlier watch later → IfSome next (IsWatch content literal)
    after earlier later b = followed content literal (earlier ++ watch ∷ []) later next w v.0 (b.chain ∙ sym (append_assoc earlier (watch ∷ []) later)) (f earlier later b)
