-- Tables by name: the first entry of a name stays.
use Rattle.std.proofs.Common.{◌≡◌, ◌∙◌, inl, inr, ℕ, Bool, true, false, List, [], ◌∷◌, ◌++◌, refl, sym, ap, true≢false, Option, Some, None, is_some, Vec}
use Rattle.std.specs.Prelude.{if◌then◌else◌}
use Rattle.std.specs.Map.{lookup}
use Rattle.std.specs.Str.{bytes_eq}
use Rattle.std.specs.declared.alloc.Global.{Global}
use Rattle.std.proofs.lemmas.Bool.{cases_Bool}
use Rattle.thumb_syntax.specs.Operands.{or_else}
use Rattle.thumb_model.specs.Listing.{Name}
use Rattle.listing_parser.specs.TableWords.{is_key}

lookup_push : {X : Type 0} (q : Name) (es : List (Vec ℕ Global × X)) (k : Vec ℕ Global) (v : X)
    → lookup (is_key q) (es ++ (k, v) ∷ []) ≡ or_else (lookup (is_key q) es) (if bytes_eq q k.items then Some v else None)
lookup_push q [] k v = refl
lookup_push q (e ∷ es) k v = elim (cases_Bool (bytes_eq q e.0.items)) [
  | inl h ↦ rw h refl
  | inr h ↦ rw h (lookup_push q es k v)
]

-- a name that is new is added last
pub added_new : {X : Type 0} (q name : Name) (es new : List (Vec ℕ Global × X)) (k : Vec ℕ Global) (v : X) → new ≡ es ++ (k, v) ∷ [] → k.items ≡ name
    → lookup (is_key q) new ≡ or_else (lookup (is_key q) es) (if bytes_eq q name then Some v else None)
added_new q name es new k v e is = ap (lookup (is_key q)) e ∙ lookup_push q es k v ∙ ap (λ (n : Name). or_else (lookup (is_key q) es) (if bytes_eq q n then Some v else None)) is

there : {X : Type 0} (o : Option X) (b : Bool) (v : X) → (b ≡ true → is_some o ≡ true) → o ≡ or_else o (if b then Some v else None)
there (Some x) b v h = refl
there None true v h = absurd (true≢false (sym (h refl)))
there None false v h = refl

pub is_none : {X : Type 0} (o : Option X) → is_some o ≡ false → o ≡ None
is_none None e = refl
is_none (Some x) e = absurd (true≢false e)
