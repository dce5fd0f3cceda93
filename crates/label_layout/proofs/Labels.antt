-- Labels by name, in a table.
use Rattle.std.proofs.Common.{◌≡◌, ◌∙◌, inl, inr, ℕ, Bool, true, false, List, [], ◌∷◌, Option, Some, None, Bor, refl, if◌then◌else◌}
use Rattle.std.specs.List.{AllZip}
use Rattle.std.specs.Map.{lookup}
use Rattle.std.specs.Option.{is_some, option_copied}
use Rattle.std.specs.Str.{bytes_eq}
use Rattle.std.specs.declared.alloc.Global.{Global}
use Rattle.std.specs.declared.vec.Vec.{Vec}
use Rattle.std.proofs.lemmas.Bool.{cases_Bool}
use Rattle.std.proofs.lemmas.List.{map-id}
use Rattle.std.proofs.lemmas.Slice.Zip.{AllZip-map}
use Rattle.indexmap.specs.IndexMap.{insert_entry}
use Rattle.thumb_model.specs.Listing.{Name}
use Rattle.thumb_model.specs.Layout.{or_else}
use Rattle.label_layout.specs.Addresses.{is_key}

-- a clone's bytes are the name's
pub same_items : (xs ys : List ℕ) → AllZip (λ x y. y ≡ x) xs ys → ys ≡ xs
same_items xs ys h = AllZip-map (λ x. x) xs ys h ∙ map-id xs

pub not_found : (o : Option (Bor ℕ)) → is_some o ≡ false → option_copied o ≡ None
not_found None e = refl
not_found (Some x) e = absurd (let bad : true ≡ false = e in cc)

-- a name that isn't there comes last
pub inserted : (q : Name) (es : List (Vec ℕ Global × ℕ)) (k : Vec ℕ Global) (at : ℕ) → lookup (is_key k.items) es ≡ None
    → lookup (is_key q) (insert_entry (λ x y. bytes_eq x.items y.items) es k at) ≡ or_else (lookup (is_key q) es) (if bytes_eq q k.items then Some at else None)
inserted q [] k at e = refl
inserted q (x ∷ es) k at e = elim (cases_Bool (bytes_eq k.items x.0.items)) [
  | inl h ↦ absurd (let bad : Some x.1 ≡ None = rw h at e in cc)
  | inr h ↦ rw h (elim (cases_Bool (bytes_eq q x.0.items)) [
    | inl g ↦ rw g refl
    | inr g ↦ rw g (inserted q es k at (rw h at e))
  ])
]

-- what was noted before a line, at it, and behind it
pub label_more : (found : Option ℕ) (here : Bool) (at : ℕ) (rest : Option ℕ) → or_else (or_else found (if here then Some at else None)) rest ≡ or_else found (if here then Some at else rest)
label_more (Some a) here at rest = refl
label_more None true at rest = refl
label_more None false at rest = refl

pub or_none : (o : Option ℕ) → or_else o None ≡ o
or_none None = refl
or_none (Some a) = refl
