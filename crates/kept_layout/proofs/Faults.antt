-- Faults of lines: those of the second of two pieces begin where the first ends.
use Rattle.std.proofs.Common.{◌≡◌, inl, inr, ℕ, ◌+◌, List, [], ◌∷◌, ◌++◌, Option, None, refl}
use Rattle.std.proofs.lemmas.Bool.{cases_Bool}
use Rattle.thumb_model.specs.Listing.{Name, ListingLine}
use Rattle.thumb_model.specs.Layout.{end_of, fault_at, faults_from, is_among, label_address, or_else, size_at}
use Rattle.thumb_model.proofs.Shared.{first_none}

-- ---- labels ----

pub label_append : (q : Name) (at : ℕ) (xs ys : List ListingLine) → label_address q at (xs ++ ys) ≡ or_else (label_address q at xs) (label_address q (end_of at xs) ys)
label_append q at [] ys = refl
label_append q at (x ∷ xs) ys = elim (cases_Bool (is_among q x.names)) [
  | inl h ↦ rw h refl
  | inr h ↦ rw h (label_append q (at + size_at x.statement at) xs ys)
]

-- ---- faults ----

-- no line has a fault, where the first begins at an address
abbrev pub NoFault : (Name → Option ℕ) → ℕ → List ListingLine → Type 0
NoFault lies at [] = Unit {0}
NoFault lies at (l ∷ ls) = (fault_at lies at l.statement ≡ None) × NoFault lies (at + size_at l.statement at) ls

pub right_append : (f : Name → Option ℕ) (at : ℕ) (xs ys : List ListingLine) → NoFault f at xs → NoFault f (end_of at xs) ys → NoFault f at (xs ++ ys)
right_append f at [] ys n m = m
right_append f at (x ∷ xs) ys n m = (n.0, right_append f (at + size_at x.statement at) xs ys n.1 m)

pub right_split : (f : Name → Option ℕ) (at : ℕ) (xs ys : List ListingLine) → NoFault f at (xs ++ ys) → NoFault f at xs × NoFault f (end_of at xs) ys
right_split f at [] ys n = (tt, n)
right_split f at (x ∷ xs) ys n = let r = right_split f (at + size_at x.statement at) xs ys n.1 in ((n.0, r.0), r.1)

pub none_found : (f : Name → Option ℕ) (n at : ℕ) (ls : List ListingLine) → NoFault f at ls → faults_from f n at ls ≡ None
none_found f n at [] h = refl
none_found f n at (l ∷ ls) h = rw h.0 (none_found f (n + 1) (at + size_at l.statement at) ls h.1)

pub none_there : (f : Name → Option ℕ) (n at : ℕ) (ls : List ListingLine) → faults_from f n at ls ≡ None → NoFault f at ls
none_there f n at [] e = tt
none_there f n at (l ∷ ls) e =
    let r = first_none n (fault_at f at l.statement) (faults_from f (n + 1) (at + size_at l.statement at) ls) e in
    (r.0, none_there f (n + 1) (at + size_at l.statement at) ls r.1)
