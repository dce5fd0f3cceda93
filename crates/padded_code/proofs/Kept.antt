-- The places, labels, calls and code points that are kept.
use Rattle.std.proofs.Common.{◌≡◌, ℕ, zero, suc, ◌+◌, ◌<◌, ◌≤◌, ◌&&◌, Bool, true, false, List, [], ◌∷◌, length, map, Some, refl, sym, ap, ◌∙◌, arith, if◌then◌else◌}
use Rattle.std.specs.Prelude.{slice_get}
use Rattle.std.specs.Str.{bytes_eq}
use Rattle.std.specs.Option.{option_map}
use Rattle.std.proofs.lemmas.Option.{same_Some}
use Rattle.kept_places.proofs.Ranks.{rank_gone, rank_zero}
use Rattle.thumb_model.specs.Listing.{Name, Place, Label, is_code, place_among, is_call, label_places, return_places}
use Rattle.thumb_model.proofs.Lists.{cons_same}
use Rattle.kept_places.specs.Marks.{is_gone, rank}
use Rattle.padded_code.specs.Padding.{nop, kept, ranked}

-- ---- places ----

-- at the rank of a kept place stands what stood there
pub kept_at : (gone : List Bool) (ps : List Place) (p : ℕ) → is_gone gone p ≡ false → slice_get (kept gone ps) (rank gone p) ≡ slice_get ps p
kept_at [] ps p e = refl
kept_at (g ∷ gs) [] p e = refl
kept_at (true ∷ gs) (x ∷ ps) zero e = absurd (cc)
kept_at (false ∷ gs) (x ∷ ps) zero e = refl
kept_at (true ∷ gs) (x ∷ ps) (suc p) e = kept_at gs ps p e
kept_at (false ∷ gs) (x ∷ ps) (suc p) e = kept_at gs ps p e

-- no kept place stands at the rank of the end
pub rank_past : (gone : List Bool) (ps : List Place) (p : ℕ) → length ps ≤ p → length (kept gone ps) ≤ rank gone p
rank_past [] ps p h = h
rank_past (g ∷ gs) [] p h = omega arith
rank_past (g ∷ gs) (x ∷ ps) zero h = absurd (omega arith)
rank_past (true ∷ gs) (x ∷ ps) (suc p) h = rank_past gs ps p (omega arith)
rank_past (false ∷ gs) (x ∷ ps) (suc p) h = let r = rank_past gs ps p (omega arith) in omega arith

-- what holds of a place of that rank where it is kept, and goes from a place to one before it that is gone, holds of each place of that rank
pub at_rank : (gone : List Bool) (ps : List Place) (r : ℕ) (P : ℕ → Type 0) → r < length (kept gone ps) →
    ((p : ℕ) → is_gone gone p ≡ false → rank gone p ≡ r → P p) → ((p : ℕ) → is_gone gone p ≡ true → P (suc p) → P p) →
    (left p : ℕ) → length ps ≤ p + left → rank gone p ≡ r → P p
at_rank gone ps r P l here back zero p h e = absurd (let past = rank_past gone ps p (omega arith) in omega arith)
at_rank gone ps r P l here back (suc left) p h e =
    elim (is_gone gone p) as (λ b. is_gone gone p ≡ b → P p) [
      | true ↦ λ t. back p t (at_rank gone ps r P l here back left (suc p) (omega arith) (rank_gone gone p t ∙ e))
      | false ↦ λ t. here p t e
    ] refl

-- ---- labels ----

-- each label is code in one where it is in the other
abbrev pub AreCodeAlike : List Bool → List Place → List Place → List Label → Type 0
AreCodeAlike gone old new ls = (k : ℕ) (l : Label) → slice_get ls k ≡ Some l → is_code new (ranked gone l) ≡ is_code old l

pub place_ranked : (gone : List Bool) (old new : List Place) (name : Name) (ls : List Label) → AreCodeAlike gone old new ls → place_among name new (map (ranked gone) ls) ≡ option_map (rank gone) (place_among name old ls)
place_ranked gone old new name [] a = refl
place_ranked gone old new name (l ∷ ls) a =
    ap (λ b. if bytes_eq name l.name && b then Some (rank gone l.place) else place_among name new (map (ranked gone) ls)) (a 0 l refl)
    ∙ elim (bytes_eq name l.name && is_code old l) as (λ b. (if b then Some (rank gone l.place) else place_among name new (map (ranked gone) ls)) ≡ option_map (rank gone) (if b then Some l.place else place_among name old ls)) [
      | true ↦ refl
      | false ↦ place_ranked gone old new name ls (λ k m e. a (suc k) m e)
    ]

pub label_places_ranked : (gone : List Bool) (old new : List Place) (ls : List Label) → AreCodeAlike gone old new ls → label_places new (map (ranked gone) ls) ≡ map (rank gone) (label_places old ls)
label_places_ranked gone old new [] a = refl
label_places_ranked gone old new (l ∷ ls) a =
    let rest = label_places_ranked gone old new ls (λ k m e. a (suc k) m e) in
    ap (λ b. if b then rank gone l.place ∷ label_places new (map (ranked gone) ls) else label_places new (map (ranked gone) ls)) (a 0 l refl)
    ∙ elim (is_code old l) as (λ b. (if b then rank gone l.place ∷ label_places new (map (ranked gone) ls) else label_places new (map (ranked gone) ls)) ≡ map (rank gone) (if b then l.place ∷ label_places old ls else label_places old ls)) [
      | true ↦ ap (λ x. rank gone l.place ∷ x) rest
      | false ↦ rest
    ]

-- ---- calls ----

-- a nop stands where a place is gone
abbrev pub AreNops : List Bool → List Place → Type 0
AreNops gone ps = (p : ℕ) → is_gone gone p ≡ true → slice_get ps p ≡ Some nop

-- one place and its return point, if it is a call
one_return : (x : Place) (to : ℕ → ℕ) (p q : ℕ) (old new : List ℕ) → to (p + 1) ≡ q + 1 → new ≡ map to old → (if is_call x then (q + 1) ∷ new else new) ≡ map to (if is_call x then (p + 1) ∷ old else old)
one_return x to p q old new e f =
    elim (is_call x) as (λ b. (if b then (q + 1) ∷ new else new) ≡ map to (if b then (p + 1) ∷ old else old)) [
      | true ↦ cons_same (q + 1) (to (p + 1)) new (map to old) (sym e) f
      | false ↦ f
    ]

pub returns_ranked : (gone : List Bool) (ps : List Place) (to : ℕ → ℕ) (p q : ℕ) → ((s : ℕ) → to (p + s) ≡ q + rank gone s) → AreNops gone ps → return_places q (kept gone ps) ≡ map to (return_places p ps)
returns_ranked [] [] to p q e n = refl
returns_ranked (g ∷ gs) [] to p q e n = refl
returns_ranked [] (x ∷ ps) to p q e n =
    one_return x to p q (return_places (p + 1) ps) (return_places (q + 1) ps) (e 1)
    (returns_ranked [] ps to (p + 1) (q + 1) (λ s. ap to (let f : p + 1 + s ≡ p + suc s = omega arith in f) ∙ e (suc s) ∙ (let f : q + suc s ≡ q + 1 + s = omega arith in f)) (λ k t. absurd (cc)))
returns_ranked (false ∷ gs) (x ∷ ps) to p q e n =
    one_return x to p q (return_places (p + 1) ps) (return_places (q + 1) (kept gs ps)) (e 1 ∙ ap (λ k. q + suc k) (rank_zero gs))
    (returns_ranked gs ps to (p + 1) (q + 1) (λ s. ap to (let f : p + 1 + s ≡ p + suc s = omega arith in f) ∙ e (suc s) ∙ (let f : q + suc (rank gs s) ≡ q + 1 + rank gs s = omega arith in f)) (λ k t. n (suc k) t))
returns_ranked (true ∷ gs) (x ∷ ps) to p q e n =
    returns_ranked gs ps to (p + 1) q (λ s. ap to (let f : p + 1 + s ≡ p + suc s = omega arith in f) ∙ e (suc s)) (λ k t. n (suc k) t)
    ∙ ap (λ y. map to (if is_call y then (p + 1) ∷ return_places (p + 1) ps else return_places (p + 1) ps)) (same_Some nop x (sym (n 0 refl)))
