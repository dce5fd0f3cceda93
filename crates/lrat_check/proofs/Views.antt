-- The live clauses of a map, and how its calls change them.
use Rattle.std.proofs.Common.{◌≡◌, ℕ, ℤ, List, ◌<◌, Option, Some, None, Vec, sym, ◌∙◌, ap, nat_eq, refl, length, get_or, map, arith, true, false, inl, inr, Bool, true≢false}
use Rattle.std.specs.Prelude.{unsigned_abs, is_some, IsSome}
use Rattle.std.specs.Global.{Global}
use Rattle.std.specs.HashMap.{get, Updates, UpdatesBy}
use Rattle.std.specs.Option.{option_map}
use Rattle.std.proofs.lemmas.Bool.{cases_eq}
use Rattle.std.proofs.lemmas.Bool.Decides.{nat_tests}
use Rattle.std.proofs.lemmas.List.{length-map, get_or-map}
use Rattle.std.proofs.lemmas.Map.Made.{lookup-map_values}
use Rattle.lrat_check.specs.Live.{LiveMap, clause_at, Adds}
use Rattle.lrat_check.specs.Text.{without}

pub clause_at-get : (m : LiveMap) (id : ℕ) → clause_at m id ≡ option_map (λ (c : Vec ℕ Global). c.items) (get nat_eq m id)
clause_at-get m id = lookup-map_values (λ (c : Vec ℕ Global). c.items) (nat_eq id) m.entries

pub clause_at-some : (m : LiveMap) (id : ℕ) (v : Vec ℕ Global) (clause : List ℕ) → Some v ≡ get nat_eq m id → clause ≡ v.items → clause_at m id ≡ Some clause
clause_at-some m id v clause e f = clause_at-get m id ∙ rw (← e, f) refl

pub clause_at-none : (m : LiveMap) (id : ℕ) → None ≡ get nat_eq m id → clause_at m id ≡ None
clause_at-none m id e = clause_at-get m id ∙ rw (← e) refl

-- the id of the hint at a place
module _ (hints : List ℤ) (i id : ℕ) (h : ℤ) (b : i < length hints) (is : h ≡ get_or hints i h) (e : id ≡ unsigned_abs h) where
  pub hint_within : i < length (map unsigned_abs hints)
  hint_within = rw length-map b

  pub hint_at : get_or (map unsigned_abs hints) i 0 ≡ id
  hint_at = get_or-map unsigned_abs hints i h 0 b ∙ ap unsigned_abs (sym is) ∙ sym e

  pub hint_names : (live : ℕ → Option (List ℕ)) (o : Option (List ℕ)) → live id ≡ o → live (get_or (map unsigned_abs hints) i 0) ≡ o
  hint_names live o f = rw hint_at f

-- a new entry
pub clause_at-insert : (old new : LiveMap) (id : ℕ) (v : Vec ℕ Global) → Updates nat_eq old new id (Some v) → Adds (clause_at old) (clause_at new) id v.items
clause_at-insert old new id v u = (
  clause_at-some new id v v.items (sym u.1) refl,
  λ q d.
      let z : nat_eq id q ≡ false = grind (arith, nat_tests) in
      clause_at-get new q ∙ ap (option_map (λ (c : Vec ℕ Global). c.items)) (u.2 q z) ∙ sym (clause_at-get old q),
)

-- an entry removed
pub clause_at-remove : (old new : LiveMap) (id q : ℕ) → UpdatesBy nat_eq (nat_eq id) old new None → clause_at new q ≡ without (clause_at old) id q
clause_at-remove old new id q u =
    clause_at-get new q ∙ (rw (u.0 q) (elim (cases_eq q id) [
      | inl e ↦ let y : nat_eq id q ≡ true = grind (arith, nat_tests) in let z : nat_eq q id ≡ true = grind (arith, nat_tests) in rw (y, z) refl
      | inr d ↦ let y : nat_eq id q ≡ false = grind (arith, nat_tests) in let z : nat_eq q id ≡ false = grind (arith, nat_tests) in rw (y, z) (sym (clause_at-get old q))
    ]))

-- whether there is an entry
pub clause_at-is_some : (m : LiveMap) (id : ℕ) → is_some (clause_at m id) ≡ is_some (get nat_eq m id)
clause_at-is_some m id = rw (clause_at-get m id) (mapped (get nat_eq m id))
  where
    mapped : (o : Option (Vec ℕ Global)) → is_some (option_map (λ (c : Vec ℕ Global). c.items) o) ≡ is_some o
    mapped None = refl
    mapped (Some c) = refl

pub clause_at-absent : (m : LiveMap) (id : ℕ) (b : Bool) → b ≡ is_some (get nat_eq m id) → b ≡ false → clause_at m id ≡ None
clause_at-absent m id b e f = none (clause_at m id) (clause_at-is_some m id ∙ sym e ∙ f)
  where
    none : (o : Option (List ℕ)) → is_some o ≡ false → o ≡ None
    none None e = refl
    none (Some c) e = absurd (true≢false e)

pub clause_at-present : (m : LiveMap) (id : ℕ) (b : Bool) → b ≡ is_some (get nat_eq m id) → b ≡ true → IsSome (clause_at m id)
clause_at-present m id b e f = clause_at-is_some m id ∙ sym e ∙ f
