-- Chains of branches, hop by hop: a hop as the code finds it, and that a chain with an end has no more hops than there are places.
use Rattle.std.proofs.Common.{◌≡◌, ℕ, zero, suc, ◌<◌, ◌≤◌, Bool, true, false, eqb, List, [], ◌∷◌, length, Option, Some, None, IsSome, refl, sym, ap, ◌∙◌, subst, inl, inr, arith, if◌then◌else◌}
use Rattle.std.specs.Prelude.{is_some, option_and_then, slice_get}
use Rattle.std.specs.List.{list_any, AllByRecursion, IsDistinct}
use Rattle.std.proofs.lemmas.Bool.{cases_eq}
use Rattle.std.proofs.lemmas.Bool.Decides.{nat_tests}
use Rattle.std.proofs.lemmas.Map.Steps.{length-le_from_distinct_below}
use Rattle.std.proofs.lemmas.Option.{slice_get_within}
use Rattle.thumb_model.specs.Listing.{Name, Place, Op, Word, Code, place_of}
use Rattle.flow_tidy.specs.Tidying.{is_always, Hops, HopsBy}
use Rattle.flow_tidy.specs.Made.{hop_of, if_code, label_of_always, IsEndOf}
use Rattle.flow_tidy.proofs.Unique.{hop_same}

-- ---- a hop ----

pub code_only : (b : Bool) (n to : Name) → (if b then Some n else None) ≡ Some to → (b ≡ true) × (n ≡ to)
code_only true n to e = (refl, cc)
code_only false n to e = absurd (cc)

always_only : (code : Code) (a : Bool) (n to : Name) → option_and_then (if_code code) (if a then Some n else None) ≡ Some to → (a ≡ true) × (if_code code n ≡ Some to)
always_only code true n to e = (refl, e)
always_only code false n to e = absurd (cc)

pub hop_found : (code : Code) (from to : Name) → hop_of code from ≡ Some to → Hops code from to
hop_found code from to h = at (place_of code from) refl h
  where
    on : (q : ℕ) → place_of code from ≡ Some q → (x : Option Place) → slice_get code.places q ≡ x → option_and_then (if_code code) (label_of_always x) ≡ Some to → Hops code from to
    on q e None f k = absurd (cc)
    on q e (Some (Word v)) f k = absurd (cc)
    on q e (Some (Op i None)) f k = absurd (cc)
    on q e (Some (Op i (Some m))) f k =
        let a = always_only code (is_always i) m.name to k in
        let b = code_only (is_some (place_of code m.name)) m.name to a.1 in
        record {
          place = q;
          i = i;
          mention = m;
          labelled = e;
          stands = f;
          always = a.0;
          named = b.1;
          code_label = subst (λ (x : Name). IsSome (place_of code x)) b.1 b.0;
        }

    at : (o : Option ℕ) → place_of code from ≡ o → option_and_then (if_code code) (option_and_then (λ q. label_of_always (slice_get code.places q)) o) ≡ Some to → Hops code from to
    at None e k = absurd (cc)
    at (Some q) e k = on q e (slice_get code.places q) refl k

-- ---- many hops ----

pub hops_on : (code : Code) (n : ℕ) (from mid to : Name) → HopsBy code n from mid → Hops code mid to → HopsBy code (suc n) from to
hops_on code zero from mid to h k = (to, subst (λ (x : Name). Hops code x to) (sym h) k, refl)
hops_on code (suc n) from mid to h k = (h.0, h.1, hops_on code n h.0 mid to h.2 k)

-- where a chain ends it has no more hops
no_further : (code : Code) (m n : ℕ) (from to x : Name) → HopsBy code m from to → ((next : Name) → Hops code to next → ⊥) → HopsBy code n from x → n ≤ m
no_further code m zero from to x h s k = omega arith
no_further code zero (suc n) from to x h s k = absurd (s k.0 (subst (λ (y : Name). Hops code y k.0) h k.1))
no_further code (suc m) (suc n) from to x h s k =
    let rest = no_further code m n h.0 to x h.2 s (subst (λ (y : Name). HopsBy code n y x) (sym (hop_same code from h.0 k.0 h.1 k.1)) k.2) in
    omega arith

-- the places that are hopped from
places_hopped : (code : Code) (n : ℕ) (from to : Name) → HopsBy code n from to → List ℕ
places_hopped code zero from to h = []
places_hopped code (suc n) from to h = h.1.place ∷ places_hopped code n h.0 to h.2

as_many : (code : Code) (n : ℕ) (from to : Name) (h : HopsBy code n from to) → length (places_hopped code n from to h) ≡ n
unfolding places_hopped
as_many code zero from to h = refl
as_many code (suc n) from to h = ap suc (as_many code n h.0 to h.2)

all_within : (code : Code) (n : ℕ) (from to : Name) (h : HopsBy code n from to) (q : ℕ) → list_any (eqb q) (places_hopped code n from to h) ≡ true → q < length code.places
unfolding places_hopped
all_within code zero from to h q e = absurd (cc)
all_within code (suc n) from to h q e = elim (cases_eq q h.1.place) [
  | inl same ↦ subst (λ x. x < length code.places) (sym same) (slice_get_within code.places h.1.place _ h.1.stands)
  | inr ne ↦ all_within code n h.0 to h.2 q (let z : eqb q h.1.place ≡ false = grind (arith, nat_tests) in rw z at e)
]

-- a hop from the same place
hop_there : (code : Code) (from via other next : Name) (h : Hops code from via) (k : Hops code other next) → h.place ≡ k.place → Hops code from next
hop_there code from via other next h k e = record {
  place = k.place;
  i = k.i;
  mention = k.mention;
  labelled = h.labelled ∙ ap Some e;
  stands = k.stands;
  always = k.always;
  named = k.named;
  code_label = k.code_label;
}

-- a place that is hopped from is not hopped from again
not_again : (code : Code) (m : ℕ) (from to : Name) (h : HopsBy code (suc m) from to) → ((next : Name) → Hops code to next → ⊥)
    → (n : ℕ) (mid : Name) (k : HopsBy code n mid to) → n ≤ m → AllByRecursion (λ y. eqb h.1.place y ≡ false) (places_hopped code n mid to k)
unfolding places_hopped
not_again code m from to h s zero mid k few = tt
not_again code m from to h s (suc n) mid k few = (
  elim (cases_eq h.1.place k.1.place) [
    | inl same ↦ (
        let shorter : HopsBy code (suc n) from to = (k.0, hop_there code from h.0 mid k.0 h.1 k.1 same, k.2) in
        let no = no_further code (suc n) (suc m) from to to shorter s h in
        absurd (omega arith))
    | inr ne ↦ grind (arith, nat_tests)
  ],
  not_again code m from to h s n k.0 k.2 (omega arith),
)

distinct : (code : Code) (n : ℕ) (from to : Name) (h : HopsBy code n from to) → ((next : Name) → Hops code to next → ⊥) → IsDistinct eqb (places_hopped code n from to h)
unfolding places_hopped IsDistinct
distinct code zero from to h s = tt
distinct code (suc n) from to h s = (not_again code n from to h s n h.0 h.2 (omega arith), distinct code n h.0 to h.2 s)

few_hops : (code : Code) (n : ℕ) (from to : Name) → HopsBy code n from to → ((next : Name) → Hops code to next → ⊥) → n ≤ length code.places
few_hops code n from to h s =
    let few = length-le_from_distinct_below (places_hopped code n from to h) (length code.places) (distinct code n from to h s) (all_within code n from to h) in
    let many = as_many code n from to h in
    omega arith

-- ---- the end ----

pub goes_round : (code : Code) (n : ℕ) (from x : Name) → n ≡ length code.places → HopsBy code (suc n) from x → IsEndOf code from None
goes_round code n from x e h = λ label k.
    let far = no_further code (suc k.more) (suc n) from label x k.leads k.stops h in
    let few = few_hops code (suc k.more) from label k.leads k.stops in
    absurd (omega arith)
