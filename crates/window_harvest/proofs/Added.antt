-- Adding the pairs of spots to those that were seen, spot by spot and place by place.
use Rattle.std.proofs.Common.{◌≡◌, ℕ, zero, suc, ◌+◌, ◌-◌, ◌<◌, ◌≤◌, List, [], ◌∷◌, ◌++◌, map, refl, sym, ap, ◌∙◌, subst, inl, inr, arith, append-nil}
use Rattle.std.specs.Prelude.{Contains}
use Rattle.std.specs.List.{flat_map}
use Rattle.thumb_model.specs.Listing.{ListingLine}
use Rattle.seq_enum.specs.Alphabet.{numbers_from}
use Rattle.window_harvest.specs.Harvest.{Pair, Limits, WindowSpan, IsPairAt, ArePairs, none, passed, given, AreFirsts, ended, known, new, spot_of, spots_at, spots, AreAdded}
use Rattle.window_harvest.specs.Keys.{IsPut}
use Rattle.std.proofs.lemmas.List.Concat.{flat_map-append}
use Rattle.std.proofs.lemmas.List.{map-append}

pairs_append : (limits : Limits) (lines : List ListingLine) (ys : List WindowSpan) (b : List Pair) → ArePairs limits lines ys b → (xs : List WindowSpan) (a : List Pair) → ArePairs limits lines xs a → ArePairs limits lines (xs ++ ys) (a ++ b)
pairs_append limits lines ys b q _ _ none = q
pairs_append limits lines ys b q _ _ (passed spot xs a n p) = passed spot (xs ++ ys) (a ++ b) n (pairs_append limits lines ys b q xs a p)
pairs_append limits lines ys b q _ _ (given spot xs pair a g p) = given spot (xs ++ ys) pair (a ++ b) g (pairs_append limits lines ys b q xs a p)

firsts_append : (b next : List Pair) (seen a mid : List Pair) → AreFirsts seen a mid → AreFirsts mid b next → AreFirsts seen (a ++ b) next
firsts_append b next _ _ _ (ended seen) q = q
firsts_append b next _ _ _ (known seen pair a mid c p) q = known seen pair (a ++ b) next c (firsts_append b next seen a mid p q)
firsts_append b next _ _ _ (new seen pair a mid n p) q = new seen pair (a ++ b) next n (firsts_append b next (seen ++ pair ∷ []) a mid p q)

-- spots one behind the other
pub added_append : (limits : Limits) (lines : List ListingLine) (xs ys : List WindowSpan) (seen mid next : List Pair) → AreAdded limits lines xs seen mid → AreAdded limits lines ys mid next → AreAdded limits lines (xs ++ ys) seen next
added_append limits lines xs ys seen mid next p q = record {
  pairs = p.pairs ++ q.pairs;
  are = pairs_append limits lines ys q.pairs q.are xs p.pairs p.are;
  once = firsts_append q.pairs next seen p.pairs mid p.once q.once;
}

-- no spot, and one spot
pub added_none : (limits : Limits) (lines : List ListingLine) (seen : List Pair) → AreAdded limits lines [] seen seen
added_none limits lines seen = record { pairs = []; are = none; once = ended seen }

pub added_passed : (limits : Limits) (lines : List ListingLine) (spot : WindowSpan) (seen : List Pair) → ((pair : Pair) → IsPairAt limits lines spot pair → ⊥) → AreAdded limits lines (spot ∷ []) seen seen
added_passed limits lines spot seen n = record { pairs = []; are = passed spot [] [] n none; once = ended seen }

pub added_known : (limits : Limits) (lines : List ListingLine) (spot : WindowSpan) (pair : Pair) (seen : List Pair) → IsPairAt limits lines spot pair → Contains seen pair → AreAdded limits lines (spot ∷ []) seen seen
added_known limits lines spot pair seen g c = record { pairs = pair ∷ []; are = given spot [] pair [] g none; once = known seen pair [] seen c (ended seen) }

pub added_new : (limits : Limits) (lines : List ListingLine) (spot : WindowSpan) (pair : Pair) (seen : List Pair) → IsPairAt limits lines spot pair → (Contains seen pair → ⊥) → AreAdded limits lines (spot ∷ []) seen (seen ++ pair ∷ [])
added_new limits lines spot pair seen g n = record { pairs = pair ∷ []; are = given spot [] pair [] g none; once = new seen pair [] (seen ++ pair ∷ []) n (ended (seen ++ pair ∷ [])) }

-- one pair at a spot
pub added_put : (limits : Limits) (lines : List ListingLine) (spot : WindowSpan) (pair : Pair) (seen next : List Pair) → IsPairAt limits lines spot pair → IsPut pair seen next → AreAdded limits lines (spot ∷ []) seen next
added_put limits lines spot pair seen next g (inl p) = subst (λ (l : List Pair). AreAdded limits lines (spot ∷ []) seen l) (sym p.1) (added_known limits lines spot pair seen g p.0)
added_put limits lines spot pair seen next g (inr p) = subst (λ (l : List Pair). AreAdded limits lines (spot ∷ []) seen l) (sym p.1) (added_new limits lines spot pair seen g p.0)

-- ---- numbers ----

pub numbers_none : (first : ℕ) → numbers_from first 0 ≡ []
unfolding numbers_from
numbers_none first = refl

numbers_split : (n first m : ℕ) → numbers_from first (n + m) ≡ numbers_from first n ++ numbers_from (first + n) m
unfolding numbers_from
numbers_split zero first m = ap (numbers_from first) (let e : 0 + m ≡ m = omega arith in e) ∙ ap (λ k. numbers_from k m) (let e : first ≡ first + 0 = omega arith in e)
numbers_split (suc n) first m =
    ap (numbers_from first) (let e : suc n + m ≡ suc (n + m) = omega arith in e)
    ∙ ap (λ l. first ∷ l) (numbers_split n (suc first) m)
    ∙ ap (λ k. first ∷ (numbers_from (suc first) n ++ numbers_from k m)) (let e : suc first + n ≡ first + suc n = omega arith in e)

numbers_one : (first : ℕ) → numbers_from first 1 ≡ first ∷ []
unfolding numbers_from
numbers_one first = refl

pub numbers_more : (first n : ℕ) → numbers_from first (n + 1) ≡ numbers_from first n ++ (first + n) ∷ []
numbers_more first n = numbers_split n first 1 ∙ ap (λ l. numbers_from first n ++ l) (numbers_one (first + n))

-- the spots of a place, one more
pub spots_more : (limits : Limits) (lines : List ListingLine) (place n : ℕ) (seen mid next : List Pair) → AreAdded limits lines (map (spot_of place) (numbers_from 1 n)) seen mid → AreAdded limits lines (spot_of place (n + 1) ∷ []) mid next
    → AreAdded limits lines (map (spot_of place) (numbers_from 1 (n + 1))) seen next
spots_more limits lines place n seen mid next a b =
    let same : map (spot_of place) (numbers_from 1 (n + 1)) ≡ map (spot_of place) (numbers_from 1 n) ++ spot_of place (n + 1) ∷ [] =
    ap (map (spot_of place)) (numbers_more 1 n) ∙ map-append (spot_of place) (numbers_from 1 n) ((1 + n) ∷ []) ∙ ap (λ m. map (spot_of place) (numbers_from 1 n) ++ spot_of place m ∷ []) (let e : 1 + n ≡ n + 1 = omega arith in e) in
    subst (λ (l : List WindowSpan). AreAdded limits lines l seen next) (sym same) (added_append limits lines (map (spot_of place) (numbers_from 1 n)) (spot_of place (n + 1) ∷ []) seen mid next a b)

pub spots_none : (limits : Limits) (lines : List ListingLine) (place : ℕ) (seen : List Pair) → AreAdded limits lines (map (spot_of place) (numbers_from 1 0)) seen seen
spots_none limits lines place seen = subst (λ l. AreAdded limits lines (map (spot_of place) l) seen seen) (sym (numbers_none 1)) (added_none limits lines seen)

-- spots without a pair change nothing
all_passed : (limits : Limits) (lines : List ListingLine) (place : ℕ) (seen : List Pair) (m first : ℕ) → ((n : ℕ) → first ≤ n → n < first + m → (pair : Pair) → IsPairAt limits lines (spot_of place n) pair → ⊥) → AreAdded limits lines (map (spot_of place) (numbers_from first m)) seen seen
unfolding numbers_from
all_passed limits lines place seen zero first h = added_none limits lines seen
all_passed limits lines place seen (suc m) first h =
    added_append limits lines (spot_of place first ∷ []) (map (spot_of place) (numbers_from (suc first) m)) seen seen seen
    (added_passed limits lines (spot_of place first) seen (h first (omega arith) (omega arith)))
    (all_passed limits lines place seen m (suc first) (λ n a b. h n (omega arith) (omega arith)))

-- the spots of a place, the last of which have no pair
pub spots_end : (limits : Limits) (lines : List ListingLine) (place n left : ℕ) (seen next : List Pair) → n ≤ left → ((m : ℕ) → n < m → m ≤ left → (pair : Pair) → IsPairAt limits lines (spot_of place m) pair → ⊥)
    → AreAdded limits lines (map (spot_of place) (numbers_from 1 n)) seen next → AreAdded limits lines (spots_at left place) seen next
spots_end limits lines place n left seen next h empty a =
    let split : numbers_from 1 left ≡ numbers_from 1 n ++ numbers_from (1 + n) (left - n) = ap (numbers_from 1) (let e : left ≡ n + (left - n) = omega arith in e) ∙ numbers_split n 1 (left - n) in
    let same : spots_at left place ≡ map (spot_of place) (numbers_from 1 n) ++ map (spot_of place) (numbers_from (1 + n) (left - n)) = ap (map (spot_of place)) split ∙ map-append (spot_of place) (numbers_from 1 n) (numbers_from (1 + n) (left - n)) in
    subst (λ (l : List WindowSpan). AreAdded limits lines l seen next) (sym same)
    (added_append limits lines (map (spot_of place) (numbers_from 1 n)) (map (spot_of place) (numbers_from (1 + n) (left - n))) seen next next a
    (all_passed limits lines place next (left - n) (1 + n) (λ m b c. empty m (omega arith) (omega arith))))

-- the spots of the places, one place more
pub places_none : (limits : Limits) (lines : List ListingLine) (left : ℕ) (seen : List Pair) → AreAdded limits lines (spots left 0) seen seen
places_none limits lines left seen = subst (λ l. AreAdded limits lines (flat_map (spots_at left) l) seen seen) (sym (numbers_none 0)) (added_none limits lines seen)

pub places_more : (limits : Limits) (lines : List ListingLine) (left place : ℕ) (seen mid next : List Pair) → AreAdded limits lines (spots left place) seen mid → AreAdded limits lines (spots_at left place) mid next → AreAdded limits lines (spots left (place + 1)) seen next
places_more limits lines left place seen mid next a b =
    let same : spots left (place + 1) ≡ spots left place ++ spots_at left place =
    ap (flat_map (spots_at left)) (numbers_more 0 place) ∙ flat_map-append (spots_at left) (numbers_from 0 place) ((0 + place) ∷ []) ∙ ap (λ l. spots left place ++ l) (append-nil (spots_at left (0 + place)) ∙ ap (spots_at left) (let e : 0 + place ≡ place = omega arith in e)) in
    subst (λ (l : List WindowSpan). AreAdded limits lines l seen next) (sym same) (added_append limits lines (spots left place) (spots_at left place) seen mid next a b)
