-- What stands where kept places are passed.
use Rattle.std.proofs.Common.{◌≡◌, ℕ, zero, suc, ◌+◌, ◌≤◌, Bool, false, List, [], ◌∷◌, length, drop, Some, refl, sym, ap, ◌∙◌, arith}
use Rattle.std.specs.Prelude.{slice_get, Option, None}
use Rattle.std.specs.Option.{option_map}
use Rattle.std.proofs.lemmas.Option.{slice_get-map}
use Rattle.kept_places.specs.Marks.{rank, IsNode}
use Rattle.thumb_model.specs.Listing.{Place, places_of, is_op_place}
use Rattle.thumb_model.proofs.Lists.{get_drop}
use Rattle.listing_parser.specs.Parsing.{own_line}
use Rattle.edited_listing.specs.declared.standing.Standing.{Standing}
use Rattle.edited_listing.specs.declared.standing.Standing.TheVariants as standing
use Rattle.edited_listing.specs.Items.{Item, items_from}
use Rattle.edited_listing.specs.Changes.{marks_of, rest_items}
use Rattle.edited_listing.specs.Places.{item_place, item_of}
use Rattle.edited_listing.specs.Edited.{Edited, IsEdited, lines_now, marks}
use Rattle.edited_listing.proofs.Kept.{words_stand}
use Rattle.edited_listing.proofs.Places.{places_now}
use Rattle.edited_listing.proofs.Rest.{rest_node, rest_kept, rest_end, kept_none}

-- the items from a place on are those from its rank on
rest_ranked : (p r : ℕ) (ss : List Standing) → p ≤ length ss → drop (rank (marks_of ss) p) (items_from r ss) ≡ items_from (r + p) (drop p ss)
rest_ranked zero r [] h = refl
rest_ranked zero r (s ∷ ss) h = ap (λ j. items_from j (s ∷ ss)) (let z : r ≡ r + 0 = omega arith in z)
rest_ranked (suc p) r [] h = absurd (omega arith)
rest_ranked (suc p) r (standing.Given ∷ ss) h = rest_ranked p (suc r) ss (omega arith) ∙ ap (λ j. items_from j (drop p ss)) (let z : suc r + p ≡ r + suc p = omega arith in z)
rest_ranked (suc p) r (standing.Gone ∷ ss) h = rest_ranked p (suc r) ss (omega arith) ∙ ap (λ j. items_from j (drop p ss)) (let z : suc r + p ≡ r + suc p = omega arith in z)
rest_ranked (suc p) r (standing.New i home ∷ ss) h = rest_ranked p (suc r) ss (omega arith) ∙ ap (λ j. items_from j (drop p ss)) (let z : suc r + p ≡ r + suc p = omega arith in z)

item_behind : (ss : List Standing) (p count q : ℕ) → p ≤ length ss → rest_items q ss ≡ drop count (rest_items p ss) → slice_get (items_from 0 ss) (rank (marks_of ss) p + count) ≡ slice_get (rest_items q ss) 0
item_behind ss p count q h r =
    sym (get_drop (rank (marks_of ss) p) (items_from 0 ss) count (rank (marks_of ss) p + count) refl)
    ∙ ap (λ (xs : List Item). slice_get xs count) (rest_ranked p 0 ss h ∙ ap (λ j. items_from j (drop p ss)) (let z : 0 + p ≡ p = omega arith in z))
    ∙ sym (get_drop count (rest_items p ss) 0 count (omega arith))
    ∙ ap (λ (xs : List Item). slice_get xs 0) (sym r)

abbrev joined : Option (Option Place) → Bool
joined None = false
joined (Some x) = is_op_place x

op_joined : (x : Option Place) → is_op_place x ≡ joined (option_map (λ y. Some y) x)
op_joined None = refl
op_joined (Some x) = refl

-- whether an instruction is the first of the items
abbrev op_first : (ℕ → Option Place) → List Item → Bool
op_first at [] = false
op_first at (x ∷ xs) = is_op_place (item_place at x)

first_joined : (at : ℕ → Option Place) (xs : List Item) → joined (option_map (item_place at) (slice_get xs 0)) ≡ op_first at xs
first_joined at [] = refl
first_joined at (x ∷ xs) = refl

op_behind : (e : Edited) (p count q : ℕ) → IsEdited e → p ≤ length e.stands → rest_items q e.stands ≡ drop count (rest_items p e.stands) →
    is_op_place (slice_get (places_of (lines_now e)) (rank (marks e) p + count)) ≡ op_first (slice_get (places_of e.given)) (rest_items q e.stands)
op_behind e p count q is h r =
    let at : ℕ → Option Place = slice_get (places_of e.given) in
    let items : List Item = items_from 0 e.stands in
    let ps : List Place = places_of (lines_now e) in
    let k : ℕ = rank (marks e) p + count in
    let now = places_now own_line at e.given 0 items is.sorted (words_stand e is) is.home (λ j. ap at (let z : 0 + j ≡ j = omega arith in z)) in
    op_joined (slice_get ps k)
    ∙ ap joined (sym (slice_get-map (λ x. Some x) ps k) ∙ ap (λ (xs : List (Option Place)). slice_get xs k) now ∙ slice_get-map (item_place at) items k)
    ∙ ap (λ (x : Option Item). joined (option_map (item_place at) x)) (item_behind e.stands p count q h r)
    ∙ first_joined at (rest_items q e.stands)

-- what stands at the next kept place, and where none is left
pub op_found : (e now : Edited) (p count at q : ℕ) (s : Standing) → IsEdited e → e ≡ now → p ≤ length e.stands → rest_items at e.stands ≡ drop count (rest_items p e.stands) → IsNode (marks_of e.stands) at q → slice_get e.stands q ≡ Some s →
    is_op_place (item_place (slice_get (places_of e.given)) (item_of q s)) ≡ is_op_place (slice_get (places_of (lines_now now)) (rank (marks now) p + count))
op_found e now p count at q s is v h r n f =
    let k = kept_none e.stands q s f n.kept in
    sym (op_behind e p count at is h r ∙ ap (op_first (slice_get (places_of e.given))) (rest_node at q e.stands n ∙ rest_kept q e.stands s f k))
    ∙ ap (λ (x : Edited). is_op_place (slice_get (places_of (lines_now x)) (rank (marks x) p + count))) v

pub op_none : (e now : Edited) (p count at q : ℕ) → IsEdited e → e ≡ now → p ≤ length e.stands → rest_items at e.stands ≡ drop count (rest_items p e.stands) → IsNode (marks_of e.stands) at q → length e.stands ≤ q →
    false ≡ is_op_place (slice_get (places_of (lines_now now)) (rank (marks now) p + count))
op_none e now p count at q is v h r n f =
    sym (op_behind e p count at is h r ∙ ap (op_first (slice_get (places_of e.given))) (rest_node at q e.stands n ∙ rest_end q e.stands f))
    ∙ ap (λ (x : Edited). is_op_place (slice_get (places_of (lines_now x)) (rank (marks x) p + count))) v
