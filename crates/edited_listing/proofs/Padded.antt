-- A listing that is being changed, and its padded code.
use Rattle.std.proofs.Common.{◌≡◌, ℕ, zero, suc, ◌+◌, ◌<◌, ◌≤◌, Bool, true, false, List, [], ◌∷◌, length, map, set, Some, refl, sym, ap, ◌∙◌, subst, arith, inl, inr}
use Rattle.std.specs.Prelude.{slice_get, Option, None}
use Rattle.std.proofs.lemmas.Bool.{cases_Bool, cases_lt}
use Rattle.std.proofs.lemmas.List.{length-set}
use Rattle.thumb_instr.specs.declared.instr.Instr.{Instr}
use Rattle.kept_places.specs.Marks.{is_gone, rank}
use Rattle.kept_places.proofs.Ranks.{marked_other, rank_kept, rank_set_behind, ranks_ascend, ranks_grow}
use Rattle.thumb_model.specs.Listing.{Place, plain, ListingLine, places_of}
use Rattle.thumb_model.proofs.Lists.{length_map}
use Rattle.padded_code.specs.Padding.{nop, kept}
use Rattle.padded_code.specs.Exchange.{marks_after, places_after}
use Rattle.padded_code.specs.Windows.{AreRanked}
use Rattle.edited_listing.specs.declared.standing.Standing.{Standing}
use Rattle.edited_listing.specs.declared.standing.Standing.TheVariants as standing
use Rattle.edited_listing.specs.Items.{items_from}
use Rattle.edited_listing.specs.Emitting.{lines_from}
use Rattle.edited_listing.specs.Places.{item_place}
use Rattle.edited_listing.specs.Changes.{is_none, marks_of, giving_from}
use Rattle.edited_listing.specs.Edited.{Edited, standing_place, standing_places, IsEdited}
use Rattle.edited_listing.proofs.Changes.{giving_from_none, giving_gone, giving_new, giving_past}
use Rattle.edited_listing.proofs.Steps.{marks_set, set_false}
use Rattle.edited_listing.proofs.Kept.{words_stand}
use Rattle.edited_listing.proofs.Places.{places_now}

-- ---- the places of the lines are the kept ones of the padded code ----

kept_items : (at : ℕ → Option Place) (q : ℕ) (ss : List Standing) (xs : List Place) → length ss ≡ length xs → ((k : ℕ) → at (q + k) ≡ slice_get xs k) →
    map (item_place at) (items_from q ss) ≡ map (λ x. Some x) (kept (marks_of ss) (standing_places ss xs))
kept_items at q [] [] h a = refl
kept_items at q [] (x ∷ xs) h a = absurd (omega arith)
kept_items at q (s ∷ ss) [] h a = absurd (omega arith)
kept_items at q (standing.Gone ∷ ss) (x ∷ xs) h a = kept_items at (suc q) ss xs (omega arith) (λ k. ap at (let z : suc q + k ≡ q + suc k = omega arith in z) ∙ a (suc k))
kept_items at q (standing.New i home ∷ ss) (x ∷ xs) h a =
    ap (λ ys. Some (plain i) ∷ ys) (kept_items at (suc q) ss xs (omega arith) (λ k. ap at (let z : suc q + k ≡ q + suc k = omega arith in z) ∙ a (suc k)))
kept_items at q (standing.Given ∷ ss) (x ∷ xs) h a =
    ap (λ y. y ∷ map (item_place at) (items_from (suc q) ss)) (ap at (let z : q ≡ q + 0 = omega arith in z) ∙ a 0)
    ∙ ap (λ ys. Some x ∷ ys) (kept_items at (suc q) ss xs (omega arith) (λ k. ap at (let z : suc q + k ≡ q + suc k = omega arith in z) ∙ a (suc k)))

-- lists of the same elements
values : List (Option Place) → List Place
values [] = []
values (None ∷ xs) = values xs
values (Some x ∷ xs) = x ∷ values xs

some_values : (xs : List Place) → values (map (λ x. Some x) xs) ≡ xs
unfolding values
some_values [] = refl
some_values (x ∷ xs) = ap (λ ys. x ∷ ys) (some_values xs)

pub places_kept : (write : Instr → List ℕ) (e : Edited) → IsEdited e → places_of (lines_from write 0 (items_from 0 e.stands) e.given) ≡ kept (marks_of e.stands) (standing_places e.stands (places_of e.given))
places_kept write e is =
    let now : List ListingLine = lines_from write 0 (items_from 0 e.stands) e.given in
    let at : ℕ → Option Place = slice_get (places_of e.given) in
    let offset : (k : ℕ) → at (0 + k) ≡ slice_get (places_of e.given) k = λ k. ap at (let z : 0 + k ≡ k = omega arith in z) in
    sym (some_values (places_of now))
    ∙ ap values (places_now write at e.given 0 (items_from 0 e.stands) is.sorted (words_stand e is) is.home offset ∙ kept_items at 0 e.stands (places_of e.given) is.as_many offset)
    ∙ some_values (kept (marks_of e.stands) (standing_places e.stands (places_of e.given)))

-- ---- a window that gives way is an exchange of the padded code ----

places_set : (ss : List Standing) (xs : List Place) (q : ℕ) (s : Standing) (x : Place) → ((y : Place) → x ≡ standing_place s y) → q < length ss → set (standing_places ss xs) q x ≡ standing_places (set ss q s) xs
places_set [] xs q s x e h = absurd (omega arith)
places_set (t ∷ ss) [] zero s x e h = refl
places_set (t ∷ ss) [] (suc q) s x e h = refl
places_set (t ∷ ss) (y ∷ xs) zero s x e h = ap (λ z. z ∷ standing_places ss xs) (e y)
places_set (t ∷ ss) (y ∷ xs) (suc q) s x e h = ap (λ ys. standing_place t y ∷ ys) (places_set ss xs q s x e (omega arith))

ranked_drop : (gone : List Bool) (q r : ℕ) (ps : List ℕ) → q < length gone → is_gone gone q ≡ false → rank gone q ≤ r → AreRanked gone (suc r) ps → AreRanked (set gone q true) r ps
ranked_drop gone q r [] w g h a = tt
ranked_drop gone q r (p ∷ ps) w g h a =
    let len : length (set gone q true) ≡ length gone = length-set gone q true in
    let at : rank gone p ≡ suc r = a.2 in
    let in_marks : p < length gone = a.0 in
    let behind : q < p = elim (cases_lt q p) [ inl l ↦ l | inr l ↦ absurd (let grows = ranks_grow gone p q l in omega arith) ] in
    let one_less = rank_set_behind gone q p w g behind in
    (omega arith, marked_other gone q p true (λ f. absurd (omega arith)) ∙ a.1, omega arith, ranked_drop gone q (suc r) ps w g (omega arith) a.3)

-- from a place to the kept one of its rank all are gone
ranks_meet : (gone : List Bool) (p q : ℕ) → is_gone gone q ≡ false → rank gone p ≡ rank gone q → (p ≤ q) × ((k : ℕ) → p ≤ k → k < q → is_gone gone k ≡ true)
ranks_meet gone p q g e = (
  elim (cases_lt q p) [ inl l ↦ absurd (let more = ranks_ascend gone q p g l in omega arith) | inr l ↦ l ],
  λ k a b. elim (cases_Bool (is_gone gone k)) [ inl l ↦ l | inr l ↦ absurd (let more = ranks_ascend gone k q l b in let grows = ranks_grow gone p k a in omega arith) ],
)

marks_new : (ss : List Standing) (q : ℕ) (i : Instr) (home : ℕ) → is_gone (marks_of ss) q ≡ false → marks_of ss ≡ marks_of (set ss q (standing.New i home))
marks_new ss q i home g = set_false (marks_of ss) q g ∙ marks_set ss q (standing.New i home)

abbrev pub IsExchanged : List ℕ → List Instr → ℕ → ℕ → List Place → List Standing → Type 0
IsExchanged ps is p home xs ss =
    (marks_after ps is (marks_of ss) ≡ marks_of (giving_from p (length ps) is home ss)) × (places_after ps is (standing_places ss xs) ≡ standing_places (giving_from p (length ps) is home ss) xs)

pub exchange_places : (ps : List ℕ) (is : List Instr) (r p home : ℕ) (xs : List Place) (ss : List Standing) → AreRanked (marks_of ss) r ps → rank (marks_of ss) p ≡ r → IsExchanged ps is p home xs ss
exchange_places [] is r p home xs ss a e = (ap marks_of (sym (giving_from_none p is home ss)), ap (λ ts. standing_places ts xs) (sym (giving_from_none p is home ss)))
exchange_places (q ∷ ps) [] r p home xs ss a e =
    let len = length_map is_none ss in
    let within : q < length ss = (let w = a.0 in omega arith) in
    let meet = ranks_meet (marks_of ss) p q a.1 (e ∙ sym a.2) in
    let ss' : List Standing = set ss q standing.Gone in
    let marks : set (marks_of ss) q true ≡ marks_of ss' = marks_set ss q standing.Gone in
    let ranked : AreRanked (marks_of ss') r ps = subst (λ ms. AreRanked ms r ps) marks (ranked_drop (marks_of ss) q r ps a.0 a.1 (let z = a.2 in omega arith) a.3) in
    let at : rank (marks_of ss') (suc q) ≡ r = ap (λ ms. rank ms (suc q)) (sym marks) ∙ (let one = rank_set_behind (marks_of ss) q (suc q) a.0 a.1 (omega arith) in let next = rank_kept (marks_of ss) q a.1 in let z = a.2 in omega arith) in
    let rest = exchange_places ps [] r (suc q) home xs ss' ranked at in
    let same : giving_from (suc q) (length ps) [] home ss' ≡ giving_from p (suc (length ps)) [] home ss = sym (giving_past p q (length ps) [] home ss meet.0 meet.1 ∙ giving_gone q (length ps) home ss a.1) in (
      ap (marks_after ps []) marks ∙ rest.0 ∙ ap marks_of same,
      ap (places_after ps []) (places_set ss xs q standing.Gone nop (λ y. refl) within) ∙ rest.1 ∙ ap (λ ts. standing_places ts xs) same,
    )
exchange_places (q ∷ ps) (i ∷ is) r p home xs ss a e =
    let len = length_map is_none ss in
    let within : q < length ss = (let w = a.0 in omega arith) in
    let meet = ranks_meet (marks_of ss) p q a.1 (e ∙ sym a.2) in
    let ss' : List Standing = set ss q (standing.New i home) in
    let marks : marks_of ss ≡ marks_of ss' = marks_new ss q i home a.1 in
    let ranked : AreRanked (marks_of ss') (suc r) ps = subst (λ ms. AreRanked ms (suc r) ps) marks a.3 in
    let at : rank (marks_of ss') (suc q) ≡ suc r = ap (λ ms. rank ms (suc q)) (sym marks) ∙ rank_kept (marks_of ss) q a.1 ∙ ap suc a.2 in
    let rest = exchange_places ps is (suc r) (suc q) home xs ss' ranked at in
    let same : giving_from (suc q) (length ps) is home ss' ≡ giving_from p (suc (length ps)) (i ∷ is) home ss = sym (giving_past p q (length ps) (i ∷ is) home ss meet.0 meet.1 ∙ giving_new q (length ps) i is home ss a.1) in (
      ap (marks_after ps is) marks ∙ rest.0 ∙ ap marks_of same,
      ap (places_after ps is) (places_set ss xs q (standing.New i home) (plain i) (λ y. refl) within) ∙ rest.1 ∙ ap (λ ts. standing_places ts xs) same,
    )
