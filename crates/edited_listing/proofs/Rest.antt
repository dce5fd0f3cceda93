-- The items from a place on.
use Rattle.std.proofs.Common.{◌≡◌, ℕ, zero, suc, ◌+◌, ◌-◌, ◌<◌, ◌≤◌, Bool, true, false, List, [], ◌∷◌, length, drop, Some, refl, sym, ap, ◌∙◌, arith, true≢false}
use Rattle.std.specs.Prelude.{slice_get}
use Rattle.std.proofs.lemmas.Option.{same_Some}
use Rattle.kept_places.specs.Marks.{is_gone, IsNode}
use Rattle.edited_listing.specs.declared.standing.Standing.{Standing}
use Rattle.edited_listing.specs.declared.standing.Standing.TheVariants as standing
use Rattle.edited_listing.specs.Items.{items_from}
use Rattle.edited_listing.specs.Changes.{is_none, marks_of, rest_items}
use Rattle.edited_listing.specs.Places.{item_of}

-- behind gone places
rest_past : (p q r : ℕ) (ss : List Standing) → p ≤ q → ((k : ℕ) → p ≤ k → k < q → is_gone (marks_of ss) k ≡ true) → items_from (r + p) (drop p ss) ≡ items_from (r + q) (drop q ss)
rest_past zero zero r ss h g = refl
rest_past zero (suc q) r [] h g = refl
rest_past zero (suc q) r (standing.Gone ∷ ss) h g =
    ap (λ j. items_from j ss) (let z : suc (r + 0) ≡ suc r + 0 = omega arith in z) ∙ rest_past zero q (suc r) ss (omega arith) (λ k a b. g (suc k) (omega arith) (omega arith)) ∙ ap (λ j. items_from j (drop q ss)) (let z : suc r + q ≡ r + suc q = omega arith in z)
rest_past zero (suc q) r (standing.Given ∷ ss) h g = absurd (true≢false (sym (g 0 (omega arith) (omega arith))))
rest_past zero (suc q) r (standing.New i home ∷ ss) h g = absurd (true≢false (sym (g 0 (omega arith) (omega arith))))
rest_past (suc p) zero r ss h g = absurd (omega arith)
rest_past (suc p) (suc q) r [] h g = refl
rest_past (suc p) (suc q) r (s ∷ ss) h g =
    ap (λ j. items_from j (drop p ss)) (let z : r + suc p ≡ suc r + p = omega arith in z) ∙ rest_past p q (suc r) ss (omega arith) (λ k a b. g (suc k) (omega arith) (omega arith)) ∙ ap (λ j. items_from j (drop q ss)) (let z : suc r + q ≡ r + suc q = omega arith in z)

pub rest_node : (p q : ℕ) (ss : List Standing) → IsNode (marks_of ss) p q → rest_items p ss ≡ rest_items q ss
rest_node p q ss n = ap (λ j. items_from j (drop p ss)) (let z : p ≡ 0 + p = omega arith in z) ∙ rest_past p q 0 ss n.from n.between ∙ ap (λ j. items_from j (drop q ss)) (let z : 0 + q ≡ q = omega arith in z)

-- the item at a kept place, and those behind it
rest_first : (q r : ℕ) (ss : List Standing) (s : Standing) → slice_get ss q ≡ Some s → is_none s ≡ false → items_from (r + q) (drop q ss) ≡ item_of (r + q) s ∷ items_from (r + suc q) (drop (suc q) ss)
rest_first zero r [] s e k = absurd (cc)
rest_first (suc q) r [] s e k = absurd (cc)
rest_first zero r (standing.Given ∷ ss) s e k = ap (λ t. item_of (r + 0) t ∷ items_from (suc (r + 0)) ss) (same_Some standing.Given s e) ∙ ap (λ j. item_of (r + 0) s ∷ items_from j ss) (let z : suc (r + 0) ≡ r + 1 = omega arith in z)
rest_first zero r (standing.Gone ∷ ss) s e k = absurd (true≢false (ap is_none (same_Some standing.Gone s e) ∙ k))
rest_first zero r (standing.New i h ∷ ss) s e k = ap (λ t. item_of (r + 0) t ∷ items_from (suc (r + 0)) ss) (same_Some (standing.New i h) s e) ∙ ap (λ j. item_of (r + 0) s ∷ items_from j ss) (let z : suc (r + 0) ≡ r + 1 = omega arith in z)
rest_first (suc q) r (t ∷ ss) s e k =
    ap (λ j. items_from j (drop q ss)) (let z : r + suc q ≡ suc r + q = omega arith in z)
    ∙ rest_first q (suc r) ss s e k
    ∙ ap (λ j. item_of j s ∷ items_from (suc r + suc q) (drop (suc q) ss)) (let z : suc r + q ≡ r + suc q = omega arith in z)
    ∙ ap (λ j. item_of (r + suc q) s ∷ items_from j (drop (suc q) ss)) (let z : suc r + suc q ≡ r + suc (suc q) = omega arith in z)

pub rest_kept : (q : ℕ) (ss : List Standing) (s : Standing) → slice_get ss q ≡ Some s → is_none s ≡ false → rest_items q ss ≡ item_of q s ∷ rest_items (suc q) ss
rest_kept q ss s e k =
    ap (λ j. items_from j (drop q ss)) (let z : q ≡ 0 + q = omega arith in z)
    ∙ rest_first q 0 ss s e k
    ∙ ap (λ j. item_of j s ∷ items_from (0 + suc q) (drop (suc q) ss)) (let z : 0 + q ≡ q = omega arith in z)
    ∙ ap (λ j. item_of q s ∷ items_from j (drop (suc q) ss)) (let z : 0 + suc q ≡ suc q = omega arith in z)

drop_past : (q : ℕ) (ss : List Standing) → length ss ≤ q → drop q ss ≡ []
drop_past zero [] h = refl
drop_past zero (s ∷ ss) h = absurd (omega arith)
drop_past (suc q) [] h = refl
drop_past (suc q) (s ∷ ss) h = drop_past q ss (omega arith)

pub rest_end : (q : ℕ) (ss : List Standing) → length ss ≤ q → rest_items q ss ≡ []
rest_end q ss h = ap (λ ts. items_from q ts) (drop_past q ss h)

-- what stands at a place within
pub stands_at : (ss : List Standing) (q : ℕ) → q < length ss → (s : Standing) × (slice_get ss q ≡ Some s)
stands_at [] q h = absurd (omega arith)
stands_at (s ∷ ss) zero h = (s, refl)
stands_at (s ∷ ss) (suc q) h = stands_at ss q (omega arith)

pub kept_none : (ss : List Standing) (q : ℕ) (s : Standing) → slice_get ss q ≡ Some s → is_gone (marks_of ss) q ≡ false → is_none s ≡ false
kept_none [] q s e g = absurd (cc)
kept_none (t ∷ ss) zero s e g = ap is_none (sym (same_Some t s e)) ∙ g
kept_none (t ∷ ss) (suc q) s e g = kept_none ss q s e g

-- behind the next kept place there is an item less
pub pass_kept : (p q : ℕ) (ss : List Standing) → IsNode (marks_of ss) p q → q < length ss → rest_items (q + 1) ss ≡ drop 1 (rest_items p ss)
pass_kept p q ss n h =
    let at = stands_at ss q h in
    ap (λ j. rest_items j ss) (let z : q + 1 ≡ suc q = omega arith in z) ∙ ap (drop 1) (sym (rest_node p q ss n ∙ rest_kept q ss at.0 at.1 (kept_none ss q at.0 at.1 n.kept)))

pub pass_end : (p q : ℕ) (ss : List Standing) → IsNode (marks_of ss) p q → length ss ≤ q → rest_items q ss ≡ drop 1 (rest_items p ss)
pass_end p q ss n h = rest_end q ss h ∙ ap (drop 1) (sym (rest_node p q ss n ∙ rest_end q ss h))

drop_more : {A : Type 0} (n : ℕ) (xs : List A) → drop 1 (drop n xs) ≡ drop (suc n) xs
drop_more zero xs = refl
drop_more (suc n) [] = refl
drop_more (suc n) (x ∷ xs) = drop_more n xs

-- what holds while places are passed
pub record IsPassed (stands : List Standing) (from count : ℕ) (start : List Bool) (at left : ℕ) (marks : List Bool) : Type 0 where
  pub few : left ≤ count
  pub rest : rest_items at stands ≡ drop (count - left) (rest_items from stands)
  pub within : at ≤ length stands
  pub same : marks ≡ start

pub passed_first : (stands : List Standing) (from count : ℕ) (start : List Bool) → from ≤ length stands → IsPassed stands from count start from count start
passed_first stands from count start h = record {
  few = omega arith;
  rest = ap (λ j. drop j (rest_items from stands)) (let z : 0 ≡ count - count = omega arith in z);
  within = h;
  same = refl;
}

pub passed_more : (stands : List Standing) (from count : ℕ) (start : List Bool) (at left : ℕ) (marks : List Bool) (q : ℕ) (marks' : List Bool) → IsPassed stands from count start at left marks → 0 < left →
    rest_items q stands ≡ drop 1 (rest_items at stands) → q ≤ length stands → marks' ≡ marks → IsPassed stands from count start q (left - 1) marks'
passed_more stands from count start at left marks q marks' p h e w m =
    let f = p.few in
    record {
      few = omega arith;
      rest = e ∙ ap (drop 1) p.rest ∙ drop_more (count - left) (rest_items from stands) ∙ ap (λ j. drop j (rest_items from stands)) (let z : suc (count - left) ≡ count - (left - 1) = omega arith in z);
      within = w;
      same = m ∙ p.same;
    }

pub passed_last : (stands : List Standing) (from count : ℕ) (start : List Bool) (at left : ℕ) (marks : List Bool) → IsPassed stands from count start at left marks → left ≤ 0 → rest_items at stands ≡ drop count (rest_items from stands)
passed_last stands from count start at left marks p h = p.rest ∙ ap (λ j. drop j (rest_items from stands)) (let z : count - left ≡ count = omega arith in z)
