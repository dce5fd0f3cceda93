-- What the tables of the given places say of kept places now: their home, what is joined, labels and instructions.
use Rattle.std.proofs.Common.{◌≡◌, ◌↔◌, ℕ, zero, suc, ◌+◌, ◌-◌, ◌<◌, ◌≤◌, ◌||◌, ◌⊎◌, Bool, true, false, List, [], ◌∷◌, length, drop, Option, Some, None, refl, sym, ap, ◌∙◌, subst, inl, inr, arith, true≢false, if◌then◌else◌}
use Rattle.std.specs.Prelude.{slice_get, is_some}
use Rattle.std.proofs.lemmas.Option.{same_Some, slice_get_past}
use Rattle.thumb_instr.specs.declared.instr.Instr.{Instr}
use Rattle.kept_places.specs.Marks.{is_gone, rank}
use Rattle.thumb_model.specs.Listing.{ListingLine, Place, Op, Word, is_op_place, labels_from, places_of}
use Rattle.thumb_model.proofs.Lists.{present_at}
use Rattle.listing_parser.specs.Parsing.{own_line}
use Rattle.window_runs.specs.declared.rows.WindowPlace.{WindowPlace}
use Rattle.window_runs.specs.Rows.{rows_from}
use Rattle.window_runs.specs.Runs.{instr_at}
use Rattle.window_runs.proofs.Lengths.{rows_length}
use Rattle.padded_code.proofs.Kept.{kept_at}
use Rattle.edited_listing.specs.declared.standing.Standing.{Standing}
use Rattle.edited_listing.specs.declared.standing.Standing.TheVariants as standing
use Rattle.edited_listing.specs.Items.{Item, AsGiven, New, home_of, items_from, AreSorted}
use Rattle.edited_listing.specs.Changes.{home_at}
use Rattle.edited_listing.specs.Places.{has_home, item_of}
use Rattle.edited_listing.specs.Edited.{Edited, IsEdited, instr_in, lines_now, marks, padded, standing_places}
use Rattle.edited_listing.specs.Known.{row_joined, joined_at, all_from, HasLabelAt, HasLabelIn}
use Rattle.edited_listing.specs.Looks.{home_in, home_of_place, IsNextKept}
use Rattle.edited_listing.proofs.Joins.{row_instr, joined_now}
use Rattle.edited_listing.proofs.Moved.{labels_between}
use Rattle.edited_listing.proofs.Kept.{home_get, item_at, words_stand}
use Rattle.edited_listing.proofs.Padded.{places_kept}
use Rattle.edited_listing.proofs.Rest.{stands_at, kept_none}

-- ---- the item of a kept place ----

item_home : (p : ℕ) (s : Standing) → home_of (item_of p s) ≡ home_at p s
item_home p standing.Given = refl
item_home p standing.Gone = refl
item_home p (standing.New i home) = refl

item_here : (e : Edited) (p : ℕ) → p < length e.stands → is_gone (marks e) p ≡ false → (y : Item) × (slice_get (items_from 0 e.stands) (rank (marks e) p) ≡ Some y) × (home_of y ≡ home_of_place e.stands p)
item_here e p h k =
    let s = stands_at e.stands p h in (
      item_of p s.0,
      item_at p 0 e.stands s.0 s.1 (kept_none e.stands p s.0 s.1 k) ∙ ap (λ j. Some (item_of j s.0)) (let z : 0 + p ≡ p = omega arith in z),
      item_home p s.0 ∙ ap (home_in p) (sym s.1),
    )

place_here : (ps : List Place) (k : ℕ) → is_some (slice_get ps k) ≡ true → k < length ps
place_here [] k e = absurd (true≢false (sym e))
place_here (x ∷ ps) zero e = omega arith
place_here (x ∷ ps) (suc k) e = let h = place_here ps k e in omega arith

op_here : (o : Option Place) → is_op_place o ≡ true → is_some o ≡ true
op_here None e = absurd (true≢false (sym e))
op_here (Some x) e = refl

home_here : (ps : List Place) (y : Item) → has_home (slice_get ps) y ≡ true → home_of y < length ps
home_here ps (AsGiven p) e = place_here ps p e
home_here ps (New i p) e = place_here ps p (op_here (slice_get ps p) e)

-- the home of a kept place is a place that was given
pub home_within : (e : Edited) (p : ℕ) → IsEdited e → p < length e.stands → is_gone (marks e) p ≡ false → home_of_place e.stands p < length (places_of e.given)
home_within e p is h k =
    let y = item_here e p h k in
    subst (λ n. n < length (places_of e.given)) y.2 (home_here (places_of e.given) y.0 (home_get (slice_get (places_of e.given)) (items_from 0 e.stands) (rank (marks e) p) y.0 y.1 is.home))

-- homes ascend
homes_grow : (c g k : ℕ) (xs : List Item) (x y : Item) → AreSorted c g xs → slice_get xs k ≡ Some x → slice_get xs (suc k) ≡ Some y → home_of x ≤ home_of y
homes_grow c g k [] x y s e f = absurd (cc)
homes_grow c g zero (z ∷ []) x y s e f = absurd (cc)
homes_grow c g zero (z ∷ w ∷ xs) x y s e f = subst (λ v. home_of v ≤ home_of y) (same_Some z x e) (subst (λ v. home_of z ≤ home_of v) (same_Some w y f) (by z w s))
  where
    by : (z w : Item) → AreSorted c g (z ∷ w ∷ xs) → home_of z ≤ home_of w
    by (AsGiven p) (AsGiven q) s = let h = s.1 in let i = h.0 in omega arith
    by (AsGiven p) (New i q) s = let h = s.1 in let i = h.0 in omega arith
    by (New i p) (AsGiven q) s = let h = s.1 in let i = h.0 in omega arith
    by (New i p) (New j q) s = let h = s.1 in let i = h.0 in omega arith
homes_grow c g (suc k) (AsGiven p ∷ xs) x y s e f = homes_grow (suc p) (suc p) k xs x y s.1 e f
homes_grow c g (suc k) (New i p ∷ xs) x y s e f = homes_grow p (suc p) k xs x y s.1 e f

pub homes_follow : (e : Edited) (p q : ℕ) → IsEdited e → IsNextKept e p q → home_of_place e.stands p ≤ home_of_place e.stands q
homes_follow e p q is h =
    let x = item_here e p h.p_within h.p_kept in
    let y = item_here e q h.q_within h.q_kept in
    let grow = homes_grow 0 0 (rank (marks e) p) (items_from 0 e.stands) x.0 y.0 is.sorted x.1 (ap (slice_get (items_from 0 e.stands)) (sym h.next) ∙ y.1) in
    omega (arith, grow, x.2, y.2)

-- ---- what is joined ----

pub joined_follows : (e : Edited) (p q : ℕ) → IsEdited e → IsNextKept e p q →
    all_from (joined_at (rows_from false e.given)) (suc (home_of_place e.stands p)) (home_of_place e.stands q - home_of_place e.stands p) ≡ joined_at (rows_from false (lines_now e)) (rank (marks e) q)
joined_follows e p q is h =
    let x = item_here e p h.p_within h.p_kept in
    let y = item_here e q h.q_within h.q_kept in
    let within = home_within e q is h.q_within h.q_kept in
    let at : ℕ → Bool = joined_at (rows_from false e.given) in
    ap (λ n. all_from at (suc n) (home_of_place e.stands q - n)) (sym x.2)
    ∙ ap (λ n. all_from at (suc (home_of x.0)) (n - home_of x.0)) (sym y.2)
    ∙ sym (joined_now own_line at e.given (rank (marks e) p) x.0 y.0 (items_from 0 e.stands) (λ j. refl) is.sorted (words_stand e is) x.1
    (ap (slice_get (items_from 0 e.stands)) (sym h.next) ∙ y.1) h.op (omega (arith, within, y.2)))
    ∙ ap (joined_at (rows_from false (lines_now e))) (sym h.next)

-- ---- what is labelled ----

-- one past the home of the kept place before, or the first place
abbrev pub IsBehind : Edited → ℕ → ℕ → Type 0
IsBehind e from q = ((from ≡ 0) × (rank (marks e) q ≡ 0)) ⊎ ((p : ℕ) × (p < length e.stands) × (is_gone (marks e) p ≡ false) × (rank (marks e) q ≡ suc (rank (marks e) p)) × (from ≡ suc (home_of_place e.stands p)))

pub labelled_here : (e : Edited) (q from : ℕ) → IsEdited e → q < length e.stands → is_gone (marks e) q ≡ false → IsBehind e from q →
    HasLabelIn (labels_from 0 e.given) from (home_of_place e.stands q) ↔ HasLabelAt (labels_from 0 (lines_now e)) (rank (marks e) q)
labelled_here e q from is h k b =
    let y = item_here e q h k in
    subst (λ n. HasLabelIn (labels_from 0 e.given) from n ↔ HasLabelAt (labels_from 0 (lines_now e)) (rank (marks e) q)) y.2
    (labels_between own_line e.given (items_from 0 e.stands) (rank (marks e) q) from y.0 is.sorted (words_stand e is) y.1 (elim b [
      | inl f ↦ inl f
      | inr f ↦ let x = item_here e f.0 f.1 f.2 in inr (rank (marks e) f.0, x.0, f.3, x.1, f.4 ∙ ap suc (sym x.2))
    ]))

-- ---- instructions ----

abbrev instr_in_row : Bool → Option WindowPlace → Option Instr
instr_in_row begins None = None
instr_in_row begins (Some r) = if begins || r.is_joined then r.instr else None

instr_drop : (begins : Bool) (rows : List WindowPlace) (k : ℕ) → instr_at begins (drop k rows) ≡ instr_in_row begins (slice_get rows k)
instr_drop begins [] zero = refl
instr_drop begins [] (suc k) = refl
instr_drop begins (r ∷ rows) zero = refl
instr_drop begins (r ∷ rows) (suc k) = instr_drop begins rows k

past_none : {A : Type 0} (xs : List A) (k : ℕ) → slice_get xs k ≡ None → length xs ≤ k
past_none [] k e = omega arith
past_none (x ∷ xs) zero e = absurd (cc)
past_none (x ∷ xs) (suc k) e = let h = past_none xs k e in omega arith

-- what stands at a kept place's rank
place_now : (e : Edited) (p : ℕ) → IsEdited e → is_gone (marks e) p ≡ false → slice_get (places_of (lines_now e)) (rank (marks e) p) ≡ slice_get (padded e).places p
place_now e p is k = ap (λ ps. slice_get ps (rank (marks e) p)) (places_kept own_line e is) ∙ kept_at (marks e) (standing_places e.stands (places_of e.given)) p k

standing_many : (ss : List Standing) (xs : List Place) → length ss ≡ length xs → length (standing_places ss xs) ≡ length ss
standing_many [] xs h = sym h
standing_many (s ∷ ss) [] h = absurd (omega arith)
standing_many (s ∷ ss) (x ∷ xs) h = ap suc (standing_many ss xs (omega arith))

pub instr_end : (e : Edited) (begins : Bool) (p : ℕ) → IsEdited e → length e.stands ≤ p → is_gone (marks e) p ≡ false → None ≡ instr_at begins (drop (rank (marks e) p) (rows_from false (lines_now e)))
instr_end e begins p is h k =
    let rows : List WindowPlace = rows_from false (lines_now e) in
    let short = standing_many e.stands (places_of e.given) is.as_many in
    let none : slice_get (places_of (lines_now e)) (rank (marks e) p) ≡ None = place_now e p is k ∙ slice_get_past (standing_places e.stands (places_of e.given)) p (omega arith) in
    let past = past_none (places_of (lines_now e)) (rank (marks e) p) none in
    let many = rows_length false (lines_now e) in
    ap (instr_in_row begins) (sym (slice_get_past rows (rank (marks e) p) (omega arith))) ∙ sym (instr_drop begins rows (rank (marks e) p))

-- the row of a kept place
row_here : (e : Edited) (p : ℕ) → IsEdited e → p < length e.stands → is_gone (marks e) p ≡ false → (r : WindowPlace) × (slice_get (rows_from false (lines_now e)) (rank (marks e) p) ≡ Some r) × (r.instr ≡ instr_in (slice_get (padded e).places p))
row_here e p is h k =
    let many = standing_many e.stands (places_of e.given) is.as_many in
    let x = present_at (standing_places e.stands (places_of e.given)) p (omega arith) in
    let here = place_here (places_of (lines_now e)) (rank (marks e) p) (ap is_some (place_now e p is k ∙ x.1)) in
    let all = rows_length false (lines_now e) in
    let r = present_at (rows_from false (lines_now e)) (rank (marks e) p) (omega arith) in
    (r.0, r.1, row_instr (lines_now e) r.0 false (rank (marks e) p) r.1 ∙ ap instr_in (place_now e p is k))

instr_is : (e : Edited) (begins : Bool) (p : ℕ) → IsEdited e → p < length e.stands → is_gone (marks e) p ≡ false →
    instr_at begins (drop (rank (marks e) p) (rows_from false (lines_now e))) ≡ (if begins || joined_at (rows_from false (lines_now e)) (rank (marks e) p) then instr_in (slice_get (padded e).places p) else None)
instr_is e begins p is h k =
    let rows : List WindowPlace = rows_from false (lines_now e) in
    let r = row_here e p is h k in
    instr_drop begins rows (rank (marks e) p)
    ∙ ap (instr_in_row begins) r.1
    ∙ ap (λ o. if begins || r.0.is_joined then o else None) r.2
    ∙ ap (λ t. if begins || t then instr_in (slice_get (padded e).places p) else None) (ap row_joined (sym r.1))

pub instr_begins : (e : Edited) (begins : Bool) (p : ℕ) → IsEdited e → p < length e.stands → is_gone (marks e) p ≡ false → begins ≡ true →
    instr_in (slice_get (padded e).places p) ≡ instr_at begins (drop (rank (marks e) p) (rows_from false (lines_now e)))
instr_begins e begins p is h k b =
    ap (λ t. if t || joined_at (rows_from false (lines_now e)) (rank (marks e) p) then instr_in (slice_get (padded e).places p) else None) (sym b) ∙ sym (instr_is e begins p is h k)

pub instr_goes : (e : Edited) (begins : Bool) (p : ℕ) → IsEdited e → p < length e.stands → is_gone (marks e) p ≡ false → joined_at (rows_from false (lines_now e)) (rank (marks e) p) ≡ true →
    instr_in (slice_get (padded e).places p) ≡ instr_at begins (drop (rank (marks e) p) (rows_from false (lines_now e)))
instr_goes e begins p is h k j =
    all begins ∙ ap (λ t. if begins || t then instr_in (slice_get (padded e).places p) else None) (sym j) ∙ sym (instr_is e begins p is h k)
  where
    all : (b : Bool) → instr_in (slice_get (padded e).places p) ≡ (if b || true then instr_in (slice_get (padded e).places p) else None)
    all true = refl
    all false = refl

pub instr_stops : (e : Edited) (begins : Bool) (p : ℕ) → IsEdited e → p < length e.stands → is_gone (marks e) p ≡ false → begins ≡ false → joined_at (rows_from false (lines_now e)) (rank (marks e) p) ≡ false →
    None ≡ instr_at begins (drop (rank (marks e) p) (rows_from false (lines_now e)))
instr_stops e begins p is h k b j =
    ap (λ t. if false || t then instr_in (slice_get (padded e).places p) else None) (sym j)
    ∙ ap (λ t. if t || joined_at (rows_from false (lines_now e)) (rank (marks e) p) then instr_in (slice_get (padded e).places p) else None) (sym b)
    ∙ sym (instr_is e begins p is h k)

-- where a run goes on, an instruction stands
instr_op : (o : Option Place) (i : Instr) → instr_in o ≡ Some i → is_op_place o ≡ true
instr_op None i e = absurd (cc)
instr_op (Some (Op j m)) i e = refl
instr_op (Some (Word v)) i e = absurd (cc)

pub instr_found : (begins : Bool) (ls : List ListingLine) (k : ℕ) (i : Instr) → instr_at begins (drop k (rows_from false ls)) ≡ Some i → is_op_place (slice_get (places_of ls) k) ≡ true
instr_found begins ls k i e = by (slice_get (rows_from false ls) k) refl (sym (instr_drop begins (rows_from false ls) k) ∙ e)
  where
    if_some : (t : Bool) (o : Option Instr) → (if t then o else None) ≡ Some i → o ≡ Some i
    if_some true o f = f
    if_some false o f = absurd (cc)

    by : (o : Option WindowPlace) → slice_get (rows_from false ls) k ≡ o → instr_in_row begins o ≡ Some i → is_op_place (slice_get (places_of ls) k) ≡ true
    by None f g = absurd (cc)
    by (Some r) f g = instr_op (slice_get (places_of ls) k) i (sym (row_instr ls r false k f) ∙ if_some (begins || r.is_joined) r.instr g)

-- what a call is told of the kept place before, and what it tells
pub behind_none : (e now : Edited) (q from : ℕ) → e ≡ now → from ≡ 0 → rank (marks now) q ≡ 0 → IsBehind e from q
behind_none e now q from v f r = inl (f, ap (λ (x : Edited). rank (marks x) q) v ∙ r)

pub behind_some : (e now : Edited) (q from p home : ℕ) → e ≡ now → q < length e.stands → from ≡ home + 1 → home ≡ home_of_place e.stands p → (p < q) × (is_gone (marks now) p ≡ false) × (suc (rank (marks now) p) ≡ rank (marks now) q) → IsBehind e from q
behind_some e now q from p home v l f h s = inr (
  p,
  omega (arith, s.0),
  ap (λ (x : Edited). is_gone (marks x) p) v ∙ s.1,
  ap (λ (x : Edited). rank (marks x) q) v ∙ sym s.2 ∙ ap (λ (x : Edited). suc (rank (marks x) p)) (sym v),
  omega (arith, h),
)

pub labelled_now : (e now : Edited) (q from home : ℕ) (found : Bool) → e ≡ now → IsEdited e → q < length e.stands → is_gone (marks now) q ≡ false → IsBehind e from q → home ≡ home_of_place e.stands q →
    (found ≡ true) ↔ HasLabelIn (labels_from 0 e.given) from home → (found ≡ true) ↔ HasLabelAt (labels_from 0 (lines_now now)) (rank (marks now) q)
labelled_now e now q from home found v is l k b h f =
    let here = labelled_here e q from is l (ap (λ (x : Edited). is_gone (marks x) q) v ∙ k) b in
    let there = subst (λ (x : Edited). HasLabelIn (labels_from 0 e.given) from (home_of_place e.stands q) ↔ HasLabelAt (labels_from 0 (lines_now x)) (rank (marks x) q)) v here in
    let told = subst (λ n. (found ≡ true) ↔ HasLabelIn (labels_from 0 e.given) from n) h f in (
      λ t. there.0 (told.0 t),
      λ t. told.1 (there.1 t),
    )
