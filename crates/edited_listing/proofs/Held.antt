-- The invariant of `EditedListing` holds at first, and is preserved where a window gives way.
use Rattle.std.proofs.Common.{◌≡◌, ℕ, zero, suc, ◌+◌, ◌<◌, ◌≤◌, ◌^◌, Bool, true, false, List, [], ◌∷◌, ◌++◌, ◌&&◌, length, drop, replicate, Some, refl, sym, ap, ◌∙◌, subst, ◌⊎◌, arith, true≢false}
use Rattle.std.specs.Prelude.{slice_get}
use Rattle.std.proofs.lemmas.List.{length-replicate}
use Rattle.thumb_instr.specs.declared.instr.Instr.{Instr}
use Rattle.kept_places.specs.Marks.{is_gone, rank}
use Rattle.thumb_model.specs.Listing.{Place, ListingLine, Label, places_of, labels_from, is_op_place}
use Rattle.thumb_model.specs.Replaced.{replaced_lines}
use Rattle.listing_parser.specs.Parsing.{own_line}
use Rattle.listing_parser.specs.Targets.{DefineOnce}
use Rattle.listing_parser.proofs.ReplaceLemmas.{still_once}
use Rattle.edited_listing.specs.declared.standing.Standing.{Standing}
use Rattle.edited_listing.specs.declared.standing.Standing.TheVariants as standing
use Rattle.edited_listing.specs.Items.{items_from}
use Rattle.edited_listing.specs.Changes.{marks_of, is_as_given, home_at, giving_from}
use Rattle.edited_listing.specs.Counting.{one_if, op_labels}
use Rattle.edited_listing.specs.Edited.{Edited, IsEdited, lines_now, marks, padded, standing_places, unchanged}
use Rattle.edited_listing.specs.Laws.{after_giving, IsWindowAt}
use Rattle.edited_listing.specs.Invariant.{Holds}
use Rattle.edited_listing.proofs.Changes.{items_many}
use Rattle.edited_listing.proofs.Kept.{enough, length_giving_from}
use Rattle.edited_listing.proofs.Unchanged.{lines_unchanged, unchanged_edited}
use Rattle.edited_listing.proofs.Edits.{edits_replace, edits_exchange}
use Rattle.edited_listing.proofs.Counts.{now_short, counted_after, op_labels_many, one_small}
use Rattle.edited_listing.proofs.Rest.{kept_none}
use Rattle.edited_listing.proofs.Padded.{places_kept}
use Rattle.padded_code.specs.Padding.{kept}
use Rattle.padded_code.specs.Exchange.{exchanged, marks_after}
use Rattle.padded_code.specs.Windows.{AreRanked}
use Rattle.thumb_model.proofs.Lists.{present_at}

none_gone : (n : ℕ) → replicate n false ≡ marks_of (replicate n standing.Given)
none_gone zero = refl
none_gone (suc n) = ap (λ ms. false ∷ ms) (none_gone n)

pub is_unchanged : (given : List ListingLine) (count : ℕ) (stands : List Standing) → count ≡ length (places_of given) → stands ≡ replicate count standing.Given → (let e : Edited = record { given = given; stands = stands } in e) ≡ unchanged given
is_unchanged given count stands n e = ap (λ ss. record { given = given; stands = ss }) (e ∙ ap (λ k. replicate k standing.Given) n)

pub lines_first : (given : List ListingLine) (count : ℕ) (stands : List Standing) → count ≡ length (places_of given) → stands ≡ replicate count standing.Given → lines_now (record { given = given; stands = stands }) ≡ given
lines_first given count stands n e = ap lines_now (is_unchanged given count stands n e) ∙ lines_unchanged own_line given 0

pub holds_first : (given : List ListingLine) (count : ℕ) (stands : List Standing) (gone labelled : List Bool) (lines : ℕ) → count ≡ length (places_of given) → count < 2 ^ 32 → stands ≡ replicate count standing.Given → gone ≡ replicate count false → labelled ≡ op_labels given → lines ≡ length given → lines < 2 ^ 63 → Holds given stands gone false labelled lines
holds_first given count stands gone labelled lines n few e g l m short = record {
  edited = subst IsEdited (sym (is_unchanged given count stands n e)) (unchanged_edited given);
  once = λ once. subst DefineOnce (sym (ap lines_now (is_unchanged given count stands n e) ∙ lines_unchanged own_line given 0)) once;
  marks = g ∙ none_gone count ∙ ap marks_of (sym e);
  few = (let same = ap (λ (ss : List Standing). length ss) e ∙ length-replicate count standing.Given in omega arith);
  same = λ h. ap lines_now (is_unchanged given count stands n e) ∙ lines_unchanged own_line given 0;
  labels = l;
  many = m ∙ ap (λ (ls : List ListingLine). length ls) (sym (lines_first given count stands n e));
  short = omega arith;
}

pub holds_after : (given : List ListingLine) (stands : List Standing) (gone : List Bool) (changed : Bool) (labelled : List Bool) (lines : ℕ) (p count : ℕ) (new : List Instr) (s : Standing) (stands' : List Standing) (gone' : List Bool) (lines' : ℕ) → Holds given stands gone changed labelled lines → IsWindowAt (record { given = given; stands = stands }) p count new s →
    stands' ≡ giving_from p count new (home_at p s) stands → gone' ≡ marks_of stands' → lines' ≡ length (lines_now (record { given = given; stands = stands' })) → Holds given stands' gone' true labelled lines'
holds_after given stands gone changed labelled lines p count new s stands' gone' lines' h w e g m =
    let old : Edited = record { given = given; stands = stands } in
    let both = edits_replace old p count new s h.edited w in
    let same : after_giving old p count new s ≡ record { given = given; stands = stands' } = ap (λ ss. record { given = given; stands = ss }) (sym e) in
    record {
      edited = subst IsEdited same both.0;
      once = λ once. subst DefineOnce (sym both.1 ∙ ap lines_now same) (still_once own_line (rank (marks old) p) count new (lines_now old) (h.once once));
      marks = g;
      few = (let len = ap (λ (ss : List Standing). length ss) e ∙ length_giving_from p count new (home_at p s) stands in let few = h.few in omega arith);
      same = λ t. absurd (true≢false t);
      labels = h.labels;
      many = m;
      short = h.short;
    }

pub items_enough : (given : List ListingLine) (stands : List Standing) (gone : List Bool) (changed : Bool) (labelled : List Bool) (lines : ℕ) (p count : ℕ) (new : List Instr) (s : Standing) → Holds given stands gone changed labelled lines → IsWindowAt (record { given = given; stands = stands }) p count new s → count ≤ length (items_from 0 (drop p stands))
items_enough given stands gone changed labelled lines p zero new s h w = omega arith
items_enough given stands gone changed labelled lines p (suc n) new s h w =
    let many = enough own_line (record { given = given; stands = stands }) h.edited p n (home_at p s) new s w.stands w.kept refl w.few w.window in
    let same = items_many 0 (0 + p) (drop p stands) in
    omega arith

-- ---- what a call is told, and what it tells ----

pub window_at : (e now : Edited) (p count : ℕ) (new : List Instr) (s : Standing) → e ≡ now → slice_get e.stands p ≡ Some s → is_gone (marks now) p ≡ false → 1 ≤ count → length new ≤ count →
    ((k : ℕ) → k < count → is_op_place (slice_get (places_of (lines_now now)) (rank (marks now) p + k)) ≡ true) →
    ((k : ℕ) (l : Label) → slice_get (labels_from 0 (lines_now now)) k ≡ Some l → (l.place ≤ rank (marks now) p) ⊎ (rank (marks now) p + count ≤ l.place)) → IsWindowAt e p count new s
window_at e now p count new s v at kept some few window free = record {
  stands = at;
  kept = kept_none e.stands p s at (ap (λ (x : Edited). is_gone (marks x) p) v ∙ kept);
  some = some;
  few = few;
  window = subst (λ (x : Edited). (k : ℕ) → k < count → is_op_place (slice_get (places_of (lines_now x)) (rank (marks x) p + k)) ≡ true) (sym v) window;
  unlabelled = subst (λ (x : Edited). (k : ℕ) (l : Label) → slice_get (labels_from 0 (lines_now x)) k ≡ Some l → (l.place ≤ rank (marks x) p) ⊎ (rank (marks x) p + count ≤ l.place)) (sym v) free;
}

pub lines_after : (given : List ListingLine) (stands : List Standing) (gone : List Bool) (changed : Bool) (labelled : List Bool) (lines : ℕ) (p count : ℕ) (new : List Instr) (s : Standing) (stands' : List Standing) (now : Edited) → Holds given stands gone changed labelled lines → IsWindowAt (record { given = given; stands = stands }) p count new s →
    stands' ≡ giving_from p count new (home_at p s) stands → (let e : Edited = record { given = given; stands = stands } in e) ≡ now →
    lines_now (record { given = given; stands = stands' }) ≡ replaced_lines own_line (rank (marks now) p) count new (lines_now now)
lines_after given stands gone changed labelled lines p count new s stands' now h w e v =
    let old : Edited = record { given = given; stands = stands } in
    let same : after_giving old p count new s ≡ record { given = given; stands = stands' } = ap (λ ss. record { given = given; stands = ss }) (sym e) in
    ap lines_now (sym same) ∙ (edits_replace old p count new s h.edited w).1 ∙ ap (λ (x : Edited). replaced_lines own_line (rank (marks x) p) count new (lines_now x)) v

pub exchange_after : (given : List ListingLine) (stands : List Standing) (p count : ℕ) (new : List Instr) (s : Standing) (stands' : List Standing) (now : Edited) →
    stands' ≡ giving_from p count new (home_at p s) stands → (let e : Edited = record { given = given; stands = stands } in e) ≡ now → (ps : List ℕ) → length ps ≡ count → AreRanked (marks now) (rank (marks now) p) ps →
    (marks (record { given = given; stands = stands' }) ≡ marks_after ps new (marks now)) × (padded (record { given = given; stands = stands' }) ≡ exchanged ps new (padded now))
exchange_after given stands p count new s stands' now e v ps n a =
    let old : Edited = record { given = given; stands = stands } in
    let same : after_giving old p count new s ≡ record { given = given; stands = stands' } = ap (λ ss. record { given = given; stands = ss }) (sym e) in
    let both = edits_exchange old p count new s ps n (subst (λ (x : Edited). AreRanked (marks x) (rank (marks x) p) ps) (sym v) a) in (
      ap marks (sym same) ∙ both.0 ∙ ap (λ (x : Edited). marks_after ps new (marks x)) v,
      ap padded (sym same) ∙ both.1 ∙ ap (λ (x : Edited). exchanged ps new (padded x)) v,
    )

pub given_more : (n : ℕ) (ss : List Standing) → ss ≡ replicate n standing.Given → ss ++ standing.Given ∷ [] ≡ replicate (n + 1) standing.Given
given_more n ss e = ap (λ ts. ts ++ standing.Given ∷ []) e ∙ one_more n ∙ ap (λ k. replicate k standing.Given) (let z : suc n ≡ n + 1 = omega arith in z)
  where
    one_more : (n : ℕ) → replicate n standing.Given ++ standing.Given ∷ [] ≡ replicate (suc n) standing.Given
    one_more zero = refl
    one_more (suc n) = ap (λ ss. standing.Given ∷ ss) (one_more n)

-- ---- the lines now make a listing ----

standing_many : (ss : List Standing) (xs : List Place) → length ss ≡ length xs → length (standing_places ss xs) ≤ length ss
standing_many [] xs h = omega arith
standing_many (s ∷ ss) [] h = omega arith
standing_many (s ∷ ss) (x ∷ xs) h = let less = standing_many ss xs (omega arith) in omega arith

kept_many : (gone : List Bool) (xs : List Place) → length (kept gone xs) ≤ length xs
kept_many [] xs = omega arith
kept_many (g ∷ gone) [] = omega arith
kept_many (true ∷ gone) (x ∷ xs) = let h = kept_many gone xs in omega arith
kept_many (false ∷ gone) (x ∷ xs) = let h = kept_many gone xs in omega arith

pub few_now : (given : List ListingLine) (stands : List Standing) (gone : List Bool) (changed : Bool) (labelled : List Bool) (lines : ℕ) → Holds given stands gone changed labelled lines → length (places_of (lines_now (record { given = given; stands = stands }))) < 2 ^ 32
few_now given stands gone changed labelled lines h =
    let same = ap (λ (xs : List Place). length xs) (places_kept own_line (record { given = given; stands = stands }) h.edited) in
    let less = kept_many (marks_of stands) (standing_places stands (places_of given)) in
    let least = standing_many stands (places_of given) h.edited.as_many in
    let few = h.few in
    omega arith

-- ---- how many lines there are ----

pub lines_few : (given : List ListingLine) (stands : List Standing) (gone : List Bool) (changed : Bool) (labelled : List Bool) (lines : ℕ) → Holds given stands gone changed labelled lines → lines < 2 ^ 63 + 2 ^ 32
lines_few given stands gone changed labelled lines h =
    let many = h.many in
    let all = now_short (record { given = given; stands = stands }) in
    let short = h.short in
    let few = h.few in
    omega arith

pub lines_counted : (given : List ListingLine) (stands : List Standing) (gone : List Bool) (changed : Bool) (labelled : List Bool) (lines : ℕ) (p count : ℕ) (new : List Instr) (s : Standing) (b : Bool) (now : Edited) → Holds given stands gone changed labelled lines →
    IsWindowAt (record { given = given; stands = stands }) p count new s → slice_get labelled p ≡ Some b → (let e : Edited = record { given = given; stands = stands } in e) ≡ now →
    count + length (replaced_lines own_line (rank (marks now) p) count new (lines_now now)) ≡ lines + length new + one_if (b && is_as_given s)
lines_counted given stands gone changed labelled lines p count new s b now h w l v =
    let old : Edited = record { given = given; stands = stands } in
    ap (λ (x : Edited). count + length (replaced_lines own_line (rank (marks x) p) count new (lines_now x))) (sym v)
    ∙ counted_after old p count new s b h.edited w (ap (λ ls. slice_get ls p) (sym h.labels) ∙ l)
    ∙ ap (λ k. k + length new + one_if (b && is_as_given s)) (sym h.many)

pub labels_within : (given : List ListingLine) (stands : List Standing) (gone : List Bool) (changed : Bool) (labelled : List Bool) (lines p : ℕ) → Holds given stands gone changed labelled lines → p < length stands → p < length labelled
labels_within given stands gone changed labelled lines p h l =
    let many = h.edited.as_many in
    let labels = ap (λ (bs : List Bool). length bs) h.labels in
    let same = op_labels_many given in
    omega arith

-- a line of labels, where the instruction at a place gives way
abbrev pub IsLabelLine : List Bool → List Standing → ℕ → ℕ → Type 0
IsLabelLine labelled stands p label = (b : Bool) (s : Standing) → slice_get labelled p ≡ Some b → slice_get stands p ≡ Some s → label ≡ one_if (b && is_as_given s)

pub label_small : (given : List ListingLine) (stands : List Standing) (gone : List Bool) (changed : Bool) (labelled : List Bool) (lines p label : ℕ) → Holds given stands gone changed labelled lines → p < length stands → IsLabelLine labelled stands p label → label ≤ 1
label_small given stands gone changed labelled lines p label h l f =
    let b = present_at labelled p (labels_within given stands gone changed labelled lines p h l) in
    let s = present_at stands p l in
    let same = f b.0 s.0 b.1 s.1 in
    let small = one_small (b.0 && is_as_given s.0) in
    omega arith

pub after_counted : (given : List ListingLine) (stands : List Standing) (gone : List Bool) (changed : Bool) (labelled : List Bool) (lines p count k : ℕ) (new : List Instr) (label : ℕ) (now : Edited) → Holds given stands gone changed labelled lines → (let e : Edited = record { given = given; stands = stands } in e) ≡ now →
    p < length stands → is_gone (marks now) p ≡ false → 1 ≤ count → length new ≡ k → k ≤ count →
    ((j : ℕ) → j < count → is_op_place (slice_get (places_of (lines_now now)) (rank (marks now) p + j)) ≡ true) →
    ((j : ℕ) (l : Label) → slice_get (labels_from 0 (lines_now now)) j ≡ Some l → (l.place ≤ rank (marks now) p) ⊎ (rank (marks now) p + count ≤ l.place)) →
    IsLabelLine labelled stands p label → count + length (replaced_lines own_line (rank (marks now) p) count new (lines_now now)) ≡ lines + k + label
after_counted given stands gone changed labelled lines p count k new label now h v l kept some n few window free f =
    let b = present_at labelled p (labels_within given stands gone changed labelled lines p h l) in
    let s = present_at stands p l in
    let w = window_at (record { given = given; stands = stands }) now p count new s.0 v s.1 kept some (omega arith) window free in
    let counted = lines_counted given stands gone changed labelled lines p count new s.0 b.0 now h w b.1 v in
    let same = f b.0 s.0 b.1 s.1 in
    omega arith
