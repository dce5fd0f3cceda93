-- The lines of a changed listing as a loop emits them.
use Rattle.std.proofs.Common.{◌≡◌, ℕ, suc, ◌-◌, ◌<◌, ◌≤◌, ◌==◌, ◌&&◌, Bool, true, false, List, [], ◌∷◌, ◌++◌, length, map, drop, refl, sym, ap, ◌∙◌, inl, inr, arith, append_assoc}
use Rattle.std.specs.Prelude.{slice_get, Some, None}
use Rattle.std.proofs.lemmas.Bool.{cases_Bool, eq-eqb, ne_eqb}
use Rattle.std.proofs.lemmas.Option.{same_Some}
use Rattle.thumb_instr.specs.declared.instr.Instr.{Instr}
use Rattle.thumb_model.specs.Listing.{ListingLine}
use Rattle.thumb_model.proofs.Lists.{length_drop}
use Rattle.thumb_model.specs.Replaced.{new_line}
use Rattle.kept_places.specs.Marks.{IsNode}
use Rattle.edited_listing.specs.declared.standing.Standing.{Standing}
use Rattle.edited_listing.specs.declared.standing.Standing.TheVariants as standing
use Rattle.edited_listing.specs.Items.{Item, AsGiven, New}
use Rattle.edited_listing.specs.Emitting.{is_given_at, new_at, emit_at}
use Rattle.edited_listing.specs.Places.{item_of}
use Rattle.edited_listing.specs.Changes.{is_none, marks_of, is_as_given, new_with_home, rest_items}
use Rattle.edited_listing.proofs.Rest.{rest_node, rest_kept, rest_end, kept_none}
use Rattle.common_lemmas.proofs.Booleans.{and_false}

-- ---- the next item ----

new_item : (home q : ℕ) (s : Standing) (xs : List Item) → is_none s ≡ false → new_with_home home s ≡ new_at home (item_of q s ∷ xs)
new_item home q standing.Given xs k = refl
new_item home q standing.Gone xs k = refl
new_item home q (standing.New i h) xs k = refl

pub new_found : (home p q : ℕ) (ss : List Standing) (s : Standing) → IsNode (marks_of ss) p q → slice_get ss q ≡ Some s → new_with_home home s ≡ new_at home (rest_items p ss)
new_found home p q ss s n e =
    let k = kept_none ss q s e n.kept in new_item home q s (rest_items (suc q) ss) k ∙ ap (new_at home) (sym (rest_node p q ss n ∙ rest_kept q ss s e k))

pub new_none : (home p q : ℕ) (ss : List Standing) → IsNode (marks_of ss) p q → length ss ≤ q → None ≡ new_at home (rest_items p ss)
new_none home p q ss n e = ap (new_at home) (sym (rest_node p q ss n ∙ rest_end q ss e))

pub and_true : (b : Bool) → (b && true) ≡ b
and_true true = refl
and_true false = refl

given_item : (place q : ℕ) (s : Standing) (xs : List Item) → is_none s ≡ false → ((q == place) && is_as_given s) ≡ is_given_at place (item_of q s ∷ xs)
given_item place q standing.Given xs k = and_true (q == place)
given_item place q standing.Gone xs k = absurd (cc)
given_item place q (standing.New i h) xs k = and_false (q == place)

pub given_found : (place p q : ℕ) (ss : List Standing) (s : Standing) → IsNode (marks_of ss) p q → slice_get ss q ≡ Some s → ((q == place) && is_as_given s) ≡ is_given_at place (rest_items p ss)
given_found place p q ss s n e =
    let k = kept_none ss q s e n.kept in given_item place q s (rest_items (suc q) ss) k ∙ ap (is_given_at place) (sym (rest_node p q ss n ∙ rest_kept q ss s e k))

pub given_none : (place p q : ℕ) (ss : List Standing) → IsNode (marks_of ss) p q → length ss ≤ q → false ≡ is_given_at place (rest_items p ss)
given_none place p q ss n e = ap (is_given_at place) (sym (rest_node p q ss n ∙ rest_end q ss e))

pub given_same : (place p q : ℕ) (ss : List Standing) (s : Standing) → IsNode (marks_of ss) p q → slice_get ss q ≡ Some s → q ≡ place → is_as_given s ≡ is_given_at place (rest_items p ss)
given_same place p q ss s n e h = ap (λ b. b && is_as_given s) (sym (eq-eqb q place h)) ∙ given_found place p q ss s n e

pub given_other : (place p q : ℕ) (ss : List Standing) (s : Standing) → IsNode (marks_of ss) p q → slice_get ss q ≡ Some s → (q ≡ place → ⊥) → (q == place) ≡ is_given_at place (rest_items p ss)
given_other place p q ss s n e h = ne_eqb q place h ∙ ap (λ b. b && is_as_given s) (sym (ne_eqb q place h)) ∙ given_found place p q ss s n e

-- ---- new instructions ----

module _ (write : Instr → List ℕ) where
  emit_more : (home : ℕ) (xs : List Item) (i : Instr) (behind : List Item → List ListingLine) → new_at home xs ≡ Some i → emit_at write home xs behind ≡ new_line write i ∷ emit_at write home (drop 1 xs) behind
  emit_more home [] i behind e = absurd (cc)
  emit_more home (AsGiven q ∷ xs) i behind e = absurd (cc)
  emit_more home (New j q ∷ xs) i behind e = elim (cases_Bool (q == home)) [
    | inl h ↦ rw h (ap (λ k. new_line write k ∷ emit_at write home xs behind) (same_Some j i (rw h at e)))
    | inr h ↦ absurd (let bad : None ≡ Some i = rw h at e in cc)
  ]

  emit_ends : (home : ℕ) (xs : List Item) (behind : List Item → List ListingLine) → new_at home xs ≡ None → emit_at write home xs behind ≡ behind xs
  emit_ends home [] behind e = refl
  emit_ends home (AsGiven q ∷ xs) behind e = refl
  emit_ends home (New j q ∷ xs) behind e = elim (cases_Bool (q == home)) [
    | inl h ↦ absurd (let bad : Some j ≡ None = rw h at e in cc)
    | inr h ↦ rw h refl
  ]

-- what holds while new instructions are emitted
pub record AreEmitted (write : Instr → List ℕ) (home from : ℕ) (stands : List Standing) (start : List ListingLine) (marks : List Bool) (at : ℕ) (out : List ListingLine) (now : List Bool) : Type 0 where
  pub lines : (behind : List Item → List ListingLine) → out ++ emit_at write home (rest_items at stands) behind ≡ start ++ emit_at write home (rest_items from stands) behind
  pub within : at ≤ length stands
  pub same : now ≡ marks

pub emitted_first : (write : Instr → List ℕ) (home from : ℕ) (stands : List Standing) (start : List ListingLine) (marks : List Bool) → from ≤ length stands → AreEmitted write home from stands start marks from start marks
emitted_first write home from stands start marks h = record { lines = λ behind. refl; within = h; same = refl }

pub emitted_more : (write : Instr → List ℕ) (home from : ℕ) (stands : List Standing) (start : List ListingLine) (marks : List Bool) (at : ℕ) (out : List ListingLine) (now : List Bool) (i : Instr) (q : ℕ) (out' : List ListingLine) (now' : List Bool) →
    AreEmitted write home from stands start marks at out now → Some i ≡ new_at home (rest_items at stands) → out' ≡ out ++ map (new_line write) (i ∷ []) → rest_items q stands ≡ drop 1 (rest_items at stands) → q ≤ length stands → now' ≡ now →
    AreEmitted write home from stands start marks q out' now'
emitted_more write home from stands start marks at out now i q out' now' p e o r w m = record {
  lines = λ behind.
      ap (λ xs. out' ++ emit_at write home xs behind) r
      ∙ ap (λ ls. ls ++ emit_at write home (drop 1 (rest_items at stands)) behind) o
      ∙ append_assoc out (new_line write i ∷ []) (emit_at write home (drop 1 (rest_items at stands)) behind)
      ∙ ap (λ ls. out ++ ls) (sym (emit_more write home (rest_items at stands) i behind (sym e)))
      ∙ p.lines behind;
  within = w;
  same = m ∙ p.same;
}

pub emitted_last : (write : Instr → List ℕ) (home from : ℕ) (stands : List Standing) (start : List ListingLine) (marks : List Bool) (at : ℕ) (out : List ListingLine) (now : List Bool) → AreEmitted write home from stands start marks at out now → None ≡ new_at home (rest_items at stands) →
    (behind : List Item → List ListingLine) → out ++ behind (rest_items at stands) ≡ start ++ emit_at write home (rest_items from stands) behind
emitted_last write home from stands start marks at out now p e behind = ap (λ ls. out ++ ls) (sym (emit_ends write home (rest_items at stands) behind (sym e))) ∙ p.lines behind

some_items : (home : ℕ) (xs : List Item) (i : Instr) → Some i ≡ new_at home xs → 0 < length xs
some_items home [] i e = absurd (cc)
some_items home (x ∷ xs) i e = omega arith

pub fewer_items : (home at q : ℕ) (stands : List Standing) (i : Instr) → Some i ≡ new_at home (rest_items at stands) → rest_items q stands ≡ drop 1 (rest_items at stands) → length (rest_items q stands) < length (rest_items at stands)
fewer_items home at q stands i e r =
    let some = some_items home (rest_items at stands) i e in
    let less : length (rest_items q stands) ≡ length (rest_items at stands) - 1 = ap (λ xs. length xs) r ∙ length_drop 1 (rest_items at stands) in
    omega arith
