-- Compaction after clauses were dropped keeps the solver's invariant.
use Rattle.std.proofs.Common.{◌≡◌, ℕ, ◌<◌, ◌⊎◌, List, [], length, get_or, take, refl, sym, ◌∙◌, ap, inl, inr, arith, Option, Some, None, subst, true, false}
use Rattle.std.specs.Prelude.{All, Any, Contains, slice_get}
use Rattle.std.proofs.lemmas.List.{length-map, get_or_default}
use Rattle.std.proofs.lemmas.List.Elements.{All-weaker, Contains-get_or}
use Rattle.std.proofs.lemmas.Option.{slice_get_within, slice_get-get_or, get_or_from_slice_get}
use Rattle.clause_model.specs.Clauses.{negated, IsUnit, numbered}
use Rattle.clause_arena.specs.Contents.{Clause, Content, HasClause, HasLiteral, IsWhole, literals_of, is_dropped_of, references_of}
use Rattle.clause_arena.specs.Compaction.{IsLive, IsCompacted}
use Rattle.unit_propagation.specs.Watching.{IsWatched, IsKnown, IsReason}
use Rattle.unit_propagation.proofs.Compacted.{compacted_attached}
use Rattle.cdcl_core.specs.Implied.{clauses_of, IsCovered, IsNoReason, IsSpare}
use Rattle.cdcl_core.specs.Held.{Covers}
use Rattle.cdcl_core.specs.Dropped.{Remains, AreDropped, IsRenamed}
use Rattle.cdcl_core.specs.Searched.{IsBase}
use Rattle.cdcl_core.proofs.Hints.{held_at}
use Rattle.cdcl_core.proofs.Sparing.{one_place}

entry_at : (xs : List ℕ) (k : ℕ) → k < length xs → slice_get xs k ≡ Some (get_or xs k 0)
entry_at xs k b = slice_get-get_or xs k 0 b

module _ (content : Content) (refs ids : List ℕ) (reasons : List (Option ℕ)) (trail : List ℕ) {size : ℕ} (b : IsBase (clauses_of content) size content refs reasons trail None)
    (kept names : List ℕ) (h : Remains content refs ids (length refs) kept names) where
  -- each kept clause is the arena's
  kept_clause : (k : ℕ) → k < length kept → HasClause content (get_or kept k 0)
  kept_clause k c =
      let w = h.from k c in
      subst (HasClause content) w.2 (subst (λ (xs : List ℕ). Contains xs (get_or refs w.0 0)) b.numbered_by (Contains-get_or refs w.0 0 w.1))

  pub kept_live : All (IsLive content) kept
  kept_live k d c =
      let x : get_or kept k d ≡ get_or kept k 0 = get_or_default kept k d 0 c in
      let r : HasClause content (get_or kept k d) = subst (HasClause content) (sym x) (kept_clause k c) in
      (r, h.live k d c)

  -- and each reason is kept
  pub kept_reasons : (k r : ℕ) → slice_get reasons k ≡ Some (Some r) → Contains kept r
  kept_reasons k r e =
      let c : Contains refs r = subst (λ (xs : List ℕ). Contains xs r) (sym b.numbered_by) (b.justified.because k r e).clause in
      let is : get_or refs c.0 0 ≡ r = get_or_default refs c.0 0 r c.1 ∙ c.2 in
      elim (h.dropped c.0 c.1) [
        | inl x ↦ subst (Contains kept) is x
        | inr x ↦
            let s : IsSpare content reasons trail r = b.spare refl r (b.justified.because k r e).clause (subst (λ (y : ℕ). is_dropped_of content y ≡ true) is x) in
            absurd (s.0 k e)
      ]

  module _ (content' : Content) (moved : List ℕ) (whole : IsWhole content') (q : IsCompacted content kept content' moved) where
    -- the place of a clause among those that are kept
    place : (at : ℕ) → HasClause content' at → (k : ℕ) × ((k < length kept) × (get_or moved k 0 ≡ at))
    place at c =
        let d : Contains moved at = subst (λ (xs : List ℕ). Contains xs at) q.references c in
        let m : d.0 < length moved = d.1 in
        (d.0, (omega (arith, q.as_many), get_or_default moved d.0 0 at m ∙ d.2))

    there : (k : ℕ) → k < length kept → HasClause content' (get_or moved k 0)
    there k c = let m : k < length moved = omega (arith, c, q.as_many) in subst (λ (xs : List ℕ). Contains xs (get_or moved k 0)) (sym q.references) (Contains-get_or moved k 0 m)

    none_dropped : (at : ℕ) → HasClause content' at → is_dropped_of content' at ≡ true → ⊥
    none_dropped at c f =
        let z : false ≡ true = sym (q.live at (subst (λ (xs : List ℕ). Contains xs at) q.references c)) ∙ f in
        absurd cc

    known_there : IsKnown content'
    known_there = record {
      literals = λ at l c i.
          let w = place at c in
          let old : Contains (literals_of content (get_or kept w.0 0)) l = subst (λ (ls : List ℕ). Contains ls l) (q.literals w.0 w.1.0) (subst (λ (r : ℕ). Contains (literals_of content' r) l) (sym w.1.1) i) in
          let k : HasLiteral content l = b.known.literals (get_or kept w.0 0) l (kept_clause w.0 w.1.0) old in
          omega (arith, k, q.size);
      contrary = λ l c.
          let k : HasLiteral content l = omega (arith, c, q.size) in
          let n : HasLiteral content (negated l) = b.known.contrary l k in
          omega (arith, n, q.size);
    }

    watched_there : (k : ℕ) → k < length kept → IsWatched content (get_or kept k 0) → IsWatched content' (get_or moved k 0)
    watched_there k c d = record {
      first = d.first;
      second = d.second;
      watches_first = (q.watches k 0 d.first c (omega arith)).1 d.watches_first;
      watches_second = (q.watches k 1 d.second c (omega arith)).1 d.watches_second;
      different = d.different;
      first_in = subst (λ (xs : List ℕ). Contains xs d.first) (sym (q.literals k c)) d.first_in;
      second_in = subst (λ (xs : List ℕ). Contains xs d.second) (sym (q.literals k c)) d.second_in;
    }

    covered_there : IsCovered content' trail
    covered_there at c =
        let w = place at c in
        elim (b.covered refl (get_or kept w.0 0) (kept_clause w.0 w.1.0)) [
          | inl d ↦ inl (subst (IsWatched content') w.1.1 (watched_there w.0 w.1.0 d))
          | inr t ↦ inr (subst (λ (r : ℕ). Any (Contains trail) (literals_of content' r)) w.1.1 (subst (λ (ls : List ℕ). Any (Contains trail) ls) (sym (q.literals w.0 w.1.0)) t))
        ]

    module _ (reasons' : List (Option ℕ)) (n : IsRenamed kept moved reasons (length reasons) reasons') where
      reason_there : (k s : ℕ) → slice_get reasons' k ≡ Some (Some s) → IsReason content' trail k s
      reason_there k s e =
          let w = n.each k s e in
          let c : w.1 < length kept = slice_get_within kept w.1 w.0 w.3 in
          let from : get_or kept w.1 0 ≡ w.0 = get_or_from_slice_get kept w.1 w.0 0 w.3 in
          let to : get_or moved w.1 0 ≡ s = get_or_from_slice_get moved w.1 s 0 w.4 in
          let old : IsReason content trail k w.0 = b.justified.because k w.0 w.2 in
          let same : literals_of content' s ≡ literals_of content w.0 = ap (λ (r : ℕ). literals_of content' r) (sym to) ∙ (q.literals w.1 c ∙ ap (λ (r : ℕ). literals_of content r) from) in
          record {
            clause = subst (HasClause content') to (there w.1 c);
            unit = subst (λ (ls : List ℕ). IsUnit (take k trail) ls (get_or trail k 0)) (sym same) old.unit;
          }

      pub base_moved : IsBase (clauses_of content') size content' moved reasons' trail None
      base_moved = record {
        clauses_are = refl;
        size_is = q.size ∙ b.size_is;
        numbered_by = sym q.references;
        attached = compacted_attached content content' kept moved whole q b.attached;
        known = known_there;
        literals = All-weaker (HasLiteral content) (HasLiteral content') (λ l c. omega (arith, c, q.size)) trail b.literals;
        justified = record {
          aligned = n.count ∙ b.justified.aligned;
          because = reason_there;
          given = λ k e. b.justified.given k (n.none k e);
        };
        covered = λ _. covered_there;
        spare = λ _ at c f. absurd (none_dropped at c f);
        falsified = λ at z. absurd cc;
      }

      no_reason : (k : ℕ) → k < length kept → IsNoReason reasons' (get_or moved k 0) → IsNoReason reasons (get_or kept k 0)
      no_reason k c free i f = step (get_or reasons' i None) (slice_get-get_or reasons' i None (omega (arith, n.count, slice_get_within reasons i (Some (get_or kept k 0)) f)))
        where
          step : (x : Option ℕ) → slice_get reasons' i ≡ Some x → ⊥
          step None e =
              let z : Some None ≡ Some (Some (get_or kept k 0)) = sym (n.none i e) ∙ f in
              absurd cc
          step (Some s) e =
              let y = n.each i s e in
              let z : Some (Some y.0) ≡ Some (Some (get_or kept k 0)) = sym y.2 ∙ f in
              let same : y.0 ≡ get_or kept k 0 = cc in
              let here : y.1 ≡ k = one_place kept h.ascending y.1 k (get_or kept k 0) (y.3 ∙ ap (λ (v : ℕ). Some v) same) (entry_at kept k c) in
              let to : get_or moved k 0 ≡ s = get_or_from_slice_get moved k s 0 (subst (λ (x : ℕ). slice_get moved x ≡ Some s) here y.4) in
              free i (e ∙ ap (λ (v : ℕ). Some (Some v)) (sym to))

      -- none of the clauses that are kept is spare
      pub dropped_moved : AreDropped content refs reasons trail (length refs) → AreDropped content' moved reasons' trail (length moved)
      dropped_moved all k c s =
          let ck : k < length kept = omega (arith, c, q.as_many) in
          let w = h.from k ck in
          let spare : IsSpare content reasons trail (get_or kept k 0) = (no_reason k ck s.0, subst (λ (ls : List ℕ). Any (Contains trail) ls) (q.literals k ck) s.1) in
          let d : is_dropped_of content (get_or refs w.0 0) ≡ true = all w.0 w.1 (subst (IsSpare content reasons trail) (sym w.2) spare) in
          let z : false ≡ true = sym (h.live k 0 ck) ∙ (ap (λ (x : ℕ). is_dropped_of content x) (sym w.2) ∙ d) in
          absurd cc

    -- the clause at a place, by that from which it came
    module _ (before : IsWhole content) (k : ℕ) (c : k < length kept) where
      origin : (j : ℕ) × (j < length (clauses_of content)) × (get_or (clauses_of content) j [] ≡ literals_of content (get_or kept k 0)) × (get_or ids j 0 ≡ get_or names k 0)
      origin =
          let w = h.from k c in
          let at : slice_get (references_of content) w.0 ≡ Some (get_or refs w.0 0) = subst (λ (xs : List ℕ). slice_get xs w.0 ≡ Some (get_or refs w.0 0)) b.numbered_by (entry_at refs w.0 w.1) in
          let x = held_at content before w.0 (get_or refs w.0 0) at in
          (w.0, x.0, x.1 ∙ ap (λ (r : ℕ). literals_of content r) w.2, w.3)

      moved_clause : (k < length (clauses_of content')) × (get_or (clauses_of content') k [] ≡ literals_of content (get_or kept k 0))
      moved_clause =
          let m : k < length moved = omega (arith, c, q.as_many) in
          let at : slice_get (references_of content') k ≡ Some (get_or moved k 0) = subst (λ (xs : List ℕ). slice_get xs k ≡ Some (get_or moved k 0)) (sym q.references) (entry_at moved k m) in
          let x = held_at content' whole k (get_or moved k 0) at in
          (x.0, x.1 ∙ q.literals k c)

    held_count : length (clauses_of content') ≡ length kept
    held_count = length-map content'.clauses (λ (x : Clause). x.literals) ∙ (sym (length-map content'.clauses (λ (x : Clause). x.at)) ∙ (ap length q.references ∙ q.as_many))

    -- a clause that was held is held still, or has a literal that is true
    held_still : IsWhole content → (clause : List ℕ) → Contains (clauses_of content) clause → Contains (clauses_of content') clause ⊎ Any (Contains trail) clause
    held_still before clause c =
        let cs : List Clause = content.clauses in
        let j : ℕ = c.0 in
        let bj : j < length (references_of content) = omega (arith, c.1, length-map cs (λ (x : Clause). x.literals), length-map cs (λ (x : Clause). x.at)) in
        let br : j < length refs = omega (arith, bj, ap length b.numbered_by) in
        let at : slice_get (references_of content) j ≡ Some (get_or refs j 0) = subst (λ (xs : List ℕ). slice_get xs j ≡ Some (get_or refs j 0)) b.numbered_by (entry_at refs j br) in
        let x = held_at content before j (get_or refs j 0) at in
        let is : literals_of content (get_or refs j 0) ≡ clause = sym x.1 ∙ (get_or_default (clauses_of content) j [] clause c.1 ∙ c.2) in
        elim (h.dropped j br) [
          | inl k ↦
              let e : get_or kept k.0 0 ≡ get_or refs j 0 = get_or_default kept k.0 0 (get_or refs j 0) k.1 ∙ k.2 in
              let m = moved_clause before k.0 k.1 in
              inl (k.0, m.0, get_or_default (clauses_of content') k.0 clause [] m.0 ∙ (m.1 ∙ (ap (λ (r : ℕ). literals_of content r) e ∙ is)))
          | inr f ↦
              let o : HasClause content (get_or refs j 0) = subst (λ (xs : List ℕ). Contains xs (get_or refs j 0)) b.numbered_by (Contains-get_or refs j 0 br) in
              let s : IsSpare content reasons trail (get_or refs j 0) = b.spare refl (get_or refs j 0) o f in
              inr (subst (λ (ls : List ℕ). Any (Contains trail) ls) is s.1)
        ]

    pub covers_moved : IsWhole content → (clauses : List (List ℕ)) → Covers clauses (clauses_of content) ids trail → Covers clauses (clauses_of content') names trail
    covers_moved before clauses v = record {
      aligned = h.aligned ∙ sym held_count;
      numbers = λ k c.
          let ck : k < length kept = omega (arith, c, held_count) in
          let w = origin before k ck in
          let m = moved_clause before k ck in
          subst (λ (n : ℕ). numbered clauses n ≡ Some (get_or (clauses_of content') k [])) w.3 (v.numbers w.0 w.1 ∙ ap (λ (x : List ℕ). Some x) (w.2 ∙ sym m.1));
      kept = All-weaker (λ x. Contains (clauses_of content) x ⊎ Any (Contains trail) x) (λ x. Contains (clauses_of content') x ⊎ Any (Contains trail) x) (λ x k. elim k [
        | inl y ↦ held_still before x y
        | inr y ↦ inr y
      ]) clauses v.kept;
    }
