-- A rule that applies in lines where a window gave way applied before, at a place whose own window stays and behind which no item was lost.
use Rattle.std.proofs.Common.{◌≡◌, ℕ, zero, suc, ◌+◌, ◌-◌, ◌<◌, ◌≤◌, Bool, true, false, List, [], ◌∷◌, length, take, drop, map, Some, refl, sym, ap, ◌∙◌, subst, ◌⊎◌, inl, inr, arith}
use Rattle.std.specs.Prelude.{slice_get}
use Rattle.std.specs.Option.{option_map}
use Rattle.std.proofs.lemmas.Option.{slice_get-map}
use Rattle.kept_places.specs.Marks.{is_gone, rank}
use Rattle.thumb_instr.specs.declared.instr.Instr.{Instr}
use Rattle.thumb_instr.specs.Window.{is_in_window, Low}
use Rattle.thumb_model.specs.Listing.{plain, Place, Code, ListingLine, code_of, places_of, labels_from}
use Rattle.thumb_model.specs.Flow.{Reads, LiveAfter}
use Rattle.thumb_model.specs.Replaced.{moved, replaced, are_joined_from, replaced_lines}
use Rattle.thumb_model.specs.Cuts.{AreOps}
use Rattle.thumb_model.proofs.Lists.{get_drop, get_take}
use Rattle.thumb_model.proofs.LinesReplaced.{ops_of, outside_of}
use Rattle.thumb_model.proofs.Window.{AreStraight}
use Rattle.rule_model.specs.Rules.{Rule, Applies, IsSoundRule}
use Rattle.rule_model.proofs.AsMany.{code_replaced_by}
use Rattle.rule_model.proofs.Table.{window_length, applies_sound}
use Rattle.padded_code.specs.Padding.{IsPadded}
use Rattle.padded_code.specs.Exchange.{marks_after, exchanged}
use Rattle.padded_code.specs.Windows.{AreRanked}
use Rattle.padded_code.proofs.Kept.{kept_at}
use Rattle.padded_code.proofs.Windows.{rank_taken, live_behind}
use Rattle.window_rewrite.proofs.DueLines.{joined_before, joined_behind}
use Rattle.window_rewrite.proofs.DuePlaces.{marks_stay, outside, places_stay, ranks_after}
use Rattle.window_rewrite.proofs.DueWindows.{alike_before, alike_behind, applies_alike, left_length, same_window, AreAlike}
use Rattle.window_rewrite.proofs.Settled.{IsGap}
use Rattle.window_rewrite.proofs.WindowPlaces.{window_within}

-- the last instruction of a window may stand in one
in_window_at : (window : List Instr) → AreStraight window → (k : ℕ) → k < length window → (i : Instr) × (slice_get window k ≡ Some i) × (is_in_window i ≡ true)
in_window_at [] s k h = absurd (omega arith)
in_window_at (i ∷ is) s zero h = (i, refl, s.0)
in_window_at (i ∷ is) s (suc k) h = in_window_at is s.1 k (omega arith)

stands_at : (window : List Instr) (n p k q : ℕ) (places : List Place) (i : Instr) → take n (drop p places) ≡ map plain window → k < n → q ≡ p + k → slice_get window k ≡ Some i → slice_get places q ≡ Some (plain i)
stands_at window n p k q places i e h at is =
    sym (get_drop p places k q at) ∙ sym (get_take n (drop p places) k h) ∙ ap (λ (xs : List Place). slice_get xs k) e ∙ slice_get-map plain window k ∙ ap (option_map plain) is

-- instructions of kept places give way in lines, and in the padded code
pub record GaveWay (write : Instr → List ℕ) (gone : List Bool) (padded : Code) (lines : List ListingLine) (g : ℕ) (ps : List ℕ) (is : List Instr) : Type 0 where
  pub padded_is : IsPadded gone padded (code_of lines)
  pub ranked : AreRanked gone g ps
  pub gap : IsGap (places_of lines) (labels_from 0 lines) g (length ps) is
  pub ops : AreOps (length ps) (drop g (places_of lines))
  pub new_padded : IsPadded (marks_after ps is gone) (exchanged ps is padded) (code_of (replaced_lines write g (length ps) is lines))

-- the code of the lines that are left
left_code : (write : Instr → List ℕ) (g n : ℕ) (is : List Instr) (lines : List ListingLine) → IsGap (places_of lines) (labels_from 0 lines) g n is → AreOps n (drop g (places_of lines)) → code_of (replaced_lines write g n is lines) ≡ replaced (code_of lines) g n is
left_code write g zero is lines gap ops = absurd (let s = gap.some in omega arith)
left_code write g (suc n) is lines gap ops = code_replaced_by write g n is lines gap.no_longer ops (outside_of g (suc n) (labels_from 0 lines) gap.unlabelled)

module _ (write : Instr → List ℕ) (gone : List Bool) (padded : Code) (lines : List ListingLine) (g : ℕ) (ps : List ℕ) (is : List Instr) (w : GaveWay write gone padded lines g ps is) where
  abbrev new : List ListingLine
  new = replaced_lines write g (length ps) is lines

  abbrev after : List Bool
  after = marks_after ps is gone

  code_is : code_of new ≡ replaced (code_of lines) g (length ps) is
  code_is = left_code write g (length ps) is lines w.gap w.ops

  few : length is ≤ length ps
  few = w.gap.no_longer

  -- a place outside the window is kept, at the rank that comes of its old one
  pub rank_now : (q : ℕ) → (rank gone q ≤ g) ⊎ (g + length ps ≤ rank gone q) → rank after q ≡ moved g (length ps - length is) (rank gone q)
  rank_now q o = ranks_after ps is gone g q few w.ranked o

  -- ---- alignment lines ----

  joined_back : (c n r s : ℕ) → c ≡ length ps → 0 < n → s ≡ moved g (length ps - length is) r → (r + n ≤ g) ⊎ (g + length ps ≤ r) → AreOps c (drop g (places_of lines)) → AreOps n (drop r (places_of lines)) → 0 < c
      → are_joined_from s n (replaced_lines write g c is lines) ≡ are_joined_from r n lines
  joined_back zero n r s e some m o gs ops there = absurd (omega arith)
  joined_back (suc c) zero r s e some m o gs ops there = absurd (omega arith)
  joined_back (suc c) (suc n) r s e some m (inl h) gs ops there =
      let same : s ≡ r = omega arith in
      ap (λ t. are_joined_from t (suc n) (replaced_lines write g (suc c) is lines)) same ∙ joined_before write g (suc c) is r n lines h ops
  joined_back (suc c) (suc n) r s e some m (inr h) gs ops there =
      let few = w.gap.no_longer in
      joined_behind write g c is r s (suc n) lines (omega arith) (omega arith) gs

  -- ---- the window ----

  alike : (n r s : ℕ) → 0 < n → s ≡ moved g (length ps - length is) r → (r + n ≤ g) ⊎ (g + length ps ≤ r) → s + n ≤ length (places_of new) → AreAlike (code_of lines) (code_of new) r s n
  alike n r s some m (inl h) within =
      let same : r ≡ s = omega arith in
      subst (λ (c : Code). AreAlike (code_of lines) c r s n) (sym code_is) (subst (λ t. AreAlike (code_of lines) (replaced (code_of lines) g (length ps) is) r t n) same (alike_before (code_of lines) g (length ps) is r n w.gap some h))
  alike n r s some m (inr h) within =
      let few = w.gap.no_longer in
      let long : length (places_of new) ≡ length (replaced (code_of lines) g (length ps) is).places = ap (λ (c : Code). length c.places) code_is in
      let left = left_length g (length ps) is (places_of lines) w.gap.within in
      subst (λ (c : Code). AreAlike (code_of lines) c r s n) (sym code_is) (alike_behind (code_of lines) g (length ps) is r s n w.gap some h (omega arith) (omega arith))

  -- ---- live items ----

  -- what is live after the last instruction of a window is so in the lines that are left, where it is read from the place behind it
  live_still : (n r s : ℕ) (i : Instr) → 0 < n → s ≡ moved g (length ps - length is) r → (r + n ≤ g) ⊎ (g + length ps ≤ r) → r + n ≤ length (places_of lines) → slice_get (places_of lines) (r + n - 1) ≡ Some (plain i) → is_in_window i ≡ true
      → ((q x : ℕ) → is_gone after q ≡ false → suc (rank after q) ≡ s + n → Reads padded x (suc q) → Reads (exchanged ps is padded) x (suc q))
      → (x : ℕ) → LiveAfter (code_of lines) (r + n - 1) x → LiveAfter (code_of new) (s + n - 1) x
  live_still n r s i some m o within stands in_window still x h =
      let t = rank_taken gone padded (code_of lines) w.padded_is (r + n - 1) (omega arith) in
      let q : ℕ = t.0 in
      let at : rank gone q ≡ r + n - 1 = t.3 in
      let few = w.gap.no_longer in
      let out = outside gone g ps q w.ranked (elim o [ inl a ↦ inl (omega arith) | inr a ↦ inr (omega arith) ]) in
      let kept : is_gone after q ≡ false = marks_stay ps is gone q out ∙ t.2 in
      let here : slice_get padded.places q ≡ Some (plain i) = sym (kept_at gone padded.places q t.2) ∙ sym (ap (λ (xs : List Place). slice_get xs (rank gone q)) w.padded_is.places) ∙ ap (slice_get (places_of lines)) at ∙ stands in
      let there : slice_get (exchanged ps is padded).places q ≡ Some (plain i) = places_stay ps is padded.places q out ∙ here in
      let now : rank after q ≡ moved g (length ps - length is) (rank gone q) = rank_now q (elim o [ inl a ↦ inl (omega arith) | inr a ↦ inr (omega arith) ]) in
      let new_at : rank after q ≡ s + n - 1 = elim o [ inl a ↦ omega arith | inr a ↦ omega arith ] in
      let read : Reads padded x (suc q) = (live_behind gone padded (code_of lines) w.padded_is q i t.2 here in_window x).0 (subst (λ k. LiveAfter (code_of lines) k x) (sym at) h) in
      let read_still : Reads (exchanged ps is padded) x (suc q) = still q x kept (omega arith) read in
      subst (λ k. LiveAfter (code_of new) k x) new_at ((live_behind after (exchanged ps is padded) (code_of new) w.new_padded q i kept there in_window x).1 read_still)

  -- ---- the rule ----

  -- it applied in the lines before, and no alignment line stood within
  pub record AppliedAt (rule : Rule) (registers : List Low) (r : ℕ) : Type 0 where
    pub applies : Applies rule registers (code_of lines) r
    pub joined : are_joined_from r (length rule.left) lines ≡ true

  pub applied_at : (rule : Rule) (registers : List Low) (r s : ℕ) → IsSoundRule rule → 0 < length rule.left → s ≡ moved g (length ps - length is) r → (r + length rule.left ≤ g) ⊎ (g + length ps ≤ r)
      → ((q x : ℕ) → is_gone after q ≡ false → suc (rank after q) ≡ s + length rule.left → Reads padded x (suc q) → Reads (exchanged ps is padded) x (suc q))
      → Applies rule registers (code_of new) s → are_joined_from s (length rule.left) new ≡ true → AppliedAt rule registers r
  applied_at rule registers r s sound some m o still a joined =
      let n : ℕ = length rule.left in
      let long : length a.window ≡ n = window_length rule registers (code_of new) s a in
      let within = window_within a.window n (places_of new) s long some a.stands in
      let like = alike n r s some m o within in
      let stands : take n (drop r (places_of lines)) ≡ map plain a.window = same_window n r s (places_of lines) (places_of new) like.within like.new_within like.same ∙ a.stands in
      let straight = (applies_sound rule registers (code_of new) s sound some a).left_straight in
      let last = in_window_at a.window straight (n - 1) (omega arith) in
      let at = stands_at a.window n r (n - 1) (r + n - 1) (places_of lines) last.0 stands (omega arith) (omega arith) last.1 in
      record {
        applies = applies_alike rule registers (code_of lines) (code_of new) r s sound like some (live_still n r s last.0 some m o like.within at last.2 still) a;
        joined = sym (joined_back (length ps) n r s refl some m o w.ops (ops_of a.window n (drop r (places_of lines)) (sym long) stands) w.gap.some) ∙ joined;
      }
