-- The sets of the listing in which a window gave way: all that is live, or all but what comes by ways to the window's place.
use Rattle.std.proofs.Common.{◌≡◌, ℕ, ◌+◌, ◌-◌, ◌<◌, ◌≤◌, Bool, true, false, List, [], ◌∷◌, ◌++◌, length, length-append, take, drop, map, sym, ap, ◌∙◌, subst, ◌⊎◌, inl, inr, arith, ◌↔◌}
use Rattle.std.specs.Prelude.{slice_get}
use Rattle.std.proofs.lemmas.Option.{slice_get_past}
use Rattle.std.proofs.lemmas.Bool.{cases_lt}
use Rattle.thumb_instr.specs.declared.instr.Instr.{Instr}
use Rattle.thumb_instr.specs.declared.items.Items.{Items}
use Rattle.thumb_instr.specs.Items.{has}
use Rattle.thumb_instr.specs.Shape.{uses_of, writes_of}
use Rattle.thumb_model.specs.Listing.{Code}
use Rattle.thumb_model.specs.Flow.{Way, Onward, way, ways, Follows, Reads, LiveAfter}
use Rattle.thumb_model.proofs.Lists.{get_drop, get_take, get_back, length_map, take_all, length_drop}
use Rattle.thumb_model.proofs.Moved.{IsOutside}
use Rattle.liveness.specs.declared.flowing.Flow.{Flow}
use Rattle.liveness.specs.declared.kept.NewSets.{NewSets}
use Rattle.liveness.specs.Live.{Sets, word_of, set_at, IsLive}
use Rattle.liveness.specs.Kept.{AreFlowsFrom, replaced_sets}
use Rattle.liveness.specs.Through.{live_through, IsReadStill, AreThrough}
use Rattle.shrinking_sets.proofs.Exchange.{runs_at}
use Rattle.padded_code.proofs.Padded.{way_to}
use Rattle.liveness.proofs.Moves.{drop_at}
use Rattle.liveness.proofs.GivesWay.{RegionGivesWay}
use Rattle.liveness.proofs.Keeping.{still_read, enters, read_before, read_within, within_read}
use Rattle.liveness.proofs.Paths.{has_zero}
use Rattle.common_lemmas.proofs.Lists.{get_map, get_front, map_back}
use Rattle.shrinking_sets.proofs.Cleared.{only}

-- what is tested of a window and of new instructions, and the sets that are made
pub record IsTested (window new : List Instr) (before after : Items) (ahead : List Flow) (kept : List NewSets) : Type 0 where
  pub as_many : length kept ≡ length new
  pub through : AreThrough new after kept
  pub was : (x : ℕ) → has before.bits x ≡ true → live_through new (λ y. has after.bits y) x ≡ true
  pub lost : IsReadStill window new ahead

-- ---- a list of which a part is replaced ----

module _ (p count : ℕ) (old mid : List Items) (within : p + count ≤ length old) where
  abbrev all : List Items
  all = take p old ++ (mid ++ drop (p + count) old)

  front : length (take p old) ≡ p
  front = take_all p old (omega (arith, within))

  before_mid : (q : ℕ) → q < p → set_at all q ≡ set_at old q
  before_mid q l = let f = front in ap word_of (get_front (take p old) _ q (omega arith) ∙ get_take p old q l)

  in_mid : (j : ℕ) → j < length mid → set_at all (p + j) ≡ set_at mid j
  in_mid j l = let f = front in ap word_of (get_back (take p old) _ j (p + j) (omega arith) ∙ get_front mid _ j l)

  behind_mid : (r q : ℕ) → p + length mid ≤ r → q + length mid ≡ r + count → set_at all r ≡ set_at old q
  behind_mid r q l e =
      let f = front in
      ap word_of (get_back (take p old) _ (r - p) r (omega arith) ∙ get_back mid _ (r - p - length mid) (r - p) (omega arith) ∙ get_drop (p + count) old (r - p - length mid) q (omega arith))

  length_all : length all + count ≡ length old + length mid
  length_all =
      let f = front in
      let a = length-append (take p old) (mid ++ drop (p + count) old) in
      let b = length-append mid (drop (p + count) old) in
      let c = length_drop (p + count) old in
      omega (arith, within)

-- ---- the sets ----

pub set_within : (ss : List Items) (q x : ℕ) → has (set_at ss q) x ≡ true → q < length ss
set_within ss q x h =
    elim (cases_lt q (length ss)) [
      | inl l ↦ l
      | inr l ↦ absurd (let none = ap word_of (slice_get_past ss q l) in let bad : true ≡ false = sym h ∙ ap (λ w. has w x) none ∙ has_zero x in cc)
    ]

module _ (code new_code : Code) (to : ℕ → ℕ) (p : ℕ) (window new : List Instr) (sets : Sets) (before after : Items) (ahead : List Flow) (kept : List NewSets)
    (t : IsTested window new before after ahead kept) (live : IsLive code sets) (at : RegionGivesWay code new_code to p window new) (flows : AreFlowsFrom code (p + length window) ahead)
    (eb : set_at sets.before p ≡ before.bits) (ea : set_at sets.after (p + length window - 1) ≡ after.bits) where
  abbrev behind_it : ℕ → Bool
  behind_it y = has after.bits y

  inside : p + length window ≤ length code.places
  inside = at.within

  some_window : 0 < length window
  some_window = let s = at.shorter in omega arith

  at_window : p < length code.places
  at_window = omega (arith, inside, some_window)

  was : (x : ℕ) → Reads code x p → live_through new behind_it x ≡ true
  was x r = t.was x (sym (ap (λ w. has w x) eb) ∙ (live.before p x at_window).1 r)

  -- the last instruction of the window
  last_way : (i : Instr) × (ways code (p + length window - 1) ≡ way (uses_of i) (writes_of i) Onward ∷ [])
  last_way =
      let i = drop_at window (length window - 1) (omega (arith, some_window)) in
      (i.0, ap (ways code) (let e : p + length window - 1 ≡ p + (length window - 1) = omega (arith, some_window) in e) ∙ runs_at code p window (length window - 1) i.0 at.window_runs i.1)

  leave : (x : ℕ) → Reads code x (p + length window) → behind_it x ≡ true
  leave x r =
      let i = last_way in
      sym (ap (λ w. has w x) ea) ∙ (live.after (p + length window - 1) x (omega (arith, inside, some_window))).1 (
        0,
        way (uses_of i.0) (writes_of i.0) Onward,
        p + length window,
        ap (λ ws. slice_get ws 0) i.1,
        omega (arith, some_window),
        r,
      )

  behind : (x : ℕ) → behind_it x ≡ true → Reads code x (p + length window)
  behind x h =
      let i = last_way in
      let v = (live.after (p + length window - 1) x (omega (arith, inside, some_window))).0 (ap (λ w. has w x) ea ∙ h) in
      let one = only (ways code (p + length window - 1)) _ v.0 v.1 i.1 v.3 in
      let next : v.2 ≡ p + length window - 1 + 1 = subst (λ (w : Way). Follows code (p + length window - 1) w.leads v.2) (sym one) v.4 in
      subst (Reads code x) (let e : v.2 ≡ p + length window = omega (arith, next, some_window) in e) v.5

  forth : (x q : ℕ) → IsOutside p (length window) q → Reads code x q → Reads new_code x (to q)
  forth x q o r = still_read code new_code to p window new at x (enters code new_code to p window new at x behind_it ahead (was x) flows (t.lost x)) q o r

  behind_new : (x : ℕ) → behind_it x ≡ true → Reads new_code x (p + length new)
  behind_new x h =
      let b = at.behind (p + length window) (omega arith) in
      subst (Reads new_code x) (let e : to (p + length window) ≡ p + length new = omega arith in e) (forth x (p + length window) (inr (omega arith)) (behind x h))

  -- from a new instruction on, or right behind them
  new_reads : (x j : ℕ) → j ≤ length new → live_through (drop j new) behind_it x ≡ true → Reads new_code x (p + j)
  new_reads x j l = within_read code new_code to p window new at x behind_it (behind_new x) j l

  abbrev Apart : ℕ → Type 0
  Apart q = (q < p) ⊎ (p + length window ≤ q)

  wide : (q : ℕ) → Apart q → IsOutside p (length window) q
  wide q (inl h) = inl (omega arith)
  wide q (inr h) = inr h

  -- where a place of the new listing was
  origin : (r : ℕ) → ((q : ℕ) × Apart q × (r ≡ to q)) ⊎ ((j : ℕ) × (j < length new) × (r ≡ p + j))
  origin r =
      let s = at.shorter in
      elim (cases_lt r p) [
        | inl l ↦ inl (r, inl l, let b = at.before r (omega arith) in omega arith)
        | inr l ↦ elim (cases_lt r (p + length new)) [
          | inl m ↦ inr (r - p, omega arith, omega arith)
          | inr m ↦ inl (r + (length window - length new), inr (omega arith), let b = at.behind (r + (length window - length new)) (omega arith) in omega arith)
        ]
      ]

  was_within : (r q : ℕ) → Apart q → r ≡ to q → r < length new_code.places → q < length code.places
  was_within r q (inl a) e l = let i = inside in omega arith
  was_within r q (inr a) e l = let b = at.behind q a in let n = at.as_many in omega arith

  -- the set at a place that isn't new
  old_set : (old mid : List Items) → length old ≡ length code.places → length mid ≡ length new → (r q : ℕ) → Apart q → r ≡ to q → set_at (take p old ++ (mid ++ drop (p + length window) old)) r ≡ set_at old q
  old_set old mid n m r q (inl a) e =
      ap (set_at (take p old ++ (mid ++ drop (p + length window) old))) (let b = at.before q (omega arith) in let f : r ≡ q = omega arith in f) ∙ before_mid p (length window) old mid (let i = inside in omega arith) q a
  old_set old mid n m r q (inr a) e =
      let b = at.behind q a in
      behind_mid p (length window) old mid (let i = inside in omega arith) r q (omega arith) (omega arith)

  -- and at a new one
  mid_set : (old mid : List Items) → length old ≡ length code.places → (r j : ℕ) → j < length mid → r ≡ p + j → set_at (take p old ++ (mid ++ drop (p + length window) old)) r ≡ set_at mid j
  mid_set old mid n r j l e = ap (set_at (take p old ++ (mid ++ drop (p + length window) old))) e ∙ in_mid p (length window) old mid (let i = inside in omega arith) j l

  abbrev befores : List Items
  befores = map (λ (n : NewSets). n.before) kept

  abbrev afters : List Items
  afters = map (λ (n : NewSets). n.after) kept

  many_before : length befores ≡ length new
  many_before = length_map (λ (n : NewSets). n.before) kept ∙ t.as_many

  many_after : length afters ≡ length new
  many_after = length_map (λ (n : NewSets). n.after) kept ∙ t.as_many

  abbrev made : Sets
  made = replaced_sets p (length window) kept sets

  old_before : (r q : ℕ) → Apart q → r ≡ to q → set_at made.before r ≡ set_at sets.before q
  old_before = old_set sets.before befores live.before_len many_before

  old_after : (r q : ℕ) → Apart q → r ≡ to q → set_at made.after r ≡ set_at sets.after q
  old_after = old_set sets.after afters live.after_len many_after

  mid_before : (x r j : ℕ) → j < length new → r ≡ p + j → has (set_at made.before r) x ≡ live_through (drop j new) behind_it x
  mid_before x r j l e =
      let n = drop_at kept j (omega (arith, l, t.as_many)) in
      let found = ap word_of (get_map (λ (n : NewSets). n.before) kept j n.0 n.1) in
      ap (λ w. has w x) (mid_set sets.before befores live.before_len r j (omega (arith, l, many_before)) e ∙ found) ∙ (t.through j n.0 n.1 x).0

  mid_after : (x r j : ℕ) → j < length new → r ≡ p + j → has (set_at made.after r) x ≡ live_through (drop (j + 1) new) behind_it x
  mid_after x r j l e =
      let n = drop_at kept j (omega (arith, l, t.as_many)) in
      let found = ap word_of (get_map (λ (n : NewSets). n.after) kept j n.0 n.1) in
      ap (λ w. has w x) (mid_set sets.after afters live.after_len r j (omega (arith, l, many_after)) e ∙ found) ∙ (t.through j n.0 n.1 x).1

  made_before_len : length made.before ≡ length new_code.places
  made_before_len =
      let n = at.as_many in
      let a = length_all p (length window) sets.before befores (let i = inside in let b = live.before_len in omega arith) in
      let m = many_before in
      let b = live.before_len in
      omega arith

  made_after_len : length made.after ≡ length new_code.places
  made_after_len =
      let n = at.as_many in
      let a = length_all p (length window) sets.after afters (let i = inside in let b = live.after_len in omega arith) in
      let m = many_after in
      let b = live.after_len in
      omega arith

  -- ---- the sets have only what is live ----

  reads_old : (x q : ℕ) → has (set_at sets.before q) x ≡ true → Reads code x q
  reads_old x q h = let l = set_within sets.before q x h in (live.before q x (omega (arith, l, live.before_len))).0 h

  made_reads : (r x : ℕ) → has (set_at made.before r) x ≡ true → Reads new_code x r
  made_reads r x h =
      elim (origin r) [
        | inl o ↦ subst (Reads new_code x) (sym o.2) (forth x o.0 (wide o.0 o.1) (reads_old x o.0 (sym (ap (λ w. has w x) (old_before r o.0 o.1 o.2)) ∙ h)))
        | inr o ↦ subst (Reads new_code x) (sym o.2) (new_reads x o.0 (omega (arith, o.1)) (sym (mid_before x r o.0 o.1 o.2) ∙ h))
      ]

  after_forth : (x q : ℕ) → Apart q → LiveAfter code q x → LiveAfter new_code (to q) x
  after_forth x q a v = (
    v.0,
    way_to to v.1,
    to v.2,
    ap (λ ws. slice_get ws v.0) (at.ways_moved q a) ∙ get_map (way_to to) (ways code q) v.0 v.1 v.3,
    at.follows_moved q a v.1.leads v.2 v.4,
    forth x v.2 (at.follows_outside q a v.0 v.1 v.2 v.3 v.4) v.5,
  )

  after_new : (x j : ℕ) → j < length new → LiveAfter new_code (p + j) x ↔ Reads new_code x (p + (j + 1))
  after_new x j l =
      let i = drop_at new j l in
      let at_j = runs_at new_code p new j i.0 at.new_runs i.1 in (
        λ v.
            let one = only (ways new_code (p + j)) _ v.0 v.1 at_j v.3 in
            let next : v.2 ≡ p + j + 1 = subst (λ (w : Way). Follows new_code (p + j) w.leads v.2) (sym one) v.4 in
            subst (Reads new_code x) (let e : v.2 ≡ p + (j + 1) = omega (arith, next) in e) v.5,
        λ r. (0, way (uses_of i.0) (writes_of i.0) Onward, p + (j + 1), ap (λ ws. slice_get ws 0) at_j, omega arith, r),
      )

  made_live : (r x : ℕ) → has (set_at made.after r) x ≡ true → LiveAfter new_code r x
  made_live r x h =
      elim (origin r) [
        | inl o ↦
            let was_live = sym (ap (λ w. has w x) (old_after r o.0 o.1 o.2)) ∙ h in
            let l = set_within sets.after o.0 x was_live in
            subst (λ y. LiveAfter new_code y x) (sym o.2) (after_forth x o.0 o.1 ((live.after o.0 x (omega (arith, l, live.after_len))).0 was_live))
        | inr o ↦ subst (λ y. LiveAfter new_code y x) (sym o.2) ((after_new x o.0 o.1).1 (new_reads x (o.0 + 1) (omega (arith, o.1)) (sym (mid_after x r o.0 o.1 o.2) ∙ h)))
      ]

  -- ---- and all of it, where the set before the window stays ----

  module _ (stays : (x : ℕ) → live_through new behind_it x ≡ true → has before.bits x ≡ true) where
    first : (x : ℕ) → live_through new behind_it x ≡ true → Reads code x p
    first x h = (live.before p x at_window).0 (ap (λ w. has w x) eb ∙ stays x h)

    back : (x q : ℕ) → IsOutside p (length window) q → Reads new_code x (to q) → Reads code x q
    back x q o r = read_before code new_code to p window new at x behind_it (leave x) (first x) q o r

    reads_new : (x j : ℕ) → j ≤ length new → Reads new_code x (p + j) → live_through (drop j new) behind_it x ≡ true
    reads_new x j l = read_within code new_code to p window new at x behind_it (leave x) (first x) j l

    reads_made : (r x : ℕ) → r < length new_code.places → Reads new_code x r → has (set_at made.before r) x ≡ true
    reads_made r x l rd =
        elim (origin r) [
          | inl o ↦ ap (λ w. has w x) (old_before r o.0 o.1 o.2) ∙ (live.before o.0 x (was_within r o.0 o.1 o.2 l)).1 (back x o.0 (wide o.0 o.1) (subst (Reads new_code x) o.2 rd))
          | inr o ↦ mid_before x r o.0 o.1 o.2 ∙ reads_new x o.0 (omega (arith, o.1)) (subst (Reads new_code x) o.2 rd)
        ]

    after_back : (x q : ℕ) → Apart q → LiveAfter new_code (to q) x → LiveAfter code q x
    after_back x q a v =
        let w = map_back (way_to to) (ways code q) v.0 v.1 (ap (λ ws. slice_get ws v.0) (sym (at.ways_moved q a)) ∙ v.3) in
        let s = at.follows_back q a w.0.leads v.2 (subst (λ (u : Way). Follows new_code (to q) u.leads v.2) w.2 v.4) in
        (v.0, w.0, s.0, w.1, s.1, back x s.0 (at.follows_outside q a v.0 w.0 s.0 w.1 s.1) (subst (Reads new_code x) s.2 v.5))

    live_made : (r x : ℕ) → r < length new_code.places → LiveAfter new_code r x → has (set_at made.after r) x ≡ true
    live_made r x l v =
        elim (origin r) [
          | inl o ↦ ap (λ w. has w x) (old_after r o.0 o.1 o.2) ∙ (live.after o.0 x (was_within r o.0 o.1 o.2 l)).1 (after_back x o.0 o.1 (subst (λ y. LiveAfter new_code y x) o.2 v))
          | inr o ↦ mid_after x r o.0 o.1 o.2 ∙ reads_new x (o.0 + 1) (omega (arith, o.1)) ((after_new x o.0 o.1).0 (subst (λ y. LiveAfter new_code y x) o.2 v))
        ]

    pub is_live : IsLive new_code made
    is_live = record {
      before_len = made_before_len;
      after_len = made_after_len;
      before = λ r x l. (made_reads r x, reads_made r x l);
      after = λ r x l. (made_live r x, live_made r x l);
    }
