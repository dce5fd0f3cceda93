-- Where a window gave way and the test holds, an item is live from a place now exactly where it was before.
use Rattle.std.proofs.Common.{◌≡◌, ℕ, zero, suc, ◌+◌, ◌<◌, ◌≤◌, Bool, true, false, List, [], ◌∷◌, length, drop, Some, refl, sym, ap, ◌∙◌, subst, ◌⊎◌, inl, inr, arith}
use Rattle.std.specs.Prelude.{slice_get}
use Rattle.std.proofs.lemmas.Bool.{cases_lt, cases_eq, or_cases}
use Rattle.thumb_instr.specs.declared.instr.Instr.{Instr}
use Rattle.thumb_instr.specs.Items.{one_of}
use Rattle.thumb_instr.specs.Shape.{uses_of, writes_of}
use Rattle.thumb_model.specs.Listing.{Code}
use Rattle.thumb_model.specs.Flow.{Way, Leads, Onward, way, ways, Follows, Reads, now, later}
use Rattle.thumb_model.proofs.Lists.{length_drop}
use Rattle.thumb_model.proofs.Moved.{IsOutside}
use Rattle.liveness.specs.declared.flowing.Flow.{Flow}
use Rattle.liveness.specs.Kept.{FlowOf, AreFlowsFrom}
use Rattle.liveness.specs.Through.{live_through, read_along, nothing}
use Rattle.shrinking_sets.proofs.Exchange.{Runs, runs_at}
use Rattle.padded_code.proofs.Padded.{lead_to, way_to}
use Rattle.liveness.proofs.Moves.{drop_at, drop_whole}
use Rattle.liveness.proofs.GivesWay.{RegionGivesWay}
use Rattle.shrinking_sets.proofs.Forward.{reader}
use Rattle.liveness.proofs.FlowLaws.{passer}
use Rattle.liveness.proofs.Paths.{or_left, or_right}
use Rattle.common_lemmas.proofs.Lists.{get_map, map_back}
use Rattle.shrinking_sets.proofs.Cleared.{passing, passes, only}

-- ---- through straight code ----

-- the item is read in straight code, or passes it and then A holds
abbrev pub Through : List Instr → ℕ → Type 0 → Type 0
Through [] x A = A
Through (i ∷ is) x A = (one_of x (uses_of i) ≡ true) ⊎ ((one_of x (writes_of i) ≡ false) × Through is x A)

through_map : (is : List Instr) (x : ℕ) (A B : Type 0) → (A → B) → Through is x A → Through is x B
through_map [] x A B f t = f t
through_map (i ∷ is) x A B f (inl u) = inl u
through_map (i ∷ is) x A B f (inr t) = inr (t.0, through_map is x A B f t.1)

-- it is read there, or A holds after it and any B may be put in A's place
either : (is : List Instr) (x : ℕ) (A B : Type 0) → Through is x A → Through is x B ⊎ (A × (B → Through is x B))
either [] x A B t = inr (t, λ b. b)
either (i ∷ is) x A B (inl u) = inl (inl u)
either (i ∷ is) x A B (inr t) =
    elim (either is x A B t.1) [
      | inl l ↦ inl (inr (t.0, l))
      | inr r ↦ inr (r.0, λ b. inr (t.0, r.1 b))
    ]

-- the same as a test
tested : (is : List Instr) (x : ℕ) (after : ℕ → Bool) → Through is x (after x ≡ true) → live_through is after x ≡ true
tested [] x after t = t
tested (i ∷ is) x after (inl u) = or_left _ _ u
tested (i ∷ is) x after (inr t) = or_right (one_of x (uses_of i)) _ (passing _ _ (tested is x after t.1) t.0)

told : (is : List Instr) (x : ℕ) (after : ℕ → Bool) → live_through is after x ≡ true → Through is x (after x ≡ true)
told [] x after h = h
told (i ∷ is) x after h =
    elim (or_cases _ _ h) [
      | inl u ↦ inl u
      | inr t ↦ let b = passes _ _ t in inr (b.1, told is x after b.0)
    ]

not_nothing : (x : ℕ) (A : Type 0) → nothing x ≡ true → A
not_nothing x A e = absurd (cc)

-- what goes through straight code is read before it
through_reads : (code : Code) (is : List Instr) (q end x : ℕ) → end ≡ q + length is → Runs code q is → Through is x (Reads code x end) → Reads code x q
through_reads code [] q end x e r t = subst (Reads code x) (let f : end ≡ q = omega arith in f) t
through_reads code (i ∷ is) q end x e r (inl u) = now q 0 (way (uses_of i) (writes_of i) Onward) (ap (λ ws. slice_get ws 0) r.0) u
through_reads code (i ∷ is) q end x e r (inr t) =
    later q 0 (way (uses_of i) (writes_of i) Onward) (q + 1) (ap (λ ws. slice_get ws 0) r.0) t.0 refl (through_reads code is (q + 1) end x (omega arith) r.1 t.1)

-- what straight code reads is read before it
pub alone_reads : (code : Code) (is : List Instr) (q x : ℕ) → Runs code q is → live_through is nothing x ≡ true → Reads code x q
alone_reads code is q x r h = through_reads code is q (q + length is) x refl r (through_map is x (nothing x ≡ true) (Reads code x (q + length is)) (not_nothing x (Reads code x (q + length is))) (told is x nothing h))

-- ---- an item ----

module _ (code new_code : Code) (to : ℕ → ℕ) (p : ℕ) (window new : List Instr) (at : RegionGivesWay code new_code to p window new) (x : ℕ) where
  abbrev Apart : ℕ → Type 0
  Apart q = (q < p) ⊎ (p + length window ≤ q)

  -- the place right after the window
  abbrev end : ℕ
  end = p + length new

  to_end : to (p + length window) ≡ end
  to_end = let b = at.behind (p + length window) (omega arith) in omega arith

  -- what the flows after the window read is still read from there
  along : (fs : List Flow) (q : ℕ) → p + length window ≤ q → AreFlowsFrom code q fs → read_along fs x ≡ true → Reads new_code x (to q)
  along [] q l h t = absurd (cc)
  along (f ∷ fs) q l h t =
      elim (or_cases _ _ t) [
        | inl u ↦
            let r = reader (ways code q) x (sym (here.reads x) ∙ u) in
            now (to q) r.0 (way_to to r.1) (moved_way r.0 r.1 r.2) r.3
        | inr u ↦
            let r = passer (ways code q) f.onward (read_along fs x) x here.onward u in
            let next : to (q + 1) ≡ to q + 1 = let b = at.behind q l in let c = at.behind (q + 1) (omega arith) in omega arith in
            later (to q) r.1 (way_to to r.2) (to (q + 1)) (moved_way r.1 r.2 r.3) r.5
            (subst (λ (a : Leads). Follows new_code (to q) (lead_to to a) (to (q + 1))) (sym r.4) next)
            (along fs (q + 1) (omega arith) (λ k g e. subst (λ y. FlowOf (ways code y) g) (let z : q + suc k ≡ q + 1 + k = omega arith in z) (h (suc k) g e)) r.0)
      ]
    where
      here : FlowOf (ways code q) f
      here = subst (λ y. FlowOf (ways code y) f) (let z : q + 0 ≡ q = omega arith in z) (h 0 f refl)

      moved_way : (k : ℕ) (w : Way) → slice_get (ways code q) k ≡ Some w → slice_get (ways new_code (to q)) k ≡ Some (way_to to w)
      moved_way k w e = ap (λ ws. slice_get ws k) (at.ways_moved q (inr l)) ∙ get_map (way_to to) (ways code q) k w e

  -- ---- from the old listing to the new ----

  -- from a place of the window on, and from one apart from it
  abbrev Stays : ℕ → Type 0
  Stays q = (Apart q → Reads new_code x (to q)) × ((j : ℕ) → q ≡ p + j → j < length window → Through (drop j window) x (Reads new_code x end))

  outside_cases : (s : ℕ) → IsOutside p (length window) s → (s ≡ p) ⊎ Apart s
  outside_cases s o =
      elim (cases_eq s p) [
        | inl e ↦ inl e
        | inr d ↦ inr (elim o [ inl l ↦ inl (omega (arith, d)) | inr l ↦ inr l ])
      ]

  module _ (enter : Reads code x p → Through window x (Reads new_code x end) → Reads new_code x p) where
    arrive : (s : ℕ) → IsOutside p (length window) s → Reads code x s → Stays s → Reads new_code x (to s)
    arrive s o r k =
        elim (outside_cases s o) [
          | inr a ↦ k.0 a
          | inl e ↦
              let g = at.shorter in
              let b = at.before s (omega arith) in
              subst (Reads new_code x) (let z : p ≡ to s = omega arith in z) (enter (subst (Reads code x) e r) (k.1 0 (omega arith) (omega arith)))
        ]

    -- after an instruction of the window
    rest : (s j : ℕ) → s ≡ p + (j + 1) → j < length window → Stays s → Through (drop (j + 1) window) x (Reads new_code x end)
    rest s j e l k =
        elim (cases_lt (j + 1) (length window)) [
          | inl m ↦ k.1 (j + 1) e m
          | inr m ↦
              let b = at.behind s (omega arith) in
              subst (λ (is : List Instr). Through is x (Reads new_code x end)) (sym (drop_whole window (j + 1) (omega arith)))
              (subst (Reads new_code x) (let z : to s ≡ end = omega arith in z) (k.0 (inr (omega arith))))
        ]

    reads_stay : (q : ℕ) → Reads code x q → Stays q
    reads_stay _ (now q k w e t) = (
      λ a. now (to q) k (way_to to w) (ap (λ ws. slice_get ws k) (at.ways_moved q a) ∙ get_map (way_to to) (ways code q) k w e) t,
      λ j f l.
          let i = drop_at window j l in
          let one : way (uses_of i.0) (writes_of i.0) Onward ≡ w = only (ways code q) _ k w (ap (ways code) f ∙ runs_at code p window j i.0 at.window_runs i.1) e in
          subst (λ (is : List Instr). Through is x (Reads new_code x end)) (sym i.2) (inl (ap (λ (v : Way). one_of x v.reads) one ∙ t)),
    )
    reads_stay _ (later q k w s e n f t) = (
      λ a.
          later (to q) k (way_to to w) (to s) (ap (λ ws. slice_get ws k) (at.ways_moved q a) ∙ get_map (way_to to) (ways code q) k w e) n
          (at.follows_moved q a w.leads s f)
          (arrive s (at.follows_outside q a k w s e f) t (reads_stay s t)),
      λ j g l.
          let i = drop_at window j l in
          let one : way (uses_of i.0) (writes_of i.0) Onward ≡ w = only (ways code q) _ k w (ap (ways code) g ∙ runs_at code p window j i.0 at.window_runs i.1) e in
          let next : s ≡ q + 1 = subst (λ (v : Way). Follows code q v.leads s) (sym one) f in
          subst (λ (is : List Instr). Through is x (Reads new_code x end)) (sym i.2) (inr (ap (λ (v : Way). one_of x v.writes) one ∙ n, rest s j (omega arith) l (reads_stay s t))),
    )

    -- what is read from a place outside the window is still read from it
    pub still_read : (q : ℕ) → IsOutside p (length window) q → Reads code x q → Reads new_code x (to q)
    still_read q o r = arrive q o r (reads_stay q r)

  -- what enters the window is read from the new instructions
  module _ (after : ℕ → Bool) (ahead : List Flow)
      (was : Reads code x p → live_through new after x ≡ true)
      (flows : AreFlowsFrom code (p + length window) ahead)
      (lost : live_through window nothing x ≡ true → live_through new nothing x ≡ false → read_along ahead x ≡ true) where
    pub enters : Reads code x p → Through window x (Reads new_code x end) → Reads new_code x p
    enters r t =
        elim (either new x (after x ≡ true) (Reads new_code x end) (told new x after (was r))) [
          | inl u ↦ reads u
          | inr g ↦ elim (either window x (Reads new_code x end) (nothing x ≡ true) t) [
            | inr h ↦ reads (g.1 h.0)
            | inl h ↦ read_or_ahead (live_through new nothing x) refl g.1 (tested window x nothing h)
          ]
        ]
      where
        reads : Through new x (Reads new_code x end) → Reads new_code x p
        reads u = through_reads new_code new p end x refl at.new_runs u

        read_or_ahead : (b : Bool) → live_through new nothing x ≡ b → (Reads new_code x end → Through new x (Reads new_code x end)) → live_through window nothing x ≡ true → Reads new_code x p
        read_or_ahead true e g h = reads (through_map new x (nothing x ≡ true) (Reads new_code x end) (not_nothing x (Reads new_code x end)) (told new x nothing e))
        read_or_ahead false e g h = reads (g (subst (Reads new_code x) to_end (along ahead (p + length window) (omega arith) flows (lost h e))))

  -- ---- and back ----

  module _ (after : ℕ → Bool) (leave : Reads code x (p + length window) → after x ≡ true) (first : live_through new after x ≡ true → Reads code x p) where
    abbrev Was : ℕ → Type 0
    Was r = ((q : ℕ) → Apart q → r ≡ to q → Reads code x q) × ((j : ℕ) → r ≡ p + j → j ≤ length new → Through (drop j new) x (after x ≡ true))

    back_at : (r s : ℕ) → r ≡ to s → IsOutside p (length window) s → Was r → Reads code x s
    back_at r s e o w =
        elim (outside_cases s o) [
          | inr a ↦ w.0 s a e
          | inl f ↦
              let b = at.before s (omega arith) in
              subst (Reads code x) (sym f) (first (tested new x after (w.1 0 (omega arith) (omega arith))))
        ]

    -- at the end of the new instructions
    at_end : (r j : ℕ) → r ≡ p + j → j ≡ length new → ((q : ℕ) → Apart q → r ≡ to q → Reads code x q) → Through (drop j new) x (after x ≡ true)
    at_end r j e f w =
        let b = at.behind (p + length window) (omega arith) in
        subst (λ (is : List Instr). Through is x (after x ≡ true)) (sym (drop_whole new j f)) (leave (w (p + length window) (inr (omega arith)) (omega arith)))

    -- within them or there
    inside : (r : ℕ) → ((q : ℕ) → Apart q → r ≡ to q → Reads code x q) → ((j : ℕ) → r ≡ p + j → j < length new → Through (drop j new) x (after x ≡ true)) → (j : ℕ) → r ≡ p + j → j ≤ length new → Through (drop j new) x (after x ≡ true)
    inside r w h j e l =
        elim (cases_lt j (length new)) [
          | inl m ↦ h j e m
          | inr m ↦ at_end r j e (omega arith) w
        ]

    old_way : (r q k : ℕ) (w : Way) → Apart q → r ≡ to q → slice_get (ways new_code r) k ≡ Some w → (v : Way) × (slice_get (ways code q) k ≡ Some v) × (w ≡ way_to to v)
    old_way r q k w a e g = map_back (way_to to) (ways code q) k w (ap (λ ws. slice_get ws k) (sym (ap (ways new_code) e ∙ at.ways_moved q a)) ∙ g)

    new_way : (r j k : ℕ) (w : Way) → r ≡ p + j → (i : Instr) → slice_get new j ≡ Some i → slice_get (ways new_code r) k ≡ Some w → way (uses_of i) (writes_of i) Onward ≡ w
    new_way r j k w e i g h = only (ways new_code r) _ k w (ap (ways new_code) e ∙ runs_at new_code p new j i at.new_runs g) h

    reads_back : (r : ℕ) → Reads new_code x r → Was r
    reads_back _ (now r k w e t) =
        let out : (q : ℕ) → Apart q → r ≡ to q → Reads code x q = λ q a f.
        let v = old_way r q k w a f e in
        now q k v.0 v.1 (ap (λ (u : Way). one_of x u.reads) (sym v.2) ∙ t) in (
          out,
          inside r out (λ j f l.
              let i = drop_at new j l in
              subst (λ (is : List Instr). Through is x (after x ≡ true)) (sym i.2) (inl (ap (λ (u : Way). one_of x u.reads) (new_way r j k w f i.0 i.1 e) ∙ t))),
        )
    reads_back _ (later r k w s e n f t) =
        let was = reads_back s t in
        let out : (q : ℕ) → Apart q → r ≡ to q → Reads code x q = λ q a g.
        let v = old_way r q k w a g e in
        let b = at.follows_back q a v.0.leads s (subst (λ y. Follows new_code y (lead_to to v.0.leads) s) g (subst (λ (u : Way). Follows new_code r u.leads s) v.2 f)) in
        later q k v.0 b.0 v.1 (ap (λ (u : Way). one_of x u.writes) (sym v.2) ∙ n) b.1 (back_at s b.0 b.2 (at.follows_outside q a k v.0 b.0 v.1 b.1) was) in (
          out,
          inside r out (λ j g l.
              let i = drop_at new j l in
              let one = new_way r j k w g i.0 i.1 e in
              let next : s ≡ r + 1 = subst (λ (u : Way). Follows new_code r u.leads s) (sym one) f in
              subst (λ (is : List Instr). Through is x (after x ≡ true)) (sym i.2) (inr (ap (λ (u : Way). one_of x u.writes) one ∙ n, was.1 (j + 1) (omega arith) (omega arith)))),
        )

    pub read_before : (s : ℕ) → IsOutside p (length window) s → Reads new_code x (to s) → Reads code x s
    read_before s o r = back_at (to s) s refl o (reads_back (to s) r)

    pub read_within : (j : ℕ) → j ≤ length new → Reads new_code x (p + j) → live_through (drop j new) after x ≡ true
    read_within j l r = tested (drop j new) x after ((reads_back (p + j) r).1 j refl l)

  -- from a new instruction on
  pub within_read : (after : ℕ → Bool) → (after x ≡ true → Reads new_code x end) → (j : ℕ) → j ≤ length new → live_through (drop j new) after x ≡ true → Reads new_code x (p + j)
  within_read after behind j l h =
      through_reads new_code (drop j new) (p + j) end x (let d = length_drop j new in omega arith) (runs_drop j new p at.new_runs) (through_map (drop j new) x (after x ≡ true) (Reads new_code x end) behind (told (drop j new) x after h))
    where
      runs_drop : (j : ℕ) (is : List Instr) (q : ℕ) → Runs new_code q is → Runs new_code (q + j) (drop j is)
      runs_drop zero is q r = subst (λ y. Runs new_code y is) (let z : q ≡ q + 0 = omega arith in z) r
      runs_drop (suc j) [] q r = tt
      runs_drop (suc j) (i ∷ is) q r = subst (λ y. Runs new_code y (drop j is)) (let z : q + 1 + j ≡ q + suc j = omega arith in z) (runs_drop j is (q + 1) r.1)
