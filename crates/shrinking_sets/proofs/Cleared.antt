-- What wasn't cleared is still read.
use Rattle.std.proofs.Common.{◌≡◌, ℕ, zero, suc, ◌+◌, ◌<◌, ◌&&◌, ◌||◌, not, Bool, true, false, List, [], ◌∷◌, length, drop, Some, refl, sym, ap, ◌∙◌, subst, ◌⊎◌, inl, inr, arith}
use Rattle.std.specs.Prelude.{slice_get}
use Rattle.std.proofs.lemmas.Bool.{cases_Bool, cases_lt, or_from, or_left, or_parts, or_right}
use Rattle.std.proofs.lemmas.Option.{same_Some}
use Rattle.thumb_instr.specs.declared.instr.Instr.{Instr}
use Rattle.thumb_instr.specs.Shape.{uses_of, writes_of}
use Rattle.thumb_model.specs.Effect.{one_of}
use Rattle.thumb_model.specs.Listing.{Code}
use Rattle.thumb_model.specs.Flow.{Way, Onward, way, ways, Follows, Reads, now, later}
use Rattle.shrinking_sets.specs.Straight.{reads_first, writes_in, IsApart, IsExchange}
use Rattle.shrinking_sets.specs.Marks.{some_reads, Passes, IsForward, is_lost, IsCleared}
use Rattle.shrinking_sets.proofs.Forward.{some_way_reads, reads_here, passes_back, forward_is_read}
use Rattle.shrinking_sets.proofs.Exchange.{Runs, old_runs, new_runs, apart_or, ways_same, passes_stays}

-- ---- straight code ----

-- the item is read in straight code before it is written, or isn't written in it and then A holds
abbrev pub Through : List Instr → ℕ → Type 0 → Type 0
Through is x A = (reads_first is x ≡ true) ⊎ ((writes_in is x ≡ false) × A)

pub passing : (a b : Bool) → a ≡ true → b ≡ false → (a && not b) ≡ true
passing true false e f = refl
passing true true e f = absurd (cc)
passing false b e f = absurd (cc)

pub passes : (a b : Bool) → (a && not b) ≡ true → (a ≡ true) × (b ≡ false)
passes true false e = (refl, refl)
passes true true e = absurd (cc)
passes false b e = absurd (cc)

-- one instruction more
pub through_more : (i : Instr) (is : List Instr) (x : ℕ) (A : Type 0) → one_of x (writes_of i) ≡ false → Through is x A → Through (i ∷ is) x A
through_more i is x A n (inl r) = inl (or_right (one_of x (uses_of i)) _ (passing _ _ r n))
through_more i is x A n (inr t) = inr (or_from _ _ n t.0, t.1)

-- what goes through straight code is read before it
pub through_reads : (code : Code) (is : List Instr) (q end x : ℕ) → end ≡ q + length is → Runs code q is → Through is x (Reads code x end) → Reads code x q
through_reads code [] q end x e r (inl t) = absurd (cc)
through_reads code [] q end x e r (inr t) = subst (Reads code x) (let f : end ≡ q = omega arith in f) t.1
through_reads code (i ∷ is) q end x e r t = go (one_of x (uses_of i)) refl t (λ n u. later q 0 (way (uses_of i) (writes_of i) Onward) (q + 1) here n refl (through_reads code is (q + 1) end x (omega arith) r.1 u))
  where
    here : slice_get (ways code q) 0 ≡ Some (way (uses_of i) (writes_of i) Onward)
    here = ap (λ ws. slice_get ws 0) r.0

    go : (b : Bool) → one_of x (uses_of i) ≡ b → Through (i ∷ is) x (Reads code x end) → (one_of x (writes_of i) ≡ false → Through is x (Reads code x end) → Reads code x q) → Reads code x q
    go true u t next = now q 0 (way (uses_of i) (writes_of i) Onward) here u
    go false u (inl t) next = let b = passes (reads_first is x) (one_of x (writes_of i)) (sym (ap (λ c. c || (reads_first is x && not (one_of x (writes_of i)))) u) ∙ t) in next b.1 (inl b.0)
    go false u (inr t) next = next (or_parts _ _ t.0).0 (inr ((or_parts (one_of x (writes_of i)) _ t.0).1, t.1))

-- at a place of straight code: its one way, and the code from there on
at_run : (code : Code) (q : ℕ) (is : List Instr) (j : ℕ) → Runs code q is → j < length is → (i : Instr) × (drop j is ≡ i ∷ drop (j + 1) is) × (ways code (q + j) ≡ way (uses_of i) (writes_of i) Onward ∷ [])
at_run code q [] j r h = absurd (omega arith)
at_run code q (i ∷ is) zero r h = (i, refl, ap (ways code) (let f : q + 0 ≡ q = omega arith in f) ∙ r.0)
at_run code q (i ∷ is) (suc j) r h =
    let t = at_run code (q + 1) is j r.1 (omega arith) in (
      t.0,
      t.1 ∙ ap (λ n. t.0 ∷ drop n (i ∷ is)) (let e : suc (j + 1) ≡ suc j + 1 = omega arith in e),
      ap (ways code) (let f : q + suc j ≡ q + 1 + j = omega arith in f) ∙ t.2,
    )

drop_whole : (is : List Instr) (k : ℕ) → k ≡ length is → drop k is ≡ []
drop_whole [] zero e = refl
drop_whole [] (suc k) e = refl
drop_whole (i ∷ is) zero e = absurd (omega arith)
drop_whole (i ∷ is) (suc k) e = drop_whole is k (omega arith)

-- a way of a place with one
pub only : (ws : List Way) (v : Way) (k : ℕ) (y : Way) → ws ≡ v ∷ [] → slice_get ws k ≡ Some y → v ≡ y
only ws v k y e g = go k (ap (λ us. slice_get us k) (sym e) ∙ g)
  where
    go : (k : ℕ) → slice_get (v ∷ []) k ≡ Some y → v ≡ y
    go zero f = same_Some v y f
    go (suc k) f = absurd (cc)

-- ---- the window ----

-- what isn't lost at the window is read by the new instructions, or for sure, or by none, and then the new ones don't write it unless the old ones do
not_lost : (old is : List Instr) (sure : Bool) (x : ℕ) → is_lost old is sure x ≡ false → (reads_first is x ≡ true) ⊎ ((sure ≡ true) ⊎ ((reads_first old x ≡ false) × (writes_in old x ≡ false → writes_in is x ≡ false)))
not_lost old is sure x h = go (reads_first is x) (reads_first old x) (writes_in is x) (writes_in old x) sure h
  where
    go : (a b c d s : Bool) → (not a && ((b || (c && not d)) && not s)) ≡ false → (a ≡ true) ⊎ ((s ≡ true) ⊎ ((b ≡ false) × (d ≡ false → c ≡ false)))
    go true b c d s h = inl refl
    go false b c d true h = inr (inl refl)
    go false true c d false h = absurd (cc)
    go false false true true false h = inr (inr (refl, λ e. absurd (cc)))
    go false false true false false h = absurd (cc)
    go false false false d false h = inr (inr (refl, λ e. refl))

module _ (code new : Code) (w : ℕ) (old is : List Instr) (x : ℕ) (f c : ℕ → Bool) (at : IsExchange code new w old is) (forward : IsForward new x f) (cleared : IsCleared code w old is x f c) where
  abbrev end : ℕ
  end = w + length old

  -- what holds behind the window
  abbrev Behind : Type 0
  Behind = Reads code x end × (c end ≡ true → Reads new x end)

  -- from a place on, and from one of the window on
  abbrev Stays : ℕ → Type 0
  Stays q = (c q ≡ true → Reads new x q) × ((j : ℕ) → q ≡ w + j → j < length old → Through (drop j old) x Behind)

  sure : (p : ℕ) → f p ≡ true → Reads new x p
  sure p t = forward_is_read new x f forward p t

  new_reads : Through is x (Reads new x end) → Reads new x w
  new_reads t = through_reads new is w end x (let n = at.as_many in omega arith) (new_runs code new w old is at) t

  -- what enters the window is still read where it wasn't cleared
  enters : Through old x Behind → c w ≡ true → Reads new x w
  enters t k =
      elim (cases_Bool (is_lost old is (f w) x)) [
        | inl l ↦ absurd (let z = cleared.lost l in cc)
        | inr l ↦ elim (not_lost old is (f w) x l) [
          | inl r ↦ new_reads (inl r)
          | inr s ↦ elim s [
            | inl u ↦ sure w u
            | inr u ↦ through t u.0 u.1
          ]
        ]
      ]
    where
      through : Through old x Behind → reads_first old x ≡ false → (writes_in old x ≡ false → writes_in is x ≡ false) → Reads new x w
      through (inl r) n g = absurd (cc)
      through (inr r) n g =
          elim (cases_Bool (c end)) [
            | inl l ↦ new_reads (inr (g r.0, r.1.1 l))
            | inr l ↦ elim (cleared.through r.0 r.1.0 l k) [
              | inl u ↦ absurd (cc)
              | inr u ↦ sure w u
            ]
          ]

  -- at a place of the window
  in_window : (q : ℕ) → ((j : ℕ) → q ≡ w + j → j < length old → Through (drop j old) x Behind) → (j : ℕ) → q ≡ w + j → j < length old → c q ≡ true → Reads new x q
  in_window q t zero e l k = let z : w ≡ q = omega arith in subst (Reads new x) z (enters (t 0 e l) (ap c z ∙ k))
  in_window q t (suc j) e l k = absurd (let z = cleared.inside (suc j) (omega arith) l in let y : c q ≡ c (w + suc j) = ap c e in cc)

  -- where a way of a place outside the window passes the item
  passed : (p q : ℕ) → IsApart w (length old) p → Passes code x p q → Reads code x q → (c q ≡ true → Reads new x q) → c p ≡ true → Reads new x p
  passed p q a s r t k =
      elim (cases_Bool (c q)) [
        | inl l ↦ passes_back new x p q (passes_stays code new w old is at x p q a s) (t l)
        | inr l ↦ elim (cleared.back p q a s r l k) [
          | inl u ↦ reads_here new x p (ap (λ ws. some_reads ws x) (ways_same code new w old is at p a) ∙ u)
          | inr u ↦ elim u [
            | inl v ↦ sure p v
            | inr v ↦ passes_back new x p v.0 (passes_stays code new w old is at x p v.0 a v.1) (sure v.0 v.2)
          ]
        ]
      ]

  -- behind an instruction of the window
  rest : (s j : ℕ) → s ≡ w + (j + 1) → j < length old → Reads code x s → Stays s → Through (drop (j + 1) old) x Behind
  rest s j e l r t =
      elim (cases_lt (j + 1) (length old)) [
        | inl m ↦ t.1 (j + 1) e m
        | inr m ↦
            let z : s ≡ end = omega arith in
            subst (λ (is : List Instr). Through is x Behind) (sym (drop_whole old (j + 1) (omega arith))) (inr (refl, (subst (Reads code x) z r, λ k. subst (Reads new x) z (t.0 (ap c z ∙ k)))))
      ]

  -- a place of the window reads the item, or passes it
  reads_inside : (q k : ℕ) (y : Way) → slice_get (ways code q) k ≡ Some y → one_of x y.reads ≡ true → (j : ℕ) → q ≡ w + j → j < length old → Through (drop j old) x Behind
  reads_inside q k y e t j g l =
      let i = at_run code w old j (old_runs code new w old is at) l in
      let one : way (uses_of i.0) (writes_of i.0) Onward ≡ y = only (ways code q) _ k y (ap (ways code) g ∙ i.2) e in
      subst (λ (is : List Instr). Through is x Behind) (sym i.1) (inl (or_left _ _ (ap (λ (v : Way). one_of x v.reads) one ∙ t)))

  passes_inside : (q k : ℕ) (y : Way) (s : ℕ) → slice_get (ways code q) k ≡ Some y → one_of x y.writes ≡ false → Follows code q y.leads s → Reads code x s → Stays s → (j : ℕ) → q ≡ w + j → j < length old → Through (drop j old) x Behind
  passes_inside q k y s e n g t behind j h l =
      let i = at_run code w old j (old_runs code new w old is at) l in
      let one : way (uses_of i.0) (writes_of i.0) Onward ≡ y = only (ways code q) _ k y (ap (ways code) h ∙ i.2) e in
      let next : s ≡ q + 1 = subst (λ (v : Way). Follows code q v.leads s) (sym one) g in
      subst (λ (is : List Instr). Through is x Behind) (sym i.1) (through_more i.0 (drop (j + 1) old) x Behind (ap (λ (v : Way). one_of x v.writes) one ∙ n) (rest s j (omega arith) l t behind))

  stays_now : (q k : ℕ) (y : Way) → slice_get (ways code q) k ≡ Some y → one_of x y.reads ≡ true → Stays q
  stays_now q k y e t = (
    λ m. elim (apart_or code new w old is at q) [
      | inl a ↦ reads_here new x q (ap (λ ws. some_reads ws x) (ways_same code new w old is at q a) ∙ some_way_reads (ways code q) x k y e t)
      | inr i ↦ in_window q (reads_inside q k y e t) i.0 i.1 i.2 m
    ],
    reads_inside q k y e t,
  )

  stays_later : (q k : ℕ) (y : Way) (s : ℕ) → slice_get (ways code q) k ≡ Some y → one_of x y.writes ≡ false → Follows code q y.leads s → Reads code x s → Stays s → Stays q
  stays_later q k y s e n g t behind = (
    λ m. elim (apart_or code new w old is at q) [
      | inl a ↦ passed q s a (record { number = k; found = y; is = e; unwritten = n; leads = g }) t behind.0 m
      | inr i ↦ in_window q (passes_inside q k y s e n g t behind) i.0 i.1 i.2 m
    ],
    passes_inside q k y s e n g t behind,
  )

  stays : (q : ℕ) → Reads code x q → Stays q
  stays _ (now q k y e t) = stays_now q k y e t
  stays _ (later q k y s e n g t) = stays_later q k y s e n g t (stays s t)

  pub cleared_is_read : (p : ℕ) → c p ≡ true → Reads new x p
  cleared_is_read p k = (stays p (cleared.below p k)).0 k
