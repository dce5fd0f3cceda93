-- The addresses that are noted for blocks after a move: less their lags they are the new ones, and the layout's invariant is preserved.
use Rattle.std.proofs.Common.{◌≡◌, ◌∙◌, inl, inr, ℕ, zero, suc, ◌+◌, ◌-◌, ◌<◌, ◌≤◌, true, List, [], ◌∷◌, length, map, take, drop, Some, refl, sym, ap, subst, arith}
use Rattle.std.specs.Prelude.{nat_eq, nat_le, slice_get, slice_set, Contains}
use Rattle.std.proofs.lemmas.Bool.{and_parts, cases_lt, eqb-true, leb-true}
use Rattle.std.proofs.lemmas.List.{length-set}
use Rattle.std.proofs.lemmas.Option.{slice_get_within}
use Rattle.thumb_model.proofs.Lists.{length_map, present_at}
use Rattle.kept_layout.specs.declared.alignments.Loose.TheVariants as sort
use Rattle.kept_layout.specs.declared.kept.KeptLayout.{KeptLayout}
use Rattle.kept_layout.specs.declared.block.Aim.{Aim}
use Rattle.kept_layout.specs.declared.block.Head.{Head}
use Rattle.kept_layout.specs.declared.block.Head.TheVariants as head
use Rattle.kept_layout.specs.declared.lag.Lag.{Lag}
use Rattle.kept_layout.specs.declared.block.Block.{Block}
use Rattle.kept_layout.specs.declared.block.NameLocation.TheVariants as location
use Rattle.kept_layout.specs.Blocks.{addresses, end_from, is_calm, is_loose, lag_of, lessen, literal_last, located, footprint_of, footprints_of, starts_from, total_places, AllReach, AreWalls, Divides, HasSlack, IsAlignment, Footprint}
use Rattle.kept_layout.specs.Kept.{AreRooms, IsLaid}
use Rattle.kept_layout.specs.Moves.{keeps_gap, moved_starts, news, starts_of, unplaced, wall_of, AreNoted, AreNotedIn, AreSlack, IsLagAfter, IsMove, IsMoved, IsNote}
use Rattle.kept_layout.proofs.MovingPlaces.{footprint_at}
use Rattle.kept_layout.proofs.ShrinkingPlaces.{addresses_are, lag_before, lag_behind, lag_gap, lies_at, moved_among, moved_before, moved_behind, footprints_length}
use Rattle.kept_layout.proofs.Walls.{bounds, end_news, few_low, news_behind, news_calm}
use Rattle.kept_layout.proofs.ShrinkingStarts.{alignment_lessen, lessen_at, lessen_length, places_lessen, starts_length}
use Rattle.common_lemmas.proofs.Lists.{get_set, get_map}

-- ---- one block ----

pub set_else : {A : Type 0} (xs : List A) (p q : ℕ) (x : A) → (q ≡ p → ⊥) → slice_get (slice_set xs p x) q ≡ slice_get xs q
set_else [] p q x d = refl
set_else (y ∷ xs) zero zero x d = absurd (d refl)
set_else (y ∷ xs) zero (suc q) x d = refl
set_else (y ∷ xs) (suc p) zero x d = refl
set_else (y ∷ xs) (suc p) (suc q) x d = set_else xs p q x (λ e. d (ap suc e))

-- another noted address of one block leaves all else as it is
pub same_set : (ss : List Block) (n : ℕ) (s t : Block) → slice_get ss n ≡ Some s → unplaced t ≡ unplaced s → map unplaced (slice_set ss n t) ≡ map unplaced ss
same_set [] n s t e f = absurd (cc)
same_set (x ∷ ss) zero s t e f = let same : x ≡ s = cc in ap (λ y. y ∷ map unplaced ss) (f ∙ ap unplaced (sym same))
same_set (x ∷ ss) (suc n) s t e f = ap (λ ys. unplaced x ∷ ys) (same_set ss n s t e f)

-- ---- all of them ----

pub map_length : {A B : Type 0} (f : A → B) (xs ys : List A) → map f xs ≡ map f ys → length xs ≡ length ys
map_length f xs ys e = sym (length_map f xs) ∙ ap length e ∙ length_map f ys

pub notes_begin : (k : KeptLayout) (bytes : ℕ) (new : List ℕ) (by : ℕ) (lag : Lag) (from : ℕ) → AreNotedIn k bytes new by lag from from k.blocks.items
notes_begin k bytes new by lag from = record { same = refl; notes = λ j s d h m. absurd (omega arith); low = λ j h. refl; rest = λ j h. refl }

-- a note depends on the layout only by its current block and its wall
note_alike : (l k : KeptLayout) (bytes : ℕ) (new : List ℕ) (by : ℕ) (lag : Lag) (j old note : ℕ) → l.here ≡ k.here → wall_of l ≡ wall_of k → IsNote l bytes new by lag j old note → IsNote k bytes new by lag j old note
note_alike l k bytes new by lag j old note here wall n = record {
  before = λ h. n.before (omega arith);
  calm = λ h m. n.calm (omega arith) (omega arith);
  among = λ h m o x e. n.among (omega arith) (omega arith) (omega arith) x (ap (λ w. slice_get new (j - w)) wall ∙ e);
  behind = λ h m. n.behind (omega arith) (omega arith);
}

pub note_from : (k l : KeptLayout) (bytes : ℕ) (new : List ℕ) (by : ℕ) (lag : Lag) (j at note : ℕ) → l ≡ (record k { blocks = l.blocks }) → IsNote l bytes new by lag j (located l.lag j at) note → IsNote k bytes new by lag j (located k.lag j at) note
note_from k l bytes new by lag j at note fields n =
    subst (λ x. IsNote k bytes new by lag j x note) (ap (λ (x : KeptLayout). located x.lag j at) fields)
    (note_alike l k bytes new by lag j (located l.lag j at) note (ap (λ (x : KeptLayout). x.here) fields) (ap (λ (x : KeptLayout). wall_of x) fields) n)

pub notes_on : (k l : KeptLayout) (bytes : ℕ) (new : List ℕ) (by : ℕ) (lag : Lag) (from number following : ℕ) (more : List Block) → from ≤ number → l ≡ (record k { blocks = l.blocks }) → AreNotedIn k bytes new by lag from number l.blocks.items → map unplaced more ≡ map unplaced l.blocks.items
    → ((j : ℕ) → (j ≡ number → ⊥) → slice_get more j ≡ slice_get l.blocks.items j) → ((s d : Block) → slice_get l.blocks.items number ≡ Some s → slice_get more number ≡ Some d → IsNote l bytes new by lag number (located l.lag number s.at) d.at) → following ≡ suc number
    → AreNotedIn k bytes new by lag from following more
notes_on k l bytes new by lag from number following more past fields n same others note f = record {
  same = same ∙ n.same;
  notes = λ j s d low m e g. elim (cases_lt j number) [
    | inl h ↦ n.notes j s d low h e (sym (others j (λ x. omega arith)) ∙ g)
    | inr h ↦
        let here : number ≡ j = omega arith in
        let found : slice_get l.blocks.items number ≡ Some s = n.rest number (omega arith) ∙ ap (slice_get k.blocks.items) here ∙ e in
        subst (λ i. IsNote k bytes new by lag i (located k.lag i s.at) d.at) here (note_from k l bytes new by lag number s.at d.at fields (note s d found (ap (slice_get more) here ∙ g)))
  ];
  low = λ j h. others j (λ x. omega arith) ∙ n.low j h;
  rest = λ j m. others j (λ x. omega arith) ∙ n.rest j (omega arith);
}

-- ---- blocks that aren't noted anew ----

-- the note of a block stays right where its lag grows by just the bytes by which it moves
still_noted : (k : KeptLayout) (bytes : ℕ) (new : List ℕ) (by : ℕ) (lag : Lag) (j at moves : ℕ) → lag_of k.lag j + moves ≤ at → lag_of lag j ≡ lag_of k.lag j + moves → (j ≤ k.here → moves ≡ 0) → (k.here < j → j < wall_of k → moves ≡ bytes) → (k.here < j → wall_of k ≤ j → (wall_of k + length new ≤ j) × (moves ≡ by))
    → IsNote k bytes new by lag j (located k.lag j at) at
still_noted k bytes new by lag j at moves low is before calm behind = record {
  before = λ h. let none = before h in omega arith;
  calm = λ h m. let all = calm h m in omega arith;
  among = λ h m o x e. absurd (let never = (behind h m).0 in omega arith);
  behind = λ h m. let from = behind h (omega arith) in let all = from.1 in omega arith;
}

-- so it does for blocks that move together, after the border
still_behind : (k : KeptLayout) (bytes : ℕ) (new : List ℕ) (by : ℕ) (lag : Lag) (j : ℕ) (s : Block) → IsLaid k → IsMove k (news k bytes new) by → IsLagAfter k bytes new by lag → wall_of k + length new ≤ j → k.lag.border ≤ j → slice_get k.blocks.items j ≡ Some s → IsNote k bytes new by lag j (located k.lag j s.at) s.at
still_behind k bytes new by lag j s l m a h b e =
    let from = (bounds k l).from in
    let end = end_news k bytes new l in
    let border = a.border in
    let shift = a.shift in
    let old = lag_behind k.lag j b in
    let new_lag = lag_behind lag j (omega arith) in
    let noted = l.noted j s e in
    let low = m.low j (located k.lag j s.at) (omega arith) (lies_at k j s l e) in
    still_noted k bytes new by lag j s.at by (omega arith) (omega arith) (λ x. absurd (omega arith)) (λ x y. absurd (omega arith)) (λ x y. (h, refl))

-- for blocks that don't move, before all that have a lag
still_before : (k : KeptLayout) (bytes : ℕ) (new : List ℕ) (by : ℕ) (lag : Lag) (j : ℕ) (s : Block) → IsLaid k → IsLagAfter k bytes new by lag → j ≤ k.here → j < k.lag.from → j < k.lag.border → slice_get k.blocks.items j ≡ Some s → IsNote k bytes new by lag j (located k.lag j s.at) s.at
still_before k bytes new by lag j s l a h f b e =
    let from = (bounds k l).from in
    let border = a.border in
    let first = a.from in
    let old = lag_before k.lag j b f in
    let new_lag = lag_before lag j (omega arith) (omega arith) in
    still_noted k bytes new by lag j s.at 0 (omega arith) (omega arith) (λ x. refl) (λ x y. absurd (omega arith)) (λ x y. absurd (omega arith))

-- for calm blocks that have the gap as their lag already
still_calm : (k : KeptLayout) (bytes : ℕ) (new : List ℕ) (by : ℕ) (lag : Lag) (j : ℕ) (s : Block) → IsLaid k → ((s : Footprint) → slice_get (footprints_of k.blocks.items) k.here ≡ Some s → bytes ≤ s.bytes) → IsLagAfter k bytes new by lag → keeps_gap k ≡ true → k.here < j → k.lag.from ≤ j → j < wall_of k → slice_get k.blocks.items j ≡ Some s
    → IsNote k bytes new by lag j (located k.lag j s.at) s.at
still_calm k bytes new by lag j s l few a keeps h f w e =
    let parts = and_parts (nat_eq k.lag.until (wall_of k)) (nat_le (wall_of k) k.lag.border) keeps in
    let until = eqb-true k.lag.until (wall_of k) parts.0 in
    let past = leb-true (wall_of k) k.lag.border parts.1 in
    let border = a.border in
    let first = a.from in
    let last = a.until in
    let gap = a.kept keeps in
    let old = lag_gap k.lag j (omega arith) f (omega arith) in
    let new_lag = lag_gap lag j (omega arith) (omega arith) (omega arith) in
    let noted = l.noted j s e in
    let low = few_low k bytes j (located k.lag j s.at) l few h (lies_at k j s l e) in
    still_noted k bytes new by lag j s.at bytes (omega arith) (omega arith) (λ x. absurd (omega arith)) (λ x y. refl) (λ x y. absurd (omega arith))

-- ---- where blocks lie after the move ----

note_value : (k : KeptLayout) (bytes : ℕ) (new : List ℕ) (by : ℕ) (lag : Lag) (j old note x : ℕ) → IsLaid k → IsMove k (news k bytes new) by → slice_get (starts_of k) j ≡ Some old → IsNote k bytes new by lag j old note → slice_get (moved_starts k (news k bytes new) by) j ≡ Some x → note ≡ x + lag_of lag j
note_value k bytes new by lag j old note x l m is n e =
    let end = end_news k bytes new l in
    elim (cases_lt k.here j) [
      | inr before ↦ (let same = moved_before k (news k bytes new) by j m (omega arith) in let one : old ≡ x = cc in let v = n.before (omega arith) in omega arith)
      | inl later ↦ elim (cases_lt j (wall_of k)) [
        | inl calm ↦
            let there = moved_among k (news k bytes new) by j m later (omega arith) ∙ news_calm k bytes new j old l later calm is in
            let one : old - bytes ≡ x = cc in
            let v = n.calm later calm in
            omega arith
        | inr not ↦ elim (cases_lt j (wall_of k + length new)) [
          | inl among ↦ n.among later (omega arith) among x (sym (moved_among k (news k bytes new) by j m later (omega arith) ∙ news_behind k bytes new j l (omega arith)) ∙ e)
          | inr behind ↦
              let there = moved_behind k (news k bytes new) by j old m (omega arith) is in
              let one : old - by ≡ x = cc in
              let v = n.behind later (omega arith) in
              omega arith
        ]
      ]
    ]

-- all blocks are noted, where each one is noted so
noted_all : (k : KeptLayout) (bytes : ℕ) (new : List ℕ) (by : ℕ) (lag : Lag) (ss : List Block) → IsLaid k → IsMove k (news k bytes new) by → map unplaced ss ≡ map unplaced k.blocks.items
    → ((j : ℕ) (s d : Block) → slice_get k.blocks.items j ≡ Some s → slice_get ss j ≡ Some d → IsNote k bytes new by lag j (located k.lag j s.at) d.at) → AreNoted k (news k bytes new) by lag ss
noted_all k bytes new by lag ss l m same notes = record {
  same = same;
  lies = λ j x d e f.
      let len = map_length unplaced ss k.blocks.items same in
      let there = present_at k.blocks.items j (let w = slice_get_within ss j d e in omega arith) in
      note_value k bytes new by lag j (located k.lag j there.0.at) d.at x l m (lies_at k j there.0 l there.1) (notes j there.0 d there.1 e) f;
}

at_same : (k : KeptLayout) (bytes : ℕ) (new : List ℕ) (by : ℕ) (lag : Lag) (j : ℕ) (s d : Block) → s ≡ d → IsNote k bytes new by lag j (located k.lag j s.at) s.at → IsNote k bytes new by lag j (located k.lag j s.at) d.at
at_same k bytes new by lag j s d one n = subst (λ (x : Block). IsNote k bytes new by lag j (located k.lag j s.at) x.at) one n

-- where all were noted from the first block that moved before or moves now up to the last
pub noted_most : (k : KeptLayout) (bytes : ℕ) (new : List ℕ) (by : ℕ) (lag : Lag) (from until : ℕ) (ss : List Block) → IsLaid k → IsMove k (news k bytes new) by → IsLagAfter k bytes new by lag → from ≤ suc k.here → from ≤ k.lag.from → from ≤ k.lag.border → wall_of k + length new ≤ until → k.lag.border ≤ until
    → AreNotedIn k bytes new by lag from until ss → AreNoted k (news k bytes new) by lag ss
noted_most k bytes new by lag from until ss l m a h f b o u n = noted_all k bytes new by lag ss l m n.same (λ j s d e g. elim (cases_lt j from) [
  | inl before ↦ at_same k bytes new by lag j s d (let r = n.low j before in cc) (still_before k bytes new by lag j s l a (omega arith) (omega arith) (omega arith) e)
  | inr not ↦ elim (cases_lt j until) [
    | inl within ↦ n.notes j s d (omega arith) within e g
    | inr behind ↦ at_same k bytes new by lag j s d (let r = n.rest j (omega arith) in cc) (still_behind k bytes new by lag j s l m a (omega arith) (omega arith) e)
  ]
])

-- where calm blocks keep their notes
pub noted_few : (k middle : KeptLayout) (bytes : ℕ) (new : List ℕ) (by : ℕ) (lag : Lag) (from until end : ℕ) (ss : List Block) → IsLaid k → IsMove k (news k bytes new) by → ((s : Footprint) → slice_get (footprints_of k.blocks.items) k.here ≡ Some s → bytes ≤ s.bytes) → IsLagAfter k bytes new by lag → keeps_gap k ≡ true
    → from ≤ suc k.here → from ≤ k.lag.from → until ≤ wall_of k → ((j : ℕ) → until ≤ j → j < wall_of k → (k.here < j) × (k.lag.from ≤ j)) → wall_of k + length new ≤ end → k.lag.border ≤ end → middle ≡ (record k { blocks = middle.blocks })
    → AreNotedIn k bytes new by lag from until middle.blocks.items → AreNotedIn middle bytes new by lag (wall_of k) end ss → AreNoted k (news k bytes new) by lag ss
noted_few k middle bytes new by lag from until end ss l m few a keeps h f w calm o u fields first rest = noted_all k bytes new by lag ss l m (rest.same ∙ first.same) (λ j s d e g. elim (cases_lt j (wall_of k)) [
  | inl before ↦
      let there : slice_get middle.blocks.items j ≡ Some d = sym (rest.low j before) ∙ g in
      elim (cases_lt j from) [
        | inl low ↦ at_same k bytes new by lag j s d (let r = first.low j low in cc) (still_before k bytes new by lag j s l a (omega arith) (omega arith) (let past = leb-true (wall_of k) k.lag.border (and_parts (nat_eq k.lag.until (wall_of k)) (nat_le (wall_of k) k.lag.border) keeps).1 in omega arith) e)
        | inr not ↦ elim (cases_lt j until) [
          | inl within ↦ first.notes j s d (omega arith) within e there
          | inr past ↦ (let parts = calm j (omega arith) before in at_same k bytes new by lag j s d (let r = first.rest j (omega arith) in cc) (still_calm k bytes new by lag j s l few a keeps parts.0 parts.1 before e))
        ]
      ]
  | inr not ↦
      let there : slice_get middle.blocks.items j ≡ Some s = first.rest j (omega arith) ∙ e in
      elim (cases_lt j end) [
        | inl within ↦ note_from k middle bytes new by lag j s.at d.at fields (rest.notes j s d (omega arith) within there g)
        | inr behind ↦ at_same k bytes new by lag j s d (let r = rest.rest j (omega arith) in cc) (still_behind k bytes new by lag j s l m a (omega arith) (omega arith) e)
      ]
])

-- ---- one that takes fewer bytes ----

-- d is the j-th block, but for its bytes and places
record IsOne (k : KeptLayout) (new : List ℕ) (by : ℕ) (lag : Lag) (j : ℕ) (d : Block) : Type 0 where
  s : Block
  is : slice_get k.blocks.items j ≡ Some s
  head : d.head ≡ s.head
  callers : d.callers.items ≡ s.callers.items
  alignment : d.alignment ≡ s.alignment
  note : (x : ℕ) → slice_get (moved_starts k new by) j ≡ Some x → d.at ≡ x + lag_of lag j

-- a block with so many bytes and places fewer
pub record HasLess (bytes gone : ℕ) (s t : Block) : Type 0 where
  pub at : t.at ≡ s.at
  pub head : t.head ≡ s.head
  pub bytes_are : t.bytes ≡ s.bytes - bytes
  pub places_are : t.places ≡ s.places - gone
  pub callers : t.callers.items ≡ s.callers.items
  pub alignment : t.alignment ≡ s.alignment

one_noted : (k : KeptLayout) (new : List ℕ) (by : ℕ) (lag : Lag) (ss : List Block) (j : ℕ) (d : Block) → AreNoted k new by lag ss → slice_get ss j ≡ Some d → IsOne k new by lag j d
one_noted k new by lag ss j d n e =
    let len = map_length unplaced ss k.blocks.items n.same in
    let within = slice_get_within ss j d e in
    let there = present_at k.blocks.items j (omega arith) in
    let s : Block = there.0 in
    let left = get_map unplaced ss j d e in
    let right = get_map unplaced k.blocks.items j s there.1 in
    let both : slice_get (map unplaced ss) j ≡ slice_get (map unplaced k.blocks.items) j = ap (λ (xs : List Block). slice_get xs j) n.same in
    let same : unplaced d ≡ unplaced s = cc in
    record {
      s = s;
      is = there.1;
      head = ap (λ (x : Block). x.head) same;
      callers = ap (λ (x : Block). x.callers.items) same;
      alignment = ap (λ (x : Block). x.alignment) same;
      note = λ x f. n.lies j x d e f;
    }

one_less : (k : KeptLayout) (new : List ℕ) (by : ℕ) (lag : Lag) (ss : List Block) (bytes gone j : ℕ) (s t d : Block) → AreNoted k new by lag ss → slice_get ss k.here ≡ Some s → HasLess bytes gone s t → slice_get (slice_set ss k.here t) j ≡ Some d → IsOne k new by lag j d
one_less k new by lag ss bytes gone j s t d n e h f = elim (cases_lt j k.here) [
  | inl l ↦ one_noted k new by lag ss j d n (sym (set_else ss k.here j t (λ x. omega arith)) ∙ f)
  | inr l ↦ elim (cases_lt k.here j) [
    | inl m ↦ one_noted k new by lag ss j d n (sym (set_else ss k.here j t (λ x. omega arith)) ∙ f)
    | inr m ↦
        let here : k.here ≡ j = omega arith in
        let was = one_noted k new by lag ss j s n (ap (slice_get ss) (sym here) ∙ e) in
        let at : slice_get (slice_set ss k.here t) k.here ≡ Some d = ap (slice_get (slice_set ss k.here t)) here ∙ f in
        let one : t ≡ d = let w = get_set ss k.here t (slice_get_within ss k.here s e) in cc in
        record {
          s = was.s;
          is = was.is;
          head = ap (λ (x : Block). x.head) (sym one) ∙ h.head ∙ was.head;
          callers = ap (λ (x : Block). x.callers.items) (sym one) ∙ h.callers ∙ was.callers;
          alignment = ap (λ (x : Block). x.alignment) (sym one) ∙ h.alignment ∙ was.alignment;
          note = λ x f. let v = was.note x f in let at = sym h.at ∙ ap (λ (x : Block). x.at) one in omega arith;
        }
  ]
]

-- ---- their footprints ----

footprints_unplaced : (ss : List Block) → map footprint_of (map unplaced ss) ≡ footprints_of ss
footprints_unplaced [] = refl
footprints_unplaced (s ∷ ss) = ap (λ (xs : List Footprint). footprint_of s ∷ xs) (footprints_unplaced ss)

footprints_same : (xs ys : List Block) → map unplaced xs ≡ map unplaced ys → footprints_of xs ≡ footprints_of ys
footprints_same xs ys e = sym (footprints_unplaced xs) ∙ ap (map footprint_of) e ∙ footprints_unplaced ys

footprint_less : (bytes gone : ℕ) (s t : Block) → HasLess bytes gone s t → footprint_of t ≡ (record { head = s.head; bytes = s.bytes - bytes; places = s.places - gone })
footprint_less bytes gone s t h =
    ap (λ (x : Head). let y : Footprint = record { head = x; bytes = t.bytes; places = t.places } in y) h.head
    ∙ ap (λ x. let y : Footprint = record { head = s.head; bytes = x; places = t.places } in y) h.bytes_are
    ∙ ap (λ x. let y : Footprint = record { head = s.head; bytes = s.bytes - bytes; places = x } in y) h.places_are

footprints_set : (ss : List Block) (n bytes gone : ℕ) (s t : Block) → slice_get ss n ≡ Some s → HasLess bytes gone s t → footprints_of (slice_set ss n t) ≡ lessen n bytes gone (footprints_of ss)
footprints_set [] n bytes gone s t e h = absurd (cc)
footprints_set (x ∷ ss) zero bytes gone s t e h =
    let same : s ≡ x = cc in
    ap (λ (y : Footprint). y ∷ footprints_of ss) (footprint_less bytes gone s t h ∙ ap (λ (z : Block). let y : Footprint = record { head = z.head; bytes = z.bytes - bytes; places = z.places - gone } in y) same)
footprints_set (x ∷ ss) (suc n) bytes gone s t e h = ap (λ (xs : List Footprint). footprint_of x ∷ xs) (footprints_set ss n bytes gone s t e h)

pub footprints_less : (k : KeptLayout) (new : List ℕ) (by : ℕ) (lag : Lag) (ss : List Block) (bytes gone : ℕ) (s t : Block) → AreNoted k new by lag ss → slice_get ss k.here ≡ Some s → HasLess bytes gone s t → footprints_of (slice_set ss k.here t) ≡ lessen k.here bytes gone (footprints_of k.blocks.items)
footprints_less k new by lag ss bytes gone s t n e h = footprints_set ss k.here bytes gone s t e h ∙ ap (lessen k.here bytes gone) (footprints_same ss k.blocks.items n.same)

-- ---- the layout ----

-- a layout of these blocks
pub record IsAfter (k : KeptLayout) (new : List ℕ) (by bytes gone : ℕ) (ss : List Block) (after : KeptLayout) : Type 0 where
  pub base : after.base ≡ k.base
  pub here : after.here ≡ k.here
  pub first : after.first ≡ k.first
  pub loose : after.loose.items ≡ k.loose.items
  pub absolute : after.absolute.items ≡ k.absolute.items
  pub slack : AreSlack k (news k bytes new) by after.slack_from after.slack
  pub lag : IsLagAfter k bytes new by after.lag
  pub noted : AreNoted k (news k bytes new) by after.lag ss
  pub s : Block
  pub t : Block
  pub is : slice_get ss k.here ≡ Some s
  pub less : HasLess bytes gone s t
  pub blocks : after.blocks.items ≡ slice_set ss k.here t
  pub rooms : AreRooms after.rooms.items (lessen k.here bytes gone (footprints_of k.blocks.items))
  pub walls : after.walls.items ≡ k.walls.items

laid_at : (k : KeptLayout) (new : List ℕ) (by bytes gone : ℕ) (ss : List Block) (after : KeptLayout) (j : ℕ) (d : Block) → IsAfter k new by bytes gone ss after → slice_get after.blocks.items j ≡ Some d → IsOne k (news k bytes new) by after.lag j d
laid_at k new by bytes gone ss after j d a e = one_less k (news k bytes new) by after.lag ss bytes gone j a.s a.t d a.noted a.is a.less (ap (λ (xs : List Block). slice_get xs j) (sym a.blocks) ∙ e)

laid_footprints : (k : KeptLayout) (new : List ℕ) (by bytes gone : ℕ) (ss : List Block) (after : KeptLayout) → IsAfter k new by bytes gone ss after → footprints_of after.blocks.items ≡ lessen k.here bytes gone (footprints_of k.blocks.items)
laid_footprints k new by bytes gone ss after a = ap footprints_of a.blocks ∙ footprints_less k (news k bytes new) by after.lag ss bytes gone a.s a.t a.noted a.is a.less

laid_length : (k : KeptLayout) (new : List ℕ) (by bytes gone : ℕ) (ss : List Block) (after : KeptLayout) → IsAfter k new by bytes gone ss after → length after.blocks.items ≡ length k.blocks.items
laid_length k new by bytes gone ss after a = ap length a.blocks ∙ length-set ss k.here a.t ∙ map_length unplaced ss k.blocks.items a.noted.same

moved_count : (k : KeptLayout) (new : List ℕ) (by bytes gone : ℕ) → IsMoved k bytes new by → length (moved_starts k (news k bytes new) by) ≡ length k.blocks.items
moved_count k new by bytes gone m =
    ap length (sym (m.starts gone)) ∙ starts_length k.base (lessen k.here bytes gone (footprints_of k.blocks.items)) ∙ lessen_length k.here bytes gone (footprints_of k.blocks.items) ∙ footprints_length k.blocks.items

-- where its blocks begin
laid_lies : (k : KeptLayout) (new : List ℕ) (by bytes gone : ℕ) (ss : List Block) (after : KeptLayout) → IsMoved k bytes new by → IsAfter k new by bytes gone ss after → (j : ℕ) (d : Block) → slice_get after.blocks.items j ≡ Some d → (x : ℕ) × (slice_get (moved_starts k (news k bytes new) by) j ≡ Some x) × (d.at ≡ x + lag_of after.lag j)
laid_lies k new by bytes gone ss after m a j d e =
    let count = moved_count k new by bytes gone m in
    let len = laid_length k new by bytes gone ss after a in
    let there = present_at (moved_starts k (news k bytes new) by) j (let w = slice_get_within after.blocks.items j d e in omega arith) in
    (there.0, there.1, (laid_at k new by bytes gone ss after j d a e).note there.0 there.1)

laid_starts : (k : KeptLayout) (new : List ℕ) (by bytes gone : ℕ) (ss : List Block) (after : KeptLayout) → IsMoved k bytes new by → IsAfter k new by bytes gone ss after → addresses after.lag 0 after.blocks.items ≡ moved_starts k (news k bytes new) by
laid_starts k new by bytes gone ss after m a =
    addresses_are after.lag after.blocks.items (moved_starts k (news k bytes new) by) (moved_count k new by bytes gone m ∙ sym (laid_length k new by bytes gone ss after a))
    (λ n d e. let r = laid_lies k new by bytes gone ss after m a n d e in let v = r.2 in r.1 ∙ ap (λ x. Some x) (let same : r.0 ≡ d.at - lag_of after.lag n = omega arith in same))

-- which blocks mention a label
laid_callers : (k : KeptLayout) (new : List ℕ) (by bytes gone : ℕ) (ss : List Block) (after : KeptLayout) → IsLaid k → IsAfter k new by bytes gone ss after
    → (i t : ℕ) (s d : Block) (aim : Aim) → slice_get after.blocks.items i ≡ Some s → s.head ≡ head.Aims aim → aim.to ≡ Some (location.Block t) → slice_get after.blocks.items t ≡ Some d → Contains d.callers.items i
laid_callers k new by bytes gone ss after l a i t s d aim e f g h =
    let from = laid_at k new by bytes gone ss after i s a e in
    let to = laid_at k new by bytes gone ss after t d a h in
    subst (λ xs. Contains xs i) (sym to.callers) (l.callers i t from.s to.s aim from.is (sym from.head ∙ f) g to.is)

-- the same blocks are calm
walls_lessen : (walls : List ℕ) (n bytes gone : ℕ) (footprints : List Footprint) → AreWalls walls footprints → AreWalls walls (lessen n bytes gone footprints)
walls_lessen walls n bytes gone footprints are i wall e =
    let is = are i wall e in
    let count = lessen_length n bytes gone footprints in
    let within = is.within in
    record {
      from = is.from;
      within = omega arith;
      calm = λ j h m. let calm = is.calm j h m in record {
        own = λ s f. let was = lessen_at n bytes gone footprints j s f in subst (λ (x : Head). is_calm x ≡ true) was.head (calm.own was.footprint was.is);
        label = λ o s a f g t. let was = lessen_at n bytes gone footprints o s f in calm.label o was.footprint a was.is (was.head ∙ g) t;
      };
    }

-- its invariant holds
pub laid_after : (k : KeptLayout) (new : List ℕ) (by bytes gone : ℕ) (ss : List Block) (after : KeptLayout) → IsLaid k → IsMoved k bytes new by → AllReach k.base (lessen k.here bytes gone (footprints_of k.blocks.items)) → IsAfter k new by bytes gone ss after → IsLaid after
laid_after k new by bytes gone ss after l m r a =
    let base = a.base in
    let footprints = laid_footprints k new by bytes gone ss after a in
    let count = laid_length k new by bytes gone ss after a in
    let all : end_from after.base (footprints_of after.blocks.items) ≡ end_from k.base (lessen k.here bytes gone (footprints_of k.blocks.items)) = ap (λ x. end_from x (footprints_of after.blocks.items)) base ∙ ap (end_from k.base) footprints in
    let begins : starts_from after.base (footprints_of after.blocks.items) ≡ starts_from k.base (lessen k.here bytes gone (footprints_of k.blocks.items)) = ap (λ x. starts_from x (footprints_of after.blocks.items)) base ∙ ap (starts_from k.base) footprints in
    record {
      in_code = let c = m.in_code gone in omega arith;
      starts = laid_starts k new by bytes gone ss after m a ∙ sym (m.starts gone) ∙ sym begins;
      border = let w = m.move.within in let b = a.lag.border in let end = end_news k bytes new l in omega arith;
      noted = λ j d e. let r = laid_lies k new by bytes gone ss after m a j d e in let v = r.2 in omega arith;
      alignments = λ j d e.
          let o = laid_at k new by bytes gone ss after j d a e in
          subst (λ g. IsAlignment g (drop j (footprints_of after.blocks.items))) (sym o.alignment) (subst (λ (xs : List Footprint). IsAlignment o.s.alignment (drop j xs)) (sym footprints) (alignment_lessen o.s.alignment k.here bytes gone j (footprints_of k.blocks.items) (l.alignments j o.s o.is)));
      literals = λ i j s d e f h.
          let o = laid_at k new by bytes gone ss after j d a f in
          let was = lessen_at k.here bytes gone (footprints_of k.blocks.items) i s (subst (λ (xs : List Footprint). slice_get xs i ≡ Some s) footprints e) in
          subst (Divides 4) (sym o.alignment) (l.literals i j was.footprint o.s was.is o.is (subst (λ (x : Head). j ≤ literal_last i x) (sym was.head) h));
      reach = subst (λ x. AllReach x (footprints_of after.blocks.items)) (sym base) (subst (AllReach k.base) (sym footprints) r);
      targets = λ i t s aim e f g. let o = laid_at k new by bytes gone ss after i s a e in let w = l.targets i t o.s aim o.is (sym o.head ∙ f) g in omega arith;
      callers = laid_callers k new by bytes gone ss after l a;
      called = λ t i d e c. let o = laid_at k new by bytes gone ss after t d a e in let w = l.called t i o.s o.is (subst (λ xs. Contains xs i) o.callers c) in omega arith;
      loose = λ j d e f. let o = laid_at k new by bytes gone ss after j d a e in subst (λ xs. Contains xs j) (sym a.loose) (l.loose j o.s o.is (subst (λ (h : Head). is_loose sort.Label j h ≡ true) o.head f));
      absolute = λ j d e f. let o = laid_at k new by bytes gone ss after j d a e in subst (λ xs. Contains xs j) (sym a.absolute) (l.absolute j o.s o.is (subst (λ (h : Head). is_loose sort.Address j h ≡ true) o.head f));
      absolute_within = λ j c. let w = l.absolute_within j (subst (λ xs. Contains xs j) a.absolute c) in omega arith;
      slack = λ j at d h e f.
          let o = laid_at k new by bytes gone ss after j d a e in
          let there : slice_get (moved_starts k (news k bytes new) by) j ≡ Some at = subst (λ (xs : List ℕ). slice_get xs j ≡ Some at) (begins ∙ m.starts gone) f in
          subst (λ (x : Head). HasSlack after.slack at x) (sym o.head) (a.slack j at o.s h o.is there);
      loose_within = λ j c. let w = l.loose_within j (subst (λ xs. Contains xs j) a.loose c) in omega arith;
      here = let h = a.here in let w = l.here in omega arith;
      first =
          a.first ∙ l.first ∙ ap total_places (sym (places_lessen k.here bytes gone (footprints_of k.blocks.items)))
          ∙ ap (λ (xs : List Footprint). total_places (take k.here xs)) (sym footprints) ∙ ap (λ n. total_places (take n (footprints_of after.blocks.items))) (sym a.here);
      rooms = subst (AreRooms after.rooms.items) (sym footprints) a.rooms;
      walls = subst (AreWalls after.walls.items) (sym footprints) (walls_lessen after.walls.items k.here bytes gone (footprints_of k.blocks.items) (subst (λ (xs : List ℕ). AreWalls xs (footprints_of k.blocks.items)) (sym a.walls) l.walls));
    }

-- the footprint of a block that is noted anew
pub noted_footprint : (k : KeptLayout) (ss : List Block) (n : ℕ) (s : Block) → map unplaced ss ≡ map unplaced k.blocks.items → slice_get ss n ≡ Some s → slice_get (footprints_of k.blocks.items) n ≡ Some (footprint_of s)
noted_footprint k ss n s e f = ap (λ (xs : List Footprint). slice_get xs n) (sym (footprints_same ss k.blocks.items e)) ∙ footprint_at ss n s f

less_from : (bytes gone : ℕ) (s t : Block) → t ≡ (record s { bytes = s.bytes - bytes; places = s.places - gone }) → HasLess bytes gone s t
less_from bytes gone s t e = record {
  at = ap (λ (x : Block). x.at) e;
  head = ap (λ (x : Block). x.head) e;
  bytes_are = ap (λ (x : Block). x.bytes) e;
  places_are = ap (λ (x : Block). x.places) e;
  callers = ap (λ (x : Block). x.callers.items) e;
  alignment = ap (λ (x : Block). x.alignment) e;
}

-- a layout of which the blocks were noted anew, and one takes fewer bytes
pub record HasShrunk (k l : KeptLayout) (new : List ℕ) (by bytes gone : ℕ) (lag : Lag) (s t : Block) : Type 0 where
  pub fields : l ≡ (record k { blocks = l.blocks })
  pub noted : AreNoted k (news k bytes new) by lag l.blocks.items
  pub is : slice_get l.blocks.items l.here ≡ Some s
  pub less : t ≡ (record s { bytes = s.bytes - bytes; places = s.places - gone })

same_here : (k l : KeptLayout) (new : List ℕ) (by bytes gone : ℕ) (lag : Lag) (s t : Block) → HasShrunk k l new by bytes gone lag s t → l.here ≡ k.here
same_here k l new by bytes gone lag s t h = ap (λ (x : KeptLayout). x.here) h.fields

pub after_shrinking : (k l : KeptLayout) (new : List ℕ) (by bytes gone : ℕ) (lag : Lag) (s t : Block) (after : KeptLayout) → HasShrunk k l new by bytes gone lag s t → after.base ≡ l.base → after.here ≡ l.here → after.first ≡ l.first → after.loose.items ≡ l.loose.items → after.absolute.items ≡ l.absolute.items → AreSlack k (news k bytes new) by after.slack_from after.slack
    → after.lag ≡ lag → IsLagAfter k bytes new by lag → after.blocks.items ≡ slice_set l.blocks.items l.here t → AreRooms after.rooms.items (lessen k.here bytes gone (footprints_of k.blocks.items)) → after.walls.items ≡ l.walls.items → IsAfter k new by bytes gone l.blocks.items after
after_shrinking k l new by bytes gone lag s t after h base here first near absolute slack is_lag lags blocks rooms walls =
    let same : l.here ≡ k.here = same_here k l new by bytes gone lag s t h in
    record {
      base = base ∙ ap (λ (x : KeptLayout). x.base) h.fields;
      here = here ∙ same;
      first = first ∙ ap (λ (x : KeptLayout). x.first) h.fields;
      loose = near ∙ ap (λ (x : KeptLayout). x.loose.items) h.fields;
      absolute = absolute ∙ ap (λ (x : KeptLayout). x.absolute.items) h.fields;
      slack = slack;
      lag = subst (IsLagAfter k bytes new by) (sym is_lag) lags;
      noted = subst (λ x. AreNoted k (news k bytes new) by x l.blocks.items) (sym is_lag) h.noted;
      s = s;
      t = t;
      is = ap (slice_get l.blocks.items) (sym same) ∙ h.is;
      less = less_from bytes gone s t h.less;
      blocks = blocks ∙ ap (λ n. slice_set l.blocks.items n t) same;
      rooms = rooms;
      walls = walls ∙ ap (λ (x : KeptLayout). x.walls.items) h.fields;
    }

pub footprints_after : (k l : KeptLayout) (new : List ℕ) (by bytes gone : ℕ) (lag : Lag) (s t : Block) → HasShrunk k l new by bytes gone lag s t → footprints_of (slice_set l.blocks.items l.here t) ≡ lessen k.here bytes gone (footprints_of k.blocks.items)
footprints_after k l new by bytes gone lag s t h =
    let same : l.here ≡ k.here = same_here k l new by bytes gone lag s t h in
    ap (λ n. footprints_of (slice_set l.blocks.items n t)) same ∙ footprints_less k (news k bytes new) by lag l.blocks.items bytes gone s t h.noted (ap (slice_get l.blocks.items) (sym same) ∙ h.is) (less_from bytes gone s t h.less)
