-- A window of kept places as straight code.
use Rattle.std.proofs.Common.{◌≡◌, ◌≢◌, ℕ, zero, suc, ◌+◌, ◌-◌, ◌<◌, ◌≤◌, ◌&&◌, ◌||◌, not, Bool, true, false, List, [], ◌∷◌, ◌++◌, length, length-append, map, set, Some, refl, sym, ap, ◌∙◌, subst, ◌⊎◌, inl, inr, arith}
use Rattle.std.specs.Prelude.{slice_get}
use Rattle.std.specs.List.{list_all}
use Rattle.std.proofs.lemmas.Bool.{and_from, and_parts, cases_lt, true_from_ne_false}
use Rattle.std.proofs.lemmas.List.{length-set}
use Rattle.std.proofs.lemmas.Option.{same_Some}
use Rattle.thumb_instr.specs.declared.instr.Instr.{Instr}
use Rattle.thumb_instr.specs.Shape.{uses_of, writes_of}
use Rattle.thumb_model.specs.Effect.{one_of}
use Rattle.thumb_model.specs.Listing.{Place, plain, Code}
use Rattle.shrinking_sets.specs.Straight.{nop as still, nops, is_straight, reads_first, writes_in, IsExchange}
use Rattle.kept_places.specs.Marks.{is_gone, rank}
use Rattle.kept_places.proofs.Ranks.{rank_kept, ranks_ascend, ranks_grow}
use Rattle.padded_code.specs.Padding.{nop, IsPadded}
use Rattle.padded_code.specs.Exchange.{places_after, exchanged}
use Rattle.padded_code.specs.Windows.{AreRanked}
use Rattle.padded_code.specs.Spread.{first_of, others_of, spread, last_of}
use Rattle.padded_code.proofs.Kept.{AreNops}
use Rattle.padded_code.proofs.Exchanged.{get_set, get_other, nops_put as still_nops}

-- ---- what is read and written ----

nop_reads : (is : List Instr) (x : ℕ) → reads_first (still ∷ is) x ≡ reads_first is x
nop_reads is x = go (reads_first is x)
  where
    go : (b : Bool) → (b && true) ≡ b
    go true = refl
    go false = refl

nops_read : (n : ℕ) (is : List Instr) (x : ℕ) → reads_first (nops n ++ is) x ≡ reads_first is x
nops_read zero is x = refl
nops_read (suc n) is x = nop_reads (nops n ++ is) x ∙ nops_read n is x

nops_write : (n : ℕ) (is : List Instr) (x : ℕ) → writes_in (nops n ++ is) x ≡ writes_in is x
nops_write zero is x = refl
nops_write (suc n) is x = nops_write n is x

pub spread_reads : (from : ℕ) (ps : List ℕ) (is : List Instr) (x : ℕ) → length is ≤ length ps → reads_first (spread from ps is) x ≡ reads_first is x
spread_reads from [] [] x h = refl
spread_reads from [] (i ∷ is) x h = absurd (omega arith)
spread_reads from (p ∷ ps) [] x h = nops_read (p - from) (still ∷ spread (suc p) ps []) x ∙ nop_reads (spread (suc p) ps []) x ∙ spread_reads (suc p) ps [] x (omega arith)
spread_reads from (p ∷ ps) (i ∷ is) x h =
    nops_read (p - from) (i ∷ spread (suc p) ps is) x ∙ ap (λ b. one_of x (uses_of i) || (b && not (one_of x (writes_of i)))) (spread_reads (suc p) ps is x (omega arith))

pub spread_writes : (from : ℕ) (ps : List ℕ) (is : List Instr) (x : ℕ) → length is ≤ length ps → writes_in (spread from ps is) x ≡ writes_in is x
spread_writes from [] [] x h = refl
spread_writes from [] (i ∷ is) x h = absurd (omega arith)
spread_writes from (p ∷ ps) [] x h = nops_write (p - from) (still ∷ spread (suc p) ps []) x ∙ spread_writes (suc p) ps [] x (omega arith)
spread_writes from (p ∷ ps) (i ∷ is) x h =
    nops_write (p - from) (i ∷ spread (suc p) ps is) x ∙ ap (λ b. one_of x (writes_of i) || b) (spread_writes (suc p) ps is x (omega arith))

pub spreads_read_alike : (from : ℕ) (ps : List ℕ) (is : List Instr) → length is ≤ length ps → (x : ℕ) → (reads_first (spread from ps is) x ≡ reads_first is x) × (writes_in (spread from ps is) x ≡ writes_in is x)
spreads_read_alike from ps is h x = (spread_reads from ps is x h, spread_writes from ps is x h)

-- ---- straightness ----

nops_straight : (n : ℕ) (is : List Instr) → list_all is_straight is ≡ true → list_all is_straight (nops n ++ is) ≡ true
nops_straight zero is h = h
nops_straight (suc n) is h = nops_straight n is h

spread_straight : (from : ℕ) (ps : List ℕ) (is : List Instr) → list_all is_straight is ≡ true → list_all is_straight (spread from ps is) ≡ true
spread_straight from [] is h = refl
spread_straight from (p ∷ ps) [] h = nops_straight (p - from) _ (spread_straight (suc p) ps [] refl)
spread_straight from (p ∷ ps) (i ∷ is) h =
    nops_straight (p - from) _ (and_from (is_straight i) _ (and_parts (is_straight i) _ h).0 (spread_straight (suc p) ps is (and_parts (is_straight i) _ h).1))

-- ---- lengths ----

pub length_nops : (n : ℕ) → length (nops n) ≡ n
length_nops zero = refl
length_nops (suc n) = ap suc (length_nops n)

spread_length : (from p : ℕ) (ps : List ℕ) (is : List Instr) → length (spread from (p ∷ ps) is) ≡ (p - from) + suc (length (spread (suc p) ps (others_of is)))
spread_length from p ps is = length-append (nops (p - from)) (first_of is ∷ spread (suc p) ps (others_of is)) ∙ ap (λ n. n + suc (length (spread (suc p) ps (others_of is)))) (length_nops (p - from))

same_length : (from : ℕ) (ps : List ℕ) (is js : List Instr) → length (spread from ps is) ≡ length (spread from ps js)
same_length from [] is js = refl
same_length from (p ∷ ps) is js = spread_length from p ps is ∙ ap (λ n. (p - from) + suc n) (same_length (suc p) ps (others_of is) (others_of js)) ∙ sym (spread_length from p ps js)

-- a kept place of a rank stands from each place of that rank on
not_before : (gone : List Bool) (from p : ℕ) → is_gone gone p ≡ false → rank gone from ≡ rank gone p → from ≤ p
not_before gone from p k e = elim (cases_lt p from) [ inl l ↦ absurd (let a = ranks_ascend gone p from k l in omega arith) | inr l ↦ l ]

-- and all between are gone
gone_between : (gone : List Bool) (from p k : ℕ) → rank gone from ≡ rank gone p → from ≤ k → k < p → is_gone gone k ≡ true
gone_between gone from p k e l h = true_from_ne_false (is_gone gone k) (λ t. let a = ranks_ascend gone k p t h in let b = ranks_grow gone from k l in omega arith)

spread_end : (gone : List Bool) (from r p : ℕ) (ps : List ℕ) (is : List Instr) → rank gone from ≡ r → AreRanked gone r (p ∷ ps) → from + length (spread from (p ∷ ps) is) ≡ suc (last_of p ps)
spread_end gone from r p [] is e a =
    let n = not_before gone from p a.1 (e ∙ sym a.2) in
    let l = spread_length from p [] is in
    omega arith
spread_end gone from r p (q ∷ ps) is e a =
    let n = not_before gone from p a.1 (e ∙ sym a.2) in
    let l = spread_length from p (q ∷ ps) is in
    let rest = spread_end gone (suc p) (suc r) q ps (others_of is) (rank_kept gone p a.1 ∙ ap suc a.2) a.3 in
    omega arith

pub spreads_end : (gone : List Bool) (r p : ℕ) (ps : List ℕ) (is : List Instr) → AreRanked gone r (p ∷ ps) → p + length (spread p (p ∷ ps) is) ≡ suc (last_of p ps)
spreads_end gone r p ps is a = spread_end gone p r p ps is a.2 a

-- ---- other places ----

-- none of the places is q
abbrev IsNone : ℕ → List ℕ → Type 0
IsNone q [] = Unit {0}
IsNone q (p ∷ ps) = (q ≢ p) × IsNone q ps

unchanged : (ps : List ℕ) (is : List Instr) (places : List Place) (q : ℕ) → IsNone q ps → slice_get (places_after ps is places) q ≡ slice_get places q
unchanged [] is places q n = refl
unchanged (p ∷ ps) [] places q n = unchanged ps [] (set places p nop) q n.1 ∙ get_other places p q nop n.0
unchanged (p ∷ ps) (i ∷ is) places q n = unchanged ps is (set places p (plain i)) q n.1 ∙ get_other places p q (plain i) n.0

gone_is_none : (gone : List Bool) (r q : ℕ) (ps : List ℕ) → AreRanked gone r ps → is_gone gone q ≡ true → IsNone q ps
gone_is_none gone r q [] a t = tt
gone_is_none gone r q (p ∷ ps) a t = (λ e. absurd (let f : is_gone gone q ≡ false = ap (is_gone gone) e ∙ a.1 in cc), gone_is_none gone (suc r) q ps a.3 t)

lesser_is_none : (gone : List Bool) (r q : ℕ) (ps : List ℕ) → AreRanked gone r ps → rank gone q < r → IsNone q ps
lesser_is_none gone r q [] a h = tt
lesser_is_none gone r q (p ∷ ps) a h = (λ e. (let f : rank gone q ≡ rank gone p = ap (rank gone) e in let g = a.2 in absurd (omega arith)), lesser_is_none gone (suc r) q ps a.3 (omega arith))

outer_is_none : (gone : List Bool) (from r q : ℕ) (ps : List ℕ) (is : List Instr) → rank gone from ≡ r → AreRanked gone r ps → (q < from) ⊎ (from + length (spread from ps is) ≤ q) → IsNone q ps
outer_is_none gone from r q [] is e a o = tt
outer_is_none gone from r q (p ∷ ps) is e a o =
    let n = not_before gone from p a.1 (e ∙ sym a.2) in
    let l = spread_length from p ps is in (
      λ s. elim o [ inl h ↦ absurd (omega arith) | inr h ↦ absurd (omega arith) ],
      outer_is_none gone (suc p) (suc r) q ps (others_of is) (rank_kept gone p a.1 ∙ ap suc a.2) a.3 (elim o [ inl h ↦ inl (omega arith) | inr h ↦ inr (omega arith) ]),
    )

-- ---- what stands ----

-- these instructions stand from a place on
abbrev StandPlain : List Place → ℕ → List Instr → Type 0
StandPlain places w is = (j : ℕ) (i : Instr) → slice_get is j ≡ Some i → slice_get places (w + j) ≡ Some (plain i)

stand_more : (places : List Place) (w : ℕ) (i : Instr) (is : List Instr) → slice_get places w ≡ Some (plain i) → StandPlain places (suc w) is → StandPlain places w (i ∷ is)
stand_more places w i is h s zero k e = ap (slice_get places) (let f : w + 0 ≡ w = omega arith in f) ∙ h ∙ ap (λ z. Some (plain z)) (same_Some i k e)
stand_more places w i is h s (suc j) k e = ap (slice_get places) (let f : w + suc j ≡ suc w + j = omega arith in f) ∙ s j k e

stand_behind : (places : List Place) (w n : ℕ) (is : List Instr) → ((k : ℕ) → w ≤ k → k < w + n → slice_get places k ≡ Some nop) → StandPlain places (w + n) is → StandPlain places w (nops n ++ is)
stand_behind places w zero is h s j k e = ap (λ m. slice_get places (m + j)) (let f : w ≡ w + 0 = omega arith in f) ∙ s j k e
stand_behind places w (suc n) is h s j k e =
    stand_more places w still (nops n ++ is) (h w (omega arith) (omega arith))
    (stand_behind places (suc w) n is (λ m a b. h m (omega arith) (omega arith)) (λ m y f. ap (λ v. slice_get places (v + m)) (let g : suc w + n ≡ w + suc n = omega arith in g) ∙ s m y f)) j k e

-- where the instruction at p and those behind it stand, so do all from a place of its rank on
stand_from : (gone : List Bool) (places : List Place) (from p : ℕ) (i : Instr) (is : List Instr) → ((k : ℕ) → from ≤ k → k < p → slice_get places k ≡ Some nop) → from ≤ p →
    slice_get places p ≡ Some (plain i) → StandPlain places (suc p) is → StandPlain places from (nops (p - from) ++ (i ∷ is))
stand_from gone places from p i is n l h s =
    let e : p ≡ from + (p - from) = omega arith in
    stand_behind places from (p - from) (i ∷ is) (λ k a b. n k a (omega arith)) (subst (λ k. StandPlain places k (i ∷ is)) e (stand_more places p i is h s))

-- the window as it stands
head_of : (places : List Place) (p : ℕ) (ps : List ℕ) (i : Instr) (is : List Instr) → map (slice_get places) (p ∷ ps) ≡ map Some (map plain (i ∷ is)) → (slice_get places p ≡ Some (plain i)) × (map (slice_get places) ps ≡ map Some (map plain is))
head_of places p ps i is e = (cc, cc)

stood : (gone : List Bool) (places : List Place) (from r : ℕ) (ps : List ℕ) (window : List Instr) → AreNops gone places → rank gone from ≡ r → AreRanked gone r ps → map (slice_get places) ps ≡ map Some (map plain window) → StandPlain places from (spread from ps window)
stood gone places from r [] window n e a h = λ j k f. absurd (cc)
stood gone places from r (p ∷ ps) [] n e a h = absurd (cc)
stood gone places from r (p ∷ ps) (i ∷ is) n e a h =
    let at = head_of places p ps i is h in
    let s : rank gone from ≡ rank gone p = e ∙ sym a.2 in
    stand_from gone places from p i (spread (suc p) ps is) (λ k x y. n k (gone_between gone from p k s x y)) (not_before gone from p a.1 s) at.0
    (stood gone places (suc p) (suc r) ps is n (rank_kept gone p a.1 ∙ ap suc a.2) a.3 at.1)

-- an instruction was put at p, and those behind it stand
stands_one : (gone : List Bool) (places : List Place) (from r p : ℕ) (i : Instr) (ps : List ℕ) (is : List Instr) → length gone ≡ length places → AreNops gone places → rank gone from ≡ r → AreRanked gone r (p ∷ ps) →
    StandPlain (places_after ps is (set places p (plain i))) (suc p) (spread (suc p) ps is) → StandPlain (places_after ps is (set places p (plain i))) from (nops (p - from) ++ (i ∷ spread (suc p) ps is))
stands_one gone places from r p i ps is m n e a rest =
    let s : rank gone from ≡ rank gone p = e ∙ sym a.2 in
    let put : AreNops gone (set places p (plain i)) = still_nops gone places p (plain i) a.1 n in
    stand_from gone (places_after ps is (set places p (plain i))) from p i (spread (suc p) ps is)
    (λ k x y. let t = gone_between gone from p k s x y in unchanged ps is (set places p (plain i)) k (gone_is_none gone (suc r) k ps a.3 t) ∙ put k t)
    (not_before gone from p a.1 s)
    (unchanged ps is (set places p (plain i)) p (lesser_is_none gone (suc r) p ps a.3 (omega (arith, a.2))) ∙ get_set places p (plain i) (omega (arith, a.0, m)))
    rest

-- and as it stands afterwards
stands : (gone : List Bool) (places : List Place) (from r : ℕ) (ps : List ℕ) (is : List Instr) → length gone ≡ length places → AreNops gone places → rank gone from ≡ r → AreRanked gone r ps → StandPlain (places_after ps is places) from (spread from ps is)
stands gone places from r [] is m n e a = λ j k f. absurd (cc)
stands gone places from r (p ∷ ps) [] m n e a =
    stands_one gone places from r p still ps [] m n e a
    (stands gone (set places p nop) (suc p) (suc r) ps [] (m ∙ sym (length-set places p nop)) (still_nops gone places p nop a.1 n) (rank_kept gone p a.1 ∙ ap suc a.2) a.3)
stands gone places from r (p ∷ ps) (i ∷ is) m n e a =
    stands_one gone places from r p i ps is m n e a
    (stands gone (set places p (plain i)) (suc p) (suc r) ps is (m ∙ sym (length-set places p (plain i))) (still_nops gone places p (plain i) a.1 n) (rank_kept gone p a.1 ∙ ap suc a.2) a.3)

pub length_after : (ps : List ℕ) (is : List Instr) (places : List Place) → length (places_after ps is places) ≡ length places
length_after [] is places = refl
length_after (p ∷ ps) [] places = length_after ps [] (set places p nop) ∙ length-set places p nop
length_after (p ∷ ps) (i ∷ is) places = length_after ps is (set places p (plain i)) ∙ length-set places p (plain i)

pub exchange_is_straight : (gone : List Bool) (padded code : Code) → IsPadded gone padded code → length gone ≡ length padded.places → (r p : ℕ) (ps : List ℕ) (window is : List Instr) → AreRanked gone r (p ∷ ps) →
    map (slice_get padded.places) (p ∷ ps) ≡ map Some (map plain window) → length is ≤ length (p ∷ ps) → list_all is_straight window ≡ true → list_all is_straight is ≡ true →
    IsExchange padded (exchanged (p ∷ ps) is padded) p (spread p (p ∷ ps) window) (spread p (p ∷ ps) is)
exchange_is_straight gone padded code s m r p ps window is a h few v w = record {
  labels = refl;
  places = length_after (p ∷ ps) is padded.places;
  as_many = same_length p (p ∷ ps) is window;
  elsewhere = λ q o. unchanged (p ∷ ps) is padded.places q (outer_is_none gone p r q (p ∷ ps) window a.2 a o);
  stood = λ j i e. (_, stood gone padded.places p r (p ∷ ps) window s.nops a.2 a h j i e);
  stand = λ j i e. (_, stands gone padded.places p r (p ∷ ps) is m s.nops a.2 a j i e);
  old_straight = spread_straight p (p ∷ ps) window v;
  new_straight = spread_straight p (p ∷ ps) is w;
}
