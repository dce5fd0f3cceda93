-- Ways, code points and straight code of a listing in which a window gave way.
use Rattle.std.proofs.Common.{◌≡◌, ◌≢◌, ℕ, zero, suc, ◌+◌, ◌-◌, ◌<◌, ◌≤◌, ◌==◌, ◌||◌, Bool, true, false, List, [], ◌∷◌, ◌++◌, length, take, drop, map, Option, Some, None, refl, sym, ap, ◌∙◌, subst, ◌⊎◌, inl, inr, arith, if◌then◌else◌, eq-eqb, ne_eqb}
use Rattle.std.specs.Prelude.{slice_get}
use Rattle.std.specs.Option.{option_map}
use Rattle.std.specs.List.{list_all}
use Rattle.std.proofs.lemmas.Bool.{cases_eq, or_right}
use Rattle.std.proofs.lemmas.Option.{same_Some, slice_get_within}
use Rattle.thumb_instr.specs.declared.instr.Instr.{Instr}
use Rattle.thumb_instr.specs.Window.{is_in_window}
use Rattle.thumb_model.specs.Effect.{one_of}
use Rattle.thumb_model.specs.Listing.{Mention, Place, Op, Word, plain, Label, Code, is_op_place, is_code, is_call, label_places, return_places, IsPoint}
use Rattle.thumb_model.specs.Naming.{Naming, points_of, returns_from, points}
use Rattle.thumb_model.specs.Steps.{aim_of}
use Rattle.thumb_model.specs.Flow.{Way, Leads, Onward, ToPlace, AnyPoint, Out, ways_of, ways_on, ways, Follows}
use Rattle.thumb_model.specs.Replaced.{moved, replaced}
use Rattle.thumb_model.proofs.Lists.{get_drop, get_take, length_map, take_short, length_drop}
use Rattle.thumb_model.proofs.Moved.{IsReplacement, IsOutside, AreNoCalls, fetch_window, fetch_outside, place_moved, points_moved, return_outside, one_of_append}
use Rattle.thumb_model.proofs.Points.{IsLabelsPlace, label_of_name, label_of_place}
use Rattle.shrinking_sets.proofs.Enters.{IsAimed, are_aimed, aimed_at}
use Rattle.shrinking_sets.proofs.Exchange.{Runs}
use Rattle.padded_code.proofs.Padded.{lead_to, way_to, ways_of_to}
use Rattle.liveness.specs.Kept.{KeepsAt}
use Rattle.listing_parser.proofs.ReplaceLemmas.{and_first as and_left}
use Rattle.listing_parser.proofs.ReadingLemmas.{and_second as and_right}
use Rattle.common_lemmas.proofs.Lists.{get_map}
use Rattle.rule_model.proofs.Table.{one_way, no_call}

-- ---- lists ----

-- the element at a place, and those from it on
pub drop_at : {A : Type 0} (xs : List A) (k : ℕ) → k < length xs → (x : A) × (slice_get xs k ≡ Some x) × (drop k xs ≡ x ∷ drop (k + 1) xs)
drop_at [] k h = absurd (omega arith)
drop_at (x ∷ xs) zero h = (x, refl, refl)
drop_at (x ∷ xs) (suc k) h =
    let r = drop_at xs k (omega arith) in
    (r.0, r.1, r.2 ∙ ap (λ n. r.0 ∷ drop n (x ∷ xs)) (let e : suc (k + 1) ≡ suc k + 1 = omega arith in e))

pub drop_whole : {A : Type 0} (xs : List A) (k : ℕ) → k ≡ length xs → drop k xs ≡ []
drop_whole [] zero e = refl
drop_whole [] (suc k) e = refl
drop_whole (x ∷ xs) zero e = absurd (omega arith)
drop_whole (x ∷ xs) (suc k) e = drop_whole xs k (omega arith)

-- ---- straight code ----

pub in_window_at : (is : List Instr) (j : ℕ) (i : Instr) → list_all is_in_window is ≡ true → slice_get is j ≡ Some i → is_in_window i ≡ true
in_window_at [] j i h e = absurd (cc)
in_window_at (k ∷ is) zero i h e = ap is_in_window (sym (same_Some k i e)) ∙ and_left _ _ h
in_window_at (k ∷ is) (suc j) i h e = in_window_at is j i (and_right (is_in_window k) _ h) e

pub runs_from : (code : Code) (q : ℕ) (is : List Instr) → list_all is_in_window is ≡ true → ((j : ℕ) (i : Instr) → slice_get is j ≡ Some i → slice_get code.places (q + j) ≡ Some (plain i)) → Runs code q is
runs_from code q [] h s = tt
runs_from code q (i ∷ is) h s = (
  ap (ways_on code) (ap (slice_get code.places) (let e : q ≡ q + 0 = omega arith in e) ∙ s 0 i refl) ∙ one_way None i (and_left (is_in_window i) _ h),
  runs_from code (q + 1) is (and_right (is_in_window i) _ h) (λ j k e. ap (slice_get code.places) (let e : q + 1 + j ≡ q + suc j = omega arith in e) ∙ s (suc j) k e),
)

no_calls : (is : List Instr) → list_all is_in_window is ≡ true → AreNoCalls (map plain is)
no_calls [] h = tt
no_calls (i ∷ is) h = (no_call i (and_left _ _ h), no_calls is (and_right (is_in_window i) _ h))

-- ---- where a window gives way ----

module _ (code : Code) (p : ℕ) (window new : List Instr) (at : KeepsAt code p window new) where
  -- the places of the window
  pub stands_at : (j : ℕ) (i : Instr) → slice_get window j ≡ Some i → slice_get code.places (p + j) ≡ Some (plain i)
  stands_at j i e =
      let l = slice_get_within window j i e in
      sym (get_drop p code.places j (p + j) refl) ∙ sym (get_take (length window) (drop p code.places) j l) ∙ ap (λ xs. slice_get xs j) at.stands ∙ get_map plain window j i e

  pub is_within : p + length window ≤ length code.places
  is_within =
      let s = at.shorter in
      let n : length (take (length window) (drop p code.places)) ≡ length window = ap length at.stands ∙ length_map plain window in
      let t = take_short (length window) (drop p code.places) in
      let d = length_drop p code.places in
      omega arith

  pub fits_in : IsReplacement code p (length window) new
  fits_in = record {
    within = is_within;
    some = let s = at.shorter in omega arith;
    no_longer = let s = at.shorter in omega arith;
    first = first_is (drop_at window 0 (let s = at.shorter in omega arith));
    no_call = subst AreNoCalls (sym at.stands) (no_calls window at.in_window);
    no_new_call = no_calls new at.new_in_window;
    unlabelled = at.unlabelled;
    labels_stay = at.labels_stay;
  }
    where
      first_is : (i : Instr) × (slice_get window 0 ≡ Some i) × (drop 0 window ≡ i ∷ drop (0 + 1) window) → is_op_place (slice_get code.places p) ≡ true
      first_is f = ap is_op_place (ap (slice_get code.places) (let e : p ≡ p + 0 = omega arith in e) ∙ stands_at 0 f.0 f.1)

  abbrev new_code : Code
  new_code = replaced code p (length window) new

  abbrev to : ℕ → ℕ
  to = moved p (length window - length new)

  pub window_runs : Runs code p window
  window_runs = runs_from code p window at.in_window stands_at

  pub new_runs : Runs new_code p new
  new_runs = runs_from new_code p new at.new_in_window (λ j i e. fetch_window code p (length window) new fits_in j (slice_get_within new j i e) ∙ get_map plain new j i e)

  -- apart from the window
  abbrev pub IsApart : ℕ → Type 0
  IsApart q = (q < p) ⊎ (p + length window ≤ q)

  aim_moved : (mention : Option Mention) → aim_of new_code mention ≡ option_map to (aim_of code mention)
  aim_moved None = refl
  aim_moved (Some m) = place_moved code p (length window) new fits_in m.name

  on_moved : (o : Option Place) → ways_on new_code o ≡ map (way_to to) (ways_on code o)
  on_moved None = refl
  on_moved (Some (Word v)) = refl
  on_moved (Some (Op i mention)) = ap (λ (a : Option ℕ). ways_of a i) (aim_moved mention) ∙ ways_of_to to (aim_of code mention) i

  -- the ways of a place apart from it
  pub ways_moved : (q : ℕ) → IsApart q → ways new_code (to q) ≡ map (way_to to) (ways code q)
  ways_moved q a = ap (ways_on new_code) (fetch_outside code p (length window) new fits_in q (wide a) (ne a)) ∙ on_moved (slice_get code.places q)
    where
      wide : IsApart q → IsOutside p (length window) q
      wide (inl h) = inl (omega arith)
      wide (inr h) = inr h

      ne : IsApart q → q ≢ p
      ne (inl h) = λ e. omega arith
      ne (inr h) = λ e. let s = at.shorter in omega arith

  -- ---- code points ----

  abbrev names₀ : Naming
  names₀ = record { word_of = λ n. 0; return_word = λ k. 0; low = 0; high = 0 }

  abbrev seconds : List (ℕ × ℕ) → List ℕ
  seconds [] = []
  seconds (a ∷ ps) = a.1 ∷ seconds ps

  labels_are : (places : List Place) (ls : List Label) → label_places places ls ≡ seconds (points_of names₀ places ls)
  labels_are places [] = refl
  labels_are places (l ∷ ls) = pick (is_code places l) _ _ (labels_are places ls)
    where
      pick : (b : Bool) (xs : List ℕ) (ys : List (ℕ × ℕ)) → xs ≡ seconds ys → (if b then l.place ∷ xs else xs) ≡ seconds (if b then (0, l.place) ∷ ys else ys)
      pick true xs ys h = ap (λ zs. l.place ∷ zs) h
      pick false xs ys h = h

  returns_are : (k q : ℕ) (xs : List Place) → return_places q xs ≡ seconds (returns_from names₀ k q xs)
  returns_are k q [] = refl
  returns_are k q (x ∷ xs) = pick (is_call x) _ _ _ (returns_are (k + 1) (q + 1) xs) (returns_are k (q + 1) xs)
    where
      pick : (b : Bool) (zs : List ℕ) (us vs : List (ℕ × ℕ)) → zs ≡ seconds us → zs ≡ seconds vs → (if b then (q + 1) ∷ zs else zs) ≡ seconds (if b then (0, q + 1) ∷ us else vs)
      pick true zs us vs h g = ap (λ zs. (q + 1) ∷ zs) h
      pick false zs us vs h g = g

  seconds_both : (xs ys : List (ℕ × ℕ)) → seconds (xs ++ ys) ≡ seconds xs ++ seconds ys
  seconds_both [] ys = refl
  seconds_both (x ∷ xs) ys = ap (λ l. x.1 ∷ l) (seconds_both xs ys)

  points_are : (c : Code) → label_places c.places c.labels ++ return_places 0 c.places ≡ seconds (points names₀ c)
  points_are c =
      ap (λ l. l ++ return_places 0 c.places) (labels_are c.places c.labels)
      ∙ ap (λ l. seconds (points_of names₀ c.places c.labels) ++ l) (returns_are 0 0 c.places)
      ∙ sym (seconds_both (points_of names₀ c.places c.labels) (returns_from names₀ 0 0 c.places))

  one_moved : (f : ℕ → ℕ) (q : ℕ) (ps : List (ℕ × ℕ)) → one_of q (seconds ps) ≡ true → one_of (f q) (seconds (map (λ (a : ℕ × ℕ). (a.0, f a.1)) ps)) ≡ true
  one_moved f q [] h = absurd (cc)
  one_moved f q (a ∷ ps) h =
      elim (cases_eq q a.1) [
        | inl e ↦ ap (λ b. b || one_of (f q) (seconds (map (λ (a : ℕ × ℕ). (a.0, f a.1)) ps))) (eq-eqb (f q) (f a.1) (ap f e))
        | inr d ↦ or_right (f q == f a.1) _ (one_moved f q ps (sym (ap (λ b. b || one_of q (seconds ps)) (ne_eqb q a.1 d)) ∙ h))
      ]

  one_back : (f : ℕ → ℕ) (r : ℕ) (ps : List (ℕ × ℕ)) → one_of r (seconds (map (λ (a : ℕ × ℕ). (a.0, f a.1)) ps)) ≡ true → (q : ℕ) × (one_of q (seconds ps) ≡ true) × (r ≡ f q)
  one_back f r [] h = absurd (cc)
  one_back f r (a ∷ ps) h =
      elim (cases_eq r (f a.1)) [
        | inl e ↦ (a.1, ap (λ b. b || one_of a.1 (seconds ps)) (eq-eqb a.1 a.1 refl), e)
        | inr d ↦
            let t = one_back f r ps (sym (ap (λ b. b || one_of r (seconds (map (λ (a : ℕ × ℕ). (a.0, f a.1)) ps))) (ne_eqb r (f a.1) d)) ∙ h) in
            (t.0, or_right (t.0 == a.1) _ t.1, t.2)
      ]

  points_same : seconds (points names₀ new_code) ≡ seconds (map (λ (a : ℕ × ℕ). (a.0, to a.1)) (points names₀ code))
  points_same = ap seconds (points_moved code p (length window) new fits_in names₀)

  point_moved : (q : ℕ) → IsPoint code q → IsPoint new_code (to q)
  point_moved q h = ap (one_of (to q)) (points_are new_code ∙ points_same) ∙ one_moved to q (points names₀ code) (sym (ap (one_of q) (points_are code)) ∙ h)

  point_back : (r : ℕ) → IsPoint new_code r → (q : ℕ) × IsPoint code q × (r ≡ to q)
  point_back r h =
      let t = one_back to r (points names₀ code) (sym (ap (one_of r) (points_are new_code ∙ points_same)) ∙ h) in
      (t.0, ap (one_of t.0) (points_are code) ∙ t.1, t.2)

  -- ---- where ways lead ----

  pub outside_label : (q : ℕ) → IsLabelsPlace code.labels q → IsOutside p (length window) q
  outside_label q f = subst (IsOutside p (length window)) (sym f.3) (at.unlabelled f.0 f.1 f.2)

  pub outside_point : (q : ℕ) → IsPoint code q → IsOutside p (length window) q
  outside_point q h =
      elim (one_of_append q (label_places code.places code.labels) (return_places 0 code.places) h) [
        | inl l ↦ outside_label q (label_of_place code.places code.labels q l)
        | inr r ↦ return_outside code p (length window) new fits_in q r
      ]

  outside_next : (q : ℕ) → IsApart q → IsOutside p (length window) (q + 1)
  outside_next q (inl h) = inl (omega arith)
  outside_next q (inr h) = inr (omega arith)

  -- P holds where a way of a place leads, if it does of the next place, of labels' places and of code points
  pub lands : (P : ℕ → Type 0) (q : ℕ) → P (q + 1) → ((s : ℕ) → IsLabelsPlace code.labels s → P s) → ((s : ℕ) → IsPoint code s → P s) → (k : ℕ) (w : Way) (s : ℕ) → slice_get (ways code q) k ≡ Some w → Follows code q w.leads s → P s
  lands P q next label point k w s e f = on (slice_get code.places q) e
    where
      aim : (mention : Option Mention) (r : ℕ) → aim_of code mention ≡ Some r → P r
      aim None r e = absurd (cc)
      aim (Some m) r e = label r (label_of_name m.name code.places code.labels r e)

      go : (mention : Option Mention) (l : Leads) → IsAimed (aim_of code mention) l → Follows code q l s → P s
      go mention Onward b g = subst P (sym g) next
      go mention (ToPlace t) b g = subst P (sym g) (aim mention t b)
      go mention AnyPoint b g = point s g
      go mention Out b g = absurd g

      on : (o : Option Place) → slice_get (ways_on code o) k ≡ Some w → P s
      on None e = absurd (cc)
      on (Some (Word v)) e = absurd (cc)
      on (Some (Op i mention)) e = go mention w.leads (aimed_at (aim_of code mention) (ways_of (aim_of code mention) i) k w (are_aimed (aim_of code mention) i) e) f

  pub follows_outside : (q : ℕ) → IsApart q → (k : ℕ) (w : Way) (s : ℕ) → slice_get (ways code q) k ≡ Some w → Follows code q w.leads s → IsOutside p (length window) s
  follows_outside q a = lands (IsOutside p (length window)) q (outside_next q a) outside_label outside_point

  next_moved : (q : ℕ) → IsApart q → to (q + 1) ≡ to q + 1
  next_moved q (inl h) = omega arith
  next_moved q (inr h) = let s = at.shorter in omega arith

  pub follows_moved : (q : ℕ) → IsApart q → (l : Leads) (s : ℕ) → Follows code q l s → Follows new_code (to q) (lead_to to l) (to s)
  follows_moved q a Onward s f = ap to f ∙ next_moved q a
  follows_moved q a (ToPlace t) s f = ap to f
  follows_moved q a AnyPoint s f = point_moved s f
  follows_moved q a Out s f = absurd f

  pub follows_back : (q : ℕ) → IsApart q → (l : Leads) (r : ℕ) → Follows new_code (to q) (lead_to to l) r → (s : ℕ) × Follows code q l s × (r ≡ to s)
  follows_back q a Onward r f = (q + 1, refl, f ∙ sym (next_moved q a))
  follows_back q a (ToPlace t) r f = (t, refl, f)
  follows_back q a AnyPoint r f = point_back r f
  follows_back q a Out r f = absurd f
