-- The listing without an instruction whose only way, if it is reached, leads to the next place: its places, labels, points and ways.
use Rattle.std.proofs.Common.{◌≡◌, ◌≢◌, ℕ, ◌+◌, ◌-◌, ◌<◌, ◌≤◌, true, false, List, [], ◌∷◌, ◌++◌, length, take, drop, map, Option, Some, None, refl, sym, ap, ◌∙◌, subst, inl, inr, arith}
use Rattle.std.specs.Prelude.{slice_get}
use Rattle.std.specs.Option.{option_map}
use Rattle.std.proofs.lemmas.Bool.{cases_lt, cases_eq}
use Rattle.std.proofs.lemmas.Option.{same_Some, slice_get_within}
use Rattle.thumb_instr.specs.declared.instr.Instr.{Instr}
use Rattle.thumb_model.specs.Effect.{one_of}
use Rattle.thumb_model.specs.Listing.{Mention, Place, Op, Word, Label, Code, is_op_place, is_code, is_call, is_call_instr, label_places, return_places, IsPoint}
use Rattle.thumb_model.specs.Steps.{aim_of}
use Rattle.thumb_model.specs.Flow.{Way, Leads, Onward, ToPlace, AnyPoint, Out, ways_of, ways_on, ways, Follows, Reached, point, along}
use Rattle.thumb_model.specs.Replaced.{moved, move_label, replaced}
use Rattle.thumb_model.proofs.Lists.{get_drop, get_take, get_back, take_all}
use Rattle.thumb_model.proofs.Moved.{AreNoCalls, IsReplacement, IsOutside, fetch_outside, points_moved, place_moved}
use Rattle.padded_code.proofs.Padded.{lead_to, way_to, ways_of_to, way_back, way_forth}
use Rattle.flow_tidy.proofs.Ways.{points_to}
use Rattle.common_lemmas.proofs.Lists.{get_front}
use Rattle.thumb_model.proofs.Shared.{one_of_map, one_of_unmap}

-- an instruction that is no call, at whose place no code label stands unless an instruction follows, and which leads to the next place alone, if it is reached
pub record MayGo (code : Code) (p : ℕ) : Type 0 where
  pub i : Instr
  pub mention : Option Mention
  pub stands : slice_get code.places p ≡ Some (Op i mention)
  pub no_call : is_call_instr i ≡ false
  pub labelled : (k : ℕ) (l : Label) → slice_get code.labels k ≡ Some l → l.place ≡ p → is_op_place (slice_get code.places (p + 1)) ≡ true
  pub passes : Reached code p → (k : ℕ) (w : Way) (q : ℕ) → slice_get (ways code p) k ≡ Some w → Follows code p w.leads q → q ≡ p + 1
  pub next : Reached code p → Reached code (p + 1)

module _ (code : Code) (p : ℕ) where
  abbrev pub new : Code
  new = replaced code p 1 []

  abbrev pub to : ℕ → ℕ
  to = moved p 1

  -- ---- it is a replacement by nothing ----

  module _ (m : MayGo code p) where
    within : p < length code.places
    within = slice_get_within code.places p (Op m.i m.mention) m.stands

    front_length : length (take p code.places) ≡ p
    front_length = let l = within in take_all p code.places (omega arith)

    before : (q : ℕ) → q < p → slice_get new.places q ≡ slice_get code.places q
    before q h = let n = front_length in get_front (take p code.places) (drop (p + 1) code.places) q (omega arith) ∙ get_take p code.places q h

    behind : (q : ℕ) → p ≤ q → slice_get new.places q ≡ slice_get code.places (q + 1)
    behind q h = let n = front_length in get_back (take p code.places) (drop (p + 1) code.places) (q - p) q (omega arith) ∙ get_drop (p + 1) code.places (q - p) (q + 1) (omega arith)

    stays_code : (k : ℕ) (l : Label) → slice_get code.labels k ≡ Some l → is_code code.places l ≡ true → is_code new.places (move_label p 1 l) ≡ true
    stays_code k l e h =
        elim (cases_eq l.place p) [
          | inl same ↦ ap (λ q. is_op_place (slice_get new.places q)) (let f : to l.place ≡ p = omega arith in f) ∙ ap is_op_place (behind p (omega arith)) ∙ m.labelled k l e same
          | inr ne ↦ elim (cases_lt l.place p) [
            | inl lt ↦ ap (λ q. is_op_place (slice_get new.places q)) (let f : to l.place ≡ l.place = omega arith in f) ∙ ap is_op_place (before l.place lt) ∙ h
            | inr ge ↦ ap (λ q. is_op_place (slice_get new.places q)) (let f : to l.place ≡ l.place - 1 = omega arith in f) ∙ ap is_op_place (behind (l.place - 1) (omega arith)) ∙ ap (λ q. is_op_place (slice_get code.places q)) (let f : l.place - 1 + 1 ≡ l.place = omega arith in f) ∙ h
          ]
        ]

    no_calls_at : (o : List Place) → slice_get o 0 ≡ Some (Op m.i m.mention) → AreNoCalls (take 1 o)
    no_calls_at [] e = absurd (cc)
    no_calls_at (x ∷ xs) e = (ap is_call (same_Some x (Op m.i m.mention) e) ∙ m.no_call, tt)

    pub all_outside : (q : ℕ) → IsOutside p 1 q
    all_outside q = elim (cases_lt p q) [ inl h ↦ inr (omega arith) | inr h ↦ inl h ]

    pub is_replacement : IsReplacement code p 1 []
    is_replacement =
        let l = within in
        record {
          within = omega arith;
          some = omega arith;
          no_longer = omega arith;
          first = ap is_op_place m.stands;
          no_call = no_calls_at (drop p code.places) (get_drop p code.places 0 p (omega arith) ∙ m.stands);
          no_new_call = tt;
          unlabelled = λ k l e. all_outside l.place;
          labels_stay = stays_code;
        }

    pub fetch : (q : ℕ) → q ≢ p → slice_get new.places (to q) ≡ slice_get code.places q
    fetch q ne = fetch_outside code p 1 [] is_replacement q (all_outside q) ne

    -- ---- places that move ----

    pub next_place : (q : ℕ) → q ≢ p → to q + 1 ≡ to (q + 1)
    next_place q ne = omega arith

    pub same_next : to (p + 1) ≡ to p
    same_next = omega arith

    -- each place of the new listing is one of the old
    pub origin : (r : ℕ) → (q : ℕ) × (q ≢ p) × (to q ≡ r)
    origin r = elim (cases_lt r p) [
      | inl h ↦ (r, (λ e. absurd (omega arith)), omega arith)
      | inr h ↦ (r + 1, (λ e. absurd (omega arith)), omega arith)
    ]

    -- ---- points and ways ----

    all_points : label_places new.places new.labels ++ return_places 0 new.places ≡ map to (label_places code.places code.labels ++ return_places 0 code.places)
    all_points = points_to code new to (λ names. points_moved code p 1 [] is_replacement names)

    pub point_forth : (q : ℕ) → IsPoint code q → IsPoint new (to q)
    point_forth q h = ap (one_of (to q)) all_points ∙ one_of_map to q _ h

    point_back : (r : ℕ) → IsPoint new r → (q : ℕ) × IsPoint code q × (to q ≡ r)
    point_back r h = one_of_unmap to r _ (ap (one_of r) (sym all_points) ∙ h)

    pub aim_moved : (mention : Option Mention) → aim_of new mention ≡ option_map to (aim_of code mention)
    aim_moved None = refl
    aim_moved (Some n) = place_moved code p 1 [] is_replacement n.name

    ways_on_moved : (o : Option Place) → ways_on new o ≡ map (way_to to) (ways_on code o)
    ways_on_moved None = refl
    ways_on_moved (Some (Word v)) = refl
    ways_on_moved (Some (Op i mention)) = ap (λ a. ways_of a i) (aim_moved mention) ∙ ways_of_to to (aim_of code mention) i

    ways_moved : (q : ℕ) → q ≢ p → ways new (to q) ≡ map (way_to to) (ways code q)
    ways_moved q ne = ap (λ (o : Option Place). ways_on new o) (fetch q ne) ∙ ways_on_moved (slice_get code.places q)

    follows_forth : (r q : ℕ) (l : Leads) → r ≢ p → Follows code r l q → Follows new (to r) (lead_to to l) (to q)
    follows_forth r q Onward ne f = ap to f ∙ sym (next_place r ne)
    follows_forth r q (ToPlace s) ne f = ap to f
    follows_forth r q AnyPoint ne f = point_forth q f
    follows_forth r q Out ne f = f

    follows_back : (r q' : ℕ) (l : Leads) → r ≢ p → Follows new (to r) (lead_to to l) q' → (q : ℕ) × Follows code r l q × (to q ≡ q')
    follows_back r q' Onward ne f = (r + 1, refl, sym (next_place r ne) ∙ sym f)
    follows_back r q' (ToPlace s) ne f = (s, refl, sym f)
    follows_back r q' AnyPoint ne f = point_back q' f
    follows_back r q' Out ne f = absurd f

    -- ---- what is reached ----

    forth_along : (r k : ℕ) (w : Way) (q : ℕ) → Reached code r → slice_get (ways code r) k ≡ Some w → Follows code r w.leads q → Reached new (to r) → Reached new (to q)
    forth_along r k w q h e f rec =
        elim (cases_eq r p) [
          | inl same ↦ (
              let here : Reached code p = subst (Reached code) same h in
              let e' : slice_get (ways code p) k ≡ Some w = subst (λ x. slice_get (ways code x) k ≡ Some w) same e in
              let f' : Follows code p w.leads q = subst (λ x. Follows code x w.leads q) same f in
              let on : q ≡ p + 1 = m.passes here k w q e' f' in
              subst (Reached new) (ap to same ∙ sym same_next ∙ ap to (sym on)) rec)
          | inr ne ↦ along (to r) k (way_to to w) (to q) rec (ap (λ (ws : List Way). slice_get ws k) (ways_moved r ne) ∙ way_forth to (ways code r) k w e) (follows_forth r q w.leads ne f)
        ]

    -- what is reached stays so
    pub reached_forth : (q : ℕ) → Reached code q → Reached new (to q)
    reached_forth _ (point q h) = point (to q) (point_forth q h)
    reached_forth _ (along r k w q h e f) = forth_along r k w q h e f (reached_forth r h)

    -- of the places that come to one, the other is reached if one is
    settle : (o q : ℕ) → Reached code o → to o ≡ to q → q ≢ p → Reached code q
    settle o q h e ne =
        elim (cases_eq o p) [
          | inl same ↦ (let on : p + 1 ≡ q = omega arith in subst (Reached code) on (m.next (subst (Reached code) same h)))
          | inr other ↦ (let is : o ≡ q = omega arith in subst (Reached code) is h)
        ]

    back_along : (r' k : ℕ) (w : Way) (q' : ℕ) → slice_get (ways new r') k ≡ Some w → Follows new r' w.leads q' → ((r : ℕ) → to r ≡ r' → r ≢ p → Reached code r) → (q : ℕ) → to q ≡ q' → q ≢ p → Reached code q
    back_along r' k w q' e f rec q s ne =
        let r = origin r' in
        let e' : slice_get (map (way_to to) (ways code r.0)) k ≡ Some w = ap (λ (ws : List Way). slice_get ws k) (sym (ways_moved r.0 r.1)) ∙ ap (λ x. slice_get (ways new x) k) r.2 ∙ e in
        let v = way_back to (ways code r.0) k w e' in
        let f' : Follows new (to r.0) (lead_to to v.0.leads) q' = subst (λ x. Follows new x (lead_to to v.0.leads) q') (sym r.2) (subst (λ (u : Way). Follows new r' u.leads q') (sym v.2) f) in
        let o = follows_back r.0 q' v.0.leads r.1 f' in
        settle o.0 q (along r.0 k v.0 o.0 (rec r.0 r.2 r.1) v.1 o.1) (o.2 ∙ sym s) ne

    back_point : (q' : ℕ) → IsPoint new q' → (q : ℕ) → to q ≡ q' → q ≢ p → Reached code q
    back_point q' h q s ne = let o = point_back q' h in settle o.0 q (point o.0 o.1) (o.2 ∙ sym s) ne

    -- and what is reached afterwards was so
    pub reached_back : (q' : ℕ) → Reached new q' → (q : ℕ) → to q ≡ q' → q ≢ p → Reached code q
    reached_back _ (point q' h) = back_point q' h
    reached_back _ (along r' k w q' h e f) = back_along r' k w q' e f (reached_back r' h)
