-- What is read from a place of a padded code is what is read from its rank in the code that is left.
use Rattle.std.proofs.Common.{◌≡◌, ◌↔◌, ℕ, zero, suc, ◌+◌, ◌<◌, Bool, true, false, List, [], ◌∷◌, ◌++◌, length, map, Option, Some, None, refl, sym, ap, ◌∙◌, subst, arith, if◌then◌else◌}
use Rattle.std.specs.Prelude.{slice_get}
use Rattle.std.specs.Option.{option_map}
use Rattle.std.proofs.lemmas.List.{map-append}
use Rattle.std.proofs.lemmas.Option.{same_Some, slice_get-map}
use Rattle.thumb_instr.specs.Items.{has}
use Rattle.thumb_instr.specs.Shape.{registers_in}
use Rattle.thumb_instr.specs.declared.instr.Instr.{Instr}
use Rattle.thumb_instr.specs.declared.instr.Instr.TheVariants as instr
use Rattle.thumb_model.specs.Effect.{one_of, sp}
use Rattle.thumb_model.specs.Listing.{Name, Mention, Place, Op, Word, Label, Code, is_code, is_op_place, place_of, label_places, return_places, IsPoint}
use Rattle.thumb_model.specs.Steps.{aim_of}
use Rattle.thumb_model.specs.Flow.{Way, way, Leads, Onward, ToPlace, AnyPoint, Out, left_but, ways_of, ways_on, ways, Follows, Reads, now, later, LiveAfter}
use Rattle.kept_places.specs.Marks.{is_gone, rank}
use Rattle.padded_code.specs.Padding.{nop, ranked, IsPadded}
use Rattle.kept_places.proofs.Ranks.{rank_gone, rank_kept}
use Rattle.padded_code.proofs.Kept.{kept_at, at_rank, place_ranked, label_places_ranked, returns_ranked}
use Rattle.thumb_model.proofs.Shared.{within, one_of_map, one_of_unmap}

-- ---- ways whose places move ----

abbrev pub lead_to : (ℕ → ℕ) → Leads → Leads
lead_to to Onward = Onward
lead_to to (ToPlace p) = ToPlace (to p)
lead_to to AnyPoint = AnyPoint
lead_to to Out = Out

abbrev pub way_to : (ℕ → ℕ) → Way → Way
way_to to w = way w.reads w.writes (lead_to to w.leads)

either : (to : ℕ → ℕ) (b : Bool) (a c : List Way) → a ≡ map (way_to to) a → c ≡ map (way_to to) c → (if b then a else c) ≡ map (way_to to) (if b then a else c)
either to true a c e f = e
either to false a c e f = f

-- a row: the ways of an instruction whose aim moves
pub ways_of_to : (to : ℕ → ℕ) (aim : Option ℕ) (i : Instr) → ways_of (option_map to aim) i ≡ map (way_to to) (ways_of aim i)
ways_of_to to aim (instr.Pop l) =
    let point : List Way = way (sp ∷ []) (sp ∷ registers_in l.number) AnyPoint ∷ way (sp ∷ left_but (registers_in l.number)) (sp ∷ registers_in l.number) Out ∷ [] in
    let on : List Way = way (sp ∷ []) (sp ∷ registers_in l.number) Onward ∷ [] in
    either to (has l.number 8) point on refl refl
ways_of_to to None (instr.BranchIf c d) = refl
ways_of_to to (Some p) (instr.BranchIf c d) = refl
ways_of_to to None (instr.Branch d) = refl
ways_of_to to (Some p) (instr.Branch d) = refl
ways_of_to to None (instr.Call d) = refl
ways_of_to to (Some p) (instr.Call d) = refl
ways_of_to to aim i = refl

-- a way of a list that moved is one that moved
pub way_back : (to : ℕ → ℕ) (ws : List Way) (k : ℕ) (w : Way) → slice_get (map (way_to to) ws) k ≡ Some w → (v : Way) × (slice_get ws k ≡ Some v) × (way_to to v ≡ w)
way_back to [] k w e = absurd (cc)
way_back to (v ∷ ws) zero w e = (v, refl, same_Some (way_to to v) w e)
way_back to (v ∷ ws) (suc k) w e = way_back to ws k w e

pub way_forth : (to : ℕ → ℕ) (ws : List Way) (k : ℕ) (w : Way) → slice_get ws k ≡ Some w → slice_get (map (way_to to) ws) k ≡ Some (way_to to w)
way_forth to ws k w e = slice_get-map (way_to to) ws k ∙ ap (option_map (way_to to)) e

-- the ways of a nop
pub nop_way : (code : Code) (k : ℕ) (w : Way) → slice_get (ways_on code (Some nop)) k ≡ Some w → way [] [] Onward ≡ w
nop_way code zero w e = same_Some (way [] [] Onward) w e
nop_way code (suc k) w e = absurd (cc)

module _ (gone : List Bool) (padded code : Code) (s : IsPadded gone padded code) where
  abbrev to : ℕ → ℕ
  to = rank gone

  -- ---- places, labels and points ----

  pub place_kept : (p : ℕ) → is_gone gone p ≡ false → slice_get code.places (to p) ≡ slice_get padded.places p
  place_kept p t = ap (λ (ps : List Place). slice_get ps (to p)) s.places ∙ kept_at gone padded.places p t

  -- a label of the padded code in the code that is left
  pub label_in : (k : ℕ) (l : Label) → slice_get padded.labels k ≡ Some l → slice_get code.labels k ≡ Some (ranked gone l)
  label_in k l e = ap (λ (ls : List Label). slice_get ls k) s.labels ∙ slice_get-map (ranked gone) padded.labels k ∙ ap (option_map (ranked gone)) e

  pub code_alike : (k : ℕ) (l : Label) → slice_get padded.labels k ≡ Some l → is_code code.places (ranked gone l) ≡ is_code padded.places l
  code_alike k l e =
      elim (is_gone gone l.place) as (λ b. is_gone gone l.place ≡ b → is_code code.places (ranked gone l) ≡ is_code padded.places l) [
        | true ↦ λ t. s.still_code k l e t ∙ sym (ap is_op_place (s.nops l.place t))
        | false ↦ λ t. ap is_op_place (place_kept l.place t)
      ] refl

  pub name_ranked : (name : Name) → place_of code name ≡ option_map to (place_of padded name)
  name_ranked name = ap (λ (ls : List Label). place_of (record { places = code.places; labels = ls }) name) s.labels ∙ place_ranked gone padded.places code.places name padded.labels code_alike

  pub points_ranked : (label_places code.places code.labels ≡ map to (label_places padded.places padded.labels)) × (return_places 0 code.places ≡ map to (return_places 0 padded.places))
  points_ranked = (
    ap (label_places code.places) s.labels ∙ label_places_ranked gone padded.places code.places padded.labels code_alike,
    ap (return_places 0) s.places ∙ returns_ranked gone padded.places to 0 0 (λ r. ap to (let f : 0 + r ≡ r = omega arith in f) ∙ (let f : to r ≡ 0 + to r = omega arith in f)) s.nops,
  )

  all_points : label_places code.places code.labels ++ return_places 0 code.places ≡ map to (label_places padded.places padded.labels ++ return_places 0 padded.places)
  all_points =
      ap (λ l. l ++ return_places 0 code.places) points_ranked.0
      ∙ ap (λ l. map to (label_places padded.places padded.labels) ++ l) points_ranked.1
      ∙ sym (map-append to (label_places padded.places padded.labels) (return_places 0 padded.places))

  point_forth : (q : ℕ) → IsPoint padded q → IsPoint code (to q)
  point_forth q h = ap (one_of (to q)) all_points ∙ one_of_map to q _ h

  point_back : (r : ℕ) → IsPoint code r → (q : ℕ) × IsPoint padded q × (to q ≡ r)
  point_back r h = one_of_unmap to r _ (ap (one_of r) (sym all_points) ∙ h)

  -- ---- ways ----

  aim_ranked : (mention : Option Mention) → aim_of code mention ≡ option_map to (aim_of padded mention)
  aim_ranked None = refl
  aim_ranked (Some m) = name_ranked m.name

  ways_on_ranked : (o : Option Place) → ways_on code o ≡ map (way_to to) (ways_on padded o)
  ways_on_ranked None = refl
  ways_on_ranked (Some (Word v)) = refl
  ways_on_ranked (Some (Op i mention)) = ap (λ a. ways_of a i) (aim_ranked mention) ∙ ways_of_to to (aim_of padded mention) i

  -- a kept place has the same ways in both
  ways_kept : (p : ℕ) → is_gone gone p ≡ false → ways code (to p) ≡ map (way_to to) (ways padded p)
  ways_kept p t = ap (λ (o : Option Place). ways_on code o) (place_kept p t) ∙ ways_on_ranked (slice_get padded.places p)

  -- a place that is gone has one way, to the next place
  way_gone : (p k : ℕ) (w : Way) → is_gone gone p ≡ true → slice_get (ways padded p) k ≡ Some w → way [] [] Onward ≡ w
  way_gone p k w t e = nop_way padded k w (ap (λ (o : Option Place). slice_get (ways_on padded o) k) (sym (s.nops p t)) ∙ e)

  get_kept : (p k : ℕ) (w : Way) → is_gone gone p ≡ false → slice_get (ways padded p) k ≡ Some w → slice_get (ways code (to p)) k ≡ Some (way_to to w)
  get_kept p k w t e = ap (λ (ws : List Way). slice_get ws k) (ways_kept p t) ∙ way_forth to (ways padded p) k w e

  get_back : (p k : ℕ) (w : Way) → is_gone gone p ≡ false → slice_get (ways code (to p)) k ≡ Some w → (v : Way) × (slice_get (ways padded p) k ≡ Some v) × (way_to to v ≡ w)
  get_back p k w t e = way_back to (ways padded p) k w (ap (λ (ws : List Way). slice_get ws k) (sym (ways_kept p t)) ∙ e)

  follows_forth : (p q : ℕ) (l : Leads) → is_gone gone p ≡ false → Follows padded p l q → Follows code (to p) (lead_to to l) (to q)
  follows_forth p q Onward t f = ap to f ∙ ap to (let e : p + 1 ≡ suc p = omega arith in e) ∙ rank_kept gone p t ∙ (let e : suc (to p) ≡ to p + 1 = omega arith in e)
  follows_forth p q (ToPlace r) t f = ap to f
  follows_forth p q AnyPoint t f = point_forth q f
  follows_forth p q Out t f = f

  follows_back : (p r : ℕ) (l : Leads) → is_gone gone p ≡ false → Follows code (to p) (lead_to to l) r → (q : ℕ) × Follows padded p l q × (to q ≡ r)
  follows_back p r Onward t f = (p + 1, refl, ap to (let e : p + 1 ≡ suc p = omega arith in e) ∙ rank_kept gone p t ∙ (let e : suc (to p) ≡ r = omega arith in e))
  follows_back p r (ToPlace q) t f = (q, refl, sym f)
  follows_back p r AnyPoint t f = point_back r f
  follows_back p r Out t f = absurd f

  -- ---- paths ----

  forth_now : (x p k : ℕ) (w : Way) → slice_get (ways padded p) k ≡ Some w → one_of x w.reads ≡ true → Reads code x (to p)
  forth_now x p k w e r =
      elim (is_gone gone p) as (λ b. is_gone gone p ≡ b → Reads code x (to p)) [
        | true ↦ λ t. absurd (let f : one_of x [] ≡ true = ap (λ (v : Way). one_of x v.reads) (way_gone p k w t e) ∙ r in cc)
        | false ↦ λ t. now (to p) k (way_to to w) (get_kept p k w t e) r
      ] refl

  forth_later : (x p k : ℕ) (w : Way) (q : ℕ) → slice_get (ways padded p) k ≡ Some w → one_of x w.writes ≡ false → Follows padded p w.leads q → Reads code x (to q) → Reads code x (to p)
  forth_later x p k w q e n f rec =
      elim (is_gone gone p) as (λ b. is_gone gone p ≡ b → Reads code x (to p)) [
        | true ↦ λ t. (
            let g : q ≡ p + 1 = subst (λ (v : Way). Follows padded p v.leads q) (sym (way_gone p k w t e)) f in
            let m : to q ≡ to p = ap to (let h : q ≡ suc p = omega arith in h) ∙ rank_gone gone p t in
            subst (Reads code x) m rec)
        | false ↦ λ t. later (to p) k (way_to to w) (to q) (get_kept p k w t e) n (follows_forth p q w.leads t f) rec
      ] refl

  -- from the padded code
  pub forth : (x p : ℕ) → Reads padded x p → Reads code x (to p)
  forth x _ (now p k w e r) = forth_now x p k w e r
  forth x _ (later p k w q e n f r) = forth_later x p k w q e n f (forth x q r)

  -- what is read from the place behind one that is gone is read from it
  through_gone : (x p : ℕ) → is_gone gone p ≡ true → Reads padded x (suc p) → Reads padded x p
  through_gone x p t r =
      later p 0 (way [] [] Onward) (suc p) (ap (λ (o : Option Place). slice_get (ways_on padded o) 0) (s.nops p t)) refl (let e : suc p ≡ p + 1 = omega arith in e) r

  -- what is read from the kept place of a rank is read from each of that rank
  at_each : (x r : ℕ) → r < length code.places → ((p : ℕ) → is_gone gone p ≡ false → to p ≡ r → Reads padded x p) → (p : ℕ) → to p ≡ r → Reads padded x p
  at_each x r l here p e =
      at_rank gone padded.places r (Reads padded x) (subst (λ (ps : List Place). r < length ps) s.places l) here (through_gone x) (length padded.places) p (omega arith) e

  back_now : (x r k : ℕ) (w : Way) → slice_get (ways code r) k ≡ Some w → one_of x w.reads ≡ true → (p : ℕ) → to p ≡ r → Reads padded x p
  back_now x r k w e h = at_each x r (within code r k w e) (λ p t m.
      let v = get_back p k w t (ap (λ a. slice_get (ways code a) k) m ∙ e) in
      now p k v.0 v.1 (ap (λ (u : Way). one_of x u.reads) v.2 ∙ h))

  back_later : (x r k : ℕ) (w : Way) (j : ℕ) → slice_get (ways code r) k ≡ Some w → one_of x w.writes ≡ false → Follows code r w.leads j → ((q : ℕ) → to q ≡ j → Reads padded x q) → (p : ℕ) → to p ≡ r → Reads padded x p
  back_later x r k w j e n f rec = at_each x r (within code r k w e) (λ p t m.
      let v = get_back p k w t (ap (λ a. slice_get (ways code a) k) m ∙ e) in
      let g : Follows code (to p) (lead_to to v.0.leads) j = subst (λ a. Follows code a (lead_to to v.0.leads) j) (sym m) (subst (λ (u : Way). Follows code r u.leads j) (sym v.2) f) in
      let q = follows_back p j v.0.leads t g in
      later p k v.0 q.0 v.1 (ap (λ (u : Way). one_of x u.writes) v.2 ∙ n) q.1 (rec q.0 q.2))

  -- to the padded code
  pub back : (x r : ℕ) → Reads code x r → (p : ℕ) → to p ≡ r → Reads padded x p
  back x _ (now r k w e h) = back_now x r k w e h
  back x _ (later r k w j e n f h) = back_later x r k w j e n f (back x j h)

  pub read_alike : (x p : ℕ) → Reads padded x p ↔ Reads code x (to p)
  read_alike x p = (forth x p, λ h. back x (to p) h p refl)

  -- what is live after a kept place
  pub live_alike : (p x : ℕ) → is_gone gone p ≡ false → LiveAfter padded p x ↔ LiveAfter code (to p) x
  live_alike p x t = (
    λ l. (l.0, way_to to l.1, to l.2, get_kept p l.0 l.1 t l.3, follows_forth p l.2 l.1.leads t l.4, forth x l.2 l.5),
    λ l. (
        let v = get_back p l.0 l.1 t l.3 in
        let q = follows_back p l.2 v.0.leads t (subst (λ (u : Way). Follows code (to p) u.leads l.2) (sym v.2) l.4) in
        (l.0, v.0, q.0, v.1, q.1, back x l.2 l.5 q.0 q.2)),
  )
