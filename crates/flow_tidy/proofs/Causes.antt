-- Where causes arise: after a change a place has one only if it had one before, or stands right before what was removed, or if this was a conditional branch
-- by whose removal chains go on.
use Rattle.std.proofs.Common.{◌≡◌, ◌≢◌, ◌∙◌, ◌⊎◌, inl, inr, ℕ, zero, suc, ◌+◌, ◌&&◌, not, Bool, true, false, [], Option, Some, None, IsSome, refl, sym, ap, subst, arith}
use Rattle.std.specs.Prelude.{slice_get, is_some}
use Rattle.std.specs.Option.{option_map}
use Rattle.std.proofs.lemmas.Bool.{cases_eq, cases_Bool}
use Rattle.std.proofs.lemmas.Option.{same_Some}
use Rattle.thumb_instr.specs.declared.instr.Instr.{Instr}
use Rattle.thumb_model.specs.Listing.{Name, Mention, Place, Op, Code, place_of}
use Rattle.thumb_model.specs.Steps.{aim_of}
use Rattle.thumb_model.specs.Replaced.{moved, replaced}
use Rattle.thumb_model.specs.Flow.{point}
use Rattle.listing_draft.specs.Drafted.{instr_in}
use Rattle.flow_tidy.specs.Tidying.{is_always, Hops, HopsBy, IsEnd, Cause, ToNext, ToEnd, Idle, is_branch, GoesToNext, GoesToEnd, IsIdle, HasCause}
use Rattle.flow_tidy.specs.DuePlaces.{IsCaused, is_branch_always, is_branch_if, lets_on}
use Rattle.flow_tidy.proofs.Ways.{aim_is_point}
use Rattle.flow_tidy.proofs.Going.{MayGo, fetch, aim_moved, reached_forth}
use Rattle.flow_tidy.proofs.Aimed.{to_label, aimed_code, get_aimed, get_other, name_stays, aim_stays}
use Rattle.flow_tidy.proofs.AimedRuns.{reached_same}
use Rattle.flow_tidy.proofs.Hops.{hops_on}
use Rattle.flow_tidy.proofs.Ends.{has_hop, hop_is, hop_from, end_stops, hops_same}

-- ---- chains ----

-- some hops, at least one, lead from a label to a label
record Leads (code : Code) (from to : Name) : Type 0 where
  pub more : ℕ
  pub by : HopsBy code (suc more) from to

one_hop : (code : Code) (from to : Name) → Hops code from to → Leads code from to
one_hop code from to h = record { more = 0; by = (to, h, refl) }

joined_by : (code : Code) (n : ℕ) (from mid to : Name) → HopsBy code (suc n) from mid → Leads code mid to → Leads code from to
joined_by code zero from mid to h k = record { more = suc k.more; by = (h.0, h.1, subst (λ (x : Name). HopsBy code (suc k.more) x to) (sym h.2) k.by) }
joined_by code (suc n) from mid to h k = let r = joined_by code n h.0 mid to h.2 k in record { more = suc r.more; by = (h.0, h.1, r.by) }

joined : (code : Code) (from mid to : Name) → Leads code from mid → Leads code mid to → Leads code from to
joined code from mid to h k = joined_by code h.more from mid to h.by k

-- chains whose hops are hops of another code lead there too
leads_back : (code other : Code) → ((x y : Name) → Hops other x y → Leads code x y) → (n : ℕ) (from to : Name) → HopsBy other (suc n) from to → Leads code from to
leads_back code other back zero from to h = subst (λ (x : Name). Leads code from x) h.2 (back from h.0 h.1)
leads_back code other back (suc n) from to h = joined code from h.0 to (back from h.0 h.1) (leads_back code other back n h.0 to h.2)

option_back : (f : ℕ → ℕ) (o : Option ℕ) (q : ℕ) → option_map f o ≡ Some q → (r : ℕ) × (o ≡ Some r) × (f r ≡ q)
option_back f None q e = absurd (cc)
option_back f (Some r) q e = (r, refl, same_Some (f r) q e)

-- ---- a redirected branch ----

module _ (code : Code) (p : ℕ) (label : Name) (g : GoesToEnd code p label) where
  abbrev aimed : Code
  aimed = aimed_code p label code

  there : (q : ℕ) (x : Option Place) → q ≢ p → slice_get aimed.places q ≡ x → slice_get code.places q ≡ x
  there q x ne e = sym (get_other label p q code.places ne) ∙ e

  aimed_hop : (x y : Name) → Hops aimed x y → Leads code x y
  aimed_hop x y h = elim (cases_eq h.place p) [
    | inl same ↦ (
        let here : Op h.i (Some h.mention) ≡ Op g.i (Some (to_label label)) = same_Some _ _ (sym h.stands ∙ ap (slice_get aimed.places) same ∙ get_aimed label p code.places g.i (Some g.mention) g.stands) in
        let is : h.i ≡ g.i = cc in
        let to : h.mention ≡ to_label label = cc in
        let end : label ≡ y = sym (ap (λ (m : Mention). m.name) to) ∙ h.named in
        let first = g.end.leads in
        let hop : Hops code x g.mention.name = record {
          place = p;
          i = g.i;
          mention = g.mention;
          labelled = sym (name_stays code p label x) ∙ h.labelled ∙ ap Some same;
          stands = g.stands;
          always = ap is_always (sym is) ∙ h.always;
          named = refl;
          code_label = ap is_some first.1.labelled;
        } in
        subst (λ (t : Name). Leads code x t) end (joined code x g.mention.name label (one_hop code x g.mention.name hop) (record { more = g.end.more; by = g.end.leads })))
    | inr ne ↦ one_hop code x y (record {
      place = h.place;
      i = h.i;
      mention = h.mention;
      labelled = sym (name_stays code p label x) ∙ h.labelled;
      stands = there h.place _ ne h.stands;
      always = h.always;
      named = h.named;
      code_label = ap is_some (sym (name_stays code p label y)) ∙ h.code_label;
    })
  ]

  aimed_end : (x y : Name) → IsEnd aimed x y → IsEnd code x y
  aimed_end x y h =
      let l = leads_back code aimed aimed_hop h.more x y h.leads in
      let none : has_hop code y ≡ false = sym (hops_same code p label g y) ∙ end_stops aimed y h.stops in
      record { more = l.more; leads = l.by; stops = λ next k. absurd (let some : has_hop code y ≡ true = hop_is code y next k in cc) }

  -- another place has a cause where it had one
  pub aimed_caused : (q : ℕ) (c : Cause) → q ≢ p → HasCause aimed q c → IsCaused code q
  aimed_caused q ToNext ne h = record { cause = ToNext; is = record { i = h.i; mention = h.mention; stands = there q _ ne h.stands; branch = h.branch; next = sym (aim_stays code p label h.mention) ∙ h.next } }
  aimed_caused q (ToEnd to) ne h = record { cause = ToEnd to; is = record { i = h.i; mention = h.mention; stands = there q _ ne h.stands; branch = h.branch; end = aimed_end h.mention.name to h.end } }
  aimed_caused q Idle ne h = record { cause = Idle; is = record { i = h.i; mention = h.mention; stands = there q _ ne h.stands; no_call = h.no_call; unreached = λ r. h.unreached ((reached_same code p label g q).0 r) } }

-- ---- a removed instruction ----

-- the label that a branch to the next place mentions
record Mentions (code : Code) (p : ℕ) (i : Instr) : Type 0 where
  pub mention : Mention
  pub stands : slice_get code.places p ≡ Some (Op i (Some mention))
  pub next : place_of code mention.name ≡ Some (p + 1)

mentioned : (code : Code) (p : ℕ) (i : Instr) (mention : Option Mention) → slice_get code.places p ≡ Some (Op i mention) → aim_of code mention ≡ Some (p + 1) → Mentions code p i
mentioned code p i None e f = absurd (cc)
mentioned code p i (Some m) e f = record { mention = m; stands = e; next = f }

some_mapped : (f : ℕ → ℕ) (o : Option ℕ) → is_some (option_map f o) ≡ is_some o
some_mapped f None = refl
some_mapped f (Some q) = refl

quiet_always : (a b c : Bool) → ((a && not b) && c) ≡ false → a ≡ true → c ≡ true → b ≡ true
quiet_always true true c h e f = refl
quiet_always true false true h e f = absurd (cc)
quiet_always true false false h e f = absurd (cc)
quiet_always false b c h e f = absurd (cc)

-- what may go from a place, at which a label stands only where its branch goes to the next place
pub record MayLeave (code : Code) (p : ℕ) : Type 0 where
  pub may : MayGo code p
  pub labelled : (x : Name) → place_of code x ≡ Some p → GoesToNext code p
  pub quiet : lets_on code p ≡ false

module _ (code : Code) (p : ℕ) (leaves : MayLeave code p) where
  abbrev left : Code
  left = replaced code p 1 []

  abbrev to : ℕ → ℕ
  to q = moved p 1 q

  at_next : slice_get left.places p ≡ slice_get code.places (p + 1)
  at_next = ap (slice_get left.places) (let e : p ≡ moved p 1 (p + 1) = omega arith in e) ∙ fetch code p leaves.may (p + 1) (λ e. absurd (omega arith))

  here_back : (q : ℕ) (x : Option Place) → q ≢ p → slice_get left.places (to q) ≡ x → slice_get code.places q ≡ x
  here_back q x ne e = sym (fetch code p leaves.may q ne) ∙ e

  name_moved : (x : Name) → place_of left x ≡ option_map (moved p 1) (place_of code x)
  name_moved x = aim_moved code p leaves.may (Some (to_label x))

  code_back : (x : Name) → IsSome (place_of left x) → IsSome (place_of code x)
  code_back x h = sym (some_mapped (moved p 1) (place_of code x)) ∙ ap is_some (sym (name_moved x)) ∙ h

  code_forth : (x : Name) → IsSome (place_of code x) → IsSome (place_of left x)
  code_forth x h = ap is_some (name_moved x) ∙ some_mapped (moved p 1) (place_of code x) ∙ h

  -- a hop from a label that stands before what went leads through the next place
  through : (x y : Name) (i : Instr) (m : Mention) → place_of code x ≡ Some p → slice_get code.places (p + 1) ≡ Some (Op i (Some m)) → is_always i ≡ true → m.name ≡ y → IsSome (place_of code y) → Leads code x y
  through x y i m e f a n c =
      let g = leaves.labelled x e in
      let own = mentioned code p g.i g.mention g.stands g.next in
      let second : is_branch_always (instr_in (slice_get code.places (p + 1))) ≡ true = ap (λ o. is_branch_always (instr_in o)) f ∙ a in
      let if_so : is_branch_if (instr_in (slice_get code.places p)) ≡ (is_branch g.i && not (is_always g.i)) = ap (λ o. is_branch_if (instr_in o)) g.stands in
      let quiet : ((is_branch g.i && not (is_always g.i)) && is_branch_always (instr_in (slice_get code.places (p + 1)))) ≡ false = ap (λ b. b && is_branch_always (instr_in (slice_get code.places (p + 1)))) (sym if_so) ∙ leaves.quiet in
      let always : is_always g.i ≡ true = quiet_always (is_branch g.i) (is_always g.i) (is_branch_always (instr_in (slice_get code.places (p + 1)))) quiet g.branch second in
      joined code x own.mention.name y
      (one_hop code x own.mention.name (record { place = p; i = g.i; mention = own.mention; labelled = e; stands = own.stands; always = always; named = refl; code_label = ap is_some own.next }))
      (one_hop code own.mention.name y (record { place = p + 1; i = i; mention = m; labelled = own.next; stands = f; always = a; named = n; code_label = c }))

  left_hop : (x y : Name) → Hops left x y → Leads code x y
  left_hop x y h =
      let o = option_back (moved p 1) (place_of code x) h.place (sym (name_moved x) ∙ h.labelled) in
      elim (cases_eq o.0 p) [
        | inl same ↦ (
            let at : h.place ≡ p = omega (arith, o.2, same) in
            through x y h.i h.mention (o.1 ∙ ap Some same) (sym at_next ∙ ap (slice_get left.places) (sym at) ∙ h.stands) h.always h.named (code_back y h.code_label))
        | inr ne ↦ one_hop code x y (record { place = o.0; i = h.i; mention = h.mention; labelled = o.1; stands = here_back o.0 _ ne (ap (slice_get left.places) o.2 ∙ h.stands); always = h.always; named = h.named; code_label = code_back y h.code_label })
      ]

  -- a hop from elsewhere is still one, and so is one from the next place, from the labels before what went
  hop_forth : (x y : Name) (h : Hops code x y) → h.place ≢ p → Hops left x y
  hop_forth x y h ne = record {
    place = to h.place;
    i = h.i;
    mention = h.mention;
    labelled = name_moved x ∙ ap (option_map (moved p 1)) h.labelled;
    stands = fetch code p leaves.may h.place ne ∙ h.stands;
    always = h.always;
    named = h.named;
    code_label = code_forth y h.code_label;
  }

  hop_next : (x y z : Name) (h : Hops code y z) → h.place ≡ p + 1 → place_of code x ≡ Some p → Hops left x z
  hop_next x y z h e f = record {
    place = p;
    i = h.i;
    mention = h.mention;
    labelled = name_moved x ∙ ap (option_map (moved p 1)) f ∙ ap Some (let s : moved p 1 p ≡ p = omega arith in s);
    stands = at_next ∙ ap (slice_get code.places) (sym e) ∙ h.stands;
    always = h.always;
    named = h.named;
    code_label = code_forth z h.code_label;
  }

  -- a chain that ends had an end
  left_end : (x y : Name) → IsEnd left x y → (end : Name) × IsEnd code x end
  left_end x y h =
      let l = leads_back code left left_hop h.more x y h.leads in
      elim (cases_Bool (has_hop code y)) [
        | inr none ↦ (y, record { more = l.more; leads = l.by; stops = λ next k. absurd (let some : has_hop code y ≡ true = hop_is code y next k in cc) })
        | inl some ↦ (
            let k = hop_from code y (place_of code y) refl some in
            elim (cases_eq k.1.place p) [
              | inr ne ↦ absurd (h.stops k.0 (hop_forth y k.0 k.1 ne))
              | inl same ↦ (
                  let at : place_of code y ≡ Some p = k.1.labelled ∙ ap Some same in
                  let g = leaves.labelled y at in
                  let own = mentioned code p g.i g.mention g.stands g.next in
                  let one : Op k.1.i (Some k.1.mention) ≡ Op g.i (Some own.mention) = same_Some _ _ (sym k.1.stands ∙ ap (slice_get code.places) same ∙ own.stands) in
                  let is : k.1.mention ≡ own.mention = cc in
                  let next : place_of code k.0 ≡ Some (p + 1) = ap (place_of code) (sym k.1.named ∙ ap (λ (m : Mention). m.name) is) ∙ own.next in (
                    k.0,
                    record {
                      more = suc l.more;
                      leads = hops_on code (suc l.more) x y k.0 l.by k.1;
                      stops = λ z j. h.stops z (hop_next y k.0 z j (same_Some _ _ (sym j.labelled ∙ next)) at);
                    },
                  ))
            ])
      ]

  next_back : (q : ℕ) → q ≢ p → GoesToNext left (to q) → (q + 1 ≡ p) ⊎ GoesToNext code q
  next_back q ne h =
      let o = option_back (moved p 1) (aim_of code h.mention) (to q + 1) (sym (aim_moved code p leaves.may h.mention) ∙ h.next) in
      elim (cases_eq (q + 1) p) [
        | inl before ↦ inl before
        | inr other ↦ inr (record { i = h.i; mention = h.mention; stands = here_back q _ ne h.stands; branch = h.branch; next = o.1 ∙ ap Some (let e : o.0 ≡ q + 1 = omega (arith, o.2, ne, other) in e) })
      ]

  -- another place has a cause where it had one, but for the place before
  pub left_caused : (q : ℕ) (c : Cause) → q ≢ p → HasCause left (to q) c → (q + 1 ≡ p) ⊎ IsCaused code q
  left_caused q ToNext ne h = elim (next_back q ne h) [ inl before ↦ inl before | inr g ↦ inr (record { cause = ToNext; is = g }) ]
  left_caused q (ToEnd label) ne h =
      let end = left_end h.mention.name label h.end in
      inr (record { cause = ToEnd end.0; is = record { i = h.i; mention = h.mention; stands = here_back q _ ne h.stands; branch = h.branch; end = end.1 } })
  left_caused q Idle ne h =
      inr (record { cause = Idle; is = record { i = h.i; mention = h.mention; stands = here_back q _ ne h.stands; no_call = h.no_call; unreached = λ r. h.unreached (reached_forth code p leaves.may q r) } })

-- at what nothing reaches no code label stands
pub idle_unlabelled : (code : Code) (p : ℕ) → IsIdle code p → (x : Name) → place_of code x ≡ Some p → GoesToNext code p
idle_unlabelled code p h x e = absurd (h.unreached (point p (aim_is_point code (Some (to_label x)) p e)))
