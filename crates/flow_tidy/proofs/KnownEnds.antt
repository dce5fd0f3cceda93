-- What is known of chains' ends stays true where a branch is redirected to the end of its chain.
use Rattle.std.proofs.Common.{◌≡◌, ◌∙◌, ℕ, zero, suc, ◌<◌, Bool, true, false, List, length, Option, Some, None, refl, sym, ap, subst, inl, inr, if◌then◌else◌}
use Rattle.std.specs.Prelude.{option_and_then, slice_get}
use Rattle.std.proofs.lemmas.Bool.{cases_eq}
use Rattle.std.proofs.lemmas.Option.{same_Some}
use Rattle.thumb_model.specs.Listing.{Name, Mention, Place, Op, Word, Code, code_of, place_of}
use Rattle.kept_places.specs.Marks.{is_gone, rank}
use Rattle.listing_parser.specs.Parsing.{line_mentioning}
use Rattle.listing_parser.specs.Targets.{aimed_lines}
use Rattle.listing_draft.specs.Drafted.{lines_now, name_in, Drafted}
use Rattle.flow_tidy.specs.declared.chain_ends.Known.{Known}
use Rattle.flow_tidy.specs.Tidying.{is_always, GoesToEnd}
use Rattle.flow_tidy.specs.Made.{label_of_always}
use Rattle.flow_tidy.specs.ChainEnds.{hop_at, AreEnds, HasLast, IsLast, IsLastHop, LastBy, LastOf}
use Rattle.flow_tidy.proofs.Aimed.{aimed_code, code_aimed, get_aimed, get_other, name_stays}
use Rattle.flow_tidy.proofs.AimedRuns.{last_is_code, some_of}
use Rattle.flow_tidy.proofs.Unique.{end_same}
use Rattle.flow_tidy.proofs.Ending.{end_named, end_placed, from_hop, stops_at}

-- the last of so many hops
last_hop : (code : Code) (n q l : ℕ) → LastBy code n q l → IsLastHop code l
last_hop code zero q l h = h.1
last_hop code (suc n) q l h = last_hop code n h.0 l h.2

-- a hop leads to the label that is mentioned
hop_mentioned : (code : Code) (q to : ℕ) (name : Name) → hop_at code q ≡ Some to → name_in (slice_get code.places q) ≡ Some name → place_of code name ≡ Some to
hop_mentioned code q to name h k = on (slice_get code.places q) h k
  where
    by : (m : Mention) (b : Bool) → option_and_then (place_of code) (if b then Some m.name else None) ≡ Some to → m.name ≡ name → place_of code name ≡ Some to
    by m true e f = ap (place_of code) (sym f) ∙ e
    by m false e f = absurd (cc)

    on : (x : Option Place) → option_and_then (place_of code) (label_of_always x) ≡ Some to → name_in x ≡ Some name → place_of code name ≡ Some to
    on None e f = absurd (cc)
    on (Some (Word v)) e f = absurd (cc)
    on (Some (Op i None)) e f = absurd (cc)
    on (Some (Op i (Some m))) e f = by m (is_always i) e (same_Some m.name name f)

-- ---- a branch that goes to the end of its chain ----

module _ (code : Code) (r : ℕ) (label : Name) (g : GoesToEnd code r label) where
  abbrev new : Code
  new = aimed_code r label code

  same_labels : (n : Name) → place_of new n ≡ place_of code n
  same_labels n = name_stays code r label n

  and_labels : (o : Option Name) → option_and_then (place_of new) o ≡ option_and_then (place_of code) o
  and_labels None = refl
  and_labels (Some n) = same_labels n

  hop_other : (q : ℕ) → (q ≡ r → ⊥) → hop_at new q ≡ hop_at code q
  hop_other q ne = ap (λ o. option_and_then (place_of new) (label_of_always o)) (get_other label r q code.places ne) ∙ and_labels (label_of_always (slice_get code.places q))

  named_other : (q : ℕ) → (q ≡ r → ⊥) → name_in (slice_get new.places q) ≡ name_in (slice_get code.places q)
  named_other q ne = ap name_in (get_other label r q code.places ne)

  named_here : name_in (slice_get new.places r) ≡ Some label
  named_here = ap name_in (get_aimed label r code.places g.i (Some g.mention) g.stands)

  hop_was : (b : Bool) → is_always g.i ≡ b → hop_at code r ≡ option_and_then (place_of code) (if b then Some g.mention.name else None)
  hop_was b e =
      ap (λ o. option_and_then (place_of code) (label_of_always o)) g.stands
      ∙ ap (λ (a : Bool). option_and_then (place_of code) (if a then Some g.mention.name else None)) e

  hop_is : (b : Bool) → is_always g.i ≡ b → hop_at new r ≡ option_and_then (place_of code) (if b then Some label else None)
  hop_is b e =
      ap (λ o. option_and_then (place_of new) (label_of_always o)) (get_aimed label r code.places g.i (Some g.mention) g.stands)
      ∙ ap (λ (a : Bool). option_and_then (place_of new) (if a then Some label else None)) e
      ∙ and_labels (if b then Some label else None)

  -- the place of the end, from which none leads on
  end : (e : ℕ) × (place_of code label ≡ Some e) × (hop_at code e ≡ None)
  end =
      let e = some_of (place_of code label) (last_is_code code g.end.more g.mention.name label g.end.leads) in
      (e.0, e.1, stops_at code label e.0 e.1 g.end.stops)

  -- and the place that the branch goes to, from which a hop leads on
  start : (s : ℕ) × (place_of code g.mention.name ≡ Some s) × ((to : ℕ) × (hop_at code s ≡ Some to))
  start =
      let hop = g.end.leads.1 in
      let to = from_hop code g.mention.name g.end.leads.0 hop in
      (hop.place, hop.labelled, (to.0, to.1))

  not_end : (e : ℕ) → place_of code g.mention.name ≡ Some e → hop_at code e ≡ None → ⊥
  not_end e f n =
      let s = start in
      let at : s.0 ≡ e = same_Some s.0 e (sym s.1 ∙ f) in
      let no : Some s.2.0 ≡ None = sym s.2.1 ∙ ap (hop_at code) at ∙ n in
      cc

  none_stays : (q : ℕ) → hop_at code q ≡ None → hop_at new q ≡ None
  none_stays q e = elim (cases_eq q r) [
    | inl same ↦ ap (hop_at new) same ∙ here (is_always g.i) refl (ap (hop_at code) (sym same) ∙ e)
    | inr ne ↦ hop_other q ne ∙ e
  ]
    where
      here : (b : Bool) → is_always g.i ≡ b → hop_at code r ≡ None → hop_at new r ≡ None
      here false a f = hop_is false a
      here true a f = absurd (let s = start in let no : Some s.0 ≡ None = sym s.1 ∙ sym (hop_was true a) ∙ f in cc)

  none_was : (q : ℕ) → hop_at new q ≡ None → hop_at code q ≡ None
  none_was q e = elim (cases_eq q r) [
    | inl same ↦ ap (hop_at code) same ∙ here (is_always g.i) refl (ap (hop_at new) (sym same) ∙ e)
    | inr ne ↦ sym (hop_other q ne) ∙ e
  ]
    where
      here : (b : Bool) → is_always g.i ≡ b → hop_at new r ≡ None → hop_at code r ≡ None
      here false a f = hop_was false a
      here true a f = absurd (let no : Some end.0 ≡ None = sym end.1 ∙ sym (hop_is true a) ∙ f in cc)

  -- a hop leads on from the branch now as before only where it has no condition
  was_always : (to : ℕ) → hop_at code r ≡ Some to → is_always g.i ≡ true
  was_always to e = by (is_always g.i) refl
    where
      by : (b : Bool) → is_always g.i ≡ b → is_always g.i ≡ true
      by true a = a
      by false a = absurd (let no : None ≡ Some to = sym (hop_was false a) ∙ e in cc)

  now_always : (to : ℕ) → hop_at new r ≡ Some to → is_always g.i ≡ true
  now_always to e = by (is_always g.i) refl
    where
      by : (b : Bool) → is_always g.i ≡ b → is_always g.i ≡ true
      by true a = a
      by false a = absurd (let no : None ≡ Some to = sym (hop_is false a) ∙ e in cc)

  -- the branch was not the last of its chain
  not_last : IsLastHop code r → ⊥
  not_last h = not_end h.end (sym (hop_was true (was_always h.end h.hop)) ∙ h.hop) h.stops

  -- and is the last one now
  is_last : is_always g.i ≡ true → IsLastHop new r
  is_last a = record { end = end.0; hop = hop_is true a ∙ end.1; stops = none_stays end.0 end.2 }

  -- the chain that went on from it had the label as its end
  ended : (n l : ℕ) → LastBy code n r l → name_in (slice_get code.places l) ≡ Some label
  ended zero l h = absurd (not_last (subst (IsLastHop code) (sym h.0) h.1))
  ended (suc n) l h =
      let a = was_always h.0 h.1 in
      let e = end_named code n g.mention.name h.0 l (sym (hop_was true a) ∙ h.1) h.2 in
      let same : e.label ≡ label = end_same code g.mention.name e.label label (record { more = n; leads = e.leads; stops = e.stops }) g.end in
      e.named ∙ ap Some same

  had_last : is_always g.i ≡ true → (l : ℕ) × LastOf code r l
  had_last a =
      let s = start in
      let e = end_placed code g.end.more g.mention.name label g.end.leads g.end.stops s.0 s.1 in
      (e.0, (suc g.end.more, (s.0, hop_was true a ∙ s.1, e.1)))

  -- a chain that had an end has the same now
  still_ends : (n q l : ℕ) → LastBy code n q l → HasLast new q (name_in (slice_get code.places l))
  still_ends zero q l h = elim (cases_eq l r) [
    | inl same ↦ absurd (not_last (subst (IsLastHop code) same h.1))
    | inr ne ↦ record { last = l; of = (zero, (h.0, record { end = h.1.end; hop = hop_other l ne ∙ h.1.hop; stops = none_stays h.1.end h.1.stops })); named = named_other l ne }
  ]
  still_ends (suc n) q l h = elim (cases_eq q r) [
    | inl same ↦ (let from = subst (λ x. LastBy code (suc n) x l) same h in
        record { last = r; of = (zero, (same, is_last (was_always from.0 from.1))); named = named_here ∙ sym (ended (suc n) l from) })
    | inr ne ↦ (let rest = still_ends n h.0 l h.2 in record { last = rest.last; of = (suc rest.of.0, (h.0, hop_other q ne ∙ h.1, rest.of.1)); named = rest.named })
  ]

  -- and one that has an end had one
  had_end : (n q l : ℕ) → LastBy new n q l → (k : ℕ) × LastOf code q k
  had_end zero q l h = elim (cases_eq l r) [
    | inl same ↦ (let there = subst (IsLastHop new) same h.1 in subst (λ x. (k : ℕ) × LastOf code x k) (sym (h.0 ∙ same)) (had_last (now_always there.end there.hop)))
    | inr ne ↦ (l, (zero, (h.0, record { end = h.1.end; hop = sym (hop_other l ne) ∙ h.1.hop; stops = none_was h.1.end h.1.stops })))
  ]
  had_end (suc n) q l h = elim (cases_eq q r) [
    | inl same ↦ subst (λ x. (k : ℕ) × LastOf code x k) (sym same) (had_last (now_always h.0 (ap (hop_at new) (sym same) ∙ h.1)))
    | inr ne ↦ (let rest = had_end n h.0 l h.2 in (rest.0, (suc rest.1.0, (h.0, sym (hop_other q ne) ∙ h.1, rest.1.1))))
  ]

  -- a place that mentions the end of a chain mentions it still
  still_named : (n q l : ℕ) (p : ℕ) → LastBy code n q l → name_in (slice_get code.places l) ≡ name_in (slice_get code.places p) → name_in (slice_get new.places p) ≡ name_in (slice_get code.places p)
  still_named n q l p h e = elim (cases_eq p r) [
    | inl same ↦ (let last = last_hop code n q l h in
        let named : name_in (slice_get code.places l) ≡ Some g.mention.name = e ∙ ap (λ x. name_in (slice_get code.places x)) same ∙ ap name_in g.stands in
        absurd (not_end last.end (hop_mentioned code l last.end g.mention.name last.hop named) last.stops))
    | inr ne ↦ named_other p ne
  ]

-- ---- drafts ----

last_stays : (d e : Drafted) (p : ℕ) (label : Name) → GoesToEnd (code_of (lines_now d)) (rank d.gone p) label → e.gone ≡ d.gone → code_of (lines_now e) ≡ aimed_code (rank d.gone p) label (code_of (lines_now d))
    → (q : ℕ) (o : Option ℕ) → IsLast d q o → IsLast e q o
last_stays d e p label g f l q None h = λ k last.
    let code : Code = code_of (lines_now d) in
    let there : LastOf (code_of (lines_now e)) (rank d.gone q) k = subst (λ (gs : List Bool). LastOf (code_of (lines_now e)) (rank gs q) k) f last in
    let aimed : LastOf (aimed_code (rank d.gone p) label code) (rank d.gone q) k = subst (λ (c : Code). LastOf c (rank d.gone q) k) l there in
    let had = had_end code (rank d.gone p) label g aimed.0 (rank d.gone q) k aimed.1 in
    h had.0 had.1
last_stays d e p label g f l q (Some last) h =
    let code : Code = code_of (lines_now d) in
    let r : ℕ = rank d.gone p in
    let k = h.2 in
    let on = still_ends code r label g k.of.0 (rank d.gone q) k.last k.of.1 in
    let named = still_named code r label g k.of.0 (rank d.gone q) k.last (rank d.gone last) k.of.1 k.named in
    let aimed : HasLast (aimed_code r label code) (rank d.gone q) (name_in (slice_get (aimed_code r label code).places (rank d.gone last))) = record { last = on.last; of = on.of; named = on.named ∙ k.named ∙ sym named } in
    let there = subst (λ (c : Code). HasLast c (rank d.gone q) (name_in (slice_get c.places (rank d.gone last)))) (sym l) aimed in (
      subst (λ (gs : List Bool). last < length gs) (sym f) h.0,
      subst (λ (gs : List Bool). is_gone gs last ≡ false) (sym f) h.1,
      subst (λ (gs : List Bool). HasLast (code_of (lines_now e)) (rank gs q) (name_in (slice_get (code_of (lines_now e)).places (rank gs last)))) (sym f) there,
    )

-- what is known stays true where the branch at a kept place goes to the end of its chain
pub ends_stay : (d e : Drafted) (p : ℕ) (label : Name) (known : List Known) → GoesToEnd (code_of (lines_now d)) (rank d.gone p) label → e.gone ≡ d.gone → lines_now e ≡ aimed_lines line_mentioning (rank d.gone p) label (lines_now d) → AreEnds d known → AreEnds e known
ends_stay d e p label known g f l a =
    let code = ap code_of l ∙ code_aimed line_mentioning label (rank d.gone p) (lines_now d) g.i (Some g.mention) g.stands in
    record {
      many = a.many ∙ ap (λ (gs : List Bool). length gs) (sym f);
      each = λ q o k s. last_stays d e p label g f code q o (a.each q o (subst (λ (gs : List Bool). is_gone gs q ≡ false) f k) s);
    }
