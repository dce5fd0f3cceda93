-- Where the chains end that go on from places: hops by places and by labels, walks along them, and what is remembered.
use Rattle.std.proofs.Common.{◌≡◌, ◌↔◌, ◌⊎◌, ◌∙◌, ℕ, zero, suc, ◌<◌, ◌≤◌, Bool, true, false, List, [], ◌∷◌, length, Option, Some, None, refl, sym, ap, subst, inl, inr, arith, if◌then◌else◌}
use Rattle.std.specs.Prelude.{is_some, IfNone, IfSome, map, nat_eq, nat_lt, option_and_then, replicate, slice_get, slice_set}
use Rattle.std.proofs.lemmas.Bool.Decides.{nat_tests}
use Rattle.std.proofs.lemmas.List.{length-map, length-replicate}
use Rattle.std.proofs.lemmas.Option.{same_Some}
use Rattle.thumb_instr.specs.declared.instr.Instr.{Instr}
use Rattle.thumb_model.specs.Listing.{Name, Mention, Place, Op, Word, Code, code_of, place_of}
use Rattle.kept_places.specs.Marks.{is_gone, rank}
use Rattle.listing_draft.specs.Drafted.{Drafted, lines_now, name_in}
use Rattle.listing_draft.proofs.Drafts.{set_length}
use Rattle.flow_tidy.specs.declared.chain_ends.Stamped.{Stamped}
use Rattle.flow_tidy.specs.declared.chain_ends.Known.{Known}
use Rattle.flow_tidy.specs.declared.chain_ends.Known.TheVariants.{Nothing, Walked, Last}
use Rattle.flow_tidy.specs.Tidying.{is_always, Hops, HopsBy, is_branch}
use Rattle.flow_tidy.specs.DuePlaces.{HasEnd}
use Rattle.flow_tidy.specs.Made.{label_of_always, label_of_branch}
use Rattle.flow_tidy.specs.Quick.{EndsAt}
use Rattle.flow_tidy.specs.ChainEnds.{hop_at, known_by, known_in, AreEnds, AreWalked, IsLast, LastBy, LastOf}
use Rattle.flow_tidy.proofs.Hopping.{goes, some_of}
use Rattle.common_lemmas.proofs.Lists.{get_set as is_set}

-- ---- hops by places ----

-- a chain goes on to the place of its next branch, and ends where that one's does
pub ends_alike : (code : Code) (p v w last : ℕ) → hop_at code p ≡ Some v → hop_at code v ≡ Some w → LastOf code p last ↔ LastOf code v last
ends_alike code p v w last e f = (λ k. on k.0 k.1, λ k. (suc k.0, (v, e, k.1)))
  where
    on : (n : ℕ) → LastBy code n p last → LastOf code v last
    on zero h =
        let here : hop_at code p ≡ Some h.1.end = ap (hop_at code) h.0 ∙ h.1.hop in
        let same : v ≡ h.1.end = same_Some v h.1.end (sym e ∙ here) in
        let no : Some w ≡ None = sym f ∙ ap (hop_at code) same ∙ h.1.stops in
        absurd (cc)
    on (suc n) h = let same : h.0 ≡ v = same_Some h.0 v (sym h.1 ∙ e) in (n, subst (λ x. LastBy code n x last) same h.2)

pub ends_here : (code : Code) (p v : ℕ) → hop_at code p ≡ Some v → hop_at code v ≡ None → LastOf code p p
ends_here code p v e f = (zero, (refl, record { end = v; hop = e; stops = f }))

-- where each hop leads to a place from which one leads on, no chain ends
pub goes_on : (code : Code) (S : ℕ → Type 0) → ((p : ℕ) → S p → (v : ℕ) × (hop_at code p ≡ Some v) × S v) → (n p last : ℕ) → S p → LastBy code n p last → ⊥
goes_on code S on zero p last s h =
    let a = on p s in
    let b = on a.0 a.2 in
    let here : hop_at code p ≡ Some h.1.end = ap (hop_at code) h.0 ∙ h.1.hop in
    let same : a.0 ≡ h.1.end = same_Some a.0 h.1.end (sym a.1 ∙ here) in
    let no : Some b.0 ≡ None = sym b.1 ∙ ap (hop_at code) same ∙ h.1.stops in
    absurd (cc)
goes_on code S on (suc n) p last s h =
    let a = on p s in
    let same : a.0 ≡ h.0 = same_Some a.0 h.0 (sym a.1 ∙ h.1) in
    goes_on code S on n h.0 last (subst S same a.2) h.2

-- ---- hops by labels ----

-- a hop from a label, by the place that it stands before and the one that is hopped to
record HopFrom (code : Code) (from : Name) (p to : ℕ) : Type 0 where
  pub via : Name
  pub hop : Hops code from via
  pub goes : place_of code via ≡ Some to
  pub named : name_in (slice_get code.places p) ≡ Some via

hop_from : (code : Code) (from : Name) (p to : ℕ) → place_of code from ≡ Some p → hop_at code p ≡ Some to → HopFrom code from p to
hop_from code from p to e h = on (slice_get code.places p) refl h
  where
    by : (i : Instr) (m : Mention) → slice_get code.places p ≡ Some (Op i (Some m)) → (b : Bool) → is_always i ≡ b → option_and_then (place_of code) (if b then Some m.name else None) ≡ Some to → HopFrom code from p to
    by i m f false g k = absurd (cc)
    by i m f true g k = record {
      via = m.name;
      hop = record { place = p; i = i; mention = m; labelled = e; stands = f; always = g; named = refl; code_label = ap is_some k };
      goes = k;
      named = ap name_in f;
    }

    on : (x : Option Place) → slice_get code.places p ≡ x → option_and_then (place_of code) (label_of_always x) ≡ Some to → HopFrom code from p to
    on None f k = absurd (cc)
    on (Some (Word v)) f k = absurd (cc)
    on (Some (Op i None)) f k = absurd (cc)
    on (Some (Op i (Some m))) f k = by i m f (is_always i) refl k

pub from_hop : (code : Code) (from via : Name) (h : Hops code from via) → (to : ℕ) × (hop_at code h.place ≡ Some to) × (place_of code via ≡ Some to)
from_hop code from via h =
    let to = some_of (place_of code via) h.code_label in
    let hop : hop_at code h.place ≡ Some to.0 =
    ap (λ o. option_and_then (place_of code) (label_of_always o)) h.stands
    ∙ ap (λ (b : Bool). option_and_then (place_of code) (if b then Some h.mention.name else None)) h.always
    ∙ ap (place_of code) h.named
    ∙ to.1 in
    (to.0, hop, to.1)

-- where no hop leads on from a label, none leads on from its place
pub stops_at : (code : Code) (via : Name) (q : ℕ) → place_of code via ≡ Some q → ((next : Name) → Hops code via next → ⊥) → hop_at code q ≡ None
stops_at code via q e s = by (hop_at code q) refl
  where
    by : (o : Option ℕ) → hop_at code q ≡ o → hop_at code q ≡ None
    by None f = f
    by (Some to) f = let a = hop_from code via q to e f in absurd (s a.via a.hop)

-- so many hops from a label to one from which none leads on, and the place of the last
pub record Named (code : Code) (n : ℕ) (from : Name) (last : ℕ) : Type 0 where
  pub label : Name
  pub leads : HopsBy code (suc n) from label
  pub stops : (next : Name) → Hops code label next → ⊥
  pub named : name_in (slice_get code.places last) ≡ Some label

pub end_named : (code : Code) (n : ℕ) (from : Name) (p last : ℕ) → place_of code from ≡ Some p → LastBy code n p last → Named code n from last
end_named code zero from p last e h =
    let a = hop_from code from p h.1.end e (ap (hop_at code) h.0 ∙ h.1.hop) in
    record {
      label = a.via;
      leads = (a.via, a.hop, refl);
      stops = λ next k.
          let b = from_hop code a.via next k in
          let at : k.place ≡ h.1.end = same_Some k.place h.1.end (sym k.labelled ∙ a.goes) in
          let no : Some b.0 ≡ None = sym b.1 ∙ ap (hop_at code) at ∙ h.1.stops in
          absurd (cc);
      named = ap (λ q. name_in (slice_get code.places q)) (sym h.0) ∙ a.named;
    }
end_named code (suc n) from p last e h =
    let a = hop_from code from p h.0 e h.1 in
    let b = end_named code n a.via h.0 last a.goes h.2 in
    record { label = b.label; leads = (a.via, a.hop, b.leads); stops = b.stops; named = b.named }

pub end_placed : (code : Code) (n : ℕ) (from to : Name) → HopsBy code (suc n) from to → ((next : Name) → Hops code to next → ⊥) → (p : ℕ) → place_of code from ≡ Some p → (last : ℕ) × LastBy code n p last
end_placed code zero from to h s p e =
    let b = from_hop code from h.0 h.1 in
    let at : p ≡ h.1.place = same_Some p h.1.place (sym e ∙ h.1.labelled) in
    let stops = stops_at code h.0 b.0 b.2 (λ next k. s next (subst (λ (x : Name). Hops code x next) h.2 k)) in
    (p, (refl, record { end = b.0; hop = ap (hop_at code) at ∙ b.1; stops = stops }))
end_placed code (suc n) from to h s p e =
    let b = from_hop code from h.0 h.1 in
    let at : p ≡ h.1.place = same_Some p h.1.place (sym e ∙ h.1.labelled) in
    let rest = end_placed code n h.0 to h.2 s b.0 b.2 in
    (rest.0, (b.0, ap (hop_at code) at ∙ b.1, rest.1))

-- ---- the chain that a branch begins ----

record BranchTo (code : Code) (r q : ℕ) : Type 0 where
  pub i : Instr
  pub mention : Mention
  pub stands : slice_get code.places r ≡ Some (Op i (Some mention))
  pub branch : is_branch i ≡ true
  pub labelled : place_of code mention.name ≡ Some q

branch_to : (code : Code) (r q : ℕ) → goes code r ≡ Some q → BranchTo code r q
branch_to code r q h = on (slice_get code.places r) refl h
  where
    by : (i : Instr) (m : Mention) → slice_get code.places r ≡ Some (Op i (Some m)) → (b : Bool) → is_branch i ≡ b → option_and_then (place_of code) (if b then Some m.name else None) ≡ Some q → BranchTo code r q
    by i m f false g k = absurd (cc)
    by i m f true g k = record { i = i; mention = m; stands = f; branch = g; labelled = k }

    on : (x : Option Place) → slice_get code.places r ≡ x → option_and_then (place_of code) (label_of_branch x) ≡ Some q → BranchTo code r q
    on None f k = absurd (cc)
    on (Some (Word v)) f k = absurd (cc)
    on (Some (Op i None)) f k = absurd (cc)
    on (Some (Op i (Some m))) f k = by i m f (is_branch i) refl k

branch_goes : (code : Code) (r : ℕ) (i : Instr) (m : Mention) → slice_get code.places r ≡ Some (Op i (Some m)) → is_branch i ≡ true → goes code r ≡ place_of code m.name
branch_goes code r i m e h =
    ap (λ o. option_and_then (place_of code) (label_of_branch o)) e
    ∙ ap (λ (b : Bool). option_and_then (place_of code) (if b then Some m.name else None)) h

ends_at : (d : Drafted) (p q last : ℕ) → goes (code_of (lines_now d)) (rank d.gone p) ≡ Some (rank d.gone q) → IsLast d q (Some last) → EndsAt d p last
ends_at d p q last g h =
    let code = code_of (lines_now d) in
    let b = branch_to code (rank d.gone p) (rank d.gone q) g in
    let k = h.2 in
    let e = end_named code k.of.0 b.mention.name (rank d.gone q) k.last b.labelled k.of.1 in
    record {
      label = e.label;
      goes = record { i = b.i; mention = b.mention; stands = b.stands; branch = b.branch; end = record { more = k.of.0; leads = e.leads; stops = e.stops } };
      named = sym k.named ∙ e.named;
      within = h.0;
      kept = h.1;
    }

never_ends : (d : Drafted) (p q : ℕ) → goes (code_of (lines_now d)) (rank d.gone p) ≡ Some (rank d.gone q) → IsLast d q None → HasEnd (code_of (lines_now d)) (rank d.gone p) → ⊥
never_ends d p q e n h =
    let code = code_of (lines_now d) in
    let g = h.goes in
    let labelled = sym (branch_goes code (rank d.gone p) g.i g.mention g.stands g.branch) ∙ e in
    let k = end_placed code g.end.more g.mention.name h.label g.end.leads g.end.stops (rank d.gone q) labelled in
    n k.0 (g.end.more, k.1)

pub end_found : (d : Drafted) (p q : ℕ) (o : Option ℕ) → goes (code_of (lines_now d)) (rank d.gone p) ≡ Some (rank d.gone q) → IsLast d q o → IfSome o (λ last. EndsAt d p last)
end_found d p q None g h = tt
end_found d p q (Some last) g h = ends_at d p q last g h

pub none_found : (d : Drafted) (p q : ℕ) (o : Option ℕ) → goes (code_of (lines_now d)) (rank d.gone p) ≡ Some (rank d.gone q) → IsLast d q o → IfNone o (HasEnd (code_of (lines_now d)) (rank d.gone p) → ⊥)
none_found d p q None g h = never_ends d p q g h
none_found d p q (Some last) g h = tt

-- ---- lists ----

get_set : {A : Type 0} (xs : List A) (p q : ℕ) (x y : A) → slice_get (slice_set xs p x) q ≡ Some y → ((q ≡ p) × (x ≡ y)) ⊎ (slice_get xs q ≡ Some y)
get_set [] p q x y e = inr e
get_set (z ∷ xs) zero zero x y e = inl (refl, same_Some x y e)
get_set (z ∷ xs) zero (suc q) x y e = inr e
get_set (z ∷ xs) (suc p) zero x y e = inr e
get_set (z ∷ xs) (suc p) (suc q) x y e = elim (get_set xs p q x y e) [ inl h ↦ inl (ap suc h.0, h.1) | inr h ↦ inr h ]

stays_set : {A : Type 0} (xs : List A) (p q : ℕ) (x : A) → slice_get xs q ≡ Some x → slice_get (slice_set xs p x) q ≡ Some x
stays_set [] p q x e = e
stays_set (z ∷ xs) zero zero x e = refl
stays_set (z ∷ xs) zero (suc q) x e = e
stays_set (z ∷ xs) (suc p) zero x e = e
stays_set (z ∷ xs) (suc p) (suc q) x e = stays_set xs p q x e

-- ---- what is noted ----

last_same : (d : Drafted) (p q : ℕ) (a b : Option ℕ) → q ≡ p → Last a ≡ Last b → IsLast d p a → IsLast d q b
last_same d p q a b e f h = let same : a ≡ b = cc in subst (λ x. IsLast d x b) (sym e) (subst (IsLast d p) same h)

pub noted_walk : (d : Drafted) (known : List Known) (p : ℕ) → AreEnds d known → AreEnds d (slice_set known p Walked)
noted_walk d known p a = record {
  many = set_length known p Walked ∙ a.many;
  each = λ q o g e. elim (get_set known p q Walked (Last o) e) [ inl s ↦ absurd (let no : Walked ≡ Last o = s.1 in cc) | inr s ↦ a.each q o g s ];
}

pub noted_last : (d : Drafted) (known : List Known) (p : ℕ) (last : Option ℕ) → IsLast d p last → AreEnds d known → AreEnds d (slice_set known p (Last last))
noted_last d known p last h a = record {
  many = set_length known p (Last last) ∙ a.many;
  each = λ q o g e. elim (get_set known p q (Last last) (Last o) e) [ inl s ↦ last_same d p q last o s.0 s.1 h | inr s ↦ a.each q o g s ];
}

pub still_walked : (d : Drafted) (known : List Known) (p : ℕ) (last end : Option ℕ) → AreWalked d known last → AreWalked d (slice_set known p (Last end)) last
still_walked d known p last end a = λ q g e. elim (get_set known p q (Last end) Walked e) [ inl s ↦ absurd (let no : Last end ≡ Walked = s.1 in cc) | inr s ↦ a q g s ]

-- where nothing is known, that is true of every draft of so many places
pub none_known : (d : Drafted) (n : ℕ) (known : List Known) → known ≡ replicate n Nothing → n ≡ length d.gone → AreEnds d known
none_known d n known e h = record {
  many = ap (λ (ks : List Known). length ks) e ∙ length-replicate n Nothing ∙ h;
  each = λ p o g k. absurd (never n p o (ap (λ (ks : List Known). slice_get ks p) (sym e) ∙ k));
}
  where
    never : (n p : ℕ) (o : Option ℕ) → slice_get (replicate n Nothing) p ≡ Some (Last o) → ⊥
    never zero p o e = cc
    never (suc n) zero o e = cc
    never (suc n) (suc p) o e = never n p o e

-- so it is where a place of a draft is removed and all is forgotten
pub forgotten : (d same e : Drafted) (p : ℕ) (old new : List Known) → same ≡ d → e.gone ≡ slice_set same.gone p true → AreEnds d old → new ≡ replicate (length old) Nothing → AreEnds e new
forgotten d same e p old new f g a h =
    none_known e (length old) new h (a.many ∙ sym (ap (λ (gs : List Bool). length gs) g ∙ set_length same.gone p true ∙ ap (λ (x : Drafted). length x.gone) f))

-- ---- a walk ----

-- a walk from one place, which is at a second one now and goes on to a third: the places that it came by have the same end, and lead to one another and to the second
pub record IsWalk (d : Drafted) (known : List Known) (first at next : ℕ) : Type 0 where
  pub within : (at < length d.gone) × (next < length d.gone)
  pub kept : (is_gone d.gone at ≡ false) × (is_gone d.gone next ≡ false)
  pub hop : hop_at (code_of (lines_now d)) (rank d.gone at) ≡ Some (rank d.gone next)
  pub ends : AreEnds d known
  pub alike : (q : ℕ) → is_gone d.gone q ≡ false → slice_get known q ≡ Some Walked → (last : ℕ) → LastOf (code_of (lines_now d)) (rank d.gone q) last ↔ LastOf (code_of (lines_now d)) (rank d.gone at) last
  pub on : (q : ℕ) → is_gone d.gone q ≡ false → slice_get known q ≡ Some Walked → (v : ℕ) × (is_gone d.gone v ≡ false) × (hop_at (code_of (lines_now d)) (rank d.gone q) ≡ Some (rank d.gone v)) × ((v ≡ at) ⊎ (slice_get known v ≡ Some Walked))
  pub from : (last : ℕ) → LastOf (code_of (lines_now d)) (rank d.gone first) last ↔ LastOf (code_of (lines_now d)) (rank d.gone at) last

pub walk_goes_on : (d : Drafted) (known : List Known) (first at next further : ℕ) → IsWalk d known first at next → further < length d.gone → is_gone d.gone further ≡ false
    → hop_at (code_of (lines_now d)) (rank d.gone next) ≡ Some (rank d.gone further) → IsWalk d (slice_set known at Walked) first next further
walk_goes_on d known first at next further w l g h = record {
  within = (w.within.1, l);
  kept = (w.kept.1, g);
  hop = h;
  ends = noted_walk d known at w.ends;
  alike = λ q k e last. elim (get_set known at q Walked Walked e) [
    | inl s ↦ subst (λ x. LastOf code (rank d.gone x) last ↔ LastOf code (rank d.gone next) last) (sym s.0) (step last)
    | inr s ↦ then_step (rank d.gone q) last (w.alike q k s last)
  ];
  on = λ q k e. elim (get_set known at q Walked Walked e) [
    | inl s ↦ (next, w.kept.1, ap (λ x. hop_at code (rank d.gone x)) s.0 ∙ w.hop, inl refl)
    | inr s ↦ (let o = w.on q k s in (o.0, o.1, o.2, inr (walked o.0 o.3)))
  ];
  from = λ last. then_step (rank d.gone first) last (w.from last);
}
  where
    code : Code
    code = code_of (lines_now d)

    step : (last : ℕ) → LastOf code (rank d.gone at) last ↔ LastOf code (rank d.gone next) last
    step last = ends_alike code (rank d.gone at) (rank d.gone next) (rank d.gone further) last w.hop h

    then_step : (r last : ℕ) → LastOf code r last ↔ LastOf code (rank d.gone at) last → LastOf code r last ↔ LastOf code (rank d.gone next) last
    then_step r last a = let b = step last in (λ x. b.0 (a.0 x), λ y. a.1 (b.1 y))

    walked : (v : ℕ) → (v ≡ at) ⊎ (slice_get known v ≡ Some Walked) → slice_get (slice_set known at Walked) v ≡ Some Walked
    walked v o = elim o [
      | inl s ↦ subst (λ x. slice_get (slice_set known at Walked) x ≡ Some Walked) (sym s) (is_set known at Walked (let few = w.within.0 in let many = w.ends.many in omega arith))
      | inr s ↦ stays_set known at v Walked s
    ]

alike_last : (d : Drafted) (p q : ℕ) (o : Option ℕ) → ((last : ℕ) → LastOf (code_of (lines_now d)) (rank d.gone p) last ↔ LastOf (code_of (lines_now d)) (rank d.gone q) last) → IsLast d q o → IsLast d p o
alike_last d p q None e h = λ r k. h r ((e r).0 k)
alike_last d p q (Some last) e h = (h.0, h.1, record { last = h.2.last; of = (e h.2.last).1 h.2.of; named = h.2.named })

-- what is known of where the walk is at, is true of where it came by
pub walk_first : (d : Drafted) (known : List Known) (first at next : ℕ) (o : Option ℕ) → IsWalk d known first at next → IsLast d at o → IsLast d first o
walk_first d known first at next o w h = alike_last d first at o w.from h

pub walk_all : (d : Drafted) (known : List Known) (first at next : ℕ) (o : Option ℕ) → IsWalk d known first at next → IsLast d at o → AreWalked d known o
walk_all d known first at next o w h = λ q g e. alike_last d q at o (w.alike q g e) h

pub walk_all_with : (d : Drafted) (known : List Known) (first at next : ℕ) (o : Option ℕ) → IsWalk d known first at next → IsLast d at o → AreWalked d (slice_set known at Walked) o
walk_all_with d known first at next o w h = λ q g e. elim (get_set known at q Walked Walked e) [
  | inl s ↦ subst (λ x. IsLast d x o) (sym s.0) h
  | inr s ↦ alike_last d q at o (w.alike q g s) h
]

-- a place that a walk came by, by its rank
abbrev Came : Drafted → List Known → ℕ → Type 0
Came d known r = (q : ℕ) × (is_gone d.gone q ≡ false) × (slice_get known q ≡ Some Walked) × (rank d.gone q ≡ r)

-- a walk that comes to a place again goes round
pub walk_round : (d : Drafted) (known : List Known) (first at next : ℕ) → IsWalk d known first at next → slice_get known at ≡ Some Walked → IsLast d at None
walk_round d known first at next w e = λ r k. goes_on (code_of (lines_now d)) (Came d known) on k.0 (rank d.gone at) r (at, w.kept.0, e, refl) k.1
  where
    on : (r : ℕ) → Came d known r → (v : ℕ) × (hop_at (code_of (lines_now d)) r ≡ Some v) × Came d known v
    on r s =
        let o = w.on s.0 s.1 s.2 in
        let walked : slice_get known o.0 ≡ Some Walked = elim o.3 [ inl same ↦ subst (λ x. slice_get known x ≡ Some Walked) (sym same) e | inr was ↦ was ] in
        (rank d.gone o.0, ap (hop_at (code_of (lines_now d))) (sym s.3) ∙ o.2, (o.0, o.1, walked, refl))

pub walk_ends : (d : Drafted) (known : List Known) (first at next : ℕ) → IsWalk d known first at next → hop_at (code_of (lines_now d)) (rank d.gone next) ≡ None → IsLast d at (Some at)
walk_ends d known first at next w e = (w.within.0, w.kept.0, record { last = rank d.gone at; of = ends_here (code_of (lines_now d)) (rank d.gone at) (rank d.gone next) w.hop e; named = refl })

-- how many places there are of which nothing is known
abbrev pub unknown : List Known → ℕ
unknown [] = 0
unknown (Nothing ∷ ks) = suc (unknown ks)
unknown (Walked ∷ ks) = unknown ks
unknown (Last o ∷ ks) = unknown ks

pub fewer_unknown : (ks : List Known) (p : ℕ) → slice_get ks p ≡ Some Nothing → unknown (slice_set ks p Walked) < unknown ks
fewer_unknown [] p e = absurd (cc)
fewer_unknown (Nothing ∷ ks) zero e = omega arith
fewer_unknown (Walked ∷ ks) zero e = absurd (cc)
fewer_unknown (Last o ∷ ks) zero e = absurd (cc)
fewer_unknown (Nothing ∷ ks) (suc p) e = let h = fewer_unknown ks p e in omega arith
fewer_unknown (Walked ∷ ks) (suc p) e = fewer_unknown ks p e
fewer_unknown (Last o ∷ ks) (suc p) e = fewer_unknown ks p e

-- ---- what was found, and what of it counts ----

pub counts_from : (since latest n : ℕ) (found : List Stamped) → n ≡ length found → ((p : ℕ) (f : Stamped) → slice_get found p ≡ Some f → f.stamp < since) → map (known_in since latest) found ≡ replicate n Nothing
counts_from since latest zero [] e h = refl
counts_from since latest zero (f ∷ fs) e h = absurd (omega arith)
counts_from since latest (suc n) [] e h = absurd (omega arith)
counts_from since latest (suc n) (f ∷ fs) e h =
    let early : nat_lt f.stamp since ≡ true = (let l : f.stamp < since = h zero f refl in grind (arith, nat_tests)) in
    let first : known_in since latest f ≡ Nothing = ap (λ (b : Bool). if b then Nothing else known_by (nat_eq f.stamp latest) f.known) early in
    let rest : map (known_in since latest) fs ≡ replicate n Nothing = counts_from since latest n fs (omega arith) (λ p g k. h (suc p) g k) in
    ap (λ (k : Known). k ∷ map (known_in since latest) fs) first ∙ ap (λ (ks : List Known). Nothing ∷ ks) rest

-- where nothing was found, nothing is known
pub nothing_counts : (since latest n : ℕ) (found : List Stamped) → found ≡ replicate n (record { stamp = 0; known = Nothing }) → map (known_in since latest) found ≡ replicate n Nothing
nothing_counts since latest n found e = ap (map (known_in since latest)) e ∙ all n
  where
    one : (b : Bool) → (if b then Nothing else Nothing) ≡ Nothing
    one true = refl
    one false = refl

    all : (n : ℕ) → map (known_in since latest) (replicate n (record { stamp = 0; known = Nothing })) ≡ replicate n Nothing
    all zero = refl
    all (suc n) = ap (λ (k : Known). k ∷ map (known_in since latest) (replicate n (record { stamp = 0; known = Nothing }))) (one (nat_lt 0 since)) ∙ ap (λ (ks : List Known). Nothing ∷ ks) (all n)

-- under another latest number as much is known of ends
still : (a b c : Bool) (k : Known) (o : Option ℕ) → (if a then Nothing else known_by b k) ≡ Last o → (if a then Nothing else known_by c k) ≡ Last o
still true b c k o e = e
still false b c Nothing o e = e
still false true c Walked o e = absurd (cc)
still false false c Walked o e = absurd (cc)
still false b c (Last l) o e = e

still_known : (since latest next : ℕ) (found : List Stamped) (p : ℕ) (o : Option ℕ) → slice_get (map (known_in since next) found) p ≡ Some (Last o) → slice_get (map (known_in since latest) found) p ≡ Some (Last o)
still_known since latest next [] p o e = absurd (cc)
still_known since latest next (f ∷ fs) zero o e =
    ap Some (still (nat_lt f.stamp since) (nat_eq f.stamp next) (nat_eq f.stamp latest) f.known o (same_Some (known_in since next f) (Last o) e))
still_known since latest next (f ∷ fs) (suc p) o e = still_known since latest next fs p o e

pub still_ends : (d : Drafted) (since latest next : ℕ) (found : List Stamped) → AreEnds d (map (known_in since latest) found) → AreEnds d (map (known_in since next) found)
still_ends d since latest next found a = record {
  many = length-map found (known_in since next) ∙ sym (length-map found (known_in since latest)) ∙ a.many;
  each = λ q o g e. a.each q o g (still_known since latest next found q o e);
}

-- under a number of its own no walk came by
not_walked : (a b : Bool) (k : Known) → b ≡ false → (if a then Nothing else known_by b k) ≡ Walked → ⊥
not_walked true b k f e = cc
not_walked false true k f e = cc
not_walked false false Nothing f e = cc
not_walked false false Walked f e = cc
not_walked false false (Last l) f e = cc

pub none_walked : (since next : ℕ) (found : List Stamped) → ((p : ℕ) (f : Stamped) → slice_get found p ≡ Some f → f.stamp < next) → (q : ℕ) → slice_get (map (known_in since next) found) q ≡ Some Walked → ⊥
none_walked since next [] h q e = cc
none_walked since next (f ∷ fs) h zero e =
    let other : nat_eq f.stamp next ≡ false = (let l : f.stamp < next = h zero f refl in grind (arith, nat_tests)) in
    not_walked (nat_lt f.stamp since) (nat_eq f.stamp next) f.known other (same_Some (known_in since next f) Walked e)
none_walked since next (f ∷ fs) h (suc q) e = none_walked since next fs (λ p g k. h (suc p) g k) q e

-- what is noted under the latest number is known
pub noted_now : (since latest : ℕ) (known : Known) → since ≤ latest → known_in since latest (record { stamp = latest; known = known }) ≡ known
noted_now since latest known h =
    let late : nat_lt latest since ≡ false = grind (arith, nat_tests) in
    let now : nat_eq latest latest ≡ true = grind (arith, nat_tests) in
    ap (λ (b : Bool). if b then Nothing else known_by (nat_eq latest latest) known) late ∙ ap (λ (b : Bool). known_by b known) now ∙ same known
  where
    same : (k : Known) → known_by true k ≡ k
    same Nothing = refl
    same Walked = refl
    same (Last l) = refl

map_set : {A B : Type 0} (f : A → B) (xs : List A) (p : ℕ) (x : A) → map f (slice_set xs p x) ≡ slice_set (map f xs) p (f x)
map_set f [] p x = refl
map_set f (y ∷ xs) zero x = refl
map_set {B = B} f (y ∷ xs) (suc p) x = ap (λ (ys : List B). f y ∷ ys) (map_set f xs p x)

pub noted : (since latest p : ℕ) (found : List Stamped) (known : Known) → since ≤ latest → map (known_in since latest) (slice_set found p (record { stamp = latest; known = known })) ≡ slice_set (map (known_in since latest) found) p known
noted since latest p found known h =
    map_set (known_in since latest) found p (record { stamp = latest; known = known }) ∙ ap (slice_set (map (known_in since latest) found) p) (noted_now since latest known h)
