-- Jumps to a place, followed back.
use Rattle.std.proofs.Common.{◌≡◌, ◌≢◌, ℕ, zero, suc, ◌+◌, ◌<◌, ◌≤◌, Bool, true, false, List, [], ◌∷◌, ◌++◌, length, length-append, Option, Some, None, if◌then◌else◌, refl, sym, ap, ◌∙◌, subst, ◌⊎◌, inl, inr, arith, eqb-true, ne_eqb}
use Rattle.std.specs.Prelude.{slice_get, slice_set}
use Rattle.std.proofs.lemmas.Option.{slice_get_past, same_Some, slice_get_within}
use Rattle.std.proofs.lemmas.Bool.{cases_eq, cases_lt, or_cases}
use Rattle.std.proofs.lemmas.List.{length-set}
use Rattle.thumb_instr.specs.declared.instr.Instr.{Instr}
use Rattle.thumb_instr.specs.declared.instr.Instr.TheVariants as instr
use Rattle.thumb_instr.specs.Items.{one_of}
use Rattle.thumb_instr.proofs.Listed.{one_of_append}
use Rattle.thumb_model.specs.Listing.{Place as Standing, Op, Word, Code}
use Rattle.thumb_model.specs.Flow.{Way as ModelWay, Leads, Onward, ToPlace, AnyPoint, Out as Outside, ways_of, ways_on, ways}
use Rattle.thumb_model.proofs.Lists.{get_back}
use Rattle.code_flow.specs.declared.way.Next.{Next}
use Rattle.code_flow.specs.declared.way.Next.TheVariants.{Place, Points, Out}
use Rattle.code_flow.specs.declared.way.Way.{Way}
use Rattle.code_flow.specs.declared.way.Ways.{Ways}
use Rattle.code_flow.specs.Flow.{way_list, next_of, AreWays}
use Rattle.liveness.specs.declared.graph.Jump.{Jump}
use Rattle.liveness.specs.declared.graph.Callers.{Callers}
use Rattle.kept_places.specs.Marks.{marked}
use Rattle.liveness.specs.Ways.{AreAllWays}
use Rattle.liveness.specs.Graph.{leads_to, some_leads, some_return, other_than, jump_from, ways_in, ways_at, JumpsTo, IsLast, IsJump, AreCallers, AreReturns}
use Rattle.liveness.proofs.Paths.{or_left, or_right}
use Rattle.liveness.proofs.Waits.{is_one, one_is}
use Rattle.common_lemmas.proofs.Lists.{get_front}

-- ---- no way but the first leads to a place that it names ----

abbrev IsUnnamed : Leads → Type 0
IsUnnamed Onward = Unit {0}
IsUnnamed (ToPlace q) = ⊥
IsUnnamed AnyPoint = Unit {0}
IsUnnamed Outside = Unit {0}

abbrev AreUnnamed : List ModelWay → Type 0
AreUnnamed [] = Unit {0}
AreUnnamed (m ∷ ms) = IsUnnamed m.leads × AreUnnamed ms

abbrev BehindUnnamed : List ModelWay → Type 0
BehindUnnamed [] = Unit {0}
BehindUnnamed (m ∷ ms) = AreUnnamed ms

one_or_two : (b : Bool) (k l m : ModelWay) → IsUnnamed l.leads → BehindUnnamed (if b then k ∷ l ∷ [] else m ∷ [])
one_or_two true k l m u = (u, tt)
one_or_two false k l m u = tt

-- a row: the ways of an instruction
behind_unnamed : (o : Option ℕ) (i : Instr) → BehindUnnamed (ways_of o i)
behind_unnamed o (instr.Bx m) = (tt, tt)
behind_unnamed o (instr.Blx m) = (tt, tt)
behind_unnamed o (instr.Pop l) = one_or_two _ _ _ _ tt
behind_unnamed None (instr.BranchIf c d) = (tt, tt)
behind_unnamed (Some q) (instr.BranchIf c d) = (tt, tt)
behind_unnamed None (instr.Branch d) = tt
behind_unnamed (Some q) (instr.Branch d) = tt
behind_unnamed None (instr.Call d) = tt
behind_unnamed (Some q) (instr.Call d) = tt
behind_unnamed o i = tt

stands_unnamed : (code : Code) (o : Option Standing) → BehindUnnamed (ways_on code o)
stands_unnamed code None = tt
stands_unnamed code (Some (Word v)) = tt
stands_unnamed code (Some (Op i m)) = behind_unnamed _ i

unnamed_leads : (p q : ℕ) (ms : List ModelWay) (ws : List Way) → AreWays q ms ws → AreUnnamed ms → some_leads p ws ≡ true → q + 1 ≡ p
unnamed_leads p q [] [] a u h = absurd (cc)
unnamed_leads p q [] (w ∷ ws) a u h = absurd a
unnamed_leads p q (m ∷ ms) [] a u h = absurd a
unnamed_leads p q (m ∷ ms) (w ∷ ws) a u h = elim (or_cases _ _ h) [
  | inl t ↦ by m.leads u.0 (sym (ap (leads_to p) a.0.leads) ∙ t)
  | inr t ↦ unnamed_leads p q ms ws a.1 u.1 t
]
  where
    by : (l : Leads) → IsUnnamed l → leads_to p (next_of q l) ≡ true → q + 1 ≡ p
    by Onward v t = eqb-true (q + 1) p t
    by (ToPlace r) v t = absurd v
    by AnyPoint v t = absurd (cc)
    by Outside v t = absurd (cc)

named : (p n : ℕ) (t : Next) → leads_to p t ≡ true → n ≢ p → other_than n t ≡ Some p
named p n (Place r) h d =
    let e : r ≡ p = eqb-true r p h in
    ap (λ b. if b then None else Some r) (ne_eqb r n (λ s. d (sym s ∙ e))) ∙ ap (λ (y : ℕ). Some y) e
named p n Points h d = absurd (cc)
named p n Out h d = absurd (cc)

leads_by : (p q : ℕ) (ms : List ModelWay) (ws : List Way) → AreWays q ms ws → BehindUnnamed ms → some_leads p ws ≡ true → (q + 1 ≡ p) ⊎ (jump_from (q + 1) ws ≡ Some p)
leads_by p q [] [] a u h = absurd (cc)
leads_by p q [] (w ∷ ws) a u h = absurd a
leads_by p q (m ∷ ms) [] a u h = absurd a
leads_by p q (m ∷ ms) (w ∷ ws) a u h = elim (or_cases _ _ h) [
  | inr t ↦ inl (unnamed_leads p q ms ws a.1 u t)
  | inl t ↦ elim (cases_eq (q + 1) p) [
    | inl e ↦ inl e
    | inr d ↦ inr (named p (q + 1) w.next t d)
  ]
]

-- a way that leads to a place comes from right before it, or is a jump
pub leads_told : (code : Code) (all : List (Option Ways)) (p q : ℕ) → AreAllWays code all → some_leads p (ways_at all q) ≡ true → (q + 1 ≡ p) ⊎ JumpsTo all p q
leads_told code all p q a h = go (slice_get all q) refl h
  where
    go : (o : Option (Option Ways)) → slice_get all q ≡ o → some_leads p (ways_in o) ≡ true → (q + 1 ≡ p) ⊎ (jump_from (q + 1) (ways_in o) ≡ Some p)
    go None e h = absurd (cc)
    go (Some ws) e h = leads_by p q (ways code q) (way_list ws) (a q ws e) (stands_unnamed code (slice_get code.places q)) h

-- ---- the last of the jumps to a place ----

pub same_target : (a b : ℕ) → (let o : Option ℕ = Some a in o) ≡ Some b → a ≡ b
same_target a b e = cc

pub target_is : (t u : ℕ) (o : Option ℕ) → Some u ≡ o → Some t ≡ o → t ≡ u
target_is t u o e f = cc

only_jump : (j i : Jump) → slice_get (j ∷ []) 0 ≡ Some i → j ≡ i
only_jump j i e = same_Some j i e

last_more : (all : List (Option Ways)) (jumps more : List Jump) (t n number : ℕ) → IsLast all jumps t n number → IsLast all (jumps ++ more) t n number
last_more all jumps more t n number l = record {
  within = omega (arith, l.within, length-append jumps more);
  jump = λ k j e g. l.jump k j e (sym (get_front jumps more k (omega (arith, l.within, e))) ∙ g);
  others = λ q b h. let r = l.others q b h in (r.0, r.1, r.2, get_front jumps more r.0 (omega (arith, l.within, r.2)) ∙ r.3, r.4);
}

last_on : (all : List (Option Ways)) (jumps : List Jump) (t n number : ℕ) → (JumpsTo all t n → ⊥) → IsLast all jumps t n number → IsLast all jumps t (n + 1) number
last_on all jumps t n number none l = record {
  within = l.within;
  jump = λ k j e g. let r = l.jump k j e g in (omega (arith, r.0), r.1);
  others = λ q b h. elim (cases_eq q n) [
    | inl e ↦ absurd (none (subst (JumpsTo all t) e h))
    | inr d ↦ l.others q (omega (arith, b, d)) h
  ];
}

last_here : (all : List (Option Ways)) (jumps : List Jump) (t : ℕ) (j : Jump) → JumpsTo all t j.place → IsLast all (jumps ++ j ∷ []) t (j.place + 1) (length jumps + 1)
last_here all jumps t j to = record {
  within = omega (arith, length-append jumps (j ∷ []));
  jump = λ k i e g. let s = only_jump j i (sym (get_back jumps (j ∷ []) 0 k (omega (arith, e))) ∙ g) in subst (λ (y : Jump). (y.place < j.place + 1) × JumpsTo all t y.place) s (omega arith, to);
  others = λ q b h. (length jumps, j, omega arith, get_back jumps (j ∷ []) 0 (length jumps) (omega arith), omega (arith, b));
}

-- ---- one place more ----

pub callers_on : (all : List (Option Ways)) (n : ℕ) (c : Callers) → AreCallers all n c → ((t : ℕ) → t < length all → JumpsTo all t n → ⊥) → AreCallers all (n + 1) c
callers_on all n c a none = record {
  as_many = a.as_many;
  few = omega (arith, a.few);
  last = λ t number g. last_on all c.jumps.items t n number (none t (let l = slice_get_within c.last.items t number g in omega (arith, l, a.as_many))) (a.last t number g);
  jumps = λ k j g. let i = a.jumps k j g in record { below = omega (arith, i.below); before = i.before; earlier = i.earlier };
}

set_get_here : (xs : List ℕ) (p x y : ℕ) → slice_get (slice_set xs p x) p ≡ Some y → x ≡ y
set_get_here [] p x y h = absurd (cc)
set_get_here (z ∷ xs) zero x y h = same_target x y h
set_get_here (z ∷ xs) (suc p) x y h = set_get_here xs p x y h

set_get_else : (xs : List ℕ) (p q x : ℕ) → q ≢ p → slice_get (slice_set xs p x) q ≡ slice_get xs q
set_get_else [] p q x d = refl
set_get_else (z ∷ xs) zero zero x d = absurd (d refl)
set_get_else (z ∷ xs) zero (suc q) x d = refl
set_get_else (z ∷ xs) (suc p) zero x d = refl
set_get_else (z ∷ xs) (suc p) (suc q) x d = set_get_else xs p q x (λ e. d (ap suc e))

pub jump_noted : (all : List (Option Ways)) (n target number : ℕ) (j : Jump) (c c' : Callers) → AreCallers all n c → JumpsTo all target n → slice_get c.last.items target ≡ Some number → j.place ≡ n → j.earlier ≡ number
    → c'.jumps.items ≡ c.jumps.items ++ j ∷ [] → c'.last.items ≡ slice_set c.last.items target (length c.jumps.items + 1) → AreCallers all (n + 1) c'
jump_noted all n target number j c c' a to g here back e f = record {
  as_many = ap length f ∙ length-set c.last.items target (length c.jumps.items + 1) ∙ a.as_many;
  few = omega (arith, a.few, ap length e, length-append c.jumps.items (j ∷ []));
  last = λ t r h. subst (λ (js : List Jump). IsLast all js t (n + 1) r) (sym e) (last t r (sym (ap (λ (xs : List ℕ). slice_get xs t) f) ∙ h));
  jumps = λ k i h. subst (λ (js : List Jump). IsJump all js (n + 1) k i) (sym e) (each k i (sym (ap (λ (js : List Jump). slice_get js k) e) ∙ h));
}
  where
    no_other : (t : ℕ) → t ≢ target → JumpsTo all t n → ⊥
    no_other t d h = d (same_target t target (sym h ∙ to))

    last : (t r : ℕ) → slice_get (slice_set c.last.items target (length c.jumps.items + 1)) t ≡ Some r → IsLast all (c.jumps.items ++ j ∷ []) t (n + 1) r
    last t r h = elim (cases_eq t target) [
      | inr d ↦ last_more all c.jumps.items (j ∷ []) t (n + 1) r (last_on all c.jumps.items t n r (no_other t d) (a.last t r (sym (set_get_else c.last.items target t (length c.jumps.items + 1) d) ∙ h)))
      | inl s ↦
          let new : length c.jumps.items + 1 ≡ r = set_get_here c.last.items target (length c.jumps.items + 1) r (sym (ap (slice_get (slice_set c.last.items target (length c.jumps.items + 1))) s) ∙ h) in
          let one = last_here all c.jumps.items target j (subst (JumpsTo all target) (sym here) to) in
          subst (λ y. IsLast all (c.jumps.items ++ j ∷ []) y (n + 1) r) (sym s)
          (subst (λ y. IsLast all (c.jumps.items ++ j ∷ []) target (n + 1) y) new (subst (λ y. IsLast all (c.jumps.items ++ j ∷ []) target (y + 1) (length c.jumps.items + 1)) here one))
    ]

    new_one : IsJump all (c.jumps.items ++ j ∷ []) (n + 1) (length c.jumps.items) j
    new_one = record {
      below = omega (arith, here);
      before = let w = (a.last target number g).within in omega (arith, back, w);
      earlier = λ t h.
          let same : target ≡ t = same_target target t (sym to ∙ subst (JumpsTo all t) here h) in
          last_more all c.jumps.items (j ∷ []) t j.place j.earlier
          (subst (λ y. IsLast all c.jumps.items y j.place j.earlier) same (subst (λ y. IsLast all c.jumps.items target y j.earlier) (sym here) (subst (λ y. IsLast all c.jumps.items target n y) (sym back) (a.last target number g))));
    }

    each : (k : ℕ) (i : Jump) → slice_get (c.jumps.items ++ j ∷ []) k ≡ Some i → IsJump all (c.jumps.items ++ j ∷ []) (n + 1) k i
    each k i h = elim (cases_lt k (length c.jumps.items)) [
      | inl l ↦ let o = a.jumps k i (sym (get_front c.jumps.items (j ∷ []) k l) ∙ h) in record {
        below = omega (arith, o.below);
        before = o.before;
        earlier = λ t u. last_more all c.jumps.items (j ∷ []) t i.place i.earlier (o.earlier t u);
      }
      | inr l ↦
          let inside = slice_get_within (c.jumps.items ++ j ∷ []) k i h in
          let at : length c.jumps.items ≡ k = omega (arith, l, inside, length-append c.jumps.items (j ∷ [])) in
          let is : j ≡ i = only_jump j i (sym (get_back c.jumps.items (j ∷ []) 0 k (omega (arith, at))) ∙ h) in
          subst (λ y. IsJump all (c.jumps.items ++ j ∷ []) (n + 1) y i) at (subst (λ (y : Jump). IsJump all (c.jumps.items ++ j ∷ []) (n + 1) (length c.jumps.items) y) is new_one)
    ]

pub is_within : (all : List (Option Ways)) (q : ℕ) → some_return (ways_at all q) ≡ true → q < length all
is_within all q h = elim (cases_lt q (length all)) [
  | inl l ↦ l
  | inr l ↦ absurd (let f : some_return (ways_in None) ≡ true = ap (λ o. some_return (ways_in o)) (sym (slice_get_past all q l)) ∙ h in cc)
]

-- ---- told one by one ----

-- the jumps to t from places before some n are left, and the others are marked
abbrev pub AreTold : List (Option Ways) → List Jump → ℕ → ℕ → List Bool → Type 0
AreTold all jumps t rest ms = (n : ℕ) × IsLast all jumps t n rest × ((q : ℕ) → n ≤ q → JumpsTo all t q → marked ms q ≡ true)

pub none_told : (all : List (Option Ways)) (c : Callers) (t rest : ℕ) (ms : List Bool) → AreCallers all (length all) c → slice_get c.last.items t ≡ Some rest → AreTold all c.jumps.items t rest ms
none_told all c t rest ms a g = (length all, a.last t rest g, λ q l h. absurd (none q l h))
  where
    none : (q : ℕ) → length all ≤ q → JumpsTo all t q → ⊥
    none q l h = let f : jump_from (q + 1) (ways_in None) ≡ Some t = ap (λ o. jump_from (q + 1) (ways_in o)) (sym (slice_get_past all q l)) ∙ h in cc

pub jump_told : (all : List (Option Ways)) (n : ℕ) (c : Callers) (t rest k : ℕ) (j : Jump) (ms ms' : List Bool) → AreCallers all n c → slice_get c.jumps.items k ≡ Some j → rest ≡ suc k → AreTold all c.jumps.items t rest ms → ((q : ℕ) → marked ms q ≡ true → marked ms' q ≡ true) → marked ms' j.place ≡ true
    → AreTold all c.jumps.items t j.earlier ms'
jump_told all n c t rest k j ms ms' a g r told kept here = (j.place, (a.jumps k j g).earlier t (told.1.jump k j r g).1, more)
  where
    more : (q : ℕ) → j.place ≤ q → JumpsTo all t q → marked ms' q ≡ true
    more q l h = elim (cases_lt q told.0) [
      | inr b ↦ kept q (told.2 q b h)
      | inl b ↦
          let o = told.1.others q b h in
          let same : k ≡ o.0 = omega (arith, r, o.2) in
          let is : j ≡ o.1 = same_Some j o.1 (sym g ∙ ap (slice_get c.jumps.items) same ∙ o.3) in
          let at : q ≡ j.place = omega (arith, l, o.4, ap (λ (y : Jump). y.place) is) in
          ap (marked ms') at ∙ here
    ]

-- ---- the places from which a way leads to any code point ----

pub returns_on : (all : List (Option Ways)) (n : ℕ) (returns : List ℕ) → some_return (ways_at all n) ≡ false → AreReturns all n returns → AreReturns all (n + 1) returns
returns_on all n returns none a = record {
  all_of_them = λ q l h. elim (cases_eq q n) [
    | inl e ↦ absurd (let t : some_return (ways_at all n) ≡ true = subst (λ y. some_return (ways_at all y) ≡ true) e h in cc)
    | inr d ↦ a.all_of_them q (omega (arith, l, d)) h
  ];
  within = λ q h. let w = a.within q h in omega (arith, w);
}

pub return_noted : (all : List (Option Ways)) (n : ℕ) (returns more : List ℕ) → more ≡ returns ++ n ∷ [] → AreReturns all n returns → AreReturns all (n + 1) more
return_noted all n returns more e a = record {
  all_of_them = λ q l h. ap (one_of q) e ∙ one_of_append q returns (n ∷ []) ∙ elim (cases_eq q n) [
    | inl s ↦ or_right (one_of q returns) _ (is_one q n s)
    | inr d ↦ or_left _ _ (a.all_of_them q (omega (arith, l, d)) h)
  ];
  within = λ q h. elim (or_cases (one_of q returns) (one_of q (n ∷ [])) (sym (one_of_append q returns (n ∷ [])) ∙ sym (ap (one_of q) e) ∙ h)) [
    | inl o ↦ let w = a.within q o in omega (arith, w)
    | inr o ↦ let s = one_is q n o in omega (arith, s)
  ];
}
