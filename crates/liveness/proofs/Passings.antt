-- The code's functions on what ways read and pass on agree with the model's ways.
use Rattle.std.proofs.Common.{◌≡◌, ◌≢◌, ℕ, zero, suc, ◌+◌, ◌<◌, ◌&&◌, ◌||◌, not, Bool, true, false, List, [], ◌∷◌, length, get_or, Option, Some, None, refl, sym, ap, ◌∙◌, subst, ◌⊎◌, inl, inr, arith, eq-eqb}
use Rattle.std.specs.Prelude.{slice_get}
use Rattle.std.proofs.lemmas.Bool.{or_cases, or_left, or_right}
use Rattle.std.proofs.lemmas.Option.{same_Some, slice_get_read}
use Rattle.thumb_instr.specs.declared.items.Items.{Items}
use Rattle.thumb_instr.specs.Items.{one_of, has}
use Rattle.thumb_model.specs.Listing.{Code}
use Rattle.thumb_model.specs.Flow.{Way as ModelWay, Leads, Onward, ToPlace, AnyPoint, Out as Outside, ways, Follows}
use Rattle.shrinking_sets.specs.Marks.{some_reads, Passes}
use Rattle.code_flow.specs.declared.way.Way.{Way}
use Rattle.code_flow.specs.declared.way.Ways.{Ways}
use Rattle.code_flow.specs.Flow.{way_list, next_of, AreWays}
use Rattle.liveness.specs.Live.{set_at}
use Rattle.liveness.specs.Ways.{AreAllWays}
use Rattle.liveness.specs.Graph.{leads_to, some_leads, is_return, some_return, ways_in, ways_at, IsGraph}
use Rattle.liveness.specs.Through.{uses_among}
use Rattle.liveness.specs.declared.graph.Graph.{Graph}
use Rattle.liveness.proofs.Jumps.{leads_told}
use Rattle.liveness.specs.Within.{IsWired}
use Rattle.liveness.specs.Passing.{passes_to, passes_points, Keeps}
use Rattle.shrinking_sets.proofs.Cleared.{passing as both}
use Rattle.listing_parser.proofs.ReplaceLemmas.{and_first as and_left}
use Rattle.thumb_model.proofs.Lists.{present_at}
use Rattle.thumb_model.proofs.Shared.{within}

-- ---- one way, and two ----

pub one_way : (i l w : Bool) → (l && (i && not w)) ≡ (i && ((l && not w) || false))
one_way true true true = refl
one_way true true false = refl
one_way true false w = refl
one_way false true w = refl
one_way false false w = refl

-- ---- the ways of a place ----

-- each way of a place in the model has its way in the list
pub ways_there : (code : Code) (all : List (Option Ways)) → AreAllWays code all → length all ≡ length code.places → (p k : ℕ) (v : ModelWay) → slice_get (ways code p) k ≡ Some v → AreWays p (ways code p) (ways_at all p)
ways_there code all a m p k v g =
    let e = present_at all p (let l = within code p k v g in omega (arith, l, m)) in
    subst (λ (o : Option (Option Ways)). AreWays p (ways code p) (ways_in o)) (sym e.1) (a p e.0 e.1)

-- ways read what the model's ways read
pub uses_are : (p x : ℕ) (ms : List ModelWay) (es : List Way) → AreWays p ms es → uses_among es x ≡ some_reads ms x
uses_are p x [] [] a = refl
uses_are p x [] (e ∷ es) a = absurd a
uses_are p x (m ∷ ms) [] a = absurd a
uses_are p x (m ∷ ms) (e ∷ es) a = ap (λ b. b || uses_among es x) (a.0.uses x) ∙ ap (λ b. one_of x m.reads || b) (uses_are p x ms es a.1)

-- where the list says that it reads, the place does
pub uses_read : (code : Code) (all : List (Option Ways)) → AreAllWays code all → (p x : ℕ) → uses_among (ways_at all p) x ≡ true → some_reads (ways code p) x ≡ true
uses_read code all a p x h = go (slice_get all p) refl h
  where
    go : (o : Option (Option Ways)) → slice_get all p ≡ o → uses_among (ways_in o) x ≡ true → some_reads (ways code p) x ≡ true
    go None e h = absurd (cc)
    go (Some ws) e h = sym (uses_are p x (ways code p) (way_list ws) (a p ws e)) ∙ h

leads_there : (code : Code) (p q : ℕ) (l : Leads) → l ≢ AnyPoint → Follows code p l q → leads_to q (next_of p l) ≡ true
leads_there code p q Onward d f = eq-eqb (p + 1) q (sym f)
leads_there code p q (ToPlace r) d f = eq-eqb r q (sym f)
leads_there code p q AnyPoint d f = absurd (d refl)
leads_there code p q Outside d f = absurd f

passing : (p q x : ℕ) (ms : List ModelWay) (es : List Way) → AreWays p ms es → (k : ℕ) (v : ModelWay) → slice_get ms k ≡ Some v → one_of x v.writes ≡ false → leads_to q (next_of p v.leads) ≡ true → passes_to q es x ≡ true
passing p q x [] es a k v g n l = absurd (cc)
passing p q x (m ∷ ms) [] a k v g n l = absurd a
passing p q x (m ∷ ms) (e ∷ es) a zero v g n l =
    let s : m ≡ v = same_Some m v g in
    or_left _ _ (both _ _ (ap (leads_to q) (a.0.leads ∙ ap (λ (u : ModelWay). next_of p u.leads) s) ∙ l) (a.0.writes x ∙ ap (λ (u : ModelWay). one_of x u.writes) s ∙ n))
passing p q x (m ∷ ms) (e ∷ es) a (suc k) v g n l = or_right (leads_to q e.next && not (has e.writes.bits x)) _ (passing p q x ms es a.1 k v g n l)

passing_points : (p x : ℕ) (ms : List ModelWay) (es : List Way) → AreWays p ms es → (k : ℕ) (v : ModelWay) → slice_get ms k ≡ Some v → one_of x v.writes ≡ false → v.leads ≡ AnyPoint → passes_points es x ≡ true
passing_points p x [] es a k v g n l = absurd (cc)
passing_points p x (m ∷ ms) [] a k v g n l = absurd a
passing_points p x (m ∷ ms) (e ∷ es) a zero v g n l =
    let s : m ≡ v = same_Some m v g in
    or_left _ _ (both _ _ (ap is_return (a.0.leads ∙ ap (λ (u : ModelWay). next_of p u.leads) s ∙ ap (next_of p) l)) (a.0.writes x ∙ ap (λ (u : ModelWay). one_of x u.writes) s ∙ n))
passing_points p x (m ∷ ms) (e ∷ es) a (suc k) v g n l = or_right (is_return e.next && not (has e.writes.bits x)) _ (passing_points p x ms es a.1 k v g n l)

-- a way of the model that passes the item to a place, or to any code point
pub passes_by : (code : Code) (x p q : ℕ) (es : List Way) → AreWays p (ways code p) es → (a : Passes code x p q) → a.found.leads ≢ AnyPoint → passes_to q es x ≡ true
passes_by code x p q es w a d = passing p q x (ways code p) es w a.number a.found a.is a.unwritten (leads_there code p q a.found.leads d a.leads)

pub passes_any_by : (code : Code) (x p q : ℕ) (es : List Way) → AreWays p (ways code p) es → (a : Passes code x p q) → a.found.leads ≡ AnyPoint → passes_points es x ≡ true
passes_any_by code x p q es w a d = passing_points p x (ways code p) es w a.number a.found a.is a.unwritten d

pub passes_there : (code : Code) (all : List (Option Ways)) → AreAllWays code all → length all ≡ length code.places → (x p q : ℕ) → (a : Passes code x p q) → a.found.leads ≢ AnyPoint → passes_to q (ways_at all p) x ≡ true
passes_there code all w m x p q a d = passing p q x (ways code p) (ways_at all p) (ways_there code all w m p a.number a.found a.is) a.number a.found a.is a.unwritten (leads_there code p q a.found.leads d a.leads)

pub passes_any : (code : Code) (all : List (Option Ways)) → AreAllWays code all → length all ≡ length code.places → (x p q : ℕ) → (a : Passes code x p q) → a.found.leads ≡ AnyPoint → passes_points (ways_at all p) x ≡ true
passes_any code all w m x p q a d = passing_points p x (ways code p) (ways_at all p) (ways_there code all w m p a.number a.found a.is) a.number a.found a.is a.unwritten d

pub passes_leads : (q x : ℕ) (es : List Way) → passes_to q es x ≡ true → some_leads q es ≡ true
passes_leads q x [] h = absurd (cc)
passes_leads q x (e ∷ es) h = elim (or_cases (leads_to q e.next && not (has e.writes.bits x)) (passes_to q es x) h) [
  | inl t ↦ or_left (leads_to q e.next) (some_leads q es) (and_left (leads_to q e.next) (not (has e.writes.bits x)) t)
  | inr t ↦ or_right (leads_to q e.next) (some_leads q es) (passes_leads q x es t)
]

pub passes_return : (x : ℕ) (es : List Way) → passes_points es x ≡ true → some_return es ≡ true
passes_return x [] h = absurd (cc)
passes_return x (e ∷ es) h = elim (or_cases (is_return e.next && not (has e.writes.bits x)) (passes_points es x) h) [
  | inl t ↦ or_left (is_return e.next) (some_return es) (and_left (is_return e.next) (not (has e.writes.bits x)) t)
  | inr t ↦ or_right (is_return e.next) (some_return es) (passes_return x es t)
]

-- a graph is wired
pub wired : (code : Code) (all : List (Option Ways)) (g : Graph) → IsGraph code all g → IsWired all g.callers
wired code all g h = record { told = λ p q t. leads_told code all p q h.ways t; callers = h.callers }

-- the ways that stand in the list
pub ways_read : (all : List (Option Ways)) (p : ℕ) (e : Option Ways) → p < length all → e ≡ get_or all p e → ways_at all p ≡ way_list e
ways_read all p e l r = ap ways_in (slice_get_read all _ p e refl l r)

-- ---- what is cleared ----

-- an item that is passed is cleared, unless it is kept
pub told_off : (i p u f : Bool) → i ≡ true → p ≡ true → (((i && p) && not u) && not f) ≡ false → (u ≡ true) ⊎ (f ≡ true)
told_off i p true f h g e = inl refl
told_off i p false true h g e = inr refl
told_off true true false false h g e = absurd (cc)
told_off true false false false h g e = absurd (cc)
told_off false p false false h g e = absurd (cc)

-- where what is lost was cleared, a place that passes an item and still has it keeps it
pub keeps_told : (all : List (Option Ways)) (forward : List Items) (p x : ℕ) (e : Option Ways) (passes : List Way → ℕ → Bool) (items passed used here lost : Items) (after : Bool) → ways_at all p ≡ way_list e → set_at forward p ≡ here.bits → has passed.bits x ≡ (has items.bits x && passes (way_list e) x) → has used.bits x ≡ uses_among (way_list e) x
    → has lost.bits x ≡ ((has passed.bits x && not (has used.bits x)) && not (has here.bits x)) → (has lost.bits x ≡ true → after ≡ false) → has items.bits x ≡ true → passes (ways_at all p) x ≡ true → after ≡ true → Keeps all forward p x
keeps_told all forward p x e passes items passed used here lost after ways fwd hp hu hl told i q a = turn (told_off (has items.bits x) (passes (way_list e) x) (has used.bits x) (has here.bits x) i (ap (λ ws. passes ws x) (sym ways) ∙ q) (none (has lost.bits x) refl))
  where
    none : (b : Bool) → has lost.bits x ≡ b → (((has items.bits x && passes (way_list e) x) && not (has used.bits x)) && not (has here.bits x)) ≡ false
    none false n = sym (hl ∙ ap (λ b. (b && not (has used.bits x)) && not (has here.bits x)) hp) ∙ n
    none true n = absurd (let f = told n in cc)

    turn : (has used.bits x ≡ true) ⊎ (has here.bits x ≡ true) → Keeps all forward p x
    turn (inl u) = inl (ap (λ ws. uses_among ws x) ways ∙ sym hu ∙ u)
    turn (inr f) = inr (ap (λ y. has y x) fwd ∙ f)
