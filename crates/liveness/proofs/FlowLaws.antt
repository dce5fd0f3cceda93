-- Flows of a listing in which a window gave way.
use Rattle.std.proofs.Common.{◌≡◌, ℕ, zero, suc, ◌+◌, ◌-◌, ◌&&◌, ◌||◌, not, Bool, true, false, List, [], ◌∷◌, ◌++◌, length, map, Option, Some, None, refl, sym, ap, ◌∙◌, subst, inl, inr, arith}
use Rattle.std.specs.Prelude.{slice_get}
use Rattle.std.proofs.lemmas.Bool.{cases_lt}
use Rattle.thumb_instr.specs.declared.instr.Instr.{Instr}
use Rattle.thumb_instr.specs.declared.items.Items.{Items}
use Rattle.thumb_instr.specs.Items.{one_of, has}
use Rattle.thumb_instr.specs.Shape.{uses_of, writes_of}
use Rattle.thumb_model.specs.Listing.{Code}
use Rattle.thumb_model.specs.Flow.{Way, Leads, Onward, ToPlace, AnyPoint, Out, ways_of, ways}
use Rattle.thumb_model.proofs.Lists.{get_back}
use Rattle.liveness.specs.declared.flowing.Flow.{Flow}
use Rattle.shrinking_sets.specs.Marks.{some_reads}
use Rattle.shrinking_sets.specs.Straight.{is_straight}
use Rattle.shrinking_sets.proofs.Exchange.{straight_way}
use Rattle.padded_code.proofs.Padded.{lead_to, way_to}
use Rattle.liveness.specs.Kept.{if_onward, onward_writes, HasThese, FlowOf, AreFlowsFrom}
use Rattle.code_flow.specs.declared.way.Way.{Way as Ways}
use Rattle.code_flow.specs.Flow.{AreWays}
use Rattle.liveness.specs.Through.{uses_among, passed}
use Rattle.common_lemmas.proofs.Lists.{get_front}

-- ---- what a flow says ----

-- what passes a flow isn't written by a way to the next place
pub passer : (ws : List Way) (o : Option Items) (rest : Bool) (x : ℕ) → HasThese (onward_writes ws) o → passed o rest x ≡ true → (rest ≡ true) × (k : ℕ) × (w : Way) × (slice_get ws k ≡ Some w) × (w.leads ≡ Onward) × (one_of x w.writes ≡ false)
passer [] None rest x h t = absurd (cc)
passer [] (Some s) rest x h t = absurd h
passer (w ∷ ws) o rest x h t = go (λ g. passer ws o rest x g t) w.leads refl h
  where
    later : (HasThese (onward_writes ws) o → (rest ≡ true) × (k : ℕ) × (v : Way) × (slice_get ws k ≡ Some v) × (v.leads ≡ Onward) × (one_of x v.writes ≡ false)) → HasThese (onward_writes ws) o → (rest ≡ true) × (k : ℕ) × (v : Way) × (slice_get (w ∷ ws) k ≡ Some v) × (v.leads ≡ Onward) × (one_of x v.writes ≡ false)
    later f g = let r = f g in (r.0, suc r.1, r.2, r.3, r.4, r.5)

    both : (a b : Bool) → (a && not b) ≡ true → (a ≡ true) × (b ≡ false)
    both true false e = (refl, refl)
    both true true e = absurd (cc)
    both false b e = absurd (cc)

    here : (o : Option Items) → HasThese (Some w.writes) o → passed o rest x ≡ true → (rest ≡ true) × (one_of x w.writes ≡ false)
    here None g u = absurd g
    here (Some s) g u = let b = both rest (has s.bits x) u in (b.0, sym (g x) ∙ b.1)

    go : (HasThese (onward_writes ws) o → (rest ≡ true) × (k : ℕ) × (v : Way) × (slice_get ws k ≡ Some v) × (v.leads ≡ Onward) × (one_of x v.writes ≡ false)) → (l : Leads) → w.leads ≡ l → HasThese (if_onward l w.writes (onward_writes ws)) o → (rest ≡ true) × (k : ℕ) × (v : Way) × (slice_get (w ∷ ws) k ≡ Some v) × (v.leads ≡ Onward) × (one_of x v.writes ≡ false)
    go f Onward e g = let r = here o g t in (r.0, 0, w, refl, e, r.1)
    go f (ToPlace q) e g = later f g
    go f AnyPoint e g = later f g
    go f Out e g = later f g

-- ---- flows of a listing ----

-- what the ways of the code read
pub uses_are : (p : ℕ) (ms : List Way) (ws : List Ways) (x : ℕ) → AreWays p ms ws → uses_among ws x ≡ some_reads ms x
uses_are p [] [] x a = refl
uses_are p [] (w ∷ ws) x a = absurd a
uses_are p (m ∷ ms) [] x a = absurd a
uses_are p (m ∷ ms) (w ∷ ws) x a = ap (λ b. b || uses_among ws x) (a.0.uses x) ∙ ap (λ b. one_of x m.reads || b) (uses_are p ms ws x a.1)

-- the flow of one place more
pub push_flow : (code : Code) (q : ℕ) (fs more : List Flow) (f : Flow) (k : ℕ) → AreFlowsFrom code q fs → q + length fs ≡ k → more ≡ fs ++ f ∷ [] → FlowOf (ways code k) f → AreFlowsFrom code q more
push_flow code q fs more f k h l e i j g m =
    elim (cases_lt j (length fs)) [
      | inl t ↦ h j g (sym (ap (λ ss. slice_get ss j) e ∙ get_front fs (f ∷ []) j t) ∙ m)
      | inr t ↦
          let s = one_only (j - length fs) g (sym (ap (λ ss. slice_get ss j) e ∙ get_back fs (f ∷ []) (j - length fs) j (omega arith)) ∙ m) in
          subst (λ y. FlowOf (ways code y) g) (let z : k ≡ q + j = omega (arith, s.0) in z) (subst (λ (a : Flow). FlowOf (ways code k) a) s.1 i)
    ]
  where
    one_only : (i : ℕ) (g : Flow) → slice_get (f ∷ []) i ≡ Some g → (i ≡ 0) × (f ≡ g)
    one_only zero g u = (refl, let o : (let a : Option Flow = Some f in a) ≡ Some g = u in cc)
    one_only (suc i) g u = absurd (cc)

-- ---- flows stay ----

reads_moved : (f : ℕ → ℕ) (ws : List Way) (x : ℕ) → some_reads (map (way_to f) ws) x ≡ some_reads ws x
reads_moved f [] x = refl
reads_moved f (w ∷ ws) x = ap (λ b. one_of x w.reads || b) (reads_moved f ws x)

onward_moved : (f : ℕ → ℕ) (ws : List Way) → onward_writes (map (way_to f) ws) ≡ onward_writes ws
onward_moved f [] = refl
onward_moved f (w ∷ ws) = go (onward_moved f ws) w.leads
  where
    go : onward_writes (map (way_to f) ws) ≡ onward_writes ws → (l : Leads) → if_onward (lead_to f l) w.writes (onward_writes (map (way_to f) ws)) ≡ if_onward l w.writes (onward_writes ws)
    go e Onward = refl
    go e (ToPlace q) = e
    go e AnyPoint = e
    go e Out = e

pub flow_back : (f : ℕ → ℕ) (ws : List Way) (flow : Flow) → FlowOf (map (way_to f) ws) flow → FlowOf ws flow
flow_back f ws flow h = record {
  reads = λ x. h.reads x ∙ reads_moved f ws x;
  onward = subst (λ (o : Option (List ℕ)). HasThese o flow.onward) (onward_moved f ws) h.onward;
}

-- the flow of an instruction that goes straight on
pub straight_flow : (i : Instr) (uses writes : Items) → is_straight i ≡ true → ((x : ℕ) → has uses.bits x ≡ one_of x (uses_of i)) → ((x : ℕ) → has writes.bits x ≡ one_of x (writes_of i)) → (aim : Option ℕ) → FlowOf (ways_of aim i) (record { reads = uses; onward = Some writes })
straight_flow i uses writes s u w aim =
    let flow : Flow = record { reads = uses; onward = Some writes } in
    subst (λ (ws : List Way). FlowOf ws flow) (sym (straight_way aim i s)) (record { reads = λ x. u x ∙ or_none (one_of x (uses_of i)); onward = w })
  where
    or_none : (b : Bool) → b ≡ (b || false)
    or_none true = refl
    or_none false = refl
