-- A line isn't both accepted and faulty, and has at most one fault.
use Rattle.std.proofs.Common.{◌≡◌, ℕ, ℤ, ◌+◌, List, [], ◌∷◌, map, sym, ◌∙◌, ap, inl, inr, arith, Option, None, true, false, true≢false}
use Rattle.std.specs.Prelude.{All, Any, IsSome, is_some, unsigned_abs}
use Rattle.std.proofs.lemmas.List.Elements.{All-contains}
use Rattle.clause_model.specs.Clauses.{negated}
use Rattle.clause_model.proofs.Sound.{negations_consistent}
use Rattle.clause_model.proofs.Runs.{refutes_or_stops, stops_once}
use Rattle.lrat_check.specs.declared.fault.LineFault.{LineFault}
use Rattle.lrat_check.specs.declared.fault.LineFault.TheVariants.{Dead}
use Rattle.lrat_check.specs.Numbers.{is_negative}
use Rattle.lrat_check.specs.Text.{Content, addition, deletion, HasGoodParts, without, Deletes, DeadAt}
use Rattle.lrat_check.specs.Checking.{State, live_at, Accepts}
use Rattle.lrat_check.specs.Faults.{fault_of, IsFaultOf}

signs_differ : (hints : List ℤ) → All (λ h. is_negative h ≡ false) hints → Any (λ h. is_negative h ≡ true) hints → ⊥
signs_differ hints h t = true≢false (sym t.4 ∙ All-contains (λ h. is_negative h ≡ false) hints t.1 h (t.0, t.2, t.3))

there_or_not : (o : Option (List ℕ)) → IsSome o → o ≡ None → ⊥
there_or_not o s e = true≢false (sym s ∙ ap (λ (p : Option (List ℕ)). is_some p) e)

pub deletes_or_dies : (live : ℕ → Option (List ℕ)) (ids : List ℕ) (later : ℕ → Option (List ℕ)) (n place : ℕ) → Deletes live ids later → DeadAt live ids n place → ⊥
deletes_or_dies live [] later n place d p = p
deletes_or_dies live (id ∷ ids) later n place d (inl p) = there_or_not (live id) d.0 p.0
deletes_or_dies live (id ∷ ids) later n place d (inr p) = deletes_or_dies (without live id) ids later (n + 1) place d.1 p.1

dies_once : (live : ℕ → Option (List ℕ)) (ids : List ℕ) (n i j : ℕ) → DeadAt live ids n i → DeadAt live ids n j → i ≡ j
dies_once live [] n i j p q = absurd p
dies_once live (id ∷ ids) n i j (inl p) (inl q) = p.1 ∙ sym q.1
dies_once live (id ∷ ids) n i j (inl p) (inr q) = absurd (there_or_not (live id) q.0 p.0)
dies_once live (id ∷ ids) n i j (inr p) (inl q) = absurd (there_or_not (live id) p.0 q.0)
dies_once live (id ∷ ids) n i j (inr p) (inr q) = dies_once (without live id) ids (n + 1) i j p.1 q.1

pub accepted_or_faulty : (old new : State) (content : Content) (fault : LineFault) → HasGoodParts content → Accepts old content new → IsFaultOf old content fault → ⊥
accepted_or_faulty old new (addition id literals hints) fault g a (inl o) = let b = a.later in omega (arith, o.0)
accepted_or_faulty old new (addition id literals hints) fault g a (inr (inl r)) = signs_differ hints a.no_minus r.1
accepted_or_faulty old new (addition id literals hints) fault g a (inr (inr s)) =
    refutes_or_stops (live_at old) (map negated literals) (map unsigned_abs hints) 1 s.2.0 (negations_consistent literals g.1) a.follows s.2.1
accepted_or_faulty old new (deletion id ids) fault g a p = deletes_or_dies (live_at old) ids (live_at new) 1 p.0 a.live p.1

pub one_fault : (old : State) (content : Content) (f h : LineFault) → HasGoodParts content → IsFaultOf old content f → IsFaultOf old content h → f ≡ h
one_fault old (addition id literals hints) f h g (inl p) (inl q) = p.1 ∙ sym q.1
one_fault old (addition id literals hints) f h g (inl p) (inr (inl q)) = absurd (omega (arith, p.0, q.0))
one_fault old (addition id literals hints) f h g (inl p) (inr (inr q)) = absurd (omega (arith, p.0, q.0))
one_fault old (addition id literals hints) f h g (inr (inl p)) (inl q) = absurd (omega (arith, p.0, q.0))
one_fault old (addition id literals hints) f h g (inr (inr p)) (inl q) = absurd (omega (arith, p.0, q.0))
one_fault old (addition id literals hints) f h g (inr (inl p)) (inr (inl q)) = p.2 ∙ sym q.2
one_fault old (addition id literals hints) f h g (inr (inl p)) (inr (inr q)) = absurd (signs_differ hints q.1 p.1)
one_fault old (addition id literals hints) f h g (inr (inr p)) (inr (inl q)) = absurd (signs_differ hints p.1 q.1)
one_fault old (addition id literals hints) f h g (inr (inr p)) (inr (inr q)) =
    p.2.2 ∙ ap fault_of (stops_once (live_at old) (map negated literals) (map unsigned_abs hints) 1 p.2.0 q.2.0 (negations_consistent literals g.1) p.2.1 q.2.1) ∙ sym q.2.2
one_fault old (deletion id ids) f h g p q = p.2 ∙ ap (λ (n : ℕ). Dead n) (dies_once (live_at old) ids 1 p.0 q.0 p.1 q.1) ∙ sym q.2
