-- Each status but Done and Memory has a cause; where all causes are excluded, the run ends as Done or memory runs out.
use Rattle.std.proofs.Common.{◌≡◌, ◌≤◌, ◌<◌, inl, inr, ℕ, Bool, true, false, List, [], ◌∷◌, Option, Some, None, length, refl, subst, arith}
use Rattle.std.specs.Prelude.{All}
use Rattle.std.specs.Str.{IsUtf8}
use Rattle.ascii_scan.specs.Lines.{text_limit}
use Rattle.command_line.specs.CommandLine.{Request, AskFor}
use Rattle.command_line.proofs.Usage.{asks_once}
use Rattle.outer_store.specs.Outside.{Seen, Sunk, Shows, IsTooBig, MissedAt, TooBigAt}
use Rattle.command_runs.specs.declared.status.Status.{Status}
use Rattle.command_runs.specs.declared.status.Status.TheVariants as status
use Rattle.command_runs.specs.Plans.{Refuses, StopsAt}
use Rattle.command_runs.specs.Runs.{ComesTo}
use Rattle.audit_cli.specs.Peep.{plan_of, Peeps, Ran}
use Rattle.audit_cli.specs.Complete.{IsWithin, CanBeFetched, CanAllBeFetched, IsUnhindered, IsUnrefused, IsRefusedByFull, IsCarriedOut, IsCarriedOutOrFull, IsComplete, IsCompleteButForFull}

pub not_both : (a b : ℕ) → a ≤ b → b < a → ⊥
not_both a b l g = omega arith

pub within_not_big : (o : Option (List ℕ)) → IsWithin o → IsTooBig o → ⊥
within_not_big None w g = w
within_not_big (Some t) w g = not_both (length t) text_limit w g

-- a cause can't be both shown and excluded, be it by content or by counts
pub clash : (tells : Bool) (told risen told_not risen_not : Type 0) → (told → told_not → ⊥) → (risen → risen_not → ⊥) → Shows tells told risen → Shows tells told_not risen_not → ⊥
clash true told risen told_not risen_not f g h k = f h k
clash false told risen told_not risen_not f g h k = g h k

pub not_missed : (old new : Seen) (n : List ℕ) → CanBeFetched old new n → MissedAt old new n → ⊥
not_missed old new n h k = clash old.tells _ _ _ _ (λ (w : IsWithin (old.held n)) e. subst IsWithin e w) (λ c r. c.0 r) h k

pub not_too_big : (old new : Seen) (n : List ℕ) → CanBeFetched old new n → TooBigAt old new n → ⊥
not_too_big old new n h k = clash old.tells _ _ _ _ (within_not_big (old.held n)) (λ c r. c.1 r) h k

pub none_stops : (old new : Seen) (cause : List ℕ → Type 0) → ((n : List ℕ) → CanBeFetched old new n → cause n → ⊥) → (ns : List (List ℕ)) → CanAllBeFetched old new ns → StopsAt cause old ns → ⊥
none_stops old new cause f [] a h = h
none_stops old new cause f (n ∷ ns) a h = elim h [
  | inl c ↦ f n a.0 c
  | inr more ↦ none_stops old new cause f ns a.1 more.1
]

module _ (words : List (List ℕ)) (r : Request) (old new : Seen) (before after : Sunk) (text : All IsUtf8 words) (asks : AskFor words r) where
  -- the run stopped at a name
  stopped : (cause : List ℕ → Type 0) → ((n : List ℕ) → CanBeFetched old new n → cause n → ⊥) → IsUnhindered (plan_of r) old new before after
      → (q : Request) → AskFor words q → StopsAt cause old (plan_of q).names → ⊥
  stopped cause f u q a h =
      let same : q ≡ r = asks_once words text q r a asks in
      none_stops old new cause f (plan_of r).names u.names (subst (λ (p : Request). StopsAt cause old (plan_of p).names) same h)

  -- a refusal of the plan of any request that the words ask for is one of this request's plan
  stands : (q : Request) → AskFor words q → (line : List ℕ) → ComesTo (plan_of q) old (Refuses line) → ComesTo (plan_of r) old (Refuses line)
  stands q a line h = let same : q ≡ r = asks_once words text q r a asks in subst (λ (p : Request). ComesTo (plan_of p) old (Refuses line)) same h

  pub unrefused : IsUnrefused (plan_of r) old → Ran words old new before after status.Refused → ⊥
  unrefused f h = f h.2.line (stands h.0 h.1 h.2.line h.2.outcome)

  pub full_stands : IsRefusedByFull (plan_of r) old → Ran words old new before after status.Refused → IsCarriedOutOrFull before after status.Refused
  full_stands f h = inr (refl, h.2.line, f h.2.line (stands h.0 h.1 h.2.line h.2.outcome), h.2.wrote)

  -- a run that nothing hinders and that isn't refused was carried out, or memory ran out
  pub ends : (s : Status) → Peeps words old new before after s → IsUnhindered (plan_of r) old new before after → (Ran words old new before after status.Refused → ⊥) → IsCarriedOut s
  ends status.Done h u f = inl refl
  ends status.Memory h u f = inr refl
  ends status.Refused h u f = absurd (f h)
  ends status.Usage h u f = absurd (h.0 r asks)
  ends status.StoreFault h u f = absurd (u.store h.2.rose)
  ends status.SinkFault h u f = absurd (u.sink h.2.rose)
  ends status.TooBig h u f = absurd (stopped (λ n. TooBigAt old new n) (not_too_big old new) u h.0 h.1 h.2.stops)
  ends status.Missing h u f = absurd (stopped (λ n. MissedAt old new n) (not_missed old new) u h.0 h.1 h.2.stops)

  -- the same if the only possible refusal is that of a too long table
  pub ends_full : (s : Status) → Peeps words old new before after s → IsUnhindered (plan_of r) old new before after → (Ran words old new before after status.Refused → IsCarriedOutOrFull before after status.Refused) → IsCarriedOutOrFull before after s
  ends_full status.Done h u f = inl (inl refl)
  ends_full status.Memory h u f = inl (inr refl)
  ends_full status.Refused h u f = f h
  ends_full status.Usage h u f = absurd (h.0 r asks)
  ends_full status.StoreFault h u f = absurd (u.store h.2.rose)
  ends_full status.SinkFault h u f = absurd (u.sink h.2.rose)
  ends_full status.TooBig h u f = absurd (stopped (λ n. TooBigAt old new n) (not_too_big old new) u h.0 h.1 h.2.stops)
  ends_full status.Missing h u f = absurd (stopped (λ n. MissedAt old new n) (not_missed old new) u h.0 h.1 h.2.stops)

pub complete : IsComplete
complete words r old new before after s text asks h u f = ends words r old new before after text asks s h u (unrefused words r old new before after text asks f)

pub complete_but_for_full : IsCompleteButForFull
complete_but_for_full words r old new before after s text asks h u f = ends_full words r old new before after text asks s h u (full_stands words r old new before after text asks f)
