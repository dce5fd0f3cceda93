-- What the stages of a run have done makes up what the whole run has done, status by status.
use Rattle.std.proofs.Common.{◌≡◌, ◌≢◌, ◌∙◌, ◌≤◌, inl, inr, ℕ, suc, List, [], ◌∷◌, ◌++◌, take, length, Some, None, true, refl, sym, ap, subst, arith, Err}
use Rattle.std.proofs.lemmas.List.{append-nil}
use Rattle.std.specs.Prelude.{if◌then◌else◌, All}
use Rattle.std.specs.Str.{bytes_eq}
use Rattle.std.proofs.lemmas.Bool.{cases_Bool}
use Rattle.std.proofs.lemmas.Slice.Eq.{bytes_eq-Decides}
use Rattle.ascii_scan.specs.Lines.{text_limit}
use Rattle.command_runs.specs.declared.status.Status.{Status}
use Rattle.command_runs.specs.declared.status.Status.TheVariants as status
use Rattle.outer_store.specs.declared.StoreError.TheVariants as store
use Rattle.outer_store.specs.Outside.{Event, Keeping, Sunk, Seen, Held, SameHeld, SameCounts, Rose, MissedAt, TooBigAt, IsTooBig}
use Rattle.outer_store.specs.Answers.{Grows}
use Rattle.command_runs.specs.Plans.{Keep, Outcome, Refuses, Does, Plan, keeps_of, AreTexts, StopsAt, ReadsSome, with_text, kept, Kept, FailsAfter, ShortAfter, fetchings, keepings}
use Rattle.command_runs.specs.Runs.{ComesTo, Runs, at_fetch, at_keep, at_put}
use Rattle.command_runs.specs.Stages.{Gathers, Stores, Prints, Finishes}
use Rattle.command_runs.proofs.StageLemmas.{rose_before, same_again, counts_first, counts_again, called_then}
use Rattle.common_lemmas.proofs.Lists.{take_whole}

-- ---- after the outcome ----

-- no call was made
uncalled : (seen : Seen) → seen.events ≡ seen.events ++ []
uncalled seen = sym (append-nil seen.events)

-- one line is put, and nothing is kept
pub refused : (line : List ℕ) (seen : Seen) (before after : Sunk) (s : Status) → Prints status.Refused line before after s → Finishes (Refuses line) seen seen before after s
refused line seen before after status.Refused h = (refl, counts_first seen, λ n. refl, uncalled seen, h)
refused line seen before after status.SinkFault h = (λ t n. refl, uncalled seen, h)
refused line seen before after status.Memory h = inr (λ t n. refl, uncalled seen, h)
refused line seen before after status.Done h = absurd (cc (h.0))
refused line seen before after status.Usage h = h
refused line seen before after status.StoreFault h = absurd h
refused line seen before after status.TooBig h = h
refused line seen before after status.Missing h = h

-- a keep failed, or memory was refused at one
pub unstored : (keeps : List Keep) (lines : List ℕ) (old new : Seen) (sunk : Sunk) (s : Status) → Stores keeps old new (Err s) → Finishes (Does keeps lines) old new sunk sunk s
unstored keeps lines old new sunk status.StoreFault h = (h.0, h.1, λ t. refl, refl)
unstored keeps lines old new sunk status.Memory h = inl (h, λ t. refl, refl)
unstored keeps lines old new sunk status.Done h = absurd h
unstored keeps lines old new sunk status.Refused h = absurd h
unstored keeps lines old new sunk status.Usage h = h
unstored keeps lines old new sunk status.SinkFault h = absurd h
unstored keeps lines old new sunk status.TooBig h = h
unstored keeps lines old new sunk status.Missing h = h

-- all is kept, and the lines are put
pub done : (keeps : List Keep) (lines : List ℕ) (old new : Seen) (before after : Sunk) (s : Status) → SameCounts old new × Kept keeps old new × (new.events ≡ old.events ++ keepings keeps) → Prints status.Done lines before after s
    → Finishes (Does keeps lines) old new before after s
done keeps lines old new before after status.Done k h = (refl, k.0, k.1, k.2, h)
done keeps lines old new before after status.SinkFault k h = (k.1, k.2, h)
done keeps lines old new before after status.Memory k h = inr (k.1, k.2, h)
done keeps lines old new before after status.Refused k h = absurd (cc (h.0))
done keeps lines old new before after status.Usage k h = h
done keeps lines old new before after status.StoreFault k h = absurd h
done keeps lines old new before after status.TooBig k h = h
done keeps lines old new before after status.Missing k h = h

-- ---- before the outcome ----

-- the run stops at the fetches
pub stopped : (plan : Plan) (old new : Seen) (sunk : Sunk) (s : Status) → SameHeld old.held new.held → Gathers plan.names old new (Err s) → Runs plan old new sunk sunk s
stopped plan old new sunk status.StoreFault same h = record { rose = h.0; kept = inl (same, h.1); wrote = λ t. refl; put = refl }
stopped plan old new sunk status.Missing same h = record { stops = h.0; calls = h.1; same = same; wrote = λ t. refl; put = refl }
stopped plan old new sunk status.TooBig same h = record { stops = h.0; calls = h.1; same = same; wrote = λ t. refl; put = refl }
stopped plan old new sunk status.Memory same h = record { short = at_fetch same h refl; wrote = λ t. refl }
stopped plan old new sunk status.Done same h = absurd h
stopped plan old new sunk status.Refused same h = absurd h
stopped plan old new sunk status.Usage same h = h
stopped plan old new sunk status.SinkFault same h = absurd h

-- memory was refused between the fetches and the keeps
pub short : (plan : Plan) (texts : List (List ℕ)) (old new : Seen) (sunk : Sunk) → SameHeld old.held new.held → SameCounts old new × AreTexts old plan.names texts × (new.events ≡ old.events ++ fetchings plan.names texts)
    → Runs plan old new sunk sunk status.Memory
short plan texts old new sunk same read = record { short = at_fetch same (inr all) refl; wrote = λ t. refl } where
  all : ReadsSome plan.names old new
  all = record {
    number = length plan.names;
    texts = texts;
    read = subst (λ (ns : List (List ℕ)). AreTexts old ns texts) (sym (take_whole plan.names)) read.1;
    calls = read.2 ∙ ap (λ (ns : List (List ℕ)). old.events ++ fetchings ns texts) (sym (take_whole plan.names));
  }

-- ---- the whole run ----

kept_same : (ks : List Keep) (h k : Held) → SameHeld h k → (n : List ℕ) → kept ks k n ≡ kept ks h n
kept_same [] h k s n = s n
kept_same (x ∷ xs) h k s n = kept_same xs (with_text h x) (with_text k x) (λ m. ap (λ o. if bytes_eq m x.0 then Some x.1 else o) (s m)) n

kept_before : (ks : List Keep) (a b c : Seen) → Grows a b → SameHeld a.held b.held → Kept ks b c → Kept ks a c
kept_before ks a b c g s k = λ t n. k (g.tells ∙ t) n ∙ kept_same ks a.held b.held s n

fails_before : (calls : List Event) (ks : List Keep) (a b c : Seen) → Grows a b → SameHeld a.held b.held → b.events ≡ a.events ++ calls → FailsAfter [] ks b c → FailsAfter calls ks a c
fails_before calls ks a b c g s p h = record {
  number = h.number;
  failed = h.failed;
  is_next = h.is_next;
  kept = λ t n d. h.kept (g.tells ∙ t) n d ∙ kept_same (take h.number ks) a.held b.held s n;
  calls = called_then a.events b.events c.events calls (keepings (take h.number ks) ++ Keeping h.failed.0 h.failed.1 (Err store.Failed) ∷ []) p h.calls;
}

short_before : (calls : List Event) (ks : List Keep) (a b c : Seen) → Grows a b → SameHeld a.held b.held → b.events ≡ a.events ++ calls → ShortAfter [] ks b c → ShortAfter calls ks a c
short_before calls ks a b c g s p h = record {
  number = h.number;
  failed = h.failed;
  is_next = h.is_next;
  kept = kept_before (take h.number ks) a b c g s h.kept;
  calls = called_then a.events b.events c.events calls (keepings (take h.number ks) ++ Keeping h.failed.0 h.failed.1 (Err store.Memory) ∷ []) p h.calls;
}

-- the texts were fetched, have an outcome, and that was finished
pub finished : (plan : Plan) (texts : List (List ℕ)) (o : Outcome) (old mid new : Seen) (before after : Sunk) (s : Status) → SameCounts old mid × AreTexts old plan.names texts × (mid.events ≡ old.events ++ fetchings plan.names texts)
    → SameHeld old.held mid.held → Grows old mid → plan.comes texts o → Finishes o mid new before after s → Runs plan old new before after s
finished plan texts o old mid new before after s read same g comes h = go s h where
  from : (x : Outcome) → plan.comes texts x → ComesTo plan old x
  from x c = record { texts = texts; read = read.1; comes = c }

  all : (ks : List Keep) → new.events ≡ mid.events ++ keepings ks → new.events ≡ old.events ++ (fetchings plan.names texts ++ keepings ks)
  all ks q = called_then old.events mid.events new.events (fetchings plan.names texts) (keepings ks) read.2 q

  is_done : (x : Outcome) → plan.comes texts x → Finishes x mid new before after status.Done → Runs plan old new before after status.Done
  is_done (Refuses line) c f = absurd (cc (f.0))
  is_done (Does keeps lines) c f = record {
    counts = counts_again old mid new read.0 f.1;
    faults = f.4.1;
    keeps = keeps;
    lines = lines;
    outcome = from (Does keeps lines) c;
    kept = kept_before keeps old mid new g same f.2;
    wrote = f.4.2;
    calls = all keeps f.3;
    put = f.4.3;
  }

  is_refused : (x : Outcome) → plan.comes texts x → Finishes x mid new before after status.Refused → Runs plan old new before after status.Refused
  is_refused (Refuses line) c f = record {
    counts = counts_again old mid new read.0 f.1;
    faults = f.4.1;
    line = line;
    outcome = from (Refuses line) c;
    same = same_again old.held mid.held new.held same f.2;
    wrote = f.4.2;
    calls = all [] f.3;
    put = f.4.3;
  }
  is_refused (Does keeps lines) c f = absurd (cc (f.0))

  is_short : Finishes o mid new before after status.Memory → Runs plan old new before after status.Memory
  is_short (inl f) = record { short = at_keep o (from o comes) (short_before (fetchings plan.names texts) (keeps_of o) old mid new g same read.2 f.0) f.2; wrote = f.1 }
  is_short (inr f) = record { short = at_put o (from o comes) (kept_before (keeps_of o) old mid new g same f.0) (all (keeps_of o) f.1) f.2.1; wrote = f.2.0 }

  go : (s : Status) → Finishes o mid new before after s → Runs plan old new before after s
  go status.Done f = is_done o comes f
  go status.Refused f = is_refused o comes f
  go status.StoreFault f = record {
    rose = rose_before old.faults mid.faults new.faults g.faults f.0;
    kept = inr (o, from o comes, fails_before (fetchings plan.names texts) (keeps_of o) old mid new g same read.2 f.1);
    wrote = f.2;
    put = f.3;
  }
  go status.SinkFault f = record {
    rose = f.2.0;
    due_outcome = o;
    outcome = from o comes;
    kept = kept_before (keeps_of o) old mid new g same f.0;
    wrote = f.2.1;
    calls = all (keeps_of o) f.1;
    put = f.2.2;
  }
  go status.Memory f = is_short f
  go status.Usage f = f
  go status.TooBig f = absurd f
  go status.Missing f = absurd f

-- a name under which nothing is kept has what it had
pub kept_elsewhere : (ks : List Keep) (held : Held) (n : List ℕ) → All (λ (k : Keep). n ≢ k.0) ks → kept ks held n ≡ held n
kept_elsewhere [] held n a = refl
kept_elsewhere (k ∷ ks) held n a = kept_elsewhere ks (with_text held k) n (λ i d l. a (suc i) d (omega arith)) ∙ elim (cases_Bool (bytes_eq n k.0)) [
  | inl e ↦ absurd (a 0 k (omega arith) ((bytes_eq-Decides n k.0).0 e))
  | inr e ↦ rw e refl
]

-- ---- completeness ----

-- each name is held, with a text within the limit
pub AreHeld : Seen → List (List ℕ) → Type 0
AreHeld old [] = Unit {0}
AreHeld old (n ∷ ns) = ((t : List ℕ) × (old.held n ≡ Some t) × (length t ≤ text_limit)) × AreHeld old ns

-- the statuses that are possible without a fault and without a name that can't be fetched
pub IsFaultless : Status → Type 0
IsFaultless status.Done = Unit {0}
IsFaultless status.Refused = Unit {0}
IsFaultless status.Memory = Unit {0}
IsFaultless status.Usage = ⊥
IsFaultless status.StoreFault = ⊥
IsFaultless status.SinkFault = ⊥
IsFaultless status.TooBig = ⊥
IsFaultless status.Missing = ⊥

none_missed : (old new : Seen) (ns : List (List ℕ)) → old.tells ≡ true → AreHeld old ns → StopsAt (λ n. MissedAt old new n) old ns → ⊥
unfolding AreHeld
none_missed old new [] t h s = s
none_missed old new (n ∷ ns) t h (inl m) = let k : old.held n ≡ None = rw t at m in let bad : Some h.0.0 ≡ None = sym h.0.1 ∙ k in cc
none_missed old new (n ∷ ns) t h (inr s) = none_missed old new ns t h.1 s.1

none_too_big : (old new : Seen) (ns : List (List ℕ)) → old.tells ≡ true → AreHeld old ns → StopsAt (λ n. TooBigAt old new n) old ns → ⊥
unfolding AreHeld
none_too_big old new [] t h s = s
none_too_big old new (n ∷ ns) t h (inl m) = let k : IsTooBig (old.held n) = rw t at m in let more : IsTooBig (Some h.0.0) = subst IsTooBig h.0.1 k in let most = h.0.2 in omega arith
none_too_big old new (n ∷ ns) t h (inr s) = none_too_big old new ns t h.1 s.1

-- if the store shows its content and holds the names, and no count of faults rises, the run ends as Done, Refused or Memory
pub complete : (plan : Plan) (old new : Seen) (before after : Sunk) (s : Status) → old.tells ≡ true → AreHeld old plan.names → (Rose old.faults new.faults → ⊥) → (Rose before.faults after.faults → ⊥)
    → Runs plan old new before after s → IsFaultless s
unfolding IsFaultless
complete plan old new before after status.Done t h f g r = tt
complete plan old new before after status.Refused t h f g r = tt
complete plan old new before after status.Memory t h f g r = tt
complete plan old new before after status.Usage t h f g r = r
complete plan old new before after status.StoreFault t h f g r = f r.rose
complete plan old new before after status.SinkFault t h f g r = g r.rose
complete plan old new before after status.TooBig t h f g r = none_too_big old new plan.names t h r.stops
complete plan old new before after status.Missing t h f g r = none_missed old new plan.names t h r.stops
