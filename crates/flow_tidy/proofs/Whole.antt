-- Each change, and all changes of tidying, keep the runs and what is reached.
use Rattle.std.proofs.Common.{◌↔◌, ℕ, List, [], ◌∷◌, sym, subst}
use Rattle.thumb_model.specs.Listing.{ListingLine, code_of}
use Rattle.thumb_model.specs.Layout.{Layable}
use Rattle.thumb_model.proofs.Follow.{Keeps, keeps_refl, keeps_trans}
use Rattle.thumb_model.specs.Flow.{Reached}
use Rattle.flow_tidy.specs.Tidying.{Setting, Cause, ToNext, ToEnd, Idle, Change, HasCause, lines_by, lines_after, AreTidied}
use Rattle.flow_tidy.specs.Laws.{came_to, came_to_by, came_through, IsKept, IsKeptBy, AreKept}
use Rattle.flow_tidy.proofs.Removed.{next_may_go, next_does_nothing, idle_may_go, idle_does_nothing, lines_without_keep, reached_without}
use Rattle.flow_tidy.proofs.AimedRuns.{lines_aimed_keep, reached_aimed}

-- ---- one change ----

cause_keeps : (s : Setting) (p : ℕ) (cause : Cause) (ls : List ListingLine) → HasCause (code_of ls) p cause → Keeps (code_of ls) (code_of (lines_by s p cause ls))
cause_keeps s p ToNext ls h = lines_without_keep s p ls (next_may_go (code_of ls) p h) (next_does_nothing (code_of ls) p h)
cause_keeps s p (ToEnd label) ls h = lines_aimed_keep s p label ls h
cause_keeps s p Idle ls h = lines_without_keep s p ls (idle_may_go (code_of ls) p h) (idle_does_nothing (code_of ls) p h)

pub change_keeps : (s : Setting) (c : Change) (ls : List ListingLine) → HasCause (code_of ls) c.place c.cause → Keeps (code_of ls) (code_of (lines_after s c ls))
change_keeps s c ls h = cause_keeps s c.place c.cause ls h

cause_reaches : (s : Setting) (p : ℕ) (cause : Cause) (ls : List ListingLine) → HasCause (code_of ls) p cause → (q : ℕ) → IsKeptBy p cause q → Reached (code_of ls) q ↔ Reached (code_of (lines_by s p cause ls)) (came_to_by p cause q)
cause_reaches s p ToNext ls h q k = reached_without s p ls (next_may_go (code_of ls) p h) q k
cause_reaches s p (ToEnd label) ls h q k = reached_aimed s p label ls h q
cause_reaches s p Idle ls h q k = reached_without s p ls (idle_may_go (code_of ls) p h) q k

pub change_reaches : (s : Setting) (c : Change) (ls : List ListingLine) → HasCause (code_of ls) c.place c.cause → (q : ℕ) → IsKept c q → Reached (code_of ls) q ↔ Reached (code_of (lines_after s c ls)) (came_to c q)
change_reaches s c ls h q k = cause_reaches s c.place c.cause ls h q k

-- ---- all changes ----

pub tidied_keep : (s : Setting) (ls : List ListingLine) (cs : List Change) (new : List ListingLine) → AreTidied s ls cs new → Keeps (code_of ls) (code_of new)
tidied_keep s ls [] new h = subst (λ (l : List ListingLine). Keeps (code_of ls) (code_of l)) (sym h.1) (keeps_refl (code_of ls))
tidied_keep s ls (c ∷ cs) new h =
    keeps_trans (code_of ls) (code_of (lines_after s c ls)) (code_of new) (change_keeps s c ls h.0.possible.cause) (tidied_keep s (lines_after s c ls) cs new h.1)

pub tidied_reach : (s : Setting) (ls : List ListingLine) (cs : List Change) (new : List ListingLine) → AreTidied s ls cs new → (q : ℕ) → AreKept cs q → Reached (code_of ls) q ↔ Reached (code_of new) (came_through cs q)
tidied_reach s ls [] new h q k = subst (λ (l : List ListingLine). Reached (code_of ls) q ↔ Reached (code_of l) q) (sym h.1) (λ r. r, λ r. r)
tidied_reach s ls (c ∷ cs) new h q k =
    let one = change_reaches s c ls h.0.possible.cause q k.0 in
    let rest = tidied_reach s (lines_after s c ls) cs new h.1 (came_to c q) k.1 in
    (λ r. rest.0 (one.0 r), λ r. one.1 (rest.1 r))

pub still_layable : (s : Setting) (ls : List ListingLine) (cs : List Change) (new : List ListingLine) → Layable s.base ls → AreTidied s ls cs new → Layable s.base new
still_layable s ls [] new l h = subst (Layable s.base) (sym h.1) l
still_layable s ls (c ∷ cs) new l h = still_layable s (lines_after s c ls) cs new h.0.possible.layable h.1
