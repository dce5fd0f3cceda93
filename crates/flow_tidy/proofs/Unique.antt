-- What tidying leaves is determined and complete.
use Rattle.std.proofs.Common.{◌≡◌, ℕ, zero, suc, List, [], ◌∷◌, Some, refl, sym, ap, ◌∙◌, subst, arith}
use Rattle.std.specs.Prelude.{slice_get}
use Rattle.std.proofs.lemmas.Option.{same_Some}
use Rattle.thumb_instr.specs.declared.instr.Instr.{Instr}
use Rattle.thumb_model.specs.Listing.{Name, Mention, Op, ListingLine, Code, code_of}
use Rattle.thumb_model.proofs.Lists.{cons_same}
use Rattle.flow_tidy.specs.Tidying.{Hops, HopsBy, IsEnd, Setting, Cause, ToNext, ToEnd, Idle, Change, lines_after, GoesToEnd, HasCause, rank, IsFirst, NonePossible, AreTidied, AllPossible}

-- ---- chains ----

-- two mentions at one place are one
pub same_mention : (i j : Instr) (m n : Mention) → Op i (Some m) ≡ Op j (Some n) → m.name ≡ n.name
same_mention i j m n e = cc

-- a hop is determined
pub hop_same : (code : Code) (from a b : Name) → Hops code from a → Hops code from b → a ≡ b
hop_same code from a b h k =
    let place : h.place ≡ k.place = same_Some _ _ (sym h.labelled ∙ k.labelled) in
    let here : Op h.i (Some h.mention) ≡ Op k.i (Some k.mention) = same_Some _ _ (sym h.stands ∙ ap (slice_get code.places) place ∙ k.stands) in
    sym h.named ∙ same_mention _ _ _ _ here ∙ k.named

-- so is a chain's end
ends_same : (code : Code) (m n : ℕ) (from a b : Name) → HopsBy code m from a → ((next : Name) → Hops code a next → ⊥) → HopsBy code n from b → ((next : Name) → Hops code b next → ⊥) → a ≡ b
ends_same code zero zero from a b h s k t = sym h ∙ k
ends_same code zero (suc n) from a b h s k t = absurd (s k.0 (subst (λ (x : Name). Hops code x k.0) h k.1))
ends_same code (suc m) zero from a b h s k t = absurd (t h.0 (subst (λ (x : Name). Hops code x h.0) k h.1))
ends_same code (suc m) (suc n) from a b h s k t =
    ends_same code m n h.0 a b h.2 s (subst (λ (x : Name). HopsBy code n x b) (sym (hop_same code from h.0 k.0 h.1 k.1)) k.2) t

pub end_same : (code : Code) (from a b : Name) → IsEnd code from a → IsEnd code from b → a ≡ b
end_same code from a b h k = ends_same code (suc h.more) (suc k.more) from a b h.leads h.stops k.leads k.stops

-- ---- the first change ----

pub label_same : (code : Code) (p : ℕ) (a b : Name) → GoesToEnd code p a → GoesToEnd code p b → a ≡ b
label_same code p a b h k =
    let here : Op h.i (Some h.mention) ≡ Op k.i (Some k.mention) = same_Some _ _ (sym h.stands ∙ k.stands) in
    end_same code h.mention.name a b h.end (subst (λ (x : Name). IsEnd code x b) (sym (same_mention _ _ _ _ here)) k.end)

-- causes that are tried equally soon are one
pub cause_same : (code : Code) (p : ℕ) (a b : Cause) → rank a ≡ rank b → HasCause code p a → HasCause code p b → a ≡ b
cause_same code p ToNext ToNext e h k = refl
cause_same code p (ToEnd a) (ToEnd b) e h k = ap ToEnd (label_same code p a b h k)
cause_same code p Idle Idle e h k = refl
cause_same code p a b e h k = absurd (omega arith)

-- one change comes first at most
pub first_same : (s : Setting) (ls : List ListingLine) (c o : Change) → IsFirst s c ls → IsFirst s o ls → c ≡ o
first_same s ls c o f g =
    let p1 = f.least_place o g.possible in
    let p2 = g.least_place c f.possible in
    let place : c.place ≡ o.place = omega arith in
    let r1 = f.soonest o g.possible (sym place) in
    let r2 = g.soonest c f.possible place in
    let cause : c.cause ≡ o.cause = cause_same (code_of ls) c.place c.cause o.cause (omega arith) f.possible.cause (subst (λ n. HasCause (code_of ls) n o.cause) (sym place) g.possible.cause) in
    same c o place cause
  where
    same : (c o : Change) → c.place ≡ o.place → c.cause ≡ o.cause → c ≡ o
    same c o a b = λ i. record { place = a i; cause = b i }

-- ---- all changes ----

-- the changes and the lines are determined
pub is_determined : (s : Setting) (ls : List ListingLine) (cs ds : List Change) (new other : List ListingLine) → AreTidied s ls cs new → AreTidied s ls ds other → (cs ≡ ds) × (new ≡ other)
is_determined s ls [] [] new other a b = (refl, a.1 ∙ sym b.1)
is_determined s ls [] (d ∷ ds) new other a b = absurd (a.0 d b.0.possible)
is_determined s ls (c ∷ cs) [] new other a b = absurd (b.0 c a.0.possible)
is_determined s ls (c ∷ cs) (d ∷ ds) new other a b =
    let here : c ≡ d = first_same s ls c d a.0 b.0 in
    let rest = is_determined s (lines_after s c ls) cs ds new other a.1 (subst (λ t. AreTidied s (lines_after s t ls) ds other) (sym here) b.1) in
    (cons_same c d cs ds here rest.0, rest.1)

-- none is possible any more
pub none_left : (s : Setting) (ls : List ListingLine) (cs : List Change) (new : List ListingLine) → AreTidied s ls cs new → NonePossible s new
none_left s ls [] new h = subst (NonePossible s) (sym h.1) h.0
none_left s ls (c ∷ cs) new h = none_left s (lines_after s c ls) cs new h.1

-- each was possible in the lines as they then were
pub all_possible : (s : Setting) (ls : List ListingLine) (cs : List Change) (new : List ListingLine) → AreTidied s ls cs new → AllPossible s ls cs
all_possible s ls [] new h = tt
all_possible s ls (c ∷ cs) new h = (h.0.possible, all_possible s (lines_after s c ls) cs new h.1)
