-- A model of the live clauses is one after each accepted line.
use Rattle.std.proofs.Common.{◌≡◌, ℕ, ℤ, List, [], ◌∷◌, refl, sym, ◌∙◌, inl, inr, arith, Option, subst, Bool, true, false, Result, Ok, Err, map}
use Rattle.std.specs.Prelude.{OnOk, OnErr, unsigned_abs, nat_eq}
use Rattle.std.proofs.lemmas.Bool.{false≢true, cases_eq}
use Rattle.std.proofs.lemmas.Bool.Decides.{nat_tests}
use Rattle.clause_model.specs.Clauses.{Satisfies, SatisfiesLive}
use Rattle.clause_model.proofs.Sound.{rup_sound}
use Rattle.lrat_check.specs.declared.fault.LineFault.{LineFault}
use Rattle.lrat_check.specs.Text.{Content, addition, deletion, Deletes, without}
use Rattle.lrat_check.specs.Live.{Adds}
use Rattle.lrat_check.specs.Checking.{State, live_at, AddsClause, Accepts, HoldsAt}

pub added_live : (v : ℕ → Bool) (earlier later : ℕ → Option (List ℕ)) (id : ℕ) (clause : List ℕ) → Adds earlier later id clause → Satisfies v clause → SatisfiesLive v earlier → SatisfiesLive v later
added_live v earlier later id clause a s h q = elim (cases_eq q id) [
  | inl e ↦ rw (e, a.0) s
  | inr d ↦ rw (a.1 q d) (h q)
]

pub adds_sound : (v : ℕ → Bool) (old new : State) (id : ℕ) (literals : List ℕ) (hints : List ℤ) → AddsClause old id literals hints new → HoldsAt v old → HoldsAt v new
adds_sound v old new id literals hints a h =
    let s : Satisfies v literals = rup_sound (live_at old) literals (map unsigned_abs hints) a.follows v h.live in
    record {
      live = added_live v (live_at old) (live_at new) id literals a.live s h.live;
      standing = not_true new.refuted (λ t. elim (a.refuted.0 t) [
        | inl r ↦ false≢true (sym h.standing ∙ r)
        | inr e ↦ empty_false (subst (Satisfies v) e s)
      ]);
    }
  where
    not_true : (b : Bool) → (b ≡ true → ⊥) → b ≡ false
    not_true true n = absurd (n refl)
    not_true false n = refl

    empty_false : Satisfies v [] → ⊥
    empty_false s = omega arith

pub without_live : (v : ℕ → Bool) (live : ℕ → Option (List ℕ)) (id : ℕ) → SatisfiesLive v live → SatisfiesLive v (without live id)
without_live v live id h q = elim (cases_eq q id) [
  | inl e ↦ let z : nat_eq q id ≡ true = grind (arith, nat_tests) in rw z tt
  | inr d ↦ let z : nat_eq q id ≡ false = grind (arith, nat_tests) in rw z (h q)
]

pub deleted_live : (v : ℕ → Bool) (live : ℕ → Option (List ℕ)) (ids : List ℕ) (later : ℕ → Option (List ℕ)) → Deletes live ids later → SatisfiesLive v live → SatisfiesLive v later
deleted_live v live [] later d h = λ q. rw (d q) (h q)
deleted_live v live (id ∷ ids) later d h = deleted_live v (without live id) ids later d.1 (without_live v live id h)

pub accepts_sound : (v : ℕ → Bool) (old new : State) (content : Content) → Accepts old content new → HoldsAt v old → HoldsAt v new
accepts_sound v old new (addition id literals hints) a h = adds_sound v old new id literals hints a h
accepts_sound v old new (deletion id ids) a h = record {
  live = deleted_live v (live_at old) ids (live_at new) a.live h.live;
  standing = a.refuted ∙ h.standing;
}

pub outcome_sound : (r : Result (Unit {0}) LineFault) (v : ℕ → Bool) (old new : State) (content : Content) → OnOk r (Accepts old content new) → OnErr r (new ≡ old) → HoldsAt v old → HoldsAt v new
outcome_sound (Ok x) v old new content a u h = accepts_sound v old new content a h
outcome_sound (Err e) v old new content a u h = subst (HoldsAt v) (sym u) h
