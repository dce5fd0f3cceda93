-- A clause that is added and watches two of its literals keeps the invariants.
use Rattle.std.proofs.Common.{◌≡◌, ◌≢◌, ℕ, ◌<◌, List, [], ◌∷◌, ◌++◌, length, map, sym, ◌∙◌, ap, inl, inr, arith, subst, false}
use Rattle.std.specs.Prelude.{Contains, All, ◌↔◌}
use Rattle.std.proofs.lemmas.Bool.{cases_eq}
use Rattle.std.proofs.lemmas.List.{map_push}
use Rattle.std.proofs.lemmas.List.Elements.{Contains-push_cases, Contains-push, Contains-append_left, All-contains}
use Rattle.clause_model.specs.Clauses.{negated}
use Rattle.clause_arena.specs.Contents.{Clause, Content, HasClause, HasLiteral, Watches, IsWhole, references_of, literals_of, literals_in, clause_among, with_clause}
use Rattle.unit_propagation.specs.Watching.{IsWatched, IsAttached, IsKnown, IsAdded}
use Rattle.clause_arena.proofs.Copies.{among_earlier, among_new}
pub use Rattle.common_lemmas.proofs.Lists.{none_in}

module _ (earlier pushed later : Content) (at : ℕ) (literals : List ℕ) (push : pushed ≡ with_clause earlier record { at = at; literals = literals; is_dropped = false }) (above : All (λ r. r < at) (references_of earlier))
    (clauses : later.clauses ≡ pushed.clauses) (size : length later.chains ≡ length pushed.chains) where
  abbrev new : Clause
  new = record { at = at; literals = literals; is_dropped = false }

  all_clauses : later.clauses ≡ earlier.clauses ++ new ∷ []
  all_clauses = clauses ∙ ap (λ (x : Content). x.clauses) push

  pub same_size : length later.chains ≡ length earlier.chains
  same_size = size ∙ ap (λ (x : Content). length x.chains) push

  absent : Contains (references_of earlier) at → ⊥
  absent c = let b : at < at = All-contains (λ r. r < at) (references_of earlier) at above c in absurd (omega arith)

  old_literals : (r : ℕ) → HasClause earlier r → literals_of later r ≡ literals_of earlier r
  old_literals r h = ap (λ (cs : List Clause). literals_in (clause_among cs r)) all_clauses ∙ ap literals_in (among_earlier earlier.clauses new r h)

  pub new_literals : literals_of later at ≡ literals
  new_literals = ap (λ (cs : List Clause). literals_in (clause_among cs at)) all_clauses ∙ ap literals_in (among_new earlier.clauses new absent)

  references : references_of later ≡ references_of earlier ++ at ∷ []
  references = ap (λ (cs : List Clause). map (λ (c : Clause). c.at) cs) all_clauses ∙ map_push (λ (c : Clause). c.at) earlier.clauses new

  pub known_added : IsKnown earlier → All (HasLiteral earlier) literals → IsKnown later
  known_added k a = record {
    literals = λ r l h c. elim (Contains-push_cases (references_of earlier) at r (subst (λ (xs : List ℕ). Contains xs r) references h)) [
      | inl d ↦ let b : HasLiteral earlier l = k.literals r l d (subst (λ (xs : List ℕ). Contains xs l) (old_literals r d) c) in omega (arith, same_size)
      | inr e ↦
          let d : Contains literals l = subst (λ (xs : List ℕ). Contains xs l) new_literals (subst (λ (m : ℕ). Contains (literals_of later m) l) (sym e) c) in
          let b : HasLiteral earlier l = All-contains (HasLiteral earlier) literals l a d in omega (arith, same_size)
    ];
    contrary = λ l h. let b : HasLiteral earlier (negated l) = k.contrary l (omega (arith, same_size)) in omega (arith, same_size);
  }

  -- the case in which the watches of the other clauses are as before
  module _ (whole : IsWhole earlier) (others : (r s l : ℕ) → r ≢ at → Watches later r s l ↔ Watches pushed r s l) where
    old : (r t m : ℕ) → r ≢ at → Watches later r t m ↔ Watches earlier r t m
    old r t m n = (
      (λ y. subst (λ (c : Content). Watches c r t m) push ((others r t m n).0 y)),
      (λ y. (others r t m n).1 (subst (λ (c : Content). Watches c r t m) (sym push) y)),
    )

    not_new : (r : ℕ) → HasClause earlier r → r ≢ at
    not_new r h e = absent (subst (Contains (references_of earlier)) e h)

    watched_old : (r : ℕ) → HasClause earlier r → IsWatched earlier r → IsWatched later r
    watched_old r k d = record {
      first = d.first;
      second = d.second;
      watches_first = (old r 0 d.first (not_new r k)).1 d.watches_first;
      watches_second = (old r 1 d.second (not_new r k)).1 d.watches_second;
      different = d.different;
      first_in = rw (old_literals r k) d.first_in;
      second_in = rw (old_literals r k) d.second_in;
    }

    attached_old : ((s l : ℕ) → Watches later at s l → IsWatched later at) → IsAttached earlier → IsAttached later
    attached_old new' h r s l x = elim (cases_eq r at) [
      | inl e ↦ subst (IsWatched later) (sym e) (new' s l (subst (λ (q : ℕ). Watches later q s l) e x))
      | inr n ↦
          let y : Watches earlier r s l = (old r s l n).0 x in
          watched_old r (whole.slots l (r, s) y.0 y.1).0 (h r s l y)
    ]

    pub added : ((s l : ℕ) → Watches later at s l → IsWatched later at) → IsAdded earlier at literals later
    added new' = record {
      clauses = all_clauses;
      size = same_size;
      clause = subst (λ (xs : List ℕ). Contains xs at) (sym references) (Contains-push (references_of earlier) at);
      new_literals = new_literals;
      old_literals = λ r h. (subst (λ (xs : List ℕ). Contains xs r) (sym references) (Contains-append_left (references_of earlier) (at ∷ []) r h), old_literals r h);
      watched = watched_old;
      attached = attached_old new';
      known = known_added;
    }

    pub added_watching : (first second : ℕ) → Watches later at 0 first → Watches later at 1 second → first ≢ second → Contains literals first → Contains literals second → IsAdded earlier at literals later
    added_watching first second w v different i j = added (λ s l x. record {
      first = first;
      second = second;
      watches_first = w;
      watches_second = v;
      different = different;
      first_in = rw new_literals i;
      second_in = rw new_literals j;
    })
