-- The additions of lines that refute, shortened, and which of them are used.
use Rattle.std.proofs.Common.{◌≡◌, ℕ, ℤ, ◌<◌, ◌≤◌, ◌⊎◌, List, [], ◌∷◌, length, map, take, refl, sym, ◌∙◌, ap, inl, inr, arith, Some, subst, true, false, true≢false}
use Rattle.std.specs.Prelude.{Contains, unsigned_abs}
use Rattle.std.proofs.lemmas.Bool.{false_from_ne_true}
use Rattle.std.proofs.lemmas.List.{take-map}
use Rattle.clause_model.specs.Clauses.{negated}
use Rattle.lrat_check.specs.Text.{Content, addition, deletion, id_of, meant, Suffice, names_of, IsShortened, AddsFirstEmpty, IsUsed, empty, named, HasEmpty}
use Rattle.lrat_check.specs.Checking.{State, live_at}
use Rattle.lrat_check.specs.Runs.{AcceptsAll, IsRefutation}
use Rattle.lrat_check.proofs.Members.{head_or_tail, tail_in, head_in}
use Rattle.lrat_check.proofs.Sufficing.{EndsAt, ends, EndsAt-like, EndsAt-live, Suffice-from_end, Suffice-once}
use Rattle.lrat_check.proofs.Placed.{Origin, Placed, placed, Tracks-begun, Ascends, ascends, ascends_to, meant_origin}

-- a line among others
abbrev pub lits : List ℕ → List ℕ
lits literals = map negated literals

module _ (clauses : List (List ℕ)) (lines : List Content) (r : IsRefutation clauses lines) where
  pub goes_up : Ascends (length clauses) lines
  goes_up = subst (λ (n : ℕ). Ascends n lines) r.starts.last (ascends r.first r.last lines r.accepts)

  pub place : (id : ℕ) (literals : List ℕ) (hints : List ℤ) → Contains lines (addition id literals hints) → Placed clauses lines id literals hints
  place id literals hints i = placed clauses lines lines r.first r.last (λ m k. k) (Tracks-begun clauses lines r.first r.starts) r.accepts id literals hints i

  module _ (id : ℕ) (literals : List ℕ) (hints : List ℤ) (p : Placed clauses lines id literals hints) where
    means : (q : ℕ) (c : List ℕ) → live_at p.state q ≡ Some c → meant clauses lines q ≡ Some c
    means q c e = meant_origin clauses lines q c goes_up (p.tracks.origin q c e)

    pub suffices : (n : ℕ) × EndsAt (live_at p.state) (lits literals) (map unsigned_abs hints) n × Suffice (meant clauses lines) (lits literals) (map unsigned_abs hints) n
    suffices =
        let k = ends (live_at p.state) (lits literals) (map unsigned_abs hints) p.follows in (
          k.0,
          k.1,
          Suffice-from_end (meant clauses lines) (lits literals) (map unsigned_abs hints) k.0
              (EndsAt-like (live_at p.state) (meant clauses lines) (lits literals) (map unsigned_abs hints) k.0 (λ q c i e. means q c e) k.1),
        )

    pub ends_there : (n : ℕ) → Suffice (meant clauses lines) (lits literals) (map unsigned_abs hints) n → EndsAt (live_at p.state) (lits literals) (map unsigned_abs hints) n
    ends_there n s =
        let k = suffices in
        let e : k.0 ≡ n = Suffice-once (meant clauses lines) (lits literals) (map unsigned_abs hints) k.0 n k.2 s in
        subst (λ (n : ℕ). EndsAt (live_at p.state) (lits literals) (map unsigned_abs hints) n) e k.1

    -- what the hints so far name was there before
    pub named_before : (n q : ℕ) → Suffice (meant clauses lines) (lits literals) (map unsigned_abs hints) n → Contains (take n (map unsigned_abs hints)) q → (q < id) × ((c : List ℕ) × Origin clauses lines q c)
    named_before n q s i =
        let l = EndsAt-live (live_at p.state) (lits literals) (map unsigned_abs hints) n q (ends_there n s) i in
        let b : q ≤ p.state.last = p.tracks.below q l.0 l.1 in
        let later = p.later in
        (omega arith, (l.0, p.tracks.origin q l.0 l.1))

  pub names_below : (line : Content) (q : ℕ) → IsShortened clauses lines line → Contains (names_of line) q → q < id_of line
  names_below (deletion id ids) q sh c = absurd sh
  names_below (addition id literals hints) q (all, n, i, s, e) c =
      (named_before id literals all (place id literals all i) n q s (subst (λ (xs : List ℕ). Contains xs q) (ap (map unsigned_abs) e ∙ sym (take-map unsigned_abs n all)) c)).0

  -- each line that adds can be shortened
  pub shortened : (id : ℕ) (literals : List ℕ) (hints : List ℤ) → Contains lines (addition id literals hints) → (n : ℕ) × IsShortened clauses lines (addition id literals (take n hints))
  shortened id literals hints i =
      let k = suffices id literals hints (place id literals hints i) in
      (k.0, (hints, k.0, i, k.2, refl))

  pub used_up_to : (e q : ℕ) → AddsFirstEmpty lines e → IsUsed clauses lines q → q ≤ e
  used_up_to e q f (empty g) = g.first e f.adds.0 f.adds.1
  used_up_to e q f (named line sh u c) =
      let a : q < id_of line = names_below line q sh c in
      let b : id_of line ≤ e = used_up_to e (id_of line) f u in
      omega arith

pub used_by : (clauses : List (List ℕ)) (lines : List Content) (q : ℕ) → IsUsed clauses lines q → AddsFirstEmpty lines q ⊎ ((line : Content) × IsShortened clauses lines line × IsUsed clauses lines (id_of line) × Contains (names_of line) q)
used_by clauses lines q (empty f) = inl f
used_by clauses lines q (named line sh u c) = inr (line, sh, u, c)

-- the first empty clause in a refutation
skipped : (line : Content) (lines : List Content) (id : ℕ) → ((q : ℕ) (hints : List ℤ) → line ≡ addition q [] hints → ⊥) → AddsFirstEmpty lines id → AddsFirstEmpty (line ∷ lines) id
skipped line lines id n f = record {
  adds = (f.adds.0, tail_in line lines (addition id [] f.adds.0) f.adds.1);
  first = λ q hints i. elim (head_or_tail line lines (addition q [] hints) i) [ inl e ↦ absurd (n q hints e) | inr j ↦ f.first q hints j ];
}

pub first_empty : (lines : List Content) (old new : State) → AcceptsAll old lines new → old.refuted ≡ false → new.refuted ≡ true → (id : ℕ) × AddsFirstEmpty lines id
first_empty [] old new a f t = absurd (true≢false (sym t ∙ ap (λ (s : State). s.refuted) a ∙ f))
first_empty (addition id [] hints ∷ lines) old new (next, a, more) f t = (
  id,
  record {
    adds = (hints, head_in (addition id [] hints) lines);
    first = λ q hs i. elim (head_or_tail (addition id [] hints) lines (addition q [] hs) i) [
      | inl e ↦ let s : id ≡ q = cc in omega arith
      | inr j ↦ let b : id < q = ascends_to id lines q [] hs (subst (λ (n : ℕ). Ascends n lines) a.last (ascends next new lines more)) j in omega arith
    ];
  },
)
first_empty (addition id (x ∷ xs) hints ∷ lines) old new (next, a, more) f t =
    let g : next.refuted ≡ false = false_from_ne_true next.refuted (λ r. elim (a.refuted.0 r) [ inl o ↦ true≢false (sym o ∙ f) | inr e ↦ cc ]) in
    let k = first_empty lines next new more g t in
    (k.0, skipped (addition id (x ∷ xs) hints) lines k.0 (λ q hs e. cc) k.1)
first_empty (deletion id ids ∷ lines) old new (next, a, more) f t =
    let k = first_empty lines next new more (a.refuted ∙ f) t in
    (k.0, skipped (deletion id ids) lines k.0 (λ q hs e. cc) k.1)

pub refutation_ends : (clauses : List (List ℕ)) (lines : List Content) → IsRefutation clauses lines → (HasEmpty clauses → ⊥) → (id : ℕ) × AddsFirstEmpty lines id
refutation_ends clauses lines r n = first_empty lines r.first r.last r.accepts (false_from_ne_true r.first.refuted (λ t. n (r.starts.refuted.0 t))) r.refuted
