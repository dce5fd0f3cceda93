-- The invariant of trimming, back from the first empty clause: each kept line is used, and each line that it names is marked.
use Rattle.std.proofs.Common.{◌≡◌, ℕ, ◌+◌, ◌-◌, ◌<◌, ◌≤◌, List, [], ◌∷◌, length, get_or, map, refl, sym, ◌∙◌, ap, inl, inr, arith, subst, Bool, true, false, true≢false}
use Rattle.std.specs.Prelude.{All, AllPairs, Contains, unsigned_abs}
use Rattle.std.proofs.lemmas.Bool.{cases_eq, cases_order}
use Rattle.std.proofs.lemmas.List.{get_or_default, length-map, get_or-map}
use Rattle.std.proofs.lemmas.List.Elements.{All-cons, All-contains, All-weaker}
use Rattle.std.proofs.lemmas.List.Kept.{AllPairs-cons}
use Rattle.std.proofs.lemmas.List.Sums.{sum_by-cons}
use Rattle.step_ledger.specs.Counts.{RisesBy}
use Rattle.step_ledger.proofs.Rises.{stays, goes_on}
use Rattle.clause_model.specs.Clauses.{hint_lengths}
use Rattle.lrat_check.specs.Text.{Content, addition, deletion, id_of, meant, names_of, Suffice, IsShortened, AddsFirstEmpty, IsUsed, empty, named, IsUsedPart, HasEmpty, used_lengths}
use Rattle.lrat_check.specs.Runs.{IsRefutation}
use Rattle.lrat_check.specs.Ending.{up_to_empty}
use Rattle.lrat_check.specs.Shown.{IsBefore, MarksNamed}
use Rattle.lrat_check.proofs.Members.{head_or_tail, head_in, tail_in, none_in}
use Rattle.lrat_check.proofs.Sufficing.{Suffice-once}
use Rattle.lrat_check.proofs.Shortened.{lits, goes_up, names_below, used_up_to, refutation_ends}
use Rattle.lrat_check.proofs.Ending.{ending_order, ending_last, ending_all, added_once}

module _ (clauses : List (List ℕ)) (lines : List Content) (r : IsRefutation clauses lines) (n : HasEmpty clauses → ⊥) where
  -- shortened additions with one id are the same
  once : (a b : Content) → IsShortened clauses lines a → IsShortened clauses lines b → id_of a ≡ id_of b → a ≡ b
  once (addition i l h) (addition j m g) (all, k, w, s, e) (others, o, v, t, f) z =
      let both = added_once (length clauses) lines (goes_up clauses lines r) i l m all others w (subst (λ (j : ℕ). Contains lines (addition j m others)) (sym z) v) in
      let x : l ≡ m = both.0 in
      let y : all ≡ others = both.1 in
      let t' : Suffice (meant clauses lines) (lits l) (map unsigned_abs all) o = rw (x, y) t in
      let q : k ≡ o = Suffice-once (meant clauses lines) (lits l) (map unsigned_abs all) k o s t' in
      let u : h ≡ g = e ∙ (rw (q, y) refl) ∙ sym f in
      cc
  once (addition i l h) (deletion j ids) sh dead z = absurd dead
  once (deletion i ids) b dead sh z = absurd dead

  adds : List Content
  adds = up_to_empty lines

  up : AllPairs IsBefore (up_to_empty lines)
  up = ending_order (length clauses) lines (goes_up clauses lines r)

  pub end : (e : ℕ) × AddsFirstEmpty lines e
  end = refutation_ends clauses lines r n

  pub ends : (1 ≤ length (up_to_empty lines)) × ((k : ℕ) (d : Content) → k + 1 ≡ length (up_to_empty lines) → id_of (get_or (up_to_empty lines) k d) ≡ end.0)
  ends = ending_last (length clauses) lines end.0 (goes_up clauses lines r) end.1

  apart : (i j : ℕ) (d : Content) → i < length (up_to_empty lines) → j < length (up_to_empty lines) → id_of (get_or (up_to_empty lines) i d) ≡ id_of (get_or (up_to_empty lines) j d) → i ≡ j
  apart i j d a b e = elim (cases_order i j) [
    | inl s ↦ s
    | inr (inl l) ↦ let x : id_of (get_or (up_to_empty lines) i d) < id_of (get_or (up_to_empty lines) j d) = up i j d l b in absurd (omega arith)
    | inr (inr l) ↦ let x : id_of (get_or (up_to_empty lines) j d) < id_of (get_or (up_to_empty lines) i d) = up j i d l a in absurd (omega arith)
  ]

  -- the place of a used addition
  place_used : (line : Content) → IsShortened clauses lines line → IsUsed clauses lines (id_of line) → (k : ℕ) × (k < length (up_to_empty lines)) × ((d : Content) → id_of (get_or (up_to_empty lines) k d) ≡ id_of line)
  place_used (addition id literals hints) (all, m, i, s, e) u =
      let b : id ≤ end.0 = used_up_to clauses lines r end.0 id end.1 u in
      let c = ending_all (length clauses) lines end.0 (goes_up clauses lines r) end.1 id literals all b i in
      (c.0, c.1, λ d. ap id_of (get_or_default (up_to_empty lines) c.0 d (addition id literals all) c.1 ∙ c.2))
  place_used (deletion id ids) dead u = absurd dead

  -- the lines done are used, those at and after the place that are marked are done, and what they name is marked
  pub record Going (done : List Content) (marks : List Bool) (place from to : ℕ) : Type 0 where
    pub same : length marks ≡ length (up_to_empty lines)
    pub only : All (λ line. IsShortened clauses lines line × IsUsed clauses lines (id_of line)) done
    pub in_order : AllPairs IsBefore done
    pub last : (k : ℕ) → k + 1 ≡ length (up_to_empty lines) → get_or marks k false ≡ true
    pub sound : (k : ℕ) (d : Content) → k < length (up_to_empty lines) → get_or marks k false ≡ true → IsUsed clauses lines (id_of (get_or (up_to_empty lines) k d))
    pub reached : (k : ℕ) (d : Content) → place ≤ k → k < length (up_to_empty lines) → get_or marks k false ≡ true → (line : Content) × Contains done line × (id_of line ≡ id_of (get_or (up_to_empty lines) k d))
    pub later : All (λ line. (k : ℕ) (d : Content) → k < place → id_of (get_or (up_to_empty lines) k d) < id_of line) done
    pub closed : (line : Content) → Contains done line → (k : ℕ) (d : Content) → k < length (up_to_empty lines) → Contains (names_of line) (id_of (get_or (up_to_empty lines) k d)) → get_or marks k false ≡ true
    pub rises : RisesBy from to (used_lengths clauses lines done)

  pub Going-begun : (marks : List Bool) (from : ℕ) → length marks ≡ length (up_to_empty lines) → ((k : ℕ) → k < length (up_to_empty lines) → (get_or marks k false ≡ true → k + 1 ≡ length (up_to_empty lines)) × (k + 1 ≡ length (up_to_empty lines) → get_or marks k false ≡ true)) → Going [] marks (length (up_to_empty lines)) from from
  Going-begun marks from f m = record {
    same = f;
    only = λ k d b. absurd (omega arith);
    in_order = λ i j d l b. absurd (omega arith);
    last = λ k b. (m k (omega arith)).1 b;
    sound = λ k d b t. empty (subst (AddsFirstEmpty lines) (sym (ends.1 k d ((m k b).0 t))) end.1);
    reached = λ k d b c t. absurd (omega arith);
    later = λ k d b. absurd (omega arith);
    closed = λ line i k d b c. absurd (none_in line i);
    rises = stays from;
  }

  module _ (done : List Content) (marks : List Bool) (place from now : ℕ) (b : place < length (up_to_empty lines)) (h : Going done marks (place + 1) from now) where
    pub Going-kept : get_or marks place false ≡ false → Going done marks place from now
    Going-kept f = record {
      same = h.same;
      only = h.only;
      in_order = h.in_order;
      last = h.last;
      sound = h.sound;
      reached = λ k d c l t. elim (cases_eq k place) [
        | inl s ↦ absurd (true≢false (sym t ∙ ap (λ (k : ℕ). get_or marks k false) s ∙ f))
        | inr n ↦ h.reached k d (omega arith) l t
      ];
      later = All-weaker (λ line. (k : ℕ) (d : Content) → k < place + 1 → id_of (get_or (up_to_empty lines) k d) < id_of line) (λ line. (k : ℕ) (d : Content) → k < place → id_of (get_or (up_to_empty lines) k d) < id_of line) (λ x g k d c. g k d (omega arith)) done h.later;
      closed = h.closed;
      rises = h.rises;
    }

    -- the line at the place, which is marked
    module _ (t : get_or marks place false ≡ true) (line : Content) (sh : IsShortened clauses lines line) (at : (d : Content) → id_of (get_or (up_to_empty lines) place d) ≡ id_of line) where
      used : IsUsed clauses lines (id_of line)
      used = subst (IsUsed clauses lines) (at line) (h.sound place line b t)

      before_done : All (IsBefore line) done
      before_done k d c = let x : id_of (get_or (up_to_empty lines) place line) < id_of (get_or done k d) = h.later k d c place line (omega arith) in let y : id_of (get_or (up_to_empty lines) place line) ≡ id_of line = at line in omega arith

      pub next_only : All (IsShortened clauses lines) (line ∷ done)
      next_only = All-cons (IsShortened clauses lines) line done sh (λ k d c. (h.only k d c).0)

      pub next_order : AllPairs IsBefore (line ∷ done)
      next_order = AllPairs-cons IsBefore line done before_done h.in_order

      module _ (ids : List ℕ) (e : ids ≡ map id_of (up_to_empty lines)) (new : List Bool) (m : MarksNamed ids (names_of line) marks new) (to : ℕ) (g : RisesBy now to (hint_lengths (meant clauses lines) (names_of line))) where
        ids_long : length ids ≡ length (up_to_empty lines)
        ids_long = ap length e ∙ length-map (up_to_empty lines) id_of

        id_at : (k : ℕ) (d : Content) → k < length (up_to_empty lines) → get_or ids k 0 ≡ id_of (get_or (up_to_empty lines) k d)
        id_at k d l = ap (λ (xs : List ℕ). get_or xs k 0) e ∙ get_or-map id_of (up_to_empty lines) k d 0 l

        grows : (k : ℕ) → get_or marks k false ≡ true → get_or new k false ≡ true
        grows k t = (m.marked k).1 (inl t)

        named_at : (k : ℕ) (d : Content) → k < length (up_to_empty lines) → Contains (names_of line) (get_or ids k 0) → Contains (names_of line) (id_of (get_or (up_to_empty lines) k d))
        named_at k d l c = subst (Contains (names_of line)) (id_at k d l) c

        more : used_lengths clauses lines done + hint_lengths (meant clauses lines) (names_of line) ≡ used_lengths clauses lines (line ∷ done)
        more = let x = sum_by-cons (λ line. hint_lengths (meant clauses lines) (names_of line)) line done in omega arith

        pub Going-next : Going (line ∷ done) new place from to
        Going-next = record {
          same = m.same ∙ h.same;
          only = All-cons (λ line. IsShortened clauses lines line × IsUsed clauses lines (id_of line)) line done (sh, used) h.only;
          in_order = next_order;
          last = λ k s. grows k (h.last k s);
          sound = λ k d l s. elim ((m.marked k).0 s) [
            | inl x ↦ h.sound k d l x
            | inr x ↦ named line sh used (named_at k d l x.1)
          ];
          reached = λ k d c l s. elim (cases_eq k place) [
            | inl z ↦ (line, head_in line done, rw z (sym (at d)))
            | inr q ↦ elim ((m.marked k).0 s) [
              | inl x ↦ let y = h.reached k d (omega arith) l x in (y.0, tail_in line done y.0 y.1, y.2)
              | inr x ↦
                  let a : id_of (get_or (up_to_empty lines) k d) < id_of line = names_below clauses lines r line (id_of (get_or (up_to_empty lines) k d)) sh (named_at k d l x.1) in
                  let o : id_of (get_or (up_to_empty lines) place d) < id_of (get_or (up_to_empty lines) k d) = up place k d (omega arith) l in
                  let g : id_of (get_or (up_to_empty lines) place d) ≡ id_of line = at d in
                  absurd (omega arith)
            ]
          ];
          later = All-cons (λ line. (k : ℕ) (d : Content) → k < place → id_of (get_or (up_to_empty lines) k d) < id_of line) line done
              (λ k d c. let o : id_of (get_or (up_to_empty lines) k d) < id_of (get_or (up_to_empty lines) place d) = up k place d c b in let g : id_of (get_or (up_to_empty lines) place d) ≡ id_of line = at d in omega arith)
              (All-weaker (λ line. (k : ℕ) (d : Content) → k < place + 1 → id_of (get_or (up_to_empty lines) k d) < id_of line) (λ line. (k : ℕ) (d : Content) → k < place → id_of (get_or (up_to_empty lines) k d) < id_of line) (λ x g k d c. g k d (omega arith)) done h.later);
          closed = λ x i k d l c. elim (head_or_tail line done x i) [
            | inl z ↦ (m.marked k).1 (inr ((let y = ids_long in omega arith), subst (Contains (names_of line)) (sym (id_at k d l)) (subst (λ (x : Content). Contains (names_of x) (id_of (get_or (up_to_empty lines) k d))) (sym z) c)))
            | inr j ↦ grows k (h.closed x j k d l c)
          ];
          rises = subst (λ (m : ℕ). RisesBy from to m) more (goes_on from now to (used_lengths clauses lines done) (hint_lengths (meant clauses lines) (names_of line)) h.rises g);
        }

  -- all that is used is done
  module _ (done : List Content) (marks : List Bool) (from to : ℕ) (h : Going done marks 0 from to) where
    complete : (q : ℕ) → IsUsed clauses lines q → (k : ℕ) (d : Content) → k < length (up_to_empty lines) → id_of (get_or (up_to_empty lines) k d) ≡ q → get_or marks k false ≡ true
    complete q (empty f) k d b e =
        let some = ends.0 in
        let l : ℕ × Unit {0} = (length (up_to_empty lines) - 1, tt) in
        let s : l.0 + 1 ≡ length (up_to_empty lines) = omega arith in
        let x : q ≤ end.0 = f.first end.0 end.1.adds.0 end.1.adds.1 in
        let y : end.0 ≤ q = end.1.first q f.adds.0 f.adds.1 in
        let g : id_of (get_or (up_to_empty lines) l.0 d) ≡ end.0 = ends.1 l.0 d s in
        let z : k ≡ l.0 = apart k l.0 d b (omega arith) (omega arith) in
        rw z (h.last l.0 s)
    complete q (named line sh u w) k d b e =
        let p = place_used line sh u in
        let t : get_or marks p.0 false ≡ true = complete (id_of line) u p.0 line p.1 (p.2 line) in
        let f = h.reached p.0 line (omega arith) p.1 t in
        let g = All-contains (λ line. IsShortened clauses lines line × IsUsed clauses lines (id_of line)) done f.0 h.only f.1 in
        let z : f.0 ≡ line = once f.0 line g.0 sh (f.2 ∙ p.2 line) in
        h.closed f.0 f.1 k d b (rw (z, e) w)

    pub Going-all : IsUsedPart clauses lines done
    Going-all = record {
      only = h.only;
      every = λ line sh u.
          let p = place_used line sh u in
          let t : get_or marks p.0 false ≡ true = complete (id_of line) u p.0 line p.1 (p.2 line) in
          let f = h.reached p.0 line (omega arith) p.1 t in
          let g = All-contains (λ line. IsShortened clauses lines line × IsUsed clauses lines (id_of line)) done f.0 h.only f.1 in
          subst (Contains done) (once f.0 line g.0 sh (f.2 ∙ p.2 line)) f.1;
      in_order = h.in_order;
    }
