-- Where a rule applies, by places that stay.
use Rattle.std.proofs.Common.{◌≡◌, ◌↔◌, ℕ, zero, suc, ◌+◌, ◌-◌, ◌<◌, ◌≤◌, Bool, List, [], ◌∷◌, length, take, drop, map, Some, refl, sym, ap, ◌∙◌, subst, ◌⊎◌, inl, inr, arith}
use Rattle.std.specs.Prelude.{slice_get}
use Rattle.std.proofs.lemmas.Option.{same_Some}
use Rattle.thumb_instr.specs.Window.{Low}
use Rattle.thumb_model.specs.Listing.{Place, Label, Code}
use Rattle.thumb_model.specs.Flow.{Reads, LiveAfter}
use Rattle.rule_model.specs.Rules.{Rule, Applies}
use Rattle.kept_places.specs.Marks.{rank}
use Rattle.rule_model.specs.Rewriting.{IsLeastScratch}
use Rattle.padded_code.specs.Padding.{ranked, IsPadded}
use Rattle.padded_code.specs.Fitting.{FitsAt, IsWindow, IsLeastScratchAt}
use Rattle.padded_code.proofs.Padded.{label_in}
use Rattle.kept_places.proofs.Ranks.{outside_by_rank}
use Rattle.padded_code.proofs.Windows.{windows_stand, live_behind}

somes_same : (xs ys : List Place) → map Some xs ≡ map Some ys → xs ≡ ys
somes_same [] [] e = refl
somes_same [] (y ∷ ys) e = absurd (cc)
somes_same (x ∷ xs) [] e = absurd (cc)
somes_same (x ∷ xs) (y ∷ ys) e =
    let rest : xs ≡ ys = somes_same xs ys (cc) in
    let here : x ≡ y = cc in
    cc

label_back : (gone : List Bool) (ls : List Label) (k : ℕ) (m : Label) → slice_get (map (ranked gone) ls) k ≡ Some m → (l : Label) × (slice_get ls k ≡ Some l) × (ranked gone l ≡ m)
label_back gone [] k m e = absurd (cc)
label_back gone (l ∷ ls) zero m e = (l, refl, same_Some (ranked gone l) m e)
label_back gone (l ∷ ls) (suc k) m e = label_back gone ls k m e

module _ (gone : List Bool) (padded code : Code) (s : IsPadded gone padded code) (marks : length gone ≡ length padded.places) (rule : Rule) (registers : List Low) (r p q : ℕ) (ps : List ℕ) (w : IsWindow gone padded r (length rule.left) p q ps) where
  -- what stands there
  stand : map Some (take (length rule.left) (drop r code.places)) ≡ map (slice_get padded.places) ps
  stand = subst (λ n. map Some (take n (drop r code.places)) ≡ map (slice_get padded.places) ps) w.as_many (windows_stand gone padded code s marks r ps w.ranked)

  -- outside by place and by rank
  outside : (m : ℕ) → ((rank gone m ≤ r) ⊎ (r + length rule.left ≤ rank gone m)) ↔ ((m ≤ p) ⊎ (q < m))
  outside m =
      let both = outside_by_rank gone p q m w.first_kept w.last_kept in
      let first = w.first in
      let last = w.last in (
        λ o. both.0 (elim o [ inl a ↦ inl (omega arith) | inr a ↦ inr (omega arith) ]),
        λ o. elim (both.1 o) [ inl a ↦ inl (omega arith) | inr a ↦ inr (omega arith) ],
      )

  -- live behind
  alive : (x : ℕ) → LiveAfter code (r + length rule.left - 1) x ↔ Reads padded x (suc q)
  alive x =
      let last = w.last in
      let e : rank gone q ≡ r + length rule.left - 1 = omega arith in
      subst (λ n. LiveAfter code n x ↔ Reads padded x (suc q)) e (live_behind gone padded code s q w.instr w.last_kept w.last_stands w.last_goes_on x)

  pub applies_by_places : Applies rule registers code r ↔ FitsAt rule registers padded code r p q ps
  applies_by_places = (
    λ a. record {
      as_many = a.as_many;
      one_to_one = a.one_to_one;
      window = a.window;
      stands = sym stand ∙ ap (map Some) a.stands;
      matches = a.matches;
      unlabelled = λ k l e. (outside l.place).0 (a.unlabelled k (ranked gone l) (label_in gone padded code s k l e));
      live = λ x h. a.live x ((alive x).1 h);
      labels_stay = a.labels_stay;
    },
    λ f. record {
      as_many = f.as_many;
      one_to_one = f.one_to_one;
      window = f.window;
      stands = somes_same _ _ (stand ∙ f.stands);
      matches = f.matches;
      unlabelled = λ k m e.
          let l = label_back gone padded.labels k m (ap (λ (ls : List Label). slice_get ls k) (sym s.labels) ∙ e) in
          subst (λ (b : Label). (b.place ≤ r) ⊎ (r + length rule.left ≤ b.place)) l.2 ((outside l.0.place).1 (f.unlabelled k l.0 l.1));
      live = λ x h. f.live x ((alive x).0 h);
      labels_stay = f.labels_stay;
    },
  )

  pub least_by_places : IsLeastScratch rule registers code r ↔ IsLeastScratchAt rule registers padded q
  least_by_places = (
    λ l scratch e x h. elim (l scratch e x h) [ inl a ↦ inl a | inr a ↦ inr ((alive x).0 a) ],
    λ l scratch e x h. elim (l scratch e x h) [ inl a ↦ inl a | inr a ↦ inr ((alive x).1 a) ],
  )
