-- The loop that finds which rules are kept: its invariant at first, and with one rule more that is kept or shadowed.
use Rattle.std.proofs.Common.{◌≡◌, ℕ, zero, suc, ◌+◌, ◌<◌, Bool, true, List, [], ◌∷◌, length, false, replicate, Option, Some, None, refl, sym, ap, ◌∙◌, subst, arith, inl, inr, true≢false}
use Rattle.std.specs.Prelude.{slice_get, slice_set}
use Rattle.std.proofs.lemmas.Bool.{cases_eq, cases_lt}
use Rattle.std.proofs.lemmas.List.{length-set}
use Rattle.std.proofs.lemmas.Option.{same_Some}
use Rattle.rule_model.specs.Rules.{Rule}
use Rattle.window_rewrite.specs.declared.shadows.KeptEntries.{KeptEntries}
use Rattle.window_rewrite.specs.Rules.{is_marked, is_lighter, is_true, AreKept, IsLed}
use Rattle.window_rewrite.proofs.Heads.{marked_here, marked_still}
use Rattle.window_rewrite.proofs.Keys.{get_set, set_other, some_head}

-- how many rules may still be looked at, from the last one down
abbrev pub up_to : Option ℕ → ℕ
up_to None = 0
up_to (Some n) = n + 1

-- a list of `false` marks nothing
pub none_marked : (n q : ℕ) → is_marked (replicate n false) q ≡ false
none_marked zero q = refl
none_marked (suc n) zero = refl
none_marked (suc n) (suc q) = none_marked n q

-- none is kept yet
pub none_kept : (costs : Option (List ℕ)) (rules : List Rule) (k : KeptEntries) → length k.kept.items ≡ length rules → length k.lasts.items ≡ length rules → length k.earlier.items ≡ length rules
    → ((q : ℕ) (o : Option ℕ) → slice_get k.lasts.items q ≡ Some o → o ≡ None) → ((q : ℕ) (o : Option ℕ) → slice_get k.earlier.items q ≡ Some o → o ≡ None) → ((q : ℕ) → is_marked k.kept.items q ≡ false) → AreKept costs rules 0 k
none_kept costs rules k many lasts earlier no_last no_earlier none = record {
  many = many;
  many_lasts = lasts;
  many_earlier = earlier;
  lasts = λ q j e. absurd (let bad : Some j ≡ None = no_last q (Some j) e in cc);
  earlier = λ q j e. absurd (let bad : Some j ≡ None = no_earlier q (Some j) e in cc);
  lighter = λ q own at h. absurd (true≢false (sym h ∙ none q));
  led = λ k own l at s. absurd (omega (arith, l));
}

-- a rule more that needn't be kept
pub kept_so : (costs : Option (List ℕ)) (rules : List Rule) (n : ℕ) (rule : Rule) (k : KeptEntries) → slice_get rules n ≡ Some rule → AreKept costs rules n k → (is_lighter costs rule ≡ true → IsLed costs rules k.kept.items n rule) → AreKept costs rules (n + 1) k
kept_so costs rules n rule k at x here = record {
  many = x.many;
  many_lasts = x.many_lasts;
  many_earlier = x.many_earlier;
  lasts = λ q j e. let w = x.lasts q j e in let l = w.0 in (omega arith, w.1);
  earlier = x.earlier;
  lighter = x.lighter;
  led = λ i own l there s. elim (cases_lt i n) [
    | inl m ↦ x.led i own m there s
    | inr m ↦ (
        let same : i ≡ n = omega arith in
        let is : own ≡ rule = same_Some own rule (sym there ∙ ap (slice_get rules) same ∙ at) in
        subst (λ j. IsLed costs rules k.kept.items j own) (sym same) (subst (λ (r : Rule). IsLed costs rules k.kept.items n r) (sym is) (here (ap (is_lighter costs) (sym is) ∙ s)))
        )
  ];
}

-- a rule more that is kept
pub more_kept : (costs : Option (List ℕ)) (rules : List Rule) (n shared : ℕ) (rule : Rule) (old new : KeptEntries) (o : Option ℕ) → slice_get rules n ≡ Some rule → n < length rules → shared < length rules → is_lighter costs rule ≡ true → AreKept costs rules n old → slice_get old.lasts.items shared ≡ Some o
    → new.kept.items ≡ slice_set old.kept.items n true → new.lasts.items ≡ slice_set old.lasts.items shared (Some n) → new.earlier.items ≡ slice_set old.earlier.items n o → AreKept costs rules (n + 1) new
more_kept costs rules n shared rule old new o at within small light x was kept lasts earlier = record {
  many = ap (λ (l : List Bool). length l) kept ∙ length-set old.kept.items n true ∙ x.many;
  many_lasts = ap (λ (l : List (Option ℕ)). length l) lasts ∙ length-set old.lasts.items shared (Some n) ∙ x.many_lasts;
  many_earlier = ap (λ (l : List (Option ℕ)). length l) earlier ∙ length-set old.earlier.items n o ∙ x.many_earlier;
  lasts = λ q j e.
      let there : slice_get (slice_set old.lasts.items shared (Some n)) q ≡ Some (Some j) = ap (λ (l : List (Option ℕ)). slice_get l q) (sym lasts) ∙ e in
      elim (cases_eq shared q) [
        | inl same ↦ (
            let is : j ≡ n = number_head j n (some_head (Some j) (Some n) (sym there ∙ ap (slice_get (slice_set old.lasts.items shared (Some n))) (sym same) ∙ get_set old.lasts.items shared (Some n) (omega (arith, small, x.many_lasts)))) in
            (omega arith, ap (is_marked new.kept.items) is ∙ here)
            )
        | inr other ↦ (let w = x.lasts q j (sym (set_other old.lasts.items shared q (Some n) other) ∙ there) in let l = w.0 in (omega arith, still j w.1))
      ];
  earlier = λ q j e.
      let there : slice_get (slice_set old.earlier.items n o) q ≡ Some (Some j) = ap (λ (l : List (Option ℕ)). slice_get l q) (sym earlier) ∙ e in
      elim (cases_eq n q) [
        | inl same ↦ (
            let is : o ≡ Some j = some_head o (Some j) (sym (get_set old.earlier.items n o (omega (arith, within, x.many_earlier))) ∙ ap (slice_get (slice_set old.earlier.items n o)) same ∙ there) in
            let w = x.lasts shared j (was ∙ ap Some is) in
            let l = w.0 in
            (omega arith, still j w.1)
            )
        | inr other ↦ (let w = x.earlier q j (sym (set_other old.earlier.items n q o other) ∙ there) in (w.0, still j w.1))
      ];
  lighter = λ q own there marked. elim (cases_eq n q) [
    | inl same ↦ subst (λ (r : Rule). is_lighter costs r ≡ true) (same_Some rule own (sym at ∙ ap (slice_get rules) same ∙ there)) light
    | inr other ↦ x.lighter q own there (marked_before q other ∙ marked)
  ];
  led = λ i own l there s. elim (cases_lt i n) [
    | inl m ↦ (let d = x.led i own m there s in record { leader = d.leader; no_later = d.no_later; is_kept = still d.leader d.is_kept; other = d.other; at = d.at; lighter = d.lighter; alike = d.alike })
    | inr m ↦ (
        let same : i ≡ n = omega arith in
        record { leader = i; no_later = omega arith; is_kept = ap (is_marked new.kept.items) same ∙ here; other = own; at = there; lighter = s; alike = record { left = refl; mask = refl; as_long = refl; no_more = λ h. h } }
        )
  ];
}
  where
    number_head : (a b : ℕ) → (let x : Option ℕ = Some a in x) ≡ Some b → a ≡ b
    number_head a b e = cc

    still : (q : ℕ) → is_marked old.kept.items q ≡ true → is_marked new.kept.items q ≡ true
    still q h = ap (λ (l : List Bool). is_marked l q) kept ∙ marked_still old.kept.items n q h

    marked_before : (q : ℕ) → (n ≡ q → ⊥) → is_marked old.kept.items q ≡ is_marked new.kept.items q
    marked_before q other = ap is_true (sym (set_other old.kept.items n q true other)) ∙ ap (λ (l : List Bool). is_marked l q) (sym kept)

    here : is_marked new.kept.items n ≡ true
    here = ap (λ (l : List Bool). is_marked l n) kept ∙ marked_here old.kept.items n (omega (arith, within, x.many))

-- the rule of a number
pub record IsThere (rules : List Rule) (k : ℕ) : Type 0 where
  pub rule : Rule
  pub at : slice_get rules k ≡ Some rule

pub is_there : (rules : List Rule) (k : ℕ) → k < length rules → IsThere rules k
is_there [] k h = absurd (omega arith)
is_there (r ∷ rs) zero h = record { rule = r; at = refl }
is_there (r ∷ rs) (suc k) h = let t = is_there rs k (omega arith) in record { rule = t.rule; at = t.at }

pub up_to_less : (at next : Option ℕ) (n : ℕ) → at ≡ Some n → ((j : ℕ) → next ≡ Some j → j < n) → up_to next < up_to at
up_to_less at next n e h = subst (λ o. up_to next < up_to o) (sym e) (by next refl)
  where
    by : (o : Option ℕ) → next ≡ o → up_to o < n + 1
    by None f = omega arith
    by (Some j) f = let l = h j f in omega arith
