-- The loop of propagation, from one literal of the trail to the next.
use Rattle.std.proofs.Common.{◌≡◌, ◌≢◌, ℕ, ◌+◌, ◌<◌, ◌≤◌, ◌⊎◌, List, [], ◌∷◌, ◌++◌, length, take, get_or, Option, sym, ◌∙◌, ap, inl, inr, arith, subst, suc, true, false, nat_eq}
use Rattle.std.specs.Prelude.{Contains, All, AllPairs}
use Rattle.std.specs.List.{IsDistinct, list_any}
use Rattle.std.proofs.lemmas.Bool.{cases_eq}
use Rattle.std.proofs.lemmas.Bool.Decides.{nat_tests}
use Rattle.std.proofs.lemmas.List.{take_more, take-take, take_all}
use Rattle.std.proofs.lemmas.List.Elements.{All-tail, All-head, recursion_from_All, Contains-push_cases}
use Rattle.std.proofs.lemmas.Map.Steps.{length-le_from_distinct_below}
use Rattle.clause_model.specs.Clauses.{negated}
use Rattle.clause_arena.specs.Contents.{Content, Watches}
use Rattle.unit_propagation.specs.Watching.{IsOtherTrue, RuleUpTo, Rule, IsLater}
use Rattle.unit_propagation.proofs.Steps.{later_after}
use Rattle.clause_model.proofs.LiteralLaws.{negated-negated as negated_twice}

distinct_from_pairs : (xs : List ℕ) → AllPairs (λ l m. l ≢ m) xs → IsDistinct nat_eq xs
unfolding IsDistinct
distinct_from_pairs [] h = tt
distinct_from_pairs (x ∷ xs) h = (
  recursion_from_All (λ y. nat_eq x y ≡ false) xs (λ k d b. let n : x ≢ get_or xs k d = h 0 (suc k) d (omega arith) (omega arith) in grind (arith, nat_tests)),
  distinct_from_pairs xs (λ i j d a b. h (suc i) (suc j) d (omega arith) (omega arith)),
)

any_below : (n q : ℕ) (xs : List ℕ) → All (λ l. l < n) xs → list_any (nat_eq q) xs ≡ true → q < n
any_below n q [] h e = cc
any_below n q (x ∷ xs) h e = elim (cases_eq q x) [
  | inl f ↦ rw f (All-head (λ l. l < n) x xs h)
  | inr d ↦ any_below n q xs (All-tail (λ l. l < n) x xs h) (let z : nat_eq q x ≡ false = grind (arith, nat_tests) in rw z at e)
]

-- a list of different numbers below n has at most n
pub length_below : (n : ℕ) (xs : List ℕ) → AllPairs (λ l m. l ≢ m) xs → All (λ l. l < n) xs → length xs ≤ n
length_below n xs d h = length-le_from_distinct_below xs n (distinct_from_pairs xs d) (λ q e. any_below n q xs h e)

-- the rule of watches holds for the literals of the trail before `head`
pub record IsAt (start : Content) (a : List ℕ) (r : List (Option ℕ)) (content : Content) (b : List ℕ) (s : List (Option ℕ)) (head : ℕ) : Type 0 where
  pub later : IsLater start a r content b s
  pub low : head ≤ length b
  pub rule : RuleUpTo content (take head b) b

-- what a walk requires of the next literal
pub next_rule : (content : Content) (a : List ℕ) (head literal f : ℕ) → head < length a → literal ≡ get_or a head literal → f ≡ negated literal → RuleUpTo content (take head a) a → (at slot l : ℕ) → Watches content at slot l → Contains (take (head + 1) a) (negated l) → (l ≡ f) ⊎ IsOtherTrue content a at slot
next_rule content a head literal f b e g rule at slot l w c =
    let t : take (head + 1) a ≡ take head a ++ literal ∷ [] = take_more a head literal b ∙ ap (λ (x : ℕ). take head a ++ x ∷ []) (sym e) in
    elim (Contains-push_cases (take head a) literal (negated l) (subst (λ (xs : List ℕ). Contains xs (negated l)) t c)) [
      | inl d ↦ inr (rule at slot l w d)
      | inr d ↦ inl (sym (negated_twice l) ∙ (ap negated (sym d) ∙ sym g))
    ]

pub next_at : (start content later : Content) (a b c : List ℕ) (r s u : List (Option ℕ)) (head : ℕ) → IsAt start a r content b s head → head < length b → IsLater content b s later c u → RuleUpTo later (take (head + 1) b) c → IsAt start a r later c u (head + 1)
next_at start content later a b c r s u head h l g q =
    let k : length b ≤ length c = g.longer in
    let n : head + 1 ≤ length b = omega arith in
    let t : take (head + 1) c ≡ take (head + 1) b = sym (take-take (head + 1) (length b) c n) ∙ ap (λ (xs : List ℕ). take (head + 1) xs) g.prefix in
    record {
      later = later_after start content later a b c r s u h.later g;
      low = omega arith;
      rule = subst (λ (p : List ℕ). RuleUpTo later p c) (sym t) q;
    }

pub rule_at_end : (start content : Content) (a b : List ℕ) (r s : List (Option ℕ)) (head : ℕ) → IsAt start a r content b s head → length b ≤ head → Rule content b
rule_at_end start content a b r s head h l = subst (λ (p : List ℕ). RuleUpTo content p b) (take_all head b l) h.rule
