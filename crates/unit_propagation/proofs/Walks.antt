-- The walk along the chain of a literal that has become false.
use Rattle.std.proofs.Common.{◌≡◌, ℕ, ◌-◌, ◌<◌, ◌⊎◌, List, [], ◌∷◌, ◌++◌, length, length-append, map, refl, sym, ◌∙◌, ap, inl, inr, arith, subst, suc, Option, Some, None, true, false, cond, nat_eq, append_assoc}
use Rattle.std.specs.Prelude.{Contains, slice_get, ◌&&◌}
use Rattle.std.proofs.lemmas.Bool.{cases_eq}
use Rattle.std.proofs.lemmas.Bool.Decides.{nat_tests}
use Rattle.std.proofs.lemmas.List.Elements.{Contains-append_left, Contains-append_right}
use Rattle.clause_model.specs.Clauses.{negated}
use Rattle.clause_arena.specs.Contents.{Clause, Content, HasLiteral, Watches, IsWhole, IsBetween, IsAfter, chain_of, literals_in, clause_among}
use Rattle.unit_propagation.specs.Watching.{IsKnown, IsOtherTrue, RuleUpTo, IsLater, IsMoved, Due}
use Rattle.unit_propagation.proofs.Steps.{Contains-first, due_true, later_after, later_same, part_of_longer}

-- the part of a chain from a watch on
abbrev pub tail_from : List (ℕ × ℕ) → Option (ℕ × ℕ) → List (ℕ × ℕ)
tail_from [] next = []
tail_from (x ∷ xs) None = []
tail_from (x ∷ xs) (Some w) = cond (nat_eq x.0 w.0 && nat_eq x.1 w.1) (x ∷ xs) (tail_from xs (Some w))

tail_none : (xs : List (ℕ × ℕ)) → tail_from xs None ≡ []
tail_none [] = refl
tail_none (x ∷ xs) = refl

tail_is : (seen : List (ℕ × ℕ)) (w : ℕ × ℕ) (rest : List (ℕ × ℕ)) → (Contains seen w → ⊥) → tail_from (seen ++ w ∷ rest) (Some w) ≡ w ∷ rest
tail_is [] w rest n =
    let e : nat_eq w.0 w.0 ≡ true = grind (arith, nat_tests) in
    let f : nat_eq w.1 w.1 ≡ true = grind (arith, nat_tests) in
    rw (e, f) refl
tail_is (x ∷ seen) w rest n = elim (cases_eq x.0 w.0) [
  | inl e ↦ elim (cases_eq x.1 w.1) [
    | inl f ↦ absurd (n (0, omega arith, same x w e f))
    | inr d ↦
        let a : nat_eq x.0 w.0 ≡ true = grind (arith, nat_tests) in
        let b : nat_eq x.1 w.1 ≡ false = grind (arith, nat_tests) in
        rw (a, b) (tail_is seen w rest (λ c. n (suc c.0, (let l : c.0 < length seen = c.1 in omega arith), c.2)))
  ]
  | inr d ↦
      let a : nat_eq x.0 w.0 ≡ false = grind (arith, nat_tests) in
      rw a (tail_is seen w rest (λ c. n (suc c.0, (let l : c.0 < length seen = c.1 in omega arith), c.2)))
]
  where
    same : (p q : ℕ × ℕ) → p.0 ≡ q.0 → p.1 ≡ q.1 → p ≡ q
    same (a, b) (c, d) e f = rw (e, f) refl

last_push : (xs : List (ℕ × ℕ)) (w : ℕ × ℕ) → slice_get (xs ++ w ∷ []) (length (xs ++ w ∷ []) - 1) ≡ Some w
last_push [] w = refl
last_push (x ∷ xs) w =
    let n : length (x ∷ (xs ++ w ∷ [])) - 1 ≡ suc (length (xs ++ w ∷ []) - 1) = omega (arith, length-append xs (w ∷ [])) in
    rw n (last_push xs w)

first_none : (xs : List (ℕ × ℕ)) → slice_get xs 0 ≡ None → xs ≡ []
first_none [] h = refl
first_none (x ∷ xs) h = absurd cc

nothing_in : (w : ℕ × ℕ) → Contains [] w → ⊥
nothing_in w c = let b : c.0 < 0 = c.1 in absurd (omega arith)

first_some : (xs : List (ℕ × ℕ)) (w : ℕ × ℕ) → slice_get xs 0 ≡ Some w → (ys : List (ℕ × ℕ)) × (xs ≡ w ∷ ys)
first_some [] w h = absurd cc
first_some (x ∷ xs) w h = let e : x ≡ w = cc in (xs, rw e refl)

pub known_later : (earlier later : Content) → later.clauses ≡ earlier.clauses → length later.chains ≡ length earlier.chains → IsKnown earlier → IsKnown later
known_later earlier later c s k = record {
  literals = λ at l h i.
      let b : HasLiteral earlier l = k.literals at l (subst (λ (cs : List Clause). Contains (map (λ (x : Clause). x.at) cs) at) c h) (subst (λ (cs : List Clause). Contains (literals_in (clause_among cs at)) l) c i) in
      omega (arith, s);
  contrary = λ l h. let b : HasLiteral earlier (negated l) = k.contrary l (omega (arith, s)) in omega (arith, s);
}

-- if at the start the rule holds but for the falsified literal, it now holds but for the watches from `next` on
pub record IsOn (start : Content) (a : List ℕ) (r : List (Option ℕ)) (content : Content) (b : List ℕ) (s : List (Option ℕ)) (falsified : ℕ) (before next : Option (ℕ × ℕ)) (seen later : List (ℕ × ℕ)) : Type 0 where
  pub whole : IsWhole content
  pub on : IsLater start a r content b s
  pub literal_known : HasLiteral content falsified
  pub chain : chain_of content falsified ≡ seen ++ later
  pub last : slice_get seen (length seen - 1) ≡ before
  pub first : next ≡ slice_get later 0
  pub due : (p : List ℕ) → ((k : ℕ) → Contains p k → Contains a k) → ((at slot literal : ℕ) → Watches start at slot literal → Contains p (negated literal) → (literal ≡ falsified) ⊎ IsOtherTrue start a at slot) → Due content p b falsified later

pub on_start : (start : Content) (a : List ℕ) (r : List (Option ℕ)) → length r ≡ length a → (f : ℕ) (next : Option (ℕ × ℕ)) → IsWhole start → HasLiteral start f → next ≡ slice_get (chain_of start f) 0 → IsOn start a r start a r f None next [] (chain_of start f)
on_start start a r al f next w k e = record {
  whole = w;
  on = later_same start a r al;
  literal_known = k;
  chain = refl;
  last = refl;
  first = e;
  due = λ p part h at slot l x y. elim (h at slot l x y) [
    | inl g ↦ inl (g, subst (λ (m : ℕ). Contains (chain_of start m) (at, slot)) g x.1)
    | inr t ↦ inr t
  ];
}

module _ (start : Content) (a : List ℕ) (r : List (Option ℕ)) (content : Content) (b : List ℕ) (s : List (Option ℕ)) (f : ℕ) (before next : Option (ℕ × ℕ)) (seen later : List (ℕ × ℕ)) (h : IsOn start a r content b s f before next seen later) where
  pub tail_on : tail_from (chain_of content f) next ≡ later
  tail_on = go later h.chain h.first
    where
      go : (xs : List (ℕ × ℕ)) → chain_of content f ≡ seen ++ xs → next ≡ slice_get xs 0 → tail_from (chain_of content f) next ≡ xs
      go [] c e = ap (λ (n : Option (ℕ × ℕ)). tail_from (chain_of content f) n) e ∙ tail_none (chain_of content f)
      go (x ∷ xs) c e =
          let i : IsBetween content f seen x xs = record { literal_known = h.literal_known; chain = c } in
          ap (λ (n : Option (ℕ × ℕ)). tail_from (chain_of content f) n) e ∙ (ap (λ (ys : List (ℕ × ℕ)). tail_from ys (Some x)) c ∙ tail_is seen x xs (λ d. h.whole.once f seen x xs i (Contains-append_left seen xs x d)))

  pub on_end : next ≡ None → (p : List ℕ) → ((k : ℕ) → Contains p k → Contains a k) → ((at slot literal : ℕ) → Watches start at slot literal → Contains p (negated literal) → (literal ≡ f) ⊎ IsOtherTrue start a at slot) → RuleUpTo content p b
  on_end e p part rule at slot l x y =
      let z : later ≡ [] = first_none later (sym h.first ∙ e) in
      elim (h.due p part rule at slot l x y) [
        | inl g ↦ absurd (nothing_in (at, slot) (subst (λ (xs : List (ℕ × ℕ)). Contains xs (at, slot)) z g.1))
        | inr t ↦ t
      ]

  module _ (w : ℕ × ℕ) (e : next ≡ Some w) where
    pub rest : List (ℕ × ℕ)
    rest = (first_some later w (sym h.first ∙ e)).0

    pub is_rest : later ≡ w ∷ rest
    unfolding rest
    is_rest = (first_some later w (sym h.first ∙ e)).1

    pub after : IsAfter content before w f seen rest
    after = record { between = record { literal_known = h.literal_known; chain = h.chain ∙ ap (λ (xs : List (ℕ × ℕ)). seen ++ xs) is_rest }; last = h.last }

    pub stands_now : Watches content w.0 w.1 f
    stands_now = (h.literal_known, subst (λ (xs : List (ℕ × ℕ)). Contains xs w) (sym after.between.chain) (Contains-append_right seen (w ∷ rest) w (Contains-first w rest)))

    due_here : (p : List ℕ) → ((k : ℕ) → Contains p k → Contains a k) → ((at slot literal : ℕ) → Watches start at slot literal → Contains p (negated literal) → (literal ≡ f) ⊎ IsOtherTrue start a at slot) → Due content p b f (w ∷ rest)
    due_here p part rule = subst (λ (xs : List (ℕ × ℕ)). Due content p b f xs) is_rest (h.due p part rule)

    pub on_kept : (next' : Option (ℕ × ℕ)) (content' : Content) (c : List ℕ) (t' : List (Option ℕ)) → next' ≡ slice_get rest 0 → content' ≡ content → IsWhole content' → IsLater content b s content' c t' → IsOtherTrue content' c w.0 w.1 → IsOn start a r content' c t' f (Some w) next' (seen ++ w ∷ []) rest
    on_kept next' content' c t' n g whole l t = record {
      whole = whole;
      on = later_after start content content' a b c r s t' h.on l;
      literal_known = subst (λ (x : Content). HasLiteral x f) (sym g) h.literal_known;
      chain = ap (λ (x : Content). chain_of x f) g ∙ (after.between.chain ∙ sym (append_assoc seen (w ∷ []) rest));
      last = last_push seen w;
      first = n;
      due = λ p part rule. subst (λ (x : Content). Due x p c f rest) (sym g) (due_true content p b c w.0 w.1 f t.0 (part_of_longer b c l.prefix) (subst (λ (x : Content). Watches x w.0 (1 - w.1) t.0) g t.1.0) t.1.1 rest (due_here p part rule));
    }

    pub on_moved : (next' : Option (ℕ × ℕ)) (content' : Content) (c : List ℕ) (t' : List (Option ℕ)) → next' ≡ slice_get rest 0 → IsWhole content' → IsLater content b s content' c t' → c ≡ b → IsMoved content content' b f before w → IsOn start a r content' c t' f before next' seen rest
    on_moved next' content' c t' n whole l g m = record {
      whole = whole;
      on = later_after start content content' a b c r s t' h.on l;
      literal_known = let k : HasLiteral content f = h.literal_known in omega (arith, l.size);
      chain = m.chain seen rest after;
      last = h.last;
      first = n;
      due = λ p part rule. subst (λ (d : List ℕ). Due content' p d f rest) (sym g) (m.due p rest (λ k i. part_of_longer a b h.on.prefix k (part k i)) (due_here p part rule));
    }

-- the rest of the chain is shorter
pub smaller : (start : Content) (a : List ℕ) (r : List (Option ℕ)) (content : Content) (b : List ℕ) (s : List (Option ℕ)) (f : ℕ) (before next : Option (ℕ × ℕ)) (seen later : List (ℕ × ℕ)) (h : IsOn start a r content b s f before next seen later) (w : ℕ × ℕ) (e : next ≡ Some w) (next' : Option (ℕ × ℕ)) (content' : Content) (c : List ℕ) (t : List (Option ℕ)) (before' : Option (ℕ × ℕ)) (seen' : List (ℕ × ℕ))
    → IsOn start a r content' c t f before' next' seen' (rest start a r content b s f before next seen later h w e) → length (tail_from (chain_of content' f) next') < length (tail_from (chain_of content f) next)
smaller start a r content b s f before next seen later h w e next' content' c t before' seen' g =
    omega (arith, ap length (tail_on start a r content b s f before next seen later h), ap length (is_rest start a r content b s f before next seen later h w e), ap length (tail_on start a r content' c t f before' next' seen' (rest start a r content b s f before next seen later h w e) g))
