-- The loop that assumes literals false.
use Rattle.std.proofs.Common.{◌≡◌, ℕ, ◌+◌, ◌<◌, List, [], ◌∷◌, ◌++◌, length, get_or, take, length-append, append-nil, append_assoc, sym, ◌∙◌, ap, arith, Option, None, subst, suc}
use Rattle.std.specs.Prelude.{All, Any, Contains, replicate}
use Rattle.std.proofs.lemmas.List.{take_more}
use Rattle.std.proofs.lemmas.List.Elements.{All-nil, All-push, All-append, All-contains, All-weaker, All-contains_itself, Contains-push, Contains-append_left}
use Rattle.clause_model.specs.Clauses.{negated, IsFalse, IsUnset, AllFalse}
use Rattle.clause_model.proofs.LiteralLaws.{negated-negated}
use Rattle.clause_model.proofs.Scans.{Contains-take}
use Rattle.cdcl_core.specs.Assumed.{CanFalsify, IsAssumed}
use Rattle.cdcl_core.proofs.Lists.{replicate_push}

pub assumed_none : (r : List (Option ℕ)) (a : List ℕ) → IsAssumed [] r a r a
assumed_none r a = record {
  added = [];
  trail = sym (append-nil a);
  unexplained = sym (append-nil r);
  within = All-nil (λ t. Contains [] (negated t));
  falsified = All-nil (IsFalse a);
}

module _ (literals : List ℕ) (i l n : ℕ) (b : i < length literals) (e : l ≡ get_or literals i l) (q : n ≡ negated l) (r : List (Option ℕ)) (a : List ℕ) (s : List (Option ℕ)) (t : List ℕ) (h : IsAssumed (take i literals) r a s t) where
  more : (x : ℕ) → Contains (take i literals) x → Contains (take (i + 1) literals) x
  more x c = rw (take_more literals i l, ← e) (Contains-append_left (take i literals) (l ∷ []) x c)

  last : Contains (take (i + 1) literals) l
  last = rw (take_more literals i l, ← e) (Contains-push (take i literals) l)

  pub assumed_already : Contains t n → IsAssumed (take (i + 1) literals) r a s t
  assumed_already p = record {
    added = h.added;
    trail = h.trail;
    unexplained = h.unexplained;
    within = All-weaker (λ x. Contains (take i literals) (negated x)) (λ x. Contains (take (i + 1) literals) (negated x)) (λ x c. more (negated x) c) h.added h.within;
    falsified = rw (take_more literals i l, ← e) (All-push (IsFalse t) (take i literals) l h.falsified (subst (Contains t) q p));
  }

  longer : suc (length h.added) ≡ length (h.added ++ n ∷ [])
  longer = omega (arith, length-append h.added (n ∷ []))

  pub assumed_more : (s' : List (Option ℕ)) (t' : List ℕ) → s' ≡ s ++ None ∷ [] → t' ≡ t ++ n ∷ [] → IsAssumed (take (i + 1) literals) r a s' t'
  assumed_more s' t' f g = record {
    added = h.added ++ n ∷ [];
    trail = g ∙ (ap (λ (xs : List ℕ). xs ++ n ∷ []) h.trail ∙ append_assoc a h.added (n ∷ []));
    unexplained = f ∙ (ap (λ (xs : List (Option ℕ)). xs ++ None ∷ []) h.unexplained ∙ (append_assoc r (replicate (length h.added) None) (None ∷ [])
        ∙ ap (λ (xs : List (Option ℕ)). r ++ xs) (sym (replicate_push (length h.added) None) ∙ ap (λ (k : ℕ). replicate k None) longer)));
    within = All-push (λ x. Contains (take (i + 1) literals) (negated x)) h.added n
        (All-weaker (λ x. Contains (take i literals) (negated x)) (λ x. Contains (take (i + 1) literals) (negated x)) (λ x c. more (negated x) c) h.added h.within)
        (subst (Contains (take (i + 1) literals)) (sym (ap negated q ∙ negated-negated l)) last);
    falsified = rw (g, take_more literals i l, ← e) (All-push (IsFalse (t ++ n ∷ [])) (take i literals) l
        (All-weaker (IsFalse t) (IsFalse (t ++ n ∷ [])) (λ m p. Contains-append_left t (n ∷ []) (negated m) p) (take i literals) h.falsified)
        (subst (Contains (t ++ n ∷ [])) q (Contains-push t n)));
  }

-- what made a part of the literals false is contained in any assignment that makes them all false
pub within_under : (literals part : List ℕ) (r : List (Option ℕ)) (a : List ℕ) (s : List (Option ℕ)) (t u : List ℕ) → IsAssumed part r a s t → ((x : ℕ) → Contains part x → Contains literals x) → All (Contains u) a → AllFalse u literals → All (Contains u) t
within_under literals part r a s t u h w g f = rw h.trail (All-append (Contains u) a h.added g (All-weaker (λ x. Contains part (negated x)) (Contains u) (λ x c. subst (Contains u) (negated-negated x) (All-contains (IsFalse u) literals (negated x) f (w (negated x) c))) h.added h.within))

-- a literal is unset where neither it nor its contrary is true
pub opposite_unset : (t : List ℕ) (l n : ℕ) → n ≡ negated l → (Contains t l → ⊥) → (Contains t n → ⊥) → IsUnset t n
opposite_unset t l n q f g = (g, λ p. f (subst (Contains t) (ap negated q ∙ negated-negated l) p))

pub part_in : (n : ℕ) (xs : List ℕ) → All (Contains xs) (take n xs)
part_in n xs = All-weaker (Contains (take n xs)) (Contains xs) (λ x p. Contains-take x n xs p) (take n xs) (All-contains_itself (take n xs))

-- where literals can be false together, none of them is found true
pub never_true : (size : ℕ) (a literals tried : List ℕ) (r s : List (Option ℕ)) (t : List ℕ) → CanFalsify size a literals → All (Contains literals) tried → IsAssumed tried r a s t → Any (Contains t) literals → ⊥
never_true size a literals tried r s t h w g y =
    let all : All (Contains h.under) t = within_under literals tried r a s t h.under g (λ x c. All-contains (Contains literals) tried x w c) h.contains h.falsifies in
    h.consistent y.1 (All-contains (Contains h.under) t y.1 all y.4) (All-contains (IsFalse h.under) literals y.1 h.falsifies (y.0, y.2, y.3))

module _ (size : ℕ) (a literals : List ℕ) (h : CanFalsify size a literals) (r s : List (Option ℕ)) (t : List ℕ) (g : IsAssumed literals r a s t) where
  pub assumed_under : All (Contains h.under) t
  assumed_under = within_under literals literals r a s t h.under g (λ x c. c) h.contains h.falsifies

  pub assumed_bounded : All (λ l. l < size) t
  assumed_bounded = All-weaker (Contains h.under) (λ l. l < size) (λ l c. All-contains (λ x. x < size) h.under l h.bounded c) t assumed_under
