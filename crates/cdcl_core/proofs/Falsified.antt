-- Denying literals: its outcomes, from assuming and from propagation.
use Rattle.std.proofs.Common.{◌≡◌, ℕ, ◌≤◌, List, [], ◌++◌, length, take, length-append, refl, sym, ◌∙◌, ap, arith, subst, map, Option, None, true, false}
use Rattle.std.specs.Prelude.{All, Any, Contains, replicate}
use Rattle.std.proofs.lemmas.List.{take_at, take_all, take-take}
use Rattle.std.proofs.lemmas.List.Elements.{All-nil, All-append, All-contains, All-weaker, Contains-append_right}
use Rattle.clause_model.specs.Clauses.{negated, IsFalse, AllFalse}
use Rattle.clause_model.proofs.Asserted.{AllFalse-grown}
use Rattle.clause_model.proofs.LiteralLaws.{negated-negated}
use Rattle.clause_arena.specs.Contents.{Clause, Content, HasLiteral}
use Rattle.unit_propagation.specs.Watching.{IsLater, Rule, RuleUpTo, IsOtherTrue}
use Rattle.unit_propagation.proofs.Steps.{Contains-part, later_same, part_of_longer}
use Rattle.cdcl_core.specs.Implied.{clauses_of, Level, BeginsAtRoot, IsJustified, IsConflict}
use Rattle.cdcl_core.specs.Assumed.{CanFalsify, IsAssumed, IsDenied}
use Rattle.cdcl_core.proofs.Lists.{grown_from_keeps}
use Rattle.cdcl_core.proofs.Roots.{root_back, root_assumed, root_later, justified_later, justified_assumed, justified_more}
use Rattle.cdcl_core.proofs.Minimised.{Within, within_left, within_right, within_trans}
use Rattle.cdcl_core.proofs.Refuted.{trail_true, conflict_refutes}

-- the rule before any decision, where more literals are true
pub rule_from : (level : Level) (content : Content) (reasons : List (Option ℕ)) (trail : List ℕ) → BeginsAtRoot level content reasons trail → RuleUpTo content (take level.low trail) trail
rule_from level content reasons trail g at slot l w c =
    let o : IsOtherTrue content level.base at slot = g.rule at slot l w (subst (λ (xs : List ℕ). Contains xs (negated l)) g.base c) in
    (o.0, (o.1.0, Contains-part level.low trail o.0 (subst (λ (xs : List ℕ). Contains xs o.0) (sym g.base) o.1.1)))

pub back_root : (level : Level) (content : Content) (reasons rb : List (Option ℕ)) (trail tb : List ℕ) → BeginsAtRoot level content reasons trail → tb ≡ take level.low trail → rb ≡ take level.low reasons → BeginsAtRoot level content rb tb
back_root level content reasons rb trail tb g e f = rw (e, f) (root_back level content reasons trail g)

-- before any decision nothing is denied
pub back_justified : (level : Level) (content : Content) (reasons rb : List (Option ℕ)) (trail tb denied : List ℕ) → BeginsAtRoot level content reasons trail → tb ≡ take level.low trail → rb ≡ take level.low reasons → IsJustified content denied rb tb
back_justified level content reasons rb trail tb denied g e f = rw (e, f) (justified_more content [] denied (take level.low reasons) (take level.low trail) (All-nil (Contains denied)) (subst (IsJustified content [] (take level.low reasons)) (sym g.base) g.justified))

pub back_falsifiable : (size low : ℕ) (trail tb literals : List ℕ) → tb ≡ take low trail → CanFalsify size (take low trail) literals → CanFalsify size tb literals
back_falsifiable size low trail tb literals e f = rw e f

-- how the watches have moved, stated for an earlier part of the trail
pub watches_of : (earlier later : Content) (a t b : List ℕ) (ra r s : List (Option ℕ)) → length ra ≡ length a → length a ≤ length t → take (length a) t ≡ a → IsLater earlier t r later b s → IsLater earlier a ra later a ra
watches_of earlier later a t b ra r s al n e l = record {
  clauses = l.clauses;
  size = l.size;
  attached = l.attached;
  watched = l.watched;
  literals = λ h. All-weaker (HasLiteral earlier) (HasLiteral later) (λ x k. omega (arith, k, l.size)) a h;
  longer = omega arith;
  prefix = take_all (length a) a (omega arith);
  aligned = al;
  reasons_kept = take_all (length a) ra (omega (arith, al));
  kept = λ m c h.
      let same : take m t ≡ take m a = sym (take-take m (length a) t c) ∙ ap (λ (xs : List ℕ). take m xs) e in
      let there : take m b ≡ take m t = sym (take-take m (length t) b (omega (arith, n, c))) ∙ ap (λ (xs : List ℕ). take m xs) l.prefix in
      subst (Rule later) (there ∙ same) (l.kept m (omega (arith, n, c)) (subst (Rule earlier) (sym same) h));
  because = λ k c d. absurd (omega arith);
}

module _ (content : Content) (ra : List (Option ℕ)) (a literals tried : List ℕ) (al : length ra ≡ length a) (w : Within tried literals) (r : List (Option ℕ)) (t : List ℕ) (h : IsAssumed tried ra a r t) where
  tried_prefix : take (length a) t ≡ a
  tried_prefix = ap (λ (xs : List ℕ). take (length a) xs) h.trail ∙ take_at a h.added (length a) refl

  tried_reasons : take (length a) r ≡ ra
  tried_reasons = ap (λ (xs : List (Option ℕ)). take (length a) xs) h.unexplained ∙ take_at ra (replicate (length h.added) None) (length a) al

  pub tried_longer : length a ≤ length t
  tried_longer = omega (arith, ap length h.trail, length-append a h.added)

  pub tried_rule : (mark : ℕ) → mark ≡ length a → Rule content a → RuleUpTo content (take mark t) t
  tried_rule mark e rule at slot l v c =
      let o : IsOtherTrue content a at slot = rule at slot l v (subst (λ (xs : List ℕ). Contains xs (negated l)) (ap (λ (n : ℕ). take n t) e ∙ tried_prefix) c) in
      (o.0, (o.1.0, part_of_longer a t tried_prefix o.0 o.1.1))

  pub tried_root : (level : Level) → BeginsAtRoot level content ra a → All (HasLiteral content) literals → BeginsAtRoot level content r t
  tried_root level g k = root_assumed level content ra a g tried r t h (rw h.trail (All-append (HasLiteral content) a h.added g.literals
      (All-weaker (λ x. Contains tried (negated x)) (HasLiteral content) (λ x c. subst (HasLiteral content) (negated-negated x)
      (g.known.contrary (negated x) (All-contains (HasLiteral content) literals (negated x) k (All-contains (Contains literals) tried (negated x) w c)))) h.added h.within)))

  tried_justified : (denied : List ℕ) → IsJustified content denied ra a → IsJustified content (denied ++ literals) r t
  tried_justified denied j = justified_assumed content (denied ++ literals) tried ra r a t (justified_more content denied (denied ++ literals) ra a (within_left denied literals) j)
      h (within_trans tried literals (denied ++ literals) w (within_right denied literals))

  -- the case in which a literal to be denied is true
  pub denied_true : All (HasLiteral content) literals → Any (Contains t) literals → IsDenied literals content a ra content t r true
  denied_true k y = record {
    prefix = tried_prefix;
    reasons_kept = tried_reasons;
    watches = later_same content a ra al;
    root = λ level g. tried_root level g k;
    justified = tried_justified;
    settled = λ e. absurd cc;
    refuted = λ e denied j b p o f.
        let all : All (Contains b) t = trail_true content (clauses_of content) refl (denied ++ literals) r t (tried_justified denied j) b p o f in
        p y.1 (All-contains (Contains b) t y.1 all y.4) (All-contains (IsFalse b) (denied ++ literals) y.1 f (Contains-append_right denied literals y.1 (y.0, y.2, y.3)));
  }

  module _ (k : All (HasLiteral content) literals) (content' : Content) (r' : List (Option ℕ)) (t' : List ℕ) (l : IsLater content t r content' t' r') where
    later_prefix : take (length a) t' ≡ a
    later_prefix = sym (take-take (length a) (length t) t' tried_longer) ∙ (ap (λ (xs : List ℕ). take (length a) xs) l.prefix ∙ tried_prefix)

    later_reasons : take (length a) r' ≡ ra
    later_reasons = sym (take-take (length a) (length t) r' tried_longer) ∙ (ap (λ (xs : List (Option ℕ)). take (length a) xs) l.reasons_kept ∙ tried_reasons)

    later_justified : (denied : List ℕ) → IsJustified content denied ra a → IsJustified content' (denied ++ literals) r' t'
    later_justified denied j = justified_later content content' (denied ++ literals) r r' t t' (tried_justified denied j) l

    -- the case in which a clause becomes false
    pub denied_false : (at : ℕ) → IsConflict content' t' at → IsDenied literals content a ra content' t' r' true
    denied_false at c = record {
      prefix = later_prefix;
      reasons_kept = later_reasons;
      watches = watches_of content content' a t t' ra r r' al tried_longer tried_prefix l;
      root = λ level g. root_later level content r t (tried_root level g k) content' r' t' l;
      justified = later_justified;
      settled = λ e. absurd cc;
      refuted = λ e denied j b p o f. conflict_refutes content' (clauses_of content) (ap (λ (cs : List Clause). map (λ (x : Clause). x.literals) cs) l.clauses) (denied ++ literals) r' t' (later_justified denied j) b p o f at c;
    }

    -- the case in which nothing is left to propagate
    pub denied_settled : AllFalse t literals → Rule content' t' → IsDenied literals content a ra content' t' r' false
    denied_settled f rule = record {
      prefix = later_prefix;
      reasons_kept = later_reasons;
      watches = watches_of content content' a t t' ra r r' al tried_longer tried_prefix l;
      root = λ level g. root_later level content r t (tried_root level g k) content' r' t' l;
      justified = later_justified;
      settled = λ e. (rule, AllFalse-grown t t' literals (grown_from_keeps t t' l.prefix) f);
      refuted = λ e. absurd cc;
    }
