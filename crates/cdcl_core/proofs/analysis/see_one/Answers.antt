use Rattle.std.proofs.Common.{◌≡◌, ◌⊎◌, [], ◌∷◌, ◌++◌, inl, inr, refl}
use Rattle.std.specs.Prelude.{Contains}
use Rattle.std.proofs.lemmas.List.Elements.{All-push, All-weaker, All-contains, All-contains_itself, Contains-push, Contains-append_left}
use Rattle.clause_model.specs.Clauses.{negated}
use Rattle.clause_model.proofs.Scans.{never}
use Rattle.cdcl_core.proofs.analysis.see_one.Goals as goal

pub returns-then-not-is_true-clause-grows : goal.returns-then-not-is_true-clause-grows
returns-then-not-is_true-clause-grows c = All-contains_itself c.args.seen.now

pub returns-then-is_true-clause-grows : goal.returns-then-is_true-clause-grows
returns-then-is_true-clause-grows c = All-contains_itself c.args.seen.now

pub set-requires : goal.set-requires
set-requires c = (
  λ p. never c.if-is_true.ensures.1 p,
  λ p. c.len-trues.ensures.consistent c.args.literal (c.if-not-is_true.ensures.0 refl) (All-contains (Contains c.args.trail.now) c.args.seen.now (negated c.args.literal) c.requires p),
)

pub returns-clause-part : goal.returns-clause-part
returns-clause-part c = rw c.in_ok-set.ensures.ok (All-push (Contains c.args.trail.now) c.args.seen.now c.args.literal c.requires (c.if-not-is_true.ensures.0 refl))

pub returns-clause-grows : goal.returns-clause-grows
returns-clause-grows c = rw c.in_ok-set.ensures.ok (All-weaker (Contains c.args.seen.now) (Contains (c.args.seen.now ++ c.args.literal ∷ [])) (λ x p. Contains-append_left c.args.seen.now (c.args.literal ∷ []) x p) c.args.seen.now (All-contains_itself c.args.seen.now))

pub returns-clause-seen : goal.returns-clause-seen
returns-clause-seen c = λ p. rw c.in_ok-set.ensures.ok (Contains-push c.args.seen.now c.args.literal)

pub returns-clause-only : goal.returns-clause-only
returns-clause-only c = rw c.in_ok-set.ensures.ok (All-push (λ t. Contains c.args.seen.now t ⊎ (t ≡ c.args.literal)) c.args.seen.now c.args.literal
    (All-weaker (Contains c.args.seen.now) (λ t. Contains c.args.seen.now t ⊎ (t ≡ c.args.literal)) (λ t p. inl p) c.args.seen.now (All-contains_itself c.args.seen.now)) (inr refl))
