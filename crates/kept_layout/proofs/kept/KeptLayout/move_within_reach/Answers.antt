use Rattle.std.proofs.Common.{◌≡◌, ◌∙◌, ◌↔◌, ℕ, Bool, true, false, sym, refl}
use Rattle.kept_layout.specs.declared.kept.KeptLayout.{KeptLayout}
use Rattle.kept_layout.specs.declared.shrinking.Move.{Move}
use Rattle.kept_layout.specs.Blocks.{lessen, footprints_of, AllReach, AreWide}
use Rattle.kept_layout.specs.Kept.{IsLaid}
use Rattle.kept_layout.specs.Moves.{IsLookedAt, IsMovedTo, IsRight, moved_starts, news}
use Rattle.kept_layout.proofs.ShrinkingReach.{reach_from, right_all, right_from, Moves}
use Rattle.kept_layout.proofs.kept.KeptLayout.move_within_reach.Goals as goal

-- the test's answer says exactly whether all is within reach, as all that moves is looked at
told : (k : KeptLayout) (bytes gone : ℕ) (m : Move) (b : Bool) → IsLaid k → AreWide (footprints_of k.blocks.items) → IsMovedTo k bytes (news k bytes m.at.items) m.by → (b ≡ true → IsLookedAt k (news k bytes m.at.items) m.by)
    → (((j : ℕ) → IsRight (moved_starts k (news k bytes m.at.items) m.by) k.blocks.items j) → b ≡ true) → (b ≡ true) ↔ AllReach k.base (lessen k.here bytes gone (footprints_of k.blocks.items))
told k bytes gone m b laid wide moved all none =
    let moves : Moves k (news k bytes m.at.items) m.by bytes = record { laid = laid; wide = wide; move = moved.move; starts = moved.starts } in (
      λ t. reach_from k (news k bytes m.at.items) m.by bytes gone moves (right_all k (news k bytes m.at.items) m.by bytes moves (all t)),
      λ r. none (right_from k (news k bytes m.at.items) m.by bytes gone moved r),
    )

pub all_reach-requires-clause-is : goal.all_reach-requires-clause-is
all_reach-requires-clause-is c = let moved = rw c.in-Some.is at c.in_ok-moved.ensures.moved in moved.move

pub all_reach-requires-clause-right : goal.all_reach-requires-clause-right
all_reach-requires-clause-right c = rw c.in-Some.is at c.in_ok-moved.ensures.right

pub returns-then-all_reach-clause-reach : goal.returns-then-all_reach-clause-reach
returns-then-all_reach-clause-reach c = λ gone.
    let moved = rw c.in-Some.is at c.in_ok-moved.ensures.moved in
    let t = told c.args.self.now c.args.bytes gone c.in-Some.moved c.all_reach.result c.requires.laid c.requires.wide moved c.all_reach.ensures.all c.all_reach.ensures.none in
    (λ _. t.0 c.if-all_reach.true, λ _. refl)

pub returns-else-all_reach-clause-reach : goal.returns-else-all_reach-clause-reach
returns-else-all_reach-clause-reach c = λ gone.
    let moved = rw c.in-Some.is at c.in_ok-moved.ensures.moved in
    let t = told c.args.self.now c.args.bytes gone c.in-Some.moved c.all_reach.result c.requires.laid c.requires.wide moved c.all_reach.ensures.all c.all_reach.ensures.none in
    (λ e. t.0 (c.if-all_reach.false ∙ e), λ r. sym c.if-all_reach.false ∙ t.1 r)

pub returns-in_default-clause-reach : goal.returns-in_default-clause-reach
returns-in_default-clause-reach c = λ gone.
    let none = rw c.in_default.is at c.in_ok-moved.ensures.none in
    (λ e. let never : false ≡ true = e in absurd (cc), λ r. absurd (none gone r))
