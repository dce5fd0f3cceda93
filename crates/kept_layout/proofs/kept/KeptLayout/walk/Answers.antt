use Rattle.std.proofs.Common.{◌≡◌, ◌∙◌, ℕ, ◌+◌, ◌-◌, true, false, List, [], length, refl, subst, sym, arith}
use Rattle.std.proofs.lemmas.Option.{slice_get_read}
use Rattle.kept_layout.specs.declared.kept.KeptLayout.{KeptLayout}
use Rattle.kept_layout.specs.Moves.{calm_starts, news, wall_of, AreKnownRight, IsMovedTo, IsRightIf, IsWalked}
use Rattle.kept_layout.proofs.ShrinkingKnown.{known_shifted, not_together, refused_by, seen_on}
use Rattle.kept_layout.proofs.ShrinkingPlaces.{address_is}
use Rattle.kept_layout.proofs.ShrinkingWalk.{walk_on, walk_over, walk_together}
use Rattle.kept_layout.proofs.Walls.{calm_known, news_none, news_on}
use Rattle.kept_layout.proofs.kept.KeptLayout.walk.Goals as goal

-- the walk begins where the calm blocks have moved, and no block after them
calm_moved : (k : KeptLayout) (bytes at wall : ℕ) (items : List ℕ) → items ≡ [] → IsWalked k bytes (calm_starts k bytes) at wall → IsWalked k bytes (news k bytes items) at wall
calm_moved k bytes at wall items e w = subst (λ (xs : List ℕ). IsWalked k bytes xs at wall) (news_none k bytes items e) w

pub wall_address-requires-clause-is : goal.wall_address-requires-clause-is
wall_address-requires-clause-is c = c.wall-next.ensures

pub is_right_if-requires-clause-is : goal.is_right_if-requires-clause-is
is_right_if-requires-clause-is c =
    let k = c.args.self.now in
    let walked = calm_moved k c.args.bytes c.in_ok-at.at c.wall-next.result c.in_ok-new.new.items c.in_ok-new.ensures.items c.in_ok-at.ensures in
    let count = walked.count in
    let within = walked.within in
    not_together k (news k c.args.bytes c.in_ok-new.new.items) 0 refl (omega arith)

pub returns-then-not-is_right_if-clause-none : goal.returns-then-not-is_right_if-clause-none
returns-then-not-is_right_if-clause-none c = λ gone reach.
    let k = c.args.self.now in
    let walked = calm_moved k c.args.bytes c.in_ok-at.at c.wall-next.result c.in_ok-new.new.items c.in_ok-new.ensures.items c.in_ok-at.ensures in
    let met : c.is_right_if.result ≡ true = c.is_right_if.ensures.1 (refused_by k c.args.bytes gone (news k c.args.bytes c.in_ok-new.new.items) 0 c.in_ok-at.at c.wall-next.result c.requires.laid.here walked refl reach k.here) in
    let not : c.is_right_if.result ≡ false = c.if-not-is_right_if.true in
    let never : true ≡ false = sym met ∙ not in
    absurd (cc)

pub loop-next-init : goal.loop-next-init
loop-next-init c =
    let k = c.args.self.now in
    let none = news_none k c.args.bytes c.in_ok-new.new.items c.in_ok-new.ensures.items in
    let begun : IsWalked k c.args.bytes (calm_starts k c.args.bytes) c.in_ok-at.at (wall_of k) = subst (IsWalked k c.args.bytes (calm_starts k c.args.bytes) c.in_ok-at.at) c.wall-next.ensures c.in_ok-at.ensures in
    let own = subst (λ (xs : List ℕ). IsRightIf true k xs 0 k.here) (sym none) (c.is_right_if.ensures.0 c.if-not-is_right_if.false) in
    record {
      walked = calm_moved k c.args.bytes c.in_ok-at.at c.wall-next.result c.in_ok-new.new.items c.in_ok-new.ensures.items c.in_ok-at.ensures;
      known = subst (λ (xs : List ℕ). AreKnownRight k xs 0) none (calm_known k c.args.bytes c.in_ok-at.at c.requires.laid c.requires.wide c.requires.few begun own);
      by = refl;
    }

pub returns-then-is_together-clause-moved : goal.returns-then-is_together-clause-moved
returns-then-is_together-clause-moved c =
    let k = c.args.self.now in
    let is = slice_get_read k.blocks.items (length k.blocks.items) c.loop-next.next c.index-block.result.now refl (omega arith) c.index-block.ensures in
    let told = c.is_together.ensures c.if-is_together.true in
    walk_together k c.args.bytes (news k c.args.bytes c.loop-next.moved.at.items) c.loop-next.at c.loop-next.next c.address-old.result c.index-block.result.now c.requires.laid c.loop-next.invariant.walked is (address_is k c.loop-next.next c.address-old.result c.requires.laid (omega arith) c.address-old.ensures) told.0 told.1

pub returns-then-is_together-clause-right : goal.returns-then-is_together-clause-right
returns-then-is_together-clause-right c = known_shifted c.args.self.now (news c.args.self.now c.args.bytes c.loop-next.moved.at.items) (c.address-old.result - c.loop-next.at) c.requires.laid.here c.loop-next.invariant.known

pub is_met-requires-clause-is : goal.is_met-requires-clause-is
is_met-requires-clause-is c =
    let k = c.args.self.now in
    let is = slice_get_read k.blocks.items (length k.blocks.items) c.loop-next.next c.index-block.result.now refl (omega arith) c.index-block.ensures in
    let on = walk_on k c.args.bytes (news k c.args.bytes c.loop-next.moved.at.items) c.loop-next.at c.loop-next.next c.index-block.result.now c.in_ok-at-2.at (c.loop-next.next + 1) c.loop-next.invariant.walked is (omega arith) c.in_ok-at-2.ensures.value c.in_ok-at-2.ensures.in_code (omega arith) in
    let walked = subst (λ new. IsWalked k c.args.bytes new c.in_ok-at-2.at (c.loop-next.next + 1)) (news_on k c.args.bytes c.loop-next.moved.at.items c.push.new.self.items c.loop-next.at c.in_ok-push.ensures.items) on in
    let count = walked.count in
    let within = walked.within in
    not_together k (news k c.args.bytes c.push.new.self.items) c.loop-next.moved.by c.loop-next.invariant.by (omega arith)

pub returns-then-not-is_met-clause-none : goal.returns-then-not-is_met-clause-none
returns-then-not-is_met-clause-none c = λ gone reach.
    let k = c.args.self.now in
    let is = slice_get_read k.blocks.items (length k.blocks.items) c.loop-next.next c.index-block.result.now refl (omega arith) c.index-block.ensures in
    let on = walk_on k c.args.bytes (news k c.args.bytes c.loop-next.moved.at.items) c.loop-next.at c.loop-next.next c.index-block.result.now c.in_ok-at-2.at (c.loop-next.next + 1) c.loop-next.invariant.walked is (omega arith) c.in_ok-at-2.ensures.value c.in_ok-at-2.ensures.in_code (omega arith) in
    let walked = subst (λ new. IsWalked k c.args.bytes new c.in_ok-at-2.at (c.loop-next.next + 1)) (news_on k c.args.bytes c.loop-next.moved.at.items c.push.new.self.items c.loop-next.at c.in_ok-push.ensures.items) on in
    let met : c.is_met.result ≡ true = c.is_met.ensures.none (refused_by k c.args.bytes gone (news k c.args.bytes c.push.new.self.items) c.loop-next.moved.by c.in_ok-at-2.at (c.loop-next.next + 1) c.requires.laid.here walked c.loop-next.invariant.by reach) in
    let not : c.is_met.result ≡ false = c.if-not-is_met.true in
    let never : true ≡ false = sym met ∙ not in
    absurd (cc)

pub loop-next-preserved : goal.loop-next-preserved
loop-next-preserved c =
    let k = c.args.self.now in
    let is = slice_get_read k.blocks.items (length k.blocks.items) c.loop-next.next c.index-block.result.now refl (omega arith) c.index-block.ensures in
    let on = walk_on k c.args.bytes (news k c.args.bytes c.loop-next.moved.at.items) c.loop-next.at c.loop-next.next c.index-block.result.now c.in_ok-at-2.at (c.loop-next.next + 1) c.loop-next.invariant.walked is (omega arith) c.in_ok-at-2.ensures.value c.in_ok-at-2.ensures.in_code (omega arith) in
    let met : c.is_met.result ≡ true = c.if-not-is_met.false in
    record {
      walked = subst (λ new. IsWalked k c.args.bytes new c.in_ok-at-2.at (c.loop-next.next + 1)) (news_on k c.args.bytes c.loop-next.moved.at.items c.push.new.self.items c.loop-next.at c.in_ok-push.ensures.items) on;
      known = seen_on k (news k c.args.bytes c.loop-next.moved.at.items) (news k c.args.bytes c.push.new.self.items) c.loop-next.moved.by c.loop-next.at c.loop-next.next c.index-block.result.now c.requires.laid c.loop-next.invariant.walked.count is c.loop-next.invariant.known (sym (news_on k c.args.bytes c.loop-next.moved.at.items c.push.new.self.items c.loop-next.at c.in_ok-push.ensures.items)) c.loop-next.invariant.by (c.is_met.ensures.own met) (c.is_met.ensures.callers met);
      by = c.loop-next.invariant.by;
    }

pub returns-clause-moved : goal.returns-clause-moved
returns-clause-moved c = subst (IsMovedTo c.args.self.now c.args.bytes (news c.args.self.now c.args.bytes c.loop-next.moved.at.items)) (sym c.loop-next.invariant.by) (walk_over c.args.self.now c.args.bytes (news c.args.self.now c.args.bytes c.loop-next.moved.at.items) c.loop-next.at c.loop-next.next c.loop-next.invariant.walked (omega arith))

pub returns-clause-right : goal.returns-clause-right
returns-clause-right c = subst (AreKnownRight c.args.self.now (news c.args.self.now c.args.bytes c.loop-next.moved.at.items)) (sym c.loop-next.invariant.by) c.loop-next.invariant.known
