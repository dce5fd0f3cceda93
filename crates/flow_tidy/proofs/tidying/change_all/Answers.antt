use Rattle.std.proofs.Common.{◌∙◌, ℕ, ◌+◌, ◌<◌, ◌^◌, length, refl, sym, subst, arith}
use Rattle.thumb_model.specs.Listing.{code_of, places_of}
use Rattle.flow_tidy.specs.DuePlaces.{AreDue, IsNextAt}
use Rattle.flow_tidy.specs.Tidying.{setting, AreTidiedBy, NonePossible}
use Rattle.flow_tidy.proofs.Ends.{room_of}
use Rattle.flow_tidy.proofs.Rounds.{all_made, count_fits, next_made, next_room, nothing_made}
use Rattle.flow_tidy.proofs.Settled.{all_due}
use Rattle.flow_tidy.proofs.tidying.change_all.Goals as goal

pub loop-due-init : goal.loop-due-init
loop-due-init c = record {
  made = nothing_made (setting c.args.laid.now.base) c.args.listing.now;
  room = omega arith;
  base = refl;
  known = record {
    laid = c.requires.laid;
    layable = c.requires.layable;
    reached = c.requires.reached;
    due = subst (AreDue (code_of c.args.listing.now)) (sym c.in_ok-due.ensures) (all_due (code_of c.args.listing.now) c.place_count-places.result c.place_count-places.ensures);
  };
}

pub overflow_add-changes : goal.overflow_add-changes
overflow_add-changes c =
    let i = c.loop-due.invariant in
    let next = c.in_ok-change_next.ensures.next c.if-branch.true in
    let left = next_room (setting c.loop-due.laid.base) c.loop-due.listing c.change_next.new.listing next.0 next.1 in
    let few : length (places_of c.args.listing.now) < 2 ^ 32 = omega (arith, c.place_count-places.ensures, c.place_count-places.type_inv) in
    let fits : c.loop-due.changes + 1 < 2 ^ 64 = count_fits c.args.listing.now c.loop-due.listing c.change_next.new.listing c.loop-due.changes few i.room left in
    omega arith

pub loop-due-smaller : goal.loop-due-smaller
loop-due-smaller c =
    let next = c.in_ok-change_next.ensures.next c.if-branch.true in
    let left = next_room (setting c.loop-due.laid.base) c.loop-due.listing c.change_next.new.listing next.0 next.1 in
    let less : room_of c.change_next.new.listing < room_of c.loop-due.listing = omega (arith, left) in
    less

pub loop-due-preserved : goal.loop-due-preserved
loop-due-preserved c =
    let i = c.loop-due.invariant in
    let s = setting c.args.laid.now.base in
    let next = subst (λ b. (p : ℕ) × IsNextAt (setting b) p c.loop-due.listing c.change_next.new.listing) i.base (c.in_ok-change_next.ensures.next c.if-branch.true) in
    let left = next_room s c.loop-due.listing c.change_next.new.listing next.0 next.1 in
    record {
      made = next_made s c.args.listing.now c.loop-due.listing c.change_next.new.listing c.loop-due.changes next.0 i.made next.1;
      room = omega (arith, left, i.room);
      base = c.in_ok-change_next.ensures.base ∙ i.base;
      known = c.in_ok-change_next.ensures.known;
    }

pub returns : goal.returns
returns c =
    let i = c.loop-due.invariant in
    let base = c.args.laid.now.base in
    let none = c.in_ok-change_next.ensures.last c.if-branch.false in
    subst (λ ls. AreTidiedBy base c.args.listing.now ls c.loop-due.changes) (sym none.1)
    (all_made base c.args.listing.now c.loop-due.listing c.loop-due.changes i.made (subst (λ b. NonePossible (setting b) c.loop-due.listing) i.base none.0))
