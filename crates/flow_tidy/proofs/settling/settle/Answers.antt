use Rattle.std.proofs.Common.{◌≡◌, ◌∙◌, ◌<◌, length, refl, sym, subst, arith}
use Rattle.thumb_model.specs.Listing.{places_of}
use Rattle.flow_tidy.specs.Tidying.{setting}
use Rattle.flow_tidy.specs.Made.{IsMovedTo}
use Rattle.flow_tidy.proofs.Settled.{fewer_places, known_aimed, known_left}
use Rattle.flow_tidy.proofs.settling.settle.Goals as goal

pub leave-requires-clause-goes : goal.leave-requires-clause-goes
leave-requires-clause-goes c =
    let less : length (places_of c.args.found.changed.listing) < length (places_of c.args.listing.now) = omega arith in
    (fewer_places (setting c.args.laid.now.base) c.args.found.place c.args.listing.now c.args.found.changed.listing c.requires.next less).vanishes

pub laid_after-requires-clause-moved : goal.laid_after-requires-clause-moved
laid_after-requires-clause-moved c = subst (λ b. IsMovedTo b c.args.found.changed.listing c.args.found.changed.moved) (sym c.base-base.ensures) c.requires.moved

pub returns-clause-known : goal.returns-clause-known
returns-clause-known c =
    let less : length (places_of c.args.found.changed.listing) < length (places_of c.args.listing.now) = omega arith in
    let gone = fewer_places (setting c.args.laid.now.base) c.args.found.place c.args.listing.now c.args.found.changed.listing c.requires.next less in
    let base : c.in_ok-laid.field-0.base ≡ c.args.laid.now.base = c.in_ok-laid.ensures.base ∙ c.base-base.ensures in
    known_left (setting c.args.laid.now.base) c.args.found.place c.args.listing.now c.args.found.changed.listing c.args.laid.now c.in_ok-laid.field-0 c.leave.new.reached c.leave.new.due refl base c.requires.next c.in_ok-laid.ensures.laid
    c.leave.ensures.reached c.leave.ensures.due gone.code

pub returns-then-place_count-clause-known : goal.returns-then-place_count-clause-known
returns-then-place_count-clause-known c =
    known_aimed (setting c.args.laid.now.base) c.args.found.place c.args.listing.now c.args.found.changed.listing c.args.laid.now c.args.reached.now c.args.due.now refl c.requires.next (λ less. absurd (omega arith)) c.requires.known
