use Rattle.std.proofs.Common.{◌∙◌, ◌<◌, [], length, true≢false, arith, refl, sym}
use Rattle.std.proofs.lemmas.Option.{slice_get_read}
use Rattle.thumb_model.specs.Listing.{Code, code_of}
use Rattle.thumb_model.specs.Flow.{point}
use Rattle.code_flow.proofs.Reaches.{begun, all_left, points_next}
use Rattle.code_flow.proofs.reaching.Reaching.from_points.Goals.{then-index+in_ok-reach, else-index}
use Rattle.code_flow.proofs.reaching.Reaching.from_points.Goals as goal

pub loop-place-init : goal.loop-place-init
loop-place-init c =
    let fresh = c.in_ok-vec.ensures.items_if_clones_equal (λ y e. e) in
    record {
      reaching = begun (code_of c.args.listing.now) c.place_count-count.result (record { marks = c.in_ok-vec.field-0; waiting = c.new.result }) c.place_count-count.ensures fresh c.new.ensures.items;
      points = λ q l. absurd (omega arith);
      left = all_left c.place_count-count.result (record { marks = c.in_ok-vec.field-0; waiting = c.new.result }) fresh c.new.ensures.items ∙ c.place_count-count.ensures;
    }

pub loop-place-preserved : goal.loop-place-preserved
loop-place-preserved c =
    let code : Code = code_of c.args.listing.now in
    let before = c.loop-place.invariant in
    let within : c.loop-place.place < length c.in_ok-points.points.items = omega (arith, c.loop-place-test.true, c.place_count-count.ensures, c.in_ok-points.ensures.len) in
    let marked_here : c.loop-place.place < length c.loop-place.reaching.marks.items = omega (arith, c.loop-place-test.true, c.place_count-count.ensures, before.reaching.len) in
    let is_point = c.in_ok-points.ensures.points c.loop-place.place c.index.result.now (slice_get_read c.in_ok-points.points.items _ c.loop-place.place c.index.result.now refl within c.index.ensures) in
    elim c.if-index.branch [
      | then-index+in_ok-reach w ↦
          let found = w.in_ok-reach.ensures in
          rw w.reaching-is record {
            reaching = found.reaching code [] (point c.loop-place.place (is_point.0 w.if-index.true)) before.reaching;
            points = points_next code w.reach.new.self.marks.items c.loop-place.place (λ q l o. found.more.kept q (before.points q l o)) (λ o. found.here marked_here);
            left = found.more.left ∙ before.left;
          }
      | else-index w ↦
          rw w.reaching-is record {
            reaching = before.reaching;
            points = points_next code c.loop-place.reaching.marks.items c.loop-place.place before.points (λ o. absurd (true≢false (sym (is_point.1 o) ∙ w.if-index.false)));
            left = before.left;
          }
    ]
