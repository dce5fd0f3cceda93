use Rattle.std.proofs.Common.{◌≡◌, ◌∙◌, ◌+◌, ◌<◌, ◌++◌, ℕ, List, drop, length, map, take, ap, rules, refl, subst, sym, arith}
use Rattle.std.specs.Prelude.{option_map, slice_set}
use Rattle.std.proofs.lemmas.Option.{same_Some}
use Rattle.thumb_model.specs.Listing.{ListingLine, places_of}
use Rattle.thumb_model.specs.Replaced.{is_op}
use Rattle.kept_places.specs.Marks.{is_gone}
use Rattle.listing_parser.specs.Views.{line_view}
use Rattle.listing_parser.specs.declared.line.ListingLine.{ListingLine as Lines}
use Rattle.listing_draft.specs.Drafted.{aim_at, line_now, now_of}
use Rattle.listing_draft.specs.Invariant.{names_of}
use Rattle.listing_draft.proofs.Drafts.{aim_names, set_length}
use Rattle.listing_draft.proofs.Emits.{place_within, places_pass, places_within}
use Rattle.listing_draft.proofs.Standing.{places_behind, places_left, set_alike, stays_op, stays_other}
use Rattle.listing_draft.proofs.emitting.change_standing.Goals as goal
use Rattle.listing_draft.proofs.emitting.change_standing.Goals.{then-is_op+in_ok-change_one+else-not-branch, else-is_op}
use Rattle.common_lemmas.proofs.Lists.{get_of_or}

pub overflow_cast-places : goal.overflow_cast-places
overflow_cast-places c =
    let n : ℕ = c.loop-n.n in
    let ys : List Lines = c.loop-n.lines.items in
    let y : Lines = c.index.result.now in
    let at = get_of_or ys n y (omega (arith, c.loop-n-test.true, c.loop-n.invariant.many)) c.index.ensures in
    let few = places_within c.loop-n.place (line_view y) (drop (n + 1) (map line_view ys)) (length c.args.kept.now) (places_left ys n c.loop-n.place (length c.args.kept.now) y at c.loop-n.invariant.passed) in
    omega (arith, few, c.places-places.ensures, c.len-count.ensures, c.len-count.type_inv)

pub is_gone-is_gone-requires : goal.is_gone-is_gone-requires
is_gone-is_gone-requires c =
    let n : ℕ = c.loop-n.n in
    let ys : List Lines = c.loop-n.lines.items in
    let y : Lines = c.index-in-loop-n.result.now in
    let at = get_of_or ys n y (omega (arith, c.loop-n-test.true, c.loop-n.invariant.many)) c.index-in-loop-n.ensures in
    let few = place_within c.loop-n.place (line_view y) (drop (n + 1) (map line_view ys)) (length c.args.kept.now) (places_left ys n c.loop-n.place (length c.args.kept.now) y at c.loop-n.invariant.passed) (sym c.is_op.ensures ∙ c.if-is_op.true) in
    omega (arith, few)

pub bounds-aims-place : goal.bounds-aims-place
bounds-aims-place c =
    let n : ℕ = c.loop-n.n in
    let ys : List Lines = c.loop-n.lines.items in
    let y : Lines = c.index-in-loop-n.result.now in
    let at = get_of_or ys n y (omega (arith, c.loop-n-test.true, c.loop-n.invariant.many)) c.index-in-loop-n.ensures in
    let few = place_within c.loop-n.place (line_view y) (drop (n + 1) (map line_view ys)) (length c.args.kept.now) (places_left ys n c.loop-n.place (length c.args.kept.now) y at c.loop-n.invariant.passed) (sym c.is_op.ensures ∙ c.if-is_op.true) in
    omega (arith, few, c.requires.gone, c.requires.aims)

pub returns-then-not-branch-clause-places : goal.returns-then-not-branch-clause-places
returns-then-not-branch-clause-places c =
    let n : ℕ = c.loop-n.n in
    let ys : List Lines = c.loop-n.lines.items in
    let at = get_of_or ys n c.index_mut.result.now (omega (arith, c.loop-n-test.true, c.loop-n.invariant.many)) c.index_mut.ensures.value in
    let same = set_alike ys n c.index_mut.result.now c.change_one.new.line at (c.in_ok-change_one.ensures.other (search rules)) in
    subst (λ (ls : List ListingLine). c.loop-n.place + length (places_of (drop n ls)) ≡ length c.args.kept.now) (sym same) c.loop-n.invariant.passed

pub returns-then-not-branch-clause-lines : goal.returns-then-not-branch-clause-lines
returns-then-not-branch-clause-lines c =
    let n : ℕ = c.loop-n.n in
    let ys : List Lines = c.loop-n.lines.items in
    let gone = c.args.kept.now in
    let aims = names_of c.args.aims.now in
    let at = get_of_or ys n c.index_mut.result.now (omega (arith, c.loop-n-test.true, c.loop-n.invariant.many)) c.index_mut.ensures.value in
    let same = set_alike ys n c.index_mut.result.now c.change_one.new.line at (c.in_ok-change_one.ensures.other (search rules)) in
    subst (λ (ls : List ListingLine). take n ls ++ now_of (drop c.loop-n.place gone) (drop c.loop-n.place aims) (drop n ls) ≡ now_of gone aims (map line_view c.args.lines.now.items)) (sym same) c.loop-n.invariant.changed

pub overflow_add-place : goal.overflow_add-place
overflow_add-place c =
    let n : ℕ = c.loop-n.n in
    let ys : List Lines = c.loop-n.lines.items in
    let y : Lines = c.index.result.now in
    let at = get_of_or ys n y (omega (arith, c.loop-n-test.true, c.loop-n.invariant.many)) c.index.ensures in
    let few = places_within c.loop-n.place (line_view y) (drop (n + 1) (map line_view ys)) (length c.args.kept.now) (places_left ys n c.loop-n.place (length c.args.kept.now) y at c.loop-n.invariant.passed) in
    omega (arith, few, c.places-places.ensures, c.len-count.ensures, c.len-count.type_inv)

pub loop-n-preserved : goal.loop-n-preserved
loop-n-preserved c =
    let n : ℕ = c.loop-n.n in
    let ys : List Lines = c.loop-n.lines.items in
    let y : Lines = c.index.result.now in
    let gone = c.args.kept.now in
    let aims = names_of c.args.aims.now in
    let all : List ListingLine = now_of gone aims (map line_view c.args.lines.now.items) in
    let place = c.loop-n.place in
    let k = c.places-places.result in
    let within : n < length ys = omega (arith, c.loop-n-test.true, c.loop-n.invariant.many) in
    let at = get_of_or ys n y within c.index.ensures in
    let read = same_Some c.index-in-loop-n.result.now y (sym (get_of_or ys n c.index-in-loop-n.result.now within c.index-in-loop-n.ensures) ∙ at) in
    elim c.if-is_op.branch [
      | then-is_op+in_ok-change_one+else-not-branch w ↦ (
          let op = ap (λ z. is_op (line_view z).statement) (sym read) ∙ sym c.is_op.ensures ∙ w.if-is_op.true in
          let old = same_Some w.index_mut.result.now y (sym (get_of_or ys n w.index_mut.result.now within w.index_mut.ensures.value) ∙ at) in
          let left = places_left ys n place (length gone) y at c.loop-n.invariant.passed in
          let aimed : place < length c.args.aims.now = (let p = place_within place (line_view y) (drop (n + 1) (map line_view ys)) (length gone) left op in omega (arith, p, c.requires.gone, c.requires.aims)) in
          let named = get_of_or c.args.aims.now place w.index-aims-place.result aimed w.index-aims-place.is in
          let aim : aim_at aims place ≡ option_map (λ name. name.items) w.index-aims-place.result = aim_names c.args.aims.now place w.index-aims-place.result named in
          let one =
          w.in_ok-change_one.ensures.one (search rules)
          ∙ ap (λ z. line_now w.is_gone-is_gone.result (option_map (λ name. name.items) w.index-aims-place.result) (line_view z)) old
          ∙ ap (λ g. line_now g (option_map (λ name. name.items) w.index-aims-place.result) (line_view y)) w.is_gone-is_gone.ensures
          ∙ ap (λ a. line_now (is_gone gone place) a (line_view y)) (sym aim) in
          let items : (let zs : List Lines = c.if-is_op.lines.items in zs) ≡ slice_set ys n w.change_one.new.line = ap (λ v. v.items) w.lines-is in
          record {
            many = ap (λ (zs : List Lines). length zs) items ∙ set_length ys n w.change_one.new.line ∙ c.loop-n.invariant.many;
            passed = ap (λ (zs : List Lines). place + k + length (places_of (drop (n + 1) (map line_view zs)))) items ∙ places_behind ys n place k (length gone) y w.change_one.new.line at c.places-places.ensures c.loop-n.invariant.passed;
            changed = ap (λ (zs : List Lines). take (n + 1) (map line_view zs) ++ now_of (drop (place + k) gone) (drop (place + k) aims) (drop (n + 1) (map line_view zs))) items
                ∙ stays_op gone aims place k ys n y all at c.places-places.ensures c.loop-n.invariant.changed w.change_one.new.line op one;
          })
      | else-is_op w ↦ (
          let other = ap (λ z. is_op (line_view z).statement) (sym read) ∙ sym c.is_op.ensures ∙ w.if-is_op.false in
          let items : (let zs : List Lines = c.if-is_op.lines.items in zs) ≡ ys = ap (λ v. v.items) w.lines-is in
          record {
            many = ap (λ (zs : List Lines). length zs) items ∙ c.loop-n.invariant.many;
            passed = ap (λ (zs : List Lines). place + k + length (places_of (drop (n + 1) (map line_view zs)))) items
                ∙ places_pass place k (place + k) (line_view y) (drop (n + 1) (map line_view ys)) (length gone) (places_left ys n place (length gone) y at c.loop-n.invariant.passed) c.places-places.ensures refl;
            changed = ap (λ (zs : List Lines). take (n + 1) (map line_view zs) ++ now_of (drop (place + k) gone) (drop (place + k) aims) (drop (n + 1) (map line_view zs))) items
                ∙ stays_other gone aims place k ys n y all at c.places-places.ensures c.loop-n.invariant.changed other;
          })
    ]
