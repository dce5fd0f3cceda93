use Rattle.std.proofs.Common.{◌≡◌, ◌∙◌, ◌+◌, ◌<◌, ◌++◌, ◌∷◌, List, drop, length, map, take, ap, refl, subst, sym, arith}
use Rattle.std.proofs.lemmas.List.{map-append}
use Rattle.std.specs.Prelude.{option_map}
use Rattle.thumb_model.specs.Listing.{ListingLine, places_of}
use Rattle.kept_places.specs.Marks.{is_gone}
use Rattle.listing_parser.specs.Views.{line_view}
use Rattle.listing_parser.specs.declared.line.ListingLine.{ListingLine as Lines}
use Rattle.listing_draft.specs.Drafted.{aim_at, line_now, now_of}
use Rattle.listing_draft.specs.Invariant.{names_of}
use Rattle.listing_draft.proofs.Drafts.{aim_names}
use Rattle.listing_draft.proofs.Emits.{place_within, places_pass, places_within, emitted_op, emitted_other}
use Rattle.listing_draft.proofs.Standing.{none_standing}
use Rattle.listing_draft.proofs.emitting.emit_behind.Goals as goal
use Rattle.listing_draft.proofs.emitting.emit_behind.Goals.{then-is_op+in_ok-emit_op, else-is_op+in_ok-push-2}
use Rattle.common_lemmas.proofs.Lists.{get_of_or}

pub overflow_add-place : goal.overflow_add-place
overflow_add-place c =
    let l : ListingLine = line_view c.in-Some.line in
    let rest : List ListingLine = map line_view c.next.new.self.rest.items in
    let n = c.loop-line.place in
    let count = length c.args.kept.now in
    let step : map line_view c.loop-line.line-iterator.rest.items ≡ l ∷ rest = ap (λ (ls : List Lines). map line_view ls) c.in-Some.ensures.steps.0 in
    let none : c.loop-line.standing ≡ 0 = omega (arith, c.if-standing-gt0.false) in
    let here : n + length (places_of (drop c.loop-line.standing (l ∷ rest))) ≡ count = subst (λ (ls : List ListingLine). n + length (places_of (drop c.loop-line.standing ls)) ≡ count) step c.loop-line.invariant.passed in
    let left : n + length (places_of (l ∷ rest)) ≡ count = subst (λ s. n + length (places_of (drop s (l ∷ rest))) ≡ count) none here in
    omega (arith, places_within n l rest count left, c.places-places.ensures, c.len-count.ensures, c.len-count.type_inv)

pub loop-line-preserved : goal.loop-line-preserved
loop-line-preserved c =
    let gone = c.args.kept.now in
    let aims = names_of c.args.aims.now in
    let count = length c.args.kept.now in
    let all : List ListingLine = take c.args.passed.lines (map line_view c.args.lines.items) ++ now_of (drop c.args.passed.places gone) (drop c.args.passed.places aims) (drop c.args.passed.lines (map line_view c.args.lines.items)) in
    let l : ListingLine = line_view c.in-Some.line in
    let rest : List ListingLine = map line_view c.next.new.self.rest.items in
    let out : List ListingLine = map line_view c.loop-line.out.items in
    let new : List ListingLine = map line_view c.if-is_op.out.items in
    let n = c.loop-line.place in
    let k = c.places-places.result in
    let standing = c.loop-line.standing in
    let step : map line_view c.loop-line.line-iterator.rest.items ≡ l ∷ rest = ap (λ (ls : List Lines). map line_view ls) c.in-Some.ensures.steps.0 in
    let none : standing ≡ 0 = omega (arith, c.if-standing-gt0.false) in
    let begun : out ++ (take standing (l ∷ rest) ++ now_of (drop n gone) (drop n aims) (drop standing (l ∷ rest))) ≡ all =
    subst (λ (ls : List ListingLine). out ++ (take standing ls ++ now_of (drop n gone) (drop n aims) (drop standing ls)) ≡ all) step c.loop-line.invariant.emitted in
    let before : out ++ now_of (drop n gone) (drop n aims) (l ∷ rest) ≡ all = sym (none_standing gone aims n standing (l ∷ rest) out none) ∙ begun in
    let here : n + length (places_of (drop standing (l ∷ rest))) ≡ count = subst (λ (ls : List ListingLine). n + length (places_of (drop standing ls)) ≡ count) step c.loop-line.invariant.passed in
    let left : n + length (places_of (l ∷ rest)) ≡ count = subst (λ s. n + length (places_of (drop s (l ∷ rest))) ≡ count) none here in
    let passed : n + k + length (places_of (drop standing rest)) ≡ count =
    subst (λ s. n + k + length (places_of (drop s rest)) ≡ count) (sym none) (places_pass n k (n + k) l rest count left c.places-places.ensures refl) in
    elim c.if-is_op.branch [
      | then-is_op+in_ok-emit_op w ↦ (
          let op = sym c.is_op.ensures ∙ w.if-is_op.true in
          let within : n < length c.args.aims.now = (let p = place_within n l rest count left op in omega (arith, p, c.requires.aims)) in
          let at = get_of_or c.args.aims.now n w.index-aims-place.result within w.index-aims-place.is in
          let aim : aim_at aims n ≡ option_map (λ name. name.items) w.index-aims-place.result = aim_names c.args.aims.now n w.index-aims-place.result at in
          let emitted =
          ap (λ v. map line_view v.items) w.out-is ∙ w.in_ok-emit_op.ensures
          ∙ ap (λ g. out ++ line_now g (option_map (λ name. name.items) w.index-aims-place.result) l) w.is_gone-is_gone.ensures
          ∙ ap (λ a. out ++ line_now (is_gone gone n) a l) (sym aim) in
          record {
            emitted = none_standing gone aims (n + k) standing rest new none ∙ emitted_op gone aims n k (n + k) l rest out new all op c.places-places.ensures refl before emitted;
            passed = passed;
          })
      | else-is_op+in_ok-push-2 w ↦ (
          let other = sym c.is_op.ensures ∙ w.if-is_op.false in
          let emitted = ap (λ v. map line_view v.items) w.out-is ∙ ap (λ (ls : List Lines). map line_view ls) w.in_ok-push-2.ensures.items ∙ map-append _ _ _ in
          record {
            emitted = none_standing gone aims (n + k) standing rest new none ∙ emitted_other gone aims n k (n + k) l rest out new all other c.places-places.ensures refl before emitted;
            passed = passed;
          })
    ]
