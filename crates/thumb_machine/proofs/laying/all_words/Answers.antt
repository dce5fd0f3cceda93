use Rattle.std.proofs.Common.{◌≡◌, ◌∙◌, ◌≤◌, Bor, List, Some, None, ap, arith, length, option_map, subst, sym}
use Rattle.std.specs.Prelude.{slice_get}
use Rattle.thumb_model.specs.Listing.{Name, places_of}
use Rattle.listing_parser.specs.declared.line.Mention.{Mention as Mentions}
use Rattle.listing_parser.specs.Views.{place_view}
use Rattle.thumb_machine.specs.Laid.{place_name}
use Rattle.thumb_machine.specs.Words.{AreOwn}
use Rattle.thumb_machine.proofs.WordLemmas.{known_all, known_before, own_name, own_nothing}
use Rattle.thumb_machine.proofs.laying.all_words.Goals as goal
use Rattle.thumb_machine.proofs.laying.all_words.Goals.{in-None, in-Some-mentioned+in_ok-count-in-Some-mentioned}

pub loop-place-preserved : goal.loop-place-preserved
loop-place-preserved c =
    let here : Some (place_view c.in-Some.found) ≡ slice_get (places_of c.args.listing.now) c.loop-place.place = sym (ap (option_map place_view) c.in-Some.is) ∙ c.place.ensures in
    elim c.match-mentioned.branch [
      | in-None w ↦
          let none : None ≡ place_name (place_view c.in-Some.found) = sym (ap (option_map (λ (m : Bor Mentions). m.now.name.items)) w.in-None.is) ∙ c.mentioned.ensures in
          rw (w.words-is, w.count-is)
          (own_nothing c.args.layout.now.base c.args.listing.now c.loop-place.place c.loop-place.count c.loop-place.words.entries (place_view c.in-Some.found) here none c.loop-place.invariant)
      | in-Some-mentioned+in_ok-count-in-Some-mentioned w ↦
          let some : Some w.in-Some-mentioned.mention.now.name.items ≡ place_name (place_view c.in-Some.found) =
          sym (ap (option_map (λ (m : Bor Mentions). m.now.name.items)) w.in-Some-mentioned.is) ∙ c.mentioned.ensures in
          let did = w.in_ok-count-in-Some-mentioned.ensures.own c.args.layout.now.base c.args.listing.now (known_before c.args.layout.now.base c.args.listing.now c.loop-place.place)
          c.loop-place.invariant.counted c.loop-place.invariant.own in
          let few = w.in_ok-count-in-Some-mentioned.ensures.few in
          let before = c.loop-place.invariant.few in
          rw (w.words-is, w.count-is)
          (own_name c.args.layout.now.base c.args.listing.now c.loop-place.place c.loop-place.count _ _ (place_view c.in-Some.found) w.in-Some-mentioned.mention.now.name.items here some did.0 did.1 (omega arith))
    ]

pub returns : goal.returns
returns c =
    let all : length (places_of c.args.listing.now) ≤ c.loop-place.place = omega arith in
    subst (λ (known : List Name). AreOwn c.args.layout.now.base c.args.listing.now known c.loop-place.words.entries) (known_all c.args.layout.now.base c.args.listing.now c.loop-place.place all) c.loop-place.invariant.own
