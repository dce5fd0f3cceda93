use Rattle.std.proofs.Common.{◌+◌, ◌*◌, ◌≤◌, List, length, map, sym, subst, arith}
use Rattle.thumb_model.specs.Listing.{ListingLine, places_of}
use Rattle.rule_model.specs.Rewriting.{AreRewritten}
use Rattle.step_ledger.proofs.Rises.{at_least-goes_on}
use Rattle.window_rewrite.specs.Choices.{setting_of, sides_of}
use Rattle.window_rewrite.specs.TableRewriting.{replacement_of}
use Rattle.window_rewrite.specs.Scenes.{lines_of}
use Rattle.window_rewrite.proofs.rewriting.rewritten.Goals as goal

pub returns-clause-rewritten : goal.returns-clause-rewritten
returns-clause-rewritten g c =
    let here : AreRewritten (setting_of c.args.rules.now) (lines_of c.in_ok-scene.scene) (map replacement_of c.in_ok-replacements.replacements.items) (lines_of c.go_through.new.scene) = c.in_ok-replacements.ensures.rewritten in
    let first = subst (λ (ls : List ListingLine). AreRewritten (setting_of c.args.rules.now) ls (map replacement_of c.in_ok-replacements.replacements.items) (lines_of c.go_through.new.scene)) c.in_ok-scene.ensures.lines here in
    subst (λ (ls : List ListingLine). AreRewritten (setting_of c.args.rules.now) c.args.listing (map replacement_of c.in_ok-replacements.replacements.items) ls) (sym c.in_ok-listing.ensures) first

pub returns-clause-cost : goal.returns-clause-cost
returns-clause-cost g c =
    let rest = subst (λ (ls : List ListingLine). c.go_through.new.steps ≤ c.of.new.steps + (length c.in_ok-replacements.replacements.items + 1) * (length (places_of ls) * length (sides_of c.args.rules.now))) c.in_ok-scene.ensures.lines c.in_ok-replacements.ensures.cost in
    omega (arith, c.of.ensures.cost, rest)

pub returns-clause-rises : goal.returns-clause-rises
returns-clause-rises g c = at_least-goes_on c.args.steps.now c.of.new.steps c.go_through.new.steps (length (places_of c.args.listing)) (length c.in_ok-replacements.replacements.items) c.in_ok-scene.ensures.rises c.in_ok-replacements.ensures.rises
