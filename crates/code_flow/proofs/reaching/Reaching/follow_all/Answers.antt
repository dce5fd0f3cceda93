use Rattle.std.proofs.Common.{[], ◌∷◌, Option, subst}
use Rattle.thumb_model.specs.Listing.{Code, code_of}
use Rattle.thumb_model.specs.Flow.{ways}
use Rattle.code_flow.specs.declared.way.Way.{Way}
use Rattle.code_flow.specs.Flow.{second_list, AreWays}
use Rattle.code_flow.proofs.Reaches.{ways_go_to_reached, one_followed, two_followed}
use Rattle.code_flow.proofs.reaching.Reaching.follow_all.Goals as goal

pub returns-in_ok-follow-2-clause-reaching : goal.returns-in_ok-follow-2-clause-reaching
returns-in_ok-follow-2-clause-reaching c =
    let code : Code = code_of c.args.listing.now in
    let first : Way = c.in-Some.ways.first in
    let second : Way = c.in-Some-second.second in
    let are : AreWays c.args.place (ways code c.args.place) (first ∷ second ∷ []) = subst (λ (o : Option Way). AreWays c.args.place (ways code c.args.place) (first ∷ second_list o)) c.in-Some-second.is c.in-Some.ensures.ways in
    let reached = ways_go_to_reached code c.args.place (first ∷ second ∷ []) (c.requires.reaching.sound c.args.place c.requires.place) are in
    let one = c.in_ok-follow.ensures in
    let two = c.in_ok-follow-2.ensures in
    two_followed code c.args.place first second c.args.self.now c.follow.new.self c.follow-in-Some-second.new.self c.requires.points one.more two.more are one.there two.there
    (two.reaching code (c.args.place ∷ []) reached.1.0 (one.reaching code (c.args.place ∷ []) reached.0 c.requires.reaching))

pub returns-in_default-second-clause-reaching : goal.returns-in_default-second-clause-reaching
returns-in_default-second-clause-reaching c =
    let code : Code = code_of c.args.listing.now in
    let first : Way = c.in-Some.ways.first in
    let are : AreWays c.args.place (ways code c.args.place) (first ∷ []) = subst (λ (o : Option Way). AreWays c.args.place (ways code c.args.place) (first ∷ second_list o)) c.in_default-second.is c.in-Some.ensures.ways in
    let reached = ways_go_to_reached code c.args.place (first ∷ []) (c.requires.reaching.sound c.args.place c.requires.place) are in
    let one = c.in_ok-follow.ensures in
    one_followed code c.args.place first c.args.self.now c.follow.new.self c.requires.points one.more are one.there (one.reaching code (c.args.place ∷ []) reached.0 c.requires.reaching)
