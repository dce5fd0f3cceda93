use Rattle.std.proofs.Common.{◌∙◌, ◌<◌, List, Some, None, subst, sym}
use Rattle.listing_draft.specs.Drafted.{Drafted}
use Rattle.flow_tidy.specs.declared.chain_ends.Known.{Known}
use Rattle.flow_tidy.specs.ChainEnds.{AreEnds, AreWalked, IsLast}
use Rattle.flow_tidy.proofs.Ending.{fewer_unknown, noted_walk, unknown, walk_all, walk_all_with, walk_ends, walk_first, walk_goes_on, walk_round, IsWalk}
use Rattle.flow_tidy.proofs.chain_ends.walk.Goals as goal

pub returns-in-Last-clause-last : goal.returns-in-Last-clause-last
returns-in-Last-clause-last c =
    let w = c.walking.invariant.walk in
    subst (λ (x : Drafted). IsLast x c.args.first c.in-Last.last) c.walking.invariant.same (walk_first _ _ _ _ _ c.in-Last.last w (w.ends.each c.walking.at c.in-Last.last w.kept.0 c.in-Last.ensures))

pub returns-in-Last-clause-walked : goal.returns-in-Last-clause-walked
returns-in-Last-clause-walked c =
    let w = c.walking.invariant.walk in
    subst (λ (x : Drafted). AreWalked x c.walking.ends c.in-Last.last) c.walking.invariant.same (walk_all _ _ _ _ _ c.in-Last.last w (w.ends.each c.walking.at c.in-Last.last w.kept.0 c.in-Last.ensures))

pub returns-in-Walked-clause-last : goal.returns-in-Walked-clause-last
returns-in-Walked-clause-last c =
    let w = c.walking.invariant.walk in
    subst (λ (x : Drafted). IsLast x c.args.first None) c.walking.invariant.same (walk_first _ _ _ _ _ None w (walk_round _ _ _ _ _ w c.in-Walked.ensures))

pub returns-in-Walked-clause-walked : goal.returns-in-Walked-clause-walked
returns-in-Walked-clause-walked c =
    let w = c.walking.invariant.walk in
    subst (λ (x : Drafted). AreWalked x c.walking.ends None) c.walking.invariant.same (walk_all _ _ _ _ _ None w (walk_round _ _ _ _ _ w c.in-Walked.ensures))

pub returns-in-None-clause-last : goal.returns-in-None-clause-last
returns-in-None-clause-last c =
    let w = c.walking.invariant.walk in
    subst (λ (x : Drafted). IsLast x c.args.first (Some c.walking.at)) c.walking.invariant.same (walk_first _ _ _ _ _ (Some c.walking.at) w (walk_ends _ _ _ _ _ w (sym c.in-None.ensures.place)))

pub returns-in-None-clause-walked : goal.returns-in-None-clause-walked
returns-in-None-clause-walked c =
    let w = c.walking.invariant.walk in
    let all = walk_all_with _ _ _ _ _ (Some c.walking.at) w (walk_ends _ _ _ _ _ w (sym c.in-None.ensures.place)) in
    subst (λ (x : Drafted). AreWalked x c.note.new.self (Some c.walking.at)) c.walking.invariant.same (subst (λ (ks : List Known). AreWalked c.walking.draft ks (Some c.walking.at)) (sym c.note.ensures) all)

pub returns-in-None-clause-known : goal.returns-in-None-clause-known
returns-in-None-clause-known c =
    let ends = noted_walk c.walking.draft c.walking.ends c.walking.at c.walking.invariant.walk.ends in
    subst (λ (x : Drafted). AreEnds x c.note.new.self) c.walking.invariant.same (subst (AreEnds c.walking.draft) (sym c.note.ensures) ends)

pub walking-smaller : goal.walking-smaller
walking-smaller c = subst (λ (ks : List Known). unknown ks < unknown c.walking.ends) (sym c.note.ensures) (fewer_unknown c.walking.ends c.walking.at c.in-Nothing.ensures)

pub walking-preserved : goal.walking-preserved
walking-preserved c =
    let s = c.in-Some.ensures in
    let walk = walk_goes_on c.walking.draft c.walking.ends c.args.first c.walking.at c.walking.next c.in-Some.further c.walking.invariant.walk s.within s.kept (sym s.place) in
    let marked = subst (λ (ks : List Known). IsWalk c.walking.draft ks c.args.first c.walking.next c.in-Some.further) (sym c.note.ensures) walk in
    record {
      same = c.hop.ensures.same ∙ c.walking.invariant.same;
      walk = subst (λ (x : Drafted). IsWalk x c.note.new.self c.args.first c.walking.next c.in-Some.further) (sym c.hop.ensures.same) marked;
    }
