use Rattle.std.proofs.Common.{◌≡◌, ◌∙◌, ◌<◌, false, List, Some, length, ap, subst, sym}
use Rattle.std.specs.Prelude.{slice_get}
use Rattle.kept_places.specs.Marks.{is_gone}
use Rattle.listing_draft.specs.Drafted.{Drafted}
use Rattle.flow_tidy.specs.declared.chain_ends.Known.{Known}
use Rattle.flow_tidy.specs.declared.chain_ends.Known.TheVariants.{Walked}
use Rattle.flow_tidy.specs.ChainEnds.{AreEnds, AreWalked}
use Rattle.flow_tidy.proofs.Ending.{noted_last, still_walked}
use Rattle.flow_tidy.proofs.chain_ends.note_walked.Goals as goal

pub loop-hops-preserved : goal.loop-hops-preserved
loop-hops-preserved c =
    let i = c.loop-hops.invariant in
    let d = c.loop-hops.draft in
    let new = c.hop.new.draft in
    let same = sym c.hop.ensures.same in
    let walked : slice_get c.loop-hops.ends c.loop-hops.at ≡ Some Walked = c.at.ensures ∙ ap Some c.in-Walked.is in
    let here = i.walked c.loop-hops.at i.kept walked in
    let known = subst (AreEnds d) (sym c.note.ensures) (noted_last d c.loop-hops.ends c.loop-hops.at c.args.last here i.known) in
    let still = subst (λ (ks : List Known). AreWalked d ks c.args.last) (sym c.note.ensures) (still_walked d c.loop-hops.ends c.loop-hops.at c.args.last c.args.last i.walked) in
    record {
      same = c.hop.ensures.same ∙ i.same;
      within = subst (λ (x : Drafted). c.in-Some.next < length x.gone) same c.in-Some.ensures.within;
      kept = subst (λ (x : Drafted). is_gone x.gone c.in-Some.next ≡ false) same c.in-Some.ensures.kept;
      walked = subst (λ (x : Drafted). AreWalked x c.note.new.self c.args.last) same still;
      known = subst (λ (x : Drafted). AreEnds x c.note.new.self) same known;
    }

pub returns-then-eq-clause-known : goal.returns-then-eq-clause-known
returns-then-eq-clause-known c =
    let i = c.loop-hops.invariant in
    let d = c.loop-hops.draft in
    let walked : slice_get c.loop-hops.ends c.loop-hops.at ≡ Some Walked = c.at.ensures ∙ ap Some c.in-Walked.is in
    let here = i.walked c.loop-hops.at i.kept walked in
    subst (λ (x : Drafted). AreEnds x c.note.new.self) i.same (subst (AreEnds d) (sym c.note.ensures) (noted_last d c.loop-hops.ends c.loop-hops.at c.args.last here i.known))

pub returns-in-None-clause-known : goal.returns-in-None-clause-known
returns-in-None-clause-known c =
    let i = c.loop-hops.invariant in
    let d = c.loop-hops.draft in
    let walked : slice_get c.loop-hops.ends c.loop-hops.at ≡ Some Walked = c.at.ensures ∙ ap Some c.in-Walked.is in
    let here = i.walked c.loop-hops.at i.kept walked in
    subst (λ (x : Drafted). AreEnds x c.note.new.self) i.same (subst (AreEnds d) (sym c.note.ensures) (noted_last d c.loop-hops.ends c.loop-hops.at c.args.last here i.known))
