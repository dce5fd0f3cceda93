use Rattle.std.proofs.Common.{◌∙◌, length, refl, sym, arith}
use Rattle.std.proofs.lemmas.Bool.{eqb-true}
use Rattle.thumb_model.specs.Listing.{labels_from, places_of}
use Rattle.edited_listing.specs.Edited.{lines_now}
use Rattle.window_rewrite.proofs.Scenes.{settled_before, settled_whole}
use Rattle.window_rewrite.proofs.scene.Scene.is_settled.Goals as goal

pub returns-then-count-len : goal.returns-then-count-len
returns-then-count-len c =
    let site = c.args.site.now in
    let within = c.len.ensures.value in
    (λ _. settled_before (lines_now c.args.self.now.listing) c.args.rules.now.longest site.number c.args.count site.run.instrs c.args.new.now c.requires.site.instrs (omega (arith, c.if-count-len.true, within)), λ _. refl)

pub returns : goal.returns
returns c =
    let site = c.args.site.now in
    let within = c.len.ensures.value in
    settled_whole site.may_vanish (places_of (lines_now c.args.self.now.listing)) (labels_from 0 (lines_now c.args.self.now.listing)) site.number c.args.count (length site.run.instrs) c.args.new.now c.requires.site.vanishes
    (omega (arith, c.requires.few, c.if-count-len.false, within)) (eqb-true (length c.args.new.now) 0 (sym c.is_empty.ensures ∙ c.if-not-is_empty.false))
