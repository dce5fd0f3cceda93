use Rattle.std.proofs.Common.{◌∙◌, Some, ap, arith, sym}
use Rattle.thumb_instr.specs.declared.instr.Instr.{Instr}
use Rattle.steady_layout.specs.Steady.{steady_aim}
use Rattle.flow_tidy.proofs.WidestLayouts.{is_reached, line_within, place_within}
use Rattle.flow_tidy.proofs.widest_layout.reaches.Goals as goal

pub index-from-requires : goal.index-from-requires
index-from-requires c =
    let within = place_within c.args.listing.now c.args.widest.now c.args.place c.requires.widest c.requires.within in
    omega (arith, within, c.args.widest.now.places.ok)

pub index-to-requires : goal.index-to-requires
index-to-requires c =
    let within = line_within c.args.listing.now c.args.widest.now c.args.name.now c.in-Some.line c.requires.widest c.in-Some.ensures in
    omega (arith, within, c.args.widest.now.lines.ok)

pub returns-in-BranchIf : goal.returns-in-BranchIf
returns-in-BranchIf c = λ t.
    let g = c.args.widest.now in
    let from = c.index-from.result.now in
    let to = c.index-to.result.now in
    is_reached c.args.listing.now g c.args.place c.in-Some.line c.args.instr.now c.args.name.now from to c.requires.widest c.requires.within c.index-from.ensures c.index-to.ensures c.in-Some.ensures
    (λ set. ap (λ (i : Instr). steady_aim g.base from i (Some to) set 0) c.in-BranchIf.is ∙ sym c.is_within.ensures ∙ t)

pub returns-in-Branch : goal.returns-in-Branch
returns-in-Branch c = λ t.
    let g = c.args.widest.now in
    let from = c.index-from.result.now in
    let to = c.index-to.result.now in
    is_reached c.args.listing.now g c.args.place c.in-Some.line c.args.instr.now c.args.name.now from to c.requires.widest c.requires.within c.index-from.ensures c.index-to.ensures c.in-Some.ensures
    (λ set. ap (λ (i : Instr). steady_aim g.base from i (Some to) set 0) c.in-Branch.is ∙ sym c.is_within-in-Branch.ensures ∙ t)
