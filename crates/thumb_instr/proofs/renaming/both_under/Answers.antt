use Rattle.std.proofs.Common.{◌∙◌, sym, ap}
use Rattle.std.specs.Prelude.{slice_get}
use Rattle.thumb_instr.specs.Window.{Reg, sp_of}
use Rattle.thumb_instr.proofs.renaming.both_under.Goals as goal

pub invariant_of-result : goal.invariant_of-result
invariant_of-result c =
    let r = c.args.registers in
    let map = c.args.map.now in
    record {
      one_other = λ e f. r.one_other
          (sp_of (slice_get map r.target.number) r.target (ap (λ (x : Reg). x.number) (sym c.reg_under-target.ensures) ∙ e))
          (sp_of (slice_get map r.source.number) r.source (ap (λ (x : Reg). x.number) (sym c.reg_under-source.ensures) ∙ f));
    }
