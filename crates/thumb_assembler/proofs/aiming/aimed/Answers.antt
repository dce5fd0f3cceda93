use Rattle.std.proofs.Common.{refl, sym, subst}
use Rattle.thumb_instr.specs.declared.instr.Instr.{Instr}
use Rattle.thumb_instr.specs.declared.instr.Instr.TheVariants as instr
use Rattle.thumb_assembler.specs.Bytes.{Aims}
use Rattle.thumb_assembler.proofs.aiming.aimed.Goals as goal

pub returns-in-Literal : goal.returns-in-Literal
returns-in-Literal c = subst (λ (i : Instr). Aims c.args.at c.args.to i (instr.Literal c.in-Literal.target c.words_to.result)) (sym c.in-Literal.is) (c.words_to.result, c.words_to.ensures, refl)

pub returns-in-Address : goal.returns-in-Address
returns-in-Address c =
    subst (λ (i : Instr). Aims c.args.at c.args.to i (instr.Address c.in-Address.target c.words_to-in-Address.result)) (sym c.in-Address.is) (c.words_to-in-Address.result, c.words_to-in-Address.ensures, refl)

pub returns-in-BranchIf : goal.returns-in-BranchIf
returns-in-BranchIf c =
    subst (λ (i : Instr). Aims c.args.at c.args.to i (instr.BranchIf c.in-BranchIf.condition c.distance_to.result)) (sym c.in-BranchIf.is) (c.distance_to.result, c.distance_to.ensures, refl)

pub returns-in-Branch : goal.returns-in-Branch
returns-in-Branch c = subst (λ (i : Instr). Aims c.args.at c.args.to i (instr.Branch c.distance_to-in-Branch.result)) (sym c.in-Branch.is) (c.distance_to-in-Branch.result, c.distance_to-in-Branch.ensures, refl)

pub returns-in-Call : goal.returns-in-Call
returns-in-Call c = subst (λ (i : Instr). Aims c.args.at c.args.to i (instr.Call c.distance_to-in-Call.result)) (sym c.in-Call.is) (c.distance_to-in-Call.result, c.distance_to-in-Call.ensures, refl)
