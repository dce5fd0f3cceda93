use Rattle.bit_blast.proofs.Families.{family_few_variables}
use Rattle.bit_blast.proofs.laws.families_need_few_variables.Goals as goal

pub returns : goal.returns
returns c = family_few_variables
