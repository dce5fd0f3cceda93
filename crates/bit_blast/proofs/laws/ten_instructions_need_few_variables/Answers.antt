use Rattle.bit_blast.proofs.Exact.{few_variables}
use Rattle.bit_blast.proofs.laws.ten_instructions_need_few_variables.Goals as goal

pub returns : goal.returns
returns c = few_variables
