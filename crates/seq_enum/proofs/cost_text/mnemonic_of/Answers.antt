use Rattle.seq_enum.proofs.CostLines.{mnemonic_found}
use Rattle.seq_enum.proofs.cost_text.mnemonic_of.Goals as goal

pub returns : goal.returns
returns c = mnemonic_found (λ name. name.now) c.mnemonics.result.now c.args.word.now c.place_of.result c.place_of.ensures c.mnemonics.ensures.value c.mnemonics.ensures.len
