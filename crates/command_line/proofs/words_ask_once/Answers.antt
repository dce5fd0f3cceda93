use Rattle.command_line.proofs.Usage.{asks_once}
use Rattle.command_line.proofs.words_ask_once.Goals as goal

pub returns : goal.returns
returns c = asks_once
