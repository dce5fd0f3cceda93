use Rattle.fingerprints.proofs.Seeds.{five_words}
use Rattle.fingerprints.proofs.states.next_state.Goals as goal

pub returns-clause-value : goal.returns-clause-value
returns-clause-value c = (five_words c.args.rng.now c.next_word-first.new.self c.next_word-second.new.self c.next_word-third.new.self c.next_word-fourth.new.self c.next_word-flags.new.self _ _ _ _ _ c.next_word-first.ensures c.next_word-second.ensures c.next_word-third.ensures c.next_word-fourth.ensures c.next_word-flags.ensures).0

pub returns-clause-after : goal.returns-clause-after
returns-clause-after c = (five_words c.args.rng.now c.next_word-first.new.self c.next_word-second.new.self c.next_word-third.new.self c.next_word-fourth.new.self c.next_word-flags.new.self _ _ _ _ _ c.next_word-first.ensures c.next_word-second.ensures c.next_word-third.ensures c.next_word-fourth.ensures c.next_word-flags.ensures).1
