use Rattle.std.proofs.Common.{◌∙◌, length}
use Rattle.std.proofs.lemmas.List.{get_or_default}
use Rattle.kept_places.proofs.Bits.{bit_set, word_within}
use Rattle.kept_places.proofs.words.set.Goals as goal

pub returns-clause-here : goal.returns-clause-here
returns-clause-here c = (bit_set c.args.words.now.items c.args.place c.index_mut.result.now c.requires (c.index_mut.ensures.value ∙ get_or_default c.args.words.now.items _ c.index_mut.result.now 0 (word_within (length c.args.words.now.items) c.args.place c.requires))).0

pub returns-clause-others : goal.returns-clause-others
returns-clause-others c = (bit_set c.args.words.now.items c.args.place c.index_mut.result.now c.requires (c.index_mut.ensures.value ∙ get_or_default c.args.words.now.items _ c.index_mut.result.now 0 (word_within (length c.args.words.now.items) c.args.place c.requires))).1
