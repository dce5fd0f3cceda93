use Rattle.std.proofs.Common.{◌∙◌, sym}
use Rattle.thumb_syntax.proofs.ListLemmas.{items_more}
use Rattle.thumb_syntax.proofs.lists.+items.Goals as goal

pub returns-then-is_sign : goal.returns-then-is_sign
returns-then-is_sign t c = c.items.ensures ∙ sym (items_more _ _ _ _ _ _ _ _ c.in-Some.ensures c.in-Some-next.ensures c.in-Some-added.ensures c.if-is_sign.ensures)
