use Rattle.std.proofs.Common.{◌∙◌, ap, not, filter, get_or}
use Rattle.fingerprints.specs.Looks.{flags_differ}
use Rattle.fingerprints.proofs.Looking.{all_looks, look_is}
use Rattle.fingerprints.proofs.looks.alike.Goals as goal

pub returns : goal.returns
returns c =
    let mask = c.args.mask.items.bits in
    all_looks c.args.columns.now c.args.start.now c.args.end.now mask c.args.limit _ _ _ _ _ _ c.args.mask.in_masks c.in_ok-numbers.ensures
    (look_is _ _ _ _ _ _ _ _ c.keep_words.ensures c.has.ensures c.deref.ensures.value)
    (look_is _ _ _ _ _ _ _ _ c.keep_words-2.ensures c.has-2.ensures c.deref-2.ensures.value)
    (look_is _ _ _ _ _ _ _ _ c.keep_words-3.ensures c.has-3.ensures c.deref-3.ensures.value)
    (look_is _ _ _ _ _ _ _ _ c.keep_words-4.ensures c.has-4.ensures c.deref-4.ensures.value)
    (c.keep_flags.ensures ∙ ap (λ xs. filter (λ q. not (flags_differ mask (get_or xs q 0) c.args.end.now.nzcv)) c.keep_words-4.new.numbers.items) c.deref-5.ensures.value)
