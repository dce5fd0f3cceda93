use Rattle.std.proofs.Common.{◌<◌, ◌≤◌, length, ltb-true, ltb-false, sym}
use Rattle.listing_parser.proofs.SpotLemmas.{read_word, no_word}
use Rattle.listing_parser.proofs.listing.place_in.Goals as goal

pub returns-in-Some : goal.returns-in-Some
returns-in-Some c =
    let h : c.args.item < length c.deref.result.now = ltb-true _ _ (sym c.in-Some.ensures.lookup.0) in
    rw c.in-Words.is (rw c.deref.ensures.value at (read_word c.deref.result.now c.args.item c.in-Some.value.now h c.in-Some.ensures.lookup.1))

pub returns-in-None : goal.returns-in-None
returns-in-None c =
    let h : length c.deref.result.now ≤ c.args.item = ltb-false _ _ (sym c.in-None.ensures.lookup.0) in
    rw c.in-Words.is (rw c.deref.ensures.value at (no_word c.deref.result.now c.args.item h))
