use Rattle.std.proofs.Common.{map, sym}
use Rattle.std.proofs.lemmas.List.{map-append}
use Rattle.ascii_scan.specs.Tokens.{tokens}
use Rattle.listing_parser.specs.Views.{value_view}
use Rattle.listing_parser.proofs.ValueLemmas.{first_is, at_none, at_end, at_word, at_mark, at_comma}
use Rattle.listing_parser.proofs.values.values.Goals as goal

pub returns-in-None : goal.returns-in-None
returns-in-None c = at_none _ _ _ (sym (rw c.in-None.is at c.in_ok-next_value.ensures)) c.loop-values.invariant

pub returns-in-None-next_token : goal.returns-in-None-next_token
returns-in-None-next_token c =
    let f = first_is (tokens c.loop-values.rest.now) (tokens c.in-Some.after.now) (value_view c.in-Some.value) (sym (rw c.in-Some.is at c.in_ok-next_value.ensures)) in
    rw (c.in_ok-push-in-Some.ensures.items, map-append) (at_end (map value_view c.loop-values.values.items) _ _ _ _ f c.in-None-next_token.ensures c.loop-values.invariant)

pub returns-in-Some-Word-default : goal.returns-in-Some-Word-default
returns-in-Some-Word-default c =
    let f = first_is (tokens c.loop-values.rest.now) (tokens c.in-Some.after.now) (value_view c.in-Some.value) (sym (rw c.in-Some.is at c.in_ok-next_value.ensures)) in
    at_word (map value_view c.loop-values.values.items) _ _ _ _ _ _ f (rw c.in-Some-Word-default.field-0-0-is at c.in-Some-Word-default.ensures) c.loop-values.invariant

pub returns-then-mark-ne44 : goal.returns-then-mark-ne44
returns-then-mark-ne44 c =
    let f = first_is (tokens c.loop-values.rest.now) (tokens c.in-Some.after.now) (value_view c.in-Some.value) (sym (rw c.in-Some.is at c.in_ok-next_value.ensures)) in
    at_mark (map value_view c.loop-values.values.items) _ _ _ _ _ _ f (rw c.in-Some-Mark-default.field-0-0-is at c.in-Some-Mark-default.ensures) c.if-mark-ne44.true c.loop-values.invariant

pub loop-values-preserved : goal.loop-values-preserved
loop-values-preserved c =
    let f = first_is (tokens c.loop-values.rest.now) (tokens c.in-Some.after.now) (value_view c.in-Some.value) (sym (rw c.in-Some.is at c.in_ok-next_value.ensures)) in
    rw (c.in_ok-push-in-Some.ensures.items, map-append)
    (at_comma (map value_view c.loop-values.values.items) _ _ _ _ _ _ f (rw c.in-Some-Mark-default.field-0-0-is at c.in-Some-Mark-default.ensures) c.if-mark-ne44.false c.loop-values.invariant)
