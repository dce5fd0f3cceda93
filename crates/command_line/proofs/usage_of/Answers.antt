use Rattle.std.proofs.lemmas.Option.{MatchOption-at_none, MatchOption-at_some}
use Rattle.command_line.proofs.Usage.{refused_asks, taken_asks}
use Rattle.command_line.proofs.usage_of.Goals as goal

pub returns-in-Some : goal.returns-in-Some
returns-in-Some c = record {
  exact = taken_asks c.in_ok-texts.texts.items c.as_slice.result.now _ c.as_slice.ensures.value c.in_ok-texts.ensures.same c.in_ok-texts.ensures.text
      c.in-Some.matches (MatchOption-at_some _ _ c.in-Some.matches c.in-Some.is c.in_ok-matches.ensures)
      c.in_ok-command_of-in-Some.field-0 c.in_ok-command_of-in-Some.ensures;
}

pub returns : goal.returns
returns c = record {
  exact = refused_asks c.in_ok-texts.texts.items c.as_slice.result.now _ c.as_slice.ensures.value c.in_ok-texts.ensures.same c.in_ok-texts.ensures.text
      (MatchOption-at_none _ _ c.in-None.is c.in_ok-matches.ensures);
}
