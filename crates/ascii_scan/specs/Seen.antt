-- The token of the specification that a token of the code stands for: its bytes without their address.
use Rattle.ascii_scan.specs.declared.words.Token.{Token as Slices}
use Rattle.ascii_scan.specs.declared.words.Token.TheVariants as of
use Rattle.ascii_scan.specs.Tokens.{Token, word, mark}

abbrev pub seen : Slices → Token
seen (of.Word bytes) = word bytes.now
seen (of.Mark byte) = mark byte
