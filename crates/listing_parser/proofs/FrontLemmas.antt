-- A cut of bytes at the length of their front gives the front and the rest, as `splitting` cuts them.
use Rattle.std.proofs.lemmas.List.Sums.{prefix_len-le-length}
use Rattle.ascii_scan.proofs.TokenLemmas.{front_is, rest_is}

pub ruleset fronts = (front_is, rest_is, prefix_len-le-length)
