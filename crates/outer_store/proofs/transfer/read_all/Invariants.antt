use Rattle.std.proofs.Common.{◌≤◌, vec_len}
use Rattle.std.specs.Io.KnownBytes.{Consumes}
use Rattle.ascii_scan.specs.Lines.{text_limit}
use Rattle.outer_store.proofs.transfer.read_all.Given as goal

abbrev pub invariant-loop-turn : goal.invariant-loop-turn
invariant-loop-turn g l = record {
  taken : l._turn ≤ vec_len l.bytes;
  small : vec_len l.bytes ≤ text_limit;
  read : Consumes (g.R.Read.remaining l.initial.reader) (g.R.Read.remaining l.reader) l.bytes.items;
}
