use Rattle.std.proofs.Common.{◌≤◌, vec_len}
use Rattle.std.specs.Io.KnownBytes.{Consumes}
use Rattle.file_ports.proofs.file_store.read_pieces.Given as goal

abbrev pub invariant-loop : goal.invariant-loop
invariant-loop g l = record {
  bound : vec_len l.image ≤ l.most;
  read : Consumes (g.F.Read.remaining l.initial.file) (g.F.Read.remaining l.file) l.image.items;
}
