use Rattle.std.specs.Io.KnownBytes.{Keeps}
use Rattle.file_ports.proofs.output_sink.write_retrying.Given as goal

abbrev pub invariant-loop : goal.invariant-loop
invariant-loop g l = record {
  kept : Keeps (g.W.Write.contents l.initial.writer) (g.W.Write.contents l.writer);
}
