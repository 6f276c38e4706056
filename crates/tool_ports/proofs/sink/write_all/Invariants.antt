use Rattle.std.proofs.Common.{◌≡◌, [], length}
use Rattle.tool_ports.proofs.Written.{Written}
use Rattle.tool_ports.proofs.sink.write_all.Given as goal

abbrev pub invariant-loop-rest : goal.invariant-loop-rest
invariant-loop-rest g l = record {
  written : Written l.bytes l.rest (g.S.Sink.taken l.initial.sink) (g.S.Sink.taken l.sink);
  faults : g.S.Sink.faults l.sink ≡ g.S.Sink.faults l.initial.sink;
  untouched : l.bytes ≡ [] → l.sink ≡ l.initial.sink;
}

abbrev pub decreases-loop-rest : goal.decreases-loop-rest
decreases-loop-rest g l = length l.rest
