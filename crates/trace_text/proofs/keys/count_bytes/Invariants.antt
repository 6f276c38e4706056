use Rattle.std.proofs.Common.{◌≡◌, ◌≤◌, ◌*◌, ◌^◌, take}
use Rattle.std.specs.Prelude.{map}
use Rattle.trace_text.specs.Keys.{bytes_of}
use Rattle.trace_text.specs.Shown.{shown}
use Rattle.trace_text.proofs.keys.count_bytes.Given as goal

abbrev pub invariant-loop-value : goal.invariant-loop-value
invariant-loop-value l = record {
  so_far : l.bytes ≡ bytes_of (map shown (take l.value-index l.entries));
  few : l.bytes ≤ l.value-index * 2 ^ 64;
}
