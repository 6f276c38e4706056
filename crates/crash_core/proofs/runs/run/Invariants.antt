use Rattle.std.proofs.Common.{◌≡◌, ◌≤◌, take, length, vec_len, vec_capacity}
use Rattle.crash_core.proofs.RunSteps.{IsRunning}
use Rattle.crash_core.proofs.runs.run.Given as goal

abbrev pub invariant-loop-seat : goal.invariant-loop-seat
invariant-loop-seat l = record {
  running : IsRunning l.initial.core l.core (take l.seat-index l.events) l.answers.items;
  count : vec_len l.answers ≡ l.seat-index;
  room : length l.events ≤ vec_capacity l.answers;
}
