use Rattle.std.proofs.Common.{take}
use Rattle.worker_run.specs.Rooms.{AreLongest}
use Rattle.worker_run.specs.Said.{requests_of}
use Rattle.worker_run.proofs.room.longest_puts.Given as goal

abbrev pub invariant-loop-request : goal.invariant-loop-request
invariant-loop-request l = AreLongest (requests_of (take l.request-index l.requests)) l.longest
