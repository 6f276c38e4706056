use Rattle.std.proofs.Common.{◌≡◌, false, take}
use Rattle.run_model.specs.Needs.{has_move}
use Rattle.worker_run.specs.Said.{requests_of}
use Rattle.dictionary_tests.proofs.runs.has_a_move.Given as goal

abbrev pub invariant-loop-request : goal.invariant-loop-request
invariant-loop-request l = has_move (requests_of (take l.request-index l.requests)) ≡ false
