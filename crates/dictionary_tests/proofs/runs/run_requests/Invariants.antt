use Rattle.std.proofs.Common.{slice_index}
use Rattle.dictionary_tests.proofs.runs.run_requests.Given as goal

abbrev pub ghost-work_off : goal.ghost-work_off
ghost-work_off g a = slice_index a.seat.now.parts.words.volatile
