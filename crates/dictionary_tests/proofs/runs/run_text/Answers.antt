use Rattle.std.proofs.Common.{subst, sym}
use Rattle.worker_run.specs.Said.{requests_of, ValuesAreShort}
use Rattle.worker_run.proofs.SaidLemmas.{lines_short}
use Rattle.dictionary_tests.proofs.runs.run_text.Goals as goal

pub run_requests-requires-clause-short : goal.run_requests-requires-clause-short
run_requests-requires-clause-short g c κs within = subst (λ lines. ValuesAreShort (requests_of lines)) (sym c.deref-2.ensures.value)
    (lines_short _ c.in_ok-requests.requests.items c.in_ok-requests.ensures.ok)
