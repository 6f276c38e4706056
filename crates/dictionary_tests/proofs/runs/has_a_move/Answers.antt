use Rattle.std.proofs.Common.{◌≡◌, false, take, List, subst, sym}
use Rattle.dict_model.specs.Requests.{Request}
use Rattle.run_model.specs.Needs.{has_move}
use Rattle.worker_run.specs.Said.{requests_of}
use Rattle.worker_run.proofs.RoomLemmas.{requests_next}
use Rattle.dictionary_tests.proofs.MoveLemmas.{none_more}
use Rattle.dictionary_tests.proofs.runs.has_a_move.Goals as goal

pub loop-request-preserved : goal.loop-request-preserved
loop-request-preserved c =
    let lines = c.args.requests.now in
    let qs = requests_of (take c.loop-request.request-index lines) in
    let line = c.request-item.result in
    let next = requests_next lines c.loop-request.request-index line c.loop-request-test.true c.request-item.is in
    subst (λ (rs : List Request). has_move rs ≡ false) (sym next) (none_more qs line c.in_default.not-Move c.loop-request.invariant)
