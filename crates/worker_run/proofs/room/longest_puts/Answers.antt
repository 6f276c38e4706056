use Rattle.std.proofs.Common.{◌++◌, ◌∷◌, [], length, take, subst, sym}
use Rattle.dict_model.specs.Requests.{put}
use Rattle.worker_run.specs.Rooms.{Raises, AreLongest}
use Rattle.worker_run.specs.Said.{Line, request_of, requests_of, IsShort}
use Rattle.worker_run.proofs.RoomLemmas.{requests_next, request_among, not_put, longest_next, longest_same}
use Rattle.worker_run.proofs.room.longest_puts.Goals as goal
use Rattle.worker_run.proofs.room.longest_puts.Goals.{in-Put+in_ok-keep_longest, in_default}

pub loop-request-preserved : goal.loop-request-preserved
loop-request-preserved c =
    let lines = c.args.requests.now in
    let i = c.loop-request.request-index in
    let before = requests_of (take i lines) in
    let next = requests_next lines i c.request-item.result c.loop-request-test.true c.request-item.is in
    subst (λ qs. AreLongest qs c.match-request.longest) (sym next)
    (elim c.match-request.branch as (λ _. AreLongest (before ++ (request_of c.request-item.result ∷ [])) c.match-request.longest) [
      | in-Put+in_ok-keep_longest w ↦
          let short = subst (λ (line : Line). IsShort (request_of line)) w.in-Put.is
          (c.requires.each (request_of c.request-item.result) (request_among lines i c.request-item.result c.loop-request-test.true
          c.request-item.is)) in
          subst (λ (line : Line). AreLongest (before ++ (request_of line ∷ [])) c.match-request.longest) (sym w.in-Put.is)
          (subst (λ m. AreLongest (before ++ (put w.in-Put.key w.in-Put.value ∷ [])) m) (sym w.longest-is)
          (longest_next before c.loop-request.longest w.keep_longest.new.longest w.in-Put.key w.in-Put.value c.loop-request.invariant short
          (subst (λ bytes. Raises w.in-Put.key (length bytes) c.loop-request.longest w.keep_longest.new.longest)
          w.as_slice.ensures w.in_ok-keep_longest.ensures)))
      | in_default w ↦ subst (λ m. AreLongest (before ++ (request_of c.request-item.result ∷ [])) m) (sym w.longest-is)
          (longest_same before (request_of c.request-item.result) c.loop-request.longest c.loop-request.invariant
          (not_put c.request-item.result w.in_default.not-Put))
    ])
