use Rattle.std.proofs.Common.{◌≡◌, ◌<◌, ◌%◌, ◌+◌, take, ℕ, ◌++◌, ◌∷◌, [], List, true, length, refl, ap, sym, subst, ◌∙◌, arith}
use Rattle.std.proofs.lemmas.List.{length-set, take_all}
use Rattle.dict_model.specs.Links.{shards}
use Rattle.dict_model.specs.Requests.{Request}
use Rattle.run_model.specs.Needs.{is_moved_to}
use Rattle.shard_moves.specs.Tables.{is_flagged}
use Rattle.worker_run.specs.Said.{Line, request_of, requests_of}
use Rattle.worker_run.proofs.RoomLemmas.{requests_next}
use Rattle.worker_parts.proofs.TargetLemmas.{AreTargets, not_moved, targets_none, targets_next, targets_same}
use Rattle.worker_parts.proofs.targets.targets_of_moves.Goals as goal
use Rattle.worker_parts.proofs.targets.targets_of_moves.Goals.{in-Move, in_default}

pub loop-request-init : goal.loop-request-init
loop-request-init c = targets_none

pub loop-request-preserved : goal.loop-request-preserved
loop-request-preserved c =
    let lines = c.args.requests.now in
    let qs = requests_of (take c.loop-request.request-index lines) in
    let line = c.request-item.result in
    let flags = c.loop-request.targets in
    let now = c.match-request.targets in
    let next = requests_next lines c.loop-request.request-index line c.loop-request-test.true c.request-item.is in
    elim c.match-request.branch as (λ _. AreTargets (requests_of (take (c.loop-request.request-index + 1) lines)) now) [
      | in-Move w ↦
          subst (λ (rs : List Request). AreTargets rs now) (sym (next ∙ ap (λ (l : Line). qs ++ (request_of l ∷ [])) w.in-Move.is))
          (targets_next qs w.in-Move.field-0 w.in-Move.to (w.in-Move.to % 8) flags now refl (let e : w.in-Move.to % 8 < 8 = omega arith in
          e) w.targets-is
          (ap length w.targets-is ∙ length-set flags (w.in-Move.to % 8) true ∙ c.loop-request.invariant.long) c.loop-request.invariant)
      | in_default w ↦
          subst (λ (rs : List Request). AreTargets rs now) (sym next)
          (subst (AreTargets (qs ++ (request_of line ∷ []))) (sym w.targets-is)
          (targets_same qs (request_of line) flags (not_moved line w.in_default.not-Move) c.loop-request.invariant))
    ]

pub returns : goal.returns
returns c = subst (λ (ls : List Line). (shard : ℕ) → shard < shards → is_flagged c.loop-request.targets shard ≡ is_moved_to (requests_of ls) shard)
    (take_all c.loop-request.request-index c.args.requests.now (omega arith)) c.loop-request.invariant.each
