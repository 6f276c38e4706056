use Rattle.std.proofs.Common.{Bool, subst}
use Rattle.dict_requests.specs.Moving.{TellsKey}
use Rattle.dict_model.specs.Requests.{without_key}
use Rattle.shard_moves.proofs.AwayLemmas.{answers_full, answers_missing, few_moves}
use Rattle.shard_moves.proofs.away.refuse.Goals as goal

pub returns-in_err-has-clause-crash : goal.returns-in_err-has-clause-crash
returns-in_err-has-clause-crash g c = c.has.ensures.crash (λ map. without_key map c.args.key)

pub returns-then-branch-clause-crash : goal.returns-then-branch-clause-crash
returns-then-branch-clause-crash g c = c.has.ensures.crash (λ map. without_key map c.args.key)

pub returns-else-branch-clause-crash : goal.returns-else-branch-clause-crash
returns-else-branch-clause-crash g c = c.has.ensures.crash (λ map. without_key map c.args.key)

pub returns-in_err-has-clause-calls : goal.returns-in_err-has-clause-calls
returns-in_err-has-clause-calls g c = λ to. few_moves c.args.key to _ _ c.has.ensures.calls

pub returns-then-branch-clause-calls : goal.returns-then-branch-clause-calls
returns-then-branch-clause-calls g c = λ to. few_moves c.args.key to _ _ c.has.ensures.calls

pub returns-else-branch-clause-calls : goal.returns-else-branch-clause-calls
returns-else-branch-clause-calls g c = λ to. few_moves c.args.key to _ _ c.has.ensures.calls

pub returns-then-branch-clause-ok : goal.returns-then-branch-clause-ok
returns-then-branch-clause-ok g c = λ to.
    let v = g.H.HeapSeat.view c.args.seat.now in
    let w = g.H.HeapSeat.view c.has.new.seat in
    answers_full c.args.key to v w (subst (λ (b : Bool). TellsKey c.args.key b v w) c.if-branch.true c.in_ok-has.ensures.ok) c.has.ensures.maps

pub returns-else-branch-clause-ok : goal.returns-else-branch-clause-ok
returns-else-branch-clause-ok g c = λ to.
    let v = g.H.HeapSeat.view c.args.seat.now in
    let w = g.H.HeapSeat.view c.has.new.seat in
    answers_missing c.args.key to v w (subst (λ (b : Bool). TellsKey c.args.key b v w) c.if-branch.false c.in_ok-has.ensures.ok) c.has.ensures.maps
