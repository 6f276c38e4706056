use Rattle.std.proofs.Common.{◌≡◌, ◌<◌, ℕ, List, false, true, All, get_or, length, subst}
use Rattle.std.specs.Prelude.{IfOk}
use Rattle.shard_moves.specs.Tables.{is_flagged}
use Rattle.worker_run.specs.Said.{requests_of}
use Rattle.worker_parts.specs.declared.beginning.Begun.{Begun}
use Rattle.run_rows.specs.Ended.{HaveEnded}
use Rattle.run_rows.specs.Rows.{AgreesWith}
use Rattle.run_rows.proofs.rows.run_over.Goals as goal

pub leave_all-requires-clause-stopped : goal.leave_all-requires-clause-stopped
leave_all-requires-clause-stopped g c =
    subst (λ (xs : List (Begun g.row.C.Denot)). (at : ℕ) × (at < length xs)
    × ((any : Begun g.row.C.Denot) → (get_or xs at any).stopped ≡ true)) c.deref.ensures.value
    (c.any_stopped.ensures.some c.if-any_stopped.true)

pub returns-then-any_stopped : goal.returns-then-any_stopped
returns-then-any_stopped g c = record {
  ended = subst (λ n. IfOk c.leave_all.result (λ ended. HaveEnded c.args.shared.now (requests_of c.args.requests.now) n ended.items))
      c.in_ok-all.ensures.count c.leave_all.ensures.ended;
}

pub exchange-requires-clause-going : goal.exchange-requires-clause-going
exchange-requires-clause-going g c κs within =
    subst (λ (xs : List (Begun g.row.C.Denot)). All (λ (one : Begun g.row.C.Denot). one.stopped ≡ false) xs) c.deref.ensures.value
    (c.any_stopped.ensures.none c.if-any_stopped.false)

pub exchange-requires-clause-tables : goal.exchange-requires-clause-tables
exchange-requires-clause-tables g c κs within =
    subst (λ (xs : List (Begun g.row.C.Denot)). All (AgreesWith {C = g.row.C.Denot} (is_flagged c.tables_of-tables.result)
    (requests_of c.args.requests.now)) xs) c.deref-2.ensures.value
    (c.tables_of-tables.ensures (requests_of c.args.requests.now))

pub returns : goal.returns
returns g c = record {
  ended = subst (λ n. IfOk c.exchange.result (λ ended. HaveEnded c.args.shared.now (requests_of c.args.requests.now) n ended.items))
      c.in_ok-all.ensures.count c.exchange.ensures.ended;
}
