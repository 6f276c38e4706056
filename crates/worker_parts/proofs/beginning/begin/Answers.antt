use Rattle.std.proofs.Common.{◌∙◌, [], slice_index, sym, subst}
use Rattle.core_model.specs.View.{Setup}
use Rattle.dict_requests.specs.Reached.{ReachesAllHeld}
use Rattle.run_model.specs.Needs.{is_target_of}
use Rattle.run_model.specs.Workers.{worker_requests}
use Rattle.run_model.specs.Working.{HaveRoom}
use Rattle.seat_model.specs.CacheState.{heap_view}
use Rattle.shard_moves.specs.Tables.{is_flagged}
use Rattle.worker_run.specs.Said.{requests_of}
use Rattle.worker_parts.specs.Begun.{IsBegun}
use Rattle.worker_parts.specs.Jobs.{image_of}
use Rattle.worker_parts.proofs.BeginLemmas.{begun_ended, ok_then, first_answered, first_exact, first_shard, new_first}
use Rattle.worker_parts.proofs.beginning.begin.Goals as goal

pub make_tables-requires : goal.make_tables-requires
make_tables-requires g c = record {
  shards = λ shard small flagged.
      let job = c.args.job in
      let is = c.requires.job in
      let qs = requests_of c.args._requests.now in
      first_shard c.args.shared.now job.worker.workers job.worker.number c.new-seat.result.state
      (new_first c.args.shared.now job.worker.workers job.worker.number job.seat c.new-seat.result.state is.below is.seat is.fresh
      c.new-seat.ensures.state)
      qs shard small (sym (c.own_targets-own.ensures qs c.requires.targets shard small) ∙ flagged);
}

pub returns-clause-begun : goal.returns-clause-begun
returns-clause-begun g c =
    let job = c.args.job in
    let is = c.requires.job in
    let w = job.worker in
    let qs = requests_of c.args._requests.now in
    let shared = c.args.shared.now in
    let s = c.new-seat.result in
    let t = c.make_tables.new.seat in
    let own = c.own_targets-own.result in
    let tables = c.make_tables.new.tables in
    let e = c.make_tables.ensures in
    let first = new_first shared w.workers w.number job.seat s.state is.below is.seat is.fresh c.new-seat.ensures.state in
    let image = image_of shared in
    let made = begun_ended own (is_target_of w.workers w.number qs)
    (c.own_targets-own.ensures qs c.requires.targets) g.C.Chance.draw_gives image tables s t first.unused.nothing.tickets.2
    (e.answered image [] (first_answered shared w.workers w.number s.state first)) e.most e.calls e.roots e.kept c.make_tables.result e.told e.taken
    (ok_then c.make_tables.result (ReachesAllHeld (heap_view s.state)) (ReachesAllHeld (heap_view t.state))
    (first_exact shared w.workers w.number s.state first) e.exact) e.runs e.cause in
    record {
      first = s.state;
      is_first = first;
      part = subst (λ b. IsBegun image (is_target_of w.workers w.number qs) (is_flagged tables) b s.state t.state)
          (sym c.is_err-stopped.ensures.value) made;
      rooms = subst (λ (k : Setup). HaveRoom (slice_index k.opened) qs (worker_requests w.workers w.number qs) job.rooms.items) is.seat.setup is.rooms;
      empty = is.empty;
      reserved = is.reserved;
    }
