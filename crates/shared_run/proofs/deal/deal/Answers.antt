use Rattle.std.proofs.Common.{◌≡◌, [], ◌∷◌, length, length-append, slice_index, refl, subst, sym, ap, ◌∙◌, arith}
use Rattle.std.proofs.lemmas.List.Elements.{All-push, All-same}
use Rattle.heap_table.specs.Rule.{setup_for}
use Rattle.run_model.specs.Workers.{worker_requests}
use Rattle.run_model.specs.Working.{HaveRoom}
use Rattle.tool_ports.specs.Chances.{unasked, by_chance}
use Rattle.worker_run.specs.Said.{requests_of}
use Rattle.shared_run.specs.Dealing.{AreFresh}
use Rattle.worker_parts.specs.Begun.{IsOpenedFor}
use Rattle.worker_parts.specs.Jobs.{IsJobOf}
use Rattle.shared_run.proofs.DealLemmas.{fresh_last, fresh_rest, rooms_long, turn_push}
use Rattle.shared_run.proofs.DealtLemmas.{given_none, given_more}
use Rattle.shared_run.proofs.deal.deal.Goals as goal

pub loop-seat-preserved : goal.loop-seat-preserved
loop-seat-preserved g c =
    let shared = c.args._shared.now in
    let qs = requests_of c.args.requests.now in
    let all = c.loop-seat.seats.items in
    let rest = c.pop.new.self.items in
    let seat = c.in-Some.seat in
    let was = c.loop-seat.invariant in
    let workers = c.len-workers.result in
    let split = c.in-Some.ensures.items in
    let last = fresh_last shared workers all rest seat split was.fresh in
    let number : c.len.result ≡ length rest = omega arith in
    let fewer = ap length split ∙ length-append rest (seat ∷ []) in
    let more = ap length c.push_reserved.ensures.items ∙ length-append c.loop-seat.jobs.items _ in
    let count = was.count in
    let image = slice_index (setup_for shared.opening).opened in
    let rooms = c.in_ok-rooms.ensures image c.requires.maps c.requires.read c.requires.longest in
    let opened = sym (ap (λ k. slice_index k.opened) last.0.setup) in
    record {
      fresh = fresh_rest shared workers all rest seat split was.fresh;
      jobs = All-same (IsJobOf shared qs) c.push_reserved.new.self.items _ c.push_reserved.ensures.items
          (All-push (IsJobOf shared qs) c.loop-seat.jobs.items _ was.jobs (record {
            below = omega arith;
            seat = last.0;
            fresh = subst (λ n. IsOpenedFor shared.opening workers n seat.view) (sym number) last.1;
            rooms = subst (λ i. HaveRoom i qs (worker_requests workers c.len.result qs) c.in_ok-rooms.rooms.items) opened rooms;
            empty = c.in_ok-replies.ensures.items;
            reserved = (let long = rooms_long image qs (worker_requests workers c.len.result qs) c.in_ok-rooms.rooms.items rooms in
                let room = c.in_ok-replies.ensures.capacity in omega arith);
          }));
      turns = turn_push (λ job. job.worker) workers c.loop-seat.jobs.items c.push_reserved.new.self.items _ c.push_reserved.ensures.items
          was.turns refl (omega arith);
      count = omega arith;
      workers = was.workers;
      room = c.push_reserved.ensures.capacity ∙ was.room;
      comes = by_chance _ _ _ _ was.comes c.chance.ensures;
      given = given_more g.C.Chances.chance_gives c.args.chances.now c.loop-seat.chances c.chance.new.self c.loop-seat.jobs.items
          c.push_reserved.new.self.items _ c.push_reserved.ensures.items was.given c.chance.ensures;
    }

pub returns-in_err-jobs-clause-chances : goal.returns-in_err-jobs-clause-chances
returns-in_err-jobs-clause-chances g c = unasked

pub loop-seat-init : goal.loop-seat-init
loop-seat-init g c =
    let none = ap length c.in_ok-jobs.ensures.items in let workers : c.len-workers.result ≡ length c.args.seats.items = omega arith in record {
      fresh = subst (λ n. AreFresh c.args._shared.now n c.args.seats.items) (sym workers) c.requires.fresh;
      jobs = λ k d less. absurd (let n = none in omega arith);
      turns = record { each = λ i any less. absurd (let n = none in omega arith) };
      count = (let n = none in let l = workers in omega arith);
      workers = workers;
      room = (let k = c.in_ok-jobs.ensures.exact in let l = c.in_ok-jobs.ensures.capacity in omega arith);
      comes = unasked;
      given = given_none g.C.Chances.chance_gives c.args.chances.now c.in_ok-jobs.jobs.items c.in_ok-jobs.ensures.items;
    }
