use Rattle.std.proofs.Common.{◌∙◌}
use Rattle.std.proofs.lemmas.Result.{on_ok_weaker}
use Rattle.heap_seat.specs.View.{word_of}
use Rattle.heap_seat.proofs.CallerLemmas.{keeps_own_then}
use Rattle.heap_seat.proofs.RowLemmas.{row_then, row_small, row_large}
use Rattle.dict_model.specs.Nodes.{shard_of}
use Rattle.dict_model.specs.Requests.{without_key}
use Rattle.dict_requests.specs.Trails.{IsDurableAt}
use Rattle.dict_requests.proofs.GrownLemmas.{kind_kept, grown_keeps, gives_grown, only_grown}
use Rattle.dict_requests.proofs.ExactCallLemmas.{all_quiet, all_removed}
use Rattle.dict_requests.proofs.ChangeLemmas.{change_none}
use Rattle.dict_requests.proofs.RemovalLemmas.{taken_settled, left_stored, left_freed, node_still}
use Rattle.dict_requests.proofs.removal.remove.Goals as goal

pub returns-in_err-next-clause-crash : goal.returns-in_err-next-clause-crash
returns-in_err-next-clause-crash g c =
    let view = g.H.HeapSeat.view in
    let v = view c.args.seat.now in
    let w = view c.read_place.new.seat in
    change_none (shard_of c.args.key) (λ map. without_key map c.args.key) v w
    (grown_keeps v w c.read_place.ensures.quiet.unchanged) c.read_place.ensures.quiet.calls.goes_on.kinds
    (g.met.H.HeapSeat.seat c.read_place.new.seat) c.requires.shard.only

pub returns-in_err-fence-clause-crash : goal.returns-in_err-fence-clause-crash
returns-in_err-fence-clause-crash g c =
    let view = g.H.HeapSeat.view in
    let v = view c.args.seat.now in
    let w = view c.fence.new.self in
    change_none (shard_of c.args.key) (λ map. without_key map c.args.key) v w
    (grown_keeps v w (keeps_own_then v (view c.read_place.new.seat) w c.read_place.ensures.quiet.unchanged c.fence.ensures.unchanged))
    (c.fence.ensures.counted.goes_on.kinds ∙ c.read_place.ensures.quiet.calls.goes_on.kinds)
    (g.met.H.HeapSeat.seat c.fence.new.self) c.requires.shard.only

pub returns-in_err-persist-clause-crash : goal.returns-in_err-persist-clause-crash
returns-in_err-persist-clause-crash g c =
    let view = g.H.HeapSeat.view in
    let v = view c.args.seat.now in
    let t = view c.read_place.new.seat in
    let u = view c.fence.new.self in
    let seat = g.met.H.HeapSeat.seat c.fence.new.self in
    let taken = taken_settled t u c.args.key c.in_ok-next.next c.args.place (g.met.H.HeapSeat.seat c.read_place.new.seat) c.fence.ensures.unchanged
    (record { each = c.in_ok-fence.ensures.ok.durable }) c.in_ok-next.ensures.ok.taken in
    let kinds = c.fence.ensures.counted.goes_on.kinds ∙ c.read_place.ensures.quiet.calls.goes_on.kinds in
    let grown = grown_keeps v u (keeps_own_then v t u c.read_place.ensures.quiet.unchanged c.fence.ensures.unchanged) in
    left_stored v u c.args.key c.args.place c.in_ok-next.next seat c.requires.shard grown kinds taken
    (view c.persist.new.heap) c.persist.ensures.crash c.persist.ensures.calls.goes_on.kinds

pub free-requires : goal.free-requires
free-requires g c =
    let view = g.H.HeapSeat.view in
    let v = view c.args.seat.now in
    let t = view c.read_place.new.seat in
    let u = view c.fence.new.self in
    let seat = g.met.H.HeapSeat.seat c.fence.new.self in
    let taken = taken_settled t u c.args.key c.in_ok-next.next c.args.place (g.met.H.HeapSeat.seat c.read_place.new.seat) c.fence.ensures.unchanged
    (record { each = c.in_ok-fence.ensures.ok.durable }) c.in_ok-next.ensures.ok.taken in
    let kinds = c.fence.ensures.counted.goes_on.kinds ∙ c.read_place.ensures.quiet.calls.goes_on.kinds in
    let grown = grown_keeps v u (keeps_own_then v t u c.read_place.ensures.quiet.unchanged c.fence.ensures.unchanged) in
    node_still v u c.args.key c.args.place c.in_ok-next.next seat c.requires.shard grown kinds taken
    (view c.persist.new.heap) c.persist.ensures.crash c.persist.ensures.calls.goes_on.kinds

pub returns-clause-ok : goal.returns-clause-ok
returns-clause-ok g c =
    let view = g.H.HeapSeat.view in
    let v = view c.args.seat.now in
    let t = view c.read_place.new.seat in
    let u = view c.fence.new.self in
    let w = view c.persist.new.heap in
    let seat = g.met.H.HeapSeat.seat c.fence.new.self in
    let taken = taken_settled t u c.args.key c.in_ok-next.next c.args.place (g.met.H.HeapSeat.seat c.read_place.new.seat) c.fence.ensures.unchanged
    (record { each = c.in_ok-fence.ensures.ok.durable }) c.in_ok-next.ensures.ok.taken in
    let kinds = c.fence.ensures.counted.goes_on.kinds ∙ c.read_place.ensures.quiet.calls.goes_on.kinds in
    let grown = grown_keeps v u (keeps_own_then v t u c.read_place.ensures.quiet.unchanged c.fence.ensures.unchanged) in
    let settled : IsDurableAt w (word_of c.args.place.link) c.in_ok-next.next = record {
      seen = c.in_ok-persist.ensures.ok;
      left = c.in_ok-persist.ensures.durable;
    } in
    on_ok_weaker c.free.result
    (λ _. (left_freed v u c.args.key c.args.place c.in_ok-next.next seat c.requires.shard grown kinds taken w c.persist.ensures.crash
    c.persist.ensures.calls.goes_on.kinds (view c.free.new.self)
    (g.met.H.HeapSeat.seat c.persist.new.heap) settled c.free.ensures.others c.free.ensures.counted.goes_on.kinds).0) c.free.ensures.ok

pub returns-clause-crash : goal.returns-clause-crash
returns-clause-crash g c =
    let view = g.H.HeapSeat.view in
    let v = view c.args.seat.now in
    let t = view c.read_place.new.seat in
    let u = view c.fence.new.self in
    let w = view c.persist.new.heap in
    let seat = g.met.H.HeapSeat.seat c.fence.new.self in
    let taken = taken_settled t u c.args.key c.in_ok-next.next c.args.place (g.met.H.HeapSeat.seat c.read_place.new.seat) c.fence.ensures.unchanged
    (record { each = c.in_ok-fence.ensures.ok.durable }) c.in_ok-next.ensures.ok.taken in
    let kinds = c.fence.ensures.counted.goes_on.kinds ∙ c.read_place.ensures.quiet.calls.goes_on.kinds in
    let grown = grown_keeps v u (keeps_own_then v t u c.read_place.ensures.quiet.unchanged c.fence.ensures.unchanged) in
    let settled : IsDurableAt w (word_of c.args.place.link) c.in_ok-next.next = record {
      seen = c.in_ok-persist.ensures.ok;
      left = c.in_ok-persist.ensures.durable;
    } in
    (left_freed v u c.args.key c.args.place c.in_ok-next.next seat c.requires.shard grown kinds taken w c.persist.ensures.crash
    c.persist.ensures.calls.goes_on.kinds (view c.free.new.self)
    (g.met.H.HeapSeat.seat c.persist.new.heap) settled c.free.ensures.others c.free.ensures.counted.goes_on.kinds).1

pub returns-clause-calls : goal.returns-clause-calls
returns-clause-calls g c =
    let view = g.H.HeapSeat.view in
    let v = view c.args.seat.now in
    let t = view c.read_place.new.seat in
    let u = view c.fence.new.self in
    let w = view c.persist.new.heap in
    let x = view c.free.new.self in
    let a = row_then 3 0 0 1 0 0 v t u c.read_place.ensures.quiet.calls (row_small t u c.fence.ensures.counted) in
    let b = row_then 4 0 0 3 0 0 v u w a c.persist.ensures.calls in
    row_then 7 0 0 0 1 0 v w x b (row_large 0 w x c.free.ensures.counted)

pub returns-clause-exact : goal.returns-clause-exact
returns-clause-exact g c =
    let view = g.H.HeapSeat.view in
    let v = view c.args.seat.now in
    let t = view c.read_place.new.seat in
    let u = view c.fence.new.self in
    let w = view c.persist.new.heap in
    let x = view c.free.new.self in
    let seat = g.met.H.HeapSeat.seat c.fence.new.self in
    let seat_w = g.met.H.HeapSeat.seat c.persist.new.heap in
    let taken = taken_settled t u c.args.key c.in_ok-next.next c.args.place (g.met.H.HeapSeat.seat c.read_place.new.seat) c.fence.ensures.unchanged
    (record { each = c.in_ok-fence.ensures.ok.durable }) c.in_ok-next.ensures.ok.taken in
    let keeps = keeps_own_then v t u c.read_place.ensures.quiet.unchanged c.fence.ensures.unchanged in
    let kinds = c.fence.ensures.counted.goes_on.kinds ∙ c.read_place.ensures.quiet.calls.goes_on.kinds in
    let grown = grown_keeps v u keeps in
    let settled : IsDurableAt w (word_of c.args.place.link) c.in_ok-next.next = record {
      seen = c.in_ok-persist.ensures.ok;
      left = c.in_ok-persist.ensures.durable;
    } in
    let only_x = (left_freed v u c.args.key c.args.place c.in_ok-next.next seat c.requires.shard grown kinds taken w c.persist.ensures.crash
    c.persist.ensures.calls.goes_on.kinds x seat_w settled c.free.ensures.others c.free.ensures.counted.goes_on.kinds).1.only in
    on_ok_weaker c.free.result
    (λ frees all. all_removed u w seat seat_w c.args.key c.args.place c.in_ok-next.next taken c.requires.shard.map
    (gives_grown v u grown (shard_of c.args.key) c.requires.shard.map c.requires.shard.gives) (only_grown v u grown kinds seat c.requires.shard.only)
    (kind_kept v u (shard_of c.args.key) kinds ∙ c.requires.shard.kind_is) c.persist.ensures.calls.goes_on.kinds
    c.persist.ensures.crash settled x c.free.ensures.others c.free.ensures.counted.goes_on.kinds frees.gone only_x
    (all_quiet v u seat keeps kinds all)) c.free.ensures.ok
