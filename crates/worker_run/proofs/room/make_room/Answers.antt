use Rattle.std.proofs.Common.{length, subst, sym, ap, arith}
use Rattle.worker_run.specs.Said.{Line, request_of}
use Rattle.run_model.specs.Working.{HasRoom}
use Rattle.worker_run.proofs.RoomLemmas.{get_room}
use Rattle.worker_run.proofs.room.make_room.Goals as goal

pub returns : goal.returns
returns c = λ image requests have are.
    let long = ap length c.from_vec-2.ensures in
    let made = c.in_ok-vec.ensures.len in
    let ok = c.in_ok-vec.field-0.ok in
    let room = c.max-room.ensures in
    let opened = c.opened_length-opened.ensures in
    let puts = c.longest_put.ensures in
    subst (λ (line : Line). HasRoom image requests (request_of line) (length c.from_vec-2.result)) (sym c.in-Get.is)
    (get_room image requests c.args.maps.now c.args.longest.now have are c.in-Get.key
    (length c.from_vec-2.result) c.index-maps-key.result c.index-maps-key.is (omega arith))
