use Rattle.std.proofs.Common.{arith}
use Rattle.dict_requests.proofs.GrownLemmas.{stays_held}
use Rattle.dict_requests.proofs.RemovalLemmas.{found_held, takes}
use Rattle.dict_requests.proofs.removal.read_place.Goals as goal

pub follow-requires : goal.follow-requires
follow-requires g c =
    let room = c.requires.room in
    (found_held (g.H.HeapSeat.view c.args.seat.now) c.args.key c.args.place c.requires, omega arith)

pub write_back-requires : goal.write_back-requires
write_back-requires g c =
    let view = g.H.HeapSeat.view in
    let room = c.requires.room in (
      stays_held (view c.args.seat.now) (view c.follow.new.seat) c.follow.ensures.quiet.unchanged.held c.args.place.node
          (found_held (view c.args.seat.now) c.args.key c.args.place c.requires),
      omega arith,
    )

pub returns-clause-ok : goal.returns-clause-ok
returns-clause-ok g c =
    let view = g.H.HeapSeat.view in
    takes (view c.args.seat.now) (view c.follow.new.seat) (view c.write_back.new.self) c.args.key c.in_ok-next.next c.args.place
    (g.met.H.HeapSeat.seat c.args.seat.now) c.requires
    c.follow.ensures.quiet.unchanged c.in_ok-next.ensures.ok c.write_back.ensures.unchanged c.in_ok-write_back.ensures.ok
