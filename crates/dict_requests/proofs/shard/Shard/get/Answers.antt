use Rattle.dict_model.specs.Nodes.{shard_of}
use Rattle.dict_requests.proofs.GrownLemmas.{grown_keeps, gives_grown}
use Rattle.dict_requests.proofs.ExactCallLemmas.{all_quiet}
use Rattle.dict_requests.proofs.ChangeLemmas.{change_none}
use Rattle.dict_requests.proofs.shard.Shard.get.Goals as goal

pub returns-clause-maps : goal.returns-clause-maps
returns-clause-maps g c =
    let view = g.H.HeapSeat.view in
    let v = view c.args.seat.now in
    let w = view c.find_value.new.seat in
    record { gives = λ map gives. gives_grown v w (grown_keeps v w c.find_value.ensures.unchanged) (shard_of c.args.key) map gives }

pub returns-clause-crash : goal.returns-clause-crash
returns-clause-crash g c =
    let view = g.H.HeapSeat.view in
    let v = view c.args.seat.now in
    let w = view c.find_value.new.seat in
    change_none (shard_of c.args.key) (λ map. map) v w (grown_keeps v w c.find_value.ensures.unchanged) c.find_value.ensures.kinds
    (g.met.H.HeapSeat.seat c.find_value.new.seat) c.requires.shard.only

pub returns-clause-exact : goal.returns-clause-exact
returns-clause-exact g c =
    let view = g.H.HeapSeat.view in
    let v = view c.args.seat.now in
    let w = view c.find_value.new.seat in
    all_quiet v w (g.met.H.HeapSeat.seat c.find_value.new.seat) c.find_value.ensures.unchanged c.find_value.ensures.kinds
