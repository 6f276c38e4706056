use Rattle.dict_requests.proofs.QuietLemmas.{follows}
use Rattle.dict_requests.proofs.walk.follow.Goals as goal

pub returns-clause-ok : goal.returns-clause-ok
returns-clause-ok g c =
    let view = g.H.HeapSeat.view in
    follows c.args.link c.in_ok-word.word (view c.args.seat.now) (view c.load.new.self) (view c.write_back.new.self) c.requires
    c.in_ok-word.ensures.ok c.load.ensures.unchanged c.in_ok-write_back.ensures.ok c.write_back.ensures.unchanged
