use Rattle.first_threads.proofs.chain.pop.Goals as goal

pub load-requires : goal.load-requires
load-requires g c = (c.requires.held, ((g.met.H.HeapSeat.seat c.args.seat.now).placed c.args.first c.requires.held).some)
