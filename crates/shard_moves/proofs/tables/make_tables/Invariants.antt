use Rattle.shard_moves.proofs.TableLemmas.{HasMade}
use Rattle.shard_moves.proofs.tables.make_tables.Given as goal

abbrev pub invariant-loop-shard : goal.invariant-loop-shard
invariant-loop-shard g l =
    HasMade g.H.HeapSeat.view g.H.HeapSeat.keeps g.H.HeapSeat.has_none l.fn.wanted l.initial.tables l.tables l.shard l.initial.seat l.seat
