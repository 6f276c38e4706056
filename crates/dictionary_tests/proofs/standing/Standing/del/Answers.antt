use Rattle.std.proofs.Common.{arith}
use Rattle.std.proofs.Math.Nat.{mod-lt}
use Rattle.block_heap.specs.Laws.{seat_law}
use Rattle.block_heap.specs.SeqState.{seat_of}
use Rattle.dict_requests.proofs.OthersLemmas.{shards_on}
use Rattle.dictionary_tests.proofs.standing.Standing.del.Goals as goal

pub del-answer-requires-clause-shard : goal.del-answer-requires-clause-shard
del-answer-requires-clause-shard g c = (c.self.invariant c.in_default.is).each _ (mod-lt c.args.key (omega arith))

pub invariant_of-self-in_default-answer : goal.invariant_of-self-in_default-answer
invariant_of-self-in_default-answer g c = λ running.
    shards_on (seat_of c.self.inside.heap) (seat_of c.del-answer.new.seat) _ _ (seat_law c.self.inside.heap)
    (mod-lt c.args.key (omega arith)) c.del-answer.ensures.crash _ (c.self.invariant running)
    (record { gives = c.in_default-answer.ensures.ok.gives })
