use Rattle.std.proofs.Common.{◌≡◌, ℕ, arith, subst}
use Rattle.std.proofs.Math.Nat.{mod-lt}
use Rattle.heap_seat.specs.declared.fault.AllocFault.{AllocFault}
use Rattle.heap_seat.specs.declared.fault.AllocFault.TheVariants.{Full}
use Rattle.heap_seat.specs.declared.fault.Looks.{Looks}
use Rattle.heap_seat.specs.View.{View}
use Rattle.block_heap.specs.Laws.{seat_law}
use Rattle.block_heap.specs.SeqState.{seat_of}
use Rattle.dict_model.specs.Shards.{Map}
use Rattle.dict_requests.specs.Maps.{GivesMap}
use Rattle.dict_requests.specs.Puts.{PutAnswers}
use Rattle.dict_requests.proofs.OthersLemmas.{shards_on}
use Rattle.dictionary_tests.proofs.standing.Standing.put.Goals as goal

-- a put that finds no room leaves the map as before
full_gives : (bytes shard : ℕ) (fault : AllocFault) (looks : Looks) (v w : View) → fault ≡ Full looks → PutAnswers bytes shard fault v w
    → (map : Map) → GivesMap v shard map → GivesMap w shard map
full_gives bytes shard fault looks v w is answers = (subst (λ (f : AllocFault). PutAnswers bytes shard f v w) is answers).1

pub put-requires-clause-shard : goal.put-requires-clause-shard
put-requires-clause-shard g c = (c.self.invariant c.in_default.is).each _ (mod-lt c.args.key (omega arith))

pub invariant_of-self : goal.invariant_of-self
invariant_of-self g c = λ running.
    shards_on (seat_of c.self.inside.heap) (seat_of c.put.new.seat) _ _ (seat_law c.self.inside.heap)
    (mod-lt c.args.key (omega arith)) c.put.ensures.crash _ (c.self.invariant running) c.in-Ok.ensures.ok

pub invariant_of-self-in-Err-Full : goal.invariant_of-self-in-Err-Full
invariant_of-self-in-Err-Full g c = λ running.
    shards_on (seat_of c.self.inside.heap) (seat_of c.put.new.seat) _ _ (seat_law c.self.inside.heap)
    (mod-lt c.args.key (omega arith)) c.put.ensures.crash (λ map. map) (c.self.invariant running)
    (record { gives = full_gives _ _ c.in-Err-Full.field-0 c.in-Err-Full.looks _ _ c.in-Err-Full.field-0-is c.in-Err-Full.ensures.cause })
