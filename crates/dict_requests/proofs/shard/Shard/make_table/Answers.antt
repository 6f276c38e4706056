use Rattle.std.proofs.Common.{◌≡◌, ℕ, subst, arith}
use Rattle.dict_model.specs.Nodes.{shard_of}
use Rattle.dict_requests.specs.Changes.{MayChange}
use Rattle.dict_requests.proofs.shard.Shard.make_table.Goals as goal

pub returns-clause-crash : goal.returns-clause-crash
returns-clause-crash g c =
    let same : shard_of c.args.self.now.number ≡ c.args.self.now.number = let small = c.requires.number in omega arith in
    λ after. subst (λ (shard : ℕ). MayChange shard after (g.H.HeapSeat.view c.args.seat.now) (g.H.HeapSeat.view c.have_table.new.seat)) same
    (c.have_table.ensures.crash after)
