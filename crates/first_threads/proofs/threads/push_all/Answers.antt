use Rattle.std.proofs.Common.{◌≢◌, Contains}
use Rattle.heap_model.specs.declared.block.Block.{Block}
use Rattle.first_threads.proofs.Chains.{each_of, held_beside}
use Rattle.first_threads.proofs.threads.push_all.Goals as goal

pub returns-clause-others : goal.returns-clause-others
returns-clause-others g c =
    let view = g.H.HeapSeat.view in
    let last = c.in_ok-last.last in
    let first = c.in_ok-first.ensures.adds in
    let second = c.in_ok-second.ensures.adds in
    let large = c.in_ok-large.ensures.adds in
    let v = view c.push-3.new.seat in
    let w = view c.push-4.new.seat in
    let beside : (a : Block) → Contains v.held a → Contains w.held a × (a ≢ last) = λ a held. held_beside a last v w c.in_ok-last.ensures.adds held in
    each_of (λ b. Contains w.held b × (b ≢ last)) c.in_ok-first.first c.in_ok-second.second c.in_ok-large.large
    (beside c.in_ok-first.first (large.keeps _ (second.keeps _ first.has)))
    (beside c.in_ok-second.second (large.keeps _ second.has))
    (beside c.in_ok-large.large large.has)
