use Rattle.std.proofs.Common.{◌≡◌, ℕ, List, inl, slice_index, ap, rules}
use Rattle.block_heap.specs.Laws.{seat_law, mixed_law, stored_law}
use Rattle.block_heap.specs.SeqState.{MayLeave, seat_of}
use Rattle.first_filter.proofs.Kept.{image_has}
use Rattle.first_filter.proofs.run.crash.Goals as goal

pub returns : goal.returns
returns c nodes holds =
    let s = c.args.heap in
    let image = slice_index c.result.inside.kept.items in
    let same : c.result.inside.kept.items ≡ s.parts.words.durable = search rules in
    let left : MayLeave s image = record { others = λ word state transient. inl (ap (λ (l : List ℕ). slice_index l word) same) } in
    image_has (seat_of s) image nodes (seat_law s) (mixed_law s image left) (c.finish.ensures.named image left) (stored_law s image left) holds
