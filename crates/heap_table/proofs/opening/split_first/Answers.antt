use Rattle.std.proofs.Common.{ap, sym, ◌∙◌, arith}
use Rattle.heap_table.specs.AtTable.{SharedView}
use Rattle.heap_table.specs.SeatViews.{first_view, other_views}
use Rattle.heap_table.proofs.DealLemmas.{dealt}
use Rattle.heap_table.proofs.OpeningLemmas.{both_parts}
use Rattle.heap_table.proofs.opening.split_first.Goals as goal

pub split_seat-requires : goal.split_seat-requires
split_seat-requires c = let seat = c.args.seat.now in (
  c.requires.table ∙ sym (ap (λ (s : SharedView). s.table) c.shared.view_is),
  (let i = c.shared.invariant in omega (arith, i)),
  dealt c.shared.inside.table.shared.key seat.id seat.me.0 (other_views seat.me.0) (first_view seat.me.0) (both_parts seat.me.0),
)
