use Rattle.std.proofs.Common.{ap, sym, ◌∙◌, arith}
use Rattle.heap_table.specs.AtTable.{SharedView}
use Rattle.heap_table.proofs.DealLemmas.{joined}
use Rattle.heap_table.proofs.closing.join.Goals as goal

pub join_seat-requires : goal.join_seat-requires
join_seat-requires c = (
  c.requires.table ∙ sym (ap (λ (s : SharedView). s.table) c.shared.view_is),
  c.requires.other_table ∙ sym (ap (λ (s : SharedView). s.table) c.shared.view_is),
  c.requires.no_slots,
  (let i = c.shared.invariant in omega (arith, i)),
  joined c.shared.inside.table.shared.key c.args.seat.now.id c.args.seat.now.me.0 c.args.other.id c.args.other.me.0,
)
