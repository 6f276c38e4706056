use Rattle.std.proofs.Common.{subst}
use Rattle.heap_model.specs.declared.block.Block.{Block}
use Rattle.core_model.specs.Held.{AreApart, IsHeld}
use Rattle.heap_table.specs.SeatViews.{view_in}
use Rattle.heap_rule.specs.Seated.{SeatView}
use Rattle.heap_rule.proofs.HolderLemmas.{blocks_apart}
use Rattle.heap_rule.proofs.pairs.held_at_once.Goals as goal

pub returns-clause-apart : goal.returns-clause-apart
returns-clause-apart c = subst (λ (s : SeatView). (a b : Block) → IsHeld s.view a → IsHeld c.args.other.view b → AreApart a b) c.one.view_is
    (subst (λ (s : SeatView). (a b : Block) → IsHeld (view_in c.one.inside.table_seat.me.0) a → IsHeld s.view b → AreApart a b) c.other.view_is
    (blocks_apart (view_in c.one.inside.table_seat.me.0) (view_in c.other.inside.table_seat.me.0) c.read_both-table_seat.ensures.together))
