use Rattle.std.proofs.Common.{take}
use Rattle.seat_index.specs.Owned.{IsMarking}
use Rattle.seat_index.proofs.owned.mark_all.Given as goal

abbrev pub invariant-loop-block : goal.invariant-loop-block
invariant-loop-block l = IsMarking l.initial.blocks l.blocks (take l.block-index l.list) l.mark
