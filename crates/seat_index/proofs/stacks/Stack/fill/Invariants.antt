use Rattle.std.proofs.Common.{◌≡◌, ◌+◌, ◌*◌, length, take}
use Rattle.core_model.specs.Effects.{steps}
use Rattle.seat_index.proofs.stacks.Stack.fill.Given as goal

abbrev pub invariant-loop-i : goal.invariant-loop-i
invariant-loop-i l = record {
  long : length l.self.blocks.items ≡ length l.initial.self.blocks.items;
  at : l.block ≡ l.first + l.i * l.apart;
  filled : take l.i l.self.blocks.items ≡ steps l.first l.apart l.i;
}
