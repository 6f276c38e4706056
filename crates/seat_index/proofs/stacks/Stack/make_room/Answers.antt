use Rattle.std.proofs.Common.{arith}
use Rattle.seat_index.proofs.StackLemmas.{empty_top}
use Rattle.seat_index.proofs.stacks.Stack.make_room.Goals as goal

pub returns-then-self-eq0-clause-same : goal.returns-then-self-eq0-clause-same
returns-then-self-eq0-clause-same c = λ cache top. empty_top _ cache (let l = c.len-self.ensures in omega arith)
