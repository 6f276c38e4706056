use Rattle.std.proofs.Common.{arith}
use Rattle.seat_index.proofs.StackLemmas.{popped, popped_none}
use Rattle.seat_index.proofs.stacks.Stack.pop.Goals as goal

pub returns-then-self-len-clause-rest : goal.returns-then-self-len-clause-rest
returns-then-self-len-clause-rest c = λ cache top. popped c.args.self.now cache top (let t = c.if-self-len.true in let l = c.len.ensures in omega arith)

pub returns-else-self-len-clause-rest : goal.returns-else-self-len-clause-rest
returns-else-self-len-clause-rest c = λ cache top. popped_none c.args.self.now cache top (let t = c.if-self-len.false in
    let l = c.len.ensures in omega arith)
