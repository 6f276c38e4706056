use Rattle.std.proofs.Common.{arith}
use Rattle.drain_laws.proofs.OnlyLemmas.{only_losses, only_moves}
use Rattle.drain_laws.proofs.laws.what_the_only_seat_of_a_heap_draws.Goals as goal

pub returns-clause-losses : goal.returns-clause-losses
returns-clause-losses c v one s = only_losses v one s

pub returns-clause-moves : goal.returns-clause-moves
returns-clause-moves c v one s = only_moves v one s

pub returns-clause-free : goal.returns-clause-free
returns-clause-free c v w lost lost_now passes = let most = passes.most in let draws = most.draws in let moves = most.moves in omega arith

pub returns-clause-alloc : goal.returns-clause-alloc
returns-clause-alloc c bytes v w lost lost_now passes = let most = passes.most in let draws = most.draws in omega arith
