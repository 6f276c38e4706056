use Rattle.block_heap.proofs.OrderLemmas.{fresh_last, free_later}
use Rattle.block_heap.proofs.laws.freed_blocks_serve_first.Goals as goal

pub returns-clause-fresh : goal.returns-clause-fresh
returns-clause-fresh c = λ bytes class s t served least. fresh_last class s.parts t.parts (served class least)

pub returns-clause-free : goal.returns-clause-free
returns-clause-free c = λ bytes class s t d served least. free_later class s.parts t.parts (served class least) d
