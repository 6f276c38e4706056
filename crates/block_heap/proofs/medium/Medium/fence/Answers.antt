use Rattle.line_memory.specs.Plain.{view_of}
use Rattle.block_heap.proofs.MediumLemmas.{fence_is}
use Rattle.block_heap.proofs.medium.Medium.fence.Goals as goal

pub returns-clause-unchanged : goal.returns-clause-unchanged
returns-clause-unchanged g c = (fence_is _ (view_of c.args.self.now.memory) (view_of c.fence.new.self) c.in_ok-fence.ensures.ok).1
