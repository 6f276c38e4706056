use Rattle.heap_model.specs.Reach.{IsReachedIn}
use Rattle.heap_recover.proofs.LeavesLemmas.{leaves_superblock}
use Rattle.heap_recover.proofs.laws.each_superblock_is_left_by_itself.Goals as goal

pub returns : goal.returns
returns c old new links = leaves_superblock old new (IsReachedIn old links)
