use Rattle.core_model.specs.Cells.{link_cell}
use Rattle.core_model.specs.Memory.{memory_of}
use Rattle.core_model.proofs.OwnerLemmas.{one_owner}
use Rattle.superblock_lists.proofs.laws.a_claimed_superblock_is_in_one_hand.Goals as goal

pub returns : goal.returns
returns c = λ v s d some j u other below at. one_owner v.setup (memory_of v.setup.capacity s.words)
    s.views s.sound.good s.seat j v u other s.below s.at below at (link_cell d) some
