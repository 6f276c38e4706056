use Rattle.heap_table.proofs.UntakenLemmas.{never_taken}
use Rattle.heap_table.proofs.laws.a_superblock_that_was_never_taken_stays_as_it_was_opened.Goals as goal

pub returns : goal.returns
returns c = never_taken
