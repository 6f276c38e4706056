use Rattle.heap_rule.proofs.HeldLemmas.{block_words_own, root_own}
use Rattle.heap_rule.proofs.view_laws.words_of_held_blocks_and_roots_are_own.Goals as goal

pub returns-clause-block : goal.returns-clause-block
returns-clause-block c v has b held word within = block_words_own v has b held word within

pub returns-clause-root : goal.returns-clause-root
returns-clause-root c v i less own = root_own v i less own
