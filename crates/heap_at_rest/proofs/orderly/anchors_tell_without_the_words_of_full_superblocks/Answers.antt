use Rattle.heap_at_rest.proofs.AgreementLemmas.{orderly_both, held_both, free_both}
use Rattle.heap_at_rest.proofs.orderly.anchors_tell_without_the_words_of_full_superblocks.Goals as goal

pub returns-clause-orderly : goal.returns-clause-orderly
returns-clause-orderly c = λ limit bytes image other agree. orderly_both image other agree limit bytes

pub returns-clause-held : goal.returns-clause-held
returns-clause-held c = held_both

pub returns-clause-free : goal.returns-clause-free
returns-clause-free c = free_both
