use Rattle.quick_recover.proofs.AgreementLemmas.{same_path, same_heap}
use Rattle.quick_recover.proofs.laws.words_of_full_superblocks_do_not_count.Goals as goal

pub returns-clause-path : goal.returns-clause-path
returns-clause-path c = same_path

pub returns-clause-heap : goal.returns-clause-heap
returns-clause-heap c = same_heap
