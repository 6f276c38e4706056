use Rattle.block_heap.proofs.FixedLemmas.{fixed_opened, long_opened, kinds_opened, kinds_left}
use Rattle.block_heap.specs.Laws.{keeps_none_law, keeps_row_law}
use Rattle.block_heap.proofs.laws.fixed_words_stay.Goals as goal

pub returns-clause-none : goal.returns-clause-none
returns-clause-none c = keeps_none_law

pub returns-clause-row : goal.returns-clause-row
returns-clause-row c = keeps_row_law

pub returns-clause-opened : goal.returns-clause-opened
returns-clause-opened c = fixed_opened

pub returns-clause-long : goal.returns-clause-long
returns-clause-long c = long_opened

pub returns-clause-kinds : goal.returns-clause-kinds
returns-clause-kinds c = kinds_opened

pub returns-clause-images : goal.returns-clause-images
returns-clause-images c = kinds_left
