use Rattle.heap_recover.proofs.UnchangedLemmas.{words_unchanged, roots_unchanged, kinds_unchanged}
use Rattle.heap_model.specs.Reach.{IsReached}
use Rattle.heap_recover.proofs.laws.reached_words_are_unchanged.Goals as goal

pub returns-clause-blocks : goal.returns-clause-blocks
returns-clause-blocks c = words_unchanged

pub returns-clause-roots : goal.returns-clause-roots
returns-clause-roots c = roots_unchanged

pub returns-clause-kinds : goal.returns-clause-kinds
returns-clause-kinds c old new kinds links = kinds_unchanged old new (IsReached old kinds links)
