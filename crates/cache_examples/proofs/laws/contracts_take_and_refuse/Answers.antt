use Rattle.cache_examples.specs.Blocks.{all_flushed, by_one_batch, not_the_only_one, the_only_one}
use Rattle.cache_examples.specs.Fills.{free_list_first, seen_none}
use Rattle.cache_examples.specs.Looks.{free_head_first, is_full, looked, won_since}
use Rattle.cache_examples.specs.Serving.{draws_64, draws_65}
use Rattle.cache_examples.proofs.laws.contracts_take_and_refuse.Goals as goal

pub returns-clause-look : goal.returns-clause-look
returns-clause-look c = (looked, won_since)

pub returns-clause-full : goal.returns-clause-full
returns-clause-full c = (is_full, free_head_first)

pub returns-clause-none : goal.returns-clause-none
returns-clause-none c = (seen_none, free_list_first)

pub returns-clause-first : goal.returns-clause-first
returns-clause-first c = (the_only_one, not_the_only_one)

pub returns-clause-runs : goal.returns-clause-runs
returns-clause-runs c = (all_flushed, by_one_batch)

pub returns-clause-light : goal.returns-clause-light
returns-clause-light c = (draws_64, draws_65)
