use Rattle.std.proofs.Common.{[], ◌∷◌, ◌++◌}
use Rattle.heap_table.specs.SeatViews.{all_views}
use Rattle.heap_table.specs.Rule.{setup_for}
use Rattle.core_model.proofs.HeldLemmas.{firm}
use Rattle.core_model.proofs.HeldOnceLemmas.{held_once}
use Rattle.heap_rule.proofs.HolderLemmas.{one_holder}
use Rattle.heap_rule.proofs.laws.no_block_is_held_twice.Goals as goal

pub returns-clause-shared : goal.returns-clause-shared
returns-clause-shared c o words joints all = held_once (setup_for o) words (all_views joints) all.sound

pub returns-clause-holder : goal.returns-clause-holder
returns-clause-holder c o words joints all b held = one_holder (setup_for o) words (all_views joints) all.sound all.counted b held

pub returns-clause-firm : goal.returns-clause-firm
returns-clause-firm c o words joints all = firm (setup_for o) words (all_views joints) all.sound

pub returns-clause-state : goal.returns-clause-state
returns-clause-state c v has = held_once v.setup has.words has.views has.sound

pub returns-clause-closed : goal.returns-clause-closed
returns-clause-closed c k now kept views closed = held_once k (now ++ (kept ++ (closed.drawn ∷ []))) views closed.sound
