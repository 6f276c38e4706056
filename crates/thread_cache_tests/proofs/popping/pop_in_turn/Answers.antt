use Rattle.std.proofs.Common.{subst}
use Rattle.superblock_lists.specs.Pops.{Pops}
use Rattle.thread_cache_tests.specs.Holding.{list_of}
use Rattle.thread_cache_tests.proofs.ListLemmas.{popped_can}
use Rattle.thread_cache_tests.proofs.popping.pop_in_turn.Goals as goal

pub push_on-requires-clause-can : goal.push_on-requires-clause-can
push_on-requires-clause-can c = popped_can c.args.class c.in-Got.d c.args.a.now.view c.pop_off.new.seat.view c.requires.a.1.idle.cutting
    (subst (λ p. Pops (list_of c.args.class) p c.args.a.now.view c.pop_off.new.seat.view) c.in-Got.is c.in_ok-first.ensures.done)
