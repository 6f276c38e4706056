use Rattle.heap_model.specs.Recovered.{AreAscending}
use Rattle.heap_recover.proofs.ListLemmas.{IsMemberAmong}
use Rattle.heap_recover.proofs.chain_links.members.Given as goal

abbrev pub invariant-loop-d : goal.invariant-loop-d
invariant-loop-d l = AreAscending (λ d. d) (IsMemberAmong l.roles l.list l.d) l.members.items
