use Rattle.heap_rule.proofs.ChangeLemmas.{alloc_change}
use Rattle.heap_rule.proofs.NoteLemmas.{alloc_notes}
use Rattle.heap_rule.proofs.seat.Seat.alloc_change.Goals as goal

pub returns-clause-notes : goal.returns-clause-notes
returns-clause-notes c = alloc_notes c.args.self.now.view c.args.class c.next_cached-first.result c.requires.may c.next_cached-first.ensures.next

pub returns-clause-change : goal.returns-clause-change
returns-clause-change c = alloc_change c.args.self.now.view c.args.class c.next_cached-first.result c.requires.may
