use Rattle.heap_rule.proofs.ChangeLemmas.{free_change}
use Rattle.heap_rule.proofs.NoteLemmas.{free_notes}
use Rattle.heap_rule.proofs.seat.Seat.free_change.Goals as goal

pub returns-clause-notes : goal.returns-clause-notes
returns-clause-notes c = free_notes c.args.self.now.view c.held_class-class.result.number c.args.block c.requires.can
    (c.held_class-class.ensures.class c.requires.can)

pub returns-clause-change : goal.returns-clause-change
returns-clause-change c = free_change c.args.self.now.view c.held_class-class.result.number c.args.block c.requires.can
    (c.held_class-class.ensures.class c.requires.can)
