use Rattle.heap_rule.proofs.ChangeLemmas.{cut_change}
use Rattle.heap_rule.proofs.NoteLemmas.{cut_notes}
use Rattle.heap_rule.proofs.seat.Seat.cut_change.Goals as goal

pub returns-clause-notes : goal.returns-clause-notes
returns-clause-notes c = cut_notes c.args.self.now.view c.args.d c.cutting_class-class.result c.requires.can
    (c.cutting_class-class.ensures.class c.requires.can)

pub returns-clause-change : goal.returns-clause-change
returns-clause-change c = cut_change c.args.self.now.view c.args.d c.cutting_class-class.result c.requires.can
    (c.cutting_class-class.ensures.class c.requires.can)
