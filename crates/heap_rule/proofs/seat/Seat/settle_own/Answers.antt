use Rattle.heap_rule.proofs.AgreeLemmas.{found_then}
use Rattle.heap_rule.proofs.seat.Seat.settle_own.Goals as goal

pub returns-then-agrees-clause-done : goal.returns-then-agrees-clause-done
returns-then-agrees-clause-done c = c.agrees.ensures.agrees c.if-agrees.true

pub returns-clause-done : goal.returns-clause-done
returns-clause-done c = let looked = c.agrees.ensures.differs c.if-agrees.false in
    found_then c.args.self.now c.agrees.new.self c.settle_found.new.self c.args.word looked.0 c.requires.going looked.1 c.settle_found.ensures.done
