use Rattle.std.proofs.Common.{ap, sym, ◌∙◌}
use Rattle.line_memory.specs.Steps.{early_word}
use Rattle.heap_rule.specs.Fences.{a_store}
use Rattle.heap_rule.specs.Seated.{SeatView}
use Rattle.heap_rule.proofs.seat.Seat.settle_early.Goals as goal

pub returns-in-Some-clause-early : goal.returns-in-Some-clause-early
returns-in-Some-clause-early c = a_store c.in-Some.word
    (ap (λ (s : SeatView). early_word c.args.number s.stores) (sym c.self.view_is) ∙ sym c.early_word.ensures ∙ c.in-Some.is)
    c.settle_own.ensures.done c.settle_own.ensures.stores
