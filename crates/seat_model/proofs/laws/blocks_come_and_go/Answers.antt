use Rattle.seat_model.proofs.ChangedBlocks.{gives_law, gives_span_law, holds_law, span_law}
use Rattle.seat_model.proofs.laws.blocks_come_and_go.Goals as goal

pub returns-clause-holds : goal.returns-clause-holds
returns-clause-holds c = holds_law

pub returns-clause-holds_span : goal.returns-clause-holds_span
returns-clause-holds_span c = span_law

pub returns-clause-gives : goal.returns-clause-gives
returns-clause-gives c = gives_law

pub returns-clause-gives_span : goal.returns-clause-gives_span
returns-clause-gives_span c = gives_span_law
