use Rattle.seat_model.proofs.HeldLemmas.{held_is, kinds_law, may_be_law, mixed_law, named_law, pending_law, row_law, seat_law, stored_law}
use Rattle.seat_model.proofs.ListedBlocks.{listed}
use Rattle.seat_model.proofs.laws.a_seat_of_the_core_is_a_seat_of_a_heap.Goals as goal

pub returns-clause-seat : goal.returns-clause-seat
returns-clause-seat c = seat_law

pub returns-clause-held : goal.returns-clause-held
returns-clause-held c s has b = (held_is s.view has b, listed s.view b)

pub returns-clause-mixed : goal.returns-clause-mixed
returns-clause-mixed c = mixed_law

pub returns-clause-named : goal.returns-clause-named
returns-clause-named c = named_law

pub returns-clause-stored : goal.returns-clause-stored
returns-clause-stored c = stored_law

pub returns-clause-may_be : goal.returns-clause-may_be
returns-clause-may_be c = may_be_law

pub returns-clause-kinds : goal.returns-clause-kinds
returns-clause-kinds c = kinds_law

pub returns-clause-kept : goal.returns-clause-kept
returns-clause-kept c = row_law

pub returns-clause-pending : goal.returns-clause-pending
returns-clause-pending c = pending_law
