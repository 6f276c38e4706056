use Rattle.heap_rule.proofs.TicketLemmas.{going_low, hand_last, stop_last}
use Rattle.heap_rule.proofs.view_laws.a_stopped_seat_keeps_its_last_ticket.Goals as goal

pub returns-clause-stop : goal.returns-clause-stop
returns-clause-stop c v has ticket at = stop_last v has ticket at

pub returns-clause-hand : goal.returns-clause-hand
returns-clause-hand c v has ticket at = hand_last v has ticket at

pub returns-clause-going : goal.returns-clause-going
returns-clause-going c v has ticket going at = going_low v has ticket going at
