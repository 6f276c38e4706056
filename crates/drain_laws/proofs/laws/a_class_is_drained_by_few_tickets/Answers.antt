use Rattle.drain_laws.proofs.TicketLemmas.{few_tickets}
use Rattle.drain_laws.proofs.laws.a_class_is_drained_by_few_tickets.Goals as goal

pub returns : goal.returns
returns c o class firsts u w ready owners one is grants has s last = few_tickets o class firsts u w ready owners one is grants has s last
