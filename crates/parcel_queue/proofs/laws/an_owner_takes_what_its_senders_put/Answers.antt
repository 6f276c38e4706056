use Rattle.parcel_queue.proofs.DeliveryLemmas.{joined_parts, delivered}
use Rattle.parcel_queue.proofs.laws.an_owner_takes_what_its_senders_put.Goals as goal

pub returns-clause-parts : goal.returns-clause-parts
returns-clause-parts g c = joined_parts

pub returns-clause-delivered : goal.returns-clause-delivered
returns-clause-delivered g c = delivered
