use Rattle.parcel_queue.proofs.DeliveryLemmas.{lost, made, counted, weighed}
use Rattle.parcel_queue.proofs.laws.a_delivery_loses_and_repeats_nothing.Goals as goal

pub returns-clause-lost : goal.returns-clause-lost
returns-clause-lost g c = lost

pub returns-clause-made : goal.returns-clause-made
returns-clause-made g c = made

pub returns-clause-count : goal.returns-clause-count
returns-clause-count g c = counted

pub returns-clause-weights : goal.returns-clause-weights
returns-clause-weights g c = weighed
