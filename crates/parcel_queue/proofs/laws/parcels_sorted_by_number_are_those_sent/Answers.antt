use Rattle.parcel_queue.proofs.NumberLemmas.{in_order}
use Rattle.parcel_queue.proofs.laws.parcels_sorted_by_number_are_those_sent.Goals as goal

pub returns : goal.returns
returns g c = in_order
