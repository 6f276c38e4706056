use Rattle.seat_parcels.proofs.PartLemmas.{all_parts, sent_to}
use Rattle.seat_parcels.proofs.laws.each_parcel_is_for_one_worker.Goals as goal

pub returns : goal.returns
returns c = record { all = all_parts; sent = sent_to }
