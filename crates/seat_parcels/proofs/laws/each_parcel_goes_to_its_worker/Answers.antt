use Rattle.seat_parcels.proofs.RowLemmas.{given_parts, given_rightly, joined_parts, joined_rightly, joined_together, new_parts, new_rightly, none_put, put_for_it}
use Rattle.seat_parcels.proofs.laws.each_parcel_goes_to_its_worker.Goals as goal

pub returns : goal.returns
returns c = record {
  none = none_put;
  new = new_rightly;
  given = given_rightly;
  joined = joined_rightly;
  new_parts = new_parts;
  given_parts = given_parts;
  joined_parts = joined_parts;
  each = put_for_it;
  all = joined_together;
}
