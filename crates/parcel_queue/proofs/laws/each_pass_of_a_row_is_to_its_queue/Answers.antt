use Rattle.parcel_queue.proofs.RowLemmas.{as_many, at_place, still_passes}
use Rattle.parcel_queue.proofs.HandLemmas.{fewer}
use Rattle.parcel_queue.proofs.laws.each_pass_of_a_row_is_to_its_queue.Goals as goal

pub returns-clause-count : goal.returns-clause-count
returns-clause-count g c = as_many

pub returns-clause-each : goal.returns-clause-each
returns-clause-each g c = at_place

pub returns-clause-kept : goal.returns-clause-kept
returns-clause-kept g c = still_passes

pub returns-clause-fewer : goal.returns-clause-fewer
returns-clause-fewer g c = fewer
