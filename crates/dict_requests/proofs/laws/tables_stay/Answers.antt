use Rattle.dict_requests.proofs.GrownLemmas.{grown_keeps}
use Rattle.dict_requests.proofs.HandingLemmas.{accepts_grown, set_grown, set_offered, set_changed, set_brought}
use Rattle.dict_requests.proofs.laws.tables_stay.Goals as goal

pub returns-clause-over_requests : goal.returns-clause-over_requests
returns-clause-over_requests c = λ v w shard other may change is. set_changed v w shard other may change is.owned

pub returns-clause-over_brings : goal.returns-clause-over_brings
returns-clause-over_brings c = λ v w b shard other may change is. set_brought v w b shard other may change is.owned

pub returns-clause-over_offers : goal.returns-clause-over_offers
returns-clause-over_offers c = λ v w b shard offers is. set_offered v w b shard offers is.owned

pub returns-clause-over_accepts : goal.returns-clause-over_accepts
returns-clause-over_accepts c = λ v w b shard accepts is. set_grown v w shard (accepts_grown b v w accepts) is.owned

pub returns-clause-over_stops : goal.returns-clause-over_stops
returns-clause-over_stops c = λ v w shard keeps is. set_grown v w shard (grown_keeps v w keeps) is.owned
