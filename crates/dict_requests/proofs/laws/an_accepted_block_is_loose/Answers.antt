use Rattle.dict_requests.proofs.GrownLemmas.{gives_grown, only_grown}
use Rattle.dict_requests.proofs.HandingLemmas.{accepts_grown, accepted_loose, accepted_all, grown_shards}
use Rattle.dict_requests.proofs.laws.an_accepted_block_is_loose.Goals as goal

pub returns-clause-loose : goal.returns-clause-loose
returns-clause-loose c = λ v w b seat accepts call. accepted_loose b v w seat accepts call

pub returns-clause-shards : goal.returns-clause-shards
returns-clause-shards c = λ v w b seat accepts call. grown_shards v w seat (accepts_grown b v w accepts) call.goes_on.kinds

pub returns-clause-gives : goal.returns-clause-gives
returns-clause-gives c = λ v w b shard map accepts. gives_grown v w (accepts_grown b v w accepts) shard map

pub returns-clause-only : goal.returns-clause-only
returns-clause-only c = λ v w b seat accepts call. only_grown v w (accepts_grown b v w accepts) call.goes_on.kinds seat

pub returns-clause-exact : goal.returns-clause-exact
returns-clause-exact c = λ v w b seat accepts call. accepted_all b v w seat accepts call
