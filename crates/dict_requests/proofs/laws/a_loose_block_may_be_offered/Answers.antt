use Rattle.dict_requests.proofs.HandingLemmas.{offered_only, offered_gives, offered_all, offered_shards}
use Rattle.dict_requests.proofs.laws.a_loose_block_may_be_offered.Goals as goal

pub returns-clause-shards : goal.returns-clause-shards
returns-clause-shards c = λ v w b seat loose offers call. offered_shards b v w seat loose offers call

pub returns-clause-gives : goal.returns-clause-gives
returns-clause-gives c = λ v w b shard map seat loose offers call. offered_gives b v w seat loose offers call shard map

pub returns-clause-only : goal.returns-clause-only
returns-clause-only c = λ v w b seat loose offers call. offered_only b v w seat loose offers call

pub returns-clause-exact : goal.returns-clause-exact
returns-clause-exact c = λ v w b seat loose offers call. offered_all b v w seat loose offers call
