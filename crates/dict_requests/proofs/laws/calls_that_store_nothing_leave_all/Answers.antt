use Rattle.dict_requests.proofs.GrownLemmas.{gives_grown, grown_keeps}
use Rattle.dict_requests.proofs.ExactCallLemmas.{all_quiet}
use Rattle.dict_requests.proofs.BringLemmas.{all_but_still, loose_still}
use Rattle.heap_seat.specs.Words.{in_block}
use Rattle.dict_requests.proofs.MovedLemmas.{node_kept}
use Rattle.dict_requests.proofs.HandingLemmas.{grown_shards}
use Rattle.dict_requests.proofs.laws.calls_that_store_nothing_leave_all.Goals as goal

pub returns-clause-shards : goal.returns-clause-shards
returns-clause-shards c = λ v w seat keeps call. grown_shards v w seat (grown_keeps v w keeps) call.goes_on.kinds

pub returns-clause-gives : goal.returns-clause-gives
returns-clause-gives c = λ v w shard map keeps. gives_grown v w (grown_keeps v w keeps) shard map

pub returns-clause-exact : goal.returns-clause-exact
returns-clause-exact c = λ v w seat keeps call. all_quiet v w seat keeps call.goes_on.kinds

pub returns-clause-exact_but : goal.returns-clause-exact_but
returns-clause-exact_but c = λ v w b seat keeps call. all_but_still v w b seat keeps call.goes_on.kinds

pub returns-clause-loose : goal.returns-clause-loose
returns-clause-loose c = λ v w b seat keeps call. loose_still v w b seat keeps call.goes_on.kinds

pub returns-clause-node : goal.returns-clause-node
returns-clause-node c = λ v w b value keeps held node. node_kept v w b value (λ word inside behind. keeps.words word (in_block b word held inside)) node
