use Rattle.dict_requests.proofs.OthersLemmas.{others_give, shards_on}
use Rattle.dict_requests.proofs.laws.requests_go_on_from_shard_to_shard.Goals as goal

pub returns-clause-others : goal.returns-clause-others
returns-clause-others c = λ v w shard other may map seat change small below differs is. others_give v w shard may seat small change other map differs is

pub returns-clause-goes_on : goal.returns-clause-goes_on
returns-clause-goes_on c = λ v w shard may after seat change small. shards_on v w shard may seat small change after
