use Rattle.dict_requests.proofs.HandingLemmas.{bring_others, bring_shards}
use Rattle.dict_requests.proofs.laws.a_bring_leaves_the_other_shards.Goals as goal

pub returns-clause-others : goal.returns-clause-others
returns-clause-others c = λ v w b shard other may map seat loose change small below differs is. bring_others v w b shard may seat loose change
    small other map differs is

pub returns-clause-goes_on : goal.returns-clause-goes_on
returns-clause-goes_on c = λ v w b shard may after seat loose change small. bring_shards v w b shard may seat loose change small after
