use Rattle.dict_requests.proofs.HandingLemmas.{node_goes, node_comes}
use Rattle.dict_requests.proofs.laws.a_node_goes_with_its_value.Goals as goal

pub returns-clause-goes : goal.returns-clause-goes
returns-clause-goes c = node_goes

pub returns-clause-comes : goal.returns-clause-comes
returns-clause-comes c = node_comes

pub returns-clause-across : goal.returns-clause-across
returns-clause-across c = λ v w b sent value goes comes node. node_comes w b sent value comes (node_goes v b sent value goes node)
