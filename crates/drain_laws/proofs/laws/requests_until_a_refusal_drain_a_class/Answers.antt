use Rattle.drain_laws.proofs.OpenedLemmas.{gives_exactly}
use Rattle.drain_laws.proofs.laws.requests_until_a_refusal_drain_a_class.Goals as goal

pub returns : goal.returns
returns c o class firsts w ready owners one is drained drainable = gives_exactly o ready owners one class is firsts w drained drainable
