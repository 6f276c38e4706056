use Rattle.drain_laws.proofs.CutLemmas.{few_cuts}
use Rattle.drain_laws.proofs.laws.requests_of_a_class_cut_each_superblock_once.Goals as goal

pub returns : goal.returns
returns c o class firsts w ready owners one is grants s = few_cuts o class firsts w ready owners one is grants s
