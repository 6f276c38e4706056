use Rattle.std.specs.Prelude.{⊤}
use Rattle.line_memory.proofs.CallerLemmas.{fence_adds}
use Rattle.line_memory.proofs.memory.only_stores_add.Goals as goal

pub returns-clause-fence : goal.returns-clause-fence
returns-clause-fence c = fence_adds (λ _. ⊤)
