use Rattle.quick_recover.proofs.DrainLemmas.{quick_drainable, quick_drains, drains_alike}
use Rattle.quick_recover.proofs.laws.what_is_opened_quickly_drains_alike.Goals as goal

pub returns-clause-drainable : goal.returns-clause-drainable
returns-clause-drainable c = quick_drainable

pub returns-clause-drains : goal.returns-clause-drains
returns-clause-drains c = quick_drains

pub returns-clause-alike : goal.returns-clause-alike
returns-clause-alike c = drains_alike
