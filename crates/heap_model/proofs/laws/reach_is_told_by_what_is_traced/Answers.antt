use Rattle.heap_model.specs.Reach.{AnyRoot}
use Rattle.heap_model.proofs.ReachLemmas.{reach_kept, nothing_more}
use Rattle.heap_model.proofs.laws.reach_is_told_by_what_is_traced.Goals as goal

pub returns-clause-kept : goal.returns-clause-kept
returns-clause-kept c image other kinds links alike = reach_kept image other AnyRoot kinds links alike

pub returns-clause-same : goal.returns-clause-same
returns-clause-same c image other kinds links alike inside b kind = (
  reach_kept image other AnyRoot kinds links alike b kind,
  nothing_more image other AnyRoot kinds links alike (λ at traced outside. inside at (record { traced = traced; outside = outside })) b kind,
)
