use Rattle.std.proofs.Common.{◌≡◌, ℕ, ◌<◌, List, ap, sym, subst, ◌∙◌}
use Rattle.dict_model.specs.Links.{shards}
use Rattle.dict_model.specs.Requests.{Request}
use Rattle.run_model.specs.Needs.{is_moved_to}
use Rattle.shard_moves.specs.Tables.{is_flagged}
use Rattle.worker_run.specs.Said.{requests_of}
use Rattle.post_tests.proofs.early.run.Goals as goal

pub begin-begun-requires-clause-targets : goal.begin-begun-requires-clause-targets
begin-begun-requires-clause-targets g c =
    let same = ap requests_of (c.deref-3.ensures.value ∙ sym c.deref-2.ensures.value) in
    let targets = c.targets_of_moves.result in
    subst (λ (requests : List Request). (shard : ℕ) → shard < shards → is_flagged targets shard ≡ is_moved_to requests shard) same
    c.targets_of_moves.ensures
