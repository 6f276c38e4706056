use Rattle.std.proofs.Common.{◌≡◌, ◌↔◌, ◌*◌, ℕ, List, length, slice_index, Some, IfOk, IfErr, OnOk, IsTrue, sym, subst}
use Rattle.heap_model.specs.Geometry.{clean}
use Rattle.heap_model.specs.Header.{IsWellFormed, HasKindsBelow, state_of}
use Rattle.dict_model.specs.Links.{dict_links, kind_count}
use Rattle.heap_recover.specs.Answer.{IsMadeOf}
use Rattle.heap_recover.specs.Fault.{TellsOutsideIn}
use Rattle.tool_run.specs.Making.{IsKept, PointsOutside}
use Rattle.tool_run.proofs.recovering.recover_beside.Goals as goal

pub recover_current-requires-clause-formed : goal.recover_current-requires-clause-formed
recover_current-requires-clause-formed c =
    subst (λ (ws : List ℕ). IsWellFormed (8 * length ws) (slice_index ws)) (sym c.in_ok-copy.ensures.items) c.requires.formed

pub recover_current-requires-clause-below : goal.recover_current-requires-clause-below
recover_current-requires-clause-below c =
    subst (λ (ws : List ℕ). HasKindsBelow (Some kind_count) (slice_index ws)) (sym c.in_ok-copy.ensures.items) c.requires.below

pub recover_current-requires-clause-closed : goal.recover_current-requires-clause-closed
recover_current-requires-clause-closed c =
    subst (λ (ws : List ℕ). IsTrue c.args.closed ↔ (state_of (slice_index ws) ≡ clean)) (sym c.in_ok-copy.ensures.items) c.requires.closed

pub returns-clause-ok : goal.returns-clause-ok
returns-clause-ok c =
    subst (λ (ws : List ℕ). IfOk c.recover_current.result (IsMadeOf ws (IsKept (slice_index ws)))) c.in_ok-copy.ensures.items
    c.recover_current.ensures.ok

pub returns-clause-none : goal.returns-clause-none
returns-clause-none c =
    subst (λ (ws : List ℕ). OnOk c.recover_current.result ((at : ℕ) → PointsOutside (slice_index ws) at → ⊥)) c.in_ok-copy.ensures.items
    c.recover_current.ensures.none

pub returns-clause-cause : goal.returns-clause-cause
returns-clause-cause c =
    subst (λ (ws : List ℕ). IfErr c.recover_current.result (TellsOutsideIn (slice_index ws) dict_links)) c.in_ok-copy.ensures.items
    c.recover_current.ensures.cause
