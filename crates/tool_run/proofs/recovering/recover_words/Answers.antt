use Rattle.std.proofs.Common.{◌≡◌, ◌↔◌, ◌*◌, ℕ, List, length, slice_index, Some, IsTrue, sym, subst}
use Rattle.heap_model.specs.Geometry.{clean}
use Rattle.heap_model.specs.Header.{IsWellFormed, HasKindsBelow, state_of}
use Rattle.dict_model.specs.Links.{kind_count}
use Rattle.tool_run.proofs.CurrentLemmas.{is_recovered_from, is_refused}
use Rattle.tool_run.proofs.CallLemmas.{refuses_links}
use Rattle.tool_run.proofs.DeliveryLemmas.{at_cause}
use Rattle.tool_run.proofs.ReadingLemmas.{not_err, stands}
use Rattle.tool_run.specs.declared.fault.Fault.TheVariants.{ReadFault}
use Rattle.tool_run.proofs.recovering.recover_words.Goals as goal

pub returns-in_err-image-clause-err : goal.returns-in_err-image-clause-err
returns-in_err-image-clause-err g c =
    at_cause _ c.from_residual.result c.from_residual.ensures
    (λ fault is. refuses_links _ _ _ fault _ is c.in_err-image.ensures.err)

pub returns-in_err-recovered-clause-err : goal.returns-in_err-recovered-clause-err
returns-in_err-recovered-clause-err g c =
    at_cause _ c.from_residual-in_err-recovered.result c.from_residual-in_err-recovered.ensures
    (λ fault is. is_refused _ _ c.in_ok-image.image c.in_ok-image.ensures.ok _ _ _ fault is c.deref.ensures.value c.in_err-recovered.ensures.cause)

pub recover_beside-requires-clause-formed : goal.recover_beside-requires-clause-formed
recover_beside-requires-clause-formed g c =
    subst (λ (ws : List ℕ). IsWellFormed (8 * length ws) (slice_index ws)) (sym c.deref.ensures.value) c.in_ok-image.ensures.ok.formed

pub recover_beside-requires-clause-below : goal.recover_beside-requires-clause-below
recover_beside-requires-clause-below g c =
    subst (λ (ws : List ℕ). HasKindsBelow (Some kind_count) (slice_index ws)) (sym c.deref.ensures.value) c.in_ok-image.ensures.ok.below

pub recover_beside-requires-clause-closed : goal.recover_beside-requires-clause-closed
recover_beside-requires-clause-closed g c =
    subst (λ (ws : List ℕ). IsTrue c.in_ok-image.image.closed ↔ (state_of (slice_index ws) ≡ clean)) (sym c.deref.ensures.value)
    c.in_ok-image.ensures.ok.closed

pub returns-clause-ok : goal.returns-clause-ok
returns-clause-ok g c =
    let made = c.in_ok-recovered.ensures in
    is_recovered_from _ _ c.in_ok-image.image c.in_ok-image.ensures.ok _ c.in_ok-recovered.recovered c.deref.ensures.value made.ok made.kinds made.none

pub returns-in_err-image-clause-store_steady : goal.returns-in_err-image-clause-store_steady
returns-in_err-image-clause-store_steady g c =
    stands _ _ _ c.from_residual.result c.in_err-image.field-0.0 ReadFault c.from_residual.ensures (λ fault is. is) c.in_err-image.ensures.store_steady

pub returns-in_err-recovered-clause-store_steady : goal.returns-in_err-recovered-clause-store_steady
returns-in_err-recovered-clause-store_steady g c other = c.in_ok-image.ensures.store_steady (not_err _ _)

pub returns-clause-store_steady : goal.returns-clause-store_steady
returns-clause-store_steady g c other = c.in_ok-image.ensures.store_steady (not_err _ _)
