use Rattle.std.proofs.Common.{refl}
use Rattle.tool_run.proofs.CurrentLemmas.{is_recovered, is_refused}
use Rattle.tool_run.proofs.CallLemmas.{refuses_links}
use Rattle.tool_run.proofs.DeliveryLemmas.{at_cause}
use Rattle.tool_run.proofs.ReadingLemmas.{not_err, stands}
use Rattle.tool_run.specs.declared.fault.Fault.TheVariants.{ReadFault}
use Rattle.tool_run.proofs.recovering.recover_image.Goals as goal

pub returns-in_err-image-clause-err : goal.returns-in_err-image-clause-err
returns-in_err-image-clause-err g c =
    at_cause _ c.from_residual.result c.from_residual.ensures
    (λ fault is. refuses_links _ _ _ fault _ is c.in_err-image.ensures.err)

pub returns-in_err-recovered-clause-err : goal.returns-in_err-recovered-clause-err
returns-in_err-recovered-clause-err g c =
    at_cause _ c.from_residual-in_err-recovered.result c.from_residual-in_err-recovered.ensures
    (λ fault is. is_refused _ _ c.in_ok-image.image c.in_ok-image.ensures.ok _ _ _ fault is refl c.in_err-recovered.ensures.cause)

pub recover_current-requires-clause-formed : goal.recover_current-requires-clause-formed
recover_current-requires-clause-formed g c = c.in_ok-image.ensures.ok.formed

pub recover_current-requires-clause-below : goal.recover_current-requires-clause-below
recover_current-requires-clause-below g c = c.in_ok-image.ensures.ok.below

pub recover_current-requires-clause-closed : goal.recover_current-requires-clause-closed
recover_current-requires-clause-closed g c = c.in_ok-image.ensures.ok.closed

pub returns-clause-ok : goal.returns-clause-ok
returns-clause-ok g c =
    let made = c.in_ok-recovered.ensures in
    is_recovered _ _ c.in_ok-image.image c.in_ok-image.ensures.ok c.in_ok-recovered.recovered made.ok made.kinds made.none

pub returns-in_err-image-clause-store_steady : goal.returns-in_err-image-clause-store_steady
returns-in_err-image-clause-store_steady g c =
    stands _ _ _ c.from_residual.result c.in_err-image.field-0.0 ReadFault c.from_residual.ensures (λ fault is. is) c.in_err-image.ensures.store_steady

pub returns-in_err-recovered-clause-store_steady : goal.returns-in_err-recovered-clause-store_steady
returns-in_err-recovered-clause-store_steady g c other = c.in_ok-image.ensures.store_steady (not_err _ _)

pub returns-clause-store_steady : goal.returns-clause-store_steady
returns-clause-store_steady g c other = c.in_ok-image.ensures.store_steady (not_err _ _)
