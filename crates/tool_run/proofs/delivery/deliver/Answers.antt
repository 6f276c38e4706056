use Rattle.std.proofs.Common.{refl}
use Rattle.tool_run.proofs.DeliveryLemmas.{not_put, not_printed, at_cause}
use Rattle.tool_run.proofs.ReadingLemmas.{not_err, stands}
use Rattle.tool_run.specs.declared.fault.Fault.TheVariants.{WriteFault}
use Rattle.tool_run.proofs.delivery.deliver.Goals as goal

pub returns-in_err-put_image-clause-err : goal.returns-in_err-put_image-clause-err
returns-in_err-put_image-clause-err g c =
    at_cause _ c.from_residual.result c.from_residual.ensures
    (λ fault is. not_put _ _ _ _ _ _ _ _ fault _ is c.in_err-put_image.ensures.err)

pub returns-in_err-write_all-clause-err : goal.returns-in_err-write_all-clause-err
returns-in_err-write_all-clause-err g c =
    at_cause _ c.from_residual-in_err-write_all.result c.from_residual-in_err-write_all.ensures
    (λ fault is. not_printed _ _ _ _ _ _ _ _ _ _ _ fault is (c.in_err-write_all.ensures.cause.rose refl)
    c.in_ok-put_image.ensures.ok c.as_slice.ensures c.in_err-write_all.ensures.err)

pub returns-in_err-put_image-clause-store_steady : goal.returns-in_err-put_image-clause-store_steady
returns-in_err-put_image-clause-store_steady g c =
    stands _ _ _ c.from_residual.result c.in_err-put_image.field-0.0 WriteFault c.from_residual.ensures
    (λ fault is. is) c.in_err-put_image.ensures.store_steady

pub returns-in_err-write_all-clause-store_steady : goal.returns-in_err-write_all-clause-store_steady
returns-in_err-write_all-clause-store_steady g c other = c.in_ok-put_image.ensures.store_steady (not_err _ _)

pub returns-clause-store_steady : goal.returns-clause-store_steady
returns-clause-store_steady g c other = c.in_ok-put_image.ensures.store_steady (not_err _ _)
