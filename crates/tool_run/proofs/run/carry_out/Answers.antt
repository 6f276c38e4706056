use Rattle.std.proofs.Common.{inr, ap, ◌∙◌}
use Rattle.tool_run.proofs.SeedLemmas.{refused_is_not_cut_off, cut_off_with}
use Rattle.tool_run.proofs.DeliveryLemmas.{at_cause}
use Rattle.tool_run.proofs.CallLemmas.{stops_at_delivery, if_error, calls_done, calls_undelivered}
use Rattle.tool_run.proofs.ReadingLemmas.{not_err, stands}
use Rattle.tool_ports.specs.Causes.{one_more}
use Rattle.tool_run.specs.declared.fault.Fault.TheVariants.{ReadFault}
use Rattle.tool_run.proofs.run.carry_out.Goals as goal

pub returns-clause-seeded_err : goal.returns-clause-seeded_err
returns-clause-seeded_err g c = if_error _ _ c.deliver.result c.deliver.ensures.err (λ fault why cut. c.in_ok-product.ensures.seeded)

pub returns-in_err-product-clause-seeded_err : goal.returns-in_err-product-clause-seeded_err
returns-in_err-product-clause-seeded_err g c =
    at_cause _ c.from_residual.result c.from_residual.ensures
    (λ fault is cut. absurd (refused_is_not_cut_off _ _ _ _ _ fault c.in_err-product.field-0.0 is c.in_err-product.ensures.err cut))

pub returns-clause-err : goal.returns-clause-err
returns-clause-err g c =
    if_error _ _ c.deliver.result c.deliver.ensures.err
    (λ fault why. stops_at_delivery _ _ _ _ _ _ _ _ _ _ _ _ _ _ _ _ fault c.in_ok-product.ensures.ok c.image.ensures c.make.ensures.unchanged
    (c.in_ok-product.ensures.store_steady (not_err _ _)) why)

pub returns-clause-calls : goal.returns-clause-calls
returns-clause-calls g c =
    calls_done _ _ _ _ _ _ _ _ c.in_ok-product.ensures.ok c.make.ensures.calls c.deliver.result c.deliver.ensures.put

pub returns-clause-calls_err : goal.returns-clause-calls_err
returns-clause-calls_err g c =
    calls_undelivered _ _ _ _ _ _ _ _ c.in_ok-product.ensures.ok c.make.ensures.calls _ _ _ _ _ _ _ _ c.deliver.result c.deliver.ensures.err
    c.deliver.ensures.put c.deliver.ensures.not_put

pub returns-in_err-product-clause-steady : goal.returns-in_err-product-clause-steady
returns-in_err-product-clause-steady g c =
    stands _ _ _ c.from_residual.result c.in_err-product.field-0.0 ReadFault c.from_residual.ensures (λ fault is. is) c.in_err-product.ensures.steady

pub returns-clause-steady : goal.returns-clause-steady
returns-clause-steady g c other = c.in_ok-product.ensures.steady (not_err _ _)

pub returns-in_err-product-clause-store_steady : goal.returns-in_err-product-clause-store_steady
returns-in_err-product-clause-store_steady g c read write =
    stands _ _ _ c.from_residual.result c.in_err-product.field-0.0 ReadFault c.from_residual.ensures
    (λ fault is. is) c.in_err-product.ensures.store_steady read

pub returns-clause-store_steady : goal.returns-clause-store_steady
returns-clause-store_steady g c read write = c.deliver.ensures.store_steady write ∙ c.in_ok-product.ensures.store_steady (not_err _ _)

pub returns-clause-asked_cut_off : goal.returns-clause-asked_cut_off
returns-clause-asked_cut_off g c =
    let stood = c.in_ok-product.ensures.store_steady (not_err _ _) in
    if_error _ _ c.deliver.result c.deliver.ensures.err
    (λ fault why cut. cut_off_with _ _ _ _ _ _ _ _ _ _ _ _ _ _ fault c.in_ok-product.ensures.asked c.image.ensures c.make.ensures.unchanged
    (λ once. once ∙ ap one_more stood) why cut)

pub returns-in_err-product-clause-asked_cut_off : goal.returns-in_err-product-clause-asked_cut_off
returns-in_err-product-clause-asked_cut_off g c =
    at_cause _ c.from_residual.result c.from_residual.ensures
    (λ fault is cut. absurd (refused_is_not_cut_off _ _ _ _ _ fault c.in_err-product.field-0.0 is c.in_err-product.ensures.err cut))

pub returns-clause-one_failed : goal.returns-clause-one_failed
returns-clause-one_failed g c = inr (c.in_ok-product.ensures.steady (not_err _ _))
