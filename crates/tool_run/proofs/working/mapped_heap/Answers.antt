use Rattle.std.proofs.Common.{sym, subst}
use Rattle.super_block.specs.Contents.{Contents}
use Rattle.tool_run.specs.Recovering.{IsMapped}
use Rattle.tool_run.proofs.DeliveryLemmas.{at_cause}
use Rattle.tool_run.proofs.MapLemmas.{is_mapped, refuses_maps}
use Rattle.tool_run.proofs.ReadingLemmas.{not_err, stands}
use Rattle.tool_run.specs.declared.fault.Fault.TheVariants.{ReadFault}
use Rattle.tool_run.proofs.working.mapped_heap.Goals as goal

pub returns-in_err-mapped-clause-err : goal.returns-in_err-mapped-clause-err
returns-in_err-mapped-clause-err g c =
    at_cause _ c.from_residual-in_err-mapped.result c.from_residual-in_err-mapped.ensures
    (λ fault is command reads named. refuses_maps _ _ _ c.in_ok-recovered.ensures.ok c.read.ensures.ready command _ _ fault is
    c.in_err-mapped.ensures.err reads named)

pub returns-clause-ok : goal.returns-clause-ok
returns-clause-ok g c =
    subst (λ (heap : Contents). IsMapped (g.I.ImageStore.contents c.args.images.now) c.args.name.now heap.words heap.held)
    (sym c.in_ok-mapped.ensures.heap)
    (is_mapped _ _ _ c.in_ok-recovered.ensures.ok c.read.ensures.ready c.in_ok-mapped.ensures.ok.maps c.in_ok-mapped.ensures.ok.are)

pub returns-in_err-recovered-clause-store_steady : goal.returns-in_err-recovered-clause-store_steady
returns-in_err-recovered-clause-store_steady g c =
    stands _ _ _ c.from_residual.result c.in_err-recovered.field-0.0 ReadFault c.from_residual.ensures
    (λ fault is. is) c.in_err-recovered.ensures.store_steady

pub returns-in_err-mapped-clause-store_steady : goal.returns-in_err-mapped-clause-store_steady
returns-in_err-mapped-clause-store_steady g c other = c.in_ok-recovered.ensures.store_steady (not_err _ _)

pub returns-clause-store_steady : goal.returns-clause-store_steady
returns-clause-store_steady g c other = c.in_ok-recovered.ensures.store_steady (not_err _ _)
