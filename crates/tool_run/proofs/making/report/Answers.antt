use Rattle.std.proofs.Common.{ℕ, List, false, refl, subst}
use Rattle.std.specs.BTreeMap.{BTreeMap}
use Rattle.tool_run.specs.Recovering.{IsTextOf}
use Rattle.tool_command.specs.Command.{show_image}
use Rattle.tool_run.proofs.CallLemmas.{refuses}
use Rattle.tool_run.proofs.DeliveryLemmas.{at_cause}
use Rattle.tool_run.proofs.ImageLemmas.{shows}
use Rattle.tool_run.proofs.MapLemmas.{refuses_maps}
use Rattle.tool_run.proofs.ReadingLemmas.{not_err, stands}
use Rattle.tool_run.specs.declared.fault.Fault.TheVariants.{ReadFault}
use Rattle.tool_run.proofs.making.report.Goals as goal

pub returns-in_err-recovered-clause-err : goal.returns-in_err-recovered-clause-err
returns-in_err-recovered-clause-err g c =
    at_cause _ c.from_residual.result c.from_residual.ensures
    (λ fault is. refuses (show_image c.args.name.now c.args.with_map c.args.in_parallel) _ _ _ fault _ is tt refl c.in_err-recovered.ensures.err)

pub returns-in_err-maps-clause-err : goal.returns-in_err-maps-clause-err
returns-in_err-maps-clause-err g c =
    at_cause _ c.from_residual-in_err-maps.result c.from_residual-in_err-maps.ensures
    (λ fault is. refuses_maps _ _ _ c.in_ok-recovered.ensures.ok c.read_maps.ensures.ready
    (show_image c.args.name.now c.args.with_map c.args.in_parallel) _ _ fault is c.in_err-maps.ensures.err tt refl)

pub returns-clause-ok : goal.returns-clause-ok
returns-clause-ok g c = (
  refl,
  shows _ _ _ _ _ _ c.in_ok-recovered.ensures.ok c.read_maps.ensures.ready c.in_ok-maps.ensures.ok
      (subst (λ (ms : List (BTreeMap ℕ (List ℕ))). IsTextOf c.in_ok-recovered.recovered ms false c.args.with_map c.in_ok-text.text)
      c.deref.ensures.value c.in_ok-text.ensures.ok),
)

pub returns-in_err-recovered-clause-store_steady : goal.returns-in_err-recovered-clause-store_steady
returns-in_err-recovered-clause-store_steady g c =
    stands _ _ _ c.from_residual.result c.in_err-recovered.field-0.0 ReadFault c.from_residual.ensures
    (λ fault is. is) c.in_err-recovered.ensures.store_steady

pub returns-in_err-maps-clause-store_steady : goal.returns-in_err-maps-clause-store_steady
returns-in_err-maps-clause-store_steady g c other = c.in_ok-recovered.ensures.store_steady (not_err _ _)

pub returns-in_err-text-clause-store_steady : goal.returns-in_err-text-clause-store_steady
returns-in_err-text-clause-store_steady g c other = c.in_ok-recovered.ensures.store_steady (not_err _ _)

pub returns-clause-store_steady : goal.returns-clause-store_steady
returns-clause-store_steady g c other = c.in_ok-recovered.ensures.store_steady (not_err _ _)
