use Rattle.std.proofs.Common.{None, refl}
use Rattle.tool_command.specs.Command.{conservative_image}
use Rattle.tool_run.proofs.CallLemmas.{refuses_within}
use Rattle.tool_run.proofs.ConservativeLemmas.{shows_by_words}
use Rattle.tool_run.proofs.CurrentLemmas.{no_memory}
use Rattle.tool_run.proofs.DeliveryLemmas.{at_cause}
use Rattle.tool_run.proofs.ReadingLemmas.{not_err, stands}
use Rattle.tool_run.specs.declared.fault.Fault.TheVariants.{ReadFault}
use Rattle.tool_run.proofs.conservative.report_conservatively.Goals as goal

pub returns-in_err-image-clause-err : goal.returns-in_err-image-clause-err
returns-in_err-image-clause-err g c =
    at_cause _ c.from_residual.result c.from_residual.ensures
    (λ fault is. refuses_within None _ _ _ fault _ is c.in_err-image.ensures.err (conservative_image c.args.name.now c.args.with_map) tt refl refl)

pub returns-in_err-text-clause-err : goal.returns-in_err-text-clause-err
returns-in_err-text-clause-err g c =
    at_cause _ c.from_residual-in_err-text.result c.from_residual-in_err-text.ensures
    (λ fault is. no_memory (conservative_image c.args.name.now c.args.with_map) _ _ fault is)

pub conservative_text-requires-clause-formed : goal.conservative_text-requires-clause-formed
conservative_text-requires-clause-formed g c = c.in_ok-image.ensures.ok.formed

pub conservative_text-requires-clause-closed : goal.conservative_text-requires-clause-closed
conservative_text-requires-clause-closed g c = c.in_ok-image.ensures.ok.closed

pub returns-clause-ok : goal.returns-clause-ok
returns-clause-ok g c =
    (refl, shows_by_words _ _ c.args.with_map c.in_ok-image.image _ c.in_ok-image.ensures.ok c.in_ok-text.ensures.ok)

pub returns-in_err-image-clause-store_steady : goal.returns-in_err-image-clause-store_steady
returns-in_err-image-clause-store_steady g c =
    stands _ _ _ c.from_residual.result c.in_err-image.field-0.0 ReadFault c.from_residual.ensures (λ fault is. is) c.in_err-image.ensures.store_steady

pub returns-in_err-text-clause-store_steady : goal.returns-in_err-text-clause-store_steady
returns-in_err-text-clause-store_steady g c other = c.in_ok-image.ensures.store_steady (not_err _ _)

pub returns-clause-store_steady : goal.returns-clause-store_steady
returns-clause-store_steady g c other = c.in_ok-image.ensures.store_steady (not_err _ _)
