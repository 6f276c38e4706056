use Rattle.tool_ports.specs.Chances.{unasked, by_chance}
use Rattle.std.proofs.Common.{refl}
use Rattle.tool_command.specs.Command.{drain_image}
use Rattle.tool_run.proofs.CallLemmas.{refuses}
use Rattle.tool_run.proofs.DeliveryLemmas.{at_cause}
use Rattle.tool_run.proofs.DrainLemmas.{drainable_at_rest, drains}
use Rattle.tool_run.proofs.ReadingLemmas.{not_err, stands}
use Rattle.tool_run.specs.declared.fault.Fault.TheVariants.{ReadFault}
use Rattle.tool_run.proofs.draining.drain_image.Goals as goal

pub returns-clause-seeded : goal.returns-clause-seeded
returns-clause-seeded g c = record { begun = c.seed.new.self; anew = c.seed.ensures; from_it = by_chance _ _ 0 _ unasked c.chance.ensures }

pub heap_text-requires : goal.heap_text-requires
heap_text-requires g c = drainable_at_rest _ _ _ c.in_ok-recovered.ensures.ok c.args.class.number

pub returns-in_err-recovered-clause-err : goal.returns-in_err-recovered-clause-err
returns-in_err-recovered-clause-err g c =
    at_cause _ c.from_residual.result c.from_residual.ensures
    (λ fault is. refuses (drain_image c.args.name.now c.args.class.number) _ _ _ fault _ is tt refl c.in_err-recovered.ensures.err)

pub returns-clause-ok : goal.returns-clause-ok
returns-clause-ok g c = (refl, drains _ _ _ c.in_ok-recovered.ensures.ok c.args.class.number _ c.in_ok-text.ensures)

pub returns-in_err-recovered-clause-store_steady : goal.returns-in_err-recovered-clause-store_steady
returns-in_err-recovered-clause-store_steady g c =
    stands _ _ _ c.from_residual.result c.in_err-recovered.field-0.0 ReadFault c.from_residual.ensures
    (λ fault is. is) c.in_err-recovered.ensures.store_steady

pub returns-in_err-text-clause-store_steady : goal.returns-in_err-text-clause-store_steady
returns-in_err-text-clause-store_steady g c other = c.in_ok-recovered.ensures.store_steady (not_err _ _)

pub returns-clause-store_steady : goal.returns-clause-store_steady
returns-clause-store_steady g c other = c.in_ok-recovered.ensures.store_steady (not_err _ _)
