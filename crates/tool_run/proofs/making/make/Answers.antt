use Rattle.std.proofs.Common.{ℕ, List, IfErr, inr, refl, sym, ap, subst}
use Rattle.std.proofs.lemmas.Result.{IfErr-weaker}
use Rattle.tool_command.specs.declared.command.Invocation.{Invocation}
use Rattle.tool_command.specs.Command.{image_name, count_image}
use Rattle.tool_command.specs.Invocations.{command_of}
use Rattle.tool_ports.specs.Causes.{RoseByOne}
use Rattle.tool_run.specs.Inside.{RefusesEither}
use Rattle.tool_run.specs.Outcome.{HoldsOutside}
use Rattle.tool_run.proofs.CallLemmas.{refused_by_image}
use Rattle.tool_run.proofs.ReadingLemmas.{none_taken}
use Rattle.tool_run.proofs.making.make.Goals as goal

pub returns-in-Run-clause-image_first : goal.returns-in-Run-clause-image_first
returns-in-Run-clause-image_first g c at has refuses =
    c.run_command.ensures.image_first at
    (subst (λ (name : List ℕ). HoldsOutside (g.I.ImageStore.contents c.args.images.now) name at)
    (ap (λ (i : Invocation). image_name (command_of i)) c.in-Run.is) has)

pub returns-in-Replay-clause-image_first : goal.returns-in-Replay-clause-image_first
returns-in-Replay-clause-image_first g c at has refuses =
    c.replay_named.ensures.image_first at
    (subst (λ (name : List ℕ). HoldsOutside (g.I.ImageStore.contents c.args.images.now) name at)
    (ap (λ (i : Invocation). image_name (command_of i)) c.in-Replay.is) has)

pub returns-in-Count-clause-err : goal.returns-in-Count-clause-err
returns-in-Count-clause-err g c =
    let contents = g.I.ImageStore.contents c.args.images.now in
    let left = g.T.Source.left c.args.trace.now in
    let got = RoseByOne (g.I.ImageStore.faults c.args.images.now) (g.I.ImageStore.faults c.count_command.new.images) in
    let read = RoseByOne (g.T.Source.faults c.args.trace.now) (g.T.Source.faults c.args.trace.now) in
    subst (λ (i : Invocation). IfErr c.count_command.result (RefusesEither (command_of i) contents left got read)) (sym c.in-Count.is)
    (IfErr-weaker c.count_command.result _ _
    (λ fault why. refused_by_image (count_image c.in-Count.image.now c.in-Count.with_map) contents left got read fault fault refl why)
    c.count_command.ensures.err)

pub returns-in_err-empty_image-in-Format-clause-at_most : goal.returns-in_err-empty_image-in-Format-clause-at_most
returns-in_err-empty_image-in-Format-clause-at_most g c = none_taken _ _

pub returns-in_ok-empty_image-in-Format-clause-at_most : goal.returns-in_ok-empty_image-in-Format-clause-at_most
returns-in_ok-empty_image-in-Format-clause-at_most g c = none_taken _ _

pub returns-in-Show-clause-at_most : goal.returns-in-Show-clause-at_most
returns-in-Show-clause-at_most g c = none_taken _ _

pub returns-in-Drain-clause-at_most : goal.returns-in-Drain-clause-at_most
returns-in-Drain-clause-at_most g c = none_taken _ _

pub returns-in_err-generate-in-Gen-clause-at_most : goal.returns-in_err-generate-in-Gen-clause-at_most
returns-in_err-generate-in-Gen-clause-at_most g c = none_taken _ _

pub returns-in_ok-generate-in-Gen-clause-at_most : goal.returns-in_ok-generate-in-Gen-clause-at_most
returns-in_ok-generate-in-Gen-clause-at_most g c = none_taken _ _

pub returns-in-Rebuild-clause-at_most : goal.returns-in-Rebuild-clause-at_most
returns-in-Rebuild-clause-at_most g c = none_taken _ _

pub returns-in-Conservative-clause-at_most : goal.returns-in-Conservative-clause-at_most
returns-in-Conservative-clause-at_most g c = none_taken _ _

pub returns-in-Count-clause-at_most : goal.returns-in-Count-clause-at_most
returns-in-Count-clause-at_most g c = none_taken _ _

pub returns-in_err-empty_image-in-Format-clause-one_failed : goal.returns-in_err-empty_image-in-Format-clause-one_failed
returns-in_err-empty_image-in-Format-clause-one_failed g c = inr refl

pub returns-in_ok-empty_image-in-Format-clause-one_failed : goal.returns-in_ok-empty_image-in-Format-clause-one_failed
returns-in_ok-empty_image-in-Format-clause-one_failed g c = inr refl

pub returns-in-Show-clause-one_failed : goal.returns-in-Show-clause-one_failed
returns-in-Show-clause-one_failed g c = inr refl

pub returns-in-Drain-clause-one_failed : goal.returns-in-Drain-clause-one_failed
returns-in-Drain-clause-one_failed g c = inr refl

pub returns-in_err-generate-in-Gen-clause-one_failed : goal.returns-in_err-generate-in-Gen-clause-one_failed
returns-in_err-generate-in-Gen-clause-one_failed g c = inr refl

pub returns-in_ok-generate-in-Gen-clause-one_failed : goal.returns-in_ok-generate-in-Gen-clause-one_failed
returns-in_ok-generate-in-Gen-clause-one_failed g c = inr refl

pub returns-in-Rebuild-clause-one_failed : goal.returns-in-Rebuild-clause-one_failed
returns-in-Rebuild-clause-one_failed g c = inr refl

pub returns-in-Conservative-clause-one_failed : goal.returns-in-Conservative-clause-one_failed
returns-in-Conservative-clause-one_failed g c = inr refl

pub returns-in-Count-clause-one_failed : goal.returns-in-Count-clause-one_failed
returns-in-Count-clause-one_failed g c = inr refl
