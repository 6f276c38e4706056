use Rattle.std.proofs.Common.{slice_index, subst}
use Rattle.image_run.specs.declared.fault.ReplayFault.{ReplayFault}
use Rattle.image_run.specs.Replaying.{StopsReport}
use Rattle.image_run.proofs.recovering.recover_inside.Goals as goal

pub unreachable-requires : goal.unreachable-requires
unreachable-requires c =
    let words = slice_index c.args.words.items in
    let why = subst (λ (f : ReplayFault). StopsReport words f) c.in-Err-Outside.field-0-is c.in-Err-Outside.ensures.err in
    c.requires.inside c.in-Err-Outside.field-0-0 why.0
