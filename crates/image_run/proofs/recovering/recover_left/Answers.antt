use Rattle.image_run.proofs.CommandLeftLemmas.{recovery_of_words, told_fault, none_outside}
use Rattle.image_run.proofs.recovering.recover_left.Goals as goal

pub returns-in-Ok-clause-ok : goal.returns-in-Ok-clause-ok
returns-in-Ok-clause-ok c =
    let made = c.in-Ok.ensures.ok in
    recovery_of_words c.args.words.items c.root_kinds.result c.requires.version c.in-Ok.recovered
    made.held made.free made.recovered c.in-Ok.ensures.was c.in-Ok.ensures.kinds

pub returns-in-Ok-clause-inside : goal.returns-in-Ok-clause-inside
returns-in-Ok-clause-inside c = none_outside c.args.words.items c.root_kinds.result c.requires.version c.in-Ok.ensures.none

pub returns-in-Err-Outside-clause-err : goal.returns-in-Err-Outside-clause-err
returns-in-Err-Outside-clause-err c =
    let outside = told_fault c.args.words.items c.root_kinds.result c.requires.version c.in-Err-Outside.field-0 _ _ c.in-Err-Outside.field-0-is
    c.in-Err-Outside.ensures.cause in
    rw (c.in-Err-Outside.at-is, c.in-Err-Outside.value-is) outside
