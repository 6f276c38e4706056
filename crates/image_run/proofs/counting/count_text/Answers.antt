use Rattle.std.proofs.lemmas.Result.{err_from_is_err_and}
use Rattle.image_run.proofs.CountTextLemmas.{tells_opened}
use Rattle.image_run.proofs.counting.count_text.Goals as goal

pub returns-in_err-opened-clause-cause : goal.returns-in_err-opened-clause-cause
returns-in_err-opened-clause-cause c =
    let p = err_from_is_err_and c.from_residual.result c.from_residual.ensures.1 in
    rw (p.1, p.2) c.in_err-opened.ensures.cause

pub returns-in_err-opened-clause-sure : goal.returns-in_err-opened-clause-sure
returns-in_err-opened-clause-sure c orderly =
    let p = err_from_is_err_and c.from_residual.result c.from_residual.ensures.1 in
    rw (p.1, p.2) (c.in_err-opened.ensures.sure orderly)

pub returns-clause-ok : goal.returns-clause-ok
returns-clause-ok c =
    let made = c.in_ok-opened.ensures.ok in
    tells_opened c.args.words.items c.in_ok-opened.opened c.args.with_map c.in_ok-text.text c.in_ok-text.ensures.ok made.path_is made.quick
    made.traced made.none
