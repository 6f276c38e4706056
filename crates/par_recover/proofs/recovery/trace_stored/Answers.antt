use Rattle.std.proofs.Common.{Some, slice_index, arith}
use Rattle.std.proofs.lemmas.Result.{err_from_is_err_and}
use Rattle.region_header.proofs.KindLemmas.{below_stored}
use Rattle.heap_recover.proofs.CurrentLemmas.{reached_stored, outside_traced, tells_stored}
use Rattle.par_recover.proofs.recovery.trace_stored.Goals as goal

pub kinds-stored-requires-clause-fit : goal.kinds-stored-requires-clause-fit
kinds-stored-requires-clause-fit g c i less = let small = c.requires.below i less in let few = c.requires.few in omega arith

pub trace-requires-clause-kinds : goal.trace-requires-clause-kinds
trace-requires-clause-kinds g c =
    below_stored (Some g.F.Filter.KINDS) (slice_index c.args.words.now) c.kinds-stored.result (omega arith) c.kinds-stored.ensures c.requires.below

pub returns-in_err-marks-clause-cause : goal.returns-in_err-marks-clause-cause
returns-in_err-marks-clause-cause g c =
    let told = tells_stored (slice_index c.args.words.now) (slice_index c.kinds-stored.result)
    (g.F.Filter.links_of c.args.filter.now) c.kinds-stored.ensures
    c.in_err-marks.field-0.0 c.in_err-marks.ensures.err in
    let p = err_from_is_err_and c.from_residual.result c.from_residual.ensures.1 in
    rw (p.1, p.2) told

pub returns-clause-ok : goal.returns-clause-ok
returns-clause-ok g c =
    reached_stored (slice_index c.args.words.now) (slice_index c.kinds-stored.result) (g.F.Filter.links_of c.args.filter.now) c.kinds-stored.ensures
    c.in_ok-marks.marks.pairs c.in_ok-marks.ensures.ok

pub returns-clause-none : goal.returns-clause-none
returns-clause-none g c at out =
    c.in_ok-marks.ensures.none at
    (outside_traced (slice_index c.args.words.now) (slice_index c.kinds-stored.result)
    (g.F.Filter.links_of c.args.filter.now) c.kinds-stored.ensures at out)
