use Rattle.std.proofs.Common.{rules, Some, slice_index}
use Rattle.heap_model.specs.Header.{kinds_of}
use Rattle.heap_model.specs.Reach.{IsReachedIn}
use Rattle.filter_trace.specs.Reached.{AreReached}
use Rattle.heap_recover.proofs.KeptLemmas.{made_of_reached, marked_blocks}
use Rattle.heap_recover.proofs.CurrentLemmas.{kinds_left}
use Rattle.par_recover.proofs.recovery.recover_current_par.Goals as goal

pub keep_marked-requires-clause-keeps : goal.keep_marked-requires-clause-keeps
keep_marked-requires-clause-keeps g c =
    let image = slice_index c.args.words.items in
    let links = g.F.Filter.links_of c.args.filter.now in
    let are : AreReached image (kinds_of image) links c.in_ok-marks.marks.pairs = search rules in
    marked_blocks image (kinds_of image) links c.in_ok-marks.marks.pairs are

pub returns-clause-ok : goal.returns-clause-ok
returns-clause-ok g c =
    let image = slice_index c.args.words.items in
    let links = g.F.Filter.links_of c.args.filter.now in
    let are : AreReached image (kinds_of image) links c.in_ok-marks.marks.pairs = search rules in
    made_of_reached c.args.words.items (kinds_of image) links c.in_ok-marks.marks.pairs c.in_ok-recovered.recovered are c.in_ok-recovered.ensures.ok

pub returns-clause-kinds : goal.returns-clause-kinds
returns-clause-kinds g c =
    let image = slice_index c.args.words.items in
    let links = g.F.Filter.links_of c.args.filter.now in
    kinds_left (Some g.F.Filter.KINDS) image (slice_index c.in_ok-recovered.recovered.heap.words) (IsReachedIn image links)
    (returns-clause-ok g c).recovered c.requires.below
