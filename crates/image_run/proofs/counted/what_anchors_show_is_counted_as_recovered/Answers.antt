use Rattle.image_run.proofs.CountedLemmas.{told_as_recovered, told_of_run}
use Rattle.image_run.proofs.counted.what_anchors_show_is_counted_as_recovered.Goals as goal

pub returns-clause-image : goal.returns-clause-image
returns-clause-image c words with_map text orderly same tells held free left recovers =
    told_as_recovered words with_map text orderly same held free left recovers tells

pub returns-clause-run : goal.returns-clause-run
returns-clause-run c image requests options put told have run closed = told_of_run image requests options put told have run closed
