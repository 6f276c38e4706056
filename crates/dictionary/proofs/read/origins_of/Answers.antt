use Rattle.std.proofs.Common.{slice_index, sym}
use Rattle.std.proofs.lemmas.Result.{IfOk-weaker}
use Rattle.heap_model.specs.Header.{kinds_of}
use Rattle.root_reach.specs.Reaching.{AreOrigins}
use Rattle.root_reach.proofs.TraceLemmas.{origins_same}
use Rattle.dict_model.specs.Links.{dict_links}
use Rattle.dictionary.proofs.read.origins_of.Goals as goal

pub returns : goal.returns
returns c =
    let image = slice_index c.args.scan.now.words.now in
    IfOk-weaker c.trace_origins.result (AreOrigins image (slice_index c.kinds.result) dict_links) (AreOrigins image (kinds_of image) dict_links)
    (λ origins are. origins_same image (slice_index c.kinds.result) (kinds_of image) dict_links origins
    (λ i below. sym (c.kinds.ensures i below)) are) c.trace_origins.ensures.ok
