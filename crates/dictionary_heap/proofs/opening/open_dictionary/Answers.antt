use Rattle.dictionary_heap.specs.Images.{current_image}
use Rattle.dictionary_heap.proofs.OpenedLemmas.{opened_shards, opened_maps, all_reached}
use Rattle.dictionary_heap.proofs.opening.open_dictionary.Goals as goal

pub returns-clause-shards : goal.returns-clause-shards
returns-clause-shards g c =
    let found = c.in_ok-found.found in
    opened_shards found.heap.words found.heap.held c.args.budget c.in_ok-new.field-0 c.in_ok-new.ensures c.in_ok-found.ensures.ok.dictionary

pub returns-clause-maps : goal.returns-clause-maps
returns-clause-maps g c =
    let found = c.in_ok-found.found in
    let is = c.in_ok-found.ensures.ok in
    opened_maps found.heap.words found.heap.held c.args.budget c.in_ok-new.field-0 c.in_ok-new.ensures is.dictionary
    (current_image c.args.image.now) is.recovers

pub returns-clause-exact : goal.returns-clause-exact
returns-clause-exact g c =
    let found = c.in_ok-found.found in
    all_reached found.heap.words found.heap.held c.args.budget c.in_ok-new.field-0 c.in_ok-new.ensures c.in_ok-found.ensures.ok.dictionary
