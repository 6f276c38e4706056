use Rattle.std.proofs.Common.{IfOk, slice_index, sym, subst}
use Rattle.super_block.specs.Contents.{Contents}
use Rattle.heap_model.specs.Header.{kinds_of}
use Rattle.root_reach.specs.Reaching.{AreOrigins}
use Rattle.dict_model.specs.Links.{dict_links}
use Rattle.run_model.specs.Opened.{HasMaps}
use Rattle.seat_owners.specs.Owning.{AreOwnersByRoot}
use Rattle.seat_owners.proofs.owners.owners_of_mapped.Goals as goal

pub owners_by-requires-clause-maps : goal.owners_by-requires-clause-maps
owners_by-requires-clause-maps c = subst (λ (heap : Contents). HasMaps (slice_index heap.words)) (sym c.heap.ensures) c.requires.dictionary.maps

pub owners_by-requires-clause-origins : goal.owners_by-requires-clause-origins
owners_by-requires-clause-origins c =
    subst (λ (heap : Contents). AreOrigins (slice_index heap.words) (kinds_of (slice_index heap.words)) dict_links c.origins.result.now)
    (sym c.heap.ensures) c.origins.ensures

pub returns : goal.returns
returns c = subst (λ (heap : Contents). IfOk c.owners_by.result (λ o. AreOwnersByRoot
    (slice_index heap.words) heap.held c.args.workers o.held o.roots)) c.heap.ensures c.owners_by.ensures
