use Rattle.std.proofs.Common.{◌∙◌, ℕ, List, slice_index, ap, sym, subst}
use Rattle.std.specs.BTreeMap.{BTreeMap}
use Rattle.super_block.specs.Contents.{Contents}
use Rattle.core_model.specs.Opening.{AreOwners, opened_view, setup_of}
use Rattle.heap_table.specs.Rule.{Opening, opening_of, setup_for}
use Rattle.heap_rule.specs.Seats.{AreOpenedSeats}
use Rattle.dict_model.specs.Links.{shards}
use Rattle.dictionary.specs.Reading.{AreMaps}
use Rattle.run_model.specs.Opened.{HasMaps}
use Rattle.tool_ports.specs.Chances.{unasked}
use Rattle.shared_run.proofs.OpeningLemmas.{opened_fresh}
use Rattle.shared_run.proofs.run.open.Goals as goal

pub open_shared-requires-clause-owners : goal.open_shared-requires-clause-owners
open_shared-requires-clause-owners g c =
    subst (λ (heap : Contents). AreOwners heap.held c.args.workers c.in_ok-owners.owners.held c.in_ok-owners.owners.roots)
    (sym c.into_parts-heap.ensures.heap) c.in_ok-owners.ensures.fits

pub deal-requires-clause-maps : goal.deal-requires-clause-maps
deal-requires-clause-maps g c κs within =
    subst (λ (o : Opening). HasMaps (slice_index (setup_for o).opened))
    (sym (c.in_ok-shared.ensures.opening ∙ ap (λ (heap : Contents). opening_of heap c.in_ok-owners.owners c.args.workers c.args.budget)
    c.into_parts-heap.ensures.heap)) c.requires.dictionary.maps

pub deal-requires-clause-read : goal.deal-requires-clause-read
deal-requires-clause-read g c κs within =
    subst (λ (o : Opening). AreMaps (slice_index (setup_for o).opened) shards c.deref.result.now)
    (sym (c.in_ok-shared.ensures.opening ∙ ap (λ (heap : Contents). opening_of heap c.in_ok-owners.owners c.args.workers c.args.budget)
    c.into_parts-heap.ensures.heap))
    (subst (λ (ms : List (BTreeMap ℕ (List ℕ))). AreMaps (slice_index c.args.mapped.words) shards ms)
    (sym c.deref.ensures.value) c.into_parts-heap.ensures.maps)

pub deal-requires-clause-fresh : goal.deal-requires-clause-fresh
deal-requires-clause-fresh g c κs within = opened_fresh c.args.mapped.words c.args.mapped.held c.args.workers c.args.budget
    c.in_ok-owners.owners.held c.in_ok-owners.owners.roots c.into_parts-heap.ensures.ready c.requires.dictionary
    c.in_ok-owners.ensures c.in_ok-shared.shared c.in_ok-shared.seats.items
    (c.in_ok-shared.ensures.opening ∙ ap (λ (heap : Contents). opening_of heap c.in_ok-owners.owners c.args.workers c.args.budget)
    c.into_parts-heap.ensures.heap)
    (subst (λ (heap : Contents). AreOpenedSeats c.in_ok-shared.shared
    (opened_view (setup_of heap.words c.args.budget c.args.workers) heap.held c.in_ok-owners.owners.held c.in_ok-owners.owners.roots)
    c.in_ok-shared.seats.items)
    c.into_parts-heap.ensures.heap c.in_ok-shared.ensures.seats)

pub returns-clause-opening : goal.returns-clause-opening
returns-clause-opening g c = (
  c.in_ok-owners.owners,
  c.in_ok-owners.ensures,
  c.in_ok-shared.ensures.opening ∙ ap (λ (heap : Contents). opening_of heap c.in_ok-owners.owners c.args.workers c.args.budget)
      c.into_parts-heap.ensures.heap,
)

pub returns-in_err-longest-clause-chances : goal.returns-in_err-longest-clause-chances
returns-in_err-longest-clause-chances g c = unasked

pub returns-in_err-owners-clause-chances : goal.returns-in_err-owners-clause-chances
returns-in_err-owners-clause-chances g c = unasked

pub returns-in_err-shared-clause-chances : goal.returns-in_err-shared-clause-chances
returns-in_err-shared-clause-chances g c = unasked
