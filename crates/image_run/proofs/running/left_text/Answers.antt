use Rattle.std.proofs.Common.{ℕ, List, IfSome, slice_index, subst}
use Rattle.std.specs.BTreeMap.{BTreeMap}
use Rattle.dict_model.specs.Links.{shards}
use Rattle.dictionary.specs.Reading.{AreMaps, TellsLowest}
use Rattle.dictionary.specs.declared.fault.MapFault.{MapFault}
use Rattle.image_run.specs.Reporting.{IsTextOf}
use Rattle.image_run.proofs.CommandLeftLemmas.{shard_good}
use Rattle.dictionary.proofs.SameLemmas.{maps_of_image}
use Rattle.image_run.proofs.RecoveredLemmas.{recovers_to}
use Rattle.image_run.proofs.TextLemmas.{reports, if_answer}
use Rattle.image_run.proofs.running.left_text.Goals as goal

pub unreachable-requires : goal.unreachable-requires
unreachable-requires c =
    let words = c.args.words.items in
    let answer = c.in_ok-recovered.recovered in
    let to = recovers_to (slice_index words) answer c.in_ok-recovered.ensures c.requires.run.nothing_outside c.read_maps.ensures.ready in
    let tells = subst (λ (f : MapFault). TellsLowest (slice_index answer.heap.words) f) c.in-Err-BadShard.field-0-is c.in-Err-BadShard.ensures.err in
    shard_good words (slice_index answer.heap.words) c.in-Err-BadShard.field-0-0 c.in-Err-BadShard.field-0-1 c.requires.run to tells

pub returns : goal.returns
returns c =
    let words = c.args.words.items in
    let answer = c.in_ok-recovered.recovered in
    let to = recovers_to (slice_index words) answer c.in_ok-recovered.ensures c.requires.run.nothing_outside c.read_maps.ensures.ready in
    let are = maps_of_image (slice_index words) (slice_index answer.heap.words) to c.in-Ok.maps.items c.in-Ok.ensures.ok in
    if_answer _ _ c.recovered_text-2.result c.recovered_text-2.ensures.ok (λ text is.
    reports (slice_index words) answer c.in-Ok.maps.items c.args.options.with_sum c.args.options.with_map text c.in_ok-recovered.ensures are
    (subst (λ (ms : List (BTreeMap ℕ (List ℕ))). IsTextOf answer ms c.args.options.with_sum c.args.options.with_map text) c.deref-2.ensures.value is))

pub returns-in-Some : goal.returns-in-Some
returns-in-Some c =
    let words = c.args.words.items in
    let answer = c.in_ok-recovered.recovered in
    if_answer _ _ c.recovered_text.result c.recovered_text.ensures.ok (λ text is.
    reports (slice_index words) answer c.in-Some.maps.items c.args.options.with_sum c.args.options.with_map text c.in_ok-recovered.ensures
    (subst (λ found. IfSome found (λ maps. AreMaps (slice_index words) shards maps.items)) c.in-Some.is c.requires.maps)
    (subst (λ (ms : List (BTreeMap ℕ (List ℕ))). IsTextOf answer ms c.args.options.with_sum c.args.options.with_map text) c.deref.ensures.value is))
