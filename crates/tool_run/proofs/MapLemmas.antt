-- The lowest bad shard of a recovered heap is that of the image, and where there is none the heap is a dictionary.
use Rattle.std.proofs.Common.{◌≡◌, ℕ, List, slice_index, sym, subst, arith}
use Rattle.std.specs.BTreeMap.{BTreeMap, get}
use Rattle.std.specs.Ordering.{nat_cmp}
use Rattle.heap_model.specs.Rest.{IsReady}
use Rattle.tool_run.specs.Making.{image_in}
use Rattle.dict_model.specs.Links.{shards}
use Rattle.dictionary.specs.declared.fault.MapFault.{MapFault}
use Rattle.dictionary.specs.declared.fault.MapFault.TheVariants.{BadShard as NoMap, Memory as MapMemory}
use Rattle.dictionary.specs.Reading.{AreMaps, TellsLowest, RecoversTo}
use Rattle.dictionary.proofs.SameLemmas.{map_kept, bad_kept, maps_of_image}
use Rattle.heap_recover.specs.declared.answer.Recovered.{Recovered}
use Rattle.image_run.proofs.RecoveredLemmas.{recovers_to}
use Rattle.worker_run.proofs.RecoveredLemmas.{recovered_dictionary}
use Rattle.tool_ports.specs.Contents.{Contents}
use Rattle.tool_run.specs.declared.fault.Fault.{Fault}
use Rattle.tool_command.specs.Command.{Command, image_name}
use Rattle.tool_run.specs.Inside.{Refuses, fault_of_maps}
use Rattle.tool_run.specs.Making.{HasBadShard}
use Rattle.tool_run.specs.CommandUses.{Reads}
use Rattle.tool_run.specs.Recovering.{IsRecoveredHeapOf, IsMapped}

module _ (contents : Contents) (name : List ℕ) (recovered : Recovered) (is : IsRecoveredHeapOf contents name recovered)
    (ready : IsReady recovered.heap.words recovered.heap.held) where
  pub to_words : RecoversTo (image_in is.bytes) (slice_index recovered.heap.words)
  to_words = recovers_to (image_in is.bytes) recovered is.is is.inside ready

  pub is_mapped : (maps : List (BTreeMap ℕ (List ℕ))) → AreMaps (slice_index recovered.heap.words) shards maps
      → IsMapped contents name recovered.heap.words recovered.heap.held
  is_mapped maps are =
      let of_image = maps_of_image (image_in is.bytes) (slice_index recovered.heap.words) to_words maps are in
      record {
        image = record {
          bytes = is.bytes;
          is_there = is.is_there;
          good = is.good;
          inside = is.inside;
          maps = λ i below. let each = of_image.each i below in (get nat_cmp each.0, each.2);
        };
        to = to_words;
        maps = maps;
        are = are;
        dictionary = recovered_dictionary (image_in is.bytes) (slice_index recovered.heap.words)
            to_words recovered.heap.held is.is.recovers.held_are maps is.is.kinds are;
      }

  pub refuses_maps : (command : Command) (get_failed : Type 0) (cause : MapFault) (fault : Fault) → fault ≡ fault_of_maps cause
      → TellsLowest (slice_index recovered.heap.words) cause
      → Reads command → image_name command ≡ name → Refuses command contents get_failed fault
  refuses_maps command get_failed MapMemory fault same tells reads named = subst (λ (f : Fault). Refuses command contents get_failed f) (sym same) tt
  refuses_maps command get_failed (NoMap shard at) fault same tells reads named =
      let has : HasBadShard contents name shard at = record {
        bytes = is.bytes;
        is_there = is.is_there;
        good = is.good;
        inside = is.inside;
        lowest = record {
          below = tells.0;
          bad = bad_kept (image_in is.bytes) (slice_index recovered.heap.words) to_words shard at tells.0 tells.1;
          lower = λ i low. let map = tells.2 i low in
              (map.0, map_kept (image_in is.bytes) (slice_index recovered.heap.words) to_words i map.0 (omega arith) map.1);
        };
      } in
      subst (λ (f : Fault). Refuses command contents get_failed f) (sym same)
      (reads, subst (λ (n : List ℕ). HasBadShard contents n shard at) (sym named) has)
