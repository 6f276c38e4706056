-- What recovery leaves of an image is a dictionary where each shard was read as a map; and why there is none.
use Rattle.std.proofs.Common.{◌≡◌, ℕ, ◌*◌, List, Some, length, slice_index, subst}
use Rattle.heap_model.specs.declared.block.Block.{Block}
use Rattle.heap_model.specs.Header.{HasGoodHeader, HasKindsBelow, first_kinds}
use Rattle.heap_model.specs.Image.{Image}
use Rattle.heap_model.specs.Reach.{IsReachedIn, IsOutsideIn}
use Rattle.heap_model.specs.Recovered.{AreAscending}
use Rattle.heap_model.specs.Recovery.{IsRecovered}
use Rattle.heap_model.specs.Rest.{IsReady}
use Rattle.heap_model.proofs.HeaderLemmas.{no_fault}
use Rattle.region_header.specs.Migration.{current_words}
use Rattle.heap_recover.specs.Fault.{TellsFault as TellsRecovery}
use Rattle.heap_recover.specs.declared.fault.RecoverFault.{RecoverFault}
use Rattle.heap_recover.specs.declared.fault.RecoverFault.TheVariants.{Header, Outside, Memory}
use Rattle.dict_model.specs.Links.{shards, dict_links, kind_count}
use Rattle.dictionary.specs.Reading.{AreMaps, RecoversTo, TellsLowest}
use Rattle.dictionary.specs.declared.fault.MapFault.{MapFault}
use Rattle.dictionary.specs.declared.fault.MapFault.TheVariants.{BadShard, Memory as NoMemory}
use Rattle.dictionary.proofs.SameLemmas.{recovers_to, maps_of_image, lowest_of_image}
use Rattle.worker_run.proofs.RecoveredLemmas.{recovered_dictionary}
use Rattle.dictionary_heap.specs.Images.{current_image, CanBeRecovered}
use Rattle.dictionary_heap.specs.Opened.{IsDictionaryOf}
use Rattle.dictionary_heap.specs.Faults.{of_recovery, of_maps, TellsFault}
use Rattle.dictionary_heap.specs.declared.recovering.RecoveredDictionary.{RecoveredDictionary}

-- the dictionary that was recovered, with its maps
found_in : (image : Image) (found : RecoveredDictionary) → IsReady found.heap.words found.heap.held
    → AreAscending (λ (b : Block). b.first_word) (IsReachedIn image dict_links) found.heap.held
    → IsRecovered image (slice_index found.heap.words) (IsReachedIn image dict_links)
    → ((at : ℕ) → IsOutsideIn image dict_links at → ⊥) → HasKindsBelow (Some kind_count) (slice_index found.heap.words)
    → AreMaps (slice_index found.heap.words) shards found.maps.items → IsDictionaryOf image found
found_in image found ready ascending left none kinds are =
    let new = slice_index found.heap.words in
    let to = recovers_to image new left none (λ b reached. ready.blocks b (ascending.complete b reached)) in
    record {
      ready = ready;
      recovers = to;
      dictionary = recovered_dictionary image new to found.heap.held ascending found.maps.items kinds are;
      maps_are = maps_of_image image new to found.maps.items are;
    }

module _ (words kinds : List ℕ) (first : kinds ≡ first_kinds) where
  abbrev image : Image
  image = slice_index (current_words words kinds)

  pub found_is : (found : RecoveredDictionary) → IsReady found.heap.words found.heap.held
      → AreAscending (λ (b : Block). b.first_word) (IsReachedIn image dict_links) found.heap.held
      → IsRecovered image (slice_index found.heap.words) (IsReachedIn image dict_links)
      → ((at : ℕ) → IsOutsideIn image dict_links at → ⊥) → HasKindsBelow (Some kind_count) (slice_index found.heap.words)
      → AreMaps (slice_index found.heap.words) shards found.maps.items → IsDictionaryOf (current_image words) found
  found_is found ready ascending left none kinds are =
      subst (λ (ks : List ℕ). IsDictionaryOf (slice_index (current_words words ks)) found) first
      (found_in image found ready ascending left none kinds are)

  -- recovery did not refuse the words
  pub can_be : HasGoodHeader (Some kind_count) (8 * length words) (slice_index words) → ((at : ℕ) → IsOutsideIn image dict_links at → ⊥)
      → CanBeRecovered words
  can_be good none = record {
    header = no_fault (Some kind_count) (8 * length words) (slice_index words) good;
    inside = subst (λ (ks : List ℕ). (at : ℕ) → IsOutsideIn (slice_index (current_words words ks)) dict_links at → ⊥) first none;
  }

  -- or it did
  pub tells_recovery : (fault : RecoverFault) → TellsRecovery (Some kind_count) words (current_words words kinds) dict_links fault
      → TellsFault words (of_recovery fault)
  tells_recovery fault tells = told fault (subst (λ (ks : List ℕ). TellsRecovery (Some kind_count) words
      (current_words words ks) dict_links fault) first tells) where
        told : (f : RecoverFault) → TellsRecovery (Some kind_count) words (current_words words first_kinds) dict_links f → TellsFault words (of_recovery f)
        told (Header cause) is = is
        told (Outside at value) is = is
        told Memory is = tt

  -- or a shard has no map
  pub tells_maps : (new : Image) → CanBeRecovered words → RecoversTo image new → (fault : MapFault) → TellsLowest new fault
      → TellsFault words (of_maps fault)
  tells_maps new can to fault tells =
      told fault (subst (λ (ks : List ℕ). TellsLowest (slice_index (current_words words ks)) fault) first
      (lowest_of_image image new to fault tells)) where
        told : (f : MapFault) → TellsLowest (current_image words) f → TellsFault words (of_maps f)
        told (BadShard shard at) is = (can, is)
        told NoMemory is = tt
