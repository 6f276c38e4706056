-- Why words are not opened as a dictionary.
use Rattle.std.specs.Prelude.{◌≡◌, ℕ, ◌*◌, List, length, slice_index, None, Some}
use Rattle.heap_model.specs.Header.{header_fault}
use Rattle.heap_model.specs.Reach.{IsOutsideIn}
use Rattle.heap_recover.specs.declared.fault.RecoverFault.{RecoverFault}
use Rattle.heap_recover.specs.declared.fault.RecoverFault.TheVariants.{Header as BadHeader, Outside as OutsideFound, Memory as MemoryRanOut}
use Rattle.dict_model.specs.Links.{dict_links, kind_count}
use Rattle.dictionary.specs.Reading.{TellsLowest}
use Rattle.dictionary.specs.declared.fault.MapFault.{MapFault}
use Rattle.dictionary.specs.declared.fault.MapFault.TheVariants.{BadShard as NoMap, Memory as NoMemory}
use Rattle.dictionary_heap.specs.Images.{current_image, CanBeRecovered}
use Rattle.dictionary_heap.specs.declared.fault.OpenFault.{OpenFault}
use Rattle.dictionary_heap.specs.declared.fault.OpenFault.TheVariants.{Header, Outside, BadShard, Memory}

-- the fault of a recovery, and of a reading of the maps
abbrev pub of_recovery : RecoverFault → OpenFault
of_recovery (BadHeader cause) = Header cause
of_recovery (OutsideFound at value) = Outside at value
of_recovery MemoryRanOut = Memory

-- and a fault of reading maps
abbrev pub of_maps : MapFault → OpenFault
of_maps (NoMap shard at) = BadShard shard at
of_maps NoMemory = Memory

-- The first cause that makes the header bad. Where it is good: a word that is outside, and its value. Where nothing is
-- outside: the lowest shard that has no map, and its first bad place. Of want of memory nothing is said.
abbrev pub TellsFault : List ℕ → OpenFault → Type 0
TellsFault words (Header cause) = header_fault (Some kind_count) (8 * length words) (slice_index words) ≡ Some cause
TellsFault words (Outside at value) =
    (header_fault (Some kind_count) (8 * length words) (slice_index words) ≡ None)
    × IsOutsideIn (current_image words) dict_links at × (value ≡ current_image words at)
TellsFault words (BadShard shard at) = CanBeRecovered words × TellsLowest (current_image words) (NoMap shard at)
TellsFault words Memory = Unit {0}
