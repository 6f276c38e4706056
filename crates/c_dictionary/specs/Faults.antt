-- Why an image is not opened, as C is told.
use Rattle.std.specs.Prelude.{◌≡◌, ℕ, List, length, Some}
use Rattle.heap_model.specs.declared.header.BadHeader.{BadHeader}
use Rattle.heap_model.specs.declared.header.BadHeader.TheVariants.{Short, Magic, Version, Capacity, Length, State, Used, Kind}
use Rattle.heap_model.specs.Header.{header_fault}
use Rattle.heap_model.specs.Image.{image_of_bytes}
use Rattle.region_header.specs.Words.{AreWordsOf}
use Rattle.dict_model.specs.Links.{kind_count}
use Rattle.dictionary_heap.specs.Faults.{TellsFault}
use Rattle.dictionary_heap.specs.declared.fault.OpenFault.{OpenFault}
use Rattle.dictionary_heap.specs.declared.fault.OpenFault.TheVariants.{Header, Outside, BadShard, Memory}
use Rattle.c_dictionary.specs.declared.fault.Fault.{Fault}

-- the place of a cause in the order in which causes are looked for, from 1
abbrev pub place_of : BadHeader → ℕ
place_of Short = 1
place_of Magic = 2
place_of Version = 3
place_of Capacity = 4
place_of Length = 5
place_of State = 6
place_of Used = 7
place_of Kind = 8

-- the status, and what the fault is then: the fields of which the status doesn't speak stay
abbrev pub status_of : OpenFault → ℕ
status_of (Header cause) = 7
status_of (Outside at value) = 8
status_of (BadShard shard at) = 9
status_of Memory = 3

-- what the record of the last fault holds once the fault is told: its cause, or the words that say where it stands
abbrev pub told : OpenFault → Fault → Fault
told (Header cause) old = record old { cause = place_of cause }
told (Outside at value) old = record old { at = at; value = value }
told (BadShard shard at) old = record old { shard = shard; at = at }
told Memory old = old

-- the first cause that makes the header of the bytes bad; where it is good, what TellsFault says of their words
abbrev pub TellsFaultOf : List ℕ → OpenFault → Type 0
TellsFaultOf bytes (Header cause) = header_fault (Some kind_count) (length bytes) (image_of_bytes bytes) ≡ Some cause
TellsFaultOf bytes (Outside at value) = (words : List ℕ) × AreWordsOf words bytes × TellsFault words (Outside at value)
TellsFaultOf bytes (BadShard shard at) = (words : List ℕ) × AreWordsOf words bytes × TellsFault words (BadShard shard at)
TellsFaultOf bytes Memory = Unit {0}

-- there is a fault, of which this is so, and which the status and the fault's fields tell
pub record IsRefused (tells : OpenFault → Type 0) (status : ℕ) (old new : Fault) : Type 0 where
  pub fault : OpenFault
  pub is_so : tells fault
  pub status_is : status ≡ status_of fault
  pub told_is : new ≡ told fault old
