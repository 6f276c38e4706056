-- What a request makes of what a handle owns.
use Rattle.std.specs.Prelude.{◌≡◌, ◌⊎◌, ℕ, List, length, Option, Some}
use Rattle.heap_seat.specs.declared.fault.Looks.{Looks}
use Rattle.heap_seat.specs.View.{View}
use Rattle.block_heap.specs.SeqState.{seat_of}
use Rattle.dict_model.specs.Nodes.{node_bytes, shard_of}
use Rattle.dict_model.specs.Shards.{Map}
use Rattle.dict_requests.specs.Puts.{PutRefused}
use Rattle.c_dictionary.specs.declared.store.Store.{Store}
use Rattle.c_dictionary.specs.Dictionary.{Holds, Turns}
use Rattle.c_dictionary.specs.Ready.{HasStopped}

-- it had a dictionary and has one, and this is so of the heap before and after
pub record Passes (old new : Option Store) (how : View → View → Type 0) : Type 0 where
  pub before : Store
  pub after : Store
  pub had : old ≡ Some before
  pub has : new ≡ Some after
  pub how_is : how (seat_of before.heap) (seat_of after.heap)

-- nothing was done, or this is so
abbrev pub MayPass : Option Store → Option Store → (View → View → Type 0) → Type 0
MayPass old new how = (new ≡ old) ⊎ Passes old new how

-- where it had a dictionary that was a map and has one, that is what is made of the map
pub record Becomes (change : Map → Map) (old new : Option Store) : Type 0 where
  pub before : Store
  pub after : Store
  pub had : old ≡ Some before
  pub has : new ≡ Some after
  pub turns : Turns change before after

-- the dictionary stays as it is, and of each map that it is, this is so
pub record Tells (how : Map → Type 0) (old new : Option Store) : Type 0 where
  pub store : Store
  pub had : old ≡ Some store
  pub stays : new ≡ old
  pub tells : (map : Map) → Holds map store → how map

-- within a put the heap refused a request for want of room: that of the node, or of the shard's first table
abbrev pub HadNoRoom : ℕ → List ℕ → View → View → Type 0
HadNoRoom key value v w = (looks : Looks) × PutRefused (node_bytes (length value)) (shard_of key) looks v w

-- it has a dictionary, and that has stopped
pub record HasHalted (value : Option Store) : Type 0 where
  pub store : Store
  pub has : value ≡ Some store
  pub stopped : HasStopped store
