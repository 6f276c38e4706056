-- What recovery of an image gives the tool, and what draining a class of it gives.
use Rattle.std.specs.Prelude.{◌≡◌, ◌≢◌, ◌↔◌, ℕ, ◌*◌, List, length, Option, None, Contains, AllPairs, IsTrue, slice_index}
use Rattle.heap_model.specs.declared.block.Block.{Block}
use Rattle.heap_model.specs.Geometry.{clean}
use Rattle.heap_model.specs.Header.{IsWellFormed, HasKindsBelow, capacity_of, state_of, first_kinds}
use Rattle.heap_model.specs.Recovered.{AreAscending}
use Rattle.heap_recover.specs.declared.answer.Recovered.{Recovered}
use Rattle.heap_at_rest.specs.Draining.{IsDrainable, IsToDrain}
use Rattle.region_header.specs.Migration.{current_words}
use Rattle.tool_ports.specs.Contents.{Contents, Holds}
pub use Rattle.image_run.specs.Reporting.{IsRecoveredHeap, IsTextOf, words_in_bytes}
use Rattle.std.specs.BTreeMap.{BTreeMap}
use Rattle.dict_model.specs.Links.{shards}
use Rattle.dictionary.specs.Reading.{RecoversTo, AreMaps}
use Rattle.run_model.specs.Opened.{IsDictionary}
use Rattle.tool_run.specs.declared.getting.CurrentImage.{CurrentImage}
use Rattle.tool_run.specs.Making.{PointsOutside, HasMapped, fault_of, fault_within, image_in, drained_text}

-- the bytes are the image of this name, and their header is good under this limit of kinds
pub record IsGoodImage (limit : Option ℕ) (contents : Contents) (name bytes : List ℕ) : Type 0 where
  pub is_there : Holds contents name bytes
  pub good : fault_within limit bytes ≡ None

-- The words are those of the image of this name in the new version, whose header is good under this limit of kinds; one of
-- the old version has these kinds. And whether it was closed is known.
pub record IsCurrentImage (limit : Option ℕ) (kinds : List ℕ) (contents : Contents) (name : List ℕ) (image : CurrentImage) : Type 0 where
  pub bytes : List ℕ
  pub good : IsGoodImage limit contents name bytes
  pub words_are : image.words.items ≡ current_words (words_in_bytes bytes) kinds
  pub formed : IsWellFormed (8 * length image.words.items) (slice_index image.words.items)
  pub below : HasKindsBelow limit (slice_index image.words.items)
  pub closed : IsTrue image.closed ↔ (state_of (slice_index image.words.items) ≡ clean)

-- the bytes hold an image with a good header, in the new version
abbrev pub HoldsImage : List ℕ → Type 0
HoldsImage bytes = IsWellFormed (8 * length (current_words (words_in_bytes bytes) first_kinds)) (image_in bytes)

-- the heap is what recovery of the image of this name gives
pub record IsRecoveredHeapOf (contents : Contents) (name : List ℕ) (recovered : Recovered) : Type 0 where
  pub bytes : List ℕ
  pub is_there : Holds contents name bytes
  pub good : fault_of bytes ≡ None
  pub inside : (at : ℕ) → PointsOutside (image_in bytes) at → ⊥
  pub formed : HoldsImage bytes
  pub is : IsRecoveredHeap (image_in bytes) recovered
  pub long : length recovered.heap.words ≡ length (current_words (words_in_bytes bytes) first_kinds)

-- and these are the words of that image, in the new version
pub record IsRecoveredFrom (contents : Contents) (name words : List ℕ) (recovered : Recovered) : Type 0 where
  pub image : IsRecoveredHeapOf contents name recovered
  pub words_are : words ≡ current_words (words_in_bytes image.bytes) first_kinds

-- the heap is what recovery makes of the image of this name, and each shard of it has a map
pub record IsMapped (contents : Contents) (name words : List ℕ) (held : List Block) : Type 0 where
  pub image : HasMapped contents name
  pub to : RecoversTo (image_in image.bytes) (slice_index words)
  pub maps : List (BTreeMap ℕ (List ℕ))
  pub are : AreMaps (slice_index words) shards maps
  pub dictionary : IsDictionary (slice_index words) (Contains held)

-- each taken superblock of a heap at rest that holds no part of a held block is in its free list, or is cut for the class
abbrev pub IsDrainableAtRest : List ℕ → List Block → ℕ → Type 0
IsDrainableAtRest words held class = IsDrainable (capacity_of (slice_index words)) (slice_index words) held class

-- draining the class of a heap at rest gives the block
abbrev pub IsGiven : List ℕ → List Block → ℕ → Block → Type 0
IsGiven words held class b = IsToDrain (capacity_of (slice_index words)) (slice_index words) held class b

-- the byte offset of such a block
pub record IsOffsetGiven (words : List ℕ) (held : List Block) (class : ℕ) (offset : ℕ) : Type 0 where
  pub block : Block
  pub is_given : IsGiven words held class block
  pub at : offset ≡ 8 * block.first_word

-- exactly these offsets, each once
pub record AreGiven (words : List ℕ) (held : List Block) (class : ℕ) (offsets : List ℕ) : Type 0 where
  pub sound : (offset : ℕ) → Contains offsets offset → IsOffsetGiven words held class offset
  pub complete : (offset : ℕ) → IsOffsetGiven words held class offset → Contains offsets offset
  pub once : AllPairs (λ x y. x ≢ y) offsets

-- the text on them, in ascending order
pub record IsGivenText (words : List ℕ) (held : List Block) (class : ℕ) (text : List ℕ) : Type 0 where
  pub offsets : List ℕ
  pub given : AreAscending (λ offset. offset) (IsOffsetGiven words held class) offsets
  pub text_is : text ≡ drained_text class offsets
