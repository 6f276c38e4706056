-- What recovery makes of an image, and the report on it.
use Rattle.std.specs.Prelude.{◌≡◌, ◌↔◌, ℕ, ◌/◌, ◌<◌, Bool, List, [], ◌++◌, length, nat_eq, if◌then◌else◌, Option, Some, slice_index}
use Rattle.std.specs.BTreeMap.{BTreeMap}
use Rattle.heap_model.specs.declared.header.BadHeader.{BadHeader}
use Rattle.heap_model.specs.declared.block.Block.{Block}
use Rattle.heap_model.specs.Blocks.{layout_of}
use Rattle.heap_model.specs.Reach.{IsReachedIn, IsOutsideIn}
use Rattle.heap_model.specs.Recovered.{IsFreeSuperblock, AreAscending}
use Rattle.heap_model.specs.Recovery.{IsRecovered}
use Rattle.heap_model.specs.Geometry.{clean}
use Rattle.heap_model.specs.Image.{Image, image_of_bytes, words_from}
use Rattle.heap_model.specs.Header.{capacity_of, state_of, header_fault, first_kinds, HasKindsBelow}
use Rattle.region_header.specs.Migration.{current_words}
use Rattle.heap_recover.specs.declared.answer.Recovered.{Recovered}
use Rattle.heap_recover.specs.declared.answer.Was.TheVariants.{Clean}
use Rattle.dict_model.specs.Links.{dict_links, kind_count, shards}
use Rattle.dict_model.specs.Shards.{Map, MapOf}
use Rattle.trace_text.specs.Report.{report_of}
use Rattle.trace_text.specs.Keys.{Entries, keys_text, TellsKeys}
use Rattle.trace_text.specs.HeapMap.{map_of}
use Rattle.trace_text.specs.Recovered.{is_clean}

-- the first cause for which an image of these bytes is malformed, where the kinds are those of the dictionary
abbrev pub fault_of : List ℕ → Option BadHeader
fault_of bytes = header_fault (Some kind_count) (length bytes) (image_of_bytes bytes)

-- the words in the bytes of a file
abbrev pub words_in_bytes : List ℕ → List ℕ
words_in_bytes bytes = words_from (image_of_bytes bytes) 0 (length bytes / 8)

-- the image in the bytes of a file, in the new version: one of the old version is migrated, with the kinds that `format` gives
abbrev pub image_in : List ℕ → Image
image_in bytes = slice_index (current_words (words_in_bytes bytes) first_kinds)

-- what the tool's filter reaches in an image: the dictionary's tables and nodes, and what the other roots lead to
abbrev pub IsKept : Image → Block → Type 0
IsKept image = IsReachedIn image dict_links

-- a root or linked word that points to no block
abbrev pub PointsOutside : Image → ℕ → Type 0
PointsOutside image at = IsOutsideIn image dict_links at

-- recovery of the image keeps exactly these blocks, frees these superblocks, and leaves these words
pub record Recovers (image : Image) (held : List Block) (free : List ℕ) (words : Image) : Type 0 where
  pub held_are : AreAscending (λ (b : Block). b.first_word) (IsKept image) held
  pub free_are : AreAscending (λ d. d) (IsFreeSuperblock (layout_of image) (IsKept image)) free
  pub words_are : IsRecovered image words (IsKept image)

-- the heap is what recovery of the image gives
pub record IsRecoveredHeap (image : Image) (recovered : Recovered) : Type 0 where
  pub recovers : Recovers image recovered.heap.held recovered.free.items (slice_index recovered.heap.words)
  pub was : (recovered.was ≡ Clean) ↔ (state_of image ≡ clean)
  pub kinds : HasKindsBelow (Some kind_count) (slice_index recovered.heap.words)

-- the report on an image once it is recovered, without its keys
pub record TellsHeap (image : Image) (text : List ℕ) : Type 0 where
  pub held : List Block
  pub free : List ℕ
  pub words : Image
  pub recovered : Recovers image held free words
  pub text_is : text ≡ report_of (capacity_of image) (nat_eq (state_of image) clean) [] held

-- a key of one of the shards, with its value
pub record IsEntryOf (image : Image) (entry : ℕ × List ℕ) : Type 0 where
  pub shard : ℕ
  pub below : shard < shards
  pub keys : Map
  pub keys_are : MapOf image shard keys
  pub has : keys entry.0 ≡ Some entry.1

-- the report on a recovered image, with what is told of its keys, and its map where that is asked for
abbrev pub shown_text : Image → Bool → List ℕ → List Block → List ℕ → Image → List ℕ
shown_text image with_map keys held free words =
    report_of (capacity_of image) (nat_eq (state_of image) clean) keys held ++ (if with_map then map_of words held free else [])

-- the text on an image once it is recovered, each shard of which has a map: with a line for each key, or their sum
pub record Reports (image : Image) (with_sum with_map : Bool) (text : List ℕ) : Type 0 where
  pub held : List Block
  pub free : List ℕ
  pub words : Image
  pub recovered : Recovers image held free words
  pub maps : (i : ℕ) → i < shards → (map : Map) × MapOf image i map
  pub entries : Entries
  pub entries_are : AreAscending (λ entry. entry.0) (IsEntryOf image) entries
  pub text_is : text ≡ shown_text image with_map (keys_text with_sum entries) held free words

-- the map of a recovered heap where it is asked for, and else no text
abbrev pub map_if : Recovered → Bool → List ℕ
map_if recovered with_map = if with_map then map_of (slice_index recovered.heap.words) recovered.heap.held recovered.free.items else []

-- the text on a recovered heap, with what is told of its keys
abbrev pub text_of : Recovered → List ℕ → Bool → List ℕ
text_of recovered keys with_map =
    report_of (capacity_of (slice_index recovered.heap.words)) (is_clean recovered.was) keys recovered.heap.held ++ map_if recovered with_map

-- the text is that on the heap and on these maps
pub record IsTextOf (recovered : Recovered) (maps : List (BTreeMap ℕ (List ℕ))) (with_sum with_map : Bool) (text : List ℕ) : Type 0 where
  pub keys : List ℕ
  pub keys_are : TellsKeys (Some maps) with_sum keys
  pub is : text ≡ text_of recovered keys with_map
