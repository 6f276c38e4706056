-- What belongs to no shard stands in a seat's part of a heap as it did in the image that was opened.
use Rattle.std.specs.Prelude.{ℕ, Contains}
use Rattle.heap_model.specs.declared.block.Block.{Block}
use Rattle.heap_model.specs.Image.{Image}
use Rattle.heap_model.specs.Header.{kinds_of}
use Rattle.heap_model.specs.Geometry.{root_word}
use Rattle.heap_model.specs.Blocks.{IsIn}
use Rattle.heap_model.specs.Reach.{ReachFrom}
use Rattle.heap_seat.specs.View.{View}
use Rattle.heap_seat.specs.Words.{StoresKinds}
use Rattle.dict_model.specs.Links.{dict_links}
use Rattle.dict_requests.specs.Reached.{ReachesOnlyHeld}
use Rattle.dict_requests.specs.Trails.{IsDurableAt}
use Rattle.run_model.specs.Runs.{IsOtherRoot}

-- a root of the seat that is no shard's
abbrev pub IsOwnOther : View → ℕ → Type 0
IsOwnOther v root = IsOtherRoot root × Contains v.roots root

-- the seat's other roots, and the blocks that the image reaches from them, are held with its words, which are durable
pub record HasOthers (image : Image) (v : View) : Type 0 where
  pub root_words : (root : ℕ) → IsOwnOther v root → IsDurableAt v (root_word root) (image (root_word root))
  pub blocks : (b : Block) (kind : ℕ) → ReachFrom image (IsOwnOther v) (kinds_of image) dict_links b kind → Contains v.held b
  pub words : (b : Block) (kind word : ℕ) → ReachFrom image (IsOwnOther v) (kinds_of image) dict_links b kind → IsIn b word
      → IsDurableAt v word (image word)

-- only held blocks are reached, what belongs to no shard is as in the image, and the seat sees the roots' kinds
pub record StandsOver (image : Image) (v : View) : Type 0 where
  pub kinds : StoresKinds v image
  pub only : ReachesOnlyHeld v
  pub others : HasOthers image v
