-- Several seats of one heap, and the images that mix what all of them see.
use Rattle.std.specs.Prelude.{◌≡◌, ℕ, ◌<◌, Contains}
use Rattle.heap_model.specs.declared.block.Block.{Block}
use Rattle.heap_model.specs.Geometry.{roots}
use Rattle.heap_model.specs.Image.{Image}
use Rattle.heap_model.specs.Header.{kinds_of}
use Rattle.heap_seat.specs.View.{View, kind_of}
use Rattle.heap_seat.specs.Words.{MixesOwn, NamesAll}
use Rattle.dict_requests.specs.Reached.{ReachesOnlyHeld}

-- so many seats share a heap: each reaches only blocks that it holds, each root has an owner among them, and no block is held by two
pub record ShareHeap (count : ℕ) (seats : ℕ → View) : Type 0 where
  pub only : (i : ℕ) → i < count → ReachesOnlyHeld (seats i)
  pub owner : (root : ℕ) → root < roots → (i : ℕ) × (i < count) × Contains (seats i).roots root
  pub one_holder : (i j : ℕ) (b : Block) → i < count → j < count → Contains (seats i).held b → Contains (seats j).held b → i ≡ j

-- the image has each seat's own words, each with a value that may be read, names the blocks that the seats hold, and
-- stores the kinds that the seats see
pub record MixesSeats (count : ℕ) (seats : ℕ → View) (image : Image) : Type 0 where
  pub mixes : (i : ℕ) → i < count → MixesOwn (seats i) image
  pub names : (i : ℕ) → i < count → NamesAll image (seats i).held
  pub kinds : (i : ℕ) → i < count → (root : ℕ) → root < roots → kinds_of image root ≡ kind_of (seats i) root
