-- What a crash or a close may leave while a seat has its view, and what the view tells of it.
use Rattle.std.specs.Prelude.{◌≡◌, ◌≢◌, ◌⊎◌, ℕ, slice_index}
use Rattle.heap_model.specs.Durability.{IsClosedImage, IsCrashImage, IsTransient}
use Rattle.heap_model.specs.Geometry.{IsFixed, state_word}
use Rattle.heap_model.specs.Image.{Image}
use Rattle.core_model.specs.Cells.{Cell, cell_at, info_cell, root_cell, data_cell}
use Rattle.core_model.specs.Guards.{IsOwn}
use Rattle.core_model.specs.Held.{volatile_image, durable_image}
use Rattle.core_model.specs.View.{Setup, View}
use Rattle.heap_rule.specs.Images.{Agrees, IsImageOf}
use Rattle.heap_table.specs.Plays.{HasSoundState}

-- what a crash may leave of some sound state in which a seat has the view
pub record IsCrashOf (v : View) (image : Image) : Type 0 where
  pub has : HasSoundState v
  pub crash : IsCrashImage (durable_image v.setup.capacity has.words) image

-- what a close may leave of one
pub record IsCloseOf (v : View) (image : Image) : Type 0 where
  pub has : HasSoundState v
  pub close : IsClosedImage (volatile_image v.setup.capacity has.words) image

-- what may be left of one: a mixture of its volatile and durable words, or what a crash leaves, or a close
pub data MayBeLeft (v : View) (image : Image) : Type 0 where
  mixed : IsImageOf v image → MayBeLeft v image
  crashed : IsCrashOf v image → MayBeLeft v image
  closed : IsCloseOf v image → MayBeLeft v image

-- a word that a crash leaves as it is durable: an info, a root, or a word of a superblock
pub data Lasts : Cell → Type 0 where
  an_info : (d : ℕ) → Lasts (info_cell d)
  a_root : (i : ℕ) → Lasts (root_cell i)
  a_data : (word : ℕ) → Lasts (data_cell word)

-- each own word has its recorded volatile value
pub record HasVolatileRecords (v : View) (image : Image) : Type 0 where
  pub each : (word : ℕ) → IsOwn v (cell_at v.setup.capacity word) → Agrees v.volatile (cell_at v.setup.capacity word) (image word)

-- each own word that lasts has its recorded durable value
pub record HasDurableRecords (v : View) (image : Image) : Type 0 where
  pub each : (word : ℕ) → IsOwn v (cell_at v.setup.capacity word) → Lasts (cell_at v.setup.capacity word)
      → Agrees v.durable (cell_at v.setup.capacity word) (image word)

-- each own word that lasts has its recorded volatile value, or its recorded durable one
pub record MixesLasting (v : View) (image : Image) : Type 0 where
  pub each : (word : ℕ) → IsOwn v (cell_at v.setup.capacity word) → Lasts (cell_at v.setup.capacity word)
      → Agrees v.volatile (cell_at v.setup.capacity word) (image word) ⊎ Agrees v.durable (cell_at v.setup.capacity word) (image word)

-- the words that no step changes are as they were opened, but for the state
pub record HasFixedWordsButState (k : Setup) (image : Image) : Type 0 where
  pub each : (word : ℕ) → IsFixed k.capacity word → word ≢ state_word → image word ≡ slice_index k.opened word

-- the words that a crash leaves with any value have these
pub record HasTransients (capacity : ℕ) (any : ℕ → ℕ) (image : Image) : Type 0 where
  pub each : (word : ℕ) → IsTransient capacity word → image word ≡ any word
