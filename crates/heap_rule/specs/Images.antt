-- The images that may be left of a shared heap, as its setup and the seats' views tell of them.
use Rattle.std.specs.Prelude.{◌≡◌, ◌⊎◌, ℕ, Bool, cond, List, Option, Some, slice_index}
use Rattle.heap_model.specs.Durability.{Mixes}
use Rattle.heap_model.specs.Geometry.{IsFixed}
use Rattle.heap_model.specs.Image.{Image}
use Rattle.core_model.specs.Cells.{Cell, cell_at}
use Rattle.core_model.specs.Guards.{IsOwn}
use Rattle.core_model.specs.Held.{volatile_image, durable_image}
use Rattle.core_model.specs.View.{Setup, View, known}
use Rattle.heap_table.specs.Plays.{HasSoundState}

-- the words that no step changes are as they were opened
pub record HasFixedWords (k : Setup) (image : Image) : Type 0 where
  pub each : (word : ℕ) → IsFixed k.capacity word → image word ≡ slice_index k.opened word

-- the number is what is recorded of the word, if anything is
abbrev pub Agrees : List (Option ℕ) → Cell → ℕ → Type 0
Agrees values cell number = (value : ℕ) → known values cell ≡ Some value → number ≡ value

-- each own word has its recorded volatile value in the one image, and its recorded durable value in the other
pub record HasRecorded (now kept : Image) (v : View) : Type 0 where
  pub volatile : (word : ℕ) → IsOwn v (cell_at v.setup.capacity word) → Agrees v.volatile (cell_at v.setup.capacity word) (now word)
  pub durable : (word : ℕ) → IsOwn v (cell_at v.setup.capacity word) → Agrees v.durable (cell_at v.setup.capacity word) (kept word)

-- a mixture of the volatile and the durable words of some sound state in which a seat has the view
pub record IsImageOf (v : View) (image : Image) : Type 0 where
  pub has : HasSoundState v
  pub mixed : Mixes (volatile_image v.setup.capacity has.words) (durable_image v.setup.capacity has.words) image

-- each own word has its recorded volatile value, or its recorded durable one
pub record MixesRecorded (v : View) (image : Image) : Type 0 where
  pub each : (word : ℕ) → IsOwn v (cell_at v.setup.capacity word)
      → Agrees v.volatile (cell_at v.setup.capacity word) (image word) ⊎ Agrees v.durable (cell_at v.setup.capacity word) (image word)

-- each own word has the one of them that is picked: the volatile one for true
pub record HasPickedRecords (v : View) (pick : ℕ → Bool) (image : Image) : Type 0 where
  pub each : (word : ℕ) → IsOwn v (cell_at v.setup.capacity word)
      → Agrees (cond (pick word) v.volatile v.durable) (cell_at v.setup.capacity word) (image word)
