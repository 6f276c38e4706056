-- What seats are between the calls of an allocator.
use Rattle.std.specs.Prelude.{◌≡◌, ◌<◌, ℕ, [], length}
use Rattle.heap_model.specs.Sizes.{IsClass, blocks_of}
use Rattle.core_model.specs.View.{View, no_batch, of_class}

-- no superblock is claimed, and there is no batch
pub record IsIdle (v : View) : Type 0 where
  pub batch : v.batch ≡ no_batch
  pub raw : v.raw ≡ []
  pub split : v.split ≡ []
  pub cutting : v.cutting ≡ []
  pub classed : v.classed ≡ []

-- each cache has fewer blocks than a superblock of its class
pub record HasShortCaches (v : View) : Type 0 where
  pub each : (class : ℕ) → IsClass class → length (of_class v.caches class) < blocks_of class
