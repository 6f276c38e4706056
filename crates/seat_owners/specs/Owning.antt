-- Who owns what of a dictionary that several workers share.
use Rattle.std.specs.Prelude.{◌≡◌, ℕ, ◌<◌, List, length, get_or}
use Rattle.heap_model.specs.declared.block.Block.{Block}
use Rattle.heap_model.specs.Geometry.{roots}
use Rattle.heap_model.specs.Header.{kinds_of}
use Rattle.heap_model.specs.Image.{Image, words_from}
use Rattle.heap_model.specs.Reach.{ReachFrom}
use Rattle.core_model.specs.Opening.{AreOwners}
use Rattle.dict_model.specs.Links.{dict_links}
use Rattle.run_model.specs.Workers.{root_owner}

-- each root has its worker, and each held block that of a root that reaches it
pub record AreOwnersByRoot (image : Image) (held : List Block) (workers : ℕ) (block_owners root_owners : List ℕ) : Type 0 where
  pub fits : AreOwners held workers block_owners root_owners
  pub roots_are : root_owners ≡ words_from (root_owner workers) 0 roots
  pub blocks : (at root kind : ℕ) (b : Block) → at < length held → get_or held at b ≡ b → root < roots
      → ReachFrom image (λ r. r ≡ root) (kinds_of image) dict_links b kind → get_or block_owners at workers ≡ root_owner workers root

-- there is such a worker, and each root that reaches the block belongs to it
pub record IsOwnedBy (image : Image) (workers : ℕ) (b : Block) (owner : ℕ) : Type 0 where
  pub below : owner < workers
  pub each : (root kind : ℕ) → root < roots → ReachFrom image (λ r. r ≡ root) (kinds_of image) dict_links b kind → owner ≡ root_owner workers root

-- so it is of the first blocks
pub record AreOwnedUpTo (image : Image) (workers : ℕ) (blocks : List Block) (upto : ℕ) (owners : List ℕ) : Type 0 where
  pub long : length owners ≡ length blocks
  pub each : (at : ℕ) (b : Block) → at < upto → get_or blocks at b ≡ b → IsOwnedBy image workers b (get_or owners at workers)
