-- Which roots reach a block, and when labels tell it.
use Rattle.std.specs.Prelude.{◌≡◌, ◌≢◌, ℕ, ◌+◌, ◌*◌, ◌<◌, ◌≤◌, Some, List, length}
use Rattle.heap_model.specs.declared.block.Block.{Block}
use Rattle.heap_model.specs.Geometry.{roots}
use Rattle.heap_model.specs.Image.{Image}
use Rattle.heap_model.specs.Blocks.{Layout, layout_of, IsBlock}
use Rattle.heap_model.specs.Reach.{Links, ReachFrom}
use Rattle.root_reach.specs.declared.origin.Origin.{Origin}
use Rattle.root_reach.specs.declared.origin.Origin.TheVariants.{One, Several}
use Rattle.root_reach.specs.declared.labels.Origins.{Origins}
use Rattle.root_reach.specs.Origins.{Covers, origin_at}

-- the root reaches the block as one of the kind
abbrev pub ReachesFrom : Image → (ℕ → ℕ) → Links → ℕ → Block → ℕ → Type 0
ReachesFrom image kinds links root = ReachFrom image (λ i. i ≡ root) kinds links

-- two different roots do
pub record IsShared (image : Image) (kinds : ℕ → ℕ) (links : Links) (b : Block) (kind : ℕ) : Type 0 where
  pub one : ℕ
  pub other : ℕ
  pub apart : one ≢ other
  pub from_one : ReachesFrom image kinds links one b kind
  pub from_other : ReachesFrom image kinds links other b kind

-- what an origin says of a block as one of a kind
abbrev pub Tells : Image → (ℕ → ℕ) → Links → Block → ℕ → Origin → Type 0
Tells image kinds links b kind (One root) = (root < roots) × ReachesFrom image kinds links root b kind
Tells image kinds links b kind Several = IsShared image kinds links b kind

-- each block has a label for each kind
pub record HasLabels (l : Layout) (kinds : ℕ) (labels : List ℕ) : Type 0 where
  pub each : (b : Block) → IsBlock l b → b.first_word * kinds + kinds ≤ length labels

-- the labels tell nothing that is not so, and of each root that reaches a block they tell it, or several
pub record AreOrigins (image : Image) (kinds : ℕ → ℕ) (links : Links) (origins : Origins) : Type 0 where
  pub room : HasLabels (layout_of image) origins.kinds origins.labels.items
  pub sound : (b : Block) (kind : ℕ) (origin : Origin) → IsBlock (layout_of image) b → kind < origins.kinds
      → origin_at origins.kinds origins.labels.items b kind ≡ Some origin → Tells image kinds links b kind origin
  pub complete : (b : Block) (kind root : ℕ) → ReachesFrom image kinds links root b kind
      → (kind < origins.kinds) × Covers (origin_at origins.kinds origins.labels.items b kind) (One root)

-- another root than this one reaches the block
pub record IsReachedBeside (image : Image) (kinds : ℕ → ℕ) (links : Links) (root : ℕ) (b : Block) : Type 0 where
  pub kind : ℕ
  pub reached : ReachFrom image (λ i. i ≢ root) kinds links b kind
