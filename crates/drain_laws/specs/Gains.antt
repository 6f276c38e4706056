-- What requests of one class leave of a heap with one seat, by its first and its last state.
use Rattle.std.specs.Prelude.{◌≡◌, ◌≢◌, ◌<◌, ◌⊎◌, ℕ, List, []}
use Rattle.heap_model.specs.declared.block.Block.{Block}
use Rattle.heap_model.specs.Blocks.{Layout}
use Rattle.heap_model.specs.Chains.{Follows}
use Rattle.heap_model.specs.Counting.{times}
use Rattle.heap_model.specs.Recovered.{HasPartIn, IsDrained}
use Rattle.heap_model.specs.Sizes.{IsClass, words_of_class}
use Rattle.heap_model.specs.Words.{head_first}
use Rattle.core_model.specs.Held.{IsHeld}
use Rattle.core_model.specs.Memory.{Memory, head, info, link, used}
use Rattle.core_model.specs.Effects.{claim_class}
use Rattle.core_model.specs.View.{View, of_class, times_classed}
use Rattle.drain_laws.specs.Spent.{IsSpent}

-- how the superblocks are laid out now
abbrev pub layout_now : ℕ → Memory → Layout
layout_now capacity m = record { capacity = capacity; used = used m; info = info m }

-- the superblock is in the list
pub record IsListed (capacity : ℕ) (m : Memory) (list d : ℕ) : Type 0 where
  pub descriptors : List ℕ
  pub leads : Follows (link m) capacity (head_first (head m list)) descriptors
  pub has : 0 < times d descriptors

-- each taken superblock that no held block has a part in is cut for the class, or in the list of the free ones
pub record IsDrainableNow (capacity : ℕ) (m : Memory) (v : View) (class : ℕ) : Type 0 where
  pub each : (d : ℕ) → d < used m → ((b : Block) → IsHeld v b → HasPartIn capacity b d → ⊥) → (info m d ≡ class) ⊎ IsListed capacity m 0 d

-- what draining the class must give
abbrev pub IsToGive : ℕ → Memory → View → ℕ → Block → Type 0
IsToGive capacity m v class = IsDrained (layout_now capacity m) (IsHeld v) class

-- what was held is held, and nothing besides but blocks of the class
pub record HoldsMore (class : ℕ) (v w : View) : Type 0 where
  pub setup : w.setup ≡ v.setup
  pub large : w.large ≡ v.large
  pub others : (c : ℕ) → c ≢ class → of_class w.small c ≡ of_class v.small c
  pub kept : (b : ℕ) → 0 < times b (of_class v.small class) → 0 < times b (of_class w.small class)

-- no superblock came to the list of a class
abbrev pub NoneCame : ℕ → Memory → Memory → Type 0
NoneCame capacity m n = (list d : ℕ) → IsClass list → IsListed capacity n list d → IsListed capacity m list d

-- the class has nothing left, and no cache has a block
pub record IsDry (capacity : ℕ) (m : Memory) (class : ℕ) (v : View) : Type 0 where
  pub spent : IsSpent capacity m class v
  pub caches : (c : ℕ) → IsClass c → of_class v.caches c ≡ []

-- the block is of the class, and held now alone
pub record IsGiven (class : ℕ) (v w : View) (b : Block) : Type 0 where
  pub words : b.words ≡ words_of_class class
  pub now : 0 < times b.first_word (of_class w.small class)
  pub new : IsHeld v b → ⊥

-- each superblock that is in the list of a class, or claimed with one, was in that list then
pub record CameFrom (capacity : ℕ) (m n : Memory) (v : View) : Type 0 where
  pub listed : NoneCame capacity m n
  pub claimed : (d : ℕ) → 0 < times_classed d v.classed → IsClass (claim_class d v.classed) → IsListed capacity m (claim_class d v.classed) d
