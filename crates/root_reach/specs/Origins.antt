-- What is told of the roots that reach a block, and how it is stored.
use Rattle.std.specs.Prelude.{◌≡◌, ◌≢◌, ℕ, zero, suc, ◌<◌, Option, None, Some, List, slice_index}
use Rattle.heap_model.specs.declared.block.Block.{Block}
use Rattle.heap_model.specs.Geometry.{roots}
use Rattle.filter_trace.specs.Pairs.{mark_of}
use Rattle.root_reach.specs.declared.origin.Origin.{Origin}
use Rattle.root_reach.specs.declared.origin.Origin.TheVariants.{One, Several}

-- what a label stands for: 0 for no root, 1 for several, and each further number for a root
abbrev pub origin_in : ℕ → Option Origin
origin_in zero = None
origin_in (suc zero) = Some Several
origin_in (suc (suc root)) = Some (One root)

-- the label that is written for an origin
abbrev pub label_of : Origin → ℕ
label_of (One root) = suc (suc root)
label_of Several = 1

-- how often a label has changed, at least
abbrev pub rank : ℕ → ℕ
rank zero = 0
rank (suc zero) = 2
rank (suc (suc root)) = 1

-- the origin is several roots, or one that there is
abbrev pub IsRoot : Origin → Type 0
IsRoot (One root) = root < roots
IsRoot Several = Unit {0}

-- what is told covers the origin: it is the same, or several
pub data Covers (told : Option Origin) (origin : Origin) : Type 0 where
  same : told ≡ Some origin → Covers told origin
  several : told ≡ Some Several → Covers told origin

-- of what is told and a further origin, what is to be told: the further one where nothing is, and several where another root is
pub data Joins (told : Option Origin) (origin joined : Origin) : Type 0 where
  first : told ≡ None → joined ≡ origin → Joins told origin joined
  both : (root : ℕ) → told ≡ Some (One root) → origin ≢ One root → joined ≡ Several → Joins told origin joined

-- what the labels tell of a block as one of a kind
abbrev pub origin_at : ℕ → List ℕ → Block → ℕ → Option Origin
origin_at kinds labels b kind = origin_in (slice_index labels (mark_of kinds b kind))
