-- What the steps of the trace leave, in terms of lists: what has been found, and the labels.
use Rattle.std.specs.Prelude.{◌≡◌, ℕ, ◌+◌, ◌*◌, ◌<◌, ◌≤◌, Some, List, [], ◌∷◌, ◌++◌, length, slice_index, slice_set, Contains}
use Rattle.std.specs.List.{sum_by}
use Rattle.heap_model.specs.declared.block.Block.{Block}
use Rattle.heap_model.specs.Geometry.{roots, root_word}
use Rattle.heap_model.specs.Image.{Image}
use Rattle.heap_model.specs.Header.{IsWellFormed}
use Rattle.heap_model.specs.Blocks.{layout_of, IsBlock}
use Rattle.heap_model.specs.Pointers.{Leads}
use Rattle.heap_model.specs.Reach.{Links, words_in}
use Rattle.super_block.specs.Division.{Divisions, Describes}
use Rattle.filter_trace.specs.Walks.{IsExtended}
use Rattle.filter_trace.specs.Pairs.{mark_of}
use Rattle.root_reach.specs.declared.origin.Origin.{Origin}
use Rattle.root_reach.specs.declared.origin.Origin.TheVariants.{One}
use Rattle.root_reach.specs.declared.labels.Finding.{Finding}
use Rattle.root_reach.specs.declared.labels.Labelling.{Labelling}
use Rattle.root_reach.specs.Origins.{Covers, Joins, origin_in, origin_at, label_of, rank}
use Rattle.root_reach.specs.Reaching.{Tells, HasLabels}

-- what adding an origin of a pair leaves: nothing new where it is covered, else the joined one, found and in its label
pub data AddsOrigin (count : ℕ) (b : Block) (kind : ℕ) (origin : Origin) (found found' : List Finding)
    (labels labels' : List ℕ) : Type 0 where
  present : Covers (origin_at count labels b kind) origin → found' ≡ found → labels' ≡ labels
      → AddsOrigin count b kind origin found found' labels labels'
  added : (joined : Origin) → Joins (origin_at count labels b kind) origin joined
      → found' ≡ found ++ record { block = b; kind = kind; origin = joined } ∷ []
      → labels' ≡ slice_set labels (mark_of count b kind) (label_of joined) → AddsOrigin count b kind origin found found' labels labels'

-- what following a word leaves: nothing new where it leads nowhere, else the origin added to what it leads to
pub data Propagates (image : Image) (count at kind : ℕ) (origin : Origin) (found found' : List Finding)
    (labels labels' : List ℕ) : Type 0 where
  nowhere : ((b : Block) → Leads image (image at) b → ⊥) → found' ≡ found → labels' ≡ labels
      → Propagates image count at kind origin found found' labels labels'
  lead : (b : Block) → Leads image (image at) b → AddsOrigin count b kind origin found found' labels labels'
      → Propagates image count at kind origin found found' labels labels'

-- the word has been followed with the origin: what it leads to is told of it
pub record IsPropagated (image : Image) (count : ℕ) (labels : List ℕ) (at kind : ℕ) (origin : Origin) : Type 0 where
  pub here : (b : Block) → Leads image (image at) b → (kind < count) × Covers (origin_at count labels b kind) origin

-- these links of the block have been
pub record ArePropagated (image : Image) (count : ℕ) (labels : List ℕ) (a : Block) (origin : Origin) (upto : List (ℕ × ℕ)) : Type 0 where
  pub each : (position kind : ℕ) → Contains upto (position, kind) → IsPropagated image count labels (a.first_word + position) kind origin

-- all links of what was found have been
abbrev pub HasPropagated : Image → Links → ℕ → List ℕ → Finding → Type 0
HasPropagated image links count labels f = ArePropagated image count labels f.block f.origin (links f.kind (words_in image f.block))

-- what has been found is so, each label tells what has been found, and nothing is found twice
pub record AreFindings (image : Image) (kinds : ℕ → ℕ) (links : Links) (count : ℕ) (found : List Finding) (labels : List ℕ) : Type 0 where
  pub room : HasLabels (layout_of image) count labels
  pub sound : (f : Finding) → Contains found f → (f.kind < count) × Tells image kinds links f.block f.kind f.origin
  pub told : (b : Block) (kind : ℕ) (origin : Origin) → IsBlock (layout_of image) b → kind < count
      → origin_at count labels b kind ≡ Some origin
      → Contains found (record { block = b; kind = kind; origin = origin })
  pub few : length found ≤ sum_by rank labels

-- more has been found, and what the labels told is still told
pub record Grows (found found' : List Finding) (labels labels' : List ℕ) : Type 0 where
  pub more : IsExtended found found'
  pub still : (i : ℕ) (origin : Origin) → Covers (origin_in (slice_index labels i)) origin
      → Covers (origin_in (slice_index labels' i)) origin
  pub long : length labels' ≡ length labels

-- what following the first roots leaves
pub record PropagatesRoots (image : Image) (kinds : ℕ → ℕ) (links : Links) (count upto : ℕ) (found : List Finding)
    (labels : List ℕ) : Type 0 where
  pub so_far : AreFindings image kinds links count found labels
  pub followed : (i : ℕ) → i < upto → IsPropagated image count labels (root_word i) (kinds i) (One i)

-- what following these links of a block leaves
pub record PropagatesLinks (image : Image) (kinds : ℕ → ℕ) (links : Links) (count : ℕ) (a : Block) (origin : Origin) (upto : List (ℕ × ℕ))
    (found found' : List Finding) (labels labels' : List ℕ) : Type 0 where
  pub so_far : AreFindings image kinds links count found' labels'
  pub grown : Grows found found' labels labels'
  pub followed : ArePropagated image count labels' a origin upto

-- what the trace keeps once it has followed the roots: what was found is so, and what the roots lead to is told of
pub record HasRootOrigins (image : Image) (kinds : ℕ → ℕ) (links : Links) (count : ℕ) (found : List Finding) (labels : List ℕ) : Type 0 where
  pub so_far : AreFindings image kinds links count found labels
  pub roots_followed : (i : ℕ) → i < roots → IsPropagated image count labels (root_word i) (kinds i) (One i)

-- the same with the image and its directory
pub record IsOriginTraceOf (words kinds : List ℕ) (directory : Divisions) (links : Links) (count : ℕ) (found : Labelling) : Type 0 where
  pub formed : IsWellFormed (8 * length words) (slice_index words)
  pub described : Describes directory (layout_of (slice_index words))
  pub same : found.origins.kinds ≡ count
  pub findings : HasRootOrigins (slice_index words) (slice_index kinds) links count found.list.items found.origins.labels.items

-- the links of what was found have been followed
abbrev pub IsPropagatedIn : List ℕ → Links → ℕ → Labelling → Finding → Type 0
IsPropagatedIn words links count found = HasPropagated (slice_index words) links count found.origins.labels.items
