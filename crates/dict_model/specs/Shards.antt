-- The shards of an image, each a finite map: a root leads to a table, and each word of the table to a chain of nodes.
-- Where a shard is no map, its first bad place.
use Rattle.std.specs.Prelude.{◌≡◌, ◌≢◌, ℕ, ◌+◌, ◌*◌, ◌<◌, List, [], ◌∷◌, Option, None, cond, nat_eq}
use Rattle.heap_model.specs.declared.block.Block.{Block}
use Rattle.heap_model.specs.Geometry.{root_word, kind_word}
use Rattle.heap_model.specs.Image.{Image}
use Rattle.heap_model.specs.Header.{capacity_of, kinds_of}
use Rattle.heap_model.specs.Pointers.{IsPointerTo, Leads}
use Rattle.heap_model.specs.Reach.{ReachFrom}
use Rattle.dict_model.specs.Links.{dict_links, table_kind}
use Rattle.dict_model.specs.Nodes.{buckets, shard_of, bucket_of, key_in, IsNode, find}

-- a finite map: the value of each key that it has, as bytes
abbrev pub Map : Type 0
Map = ℕ → Option (List ℕ)

-- the map without keys
abbrev pub no_keys : Map
no_keys key = None

-- which blocks a word may lead to
abbrev pub Leading : Type 1
Leading = ℕ → Block → Type 0

-- each word leads to one block, and null to none
pub record LeadsOnce (leads : Leading) : Type 0 where
  pub one : (word : ℕ) (a b : Block) → leads word a → leads word b → a ≡ b
  pub null : (b : Block) → leads 0 b → ⊥

-- the word index of the link behind so many nodes, of which the first hangs at the link `at`: a node's link is its first word
abbrev pub link_behind : ℕ → List Block → ℕ
link_behind at [] = at
link_behind at (b ∷ bs) = link_behind b.first_word bs

-- the links from `at` on lead along these nodes of the bucket, each with a key of its own
abbrev pub IsPath : Leading → Image → ℕ → ℕ → ℕ → List Block → Type 0
IsPath leads image shard bucket at [] = Unit {0}
IsPath leads image shard bucket at (b ∷ bs) =
    leads (image at) b × IsNode image shard bucket b × (find image (key_in image b) bs ≡ None)
    × IsPath leads image shard bucket b.first_word bs

-- and the link behind the last of them is null
pub record IsBucketChain (leads : Leading) (image : Image) (shard bucket at : ℕ) (nodes : List Block) : Type 0 where
  pub path : IsPath leads image shard bucket at nodes
  pub ends : image (link_behind at nodes) ≡ 0

-- the root leads to a table
pub record HasTable (leads : Leading) (image : Image) (shard : ℕ) (table : Block) : Type 0 where
  pub leads_there : leads (image (root_word shard)) table
  pub size : table.words ≡ buckets

-- a node is not its own table
abbrev pub but : Block → Leading → Leading
but table leads word b = leads word b × (b ≢ table)

-- the chain of each bucket below the limit
abbrev pub HasChains : Leading → Image → ℕ → Block → ℕ → (ℕ → List Block) → Type 0
HasChains leads image shard table limit nodes =
    (k : ℕ) → k < limit → IsBucketChain (but table leads) image shard k (table.first_word + k) (nodes k)

-- the map that the chains stand for: a key is looked for in its own bucket
abbrev pub map_of : Image → ℕ → (ℕ → List Block) → Map
map_of image shard nodes key = cond (nat_eq (shard_of key) shard) (find image key (nodes (bucket_of key))) None

-- the shard of the image is this map: it is empty where the root is null
pub data IsMap (leads : Leading) (image : Image) (shard : ℕ) (map : Map) : Type 0 where
  is_empty : image (root_word shard) ≡ 0 → ((key : ℕ) → map key ≡ None) → IsMap leads image shard map
  has_table : (table : Block) (nodes : ℕ → List Block) → HasTable leads image shard table
      → HasChains leads image shard table buckets nodes
      → ((key : ℕ) → map key ≡ map_of image shard nodes key) → IsMap leads image shard map

-- the word is neither null nor leads to what is wanted
pub record LeadsAstray (leads : Leading) (wanted : Block → Type 0) (word : ℕ) : Type 0 where
  pub not_null : word ≢ 0
  pub nowhere : (b : Block) → leads word b → wanted b → ⊥

-- a node of the bucket with a key that none of those before it has
pub record IsNext (image : Image) (shard bucket : ℕ) (before : List Block) (b : Block) : Type 0 where
  pub node : IsNode image shard bucket b
  pub new : find image (key_in image b) before ≡ None

-- the shard of the image is no map, and this is the first link that leads astray: the root, or one behind good nodes of
-- a bucket before which each bucket has its chain
pub data IsBadAt (leads : Leading) (image : Image) (shard : ℕ) : ℕ → Type 0 where
  at_root : LeadsAstray leads (λ b. b.words ≡ buckets) (image (root_word shard)) → IsBadAt leads image shard (root_word shard)
  at_link : (table : Block) (nodes : ℕ → List Block) (k at : ℕ) (before : List Block) → HasTable leads image shard table
      → k < buckets → HasChains leads image shard table k nodes
      → IsPath (but table leads) image shard k (table.first_word + k) before → at ≡ link_behind (table.first_word + k) before
      → LeadsAstray (but table leads) (IsNext image shard k before) (image at) → IsBadAt leads image shard at

-- a block of the image that no other root reaches
abbrev pub LeadsAlone : Image → ℕ → Leading
LeadsAlone image shard word b =
    Leads image word b × ((kind : ℕ) → ReachFrom image (λ i. i ≢ shard) (kinds_of image) dict_links b kind → ⊥)

-- the map of a shard of an image, whose root has the kind of a table, null root or not
pub record MapOf (image : Image) (shard : ℕ) (map : Map) : Type 0 where
  pub kind_is : kinds_of image shard ≡ table_kind
  pub is_map : IsMap (LeadsAlone image shard) image shard map

-- the first bad place where there is none: the kind of the root, or a link
pub data BadShard (image : Image) (shard : ℕ) : ℕ → Type 0 where
  at_kind : kinds_of image shard ≢ table_kind → BadShard image shard (kind_word (capacity_of image) shard)
  in_table : (at : ℕ) → kinds_of image shard ≡ table_kind → IsBadAt (LeadsAlone image shard) image shard at → BadShard image shard at

-- the same with no regard to kinds and other roots
abbrev pub WalkOf : Image → ℕ → Map → Type 0
WalkOf image shard = IsMap (Leads image) image shard

-- what a word leads to among these blocks
abbrev pub LeadsTo : (Block → Type 0) → Leading
LeadsTo held word b = held b × IsPointerTo word (8 * b.first_word)
