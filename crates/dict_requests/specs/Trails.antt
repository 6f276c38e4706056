-- How far a walk along a bucket has come: the links that were followed, each of them durable or about to be.
use Rattle.std.specs.Prelude.{◌≡◌, ℕ, ◌+◌, ◌*◌, ◌⊎◌, List, [], ◌∷◌, None, Some, Contains}
use Rattle.heap_model.specs.declared.block.Block.{Block}
use Rattle.heap_model.specs.Geometry.{root_word}
use Rattle.heap_model.specs.Image.{Image}
use Rattle.heap_model.specs.Pointers.{pointer_tag}
use Rattle.heap_seat.specs.View.{View}
use Rattle.heap_seat.specs.Words.{IsOwn, MixesOwn}
use Rattle.dict_model.specs.Nodes.{buckets, shard_of, bucket_of, find}
use Rattle.dict_requests.specs.Reached.{Reading}

-- the pointer word that leads to the block
abbrev pub pointer_to : Block → ℕ
pointer_to b = pointer_tag + 8 * b.first_word

-- loads see the value, and it is durable
pub record IsDurableAt (v : View) (word value : ℕ) : Type 0 where
  pub seen : v.volatile word ≡ Some value
  pub left : v.durable word ≡ Some value

-- loads see the value, and it is durable, or the next fence makes it so
pub record IsSettling (v : View) (word value : ℕ) : Type 0 where
  pub seen : v.volatile word ≡ Some value
  pub coming : Contains v.pending word ⊎ (v.durable word ≡ Some value)

-- the links from `at` on that lead along these held blocks
abbrev pub Trail : Reading → List Block → ℕ → List Block → Type 0
Trail reads held at [] = Unit {0}
Trail reads held at (b ∷ bs) = Contains held b × reads at (pointer_to b) × Trail reads held b.first_word bs

-- a mixed image that has what loads see, where that is known
pub record Completes (v : View) (image : Image) : Type 0 where
  pub mixes : MixesOwn v image
  pub seen : (word value : ℕ) → IsOwn v.held v.roots word → v.volatile word ≡ Some value → image word ≡ value

-- the root leads to the table, and the links of the key's bucket lead along these blocks
pub record HasCome (reads : View → Reading) (v : View) (shard key : ℕ) (table : Block) (before : List Block) : Type 0 where
  pub owned : Contains v.roots shard
  pub in_shard : shard_of key ≡ shard
  pub held_table : Contains v.held table
  pub size : table.words ≡ buckets
  pub root : reads v (root_word shard) (pointer_to table)
  pub trail : Trail (reads v) v.held (table.first_word + bucket_of key) before

-- none of them has the key
pub record IsPast (v : View) (key : ℕ) (before : List Block) : Type 0 where
  pub none : (image : Image) → Completes v image → find image key before ≡ None
