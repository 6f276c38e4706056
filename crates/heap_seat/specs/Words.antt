-- A seat's own words, what can be read of them, and what a call leaves of them.
use Rattle.std.specs.Prelude.{◌≡◌, ◌≢◌, ℕ, ◌*◌, ◌<◌, ◌⊎◌, List, Option, None, Some, Contains, Bool, cond}
use Rattle.heap_model.specs.declared.block.Block.{Block}
use Rattle.heap_model.specs.Geometry.{roots, root_word}
use Rattle.heap_model.specs.Image.{Image}
use Rattle.heap_model.specs.Header.{kinds_of}
use Rattle.heap_model.specs.Blocks.{IsIn, Names}
use Rattle.heap_seat.specs.declared.spot.Spot.{Spot}
use Rattle.heap_seat.specs.declared.spot.Spot.TheVariants.{InBlock, Root}
use Rattle.heap_seat.specs.View.{View, kind_of}

-- a seat's own words are those of its blocks and its roots
pub data IsOwn (held : List Block) (roots : List ℕ) : ℕ → Type 0 where
  in_block : (b : Block) (word : ℕ) → Contains held b → IsIn b word → IsOwn held roots word
  in_root : (i word : ℕ) → Contains roots i → word ≡ root_word i → IsOwn held roots word

-- the spot lies in a block that is held, or is a root of the seat
abbrev pub IsOwnSpot : View → Spot → Type 0
IsOwnSpot v (InBlock b index) = Contains v.held b × (index < b.words)
IsOwnSpot v (Root i) = Contains v.roots i

-- the value may be this one: it is, or it isn't known
abbrev pub MayBe : Option ℕ → ℕ → Type 0
MayBe None value = Unit {0}
MayBe (Some known) value = value ≡ known

-- a load or a crash may give this value of the word
abbrev pub MayRead : View → ℕ → ℕ → Type 0
MayRead v word value = MayBe (v.volatile word) value ⊎ MayBe (v.durable word) value

-- a mixed image, so far as the seat knows: each own word has a value that may be read
pub record MixesOwn (v : View) (image : Image) : Type 0 where
  pub each : (word : ℕ) → IsOwn v.held v.roots word → MayRead v word (image word)

-- the image names each of the blocks at its place
abbrev pub NamesAll : Image → List Block → Type 0
NamesAll image held = (b : Block) → Contains held b → Names image (8 * b.first_word) b

-- the image stores the kinds of the roots that the seat sees
pub record StoresKinds (v : View) (image : Image) : Type 0 where
  pub each : (root : ℕ) → root < roots → kinds_of image root ≡ kind_of v root

-- the word isn't stored to: what loads see stays, and what a crash leaves stays or is what loads saw
pub record KeepsWord (v w : View) (word : ℕ) : Type 0 where
  pub volatile : (value : ℕ) → v.volatile word ≡ Some value → w.volatile word ≡ Some value
  pub durable : (value : ℕ) → MayBe (w.durable word) value → MayRead v word value

-- no own word is stored to, and the same blocks are held
pub record KeepsOwn (v w : View) : Type 0 where
  pub held : w.held ≡ v.held
  pub roots : w.roots ≡ v.roots
  pub words : (word : ℕ) → IsOwn v.held v.roots word → KeepsWord v w word

-- the one word may get the value, and no other is stored to; the same blocks are held
pub record MayHaveStored (word value : ℕ) (v w : View) : Type 0 where
  pub held : w.held ≡ v.held
  pub roots : w.roots ≡ v.roots
  pub others : (other : ℕ) → IsOwn v.held v.roots other → other ≢ word → KeepsWord v w other
  pub stored : (read : ℕ) → MayRead w word read → (read ≡ value) ⊎ MayRead v word read

-- the word's value is known, and durable as loads see it
pub record IsDurable (w : View) (word : ℕ) : Type 0 where
  pub value : ℕ
  pub seen : w.volatile word ≡ Some value
  pub left : w.durable word ≡ Some value

-- a pending write-back of the word stays, or a fence came in between
abbrev pub KeepsPending : View → View → ℕ → Type 0
KeepsPending v w word = Contains v.pending word → Contains w.pending word ⊎ IsDurable w word

-- each own word has the value picked of its two, where that is known: what loads see for true
pub record HasPicked (v : View) (pick : ℕ → Bool) (image : Image) : Type 0 where
  pub each : (word value : ℕ) → IsOwn v.held v.roots word → cond (pick word) (v.volatile word) (v.durable word) ≡ Some value
      → image word ≡ value
