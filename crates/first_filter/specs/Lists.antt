-- A list of nodes behind root 0, in an image and in an open heap.
use Rattle.std.specs.Prelude.{◌≡◌, ◌≢◌, ℕ, ◌*◌, ◌<◌, List, [], ◌∷◌, Some, Contains}
use Rattle.heap_model.specs.declared.block.Block.{Block}
use Rattle.heap_model.specs.Geometry.{roots, root_word}
use Rattle.heap_model.specs.Image.{Image}
use Rattle.heap_model.specs.Header.{kinds_of}
use Rattle.heap_model.specs.Pointers.{IsPointerTo, Leads}
use Rattle.heap_seat.specs.View.{View, kind_of}
use Rattle.heap_seat.specs.Words.{IsOwn, KeepsWord}

-- the list that begins with this word: it leads to the first node, the first word of each node to the next, and that of the last is null
abbrev pub IsList : Image → ℕ → List Block → Type 0
IsList image word [] = word ≡ 0
IsList image word (b ∷ bs) = Leads image word b × IsList image (image b.first_word) bs

-- root 0 of the image leads to this list, as to a node, and every other root is null
pub record HasList (image : Image) (nodes : List Block) : Type 0 where
  pub list : IsList image (image (root_word 0)) nodes
  pub kind : kinds_of image 0 ≡ 1
  pub others : (i : ℕ) → i < roots → i ≢ 0 → image (root_word i) ≡ 0

-- the image has this list, or it with one more node before it
pub data HasListOrMore (image : Image) (nodes : List Block) : Type 0 where
  as_it_was : HasList image nodes → HasListOrMore image nodes
  one_more : (b : Block) → HasList image (b ∷ nodes) → HasListOrMore image nodes

-- loads see this value of the word, and a crash leaves it
pub record IsKept (v : View) (word value : ℕ) : Type 0 where
  pub seen : v.volatile word ≡ Some value
  pub left : v.durable word ≡ Some value

-- the list that begins with this word in an open heap: its nodes are held, and a crash leaves each link
pub data IsKeptList (v : View) : ℕ → List Block → Type 0 where
  ends : IsKeptList v 0 []
  leads : (b : Block) (word next : ℕ) (bs : List Block) → IsPointerTo word (8 * b.first_word) → Contains v.held b
      → IsKept v b.first_word next → IsKeptList v next bs → IsKeptList v word (b ∷ bs)

-- root 0 of the open heap leads to this list, as to a node, and every other root is null
pub record HoldsList (v : View) (nodes : List Block) : Type 0 where
  pub first : ℕ
  pub root : IsKept v (root_word 0) first
  pub list : IsKeptList v first nodes
  pub kind : kind_of v 0 ≡ 1
  pub own : (i : ℕ) → i < roots → Contains v.roots i
  pub others : (i : ℕ) → i < roots → i ≢ 0 → IsKept v (root_word i) 0

-- no word that was the seat's is stored to, and its blocks are held still; it may hold new ones
pub record KeepsOthers (v w : View) : Type 0 where
  pub held : (b : Block) → Contains v.held b → Contains w.held b
  pub roots : w.roots ≡ v.roots
  pub kinds : w.kinds ≡ v.kinds
  pub words : (word : ℕ) → IsOwn v.held v.roots word → KeepsWord v w word
