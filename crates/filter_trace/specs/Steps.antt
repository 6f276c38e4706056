-- What the steps of a trace ask and leave, said of an image's words and of a set of pairs.
use Rattle.std.specs.Prelude.{ℕ, ◌+◌, ◌*◌, ◌≡◌, List, slice_index, slice_index_or, length, true, false}
use Rattle.heap_model.specs.declared.block.Block.{Block}
use Rattle.heap_model.specs.Geometry.{roots}
use Rattle.heap_model.specs.Image.{Image}
use Rattle.heap_model.specs.Header.{IsWellFormed}
use Rattle.heap_model.specs.Blocks.{layout_of}
use Rattle.heap_model.specs.Reach.{Links, words_in}
use Rattle.super_block.specs.Division.{Divisions, Describes}
use Rattle.filter_trace.specs.declared.pairs.PairSet.{PairSet}
use Rattle.filter_trace.specs.Pairs.{Inserts, AreMarked}
use Rattle.filter_trace.specs.Trace.{Follows, FollowsRoots, FollowsLinks, IsFollowedBlock, AreFoundPairs, HasRoots}

-- the words are those of an image with a good header
abbrev pub IsImage : List ℕ → Type 0
IsImage words = IsWellFormed (8 * length words) (slice_index words)

-- the kind is marked at the word
abbrev pub IsMarkedAt : PairSet → ℕ → ℕ → Type 0
IsMarkedAt set word kind = slice_index_or set.marks (word * set.kinds + kind) false ≡ true

-- inserting the pair leaves this
abbrev pub Adds : Block → ℕ → PairSet → PairSet → Type 0
Adds b kind old new = Inserts old.kinds b kind old.pairs.items new.pairs.items old.marks new.marks

-- the same pairs are in the set, with the same marks
pub record HasSamePairs (old new : PairSet) : Type 0 where
  pub kinds : new.kinds ≡ old.kinds
  pub pairs : new.pairs.items ≡ old.pairs.items
  pub marks : new.marks ≡ old.marks

-- the pairs are of blocks of the image, and the marks tell them
abbrev pub IsSetOf : List ℕ → PairSet → Type 0
IsSetOf words set = AreMarked (layout_of (slice_index words)) set.kinds set.pairs.items set.marks

-- there is an image whose blocks the directory has, and of which the pairs are, marked
pub record AreOfImage (directory : Divisions) (set : PairSet) : Type 0 where
  pub image : Image
  pub words : ℕ
  pub formed : IsWellFormed (8 * words) image
  pub described : Describes directory (layout_of image)
  pub marked : AreMarked (layout_of image) set.kinds set.pairs.items set.marks

-- following the word at the index leaves this
abbrev pub FollowsWord : List ℕ → ℕ → ℕ → PairSet → PairSet → Type 0
FollowsWord words at kind old new = Follows (slice_index words) old.kinds at kind old.pairs.items new.pairs.items old.marks new.marks

-- following all roots leaves this
abbrev pub FollowsAllRoots : List ℕ → List ℕ → ℕ → PairSet → Type 0
FollowsAllRoots words kinds count new = FollowsRoots (slice_index words) (slice_index kinds) count roots new.pairs.items new.marks

-- the pairs have been reached, and are marked
abbrev pub HasFound : List ℕ → List ℕ → Links → ℕ → PairSet → Type 0
HasFound words kinds links count set = AreFoundPairs (slice_index words) (slice_index kinds) links count set.pairs.items set.marks

-- following all links of a block leaves this
abbrev pub FollowsAllLinks : List ℕ → List ℕ → Links → ℕ → Block → ℕ → PairSet → PairSet → Type 0
FollowsAllLinks words kinds links count b kind old new =
    FollowsLinks (slice_index words) (slice_index kinds) links count b (links kind (words_in (slice_index words) b))
    old.pairs.items new.pairs.items old.marks new.marks

-- what a trace keeps once it has followed the roots, with the image and its directory
pub record IsTraceOf (words kinds : List ℕ) (directory : Divisions) (links : Links) (count : ℕ) (set : PairSet) : Type 0 where
  pub formed : IsImage words
  pub described : Describes directory (layout_of (slice_index words))
  pub same : set.kinds ≡ count
  pub pairs : HasRoots (slice_index words) (slice_index kinds) links count set.pairs.items set.marks

-- the links of the pair's block have been followed
abbrev pub IsFollowedPair : List ℕ → Links → PairSet → Block × ℕ → Type 0
IsFollowedPair words links set pair = IsFollowedBlock (slice_index words) links set.pairs.items pair.0 pair.1
