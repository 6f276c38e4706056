-- What the steps of the trace leave, in terms of lists.
use Rattle.std.specs.Prelude.{◌≡◌, ℕ, ◌+◌, ◌<◌, Bool, List, length, slice_index, Contains}
use Rattle.heap_model.specs.declared.block.Block.{Block}
use Rattle.heap_model.specs.Geometry.{roots, root_word}
use Rattle.heap_model.specs.Image.{Image}
use Rattle.heap_model.specs.Blocks.{layout_of}
use Rattle.heap_model.specs.Pointers.{Leads, LeadsOutside}
use Rattle.heap_model.specs.Reach.{Links}
use Rattle.super_block.specs.Division.{Divisions, Describes}
use Rattle.filter_trace.specs.declared.fault.TraceFault.{TraceFault}
use Rattle.filter_trace.specs.declared.fault.TraceFault.TheVariants.{Memory}
use Rattle.filter_trace.specs.declared.pairs.PairSet.{PairSet}
use Rattle.filter_trace.specs.Pairs.{AreMarked}
use Rattle.filter_trace.specs.Steps.{IsImage}
use Rattle.filter_trace.specs.Trace.{Follows, IsFollowedWord, Each, TellsOfWord}
use Rattle.filter_trace.specs.Walks.{IsExtended}
use Rattle.mixed_trace.specs.declared.mode.Mode.{Mode}
use Rattle.mixed_trace.specs.declared.mode.Mode.TheVariants.{Kind, All}
use Rattle.mixed_trace.specs.Reach.{modes_of, FitsBelow, CountsAs, ReachMixed}
use Rattle.mixed_trace.specs.Codes.{code}

-- what following a word leaves that may lead nowhere: then nothing new
pub data Passes (image : Image) (count at kind : ℕ) (pairs pairs' : List (Block × ℕ)) (marks marks' : List Bool) : Type 0 where
  followed : Follows image count at kind pairs pairs' marks marks' → Passes image count at kind pairs pairs' marks marks'
  nowhere : LeadsOutside image (image at) → pairs' ≡ pairs → marks' ≡ marks → Passes image count at kind pairs pairs' marks marks'

-- what following a word as one of the mode leaves
abbrev pub FollowsAs : Image → ℕ → ℕ → Mode → List (Block × ℕ) → List (Block × ℕ) → List Bool → List Bool → Type 0
FollowsAs image limit at (Kind kind) pairs pairs' marks marks' = Follows image (limit + 1) at kind pairs pairs' marks marks'
FollowsAs image limit at All pairs pairs' marks marks' = Passes image (limit + 1) at limit pairs pairs' marks marks'

-- what a fault tells of that: only a word of a kind is refused
abbrev pub TellsAs : Image → ℕ → Mode → TraceFault → Type 0
TellsAs image at (Kind kind) fault = TellsOfWord image at fault
TellsAs image at All fault = fault ≡ Memory

-- what the word leads to is there
pub record HasTarget (image : Image) (pairs : List (Block × ℕ)) (at kind : ℕ) : Type 0 where
  pub here : (b : Block) → Leads image (image at) b → Contains pairs (b, kind)

-- the word has been followed as one of the mode
abbrev pub IsFollowedAs : Image → ℕ → List (Block × ℕ) → ℕ → Mode → Type 0
IsFollowedAs image limit pairs at (Kind kind) = IsFollowedWord image pairs at kind
IsFollowedAs image limit pairs at All = HasTarget image pairs at limit

-- the block is reached as one of a mode, for which the number stands
pub record IsFoundAs (image : Image) (modes : ℕ → Mode) (links : Links) (limit : ℕ) (b : Block) (number : ℕ) : Type 0 where
  pub mode : Mode
  pub fits : FitsBelow limit mode
  pub code_is : number ≡ code limit mode
  pub reach : ReachMixed image modes links b mode

-- all pairs that have been found are reached, and marked
pub record AreFoundMixed (image : Image) (modes : ℕ → Mode) (links : Links) (limit : ℕ) (pairs : List (Block × ℕ)) (marks : List Bool) : Type 0 where
  pub marked : AreMarked (layout_of image) (limit + 1) pairs marks
  pub reached : Each (IsFoundAs image modes links limit) pairs

-- what following some words leaves, `which` telling the words and their modes
pub record FollowsEach (image : Image) (modes : ℕ → Mode) (links : Links) (limit : ℕ) (which : ℕ → Mode → Type 0)
    (pairs pairs' : List (Block × ℕ)) (marks marks' : List Bool) : Type 0 where
  pub long : length marks' ≡ length marks
  pub found : AreFoundMixed image modes links limit pairs' marks'
  pub grown : IsExtended pairs pairs'
  pub followed : (at : ℕ) (mode : Mode) → which at mode → IsFollowedAs image limit pairs' at mode

-- the word is one of the first roots, and has its mode
pub record IsRootAmong (modes : ℕ → Mode) (upto at : ℕ) (mode : Mode) : Type 0 where
  pub root : ℕ
  pub below : root < upto
  pub at_is : at ≡ root_word root
  pub mode_is : mode ≡ modes root

-- the word is one of these links of the block, and has its kind
pub record IsLinkAmong (a : Block) (upto : List (ℕ × ℕ)) (at : ℕ) (mode : Mode) : Type 0 where
  pub position : ℕ
  pub kind : ℕ
  pub listed : Contains upto (position, kind)
  pub at_is : at ≡ a.first_word + position
  pub mode_is : mode ≡ Kind kind

-- the word is one of the first of the block, which has no filter
pub record IsWordAmong (a : Block) (upto at : ℕ) (mode : Mode) : Type 0 where
  pub position : ℕ
  pub below : position < upto
  pub at_is : at ≡ a.first_word + position
  pub mode_is : mode ≡ All

-- the word is one of the block's that count
pub record IsCounted (image : Image) (links : Links) (a : Block) (from : Mode) (at : ℕ) (mode : Mode) : Type 0 where
  pub position : ℕ
  pub counts : CountsAs image links a from position mode
  pub at_is : at ≡ a.first_word + position

-- each word that counts of the block has been followed
pub record IsFollowedPair (image : Image) (links : Links) (limit : ℕ) (pairs : List (Block × ℕ)) (a : Block) (number : ℕ) : Type 0 where
  pub each : (from : Mode) → FitsBelow limit from → number ≡ code limit from → (at : ℕ) (mode : Mode)
      → IsCounted image links a from at mode → IsFollowedAs image limit pairs at mode

-- what a trace keeps once it has followed the roots: each pair is reached and marked, and what the roots lead to is there
pub record HasRootsMixed (image : Image) (modes : ℕ → Mode) (links : Links) (limit : ℕ) (pairs : List (Block × ℕ)) (marks : List Bool) : Type 0 where
  pub found : AreFoundMixed image modes links limit pairs marks
  pub roots_followed : (at : ℕ) (mode : Mode) → IsRootAmong modes roots at mode → IsFollowedAs image limit pairs at mode

-- the same of an image's words and of a set of pairs
abbrev pub HasFoundMixed : List ℕ → List Mode → Links → ℕ → PairSet → Type 0
HasFoundMixed words modes links limit set = AreFoundMixed (slice_index words) (modes_of modes) links limit set.pairs.items set.marks

-- each of these links is followed, seen at the words, the modes of roots and the sets before and after
abbrev pub FollowsEachOf : List ℕ → List Mode → Links → ℕ → (ℕ → Mode → Type 0) → PairSet → PairSet → Type 0
FollowsEachOf words modes links limit which old new =
    FollowsEach (slice_index words) (modes_of modes) links limit which old.pairs.items new.pairs.items old.marks new.marks

-- what a trace keeps once it has followed the roots, with the image and its directory
pub record IsMixedTraceOf (words : List ℕ) (modes : List Mode) (directory : Divisions) (links : Links) (limit : ℕ) (set : PairSet) : Type 0 where
  pub formed : IsImage words
  pub described : Describes directory (layout_of (slice_index words))
  pub same : set.kinds ≡ limit + 1
  pub pairs : HasRootsMixed (slice_index words) (modes_of modes) links limit set.pairs.items set.marks

-- the words of the pair's block that count have been followed
abbrev pub IsFollowedIn : List ℕ → Links → ℕ → PairSet → Block × ℕ → Type 0
IsFollowedIn words links limit set pair = IsFollowedPair (slice_index words) links limit set.pairs.items pair.0 pair.1
