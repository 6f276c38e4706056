-- A cache as runs of blocks, each in one superblock, and what giving them back makes of the words.
use Rattle.std.specs.Prelude.{◌≡◌, ◌≢◌, ℕ, ◌<◌, ◌≤◌, ⊤, nat_eq, if◌then◌else◌, List, [], ◌∷◌, ◌++◌, length, All, Contains}
use Rattle.heap_model.specs.Chains.{Follows, Walks}
use Rattle.heap_model.specs.Geometry.{anchor_word, head_word, link_word}
use Rattle.heap_model.specs.Image.{Image}
use Rattle.heap_model.specs.Sizes.{blocks_of}
use Rattle.heap_model.specs.Words.{anchor_state, anchor_first, anchor_count, empty_state, partial_state, full_state, head_first, head_pops}
use Rattle.heap_shape.specs.Standing.{first_of, IsFirstOf}

-- blocks of one superblock that follow one another in a cache, by their first words
pub record BlockRun : Type 0 where
  pub superblock : ℕ
  pub blocks : List ℕ

-- they are blocks of the class, and there is one
pub record IsRunOf (capacity class : ℕ) (run : BlockRun) : Type 0 where
  pub within : run.superblock < capacity
  pub some : 1 ≤ length run.blocks
  pub firsts : (word : ℕ) → Contains run.blocks word → IsFirstOf capacity class run.superblock word

-- the blocks of the runs, in order
abbrev pub blocks_of_runs : List BlockRun → List ℕ
blocks_of_runs [] = []
blocks_of_runs (run ∷ runs) = run.blocks ++ blocks_of_runs runs

-- no two neighbours are of one superblock: each run is as long as it can be
abbrev pub AreLongest : List BlockRun → Type 0
AreLongest [] = ⊤
AreLongest (run ∷ []) = ⊤
AreLongest (run ∷ next ∷ runs) = (run.superblock ≢ next.superblock) × AreLongest (next ∷ runs)

-- the blocks of a cache, in its order, are cut into these runs
pub record AreRunsOf (capacity class : ℕ) (words : List ℕ) (runs : List BlockRun) : Type 0 where
  pub all : blocks_of_runs runs ≡ words
  pub each : All (IsRunOf capacity class) runs
  pub longest : AreLongest runs

-- the anchor of superblock d leads along these free blocks, and counts them
pub record HasFree (capacity class : ℕ) (image : Image) (d : ℕ) (words : List ℕ) : Type 0 where
  pub walks : Walks image (first_of capacity class d (anchor_first (image (anchor_word d)))) words
  pub count : anchor_count (image (anchor_word d)) ≡ length words

-- the state of a superblock with so many free blocks: they are all that it has, or some
abbrev pub state_with : ℕ → ℕ → ℕ
state_with class count = if nat_eq count (blocks_of class) then empty_state else partial_state

-- the list that it comes to if it was full: that of the free ones, or that of the class
abbrev pub list_with : ℕ → ℕ → ℕ
list_with class count = if nat_eq count (blocks_of class) then 0 else class

-- superblock d was put in front of the list, whose count of pops stays
pub record IsListedFirst (capacity list d : ℕ) (image new : Image) : Type 0 where
  pub behind : List ℕ
  pub was : Follows (λ e. image (link_word e)) capacity (head_first (image (head_word list))) behind
  pub now : Follows (λ e. new (link_word e)) capacity (head_first (new (head_word list))) (d ∷ behind)
  pub pops : head_pops (new (head_word list)) ≡ head_pops (image (head_word list))

-- the superblock has no free block
abbrev pub IsFullAt : Image → ℕ → Type 0
IsFullAt image d = anchor_state (image (anchor_word d)) ≡ full_state

-- a word that giving the run back changes: the anchor; and the last block, which leads to those that were free, or
-- where none was the link and the head of the list
pub data IsRunWord (class : ℕ) (run : BlockRun) (image : Image) (word : ℕ) : Type 0 where
  at_anchor : word ≡ anchor_word run.superblock → IsRunWord class run image word
  at_last : (before : List ℕ) → run.blocks ≡ before ++ word ∷ [] → (IsFullAt image run.superblock → ⊥) → IsRunWord class run image word
  at_link : IsFullAt image run.superblock → word ≡ link_word run.superblock → IsRunWord class run image word
  at_head : IsFullAt image run.superblock → word ≡ head_word (list_with class (length run.blocks)) → IsRunWord class run image word

-- the run was given back: its blocks, chained as they were, are in front of the free ones of their superblock; one that
-- was full is the first of a list now, and another stays where it was; no other word changes
pub record GivesRun (capacity class : ℕ) (run : BlockRun) (image new : Image) : Type 0 where
  pub free : List ℕ
  pub were : HasFree capacity class image run.superblock free
  pub are : HasFree capacity class new run.superblock (run.blocks ++ free)
  pub state : anchor_state (new (anchor_word run.superblock)) ≡ state_with class (length (run.blocks ++ free))
  pub listed : IsFullAt image run.superblock → IsListedFirst capacity (list_with class (length run.blocks)) run.superblock image new
  pub others : (word : ℕ) → (IsRunWord class run image word → ⊥) → new word ≡ image word

-- the runs were given back, one after another
abbrev pub GivesRuns : ℕ → ℕ → List BlockRun → Image → Image → Type 0
GivesRuns capacity class [] image new = (word : ℕ) → new word ≡ image word
GivesRuns capacity class (run ∷ runs) image new =
    (between : Image) × GivesRun capacity class run image between × GivesRuns capacity class runs between new
