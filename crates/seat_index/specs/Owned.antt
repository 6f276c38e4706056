-- What a seat keeps to tell which words are its own: how it fits the view.
use Rattle.std.specs.Prelude.{◌≡◌, ℕ, zero, suc, ◌+◌, ◌/◌, ◌<◌, ◌≤◌, ◌↔◌, Bool, true, false, List, get_or, length}
use Rattle.std.specs.Vec.{vec_capacity}
use Rattle.heap_model.specs.Counting.{times, total}
use Rattle.heap_model.specs.Geometry.{roots, superblock_words, image_words, superblock_of}
use Rattle.core_model.specs.View.{View, Claim, Span, of_class, times_classed, times_large}
use Rattle.core_model.specs.Effects.{claim_class, span_count}
use Rattle.core_model.specs.Opening.{setup_of, opened_view}
use Rattle.super_block.specs.Contents.{Contents}
use Rattle.seat_state.specs.OwnerLists.{OwnerLists}
use Rattle.seat_state.specs.declared.superblocks.SuperblockUsage.{SuperblockUsage}
use Rattle.seat_state.specs.declared.superblocks.SuperblockUsage.TheVariants as usage
use Rattle.heap_table.specs.Plays.{HasSoundState}
use Rattle.seat_index.specs.declared.owned.Ownership.{Ownership}
use Rattle.seat_index.specs.declared.owned.Ownership.TheVariants as ownership
use Rattle.seat_index.specs.declared.owned.Owned.{Owned}
use Rattle.seat_index.specs.Stacks.{AreStacks}

-- of a superblock of which this is owned: once where it is claimed without a class
abbrev pub unclassed_in : Ownership → ℕ
unclassed_in ownership.Unclassed = 1
unclassed_in x = 0

-- once where it is claimed with a class
abbrev pub classed_in : Ownership → ℕ
classed_in (ownership.Classed class) = 1
classed_in x = 0

-- the class that it is claimed with; 0 where it is not
abbrev pub class_in : Ownership → ℕ
class_in (ownership.Classed class) = class
class_in x = 0

-- once where a large block takes it
abbrev pub large_in : Ownership → ℕ
large_in (ownership.Large count) = 1
large_in x = 0

-- how many superblocks the large block that begins there takes; 0 where none does
abbrev pub count_in : Ownership → ℕ
count_in (ownership.Large count) = count
count_in x = 0

-- what is owned of a superblock that comes from a list
abbrev pub listed : ℕ → Ownership
listed zero = ownership.Unclassed
listed (suc n) = ownership.Classed (suc n)

-- of a view, what tells which words are its own
pub record OwnedParts : Type 0 where
  pub capacity : ℕ
  pub small : List (List ℕ)
  pub caches : List (List ℕ)
  pub batch : List ℕ
  pub batch_class : ℕ
  pub raw : List ℕ
  pub split : List ℕ
  pub cutting : List ℕ
  pub classed : List Claim
  pub large : List Span
  pub roots : List ℕ

-- those parts of a view
abbrev pub parts_of : View → OwnedParts
parts_of v = record {
  capacity = v.setup.capacity;
  small = v.small;
  caches = v.caches;
  batch = v.batch.blocks;
  batch_class = v.batch.class;
  raw = v.raw;
  split = v.split;
  cutting = v.cutting;
  classed = v.classed;
  large = v.large;
  roots = v.roots;
}

-- how often a small block is the seat's
abbrev pub times_had : ℕ → OwnedParts → ℕ
times_had b p = total (times b) p.small + total (times b) p.caches + times b p.batch

-- of superblock d it owns what is said
pub record IsOwnership (d : ℕ) (x : Ownership) (p : OwnedParts) : Type 0 where
  pub unclassed : times d p.raw + times d p.split + times d p.cutting ≡ unclassed_in x
  pub is_classed : times_classed d p.classed ≡ classed_in x
  pub class : claim_class d p.classed ≡ class_in x
  pub is_large : times_large d p.large ≡ large_in x
  pub count : span_count d p.large ≡ count_in x

-- each block of the seat's is in a superblock of its class
pub record AreClasses (classes : List ℕ) (p : OwnedParts) : Type 0 where
  pub held : (class b : ℕ) → 0 < times b (of_class p.small class) → get_or classes (superblock_of p.capacity b) 0 ≡ class
  pub cached : (class b : ℕ) → 0 < times b (of_class p.caches class) → get_or classes (superblock_of p.capacity b) 0 ≡ class
  pub batched : (b : ℕ) → 0 < times b p.batch → get_or classes (superblock_of p.capacity b) 0 ≡ p.batch_class

-- a test for each number that counts
abbrev pub AreMarked : List Bool → (ℕ → ℕ) → Type 0
AreMarked marks counts = (n : ℕ) → (get_or marks n false ≡ true) ↔ (0 < counts n)

-- the most blocks of a superblock: each has two words at least
abbrev pub most_blocks : ℕ
most_blocks = superblock_words / 2

-- what is kept fits the parts
pub record HasOwned (o : Owned) (p : OwnedParts) : Type 0 where
  pub words_long : length o.blocks ≡ image_words p.capacity
  pub classes_long : length o.classes.items ≡ p.capacity
  pub ownerships_long : length o.ownerships.items ≡ p.capacity
  pub roots_long : length o.roots.items ≡ roots
  pub blocks : AreMarked o.blocks (λ b. times_had b p)
  pub classes : AreClasses o.classes.items p
  pub ownerships : (d : ℕ) → IsOwnership d (get_or o.ownerships.items d ownership.Nothing) p
  pub roots_are : AreMarked o.roots.items (λ i. times i p.roots)
  pub batch : o.batch.items ≡ p.batch
  pub room : most_blocks ≤ vec_capacity o.batch
  pub stacks : AreStacks o.stacks.items p.caches

-- it is what is kept of a seat that has this view in some sound state of a heap of so many superblocks
pub record IsIndexOf (o : Owned) (capacity : ℕ) (v : View) : Type 0 where
  pub has : HasSoundState v
  pub own : HasOwned o (parts_of v)
  pub capacity_is : capacity ≡ v.setup.capacity

-- some numbers have this mark, and all others keep theirs
pub record IsMarking (old new : List Bool) (numbers : List ℕ) (mark : Bool) : Type 0 where
  pub long : length new ≡ length old
  pub inside : (n : ℕ) → 0 < times n numbers → get_or new n false ≡ mark
  pub outside : (n : ℕ) → times n numbers ≡ 0 → get_or new n false ≡ get_or old n false

-- of n superblocks from one on this is owned, and of all others what was
pub record HaveOwnership (old new : List Ownership) (from n : ℕ) (x : Ownership) : Type 0 where
  pub long : length new ≡ length old
  pub inside : (d : ℕ) → from ≤ d → d < from + n → get_or new d ownership.Nothing ≡ x
  pub outside : (d : ℕ) → (from ≤ d → d < from + n → ⊥) → get_or new d ownership.Nothing ≡ get_or old d ownership.Nothing

-- what a seat owns of a superblock of a heap at rest
abbrev pub ownership_for : SuperblockUsage → Ownership
ownership_for usage.Nothing = ownership.Nothing
ownership_for usage.Raw = ownership.Unclassed
ownership_for usage.Split = ownership.Unclassed
ownership_for usage.Cutting = ownership.Unclassed
ownership_for (usage.Classed class) = ownership.Classed class
ownership_for (usage.Large count) = ownership.Large count

-- the parts of a seat as a heap at rest is opened, whatever the budget
abbrev pub opened_parts : Contents → OwnerLists → ℕ → OwnedParts
opened_parts heap owners seat = parts_of (opened_view (setup_of heap.words 0 0) heap.held owners.held owners.roots seat)
