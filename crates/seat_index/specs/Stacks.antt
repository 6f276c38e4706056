-- The stacks of a seat's caches, and how they fit the caches.
use Rattle.std.specs.Prelude.{◌≡◌, ◌<◌, ◌≤◌, ℕ, List, ◌++◌, drop, get_or, set, length}
use Rattle.heap_model.specs.Geometry.{lists}
use Rattle.heap_model.specs.Sizes.{IsClass, blocks_of}
use Rattle.core_model.specs.View.{of_class}
use Rattle.seat_index.specs.declared.stacks.Stack.{Stack}

-- the blocks from the top on are the first ones of the cache
pub record IsTopOf (stack : Stack) (cache : List ℕ) : Type 0 where
  pub inside : stack.top ≤ length stack.blocks.items
  pub deeper : List ℕ
  pub is : drop stack.top stack.blocks.items ++ deeper ≡ cache

-- a stack for each class, with room for a superblock's blocks
pub record AreStacks (stacks : List Stack) (caches : List (List ℕ)) : Type 0 where
  pub long : length stacks ≡ lists
  pub room : (class : ℕ) (stack : Stack) → get_or stacks class stack ≡ stack → IsClass class → length stack.blocks.items ≡ blocks_of class
  pub each : (class : ℕ) (stack : Stack) → get_or stacks class stack ≡ stack → class < lists → IsTopOf stack (of_class caches class)

-- the class has a stack, with room
pub record HasStack (stacks : List Stack) (class : ℕ) : Type 0 where
  pub below : class < length stacks
  pub inside : (stack : Stack) → get_or stacks class stack ≡ stack → stack.top ≤ length stack.blocks.items
  pub room : (stack : Stack) → get_or stacks class stack ≡ stack → length stack.blocks.items ≡ blocks_of class
  pub some : 1 ≤ blocks_of class

-- the stack of one class is another, which fits the cache that a change makes of the old one
pub record IsRestacked (old new : List Stack) (class : ℕ) (change : List ℕ → List ℕ) : Type 0 where
  pub stack : Stack
  pub is : new ≡ set old class stack
  pub room : (before : Stack) → get_or old class before ≡ before → length stack.blocks.items ≡ length before.blocks.items
  pub top : (before : Stack) (cache : List ℕ) → get_or old class before ≡ before → IsTopOf before cache → IsTopOf stack (change cache)
