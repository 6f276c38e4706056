-- What an info word says.
use Rattle.std.specs.Prelude.{◌≡◌, ℕ, ◌≤◌}
use Rattle.heap_model.specs.Sizes.{IsClass}
use Rattle.heap_model.specs.Words.{large_info}
use Rattle.super_block.specs.declared.info.Info.{Info}
use Rattle.super_block.specs.declared.info.Info.TheVariants.{Nothing, Class, Large}

-- a class, the superblocks of a large block, or nothing that has a meaning
abbrev pub Says : ℕ → Info → Type 0
Says word Nothing = (IsClass word → ⊥) × ((count : ℕ) → 1 ≤ count → word ≡ large_info count → ⊥)
Says word (Class class) = (word ≡ class.number) × IsClass class.number
Says word (Large count) = (1 ≤ count) × (word ≡ large_info count)

-- the word that says so; of nothing, the one that a superblock has that was never taken
abbrev pub word_of : Info → ℕ
word_of Nothing = 0
word_of (Class class) = class.number
word_of (Large count) = large_info count
