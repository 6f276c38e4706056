-- What a word of the heap points to, and worked examples.
use Rattle.std.specs.Prelude.{◌≡◌, ◌≢◌, ℕ, refl}
use Rattle.std.proofs.Common.{lit<}
use Rattle.heap_model.specs.Pointers.{IsPointerTo}
use Rattle.offset_ptr.specs.declared.pointer.Ptr.{Ptr}
use Rattle.offset_ptr.specs.declared.pointer.Ptr.TheVariants.{Null, At, Alien}

-- the word isn't null, and points to no byte offset
pub record IsAlien (word : ℕ) : Type 0 where
  pub not_null : word ≢ 0
  pub nowhere : (offset : ℕ) → ¬ IsPointerTo word offset

-- the word is null, a pointer to the offset, or alien
abbrev pub Means : ℕ → Ptr → Type 0
Means word Null = word ≡ 0
Means word (At offset) = IsPointerTo word offset
Means word Alien = IsAlien word

-- the pointer to the first superblock in an image of one superblock
pub one_superblock : Means 0x5250000000002180 (At 8576)
one_superblock = record { tagged = refl; short = lit< tt }

-- and in an image of four
pub four_superblocks : Means 0x5250000000002240 (At 8768)
four_superblocks = record { tagged = refl; short = lit< tt }
