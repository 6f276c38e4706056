-- Worked examples by computation: how a block is held, by a seat and by a carrier alone, in a heap of two superblocks.
use Rattle.std.specs.Prelude.{[], ◌∷◌, set, length, refl}
use Rattle.std.proofs.Common.{ap, arith}
use Rattle.heap_model.specs.declared.block.Block.{Block}
use Rattle.heap_model.specs.Sizes.{class_sizes, words_of_class}
use Rattle.core_model.specs.View.{View}
use Rattle.seat_index.specs.declared.owned.Holding.TheVariants as holding
use Rattle.heap_rule.specs.Examples.{seat}
use Rattle.seat_index.specs.Holdings.{Holds, HoldsAlone}

-- the first block of superblock 0, of class 1, and the large block of superblock 1
abbrev pub small_block : Block
small_block = record { first_word = 1080; words = 2 }

-- a large block of one superblock
abbrev pub large_block : Block
large_block = record { first_word = 9272; words = 8192 }

-- a seat that holds the small block
abbrev pub with_small : View
with_small = record seat { small = set seat.small 1 (1080 ∷ []) }

-- a seat that holds the large one
abbrev pub with_large : View
with_large = record seat { large = record { first = 1; count = 1 } ∷ [] }

pub holds_small : Holds with_small small_block (holding.Small 1)
unfolding words_of_class class_sizes
holds_small = record { is = record { is_class = record { some = omega arith; last = omega arith }; words = refl }; held = omega arith }

pub holds_large : Holds with_large large_block (holding.Large 1 1)
holds_large = record { is = record { some = omega arith; first = refl; words = refl }; held = refl }

-- not by a superblock where it does not begin
pub not_from_before : Holds with_large large_block (holding.Large 0 1) → ⊥
not_from_before h = let f = h.is.first in omega arith

-- it is all that this view holds, and so may be a carrier's
pub alone : HoldsAlone with_large large_block (holding.Large 1 1)
alone = record { is = record { some = omega arith; first = refl; words = refl }; once = refl; none_small = λ x. omega arith }

-- not beside another
pub not_beside : HoldsAlone (record seat { large = record { first = 0; count = 1 } ∷ record { first = 1; count = 1 } ∷ [] }) large_block
    (holding.Large 1 1) → ⊥
not_beside h = let two = ap length h.once in omega arith
