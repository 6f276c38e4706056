-- Worked examples of blocks: which offsets name them, and what a class drains.
use Rattle.std.specs.Prelude.{◌≡◌, ℕ, ◌+◌, ◌*◌, ◌<◌, [], ◌∷◌, refl}
use Rattle.std.proofs.Common.{arith, subst, sym}
use Rattle.heap_model.specs.declared.block.Block.{Block}
use Rattle.heap_model.specs.Image.{Image}
use Rattle.heap_model.specs.Sizes.{class_sizes, words_of_class, blocks_of}
use Rattle.heap_model.specs.Blocks.{Begins, of_class, as_large, IsBlock, layout_of}
use Rattle.heap_model.specs.Pointers.{IsPointerTo, Leads}
use Rattle.heap_model.specs.Recovered.{IsDrained, fresh}
use Rattle.heap_model.specs.Examples.{formatted}

-- One superblock of class 12 (128 words a block), and root 0 a pointer to its block 0, at byte 8576.
unfoldable pub one_table : Image
one_table = formatted 1 ((8, 1) ∷ (1064, 12) ∷ (40, 0x5250000000002180) ∷ [])

-- block `index` of that superblock
abbrev pub table_block : ℕ → Block
table_block index = record { first_word = 1072 + index * 128; words = 128 }

class_twelve : Begins (layout_of one_table) 0 128 64
unfolding one_table words_of_class blocks_of class_sizes
class_twelve = of_class 12 refl (record { some = omega arith; last = omega arith })

pub first_block : IsBlock (layout_of one_table) (table_block 0)
unfolding one_table words_of_class blocks_of class_sizes
first_block = record {
  superblock = 0;
  index = 0;
  words = 128;
  count = 64;
  is_of = record { taken = omega arith; begins = class_twelve; below = omega arith; at = refl; size = refl };
}

-- the root leads to it
pub root_leads : Leads one_table (one_table 40) (table_block 0)
unfolding one_table words_of_class blocks_of class_sizes
root_leads = record { pointer = record { tagged = refl; short = omega arith }; names = record { begins_at = refl; block = first_block } }

-- a word with another tag is no pointer, to whatever offset
other_tag : (offset : ℕ) → IsPointerTo 0x5251000000002180 offset → ⊥
other_tag offset to = omega arith

-- Two superblocks that are one large block, to which root 8 points; the second info decides.
unfoldable pub large_with : ℕ → Image
large_with second = formatted 2 ((8, 2) ∷ (1064, 767) ∷ (1072, second) ∷ (48, 0x52500000000021c0) ∷ [])

no_more_inside : (i : ℕ) → 0 < i → i < 0 + 2 → (layout_of (large_with 0)).info i ≡ 0
unfolding large_with
no_more_inside i low high = let one : i ≡ 1 = omega arith in subst (λ x. (layout_of (large_with 0)).info x ≡ 0) (sym one) refl

large_block : IsBlock (layout_of (large_with 0)) (record { first_word = 1080; words = 16384 })
unfolding large_with
large_block = record {
  superblock = 0;
  index = 0;
  words = 16384;
  count = 1;
  is_of = record {
    taken = omega arith;
    begins = as_large 2 (omega arith) refl (omega arith) no_more_inside;
    below = omega arith;
    at = refl;
    size = refl;
  };
}

-- with another info in its second superblock it is none
not_large : (w n : ℕ) → Begins (layout_of (large_with 4)) 0 w n → ⊥
unfolding large_with
not_large w n (of_class c e is) = let c_is : 767 ≡ c = e in let last = is.last in omega arith
not_large w n (as_large k some e end zeros) =
    let two : 767 ≡ 255 + 256 * k = e in
    let two_superblocks : k ≡ 2 = omega arith in
    let none : ◌≡◌ {A = ℕ} 4 0 = zeros 1 (omega arith) (omega arith) in omega arith

-- One superblock of class 4 taken of two: draining class 4 gives the blocks that the second would be cut into.
unfoldable pub one_small : Image
one_small = formatted 2 ((8, 1) ∷ (1064, 4) ∷ (48, 0x52500000000021c0) ∷ [])

last_fresh : (kept : Block → Type 0) → IsDrained (layout_of one_small) kept 4 (record { first_word = 17456; words = 8 })
unfolding one_small words_of_class blocks_of class_sizes
last_fresh kept = fresh (record { first_word = 17456; words = 8 }) 1 1023 (record { some = omega arith; last = omega arith })
    (omega arith) (omega arith) (record { below = omega arith; at = refl; size = refl })
