-- Which blocks a layout has: each block of a class in a superblock of the class, and the blocks of a layout with the same infos.
use Rattle.std.proofs.Common.{◌≡◌, ℕ, ◌+◌, ◌*◌, ◌<◌, ◌≤◌, ◌∙◌, arith}
use Rattle.heap_model.specs.declared.block.Block.{Block}
use Rattle.heap_model.specs.Geometry.{start_word}
use Rattle.heap_model.specs.Sizes.{IsClass, words_of_class, blocks_of}
use Rattle.heap_model.specs.Blocks.{Layout, Begins, of_class, as_large, IsBlock}
use Rattle.heap_model.specs.Recovered.{HasPartIn, IsBlockOfClass}
use Rattle.heap_model.proofs.BlockLemmas.{block_begins, block_words}

-- a block of a class is a block
pub class_block : (l : Layout) (class d index : ℕ) (b : Block) → d < l.used → l.info d ≡ class → IsClass class
    → IsBlockOfClass l.capacity class d index b → IsBlock l b
class_block l class d index b taken info is of = record {
  superblock = d;
  index = index;
  words = words_of_class class;
  count = blocks_of class;
  is_of = record { taken = taken; begins = of_class class info is; below = of.below; at = of.at; size = of.size };
}

-- a block that has its infos in another layout too is a block there, also where more superblocks are taken
pub block_more : (l m : Layout) (b : Block) → m.capacity ≡ l.capacity → l.used ≤ m.used
    → ((d : ℕ) → HasPartIn l.capacity b d → m.info d ≡ l.info d) → IsBlock l b → IsBlock m b
block_more l m b capacity more infos is = record {
  superblock = is.superblock;
  index = is.index;
  words = is.words;
  count = is.count;
  is_of = record {
    taken = omega (arith, is.is_of.taken);
    begins = begun is.words is.count is.is_of.begins is.is_of.below is.is_of.at is.is_of.size;
    below = is.is_of.below;
    at = omega (arith, is.is_of.at);
    size = is.is_of.size;
  };
} where
  here : HasPartIn l.capacity b is.superblock
  here = let in_d = block_begins l b is.superblock is.index is.words is.count is.is_of in let some = block_words l b is in
      record { begins = in_d.1; ends = omega arith }

  begun : (w n : ℕ) → Begins l is.superblock w n → is.index < n → b.first_word ≡ start_word l.capacity is.superblock + is.index * w
      → b.words ≡ w → Begins m is.superblock w n
  begun w n (of_class c info is_class) index at size = of_class c (infos is.superblock here ∙ info) is_class
  begun w n (as_large k some info end zeros) index at size =
      let in_d = block_begins l b is.superblock is.index is.words is.count is.is_of in
      as_large k some (infos is.superblock here ∙ info) (omega arith) (λ i low high.
      infos i (record { begins = omega arith; ends = omega arith }) ∙ zeros i low high)

-- the same where as many are taken
pub same_there : (l m : Layout) (b : Block) → m.capacity ≡ l.capacity → m.used ≡ l.used
    → ((d : ℕ) → HasPartIn l.capacity b d → m.info d ≡ l.info d) → IsBlock l b → IsBlock m b
same_there l m b capacity used infos is = block_more l m b capacity (omega arith) infos is
