-- Worked examples of what roots and links reach.
use Rattle.std.specs.Prelude.{ℕ, [], ◌∷◌, refl, cond, nat_eq}
use Rattle.std.proofs.Common.{arith}
use Rattle.heap_model.specs.declared.block.Block.{Block}
use Rattle.heap_model.specs.Image.{Image}
use Rattle.heap_model.specs.Sizes.{class_sizes, words_of_class, blocks_of}
use Rattle.heap_model.specs.Blocks.{of_class}
use Rattle.heap_model.specs.Pointers.{Leads}
use Rattle.heap_model.specs.Reach.{Links, Reach, ReachIn, by_start, by_link}
use Rattle.heap_model.specs.Examples.{image_with, formatted}
use Rattle.heap_model.specs.BlockExamples.{one_table, table_block, root_leads}

-- what root 0 leads to is reached, as what root 0 has for its kind
reached : (links : Links) → Reach one_table (λ _. 1) links (table_block 0) 1
unfolding one_table
reached links = by_start (table_block 0) 1 (record { root = 0; below = omega arith; is_chosen = tt; kind_is = refl; leads = root_leads })

-- a table to which root 0 leads is reached as what the image stores for that root
unfoldable pub table_as_node : Image
table_as_node = formatted 1 ((8, 1) ∷ (1064, 12) ∷ (40, 0x5250000000002180) ∷ (9264, 2) ∷ [])

leads_as_node : Leads table_as_node (table_as_node 40) (table_block 0)
unfolding table_as_node words_of_class blocks_of class_sizes
leads_as_node = record {
  pointer = record { tagged = refl; short = omega arith };
  names = record {
    begins_at = refl;
    block = record {
      superblock = 0;
      index = 0;
      words = 128;
      count = 64;
      is_of = record {
        taken = omega arith;
        begins = of_class 12 refl (record { some = omega arith; last = omega arith });
        below = omega arith;
        at = refl;
        size = refl;
      };
    };
  };
}

reached_as_stored : (links : Links) → ReachIn table_as_node links (table_block 0) 2
unfolding table_as_node
reached_as_stored links =
    by_start (table_block 0) 2 (record { root = 0; below = omega arith; is_chosen = tt; kind_is = refl; leads = leads_as_node })

-- The base image of the damage tests: a table, and in its bucket 0 a node.
unfoldable pub table_and_node : Image
table_and_node = formatted 2 ((8, 2) ∷ (1064, 12) ∷ (1072, 2) ∷ (40, 0x52500000000021c0) ∷ (1080, 0x52500000000121c0) ∷ [])

-- a table links its first word to a node; no other block has links
abbrev pub table_links : Links
table_links kind words = cond (nat_eq kind 1) ((0, 2) ∷ []) []

-- the table: block 0 of superblock 0
abbrev pub table : Block
table = record { first_word = 1080; words = 128 }

-- the node: block 0 of superblock 1
abbrev pub node : Block
node = record { first_word = 9272; words = 4 }

table_leads : Leads table_and_node (table_and_node 40) table
unfolding table_and_node words_of_class blocks_of class_sizes
table_leads = record {
  pointer = record { tagged = refl; short = omega arith };
  names = record {
    begins_at = refl;
    block = record {
      superblock = 0;
      index = 0;
      words = 128;
      count = 64;
      is_of = record {
        taken = omega arith;
        begins = of_class 12 refl (record { some = omega arith; last = omega arith });
        below = omega arith;
        at = refl;
        size = refl;
      };
    };
  };
}

node_leads : Leads table_and_node (table_and_node 1080) node
unfolding table_and_node words_of_class blocks_of class_sizes
node_leads = record {
  pointer = record { tagged = refl; short = omega arith };
  names = record {
    begins_at = refl;
    block = record {
      superblock = 1;
      index = 0;
      words = 4;
      count = 2048;
      is_of = record {
        taken = omega arith;
        begins = of_class 2 refl (record { some = omega arith; last = omega arith });
        below = omega arith;
        at = refl;
        size = refl;
      };
    };
  };
}

node_reached : Reach table_and_node (λ _. 1) table_links node 2
node_reached =
    by_link table node 1 2 (by_start table 1
    (record { root = 0; below = omega arith; is_chosen = tt; kind_is = refl; leads = table_leads }))
    (record { position = 0; listed = (0, omega arith, refl); leads = node_leads })

-- where each word is null, nothing is reached, whatever the filter lists
null_roots : (kinds : ℕ → ℕ) (links : Links) (b : Block) (kind : ℕ) → Reach (image_with []) kinds links b kind → ⊥
null_roots kinds links _ _ (by_start b kind start) = let tagged = start.leads.pointer.tagged in omega arith
null_roots kinds links _ _ (by_link a b from kind before link) = null_roots kinds links a from before
