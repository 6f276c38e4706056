-- Worked examples: the first bad places of damaged shards.
use Rattle.std.specs.Prelude.{◌≡◌, ℕ, ◌+◌, ◌*◌, ◌<◌, ◌≤◌, List, [], ◌∷◌, None, Some, refl}
use Rattle.std.proofs.Common.{arith, ap, subst, sym}
use Rattle.heap_model.specs.declared.block.Block.{Block}
use Rattle.heap_model.specs.Image.{Image}
use Rattle.heap_model.specs.Sizes.{class_sizes, words_of_class, blocks_of}
use Rattle.heap_model.specs.Blocks.{of_class}
use Rattle.heap_model.specs.Pointers.{Leads}
use Rattle.heap_model.specs.Examples.{formatted}
use Rattle.heap_model.proofs.ReachLemmas.{one_block, not_null}
use Rattle.dict_model.specs.Nodes.{key_in, IsNode, find}
use Rattle.dict_model.specs.Shards.{IsBucketChain, IsBadAt, at_root, at_link, but}
use Rattle.dict_model.specs.Examples.{to_table, to_node, shard_with, table, node, node_leads, only_node, apart, table_there}

-- a shard with the node and these words is bad at word 1080 where the node is none of bucket 0
bad_first : (words : List (ℕ × ℕ)) → (IsNode (shard_with to_table to_node words) 0 0 node → ⊥)
    → IsBadAt (Leads (shard_with to_table to_node words)) (shard_with to_table to_node words) 0 1080
unfolding shard_with
bad_first words none = at_link table (λ _. []) 0 1080 [] (table_there to_node words) (omega arith) (λ k less. absurd (omega arith)) tt refl
    (record {
      not_null = λ null. omega arith;
      nowhere = λ b leads next.
          let same = only_node to_table to_node words b leads.0 in
          none (subst (λ (x : Block). IsNode (shard_with to_table to_node words) 0 0 x) same next.node);
    })

-- its key is one of another bucket
bad_key : IsBadAt (Leads (shard_with to_table to_node ((9273, 8) ∷ []))) (shard_with to_table to_node ((9273, 8) ∷ [])) 0 1080
unfolding shard_with
bad_key = bad_first ((9273, 8) ∷ []) (λ is. let one : ◌≡◌ {A = ℕ} 1 0 = is.in_bucket in omega arith)

-- nine bytes don't fit a node of four words
bad_length : IsBadAt (Leads (shard_with to_table to_node ((9274, 9) ∷ []))) (shard_with to_table to_node ((9274, 9) ∷ [])) 0 1080
unfolding shard_with
bad_length = bad_first ((9274, 9) ∷ []) (λ is. let fits : 5 ≤ 4 = is.fits in omega arith)

-- a node that leads to itself
bad_next : IsBadAt (Leads (shard_with to_table to_node ((9272, to_node) ∷ []))) (shard_with to_table to_node ((9272, to_node) ∷ [])) 0 9272
unfolding shard_with
bad_next = at_link table (λ _. []) 0 9272 (node ∷ []) (table_there to_node ((9272, to_node) ∷ []))
    (omega arith) (λ k less. absurd (omega arith)) (
      (node_leads to_table to_node ((9272, to_node) ∷ []), apart),
      record { in_shard = refl; in_bucket = refl; short = omega arith; fits = omega arith },
      refl,
      tt,
    ) refl
    (record {
      not_null = λ null. omega arith;
      nowhere = λ b leads next.
          let same = only_node to_table to_node ((9272, to_node) ∷ []) b leads.0 in
          let found : Some [] ≡ None = subst (λ (x : Block). find (shard_with to_table to_node ((9272, to_node) ∷ []))
          (key_in (shard_with to_table to_node ((9272, to_node) ∷ [])) x)
          (node ∷ []) ≡ None) same next.new in
          absurd (cc);
    })

-- a node in two buckets: bucket 0 has it, and it is none of bucket 1
bad_second : IsBadAt (Leads (shard_with to_table to_node ((1081, to_node) ∷ [])))
    (shard_with to_table to_node ((1081, to_node) ∷ [])) 0 1081
unfolding shard_with
bad_second = at_link table (λ _. node ∷ []) 1 1081 [] (table_there to_node ((1081, to_node) ∷ [])) (omega arith)
    (λ k less. let first : k ≡ 0 = omega arith in
    subst (λ j. IsBucketChain (but table (Leads (shard_with to_table to_node ((1081, to_node) ∷ []))))
    (shard_with to_table to_node ((1081, to_node) ∷ [])) 0 j (1080 + j) (node ∷ []))
    (sym first) (record {
      path = (
        (node_leads to_table to_node ((1081, to_node) ∷ []), apart),
        record { in_shard = refl; in_bucket = refl; short = omega arith; fits = omega arith },
        refl,
        tt,
      );
      ends = refl;
    }))
    tt refl
    (record {
      not_null = λ null. omega arith;
      nowhere = λ b leads next.
          let same = only_node to_table to_node ((1081, to_node) ∷ []) b leads.0 in
          let one : ◌≡◌ {A = ℕ} 0 1 = (subst (λ (x : Block). IsNode (shard_with to_table to_node ((1081, to_node) ∷ [])) 0 1 x)
          same next.node).in_bucket in omega arith;
    })

-- a root that leads to a node and not to a table
bad_root : IsBadAt (Leads (shard_with to_node 0 [])) (shard_with to_node 0 []) 0 40
unfolding shard_with
bad_root = at_root (record {
  not_null = λ null. omega arith;
  nowhere = λ b leads size.
      let same = only_node to_node 0 [] b leads in
      let words : ◌≡◌ {A = ℕ} 4 128 = subst (λ (x : Block). x.words ≡ 128) same size in omega arith;
})

-- One superblock of tables: a table whose bucket 0 leads to a block that leads to itself.
unfoldable pub looped : Image
looped = formatted 1 ((8, 1) ∷ (1064, 12) ∷ (40, 0x5250000000002180) ∷ (1072, 0x5250000000002980) ∷ (1328, 0x5250000000002980) ∷ [])

-- block `index` of its superblock
abbrev block_at : ℕ → Block
block_at index = record { first_word = 1072 + index * 128; words = 128 }

-- a pointer to block `index`
looped_leads : (index word : ℕ) → index < 64 → word ≡ 0x5250000000002180 + 1024 * index → Leads looped word (block_at index)
unfolding looped words_of_class blocks_of class_sizes
looped_leads index word below is = record {
  pointer = record { tagged = omega arith; short = omega arith };
  names = record {
    begins_at = refl;
    block = record {
      superblock = 0;
      index = index;
      words = 128;
      count = 64;
      is_of = record {
        taken = omega arith;
        begins = of_class 12 refl (record { some = omega arith; last = omega arith });
        below = omega arith;
        at = refl;
        size = refl;
      };
    };
  };
}

bad_loop : IsBadAt (Leads looped) looped 0 1328
unfolding looped
bad_loop = at_link (block_at 0) (λ _. []) 0 1328 (block_at 2 ∷ [])
    (record { leads_there = looped_leads 0 0x5250000000002180 (omega arith) refl; size = refl })
    (omega arith) (λ k less. absurd (omega arith)) (
      (
        looped_leads 2 0x5250000000002980 (omega arith) refl,
        λ same. let firsts : ◌≡◌ {A = ℕ} 1328 1072 = ap (λ (b : Block). b.first_word) same in omega arith,
      ),
      record { in_shard = refl; in_bucket = refl; short = omega arith; fits = omega arith },
      refl,
      tt,
    ) refl
    (record {
      not_null = λ null. omega arith;
      nowhere = λ b leads next.
          let same = one_block looped 0x5250000000002980 b (block_at 2) leads.0 (looped_leads 2 0x5250000000002980 (omega arith) refl) in
          let found : Some [] ≡ None = subst (λ (x : Block). find looped (key_in looped x) (block_at 2 ∷ []) ≡ None) same next.new in
          absurd (cc);
    })
